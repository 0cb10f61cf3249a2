use Rattle.std.proofs.Common.{◌≡◌, drop}
use Rattle.its_governor.specs.Sources.{latest}
use Rattle.its_governor.proofs.sources.latest.Given as goal

abbrev pub invariant-loop-draw : goal.invariant-loop-draw
invariant-loop-draw l = latest l.rate l.source (drop l.draw-index l.draws) ≡ latest l.rate l.source l.draws
