use Rattle.its_unit.specs.Releases.{releases_by}
use Rattle.its_lines.proofs.Made.{released}
use Rattle.its_lines.proofs.serving.respond.Goals as goal

pub returns-in-Release-clause-represents : goal.returns-in-Release-clause-represents
returns-in-Release-clause-represents c =
    released c.release_by-said.result c.args.unit.now c.release_by-said.new.self
    (λ u. releases_by c.args.limiting u c.in-Release.at) c.release_by-said.ensures.step
    c.release_by-said.ensures.unchanged
