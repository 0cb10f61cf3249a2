use Rattle.std.proofs.Common.{◌-◌, ◌≡◌, ◌≤◌}
use Rattle.cap_pcap.specs.Reading.{Passes}
use Rattle.cap_pcap.proofs.transfer.skip_pieces.Given as goal

abbrev pub invariant-loop-left : goal.invariant-loop-left
invariant-loop-left g l =
    (l.left ≤ l.fn.count) × (g.S.Source.failed l.source ≡ g.S.Source.failed l.initial.source)
    × Passes (l.fn.count - l.left) (g.S.Read.remaining l.initial.source)
    (g.S.Read.remaining l.source)

abbrev pub decreases-loop-left : goal.decreases-loop-left
decreases-loop-left g l = l.left
