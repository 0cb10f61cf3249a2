use Rattle.std.proofs.Common.{◌≡◌, ℕ}
use Rattle.cap_pcap.specs.Interfaces.{AreOptions}
use Rattle.cap_pcap.specs.Layouts.{Reads}
use Rattle.cap_pcap.proofs.options.read_options.Given as goal

abbrev pub invariant-loop-left : goal.invariant-loop-left
invariant-loop-left g l =
    (g.S.Source.failed l.source ≡ g.S.Source.failed l.initial.source)
    × (count : ℕ) × Reads (AreOptions l.fn.order l.fn.room l.fn.interface count l.left l.known)
    (g.S.Read.remaining l.initial.source) (g.S.Read.remaining l.source)

abbrev pub decreases-loop-left : goal.decreases-loop-left
decreases-loop-left g l = l.left
