use Rattle.std.proofs.Common.{◌≡◌, take}
use Rattle.std.specs.Io.KnownBytes.{Appends}
use Rattle.cap_pcap.specs.Writing.{joined}
use Rattle.cap_pcap.proofs.output.store_all.Given as goal

abbrev pub invariant-loop-part : goal.invariant-loop-part
invariant-loop-part g l =
    (g.S.Sink.failed l.sink ≡ g.S.Sink.failed l.initial.sink)
    × Appends (g.S.Write.contents l.initial.sink) (g.S.Write.contents l.sink)
    (joined (take l.part-index l.parts))
