use Rattle.std.proofs.Common.{◌≡◌, None, Some, inl, inr, subst}
use Rattle.std.specs.Prelude.{◌⊎◌}
use Rattle.cap_pcap.specs.Pcapng.{PcapngReading, IsAnswer, ReadsInterfaceAt}
use Rattle.cap_pcap.specs.declared.octets.Endianness.{Endianness}
use Rattle.cap_pcap.specs.declared.pcapng.Stage.TheVariants as stages
use Rattle.cap_pcap.proofs.Steps.{taken, at_stage, taken_memory, interface_at}
use Rattle.cap_pcap.proofs.pcapng.PcapngReader.next_into.Goals.{in-Start, in-Blocks}
use Rattle.cap_pcap.proofs.pcapng.PcapngReader.next_into.Goals as goal

pub returns-in-Ok-Some-clause-answer : goal.returns-in-Ok-Some-clause-answer
returns-in-Ok-Some-clause-answer g c =
    let frame = c.read_next.new.frame.items in
    let stage = c.self.inside.stage in
    let was : PcapngReading =
    record {
      stage = stage;
      interfaces = c.self.inside.interfaces.items;
      next = c.self.inside.next;
      keep = c.self.inside.keep;
      rest = g.R.Read.remaining c.self.inside.source;
      failures = g.R.Source.failed c.self.inside.source;
    } in
    let now : PcapngReading =
    record {
      stage = c.take.new.stage;
      interfaces = c.take.new.interfaces.items;
      next = c.take.new.next;
      keep = c.self.inside.keep;
      rest = g.R.Read.remaining c.read_next.new.source;
      failures = g.R.Source.failed c.read_next.new.source;
    } in
    let at : ((stage ≡ stages.Start) × (c.match-self.order ≡ None))
    ⊎ ((order : Endianness) × (stage ≡ stages.Blocks order) × (c.match-self.order ≡ Some order)) =
    elim c.match-self.branch [
      | in-Start w ↦ inl (w.in-Start.is, w.order-is)
      | in-Blocks w ↦ inr (w.in-Blocks.order, w.in-Blocks.is, w.order-is)
    ] in
    let read =
    rw (c.in-Ok-Some.field-0-is, c.as_slice.ensures.value) at c.in-Ok-Some.ensures.answer in
    subst (λ (x : PcapngReading). IsAnswer x now frame c.take.result) c.self.view_is
    (at_stage stage c.match-self.order was now frame c.take.result at
    (taken c.match-self.order was now frame c.in-Ok-Some.block c.take.result
    read c.take.ensures))

pub returns-in-Ok-Some-clause-memory : goal.returns-in-Ok-Some-clause-memory
returns-in-Ok-Some-clause-memory g c = λ enough is.
    let frame = c.read_next.new.frame.items in
    let stage = c.self.inside.stage in
    let was : PcapngReading =
    record {
      stage = stage;
      interfaces = c.self.inside.interfaces.items;
      next = c.self.inside.next;
      keep = c.self.inside.keep;
      rest = g.R.Read.remaining c.self.inside.source;
      failures = g.R.Source.failed c.self.inside.source;
    } in
    let now : PcapngReading =
    record {
      stage = c.take.new.stage;
      interfaces = c.take.new.interfaces.items;
      next = c.take.new.next;
      keep = c.self.inside.keep;
      rest = g.R.Read.remaining c.read_next.new.source;
      failures = g.R.Source.failed c.read_next.new.source;
    } in
    let at : ((stage ≡ stages.Start) × (c.match-self.order ≡ None))
    ⊎ ((order : Endianness) × (stage ≡ stages.Blocks order) × (c.match-self.order ≡ Some order)) =
    elim c.match-self.branch [
      | in-Start w ↦ inl (w.in-Start.is, w.order-is)
      | in-Blocks w ↦ inr (w.in-Blocks.order, w.in-Blocks.is, w.order-is)
    ] in
    let read =
    rw (c.in-Ok-Some.field-0-is, c.as_slice.ensures.value) at c.in-Ok-Some.ensures.answer in
    subst (λ (x : PcapngReading). ReadsInterfaceAt x.stage x now) c.self.view_is
    (interface_at stage c.match-self.order was now at
    (taken_memory c.match-self.order was now frame c.in-Ok-Some.block c.take.result
    read c.take.ensures is))
