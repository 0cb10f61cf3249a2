-- What becomes of a block that was read.
use Rattle.std.proofs.Common.{◌≡◌, List, ℕ, Option, None, Some, Result, Ok, Err, refl, sym, subst}
use Rattle.std.proofs.Common.{inl, inr, ap, ◌∙◌, true≢false}
use Rattle.std.specs.Prelude.{is_ok}
use Rattle.std.specs.Prelude.{◌⊎◌}
use Rattle.cap_pcap.specs.Layouts.{Reads}
use Rattle.its_linkframe.specs.declared.record.CaptureFault.TheVariants as captures
use Rattle.cap_pcap.specs.Pcapng.{PcapngReading, IsTaken, IsNext, IsAnswerAt, next_block}
use Rattle.cap_pcap.specs.Pcapng.{ReadsInterface, ReadsInterfaceAt}
use Rattle.cap_pcap.specs.declared.blocks.Block.{Block}
use Rattle.cap_pcap.specs.declared.blocks.Block.TheVariants as blocks
use Rattle.cap_pcap.specs.declared.fault.SourceFault.{SourceFault}
use Rattle.cap_pcap.specs.declared.fault.SourceFault.TheVariants as faults
use Rattle.cap_pcap.specs.declared.octets.Endianness.{Endianness}
use Rattle.cap_pcap.specs.declared.pcapng.Stage.{Stage}
use Rattle.cap_pcap.specs.declared.pcapng.Stage.TheVariants as stages
use Rattle.cap_pcap.specs.declared.record.Step.{Step}

-- a block was read and taken
pub taken : (o : Option Endianness) (was now : PcapngReading) (frame : List ℕ) (b : Block)
    (answer : Result Step SourceFault)
    → Reads ((next_block o was.next was.interfaces was.keep frame).Is b) was.rest now.rest
    → IsTaken b was.stage now.stage was.next now.next was.interfaces now.interfaces answer
    → IsNext o was now frame answer
taken o was now frame (blocks.Section s) answer reads t =
    subst (IsNext o was now frame) (sym t.0)
    (record { block = blocks.Section s; reads = reads; taken = (refl, t.1, t.2, t.3) })
taken o was now frame (blocks.Interface i) (Ok step) reads t =
    subst (λ (s : Step). IsNext o was now frame (Ok s)) (sym t.0)
    (record { block = blocks.Interface i; reads = reads; taken = (refl, t.1, t.2, t.3) })
taken o was now frame (blocks.Interface i) (Err f) reads t = (t.1, inr (t.0, i, reads))
taken o was now frame (blocks.Record h) answer reads t =
    subst (IsNext o was now frame) (sym t.0)
    (record { block = blocks.Record h; reads = reads; taken = (refl, t.1, t.2, t.3) })
taken o was now frame blocks.Other answer reads t =
    subst (IsNext o was now frame) (sym t.0)
    (record { block = blocks.Other; reads = reads; taken = (refl, t.1, t.2, t.3) })

-- what is next is the answer where blocks are read
pub at_stage : (stage : Stage) (o : Option Endianness) (was now : PcapngReading) (frame : List ℕ)
    (answer : Result Step SourceFault)
    → ((stage ≡ stages.Start) × (o ≡ None))
    ⊎ ((order : Endianness) × (stage ≡ stages.Blocks order) × (o ≡ Some order))
    → IsNext o was now frame answer → IsAnswerAt stage was now frame answer
at_stage stage o was now frame answer (inl p) next =
    subst (λ (s : Stage). IsAnswerAt s was now frame answer) (sym p.0)
    (subst (λ (x : Option Endianness). IsNext x was now frame answer) p.1 next)
at_stage stage o was now frame answer (inr p) next =
    subst (λ (s : Stage). IsAnswerAt s was now frame answer) (sym p.1)
    (subst (λ (x : Option Endianness). IsNext x was now frame answer) p.2 next)

-- where memory was wanting for what was read, that is an interface
pub taken_memory : (o : Option Endianness) (was now : PcapngReading) (frame : List ℕ) (b : Block)
    (answer : Result Step SourceFault)
    → Reads ((next_block o was.next was.interfaces was.keep frame).Is b) was.rest now.rest
    → IsTaken b was.stage now.stage was.next now.next was.interfaces now.interfaces answer
    → answer ≡ Err (faults.Capture captures.NoMemory) → ReadsInterface o was now
taken_memory o was now frame (blocks.Section s) answer reads t e = absurd (true≢false (sym (ap is_ok t.0) ∙ ap is_ok e))
taken_memory o was now frame (blocks.Interface i) (Ok step) reads t e = absurd (true≢false (ap is_ok e))
taken_memory o was now frame (blocks.Interface i) (Err f) reads t e = (frame, i, reads)
taken_memory o was now frame (blocks.Record h) answer reads t e = absurd (true≢false (sym (ap is_ok t.0) ∙ ap is_ok e))
taken_memory o was now frame blocks.Other answer reads t e = absurd (true≢false (sym (ap is_ok t.0) ∙ ap is_ok e))

-- such an interface, by the stage
pub interface_at : (stage : Stage) (o : Option Endianness) (was now : PcapngReading)
    → ((stage ≡ stages.Start) × (o ≡ None))
    ⊎ ((order : Endianness) × (stage ≡ stages.Blocks order) × (o ≡ Some order))
    → ReadsInterface o was now → ReadsInterfaceAt stage was now
interface_at stage o was now (inl p) reads =
    subst (λ (s : Stage). ReadsInterfaceAt s was now) (sym p.0)
    (subst (λ (x : Option Endianness). ReadsInterface x was now) p.1 reads)
interface_at stage o was now (inr p) reads =
    subst (λ (s : Stage). ReadsInterfaceAt s was now) (sym p.1)
    (subst (λ (x : Option Endianness). ReadsInterface x was now) p.2 reads)
