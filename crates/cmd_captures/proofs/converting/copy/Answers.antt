use Rattle.std.proofs.Common.{◌≡◌, ◌∙◌, ℕ, List, Bool, ap, sym, subst, rules}
use Rattle.std.specs.Prelude.{◌||◌}
use Rattle.cap_pcap.specs.Sources.{Gives}
use Rattle.cmd_captures.specs.Conversions.{IsCopying, MeetsInterface, is_left_out, said_by}
use Rattle.cmd_captures.proofs.Copies.{copied_end, copied_told, copying_chosen, copying_interface}
use Rattle.cmd_captures.proofs.converting.copy.Goals as goal

pub loop-records-preserved-then-refused : goal.loop-records-preserved-then-refused
loop-records-preserved-then-refused g c =
    let i = c.loop-records.invariant in
    let comes = (rw c.in-Chosen.is at (rw i.selection at c.in_ok-head.ensures.next)) in
    let copied = c.in_ok-copied-in-Chosen.copied in
    let (added, writes) = c.in_ok-copied-in-Chosen.ensures in
    let k = copying_chosen Gives said_by c.args.selection.now c.args.source c.args.written.now
    c.loop-records.records.source c.loop-records.written c.loop-records.refused
    c.loop-records.records.counts c.next_chosen.new.self.source
    c.next_chosen.new.self.octets.items c.next_chosen.new.self.counts c.in-Chosen.head
    c.in-Chosen.field-1 added c.copy_record.new.written copied i.copying comes writes in
    let same : (c.loop-records.refused || is_left_out copied) ≡ c.loop-records.refused =
    ap (λ (b : Bool). b || is_left_out copied) c.if-refused.true ∙ sym c.if-refused.true in
    record {
      selection = c.in_ok-head.ensures.selection ∙ i.selection;
      copying = subst (λ (b : Bool). IsCopying Gives said_by c.args.selection.now.choice
          c.args.selection.now.signed c.args.source c.args.written.now
          c.next_chosen.new.self.source c.copy_record.new.written b
          c.next_chosen.new.self.counts) same k;
    }

pub loop-records-preserved-else-refused : goal.loop-records-preserved-else-refused
loop-records-preserved-else-refused g c =
    let i = c.loop-records.invariant in
    let comes = (rw c.in-Chosen.is at (rw i.selection at c.in_ok-head.ensures.next)) in
    let copied = c.in_ok-copied-in-Chosen.copied in
    let (added, writes) = c.in_ok-copied-in-Chosen.ensures in
    let k = copying_chosen Gives said_by c.args.selection.now c.args.source c.args.written.now
    c.loop-records.records.source c.loop-records.written c.loop-records.refused
    c.loop-records.records.counts c.next_chosen.new.self.source
    c.next_chosen.new.self.octets.items c.next_chosen.new.self.counts c.in-Chosen.head
    c.in-Chosen.field-1 added c.copy_record.new.written copied i.copying comes writes in
    let same : (c.loop-records.refused || is_left_out copied) ≡ c.is_left_out-is_left_out.result =
    ap (λ (b : Bool). b || is_left_out copied) c.if-refused.false
    ∙ sym c.is_left_out-is_left_out.ensures in
    record {
      selection = c.in_ok-head.ensures.selection ∙ i.selection;
      copying = subst (λ (b : Bool). IsCopying Gives said_by c.args.selection.now.choice
          c.args.selection.now.signed c.args.source c.args.written.now
          c.next_chosen.new.self.source c.copy_record.new.written b
          c.next_chosen.new.self.counts) same k;
    }

pub loop-records-preserved : goal.loop-records-preserved
loop-records-preserved g c =
    let i = c.loop-records.invariant in
    let comes = (rw c.in-Interface.is at (rw i.selection at c.in_ok-head.ensures.next)) in
    let met : (added : List ℕ) × MeetsInterface (said_by c.next_chosen.new.self.source)
    c.loop-records.written added c.meet.new.self = search rules in
    record {
      selection = c.in_ok-head.ensures.selection ∙ i.selection;
      copying = copying_interface Gives said_by c.args.selection.now c.args.source
          c.args.written.now c.loop-records.records.source c.loop-records.written
          c.loop-records.refused c.loop-records.records.counts c.next_chosen.new.self.source
          c.next_chosen.new.self.octets.items c.next_chosen.new.self.counts met.0 c.meet.new.self
          i.copying comes met.1;
    }

pub returns-in-End-Some : goal.returns-in-End-Some
returns-in-End-Some g c =
    let i = c.loop-records.invariant in
    let comes = (rw c.in-End-Some.field-0-is at (rw c.in-End-Some.is at
    (rw i.selection at c.in_ok-head.ensures.next))) in
    copied_told Gives said_by c.args.selection.now c.args.source c.args.written.now
    c.loop-records.records.source c.loop-records.written c.loop-records.refused
    c.loop-records.records.counts c.next_chosen.new.self.source
    c.next_chosen.new.self.octets.items c.next_chosen.new.self.counts c.in-End-Some.fault
    c.end_file.result i.copying comes c.end_file.ensures

pub returns-in-End-None : goal.returns-in-End-None
returns-in-End-None g c =
    let i = c.loop-records.invariant in
    let comes = (rw c.in-End-None.field-0-is at (rw c.in-End-None.is at
    (rw i.selection at c.in_ok-head.ensures.next))) in
    copied_end Gives said_by c.args.selection.now c.args.source c.args.written.now
    c.loop-records.records.source c.loop-records.written c.loop-records.refused
    c.loop-records.records.counts c.next_chosen.new.self.source
    c.next_chosen.new.self.octets.items c.next_chosen.new.self.counts c.status_of.result
    i.copying comes c.status_of.ensures
