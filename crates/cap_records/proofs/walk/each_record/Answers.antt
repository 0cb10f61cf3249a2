use Rattle.std.proofs.Common.{arith, List, ℕ, IfOk, subst, sym}
use Rattle.cap_pcap.specs.Sources.{Gives}
use Rattle.cap_records.specs.FoundFrames.{IsThere, ReadsFrame}
use Rattle.cap_records.specs.declared.records.Pulled.TheVariants as pulls
use Rattle.cap_records.proofs.Steps.{next_counts, next_reads}
use Rattle.cap_records.proofs.walk.each_record.Goals as goal

pub after-walked-requires : goal.after-walked-requires
after-walked-requires g c =
    let i = c.loop-out.invariant in
    let now = c.next_chosen.new.self in
    let comes = (rw c.in-Chosen.is at c.in_ok-head.ensures.next) in
    let more = next_counts Gives ReadsFrame c.loop-out.records.selection
    c.loop-out.records.source c.loop-out.records.counts now.source now.octets.items now.counts
    (pulls.Chosen c.in-Chosen.head c.in-Chosen.found) comes in
    (omega (arith, i.0, more, now.counts.bounded, now.counts.fewer), i.1)

pub visit-requires : goal.visit-requires
visit-requires g c =
    let now = c.next_chosen.new.self in
    let comes = (rw c.in-Chosen.is at c.in_ok-head.ensures.next) in
    let read = next_reads Gives ReadsFrame c.loop-out.records.selection
    c.loop-out.records.source c.loop-out.records.counts now.source now.octets.items now.counts
    c.in-Chosen.head c.in-Chosen.found comes in
    subst (λ (w : List ℕ). IfOk c.in-Chosen.found.frame (IsThere w))
    (sym c.as_slice.ensures.value) read.1.1
