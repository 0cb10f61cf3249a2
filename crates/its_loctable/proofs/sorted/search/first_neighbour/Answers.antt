use Rattle.std.proofs.Common.{◌≡◌, ◌&&◌, true, false, Bool, find, ltb, sym, ap, ◌∙◌}
use Rattle.std.proofs.lemmas.Bool.{and_from, lt-ltb, le-ltb}
use Rattle.its_loctable.specs.declared.sorted.slot.SortedSlot.{SortedSlot}
use Rattle.its_loctable.proofs.ListLemmas.{drop_past, find_here, find_after}
use Rattle.its_loctable.proofs.sorted.search.first_neighbour.Goals as goal

pub loop-place-preserved : goal.loop-place-preserved
loop-place-preserved c =
    let slot = c.index-slots-place.result in
    let fails : (ltb c.args.now slot.until && slot.neighbour)
    ≡ false = elim c.else-now-slot.branch [
      | goal.else-now-slot-via-then-now-slot+else-slot w ↦ ap (λ b. ltb c.args.now slot.until && b)
          w.if-slot.false ∙ no_more (ltb c.args.now slot.until)
      | goal.else-now-slot-via-else-now-slot w ↦ ap (λ b. b && slot.neighbour)
          (le-ltb _ _ w.if-now-slot.false)
    ] in
    sym (find_after (λ (s : SortedSlot). ltb c.args.now s.until && s.neighbour) c.args.slots.now
    c.loop-place.place slot c.loop-place-test.true c.index-slots-place.is fails)
    ∙ c.loop-place.invariant
  where
    no_more : (b : Bool) → (b && false) ≡ false
    no_more true = λ i. false
    no_more false = λ i. false

pub returns-then-slot : goal.returns-then-slot
returns-then-slot c =
    let slot = c.index-slots-place.result in
    sym (find_here (λ (s : SortedSlot). ltb c.args.now s.until && s.neighbour) c.args.slots.now
    c.loop-place.place slot c.loop-place-test.true c.index-slots-place.is
    (and_from (ltb c.args.now slot.until) slot.neighbour (lt-ltb _ _ c.if-now-slot.true)
    c.if-slot.true)) ∙ c.loop-place.invariant

pub returns : goal.returns
returns c = sym (ap (find (λ (s : SortedSlot). ltb c.args.now s.until && s.neighbour))
    (drop_past c.args.slots.now c.loop-place.place c.loop-place-test.false))
    ∙ c.loop-place.invariant
