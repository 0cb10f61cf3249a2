use Rattle.std.proofs.Common.{◌≡◌, ◌&&◌, Some, find, drop, ltb, ap, subst, ◌∙◌}
use Rattle.std.specs.Option.{option_map}
use Rattle.its_loctable.specs.declared.sorted.slot.SortedSlot.{SortedSlot}
use Rattle.its_model.specs.History.{Known}
use Rattle.its_model.specs.Stations.{is_next_neighbour, is_above}
use Rattle.its_loctable.specs.Sorted.{known_by, bare_known, bare, IsStartAbove}
use Rattle.its_loctable.proofs.EagerLemmas.{rising-true}
use Rattle.std.proofs.lemmas.Bool.{and_parts}
use Rattle.its_loctable.proofs.SortedLemmas.{find-stations_at, find-start, find_passes}
use Rattle.its_loctable.proofs.SortedLemmas.{column-rises}
use Rattle.its_loctable.specs.Kept.{numbers_of}
use Rattle.its_loctable.proofs.sorted.SortedTableLocationStore.next_neighbour.Goals as goal

pub start_above-start-requires : goal.start_above-start-requires
start_above-start-requires c =
    let table = c.args.self.now in
    column-rises table.slots.items c.deref.result.now (c.deref.ensures.value ∙ table.column)
    table.rising

pub returns-clause-next : goal.returns-clause-next
returns-clause-next c = λ history rep.
    let table = c.args.self.now in
    let of = numbers_of table in
    let xs = table.slots.items in
    let after = c.args.after in
    let i = c.start_above-start.result in
    let q = λ (s : SortedSlot). ltb c.args.now s.until && s.neighbour in
    let rising = rising-true (bare xs) table.rising in
    let start = subst (λ l. IsStartAbove l after i) (c.deref.ensures.value ∙ table.column)
    c.start_above-start.ensures.start in
    ap (λ o. option_map (λ (s : Known). s.vector) (option_map (known_by of) o))
    (c.in_ok-slot.ensures ∙ ap (λ l. find q (drop i l)) c.deref-2.ensures.value
    ∙ find-start c.args.now after xs i rising start)
    ∙ ap (option_map (λ (s : Known). s.vector))
    (find-stations_at of table.remembered (is_next_neighbour after) xs history c.args.now
    c.requires rising rep)

pub returns-in_err-slot-clause-next : goal.returns-in_err-slot-clause-next
returns-in_err-slot-clause-next c = λ history rep.
    let table = c.args.self.now in
    let of = numbers_of table in
    let xs = table.slots.items in
    let after = c.args.after in
    let i = c.start_above-start.result in
    let q = λ (s : SortedSlot). ltb c.args.now s.until && s.neighbour in
    let rising = rising-true (bare xs) table.rising in
    let start = subst (λ l. IsStartAbove l after i) (c.deref.ensures.value ∙ table.column)
    c.start_above-start.ensures.start in
    c.from_residual.ensures
    ∙ ap (λ o. option_map (λ (s : Known). s.vector) (option_map (known_by of) o))
    (c.in_err-slot.ensures ∙ ap (λ l. find q (drop i l)) c.deref-2.ensures.value
    ∙ find-start c.args.now after xs i rising start)
    ∙ ap (option_map (λ (s : Known). s.vector))
    (find-stations_at of table.remembered (is_next_neighbour after) xs history c.args.now
    c.requires rising rep)

pub returns-clause-above : goal.returns-clause-above
returns-clause-above c =
    let table = c.args.self.now in
    let xs = table.slots.items in
    let after = c.args.after in
    let i = c.start_above-start.result in
    let p = λ (s : SortedSlot). ltb c.args.now s.until && is_next_neighbour after (bare_known s) in
    let q = λ (s : SortedSlot). ltb c.args.now s.until && s.neighbour in
    let slot = c.in_ok-slot.slot.now in
    let start = subst (λ l. IsStartAbove l after i) (c.deref.ensures.value ∙ table.column)
    c.start_above-start.ensures.start in
    let first : Some slot ≡ find p xs =
    c.in_ok-slot.ensures ∙ ap (λ l. find q (drop i l)) c.deref-2.ensures.value
    ∙ find-start c.args.now after xs i (rising-true (bare xs) table.rising) start in
    (and_parts slot.neighbour (is_above after slot.vector.address)
    (and_parts (ltb c.args.now slot.until) (is_next_neighbour after (bare_known slot))
    (find_passes p xs slot first)).1).1
