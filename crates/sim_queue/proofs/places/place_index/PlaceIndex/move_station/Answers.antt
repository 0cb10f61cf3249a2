use Rattle.std.proofs.Common.{◌≡◌, ◌<◌, ◌≤◌, ◌+◌, ◌⊎◌, inl, inr, ℕ, List}
use Rattle.std.proofs.Common.{HoldsAt, None, length, subst, sym, rules}
use Rattle.std.specs.List.{position}
use Rattle.std.specs.Prelude.{◌==◌, count_by}
use Rattle.std.specs.List.Sorted.{IsNonDecreasingBy, IsPartitionPoint}
use Rattle.sim_queue.specs.declared.places.place_index.Standing.{Standing}
use Rattle.sim_queue.specs.PlaceIndexes.{row_key, is_off, AreStandingsOf}
use Rattle.sim_queue.proofs.Counts.{stand_new, stand_same, rising_moved, none_off_replaced}
use Rattle.sim_queue.proofs.places.place_index.PlaceIndex.move_station.Goals.{then-from-end}
use Rattle.sim_queue.proofs.places.place_index.PlaceIndex.move_station.Goals.{else-from-end}
use Rattle.sim_queue.proofs.places.place_index.PlaceIndex.move_station.Goals as goal

pub returns-in_default : goal.returns-in_default
returns-in_default c = λ old new stand same at.
    stand_same old new c.args.self.now.order.items c.args.number
    (subst (λ (l : List Standing). position (λ (s : Standing). s.number == c.args.number) l ≡ None)
    c.deref.ensures.value c.in_default.ensures.none)
    stand same

pub invariant_of-self-2 : goal.invariant_of-self-2
invariant_of-self-2 c =
    let key : Standing → ℕ = λ s. row_key c.args.self.now.range s.place in
    let xs = c.args.self.now.order.items in
    let i = c.in-Some.from in
    let to = c.if-from-end.to in
    let end = c.end_for-end.result in
    let at = c.row_key.result in
    let y : Standing = record { place = c.args.place; number = c.args.number } in
    let within : i < length xs = search rules in
    let up : IsNonDecreasingBy key xs = c.args.self.now.rising in
    let side : ((i < end) × (to + 1 ≡ end)) ⊎ ((end ≤ i) × (to ≡ end)) =
    elim c.if-from-end.branch [
      | then-from-end w ↦ inl (w.if-from-end.true, search rules)
      | else-from-end w ↦ inr (w.if-from-end.false, search rules)
    ] in
    let placed = rising_moved key xs i to end at y within (search rules)
    (sym c.row_key.ensures.value) up
    (subst (λ (l : List Standing). IsPartitionPoint (λ s. key s ≤ at) (λ s. at ≤ key s) l end)
    c.deref-3.ensures.value c.end_for-end.ensures.point) side in
    record {
      rising = subst (IsNonDecreasingBy key) (sym c.replace_at.ensures) placed;
      longitudes = subst (λ (l : List Standing). count_by is_off l ≡ 0) (sym c.replace_at.ensures)
          (none_off_replaced xs i to y within c.row_key.ensures.longitude
          c.args.self.now.longitudes);
    }

pub returns : goal.returns
returns c = λ old new stand same at.
    let xs = c.args.self.now.order.items in
    let i = c.in-Some.from in
    subst (AreStandingsOf new) (sym c.replace_at.ensures)
    (stand_new old new xs c.args.number c.args.place i c.if-from-end.to (search rules)
    (subst (λ (l : List Standing). HoldsAt (λ (s : Standing). s.number ≡ c.args.number) l i)
    c.deref.ensures.value c.in-Some.ensures.found) stand same at)
