use Rattle.std.proofs.Common.{◌≡◌, ℕ, List, true, false, leb, subst}
use Rattle.std.proofs.Common.{sym, rules}
use Rattle.std.specs.List.{insert}
use Rattle.std.specs.Prelude.{is_ok, count_by}
use Rattle.std.specs.List.Sorted.{IsNonDecreasingBy, IsPartitionPoint, IsPartitionedBy}
use Rattle.std.proofs.lemmas.List.Sorted.{IsPartitionPoint-from_clause, IsPartitionedBy-leb}
use Rattle.sim_queue.specs.declared.places.place_index.Standing.{Standing}
use Rattle.sim_queue.specs.PlaceIndexes.{row_key, is_off, AreStandingsOf}
use Rattle.sim_queue.proofs.Counts.{stand_added, rising_with, none_off_with, of_either}
use Rattle.sim_queue.proofs.places.place_index.PlaceIndex.add_station.Goals as goal

pub invariant_of-self-2 : goal.invariant_of-self-2
invariant_of-self-2 c =
    let key : Standing → ℕ = λ s. row_key c.args.self.now.range s.place in
    let xs = c.args.self.now.order.items in
    let to = c.partition_point-to.result in
    let at = c.row_key-key.result in
    let y : Standing = record { place = c.args.place; number = c.args.number } in
    let up : IsNonDecreasingBy key xs = c.args.self.now.rising in
    let point = IsPartitionPoint-from_clause (λ (s : Standing). leb (key s) at)
    c.deref.result.now to c.partition_point-to.ensures.partitioned
    (subst (IsPartitionedBy (λ (s : Standing). leb (key s) at))
    (sym c.deref.ensures.value) (IsPartitionedBy-leb key xs at up))
    (λ a r q k. search rules) in
    let placed = rising_with key xs to at y (search rules) (sym c.row_key-key.ensures.value) up
    (subst (λ (l : List Standing). IsPartitionPoint (λ s. leb (key s) at ≡ true)
    (λ s. leb (key s) at ≡ false) l to) c.deref.ensures.value point) in
    record {
      rising = of_either (IsNonDecreasingBy key) (is_ok c.insert.result) c.insert.new.self.items
          (insert xs to y) xs c.insert.ensures.items placed up;
      longitudes = of_either (λ (l : List Standing). count_by is_off l ≡ 0)
          (is_ok c.insert.result) c.insert.new.self.items (insert xs to y) xs
          c.insert.ensures.items
          (none_off_with xs to y c.row_key-key.ensures.longitude c.args.self.now.longitudes)
          c.args.self.now.longitudes;
    }

pub returns : goal.returns
returns c = λ old new stand last longer same at.
    let xs = c.args.self.now.order.items in
    let to = c.partition_point-to.result in
    let y : Standing = record { place = c.args.place; number = c.args.number } in
    subst (AreStandingsOf new) (sym c.in_ok-insert.ensures.items)
    (stand_added old new xs c.args.number c.args.place to last longer same at stand)
