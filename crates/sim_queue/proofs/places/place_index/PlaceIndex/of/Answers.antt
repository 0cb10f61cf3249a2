use Rattle.std.proofs.Common.{◌≡◌, ◌∙◌, ◌+◌, List, ◌∷◌, [], ◌++◌, take, length, ap, subst, sym}
use Rattle.std.proofs.Common.{refl, rules}
use Rattle.std.specs.Prelude.{count_by}
use Rattle.std.proofs.lemmas.List.{take_all}
use Rattle.std.proofs.lemmas.List.Sorted.{IsNonDecreasingBy-from_sort_by_key}
use Rattle.std.proofs.lemmas.Option.{slice_get_read}
use Rattle.its_station.specs.State.{StationState}
use Rattle.sim_queue.specs.declared.places.place_index.Standing.{Standing}
use Rattle.sim_queue.specs.PlaceIndexes.{row_key, is_off, AreStandingsOf}
use Rattle.sim_queue.proofs.Counts.{stand_more, stand_moved, none_off_more, none_off_moved}
use Rattle.sim_queue.proofs.places.place_index.PlaceIndex.of.Goals as goal

pub loop-number-preserved : goal.loop-number-preserved
loop-number-preserved c =
    let n = c.loop-number.number in
    let stations = c.args.stations.now in
    let place = c.place-place.result in
    let order = c.loop-number.order.items in
    let s : Standing = record { place = place; number = n } in
    let pushed : c.push.new.self.items ≡ order ++ s ∷ [] =
    c.in_ok-push.ensures.items
    ∙ ap (λ (t : Standing). order ++ t ∷ []) c.stand.ensures.standing in
    record {
      stand = subst (AreStandingsOf (take (n + 1) stations)) (sym pushed)
          (stand_more stations order n c.index-stations-number.result
          place c.loop-number-test.true
          (slice_get_read stations (length stations) n c.index-stations-number.result refl
          c.loop-number-test.true c.index-stations-number.is)
          (search rules)
          c.loop-number.invariant.stand);
      longitudes = subst (λ (l : List Standing). count_by is_off l ≡ 0) (sym pushed)
          (none_off_more order s c.stand.ensures.longitude c.loop-number.invariant.longitudes);
    }

pub invariant_of-result : goal.invariant_of-result
invariant_of-result c =
    record {
      rising = IsNonDecreasingBy-from_sort_by_key (λ (s : Standing). row_key c.args.range s.place) _
          c.sort_unstable_by_key.ensures.sorted (λ a r q k. search rules);
      longitudes = none_off_moved _ _ c.sort_unstable_by_key.ensures.permutation
          c.loop-number.invariant.longitudes;
    }

pub returns : goal.returns
returns c =
    stand_moved c.args.stations.now _ _ c.sort_unstable_by_key.ensures.permutation
    (subst (λ (l : List StationState). AreStandingsOf l c.loop-number.order.items)
    (take_all c.loop-number.number c.args.stations.now c.loop-number-test.false)
    c.loop-number.invariant.stand)
