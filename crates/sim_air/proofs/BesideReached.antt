-- How far a run has come beside which more comes: where a station is made, and at its end.
use Rattle.std.proofs.Common.{◌≡◌, ℕ, ◌≤◌, List, [], ◌∷◌, ◌++◌, refl, sym, ap, ◌∙◌, subst}
use Rattle.std.proofs.Common.{arith, Bool, true, false, append_assoc, append-nil}
use Rattle.std.proofs.lemmas.List.{length-append}
use Rattle.its_model.specs.World.{Config}
use Rattle.sim_air.specs.Beside.{absent, rules_beside, beside, IsOwnOf, IsReached, MayBeMade}
use Rattle.sim_air_model.specs.Timetable.{Rules, Filed, Pending, AirModel, air_run}
use Rattle.sim_air_model.specs.Timetable.{air_opening, NoneWaits, IsOver}
use Rattle.sim_air_model.specs.Timetable.Pending.{Does, Departs}
use Rattle.sim_air.proofs.BesideOrder.{all_by, schedule_all_in_order}
use Rattle.sim_air.proofs.BesideMade.{still_there}
use Rattle.sim_air.proofs.BesideSteps.{from_later, up_to_later}

-- that none is made is always so
none_made : (grows : Bool) → MayBeMade grows []
none_made true = tt
none_made false = refl

own_more : (configs made : List Config) (p : Pending) → IsOwnOf configs p
    → IsOwnOf (configs ++ made) p
own_more configs made (Does p) h = (h.0, still_there p.event.station configs made h.1)
own_more configs made (Departs station moment) h = absurd h

-- a station is made: so far it was there, and absent
pub reached_made : (r : Rules) (configs : List Config) (n : ℕ) (past : List Filed)
    (from end : ℕ) (a : AirModel) (c : Config) → IsReached true r configs n past from end a
    → IsReached true (rules_beside (c ∷ []) r.until r) (configs ++ c ∷ []) n past from end
    (record { done = a.done; timetable = a.timetable; present = a.present ++ false ∷ [] })
reached_made r configs n past from end a c h =
    record {
      leads = λ made file until may le rises is_from. (
          let air_of : Rules → List Config → AirModel =
          λ q cs. air_run q cs n (air_opening q cs (past ++ file)) in
          ap (λ (l : List Bool). air_of (record {
            range = r.range;
            delay = r.delay;
            loss = r.loss;
            beacons = r.beacons;
            seed = r.seed;
            until = until;
            every = r.every;
            present = l;
          }) ((configs ++ c ∷ []) ++ made)) (append_assoc r.present (false ∷ []) (absent made))
          ∙ ap (air_of (rules_beside (c ∷ made) until r)) (append_assoc configs (c ∷ []) made)
          ∙ h.leads (c ∷ made) file until tt le rises is_from
          ∙ ap (λ (l : List Bool). record {
            done = a.done;
            timetable = (beside made file a).timetable;
            present = l;
          }) (sym (append_assoc a.present (false ∷ []) (absent made))));
      in_order = h.in_order;
      own = all_by (IsOwnOf configs) (IsOwnOf (configs ++ c ∷ [])) a.timetable.waiting
          (own_more configs (c ∷ [])) h.own;
      done_there = λ k d lt. still_there _ configs (c ∷ []) (h.done_there k d lt);
      present =
          let long = length-append a.present (false ∷ []) in
          let many = length-append configs (c ∷ []) in
          let same = h.present in omega (arith, long, many, same);
      past_rises = h.past_rises;
      past_before = h.past_before;
    }

-- it stays so up to a later moment, of what comes later
pub reached_later : (grows : Bool) (r : Rules) (configs : List Config) (n : ℕ) (past : List Filed)
    (from from' end end' : ℕ) (a : AirModel) → IsReached grows r configs n past from end a
    → from ≤ from' → end ≤ end' → IsReached grows r configs n past from' end' a
reached_later grows r configs n past from from' end end' a h later_from later_end =
    record {
      leads = λ made file until may le rises is_from.
          h.leads made file until may (omega (arith, le, later_end)) rises
          (from_later from from' file later_from is_from);
      in_order = h.in_order;
      own = h.own;
      done_there = h.done_there;
      present = h.present;
      past_rises = h.past_rises;
      past_before = up_to_later from from' past later_from h.past_before;
    }

-- nothing more waits up to the last moment: the run is over, and this was done
pub reached_over : (grows : Bool) (r : Rules) (configs : List Config) (n : ℕ) (past : List Filed)
    (from end : ℕ) (a : AirModel) → IsReached grows r configs n past from end a
    → NoneWaits end a.timetable.waiting
    → IsOver (rules_beside [] end r)
    (air_run (rules_beside [] end r) configs n
    (air_opening (rules_beside [] end r) configs past))
    × ((air_run (rules_beside [] end r) configs n
    (air_opening (rules_beside [] end r) configs past)).done ≡ a.done)
reached_over grows r configs n past from end a h none =
    let rules = rules_beside [] end r in
    let air : AirModel = air_run rules configs n (air_opening rules configs past) in
    let same : air ≡ beside [] [] a =
    ap (λ (cs : List Config). air_run rules cs n (air_opening rules cs past))
    (sym (append-nil configs))
    ∙ ap (λ (l : List Filed). air_run rules (configs ++ []) n
    (air_opening rules (configs ++ []) l)) (sym (append-nil past))
    ∙ h.leads [] [] end (none_made grows) (omega arith) tt tt in (
      subst (λ (x : AirModel). NoneWaits end x.timetable.waiting) (sym same)
          (subst (NoneWaits end) (sym (schedule_all_in_order a.timetable.waiting h.in_order)) none),
      ap (λ (x : AirModel). x.done) same,
    )
