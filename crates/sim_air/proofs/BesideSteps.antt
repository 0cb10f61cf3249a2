-- One step of a run beside which more comes.
use Rattle.std.proofs.Common.{◌≡◌, ℕ, suc, ◌≤◌, ◌<◌, List, [], ◌∷◌, ◌++◌, map, refl, ap, ◌∙◌}
use Rattle.std.proofs.Common.{subst, arith, length, All, Bool, true, false, cond, append_assoc}
use Rattle.std.proofs.Common.{append-nil, sym, Option, Some, None}
use Rattle.std.specs.List.{AllByRecursion}
use Rattle.std.proofs.lemmas.Bool.{le-leb}
use Rattle.std.proofs.lemmas.List.Elements.{All-push}
use Rattle.its_model.specs.World.{Config, Event, WorldModel, opening, world_run}
use Rattle.its_world.proofs.Late.{set_before}
use Rattle.sim_air_model.specs.Timetable.{moment_in}
use Rattle.sim_air.specs.Beside.{absent, rules_beside, beside, Rises, IsFrom, IsUpTo, InOrder}
use Rattle.sim_air.specs.Beside.{station_of_pending, AreThere, IsOwnOf, IsReached, IsThere}
use Rattle.sim_air.specs.Beside.{AreKnown, MayBeMade}
use Rattle.sim_air_model.specs.Timetable.{Rules, Filed, Pending, Planned, Timetable, AirModel, at}
use Rattle.sim_air_model.specs.Timetable.{of_file}
use Rattle.sim_air_model.specs.Timetable.{schedule_all, NoneWaits, after_one, present_after}
use Rattle.sim_air_model.specs.Timetable.{come, comes, follow_tick, given, is_passed_over}
use Rattle.sim_air_model.specs.Timetable.{send_again, spread, spread_frame}
use Rattle.sim_air_model.specs.Timetable.{do_one, take_one, do_first, air_step, air_run}
use Rattle.sim_air_model.specs.Timetable.{air_opening}
use Rattle.sim_air_model.specs.Timetable.Pending.{Does, Departs}
use Rattle.sim_air_model.proofs.Putting.{schedule_all_behind}
use Rattle.sim_air.proofs.BesideOrder.{all_by, all_push, own_first}
use Rattle.sim_air.proofs.BesideLater.{later, one_after}
use Rattle.sim_air.proofs.BesideMade.{with_made, run_made, after_made, presence_made, passed_made}
use Rattle.sim_air.proofs.BesideMade.{stations_of_run}
use Rattle.sim_air.proofs.BesideTaken.{coming_own, taken_in_order, taken_own, taken_present}
use Rattle.sim_air.proofs.BesideTaken.{taken_there}

-- ---- one is taken

module _ (made : List Config) (before file : List Filed) (until : ℕ) (r : Rules)
    (configs : List Config) (a : AirModel) (there : All (λ e. e.station < length configs) a.done)
    (long : length a.present ≡ length configs) (t : Timetable) (order : InOrder t.waiting) where
  do_beside : (p : Planned) → p.event.station < length configs
      → do_one (rules_beside made until r) (configs ++ made) (beside made before a) p
      (later file t)
      ≡ beside made file (do_one r configs a p t)
  do_beside p lt =
      let es = a.done ++ p.event ∷ [] in
      let w = world_run (opening configs) es in
      let many = stations_of_run configs es in
      let wide : length a.present ≡ length w.stations = omega (arith, long, many) in
      let below : p.event.station < length w.stations = omega (arith, lt, many) in
      let present = a.present ++ absent made in
      ap (λ (x : WorldModel). record {
        done = es;
        timetable = after_one (rules_beside made until r) present p x (later file t);
        present = present_after present p.event x;
      }) (run_made configs made es
      (All-push (λ (e : Event). e.station < length configs) a.done p.event there lt))
      ∙ ap (λ (u : Timetable). record {
        done = es;
        timetable = u;
        present = present_after present p.event (with_made w made);
      }) (after_made made until r a.present p w wide below (later file t)
      ∙ (one_after file r a.present p w).same t order)
      ∙ ap (λ (l : List Bool). record {
        done = es;
        timetable = later file (after_one r a.present p w t);
        present = l;
      }) (presence_made made until r a.present p w wide below)

  take_beside : (p : Pending) → station_of_pending p < length configs
      → take_one (rules_beside made until r) (configs ++ made) (beside made before a) p
      (later file t)
      ≡ beside made file (take_one r configs a p t)
  take_beside (Departs station moment) lt =
      ap (λ (l : List Bool). record { done = a.done; timetable = later file t; present = l })
      (set_before a.present (absent made) station false (omega (arith, long, lt)))
  take_beside (Does p) lt =
      ap (λ (b : Bool). cond b
      (record { done = a.done; timetable = later file t; present = a.present ++ absent made })
      (do_one (rules_beside made until r) (configs ++ made) (beside made before a) p
      (later file t)))
      (passed_made a.present made p)
      ∙ by (is_passed_over a.present p)
    where
      by : (b : Bool)
          → cond b
          (record { done = a.done; timetable = later file t; present = a.present ++ absent made })
          (do_one (rules_beside made until r) (configs ++ made) (beside made before a) p
          (later file t))
          ≡ beside made file (cond b
          (record { done = a.done; timetable = t; present = a.present })
          (do_one r configs a p t))
      by true = refl
      by false = do_beside p lt

-- ---- where no station is made

-- the last moment is of no account to what an event is followed by
spread_until : (r : Rules) (until : ℕ) (present : List Bool) (e : Event) (w : WorldModel)
    (t : Timetable) → spread (rules_beside [] until r) present e w t ≡ spread r present e w t
spread_until r until present e w t = by (given w.log)
  where
    by : (o : Option ℕ) → spread_frame (rules_beside [] until r) present e w o t
        ≡ spread_frame r present e w o t
    by None = refl
    by (Some k) = refl

after_until : (r : Rules) (until : ℕ) (present : List Bool) (p : Planned) (w : WorldModel)
    (t : Timetable)
    → after_one (rules_beside [] until r) present p w t ≡ after_one r present p w t
after_until r until present p w t =
    ap (λ (u : Timetable). cond (comes present p.event w)
    (come r p.event.station p.event.moment (send_again p.event p.traffic (follow_tick p w u)))
    (send_again p.event p.traffic (follow_tick p w u)))
    (spread_until r until present p.event w t)

-- one is taken, wherever its station is
take_alone : (before file : List Filed) (until : ℕ) (r : Rules) (configs : List Config)
    (a : AirModel) (t : Timetable) → InOrder t.waiting → (p : Pending)
    → take_one (rules_beside [] until r) (configs ++ []) (beside [] before a) p (later file t)
    ≡ beside [] file (take_one r configs a p t)
take_alone before file until r configs a t order p =
    ap (λ (cs : List Config). take_one (rules_beside [] until r) cs (beside [] before a) p
    (later file t)) (append-nil configs)
    ∙ ap (λ (l : List Bool). take_one (rules_beside [] until r) configs (record {
      done = a.done;
      timetable = later before a.timetable;
      present = l;
    }) p (later file t)) (append-nil a.present)
    ∙ by p
    ∙ ap (λ (l : List Bool). record {
      done = (take_one r configs a p t).done;
      timetable = later file (take_one r configs a p t).timetable;
      present = l;
    }) (sym (append-nil (take_one r configs a p t).present))
  where
    alone : AirModel
    alone = record {
      done = a.done;
      timetable = later before a.timetable;
      present = a.present;
    }

    with_later : AirModel → AirModel
    with_later x = record {
      done = x.done;
      timetable = later file x.timetable;
      present = x.present;
    }

    by : (p : Pending) → take_one (rules_beside [] until r) configs alone p (later file t)
        ≡ with_later (take_one r configs a p t)
    by (Departs station moment) = refl
    by (Does p) = passed (is_passed_over a.present p)
      where
        es : List Event
        es = a.done ++ p.event ∷ []

        w : WorldModel
        w = world_run (opening configs) es

        passed : (b : Bool)
            → cond b
            (record { done = a.done; timetable = later file t; present = a.present })
            (do_one (rules_beside [] until r) configs alone p (later file t))
            ≡ with_later (cond b
            (record { done = a.done; timetable = t; present = a.present })
            (do_one r configs a p t))
        passed true = refl
        passed false =
            ap (λ (u : Timetable). record {
              done = es;
              timetable = u;
              present = present_after a.present p.event w;
            }) (after_until r until a.present p w (later file t)
            ∙ (one_after file r a.present p w).same t order)

-- so where any may be made, and its station is there
take_either : (grows : Bool) (made : List Config) (before file : List Filed) (until : ℕ)
    (r : Rules) (configs : List Config) (a : AirModel) → MayBeMade grows made
    → AreThere grows configs a.done → AreKnown grows configs a.present → (t : Timetable)
    → InOrder t.waiting → (p : Pending) → IsThere grows (length configs) (station_of_pending p)
    → take_one (rules_beside made until r) (configs ++ made) (beside made before a) p
    (later file t)
    ≡ beside made file (take_one r configs a p t)
take_either true made before file until r configs a may there long t order p lt =
    take_beside made before file until r configs a there long t order p lt
take_either false made before file until r configs a may there long t order p lt =
    subst (λ (m : List Config). take_one (rules_beside m until r) (configs ++ m)
    (beside m before a) p (later file t)
    ≡ beside m file (take_one r configs a p t)) (sym may)
    (take_alone before file until r configs a t order p)

-- ---- one step more

-- the run goes on by the first that waits
goes_on : (rules : Rules) (configs : List Config) (n : ℕ) (opening_air a : AirModel)
    (q : Pending) (ws : List Pending) → air_run rules configs n opening_air ≡ a
    → a.timetable.waiting ≡ q ∷ ws → at q ≤ rules.until
    → air_run rules configs (suc n) opening_air
    ≡ take_one rules configs a q (record { waiting = ws; draws = a.timetable.draws })
goes_on rules configs n opening_air a q ws leads waits le =
    ap (air_step rules configs) leads
    ∙ ap (do_first rules configs a) waits
    ∙ ap (λ (b : Bool). cond b
    (take_one rules configs a q (record { waiting = ws; draws = a.timetable.draws })) a)
    (le-leb (at q) rules.until le)

-- ---- moments

pub from_later : (m n : ℕ) (file : List Filed) → m ≤ n → IsFrom n file → IsFrom m file
from_later m n file le h =
    all_by (λ (f : Filed). n ≤ moment_in f) (λ (f : Filed). m ≤ moment_in f) file
    (λ f a. omega (arith, le, a)) h

pub up_to_later : (m n : ℕ) (file : List Filed) → m ≤ n → IsUpTo m file → IsUpTo n file
up_to_later m n file le h =
    all_by (λ (f : Filed). moment_in f ≤ m) (λ (f : Filed). moment_in f ≤ n) file
    (λ f a. omega (arith, le, a)) h

-- before all of the file
none_before : (m from : ℕ) (file : List Filed) → m < from → IsFrom from file
    → NoneWaits m (map of_file file)
none_before m from [] lt h = tt
none_before m from (f ∷ file) lt h =
    let le = h.0 in omega (arith, lt, le)

-- one more, no earlier than all of them
rises_push : (m : ℕ) (file : List Filed) (f : Filed) → Rises file → IsUpTo m file
    → m ≤ moment_in f → Rises (file ++ f ∷ [])
rises_push m [] f rises up le = (tt, tt)
rises_push m (g ∷ file) f rises up le =
    let early = up.0 in (
      all_push (λ (x : Filed). moment_in g ≤ moment_in x) file f rises.0
          (omega (arith, early, le)),
      rises_push m file f rises.1 up.1 le,
    )

-- ---- steps

-- the station of what is the air's own is there
own_there : (configs : List Config) (p : Pending) → IsOwnOf configs p
    → station_of_pending p < length configs
own_there configs (Does p) h = h.1
own_there configs (Departs station moment) h = absurd h

is_there : (grows : Bool) (configs : List Config) (station : ℕ) → station < length configs
    → IsThere grows (length configs) station
is_there true configs station lt = lt
is_there false configs station lt = tt

-- of each station it is known still whether it is present
still_known : (grows : Bool) (r : Rules) (configs : List Config) (a : AirModel) (p : Pending)
    (t : Timetable) → AreKnown grows configs a.present
    → AreKnown grows configs (take_one r configs a p t).present
still_known true r configs a p t h = taken_present r configs a p t ∙ h
still_known false r configs a p t h = tt

-- the first of the air's own is taken, before all that comes from then on
pub reached_own : (grows : Bool) (r : Rules) (configs : List Config) (n : ℕ) (past : List Filed)
    (from from' end end' : ℕ) (a : AirModel) (p : Planned) (rest : List Pending)
    → IsReached grows r configs n past from end a → a.timetable.waiting ≡ Does p ∷ rest
    → from ≤ from' → p.event.moment < from' → end ≤ end' → p.event.moment ≤ end'
    → IsReached grows r configs (suc n) past from' end'
    (take_one r configs a (Does p) (record { waiting = rest; draws = a.timetable.draws }))
reached_own grows r configs n past from from' end end' a p rest h is later_from before later_end
    within =
    let t : Timetable = record { waiting = rest; draws = a.timetable.draws } in
    let order : InOrder (Does p ∷ rest) = subst InOrder is h.in_order in
    let own : AllByRecursion (IsOwnOf configs) (Does p ∷ rest) =
    subst (AllByRecursion (IsOwnOf configs)) is h.own in
    let lt = own_there configs (Does p) own.0 in
    let there = is_there grows configs (station_of_pending (Does p)) lt in
    record {
      leads = λ made file until may le rises is_from. (
          goes_on (rules_beside made until r) (configs ++ made) n
          (air_opening (rules_beside made until r) (configs ++ made) (past ++ file))
          (beside made file a) (Does p) (schedule_all rest (map of_file file))
          (h.leads made file until may (omega (arith, le, later_end)) rises
          (from_later from from' file later_from is_from))
          (ap (λ (ws : List Pending). schedule_all ws (map of_file file)) is
          ∙ own_first (Does p) rest (map of_file file) order
          (none_before p.event.moment from' file before is_from))
          (omega (arith, le, within))
          ∙ take_either grows made file file until r configs a may h.done_there h.present t order.1
          (Does p) there);
      in_order = taken_in_order r configs a (Does p) t order.1;
      own = taken_own r configs a (Does p) t lt own.1;
      done_there = taken_there grows r configs a (Does p) t there h.done_there;
      present = still_known grows r configs a (Does p) t h.present;
      past_rises = h.past_rises;
      past_before = up_to_later from from' past later_from h.past_before;
    }

-- one that comes is taken, no later than all of the air's own
pub reached_coming : (grows : Bool) (r : Rules) (configs : List Config) (n : ℕ) (past : List Filed)
    (from end end' : ℕ) (a : AirModel) (f : Filed) → IsReached grows r configs n past from end a
    → from ≤ moment_in f → AllByRecursion (λ q. moment_in f ≤ at q) a.timetable.waiting
    → end ≤ end' → moment_in f ≤ end'
    → IsThere grows (length configs) (station_of_pending (of_file f))
    → IsReached grows r configs (suc n) (past ++ f ∷ []) (moment_in f) end'
    (take_one r configs a (of_file f) a.timetable)
reached_coming grows r configs n past from end end' a f h later_from first later_end within there =
    record {
      leads = λ made file until may le rises is_from. (
          ap (λ (l : List Filed). air_run (rules_beside made until r) (configs ++ made) (suc n)
          (air_opening (rules_beside made until r) (configs ++ made) l))
          (append_assoc past (f ∷ []) file)
          ∙ goes_on (rules_beside made until r) (configs ++ made) n
          (air_opening (rules_beside made until r) (configs ++ made) (past ++ f ∷ file))
          (beside made (f ∷ file) a) (of_file f)
          (schedule_all a.timetable.waiting (map of_file file))
          (h.leads made (f ∷ file) until may (omega (arith, le, later_end)) (is_from, rises)
          (later_from, from_later from (moment_in f) file later_from is_from))
          (schedule_all_behind a.timetable.waiting (of_file f) (map of_file file) first)
          (omega (arith, le, within))
          ∙ take_either grows made (f ∷ file) file until r configs a may h.done_there h.present
          a.timetable h.in_order (of_file f) there);
      in_order = taken_in_order r configs a (of_file f) a.timetable h.in_order;
      own = coming_own r configs a f a.timetable h.own;
      done_there = taken_there grows r configs a (of_file f) a.timetable there h.done_there;
      present = still_known grows r configs a (of_file f) a.timetable h.present;
      past_rises = rises_push from past f h.past_rises h.past_before later_from;
      past_before = all_push (λ (x : Filed). moment_in x ≤ moment_in f) past f
          (up_to_later from (moment_in f) past later_from h.past_before) (omega arith);
    }
