-- The opening of a run beside which more comes.
use Rattle.std.proofs.Common.{◌≡◌, ℕ, zero, suc, ◌+◌, ◌%◌, ◌≤◌, List, [], ◌∷◌, ◌++◌, map, refl}
use Rattle.std.proofs.Common.{ap, ◌∙◌, arith, length, Bool, true, false, cond, append-nil, subst}
use Rattle.std.proofs.Common.{sym}
use Rattle.std.specs.Prelude.{nat_le}
use Rattle.std.specs.List.{AllByRecursion}
use Rattle.std.proofs.lemmas.Bool.{leb-true, leb-false}
use Rattle.std.proofs.lemmas.List.{length-append}
use Rattle.its_model.specs.World.{Config}
use Rattle.sim_air.specs.Beside.{absent, rules_beside, beside, AreThere, Rises, InOrder, IsOwnOf}
use Rattle.sim_air.specs.Beside.{AreKnown, IsReached, MayBeMade}
use Rattle.sim_air_model.specs.Draws.{draws_of}
use Rattle.sim_air_model.specs.Timetable.{Rules, Traffic, Filed, Pending, Timetable, of_file, draw}
use Rattle.sim_air_model.specs.Timetable.{is_present, tick, schedule_tick, schedule_first_ticks}
use Rattle.sim_air_model.specs.Timetable.{sending}
use Rattle.sim_air_model.specs.Timetable.{schedule_send}
use Rattle.sim_air_model.specs.Timetable.{schedule_first_sends, schedule_traffic, with_file}
use Rattle.sim_air_model.specs.Timetable.{with_ticks}
use Rattle.sim_air_model.specs.Timetable.{AirModel, air_opening}
use Rattle.sim_air_model.specs.Timetable.Pending.{Does}
use Rattle.sim_air.proofs.BesideOrder.{all_put, schedule_all_in_order, file_in_order}
use Rattle.sim_air.proofs.BesideLater.{later, first_ticks, all_traffic}
use Rattle.sim_air.proofs.BesideMade.{present_made, not_present}

-- ---- those that are absent put nothing

ticks_made : (present : List Bool) (made : List Config) (n : ℕ) (t : Timetable)
    → schedule_first_ticks (present ++ absent made) n t ≡ schedule_first_ticks present n t
ticks_made present made zero t = refl
ticks_made present made (suc n) t =
    let u = schedule_first_ticks (present ++ absent made) n t in
    ap (λ (b : Bool). cond b (schedule_tick n 0 0 u) u) (present_made present made n)
    ∙ ap (λ (v : Timetable). cond (is_present present n) (schedule_tick n 0 0 v) v)
    (ticks_made present made n t)

sends_made : (present : List Bool) (made : List Config) (x : Traffic) (n : ℕ) (t : Timetable)
    → schedule_first_sends (present ++ absent made) x n t ≡ schedule_first_sends present x n t
sends_made present made x zero t = refl
sends_made present made x (suc n) t =
    let u = schedule_first_sends (present ++ absent made) x n t in
    ap (λ (b : Bool). cond b (schedule_send x n 0 u) u) (present_made present made n)
    ∙ ap (λ (v : Timetable). cond (is_present present n) (schedule_send x n 0 v) v)
    (sends_made present made x n t)

-- of more numbers than stations
ticks_more : (present : List Bool) (n m : ℕ) (t : Timetable) → length present ≤ n → n ≤ m
    → schedule_first_ticks present m t ≡ schedule_first_ticks present n t
ticks_more present n zero t long le =
    let same : 0 ≡ n = omega (arith, le) in ap (λ (k : ℕ). schedule_first_ticks present k t) same
ticks_more present n (suc m) t long le =
    by (λ less. ticks_more present n m t long less) (nat_le n m) refl
  where
    by : (n ≤ m → schedule_first_ticks present m t ≡ schedule_first_ticks present n t) → (b : Bool)
        → nat_le n m ≡ b → schedule_first_ticks present (suc m) t ≡ schedule_first_ticks present n t
    by on true is =
        let less = leb-true n m is in
        ap (λ (b : Bool). cond b (schedule_tick m 0 0 (schedule_first_ticks present m t))
        (schedule_first_ticks present m t)) (not_present present m (omega (arith, less, long)))
        ∙ on less
    by on false is =
        let more = leb-false n m is in
        let same : suc m ≡ n = omega (arith, more, le) in
        ap (λ (k : ℕ). schedule_first_ticks present k t) same

sends_more : (present : List Bool) (x : Traffic) (n m : ℕ) (t : Timetable)
    → length present ≤ n → n ≤ m → schedule_first_sends present x m t ≡ schedule_first_sends present
    x n t
sends_more present x n zero t long le =
    let same : 0 ≡ n = omega (arith, le) in ap (λ (k : ℕ). schedule_first_sends present x k t) same
sends_more present x n (suc m) t long le =
    by (λ less. sends_more present x n m t long less) (nat_le n m) refl
  where
    by : (n ≤ m → schedule_first_sends present x m t ≡ schedule_first_sends present x n t)
        → (b : Bool)
        → nat_le n m ≡ b → schedule_first_sends present x (suc m) t ≡ schedule_first_sends present x
        n t
    by on true is =
        let less = leb-true n m is in
        ap (λ (b : Bool). cond b (schedule_send x m 0 (schedule_first_sends present x m t))
        (schedule_first_sends present x m t)) (not_present present m (omega (arith, less, long)))
        ∙ on less
    by on false is =
        let more = leb-false n m is in
        let same : suc m ≡ n = omega (arith, more, le) in
        ap (λ (k : ℕ). schedule_first_sends present x k t) same

traffic_made : (present : List Bool) (made : List Config) (every : List Traffic) (n m : ℕ)
    (t : Timetable) → length present ≤ n → n ≤ m
    → schedule_traffic (present ++ absent made) every m t ≡ schedule_traffic present every n t
traffic_made present made [] n m t long le = refl
traffic_made present made (x ∷ every) n m t long le =
    ap (schedule_traffic (present ++ absent made) every m)
    (sends_made present made x m t ∙ sends_more present x n m t long le)
    ∙ traffic_made present made every n m (schedule_first_sends present x n t) long le

-- ---- what is put is the air's own, of stations that are there

ticks_own : (configs : List Config) (present : List Bool) (n : ℕ) (t : Timetable)
    → n ≤ length configs → AllByRecursion (IsOwnOf configs) t.waiting
    → AllByRecursion (IsOwnOf configs) (schedule_first_ticks present n t).waiting
ticks_own configs present zero t le h = h
ticks_own configs present (suc n) t le h =
    by (is_present present n) (ticks_own configs present n t (omega (arith, le)) h)
  where
    u : Timetable
    u = schedule_first_ticks present n t

    by : (b : Bool) → AllByRecursion (IsOwnOf configs) u.waiting
        → AllByRecursion (IsOwnOf configs) (cond b (schedule_tick n 0 0 u) u).waiting
    by true on =
        all_put (IsOwnOf configs) (Does (tick n 0 0 (draw u % 751))) u.waiting
        (refl, omega (arith, le)) on
    by false on = on

sends_own : (configs : List Config) (present : List Bool) (x : Traffic) (n : ℕ) (t : Timetable)
    → n ≤ length configs → AllByRecursion (IsOwnOf configs) t.waiting
    → AllByRecursion (IsOwnOf configs) (schedule_first_sends present x n t).waiting
sends_own configs present x zero t le h = h
sends_own configs present x (suc n) t le h =
    by (is_present present n) (sends_own configs present x n t (omega (arith, le)) h)
  where
    u : Timetable
    u = schedule_first_sends present x n t

    by : (b : Bool) → AllByRecursion (IsOwnOf configs) u.waiting
        → AllByRecursion (IsOwnOf configs) (cond b (schedule_send x n 0 u) u).waiting
    by true on =
        all_put (IsOwnOf configs) (Does (sending x n (0 + draw u % x.period))) u.waiting
        (refl, omega (arith, le)) on
    by false on = on

traffic_own : (configs : List Config) (present : List Bool) (every : List Traffic) (n : ℕ)
    (t : Timetable) → n ≤ length configs → AllByRecursion (IsOwnOf configs) t.waiting
    → AllByRecursion (IsOwnOf configs) (schedule_traffic present every n t).waiting
traffic_own configs present [] n t le h = h
traffic_own configs present (x ∷ every) n t le h =
    traffic_own configs present every n (schedule_first_sends present x n t) le
    (sends_own configs present x n t le h)

-- ---- the opening

-- how many stations tick
ticking : Rules → List Config → ℕ
ticking r configs = cond r.beacons (length configs) 0

-- it is that of the air alone, and what comes is later
opens_beside : (r : Rules) (configs made : List Config) (file : List Filed) (until : ℕ)
    → length r.present ≡ length configs → Rises file
    → air_opening (rules_beside made until r) (configs ++ made) file
    ≡ beside made file (air_opening r configs [])
opens_beside r configs made file until long rises =
    ap (λ (t : Timetable). record {
      done = [];
      timetable = t;
      present = r.present ++ absent made;
    }) same
  where
    more : length configs ≤ length (configs ++ made)
    more = let is = length-append configs made in omega (arith, is)

    enough : length r.present ≤ length configs
    enough = omega (arith, long)

    all : Timetable
    all = with_file r []

    filed : with_file (rules_beside made until r) file ≡ later file all
    filed =
        ap (λ (ws : List Pending). record { waiting = ws; draws = draws_of r.seed })
        (schedule_all_in_order (map of_file file) (file_in_order file rises))

    ticks : (b : Bool) (t : Timetable) → schedule_first_ticks (r.present ++ absent made)
        (cond b (length (configs ++ made)) 0) t
        ≡ schedule_first_ticks r.present (cond b (length configs) 0) t
    ticks true t =
        ticks_made r.present made (length (configs ++ made)) t
        ∙ ticks_more r.present (length configs) (length (configs ++ made)) t enough more
    ticks false t = refl

    ticked : with_ticks (rules_beside made until r) (configs ++ made) file
        ≡ later file (with_ticks r configs [])
    ticked =
        ticks r.beacons (with_file (rules_beside made until r) file)
        ∙ ap (schedule_first_ticks r.present (cond r.beacons (length configs) 0)) filed
        ∙ (first_ticks file r.present (cond r.beacons (length configs) 0)).same all tt

    in_turn : InOrder (with_ticks r configs []).waiting
    in_turn = (first_ticks [] r.present (cond r.beacons (length configs) 0)).order all tt

    same : schedule_traffic (r.present ++ absent made) r.every (length (configs ++ made))
        (with_ticks (rules_beside made until r) (configs ++ made) file)
        ≡ later file (schedule_traffic r.present r.every (length configs) (with_ticks r configs []))
    same =
        ap (schedule_traffic (r.present ++ absent made) r.every (length (configs ++ made))) ticked
        ∙ traffic_made r.present made r.every (length configs) (length (configs ++ made))
        (later file (with_ticks r configs [])) enough more
        ∙ (all_traffic file r.present r.every (length configs)).same (with_ticks r configs [])
        in_turn

-- so it is where no station is made, whoever is present
opens_alone : (r : Rules) (configs : List Config) (file : List Filed) (until : ℕ) → Rises file
    → air_opening (rules_beside [] until r) (configs ++ []) file
    ≡ beside [] file (air_opening r configs [])
opens_alone r configs file until rises =
    ap (λ (cs : List Config). air_opening (rules_beside [] until r) cs file) (append-nil configs)
    ∙ ap (λ (l : List Bool). air_opening (with_present l) configs file) (append-nil r.present)
    ∙ ap (opened r.present) same
    ∙ ap (λ (l : List Bool). opened l (later file (air_opening r configs []).timetable))
    (sym (append-nil r.present))
  where
    with_present : List Bool → Rules
    with_present l =
        record {
          range = r.range;
          delay = r.delay;
          loss = r.loss;
          beacons = r.beacons;
          seed = r.seed;
          until = until;
          every = r.every;
          present = l;
        }

    opened : List Bool → Timetable → AirModel
    opened l t = record { done = []; timetable = t; present = l }

    ticks : Timetable → Timetable
    ticks t = schedule_first_ticks r.present (cond r.beacons (length configs) 0) t

    sends : Timetable → Timetable
    sends t = schedule_traffic r.present r.every (length configs) t

    filed : with_file (with_present r.present) file ≡ later file (with_file r [])
    filed =
        ap (λ (ws : List Pending). record { waiting = ws; draws = draws_of r.seed })
        (schedule_all_in_order (map of_file file) (file_in_order file rises))

    in_turn : InOrder (with_ticks r configs []).waiting
    in_turn =
        (first_ticks [] r.present (cond r.beacons (length configs) 0)).order (with_file r []) tt

    same : sends (ticks (with_file (with_present r.present) file))
        ≡ later file (sends (ticks (with_file r [])))
    same =
        ap (λ (t : Timetable). sends (ticks t)) filed
        ∙ ap sends
        ((first_ticks file r.present (cond r.beacons (length configs) 0)).same (with_file r []) tt)
        ∙ (all_traffic file r.present r.every (length configs)).same (with_ticks r configs [])
        in_turn

-- so where any may be made
opens_either : (grows : Bool) (r : Rules) (configs made : List Config) (file : List Filed)
    (until : ℕ) → MayBeMade grows made → AreKnown grows configs r.present → Rises file
    → air_opening (rules_beside made until r) (configs ++ made) file
    ≡ beside made file (air_opening r configs [])
opens_either true r configs made file until may long rises =
    opens_beside r configs made file until long rises
opens_either false r configs made file until may long rises =
    subst (λ (m : List Config). air_opening (rules_beside m until r) (configs ++ m) file
    ≡ beside m file (air_opening r configs [])) (sym may)
    (opens_alone r configs file until rises)

-- nothing is done yet, whatever comes
pub reached_opening : (grows : Bool) (r : Rules) (configs : List Config) (from end : ℕ)
    → AreKnown grows configs r.present
    → IsReached grows r configs 0 [] from end (air_opening r configs [])
reached_opening grows r configs from end long =
    let ticks = cond r.beacons (length configs) 0 in
    record {
      leads = λ made file until may le rises is_from.
          opens_either grows r configs made file until may long rises;
      in_order = (all_traffic [] r.present r.every (length configs)).order
          (with_ticks r configs []) ((first_ticks [] r.present ticks).order (with_file r []) tt);
      own = traffic_own configs r.present r.every (length configs) (with_ticks r configs [])
          (omega arith) (ticks_own configs r.present ticks (with_file r []) (few r.beacons) tt);
      done_there = none_done grows;
      present = long;
      past_rises = tt;
      past_before = tt;
    }
  where
    none_done : (b : Bool) → AreThere b configs []
    none_done true = λ k d lt. absurd (omega (arith, lt))
    none_done false = tt

    few : (b : Bool) → cond b (length configs) 0 ≤ length configs
    few true = omega arith
    few false = omega arith
