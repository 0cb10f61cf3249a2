-- A run over the events of a file, from one step to the next.
use Rattle.std.proofs.Common.{◌≡◌, ℕ, suc, ◌+◌, ◌≤◌, ◌<◌, List, [], ◌∷◌, ◌++◌, refl, sym, ap, ◌∙◌}
use Rattle.std.proofs.Common.{subst, arith, length, map, cond, All, false, append-nil, take, Some, None}
use Rattle.std.specs.Prelude.{slice_get}
use Rattle.std.specs.List.{AllByRecursion}
use Rattle.std.specs.List.Sorted.{IsNonDecreasingBy}
use Rattle.std.proofs.Common.{slice_index_or}
use Rattle.std.proofs.lemmas.List.Elements.{All-cons, All-nil}
use Rattle.std.proofs.lemmas.Option.{get_or_from_slice_get, slice_get_within}
use denote.Ref.{Bor}
use Rattle.its_model.specs.World.{Config, Event, What, opening}
use Rattle.its_model.specs.World.What.{Calls, Deliver}
use Rattle.its_world.specs.Entries.{Entry}
use Rattle.its_world.specs.Events.{event_of, what_of}
use Rattle.its_world.specs.Steps.{IsKept}
use Rattle.sim_scenario.specs.Airs.{moment_of}
use Rattle.sim_scenario.specs.declared.events.event.FileEvent.{FileEvent}
use Rattle.sim_scenario.specs.declared.events.event.FileEvent.TheVariants as files
use Rattle.sim_simulation.specs.Simulated.{IsSimulated}
use Rattle.sim_air.specs.Due.{AreDue}
use Rattle.sim_air.specs.FileEvents.{filed_in, filed_of}
use Rattle.sim_air.proofs.FileEvents.{same_moment}
use Rattle.sim_air_model.specs.Draws.{draws_of}
use Rattle.sim_air_model.specs.Timetable.{AirModel, Filed, NoneWaits, Pending, Rules, air_opening}
use Rattle.sim_air_model.specs.Timetable.{air_run, at, moment_in, of_file, schedule_all}
use Rattle.sim_air_model.specs.Timetable.{schedule_first_ticks, schedule_traffic, take_one}
use Rattle.sim_air_model.proofs.Putting.{schedule_all_above}
use Rattle.sim_air.specs.AirRun.{events_in}
use Rattle.sim_air.specs.AirTimed.{IsTimedRun}
use Rattle.sim_air.specs.Beside.{IsFrom, Rises, beside, rules_beside}
use Rattle.sim_air.specs.Delivered.{KeepsFrom}
use Rattle.sim_air.specs.Filing.{IsFiling}
use Rattle.sim_air.specs.Keeps.{GoesBy, IsTimed}
use Rattle.sim_air.specs.declared.filed_run.FiledRun.{FiledRun}
use Rattle.sim_queue.specs.Keeps.{Keeps}
use Rattle.its_model.specs.EverySchedule.{HoldsOfSchedules}
use Rattle.its_world.specs.State.{RepresentsWorld}
use Rattle.sim_air.specs.Moving.{IsMoving, LeavesOwn}
use Rattle.sim_air.specs.declared.frames.FrameCount.{FrameCount}
use Rattle.sim_air.specs.declared.run.Run.{Run}
use Rattle.sim_air.proofs.BesideOrder.{file_in_order, schedule_all_in_order}
use Rattle.sim_air.proofs.Moved.{all_from_first, begun, comes_at, comes_to, none_waits_after}
use Rattle.sim_air.proofs.Moved.{rules_at_end}
use Rattle.sim_air.proofs.Opening.{due_and_late}
use Rattle.sim_air.proofs.Under.{front_more}

-- ---- the frames that its events deliver

kept_lower : (n m : ℕ) (what : What) → n ≤ m → IsKept m what → IsKept n what
kept_lower n m (Calls call) le h = tt
kept_lower n m (Deliver k) le h = omega (arith, le, h)

-- a lower number is one as well
pub keeps_lower : (n m : ℕ) (e : FileEvent) → n ≤ m → KeepsFrom m e → KeepsFrom n e
keeps_lower n m (files.Happens e) le h = kept_lower n m (what_of e.what) le h
keeps_lower n m (files.Leaves station moment) le h = tt

-- they are kept
pub all_kept : (released lowest : ℕ) (e : FileEvent) → released ≤ lowest → KeepsFrom lowest e
    → All (λ x. IsKept released x.what) (events_in (filed_of e ∷ []))
all_kept released lowest (files.Happens e) le h =
    All-cons (λ (x : Event). IsKept released x.what) (event_of e) []
    (kept_lower released lowest (what_of e.what) le h)
    (All-nil (λ (x : Event). IsKept released x.what))
all_kept released lowest (files.Leaves station moment) le h =
    All-nil (λ (x : Event). IsKept released x.what)

-- ---- the next of the file

-- what is so of each is so of it
pub this_of_file : (P : FileEvent → Type 0) (due : List (Bor FileEvent)) (n : ℕ)
    (e : Bor FileEvent) → slice_get due n ≡ Some e → All (λ x. P x.now) due → P e.now
this_of_file P due n e is all =
    subst (λ (x : Bor FileEvent). P x.now) (get_or_from_slice_get due n e e is)
    (all n e (slice_get_within due n e is))

-- it comes no earlier than the one before it
pub next_of_file : (due : List (Bor FileEvent)) (n : ℕ) (e next : Bor FileEvent)
    → IsNonDecreasingBy (λ x. moment_of x.now) due → slice_get due n ≡ Some e
    → slice_get due (n + 1) ≡ Some next → moment_of e.now ≤ moment_of next.now
next_of_file due n e next sorted is after =
    let le = sorted n (n + 1) e (omega arith) (slice_get_within due (n + 1) next after) in
    subst (λ (x : Bor FileEvent). moment_of e.now ≤ moment_of x.now)
    (get_or_from_slice_get due (n + 1) next e after)
    (subst (λ (x : Bor FileEvent). moment_of x.now
    ≤ moment_of (slice_index_or due (n + 1) e).now)
    (get_or_from_slice_get due n e e is) le)

-- it was done
pub filed_next : (rules : Rules) (configs : List Config) (due : List (Bor FileEvent)) (n : ℕ)
    (e : Bor FileEvent) (last from end limit : ℕ) (before after : FrameCount)
    (old one new : Run) (A B C : List Event → List Entry → Type 0)
    → slice_get due n ≡ Some e → limit ≡ moment_of e.now → from ≤ moment_of e.now
    → moment_of e.now ≤ end → LeavesOwn limit before old A after one B
    → new.world.released ≡ one.world.released
    → ((r : Rules) (cs : List Config) (a : AirModel) → IsTimed r cs a one B
    → IsTimed r cs (take_one r cs a (of_file (filed_of e.now)) a.timetable) new C)
    → IsMoving false rules configs [] (take n (filed_in due)) last from end before.before
    before.delivered_by old A
    → IsMoving false rules configs [] (take (n + 1) (filed_in due)) (moment_of e.now)
    (moment_of e.now) end after.before after.delivered_by new C
filed_next rules configs due n e last from end limit before after old one new A B C is here le
    within left released does h =
    let m = moment_of e.now in
    let f : Filed = filed_of e.now in
    let past : List Filed = take n (filed_in due) in
    let at_m : moment_in f ≡ m = same_moment e.now in
    let late : All (λ w. m ≤ w.moment) one.queue.own =
    subst (λ (k : ℕ). All (λ w. k ≤ w.moment) one.queue.own) here left.late in
    let comes : IsMoving false rules configs [] past m m end before.before before.delivered_by
    one B =
    comes_to false rules configs [] past last from end before.before before.delivered_by m one B
    late le (left.stays false rules configs [] past last from end before.before
    before.delivered_by h) in
    let there : IsMoving false rules configs [] (past ++ f ∷ []) (moment_in f) (moment_in f) end
    before.before before.delivered_by new C =
    comes_at false f one new B C tt released does rules configs [] past end before.before
    before.delivered_by (subst (λ (k : ℕ). k ≤ end) (sym at_m) within)
    (subst (λ (k : ℕ). IsMoving false rules configs [] past k k end before.before
    before.delivered_by one B) (sym at_m) comes) in
    let next : suc n ≡ n + 1 = omega arith in
    let taken : past ++ f ∷ [] ≡ take (n + 1) (filed_in due) =
    sym (front_more due n e is) ∙ ap (λ (k : ℕ). take k (filed_in due)) next in
    subst (λ (c : FrameCount). IsMoving false rules configs [] (take (n + 1) (filed_in due)) m m
    end c.before c.delivered_by new C) (sym left.count)
    (subst (λ (k : ℕ). IsMoving false rules configs [] (take (n + 1) (filed_in due)) k k end
    before.before before.delivered_by new C) at_m
    (subst (λ (l : List Filed). IsMoving false rules configs [] l (moment_in f) (moment_in f) end
    before.before before.delivered_by new C) taken there))

-- ---- the end

-- what is late comes after the end
late_from : (end : ℕ) (late : List Filed) → AllByRecursion (λ e. end < moment_in e) late
    → IsFrom (suc end) late
late_from end [] h = tt
late_from end (f ∷ late) h = let lt = h.0 in (omega (arith, lt), late_from end late h.1)

none_late : (end : ℕ) (late : List Filed) → AllByRecursion (λ e. end < moment_in e) late
    → NoneWaits end (map of_file late)
none_late end [] h = tt
none_late end (f ∷ late) h = h.0

rises_behind : (due late : List Filed) → Rises (due ++ late) → Rises late
rises_behind [] late h = h
rises_behind (f ∷ due) late h = rises_behind due late h.1

all_later : (m : ℕ) (ws : List Pending) → AllByRecursion (λ p. suc m ≤ at p) ws
    → AllByRecursion (λ p. m < at p) ws
all_later m [] h = tt
all_later m (p ∷ ws) h = let le = h.0 in (omega (arith, le), all_later m ws h.1)

-- Nothing waits up to the last moment, and all that is due of the file was taken: it is the run of
-- an air over that file.
pub filed_over : (rules : Rules) (configs : List Config) (file due : List Filed)
    (last from end counted by : ℕ) (run : Run) (A : List Event → List Entry → Type 0)
    → AreDue file end due → All (λ w. end + 1 ≤ w.moment) run.queue.own → from ≤ end + 1
    → IsMoving false rules configs [] due last from end counted by run A
    → IsTimedRun (rules_beside [] end rules) configs file run.world A
filed_over rules configs file due last from end counted by run A are_due late_own near h =
    let parts = due_and_late file due end are_due in
    let late : List Filed = parts.0 in
    let r : Rules = rules_beside [] end h.now in
    let ended : AirModel = beside [] late h.air in
    let none : NoneWaits end h.air.timetable.waiting =
    none_waits_after run.queue run.draws h.air.timetable end late_own
    h.timed.keeps in
    let sorted : schedule_all (map of_file file) []
    ≡ schedule_all (map of_file (due ++ late)) [] =
    parts.3 ∙ sym (schedule_all_in_order (map of_file (due ++ late))
    (file_in_order (due ++ late) parts.2)) in
    let opened : (cs : List Config) → air_opening r cs file ≡ air_opening r cs (due ++ late) =
    λ cs. ap (λ (ws : List Pending). record {
      done = [];
      timetable = schedule_traffic r.present r.every (length cs)
          (schedule_first_ticks r.present (cond r.beacons (length cs) 0)
          (record { waiting = ws; draws = draws_of r.seed }));
      present = r.present;
    }) sorted in
    let same : air_run r h.all h.steps (air_opening r h.all file) ≡ ended =
    ap (λ (cs : List Config). air_run r cs h.steps (air_opening r cs file))
    (sym (append-nil h.all))
    ∙ ap (air_run r (h.all ++ []) h.steps) (opened (h.all ++ []))
    ∙ h.reached.leads [] late end refl (omega arith) (rises_behind due late parts.2)
    (from_near late (late_from end late parts.1)) in
    let over : NoneWaits end (schedule_all h.air.timetable.waiting (map of_file late)) =
    schedule_all_above end h.air.timetable.waiting (map of_file late) (none_late end late parts.1)
    (all_later end h.air.timetable.waiting
    (all_from_first end h.air.timetable.waiting h.reached.in_order none)) in
    let here : IsTimedRun r h.all file run.world A =
    record {
      steps = h.steps;
      over = subst (λ (x : AirModel). NoneWaits end x.timetable.waiting) (sym same) over;
      run = subst (λ (es : List Event). IsSimulated h.all es run.world A)
          (sym (ap (λ (x : AirModel). x.done) same)) h.timed.told;
    } in
    subst (λ (cs : List Config). IsTimedRun (rules_beside [] end rules) cs file run.world A)
    (h.are_all ∙ append-nil configs)
    (subst (λ (x : Rules). IsTimedRun x h.all file run.world A)
    (rules_at_end rules [] end h.now h.are_now) here)
  where
    from_near : (late : List Filed) → IsFrom (suc end) late → IsFrom from late
    from_near [] g = tt
    from_near (f ∷ late) g = let le = g.0 in (omega (arith, le, near), from_near late g.1)

-- ---- the beginning

-- nothing is done yet
pub filing_begins : (rules : Rules) (configs : List Config) (f : FiledRun)
    (Took : List Event → List Entry → Type 0) → f.run.contentions ≡ None → GoesBy rules f.run
    → f.run.present.items ≡ rules.present → RepresentsWorld f.run.world (opening configs)
    → HoldsOfSchedules configs (opening configs)
    → Keeps f.run.queue f.run.draws (air_opening rules configs []).timetable
    → f.run.world.released ≡ 0 → f.taken ≡ 0 → f.count.before ≡ 0 → f.count.delivered_by ≡ 0
    → Took [] [] → IsFiling rules configs f Took
filing_begins rules configs f Took steady goes present stands laws keeps released taken counted by took =
    record {
      last = 0;
      from = 0;
      moving =
          subst (λ (n : ℕ). IsMoving false rules configs [] (take n (filed_in f.due.items)) 0 0
          f.end f.count.before f.count.delivered_by f.run Took) (sym taken)
          (subst (λ (n : ℕ). IsMoving false rules configs [] [] 0 0 f.end n f.count.delivered_by
          f.run Took) (sym counted)
          (subst (λ (n : ℕ). IsMoving false rules configs [] [] 0 0 f.end 0 n f.run Took) (sym by)
          (begun false rules configs f.end f.run Took tt steady goes present stands laws keeps released
          took)));
      next = λ e is. omega arith;
      near = omega arith;
    }
