-- A run with moves that is under way, as the run of an air.
use Rattle.std.proofs.Common.{◌≡◌, ℕ, zero, suc, ◌+◌, ◌≤◌, ◌<◌, List, [], ◌∷◌, ◌++◌, refl, sym, ap}
use Rattle.std.proofs.Common.{subst, ◌∙◌, length, arith, All, Bool, true, false, cond}
use Rattle.std.proofs.Common.{append_assoc, append-nil, Option, Some, None, Result, Ok, Err}
use Rattle.std.specs.Prelude.{Vec, OnOk, IfSome, max, min, ◌%◌}
use Rattle.std.specs.declared.alloc.Global.{Global}
use Rattle.std.specs.BinaryHeap.{IsUpperBound}
use Rattle.std.specs.List.{AllByRecursion}
use Rattle.std.specs.List.Sorted.{IsPermutation}
use Rattle.its_model.specs.World.{Config, Event, What, WorldModel, opening, world_run}
use Rattle.its_model.specs.World.What.{Calls, Deliver}
use Rattle.its_model.specs.EverySchedule.{HoldsOfSchedules}
use Rattle.its_model.specs.World.{entries}
use Rattle.sim_simulation.specs.Simulated.{IsSimulated, IsSimulation}
use Rattle.its_world.specs.Entries.{AreEntries, Entry}
use Rattle.its_world.proofs.Late.{were_there}
use Rattle.its_world.proofs.Worlds.{count_kept, length_stations}
use Rattle.its_world.specs.State.{WorldState, RepresentsWorld}
use Rattle.its_world.specs.Steps.{IsKept}
use Rattle.sim_air_model.specs.Timetable.{moment_in}
use Rattle.sim_air.specs.AirTimed.{IsTimedRun}
use Rattle.sim_air.specs.Beside.{AreKnown, IsOwnOf, InOrder, IsThere, rules_beside, absent}
use Rattle.sim_air.specs.Beside.{station_of_pending}
use Rattle.sim_air.specs.Keeps.{GoesBy, IsTimed}
use Rattle.sim_queue.specs.Keeps.{Keeps}
use Rattle.sim_air.specs.Moving.{Awaits, AwaitsFrame, IsMoving, IsMovedRun, IsTaken, DoesAt}
use Rattle.sim_air.specs.Moving.{DoesTaken, StaysMoving, without_first}
use Rattle.sim_air.specs.Outside.{IsOutside, station_of_filed}
use Rattle.sim_air.specs.FileEvents.{filed_of}
use Rattle.sim_queue.specs.Waiting.{own_of, waiting_cmp}
use Rattle.sim_scenario.specs.Events.{station_in}
use Rattle.sim_scenario.specs.declared.events.event.AddressedEvent.{AddressedEvent}
use Rattle.sim_settings.specs.declared.moves.Moves.{Moves}
use Rattle.sim_scenario.specs.declared.events.event.FileEvent.TheVariants as files
use Rattle.sim_air.specs.Runs.{SaysAsBefore}
use Rattle.sim_air_model.specs.Timetable.{AirModel, Filed, Pending, Planned, Rules, Timetable}
use Rattle.sim_air_model.specs.Timetable.{Traffic}
use Rattle.sim_air_model.specs.Timetable.{at}
use Rattle.sim_air_model.specs.Timetable.{NoneWaits, air_opening, by_file, delivery, given}
use Rattle.sim_air_model.specs.Timetable.{draw}
use Rattle.sim_air_model.specs.Timetable.{is_passed_over, of_file, sending}
use Rattle.sim_air_model.specs.Timetable.{take_one, tick}
use Rattle.sim_air_model.specs.Timetable.{do_one, schedule_first_sends, schedule_first_ticks}
use Rattle.sim_air_model.specs.Timetable.{schedule_send, schedule_tick}
use Rattle.sim_air_model.specs.Timetable.{schedule_traffic, with_file, with_ticks, is_present}
use Rattle.sim_air_model.specs.Timetable.Filed.{Happens, Leaves}
use Rattle.sim_air_model.specs.Timetable.Pending.{Does, Departs}
use Rattle.sim_queue.specs.Waits.{Waits, pending_of, planned_of}
use Rattle.sim_air.specs.declared.run.Run.{Run}
use Rattle.sim_queue.specs.declared.queue.Queue.{Queue}
use Rattle.sim_queue.specs.declared.scheduled.Scheduled.{Scheduled}
use Rattle.sim_air.proofs.BesideFrames.{frame_is_new, next_frame}
use Rattle.sim_air.proofs.BesideOpening.{reached_opening}
use Rattle.sim_air.proofs.BesideOrder.{all_by, all_put}
use Rattle.sim_air.proofs.BesideReached.{reached_later, reached_made, reached_over}
use Rattle.sim_air.proofs.BesideSteps.{reached_coming, reached_own}
use Rattle.sim_air.proofs.BesideTaken.{taken_all}
use Rattle.sim_air.proofs.Keeping.{goes_on}
use Rattle.sim_air.proofs.BesideMade.{stations_of_run}
use Rattle.sim_air.proofs.Under.{told_on}
use Rattle.sim_queue.proofs.Waits.{waits_none, waits_own}
use Rattle.std.proofs.Common.{◌⊎◌, inl, inr}
use Rattle.std.proofs.Math.Nat.{le-max_left, max-le, min-le_left}
use Rattle.std.proofs.lemmas.Bool.{cases_lt}
use Rattle.std.proofs.lemmas.List.{length-append}
use Rattle.sim_scenario.specs.declared.events.event.FileEvent.{FileEvent}

-- there are as many stations as configs
pub as_many : (configs : List Config) (events : List Event) (world : WorldState)
    (Took : List Event → List Entry → Type 0) → IsSimulated configs events world Took
    → length world.stations ≡ length configs
as_many configs events world Took h =
    length_stations world.stations (world_run (opening configs) events).stations h.stands.stations
    ∙ stations_of_run configs events

-- of a run that is under way: those of the scenario and those that were made
pub stations_made : (grows : Bool) (rules : Rules) (configs made : List Config) (past : List Filed)
    (last from end counted by : ℕ) (run : Run) (A : List Event → List Entry → Type 0)
    → IsMoving grows rules configs made past last from end counted by run A
    → length run.world.stations ≡ length configs + length made
stations_made grows rules configs made past last from end counted by run A h =
    as_many h.all h.air.done run.world A h.timed.told ∙ ap length h.are_all
    ∙ length-append configs made

-- ---- what waits

-- the first is taken
takes_first : (old new : Queue) (words : List ℕ) (t : Timetable) (w : Scheduled)
    → new.pushed ≡ old.pushed → IsPermutation old.own (w ∷ new.own)
    → IsUpperBound waiting_cmp w new.own → Keeps old words t
    → (rest : List Pending) × (t.waiting ≡ pending_of w ∷ rest)
    × Keeps new words (record { waiting = rest; draws = t.draws })
takes_first old new words t w pushed moves first h =
    let got = waits_own w old.own new.own old.pushed t.waiting moves first h.waits in (
      got.0,
      got.1,
      record {
        waits = subst (λ n. Waits new.own n got.0) (sym pushed) got.2;
        draws = h.draws;
      },
    )

-- none is taken
takes_none : (old new : Queue) (words : List ℕ) (t : Timetable) → new.pushed ≡ old.pushed
    → new.own ≡ old.own → Keeps old words t → Keeps new words t
takes_none old new words t pushed heap h =
    record {
      waits = subst (λ (hs : List Scheduled). Waits hs new.pushed t.waiting) (sym heap)
          (subst (λ n. Waits old.own n t.waiting) (sym pushed) h.waits);
      draws = h.draws;
    }

pub all_from_first : (m : ℕ) (ws : List Pending) → InOrder ws → NoneWaits m ws
    → AllByRecursion (λ p. suc m ≤ at p) ws
all_from_first m [] order none = tt
all_from_first m (p ∷ ws) order none =
    let lt : m < at p = none in (
      omega (arith, lt),
      all_by (λ q. at p ≤ at q) (λ q. suc m ≤ at q) ws (λ q le. omega (arith, le, lt)) order.0,
    )

-- all that wait come from a moment on, as those in the heap do
pub waits_from : (configs : List Config) (old : Queue) (words : List ℕ) (t : Timetable)
    (moment : ℕ) → All (λ w. moment ≤ w.moment) old.own
    → AllByRecursion (IsOwnOf configs) t.waiting → InOrder t.waiting → Keeps old words t
    → AllByRecursion (λ p. moment ≤ at p) t.waiting
waits_from configs old words t zero late own order h =
    all_by (IsOwnOf configs) (λ p. 0 ≤ at p) t.waiting (λ p any. omega arith) own
waits_from configs old words t (suc m) late own order h =
    all_from_first m t.waiting order (waits_none old.own old.pushed m t.waiting
    (λ k d lt. let le = late k d lt in omega (arith, le)) h.waits)

pub none_waits_after : (old : Queue) (words : List ℕ) (t : Timetable) (end : ℕ)
    → All (λ w. end + 1 ≤ w.moment) old.own → Keeps old words t → NoneWaits end t.waiting
none_waits_after old words t end late h =
    waits_none old.own old.pushed end t.waiting
    (λ k d lt. let le = late k d lt in omega (arith, le)) h.waits

-- ---- the deliveries that wait

frame_later : (released counted by latest later moment : ℕ) (what : What) → latest ≤ later
    → AwaitsFrame released counted by latest moment what
    → AwaitsFrame released counted by later moment what
frame_later released counted by latest later moment (Calls call) le h = tt
frame_later released counted by latest later moment (Deliver k) le h =
    let soon = h.2 in (h.0, h.1, omega (arith, le, soon))

pub awaits_later : (released counted by latest later : ℕ) → latest ≤ later → (p : Pending)
    → Awaits released counted by latest p → Awaits released counted by later p
awaits_later released counted by latest later le (Does p) h =
    frame_later released counted by latest later p.event.moment p.event.what le h
awaits_later released counted by latest later le (Departs station moment) h = tt

-- frames are let go, and those that were given are counted again
frame_let_go : (released counted by latest moment m gone count : ℕ) (what : What) → by < moment
    → moment ≤ m → ((k : ℕ) → released ≤ k → counted ≤ k → gone ≤ k)
    → AwaitsFrame released counted by latest m what
    → AwaitsFrame gone count latest latest m what
frame_let_go released counted by latest moment m gone count (Calls call) lt le most h = tt
frame_let_go released counted by latest moment m gone count (Deliver k) lt le most h =
    either (cases_lt k counted)
  where
    either : (k < counted) ⊎ (counted ≤ k)
        → (gone ≤ k) × (k < count → m ≤ latest) × (m ≤ latest)
    either (inl before) = let soon = h.1 before in absurd (omega (arith, soon, lt, le))
    either (inr kept) = (most k h.0 kept, λ any. h.2, h.2)

pending_let_go : (released counted by latest moment gone count : ℕ) (p : Pending) → by < moment
    → moment ≤ at p → ((k : ℕ) → released ≤ k → counted ≤ k → gone ≤ k)
    → Awaits released counted by latest p → Awaits gone count latest latest p
pending_let_go released counted by latest moment gone count (Does p) lt le most h =
    frame_let_go released counted by latest moment p.event.moment gone count p.event.what lt le
    most h
pending_let_go released counted by latest moment gone count (Departs station m) lt le most h = tt

pub let_go : (released counted by latest moment gone count : ℕ) (ws : List Pending)
    → by < moment → ((k : ℕ) → released ≤ k → counted ≤ k → gone ≤ k)
    → AllByRecursion (λ p. moment ≤ at p) ws
    → AllByRecursion (Awaits released counted by latest) ws
    → AllByRecursion (Awaits gone count latest latest) ws
let_go released counted by latest moment gone count [] lt most from h = tt
let_go released counted by latest moment gone count (p ∷ ws) lt most from h = (
  pending_let_go released counted by latest moment gone count p lt from.0 most h.0,
  let_go released counted by latest moment gone count ws lt most from.1 h.1,
)

-- no more than the greater of two
pub no_more : (released counted total k : ℕ) → released ≤ k → counted ≤ k
    → max released (min counted total) ≤ k
no_more released counted total k kept counted_no =
    let least = min-le_left counted total in
    max-le kept (omega (arith, least, counted_no))

-- ---- what is put once an event was done

-- a new delivery is of a frame that is kept and wasn't counted
awaits_new : (now : Rules) (all : List Config) (done : List Event) (e : Event)
    (released counted by k j : ℕ)
    → given (world_run (opening all) (done ++ e ∷ [])).log ≡ Some k
    → released ≤ length (world_run (opening all) done).air
    → counted ≤ length (world_run (opening all) done).air
    → Awaits released counted by (e.moment + now.delay)
    (Does (delivery k (e.moment + now.delay) j))
awaits_new now all done e released counted by k j gave kept were =
    let is : k ≡ length (world_run (opening all) done).air =
    (frame_is_new all done e k gave).0 in (
      omega (arith, is, kept),
      λ lt. absurd (omega (arith, is, were, lt)),
      omega arith,
    )

-- how many frames were let go, is no more than there are
released_of : (all : List Config) (events : List Event) (world : WorldState)
    (Took : List Event → List Entry → Type 0) → IsSimulated all events world Took
    → world.released ≤ length (world_run (opening all) events).air
released_of all events world Took h = h.stands.released

-- after an event what waits comes no earlier
since_after : (now : Rules) (all : List Config) (a : AirModel) (p : Planned) (t : Timetable)
    → AllByRecursion (λ q. p.event.moment ≤ at q) t.waiting
    → AllByRecursion (λ q. p.event.moment ≤ at q) (take_one now all a (Does p) t).timetable.waiting
since_after now all a p t h =
    taken_all (λ q. p.event.moment ≤ at q) now all a p t
    (λ b j. le-max_left p.event.moment (b + j)) (λ x m le. le) (λ k j gave lt. omega arith) h

-- and all its deliveries are of frames that are kept
frames_after : (now : Rules) (all : List Config) (a : AirModel) (p : Planned) (t : Timetable)
    (released counted by : ℕ) → released ≤ length (world_run (opening all) a.done).air
    → counted ≤ length (world_run (opening all) a.done).air
    → AllByRecursion (Awaits released counted by (p.event.moment + now.delay)) t.waiting
    → AllByRecursion (Awaits released counted by (p.event.moment + now.delay))
    (take_one now all a (Does p) t).timetable.waiting
frames_after now all a p t released counted by kept were h =
    taken_all (Awaits released counted by (p.event.moment + now.delay)) now all a p t
    (λ b j. tt) (λ x m le. tt)
    (λ k j gave lt. awaits_new now all a.done p.event released counted by k j gave kept were) h

-- there are no fewer frames then
no_fewer_after : (now : Rules) (all : List Config) (a : AirModel) (p : Planned) (t : Timetable)
    → length (world_run (opening all) a.done).air
    ≤ length (world_run (opening all) (take_one now all a (Does p) t).done).air
no_fewer_after now all a p t = by (is_passed_over a.present p)
  where
    by : (b : Bool) → length (world_run (opening all) a.done).air
        ≤ length (world_run (opening all) (cond b
        (record { done = a.done; timetable = t; present = a.present })
        (do_one now all a p t)).done).air
    by true = omega arith
    by false = (next_frame (opening all) a.done p.event).no_fewer

-- ---- steps

-- what a run has once what came from outside was taken
coming_taken : (grows : Bool) (rules : Rules) (configs made : List Config) (past : List Filed)
    (f : Filed) (end counted by : ℕ)
    (old new : Run) (A B : List Event → List Entry → Type 0) → moment_in f ≤ end
    → IsThere grows (length old.world.stations) (station_of_pending (of_file f))
    → new.world.released ≡ old.world.released
    → ((r : Rules) (cs : List Config) (a : AirModel) → IsTimed r cs a old A
    → IsTimed r cs (take_one r cs a (of_file f) a.timetable) new B)
    → IsMoving grows rules configs made past (moment_in f) (moment_in f) end counted by old A
    → IsMoving grows rules configs made (past ++ f ∷ []) (moment_in f) (moment_in f) end counted by
    new B
coming_taken grows rules configs made past (Happens e) end counted by old new A B within there
    released does h =
    let many = as_many h.all h.air.done old.world A h.timed.told in
    let kept = released_of h.all h.air.done old.world A h.timed.told in
    record {
      all = h.all;
      now = h.now;
      are_all = h.are_all;
      are_now = h.are_now;
      steps = suc h.steps;
      air = take_one h.now h.all h.air (Does (by_file e)) h.air.timetable;
      timed = does h.now h.all h.air h.timed;
      reached =
          reached_coming grows h.now h.all h.steps past e.moment end end h.air (Happens e)
          h.reached (omega arith) h.since (omega arith) within
          (subst (λ n. IsThere grows n e.station) many there);
      recent = omega arith;
      near = omega arith;
      since = since_after h.now h.all h.air (by_file e) h.air.timetable h.since;
      frames =
          frames_after h.now h.all h.air (by_file e) h.air.timetable new.world.released counted by
          (omega (arith, released, kept)) h.few
          (subst (λ n. AllByRecursion (Awaits n counted by (e.moment + h.now.delay))
          h.air.timetable.waiting) (sym released) h.frames);
      few =
          let more = no_fewer_after h.now h.all h.air (by_file e) h.air.timetable in
          let were = h.few in omega (arith, more, were);
    }
coming_taken grows rules configs made past (Leaves n m) end counted by old new A B within there
    released does h =
    let many = as_many h.all h.air.done old.world A h.timed.told in
    record {
      all = h.all;
      now = h.now;
      are_all = h.are_all;
      are_now = h.are_now;
      steps = suc h.steps;
      air = take_one h.now h.all h.air (Departs n m) h.air.timetable;
      timed = does h.now h.all h.air h.timed;
      reached =
          reached_coming grows h.now h.all h.steps past m end end h.air (Leaves n m) h.reached
          (omega arith) h.since (omega arith) within (subst (λ k. IsThere grows k n) many there);
      recent = omega arith;
      near = omega arith;
      since = h.since;
      frames =
          subst (λ k. AllByRecursion (Awaits k counted by (m + h.now.delay))
          h.air.timetable.waiting) (sym released) h.frames;
      few = h.few;
    }

pub comes_at : (grows : Bool) (f : Filed) (old new : Run) (A B : List Event → List Entry → Type 0)
    → IsThere grows (length old.world.stations) (station_of_pending (of_file f))
    → new.world.released ≡ old.world.released
    → ((r : Rules) (cs : List Config) (a : AirModel) → IsTimed r cs a old A
    → IsTimed r cs (take_one r cs a (of_file f) a.timetable) new B)
    → DoesAt grows (moment_in f) (f ∷ []) old A new B
comes_at grows f old new A B there released does = λ rules configs made past end counted by within
    h.
    coming_taken grows rules configs made past f end counted by old new A B within there released
    does h

-- a station that is there is there, whether stations may be made or not
pub is_there : (grows : Bool) (count station : ℕ) → station < count → IsThere grows count station
is_there true count station lt = lt
is_there false count station lt = tt

-- the same of an event
pub event_comes_at : (grows : Bool) (e : Event) (old new : Run)
    (A B : List Event → List Entry → Type 0)
    → e.station < length old.world.stations → new.world.released ≡ old.world.released
    → ((r : Rules) (cs : List Config) (a : AirModel) → IsTimed r cs a old A
    → IsTimed r cs (take_one r cs a (Does (by_file e)) a.timetable) new B)
    → DoesAt grows e.moment (Happens e ∷ []) old A new B
event_comes_at grows e old new A B there released does =
    comes_at grows (Happens e) old new A B
    (is_there grows (length old.world.stations) e.station there) released does

-- where it was done well
pub comes_well : {X E : Type 0} (result : Result X E) (grows : Bool) (f : Filed) (old new : Run)
    (A B : List Event → List Entry → Type 0)
    → IsThere grows (length old.world.stations) (station_of_pending (of_file f))
    → new.world.released ≡ old.world.released
    → ((r : Rules) (cs : List Config) (a : AirModel) → IsTimed r cs a old A
    → OnOk result (IsTimed r cs (take_one r cs a (of_file f) a.timetable) new B))
    → OnOk result (DoesAt grows (moment_in f) (f ∷ []) old A new B)
comes_well (Ok x) grows f old new A B there released does =
    comes_at grows f old new A B there released does
comes_well (Err e) grows f old new A B there released does = tt

pub same_station : (f : FileEvent) → station_of_pending (of_file (filed_of f)) ≡ station_in f
same_station (files.Happens e) = refl
same_station (files.Leaves station moment) = refl

pub station_filed : (f : FileEvent) → station_of_filed (filed_of f) ≡ station_in f
station_filed (files.Happens e) = refl
station_filed (files.Leaves station moment) = refl

-- nothing comes
pub none_at : (grows : Bool) (moment : ℕ) (run : Run) (A : List Event → List Entry → Type 0)
    → DoesAt grows moment [] run A run A
none_at grows moment run A = λ rules configs made past end counted by within h.
    subst (λ (p : List Filed). IsMoving grows rules configs made p moment moment end counted by run
    A)
    (sym (append-nil past)) h

-- the first of the air's own is done
pub own_taken : (w : Scheduled) (old new : Run) (A B : List Event → List Entry → Type 0)
    → new.world.released ≡ old.world.released
    → ((r : Rules) (cs : List Config) (a : AirModel) → IsTimed r cs a old A
    → IsTimed r cs (take_one r cs a (pending_of w) a.timetable) new B)
    → DoesTaken w old A new B
own_taken w old new A B released does = λ grows rules configs made past from end counted by h.
    let kept = released_of h.all h.air.done old.world A h.timed.told in
    let t : Timetable = record { waiting = h.rest; draws = h.air.timetable.draws } in
    let order : InOrder (pending_of w ∷ h.rest) = subst InOrder h.first h.reached.in_order in
    record {
      all = h.all;
      now = h.now;
      are_all = h.are_all;
      are_now = h.are_now;
      steps = suc h.steps;
      air = take_one h.now h.all h.air (pending_of w) t;
      timed = does h.now h.all (without_first h.air h.rest) h.timed;
      reached =
          let near = h.recent in
          reached_own grows h.now h.all h.steps past from (w.moment + 1) end end h.air (planned_of
          w)
          h.rest h.reached h.first near (omega arith) (omega arith) h.within;
      recent = omega arith;
      near = omega arith;
      since = since_after h.now h.all h.air (planned_of w) t order.0;
      frames =
          frames_after h.now h.all h.air (planned_of w) t new.world.released counted by
          (omega (arith, released, kept)) h.few
          (subst (λ n. AllByRecursion (Awaits n counted by (w.moment + h.now.delay)) h.rest)
          (sym released) h.frames.1);
      few =
          let more = no_fewer_after h.now h.all h.air (planned_of w) t in
          let were = h.few in omega (arith, more, were);
    }

-- where it was done well
pub own_well : {X E : Type 0} (result : Result X E) (w : Scheduled) (old new : Run)
    (A B : List Event → List Entry → Type 0) → new.world.released ≡ old.world.released
    → ((r : Rules) (cs : List Config) (a : AirModel) → IsTimed r cs a old A
    → OnOk result (IsTimed r cs (take_one r cs a (pending_of w) a.timetable) new B))
    → OnOk result (DoesTaken w old A new B)
own_well (Ok x) w old new A B released does = own_taken w old new A B released does
own_well (Err e) w old new A B released does = tt

-- its station is there
taken_there : (grows : Bool) (rules : Rules) (configs made : List Config) (past : List Filed)
    (from end counted by : ℕ) (w : Scheduled)
    (run : Run) (A : List Event → List Entry → Type 0)
    → IsTaken grows rules configs made past from end counted by w run A
    → w.station < length run.world.stations
taken_there grows rules configs made past from end counted by w run A h =
    let own : AllByRecursion (IsOwnOf h.all) (pending_of w ∷ h.rest) =
    subst (AllByRecursion (IsOwnOf h.all)) h.first h.reached.own in
    let many = as_many h.all h.air.done run.world A h.timed.told in
    let lt = own.0.1 in omega (arith, many, lt)

kept_of : (released counted by latest moment : ℕ) (what : What)
    → AwaitsFrame released counted by latest moment what → IsKept released what
kept_of released counted by latest moment (Calls call) h = tt
kept_of released counted by latest moment (Deliver k) h = h.0

-- and the frame that it delivers is kept, so it can be done
pub always_done : (w : Scheduled) (can : Bool) (run : Run) (A B : List Event → List Entry → Type 0)
    → (w.station < length run.world.stations → IsKept run.world.released (own_of w.own)
    → can ≡ true)
    → can ≡ false → DoesTaken w run A run B
always_done w can run A B does not = λ grows rules configs made past from end counted by h.
    let is = does (taken_there grows rules configs made past from end counted by w run A h)
    (kept_of run.world.released counted by (w.moment + h.now.delay) w.moment (own_of w.own)
    h.frames.0) in
    let no : ⊥ = cc in absurd no

-- ---- of a run that has come so far

-- the frames that a world has, and those that it let go, are all of them
frames_in_all : (world : WorldState) (w : WorldModel) → RepresentsWorld world w
    → length w.air ≡ world.released + length world.frames
frames_in_all world w h =
    sym (count_kept world.released world.frames w.air h.released h.frames)

-- ---- between the steps

-- the first of the air's own was taken from what waits, and isn't done yet
pub is_taken : (grows : Bool) (rules : Rules) (configs made : List Config) (past : List Filed)
    (last from end counted by : ℕ)
    (old new : Run) (A : List Event → List Entry → Type 0) (w : Scheduled) → new.air ≡ old.air
    → new.every ≡ old.every → new.world ≡ old.world → new.present ≡ old.present
    → new.draws ≡ old.draws → new.contentions ≡ old.contentions
    → new.queue.pushed ≡ old.queue.pushed
    → IsPermutation old.queue.own (w ∷ new.queue.own)
    → IsUpperBound waiting_cmp w new.queue.own → w.moment ≤ end
    → IsMoving grows rules configs made past last from end counted by old A
    → IsTaken grows rules configs made past from end counted by w new A
is_taken grows rules configs made past last from end counted by old new A w air every world present
    draws contentions pushed moves first within h =
    let got = takes_first old.queue new.queue old.draws h.air.timetable w pushed moves first
    h.timed.keeps in
    let since : AllByRecursion (λ p. last ≤ at p) (pending_of w ∷ got.0) =
    subst (AllByRecursion (λ p. last ≤ at p)) got.1 h.since in
    let near = h.near in
    let le = since.0 in
    record {
      all = h.all;
      now = h.now;
      are_all = h.are_all;
      are_now = h.are_now;
      steps = h.steps;
      air = h.air;
      rest = got.0;
      first = got.1;
      timed =
          record {
            goes_by = goes_on h.now old new h.timed.goes_by air every;
            present = ap (λ (v : Vec Bool Global). v.items) present ∙ h.timed.present;
            told = subst (λ (x : WorldState). IsSimulated h.all h.air.done x A) (sym world)
                h.timed.told;
            keeps = subst (λ (ws : List ℕ). Keeps new.queue ws (record {
              waiting = got.0;
              draws = h.air.timetable.draws;
            })) (sym draws) got.2;
            steady = contentions ∙ h.timed.steady;
          };
      reached = h.reached;
      recent = omega (arith, near, le);
      within = within;
      frames =
          subst (λ (x : WorldState). AllByRecursion (Awaits x.released counted by
          (w.moment + h.now.delay)) (pending_of w ∷ got.0)) (sym world)
          (all_by (Awaits old.world.released counted by (last + h.now.delay))
          (Awaits old.world.released counted by (w.moment + h.now.delay)) (pending_of w ∷ got.0)
          (awaits_later old.world.released counted by (last + h.now.delay)
          (w.moment + h.now.delay) (omega (arith, le)))
          (subst (AllByRecursion (Awaits old.world.released counted by (last + h.now.delay)))
          got.1 h.frames));
      few = h.few;
    }

-- frames were let go while it was taken
pub still_taken : (grows : Bool) (rules : Rules) (configs made : List Config) (past : List Filed)
    (from end counted by counted' by' : ℕ)
    (old new : Run) (A : List Event → List Entry → Type 0) (w : Scheduled) → new.air ≡ old.air
    → new.every ≡ old.every → new.queue ≡ old.queue → new.draws ≡ old.draws
    → new.present ≡ old.present → (old.contentions ≡ None → new.contentions ≡ None)
    → ((x : WorldModel) → RepresentsWorld old.world x → RepresentsWorld new.world x)
    → ((count : ℕ) → counted ≤ count
    → count ≡ old.world.released + length old.world.frames → counted' ≤ count)
    → ((waiting : List Pending) → AllByRecursion (λ p. w.moment ≤ at p) waiting
    → AllByRecursion (Awaits old.world.released counted by (w.moment + old.air.delay)) waiting
    → AllByRecursion (Awaits new.world.released counted' by' (w.moment + old.air.delay)) waiting)
    → IsTaken grows rules configs made past from end counted by w old A
    → IsTaken grows rules configs made past from end counted' by' w new A
still_taken grows rules configs made past from end counted by counted' by' old new A w air every
    queue
    draws
    present
    none
    stands count frames h =
    let told = h.timed.told in
    let delay : old.air.delay ≡ h.now.delay = ap (λ (r : Rules). r.delay) h.timed.goes_by in
    let order : InOrder (pending_of w ∷ h.rest) = subst InOrder h.first h.reached.in_order in
    let moment : w.moment ≤ w.moment = omega arith in
    record {
      all = h.all;
      now = h.now;
      are_all = h.are_all;
      are_now = h.are_now;
      steps = h.steps;
      air = h.air;
      rest = h.rest;
      first = h.first;
      timed =
          record {
            goes_by = goes_on h.now old new h.timed.goes_by air every;
            present = ap (λ (v : Vec Bool Global). v.items) present ∙ h.timed.present;
            told =
                record {
                  stands = stands (world_run (opening h.all) h.air.done) told.stands;
                  laws = told.laws;
                  log = told.log;
                  told = told.told;
                  took = told.took;
                };
            keeps =
                subst (λ (q : Queue). Keeps q new.draws (record {
                  waiting = h.rest;
                  draws = h.air.timetable.draws;
                })) (sym queue)
                (subst (λ (ws : List ℕ). Keeps old.queue ws (record {
                  waiting = h.rest;
                  draws = h.air.timetable.draws;
                })) (sym draws) h.timed.keeps);
            steady = none h.timed.steady;
          };
      reached = h.reached;
      recent = h.recent;
      within = h.within;
      frames =
          subst (λ n. AllByRecursion (Awaits new.world.released counted' by' (w.moment + n))
          (pending_of w ∷ h.rest)) delay
          (frames (pending_of w ∷ h.rest) (moment, order.0)
          (subst (λ n. AllByRecursion (Awaits old.world.released counted by (w.moment + n))
          (pending_of w ∷ h.rest)) (sym delay) h.frames));
      few =
          count (length (world_run (opening h.all) h.air.done).air) h.few
          (frames_in_all old.world (world_run (opening h.all) h.air.done) told.stands);
    }

-- none was taken
pub stays_moving : (old new : Run) (A : List Event → List Entry → Type 0) → new.air ≡ old.air
    → new.every ≡ old.every → new.world ≡ old.world → new.present ≡ old.present
    → new.draws ≡ old.draws → new.contentions ≡ old.contentions
    → new.queue.pushed ≡ old.queue.pushed → new.queue.own ≡ old.queue.own
    → StaysMoving old A new A
stays_moving old new A air every world present draws contentions pushed heap =
    λ grows rules configs made past last from end counted by h.
    record {
      all = h.all;
      now = h.now;
      are_all = h.are_all;
      are_now = h.are_now;
      steps = h.steps;
      air = h.air;
      timed =
          record {
            goes_by = goes_on h.now old new h.timed.goes_by air every;
            present = ap (λ (v : Vec Bool Global). v.items) present ∙ h.timed.present;
            told = subst (λ (x : WorldState). IsSimulated h.all h.air.done x A) (sym world)
                h.timed.told;
            keeps = subst (λ (ws : List ℕ). Keeps new.queue ws h.air.timetable) (sym draws)
                (takes_none old.queue new.queue old.draws h.air.timetable pushed heap h.timed.keeps);
            steady = contentions ∙ h.timed.steady;
          };
      reached = h.reached;
      recent = h.recent;
      near = h.near;
      since = h.since;
      frames =
          subst (λ (x : WorldState). AllByRecursion (Awaits x.released counted by
          (last + h.now.delay)) h.air.timetable.waiting) (sym world) h.frames;
      few = h.few;
    }

-- what comes from outside is the next
pub comes_to : (grows : Bool) (rules : Rules) (configs made : List Config) (past : List Filed)
    (last from end counted by moment : ℕ) (run : Run) (A : List Event → List Entry → Type 0)
    → All (λ w. moment ≤ w.moment) run.queue.own → from ≤ moment
    → IsMoving grows rules configs made past last from end counted by run A
    → IsMoving grows rules configs made past moment moment end counted by run A
comes_to grows rules configs made past last from end counted by moment run A late le h =
    let recent = h.recent in
    record {
      all = h.all;
      now = h.now;
      are_all = h.are_all;
      are_now = h.are_now;
      steps = h.steps;
      air = h.air;
      timed = h.timed;
      reached = reached_later grows h.now h.all h.steps past from moment end end h.air h.reached le
          (omega arith);
      recent = omega arith;
      near = omega arith;
      since = waits_from h.all run.queue run.draws h.air.timetable moment late h.reached.own
          h.reached.in_order h.timed.keeps;
      frames =
          all_by (Awaits run.world.released counted by (last + h.now.delay))
          (Awaits run.world.released counted by (moment + h.now.delay)) h.air.timetable.waiting
          (awaits_later run.world.released counted by (last + h.now.delay)
          (moment + h.now.delay) (omega (arith, recent, le))) h.frames;
      few = h.few;
    }

-- rows were read: the last moment is later, perhaps
pub ends_later : (grows : Bool) (rules : Rules) (configs made : List Config) (past : List Filed)
    (last from end end' counted by : ℕ)
    (run : Run) (A : List Event → List Entry → Type 0) → end ≤ end'
    → IsMoving grows rules configs made past last from end counted by run A
    → IsMoving grows rules configs made past last from end' counted by run A
ends_later grows rules configs made past last from end end' counted by run A le h =
    record {
      all = h.all;
      now = h.now;
      are_all = h.are_all;
      are_now = h.are_now;
      steps = h.steps;
      air = h.air;
      timed = h.timed;
      reached = reached_later grows h.now h.all h.steps past from from end end' h.air h.reached
          (omega arith) le;
      recent = h.recent;
      near = h.near;
      since = h.since;
      frames = h.frames;
      few = h.few;
    }

-- the sink was told more, of which it says nothing
pub says_moving : (grows : Bool) (rules : Rules) (configs made : List Config) (past : List Filed)
    (last from end counted by : ℕ)
    (run : Run) (A B : List Event → List Entry → Type 0) → SaysAsBefore A B
    → IsMoving grows rules configs made past last from end counted by run A
    → IsMoving grows rules configs made past last from end counted by run B
says_moving grows rules configs made past last from end counted by run A B says h =
    record {
      all = h.all;
      now = h.now;
      are_all = h.are_all;
      are_now = h.are_now;
      steps = h.steps;
      air = h.air;
      timed =
          record {
            goes_by = h.timed.goes_by;
            present = h.timed.present;
            told = told_on h.all h.air.done run.world A B says h.timed.told;
            keeps = h.timed.keeps;
            steady = h.timed.steady;
          };
      reached = h.reached;
      recent = h.recent;
      near = h.near;
      since = h.since;
      frames = h.frames;
      few = h.few;
    }

-- ---- stations that are made

absent_more : (made : List Config) (c : Config) → absent (made ++ c ∷ []) ≡ absent made ++ false
    ∷ []
absent_more [] c = refl
absent_more (x ∷ made) c = ap (λ (l : List Bool). false ∷ l) (absent_more made c)

rules_more : (r : Rules) (made : List Config) (c : Config) (now : Rules)
    → now ≡ rules_beside made r.until r
    → rules_beside (c ∷ []) now.until now ≡ rules_beside (made ++ c ∷ []) r.until r
rules_more r made c now is =
    ap (λ (x : Rules). rules_beside (c ∷ []) x.until x) is
    ∙ ap (λ (l : List Bool). record {
      range = r.range;
      delay = r.delay;
      loss = r.loss;
      beacons = r.beacons;
      seed = r.seed;
      until = r.until;
      every = r.every;
      present = l;
    }) (append_assoc r.present (absent made) (false ∷ [])
    ∙ ap (λ (l : List Bool). r.present ++ l) (sym (absent_more made c)))

-- a station is made, and absent
pub one_made : (rules : Rules) (configs made : List Config) (past : List Filed)
    (last from end counted by : ℕ)
    (old new : Run) (A : List Event → List Entry → Type 0) (c : Config) → new.air ≡ old.air
    → new.every ≡ old.every → new.queue ≡ old.queue → new.draws ≡ old.draws
    → new.present.items ≡ old.present.items ++ false ∷ []
    → new.world.released ≡ old.world.released
    → (old.contentions ≡ None → new.contentions ≡ None)
    → ((cs : List Config) (events : List Event) → IsSimulation cs events old.world
    → All (λ e. e.station < length cs) events → IsSimulation (cs ++ c ∷ []) events new.world)
    → IsMoving true rules configs made past last from end counted by old A
    → IsMoving true rules configs (made ++ c ∷ []) past last from end counted by new A
one_made rules configs made past last from end counted by old new A c air every queue draws present
    released
    none
    adds h =
    let told = h.timed.told in
    let there = h.reached.done_there in
    let done = adds h.all h.air.done (record { stands = told.stands; laws = told.laws }) there in
    let same = were_there h.all c h.air.done there in
    record {
      all = h.all ++ c ∷ [];
      now = rules_beside (c ∷ []) h.now.until h.now;
      are_all = ap (λ (l : List Config). l ++ c ∷ []) h.are_all
          ∙ append_assoc configs made (c ∷ []);
      are_now = rules_more rules made c h.now h.are_now;
      steps = h.steps;
      air = record {
        done = h.air.done;
        timetable = h.air.timetable;
        present = h.air.present ++ false ∷ [];
      };
      timed =
          record {
            goes_by =
                ap (λ (r : Rules). rules_beside (c ∷ []) r.until r)
                (goes_on h.now old new h.timed.goes_by air every);
            present = present ∙ ap (λ (l : List Bool). l ++ false ∷ []) h.timed.present;
            told =
                record {
                  stands = done.stands;
                  laws = done.laws;
                  log = told.log;
                  told =
                      subst (λ (w : WorldModel). AreEntries told.log (entries w.log)) (sym same)
                      told.told;
                  took = told.took;
                };
            keeps =
                subst (λ (q : Queue). Keeps q new.draws h.air.timetable) (sym queue)
                (subst (λ (ws : List ℕ). Keeps old.queue ws h.air.timetable) (sym draws)
                h.timed.keeps);
            steady = none h.timed.steady;
          };
      reached = reached_made h.now h.all h.steps past from end h.air c h.reached;
      recent = h.recent;
      near = h.near;
      since = h.since;
      frames =
          subst (λ n. AllByRecursion (Awaits n counted by (last + h.now.delay))
          h.air.timetable.waiting) (sym released) h.frames;
      few =
          subst (λ (w : WorldModel). counted ≤ length w.air) (sym same) h.few;
    }

-- ---- the beginning and the end

ticks_await : (present : List Bool) (n : ℕ) (t : Timetable)
    → AllByRecursion (Awaits 0 0 0 0) t.waiting
    → AllByRecursion (Awaits 0 0 0 0) (schedule_first_ticks present n t).waiting
ticks_await present zero t h = h
ticks_await present (suc n) t h = by (is_present present n) (ticks_await present n t h)
  where
    u : Timetable
    u = schedule_first_ticks present n t

    by : (b : Bool) → AllByRecursion (Awaits 0 0 0 0) u.waiting
        → AllByRecursion (Awaits 0 0 0 0) (cond b (schedule_tick n 0 0 u) u).waiting
    by true on =
        all_put (Awaits 0 0 0 0) (Does (tick n 0 0 (draw u % 751))) u.waiting tt on
    by false on = on

sends_await : (present : List Bool) (x : Traffic) (n : ℕ) (t : Timetable)
    → AllByRecursion (Awaits 0 0 0 0) t.waiting
    → AllByRecursion (Awaits 0 0 0 0) (schedule_first_sends present x n t).waiting
sends_await present x zero t h = h
sends_await present x (suc n) t h = by (is_present present n) (sends_await present x n t h)
  where
    u : Timetable
    u = schedule_first_sends present x n t

    by : (b : Bool) → AllByRecursion (Awaits 0 0 0 0) u.waiting
        → AllByRecursion (Awaits 0 0 0 0) (cond b (schedule_send x n 0 u) u).waiting
    by true on =
        all_put (Awaits 0 0 0 0) (Does (sending x n (0 + draw u % x.period))) u.waiting tt on
    by false on = on

traffic_awaits : (present : List Bool) (every : List Traffic) (n : ℕ) (t : Timetable)
    → AllByRecursion (Awaits 0 0 0 0) t.waiting
    → AllByRecursion (Awaits 0 0 0 0) (schedule_traffic present every n t).waiting
traffic_awaits present [] n t h = h
traffic_awaits present (x ∷ every) n t h =
    traffic_awaits present every n (schedule_first_sends present x n t)
    (sends_await present x n t h)

-- nothing waits for a delivery yet
opening_awaits : (r : Rules) (configs : List Config)
    → AllByRecursion (Awaits 0 0 0 0) (air_opening r configs []).timetable.waiting
opening_awaits r configs =
    traffic_awaits r.present r.every (length configs) (with_ticks r configs [])
    (ticks_await r.present (cond r.beacons (length configs) 0) (with_file r []) tt)

all_rules : (r : Rules) → r ≡ rules_beside [] r.until r
all_rules r =
    ap (λ (l : List Bool). record {
      range = r.range;
      delay = r.delay;
      loss = r.loss;
      beacons = r.beacons;
      seed = r.seed;
      until = r.until;
      every = r.every;
      present = l;
    }) (sym (append-nil r.present))

-- nothing is done yet
pub begun : (grows : Bool) (rules : Rules) (configs : List Config) (end : ℕ) (run : Run)
    (Took : List Event → List Entry → Type 0) → AreKnown grows configs rules.present
    → run.contentions ≡ None → GoesBy rules run → run.present.items ≡ rules.present
    → RepresentsWorld run.world (opening configs) → HoldsOfSchedules configs (opening configs)
    → Keeps run.queue run.draws (air_opening rules configs []).timetable
    → run.world.released ≡ 0 → Took [] []
    → IsMoving grows rules configs [] [] 0 0 end 0 0 run Took
begun grows rules configs end run Took long steady goes present stands laws keeps released took =
    let opened = reached_opening grows rules configs 0 end long in
    record {
      all = configs;
      now = rules;
      are_all = sym (append-nil configs);
      are_now = all_rules rules;
      steps = 0;
      air = air_opening rules configs [];
      timed =
          record {
            goes_by = goes;
            present = present;
            told = record { stands = stands; laws = laws; log = []; told = tt; took = took };
            keeps = keeps;
            steady = steady;
          };
      reached = opened;
      recent = omega arith;
      near = omega arith;
      since = all_by (IsOwnOf configs) (λ p. 0 ≤ at p)
          (air_opening rules configs []).timetable.waiting (λ p any. omega arith) opened.own;
      frames =
          subst (λ n. AllByRecursion (Awaits n 0 0 (0 + rules.delay))
          (air_opening rules configs []).timetable.waiting) (sym released)
          (all_by (Awaits 0 0 0 0) (Awaits 0 0 0 (0 + rules.delay))
          (air_opening rules configs []).timetable.waiting
          (awaits_later 0 0 0 0 (0 + rules.delay) (omega arith)) (opening_awaits rules configs));
      few = omega arith;
    }

pub rules_at_end : (r : Rules) (made : List Config) (end : ℕ) (now : Rules)
    → now ≡ rules_beside made r.until r → rules_beside [] end now ≡ rules_beside made end r
rules_at_end r made end now is =
    ap (λ (x : Rules). rules_beside [] end x) is
    ∙ ap (λ (l : List Bool). record {
      range = r.range;
      delay = r.delay;
      loss = r.loss;
      beacons = r.beacons;
      seed = r.seed;
      until = end;
      every = r.every;
      present = l;
    }) (append-nil (r.present ++ absent made))

-- Nothing waits up to the last moment, and nothing comes any more: it is the run of an air.
pub timed_at_end : (grows : Bool) (rules : Rules) (configs made : List Config) (past : List Filed)
    (last from end counted by : ℕ) (run : Run) (A : List Event → List Entry → Type 0)
    → All (λ w. end + 1 ≤ w.moment) run.queue.own
    → IsMoving grows rules configs made past last from end counted by run A
    → IsTimedRun (rules_beside made end rules) (configs ++ made) past run.world A
timed_at_end grows rules configs made past last from end counted by run A late h =
    let over = reached_over grows h.now h.all h.steps past from end h.air h.reached
    (none_waits_after run.queue run.draws h.air.timetable end late
    h.timed.keeps) in
    let same = rules_at_end rules made end h.now h.are_now in
    let here : IsTimedRun (rules_beside [] end h.now) h.all past run.world A =
    record {
      steps = h.steps;
      over = over.0;
      run = subst (λ (es : List Event). IsSimulated h.all es run.world A) (sym over.1)
          h.timed.told;
    } in
    subst (λ (cs : List Config). IsTimedRun (rules_beside made end rules) cs past run.world A)
    h.are_all (subst (λ (r : Rules). IsTimedRun r h.all past run.world A) same here)

-- with rows
pub ended : (rules : Rules) (configs made : List Config) (past : List Filed)
    (last from end counted by : ℕ) (run : Run)
    (A : List Event → List Entry → Type 0) (moves : Moves) (asked : List AddressedEvent)
    (given : Option ℕ) → IfSome given (λ moment. end ≡ moment)
    → All (λ w. end + 1 ≤ w.moment) run.queue.own
    → IsMoving true rules configs made past last from end counted by run A
    → IsOutside (length configs) (length made) moves asked end past
    → IsMovedRun rules configs moves asked given run.world A
ended rules configs made past last from end counted by run A moves asked given is late h outside =
    record {
      made = made;
      file = past;
      until = end;
      rises = h.reached.past_rises;
      last = is;
      run = timed_at_end true rules configs made past last from end counted by run A late h;
      outside = outside;
    }
