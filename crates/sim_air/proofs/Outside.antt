-- What came from outside to a run with rows, from one step to the next.
use Rattle.std.proofs.Common.{◌≡◌, ℕ, ◌+◌, ◌*◌, ◌≤◌, ◌<◌, List, [], ◌∷◌, ◌++◌, refl, sym, ap, subst}
use Rattle.std.proofs.Common.{◌∙◌, arith, All, Option, Some, None, length, map, take, drop}
use Rattle.std.proofs.Common.{append-nil, Bool, slice_index_or, ◌⊎◌, inl, inr, pos}
use Rattle.std.proofs.Common.{length-drop, get_or-drop}
use Rattle.std.specs.Option.{ForSome, option_map}
use Rattle.std.specs.Prelude.{string_bytes, Vec, IfNone, IfSome, slice_get, ◌==◌}
use Rattle.std.specs.declared.alloc.Global.{Global}
use Rattle.std.specs.BinaryHeap.{heap_items}
use Rattle.std.specs.List.{filter}
use Rattle.std.specs.List.Sorted.{ties, IsNonDecreasingBy, IsStableByKey}
use Rattle.std.specs.Ordering.{nat_cmp, is_lt}
use Rattle.std.proofs.lemmas.List.{get_or-map, length-map, length-append, take_more}
use Rattle.std.proofs.lemmas.Option.{get_or_from_slice_get, slice_get-map, slice_get_within}
use Rattle.std.proofs.lemmas.Option.{slice_get_cases, slice_get-get_or}
use denote.Ref.{Bor}
use Rattle.its_model.specs.World.{Config, Event, What}
use Rattle.sim_moves.specs.declared.row.Row.{Row}
use Rattle.sim_scenario.specs.Actions.{IsDoneAt, what_at}
use Rattle.sim_scenario.specs.declared.events.action.Action.{Action}
use Rattle.sim_scenario.specs.declared.events.action.Action.TheVariants as actions
use Rattle.sim_scenario.specs.declared.events.event.AddressedEvent.{AddressedEvent}
use Rattle.sim_scenario.specs.declared.events.event.Addressee.TheVariants as addressees
use Rattle.sim_scenario.specs.declared.events.event.FileEvent.TheVariants as files
use Rattle.sim_settings.specs.declared.moves.Moves.{Moves}
use Rattle.its_world.specs.Entries.{Entry}
use Rattle.sim_air.specs.Outside.{Came, IsBrought, IsByMoment, IsOutside, Brings, asked_at}
use Rattle.sim_air.specs.Outside.{asked_of, ids_of, turn_of, MayAsk, MayCome, row_move, opening_at}
use Rattle.sim_air.specs.Outside.{IsOfStation, filed_when, station_of_filed}
use Rattle.sim_air.specs.FileEvents.{filed_of}
use Rattle.its_gnvalue.specs.Values.{Position}
use Rattle.its_world.specs.Events.{what_of}
use Rattle.sim_scenario.specs.declared.events.event.FileEvent.{FileEvent}
use Rattle.std.specs.Prelude.{String}
use Rattle.sim_air.specs.Outside.Came.{Makes, Moved, Left, Asked}
use Rattle.sim_air_model.specs.Timetable.{Filed, Rules}
use Rattle.sim_air_model.specs.Timetable.Filed.{Happens, Leaves}
use Rattle.sim_air.specs.UnderRows.{CameUnder, ComesFrom, ComesInTurn, DoesEvent, DoesLeave}
use Rattle.sim_air.specs.UnderRows.{DoesRow}
use Rattle.sim_air.specs.UnderRows.{IsComing, IsNext, IsUnder, IsUnderSome, asked_in, class_in}
use Rattle.sim_air.specs.UnderRows.{end_in, stations_in, turn_in}
use Rattle.sim_air.specs.declared.departures.Departure.{Departure}
use Rattle.sim_air.specs.declared.departures.Departures.{Departures}
use Rattle.sim_air.specs.declared.moving_run.Coming.{Coming}
use Rattle.sim_air.specs.declared.moving_run.MovingRun.{MovingRun}
use Rattle.sim_air.specs.declared.moving_run.Outside.{Outside}
use Rattle.sim_air.specs.declared.moving_run.Outside.TheVariants as outsides
use Rattle.sim_air.proofs.BesideOrder.{all_by}
use Rattle.sim_air.proofs.FileEvents.{ties_at}
use Rattle.sim_air.proofs.UnderRows.{same_event, some_is}

-- ---- whose turn it is

-- what comes comes no earlier than all that is to come
pub no_earlier : (m : MovingRun) (turn moment : ℕ) (o : Outside) → IsComing m moment o
    → ComesInTurn turn m → turn ≤ 3 * moment + class_in o
no_earlier m turn moment outsides.Row c h =
    let le = h.row c.0 c.1 in
    let is = c.2 in omega (arith, le, is)
no_earlier m turn moment (outsides.Departure station) c h =
    let le = c h.since h.departures in
    let by = h.by_since in omega (arith, le, by)
no_earlier m turn moment outsides.Event c h =
    let le = h.events c.0 c.1 in
    let is = c.2 in omega (arith, le, is)

-- all comes from a moment on: it is the turn of a row of that moment
pub turn_of_row : (moment : ℕ) (m : MovingRun) → ComesFrom moment m → ComesInTurn (3 * moment) m
turn_of_row moment m h =
    record {
      row = λ r is. let le = h.row r is in omega (arith, le);
      since = moment;
      by_since = omega arith;
      departures = h.departures;
      events = λ e is. let le = h.events e is in omega (arith, le);
    }

-- a station left, or was to leave, at a moment, and no row came
pub turn_of_leave : (moment : ℕ) (old new : MovingRun) → new.row ≡ old.row
    → ComesInTurn (3 * moment + 1) old → ComesFrom moment new
    → ComesInTurn (3 * moment + 1) new
turn_of_leave moment old new row before h =
    record {
      row = λ r is. before.row r (sym row ∙ is);
      since = moment;
      by_since = omega arith;
      departures = h.departures;
      events = λ e is. let le = h.events e is in omega (arith, le);
    }

-- what the scenario has was done, and no row came and no station left
pub turn_of_event : (moment : ℕ) (old new : MovingRun) → new.row ≡ old.row
    → new.departures ≡ old.departures → ComesInTurn (3 * moment + 2) old → ComesFrom moment new
    → ComesInTurn (3 * moment + 2) new
turn_of_event moment old new row departures before h =
    record {
      row = λ r is. before.row r (sym row ∙ is);
      since = before.since;
      by_since = before.by_since;
      departures =
          subst (λ (d : Departures). All (λ (x : Departure). before.since ≤ x.moment)
          (heap_items d.waiting)) (sym departures) before.departures;
      events = λ e is. let le = h.events e is in omega (arith, le);
    }

-- the next of two, and of a third
below : (former N : Option Coming) (one next : Coming) → former ≡ Some one → N ≡ Some next
    → IfSome former (λ other. IfSome N (λ first. turn_in first ≤ turn_in other))
    → turn_in next ≤ turn_in one
below former N one next is here h =
    some_is N (λ first. turn_in first ≤ turn_in one) next here
    (some_is former (λ other. IfSome N (λ first. turn_in first ≤ turn_in other)) one is h)

below_two : (former latter N1 N : Option Coming) (one next : Coming) → former ≡ Some one
    → N ≡ Some next
    → IfSome former (λ other. IfSome N1 (λ first. turn_in first ≤ turn_in other))
    → IfSome N1 (λ other. IfSome N (λ first. turn_in first ≤ turn_in other))
    → IfNone N1 ((former ≡ None) × (latter ≡ None)) → turn_in next ≤ turn_in one
below_two former latter (Some n) N one next is here h h' none =
    let le = below former (Some n) one n is refl h in
    let le' = below (Some n) N n next refl here h' in
    omega (arith, le, le')
below_two former latter None N one next is here h h' none =
    let bad : Some one ≡ None = sym is ∙ none.0 in
    let no : ⊥ = cc in absurd no

next_row_turn : (m : MovingRun) (R D N1 N : Option Coming) (next : Coming) → N ≡ Some next
    → IfSome R (λ c. IsComing m c.moment c.outside
    × ForSome m.row (λ row. c.moment ≤ row.moment))
    → IfNone R (m.row ≡ None) → IfSome R (λ c. class_in c.outside ≡ 0)
    → IfSome R (λ other. IfSome N1 (λ first. turn_in first ≤ turn_in other))
    → IfSome N1 (λ other. IfSome N (λ first. turn_in first ≤ turn_in other))
    → IfNone N1 ((R ≡ None) × (D ≡ None))
    → ForSome m.row (λ row. turn_in next ≤ 3 * row.moment)
next_row_turn m (Some c) D N1 N next is some none class h h' never = λ r here.
    let le = below_two (Some c) D N1 N c next refl is h h' never in
    let on = some.1 r here in
    omega (arith, le, on, class)
next_row_turn m None D N1 N next is some none class h h' never = λ r here.
    let bad : None ≡ Some r = sym none ∙ here in
    let no : ⊥ = cc in absurd no

next_leave_turn : (m : MovingRun) (R D N1 N : Option Coming) (next : Coming) → N ≡ Some next
    → IfSome D (λ c. IsComing m c.moment c.outside
    × All (λ d. c.moment ≤ d.moment) (heap_items m.departures.waiting))
    → IfNone D (heap_items m.departures.waiting ≡ []) → IfSome D (λ c. class_in c.outside ≡ 1)
    → IfSome D (λ other. IfSome N1 (λ first. turn_in first ≤ turn_in other))
    → IfSome N1 (λ other. IfSome N (λ first. turn_in first ≤ turn_in other))
    → IfNone N1 ((R ≡ None) × (D ≡ None))
    → (since : ℕ) × (turn_in next ≤ 3 * since + 1)
    × All (λ d. since ≤ d.moment) (heap_items m.departures.waiting)
next_leave_turn m R (Some c) N1 N next is some none class h h' never =
    let le = below_two (Some c) R N1 N c next refl is h h' (turned N1 never) in
    (c.moment, omega (arith, le, class), some.1)
  where
    turned : (n : Option Coming) → IfNone n ((R ≡ None) × (Some c ≡ None))
        → IfNone n ((Some c ≡ None) × (R ≡ None))
    turned (Some x) h = tt
    turned None h = (h.1, h.0)
next_leave_turn m R None N1 N next is some none class h h' never = (
  turn_in next,
  omega arith,
  subst (λ (ds : List Departure). All (λ (d : Departure). turn_in next ≤ d.moment) ds) (sym none)
      (λ k d lt. omega (arith, lt)),
)

next_event_turn : (m : MovingRun) (E N : Option Coming) (next : Coming) → N ≡ Some next
    → IfSome E (λ c. IsComing m c.moment c.outside
    × ((e : Bor AddressedEvent) → slice_get m.events.items m.taken ≡ Some e →
    c.moment ≤ e.now.moment))
    → IfNone E (slice_get m.events.items m.taken ≡ None)
    → IfSome E (λ c. class_in c.outside ≡ 2)
    → IfSome E (λ other. IfSome N (λ first. turn_in first ≤ turn_in other))
    → (e : Bor AddressedEvent) → slice_get m.events.items m.taken ≡ Some e →
    turn_in next ≤ 3 * e.now.moment + 2
next_event_turn m (Some c) N next is some none class h = λ e here.
    let le = below (Some c) N c next refl is h in
    let on = some.1 e here in
    omega (arith, le, on, class)
next_event_turn m None N next is some none class h = λ e here.
    let bad : None ≡ Some e = sym none ∙ here in
    let no : ⊥ = cc in absurd no

pub next_turn : (m : MovingRun) (R D N1 E N : Option Coming) (next : Coming) → N ≡ Some next
    → IfSome R (λ c. IsComing m c.moment c.outside
    × ForSome m.row (λ row. c.moment ≤ row.moment))
    → IfNone R (m.row ≡ None) → IfSome R (λ c. class_in c.outside ≡ 0)
    → IfSome D (λ c. IsComing m c.moment c.outside
    × All (λ d. c.moment ≤ d.moment) (heap_items m.departures.waiting))
    → IfNone D (heap_items m.departures.waiting ≡ []) → IfSome D (λ c. class_in c.outside ≡ 1)
    → IfSome E (λ c. IsComing m c.moment c.outside
    × ((e : Bor AddressedEvent) → slice_get m.events.items m.taken ≡ Some e →
    c.moment ≤ e.now.moment))
    → IfNone E (slice_get m.events.items m.taken ≡ None)
    → IfSome E (λ c. class_in c.outside ≡ 2)
    → IfSome R (λ other. IfSome N1 (λ first. turn_in first ≤ turn_in other))
    → IfSome D (λ other. IfSome N1 (λ first. turn_in first ≤ turn_in other))
    → IfNone N1 ((R ≡ None) × (D ≡ None))
    → IfSome N1 (λ other. IfSome N (λ first. turn_in first ≤ turn_in other))
    → IfSome E (λ other. IfSome N (λ first. turn_in first ≤ turn_in other))
    → ComesInTurn (turn_in next) m
next_turn m R D N1 E N next is r1 r2 r3 d1 d2 d3 e1 e2 e3 hr hd never h he =
    let leave = next_leave_turn m R D N1 N next is d1 d2 d3 hd h never in
    record {
      row = next_row_turn m R D N1 N next is r1 r2 r3 hr h never;
      since = leave.0;
      by_since = leave.1;
      departures = leave.2;
      events = next_event_turn m E N next is e1 e2 e3 he;
    }

-- so all comes from its moment on
pub from_turn : (m : MovingRun) (coming : Coming) → ComesInTurn (turn_in coming) m
    → ComesFrom coming.moment m
from_turn m coming h =
    record {
      row = λ r is. let le = h.row r is in omega (arith, le);
      departures = λ k d lt.
          let le = h.departures k d lt in
          let by = h.by_since in omega (arith, le, by);
      events = λ e is. let le = h.events e is in omega (arith, le);
    }

pub next_is : (m : MovingRun) (R D N1 E N : Option Coming) (next : Coming) → N ≡ Some next
    → IfSome R (λ c. IsComing m c.moment c.outside
    × ForSome m.row (λ row. c.moment ≤ row.moment))
    → IfSome D (λ c. IsComing m c.moment c.outside
    × All (λ d. c.moment ≤ d.moment) (heap_items m.departures.waiting))
    → IfSome E (λ c. IsComing m c.moment c.outside
    × ((e : Bor AddressedEvent) → slice_get m.events.items m.taken ≡ Some e →
    c.moment ≤ e.now.moment))
    → IfSome N1 (λ first. (R ≡ Some first) ⊎ (D ≡ Some first))
    → IfSome N (λ first. (N1 ≡ Some first) ⊎ (E ≡ Some first))
    → IsComing m next.moment next.outside
next_is m R D N1 E N next is r d e two three =
    either (some_is N (λ first. (N1 ≡ Some first) ⊎ (E ≡ Some first)) next is three)
  where
    first : (R ≡ Some next) ⊎ (D ≡ Some next) → IsComing m next.moment next.outside
    first (inl here) =
        (some_is R (λ c. IsComing m c.moment c.outside
        × ForSome m.row (λ row. c.moment ≤ row.moment)) next here r).0
    first (inr here) =
        (some_is D (λ c. IsComing m c.moment c.outside
        × All (λ x. c.moment ≤ x.moment) (heap_items m.departures.waiting)) next here d).0

    either : (N1 ≡ Some next) ⊎ (E ≡ Some next) → IsComing m next.moment next.outside
    either (inl here) = first (some_is N1 (λ x. (R ≡ Some x) ⊎ (D ≡ Some x)) next here two)
    either (inr here) =
        (some_is E (λ c. IsComing m c.moment c.outside
        × ((x : Bor AddressedEvent) → slice_get m.events.items m.taken ≡ Some x →
        c.moment ≤ x.now.moment)) next here e).0

-- a row before one that leaves, and these before what the scenario has
pub classes_two : (R D : Option Coming) → IfSome R (λ c. class_in c.outside ≡ 0)
    → IfSome D (λ c. class_in c.outside ≡ 1)
    → IfSome R (λ one. IfSome D (λ other. class_in one.outside ≤ class_in other.outside))
classes_two (Some r) (Some d) hr hd = omega (arith, hr, hd)
classes_two (Some r) None hr hd = tt
classes_two None D hr hd = tt

class_some : (X : Option Coming) (n : ℕ) (c : Coming) → X ≡ Some c
    → IfSome X (λ x. class_in x.outside ≡ n) → class_in c.outside ≡ n
class_some X n c is h = some_is X (λ x. class_in x.outside ≡ n) c is h

pub classes_three : (R D N1 E : Option Coming) → IfSome R (λ c. class_in c.outside ≡ 0)
    → IfSome D (λ c. class_in c.outside ≡ 1) → IfSome E (λ c. class_in c.outside ≡ 2)
    → IfSome N1 (λ first. (R ≡ Some first) ⊎ (D ≡ Some first))
    → IfSome N1 (λ one. IfSome E (λ other. class_in one.outside ≤ class_in other.outside))
classes_three R D (Some n) (Some e) hr hd he one = either one
  where
    either : (R ≡ Some n) ⊎ (D ≡ Some n) → class_in n.outside ≤ class_in e.outside
    either (inl is) = let k = class_some R 0 n is hr in omega (arith, k, he)
    either (inr is) = let k = class_some D 1 n is hd in omega (arith, k, he)
classes_three R D (Some n) None hr hd he one = tt
classes_three R D None E hr hd he one = tt

-- ---- what came

-- the same came, and the same comes
pub same_came : (own made : ℕ) (came : List Came) (past : List Filed) (turn turn' : ℕ)
    (old new : MovingRun) → new.moves ≡ old.moves → new.events ≡ old.events
    → new.taken ≡ old.taken → turn ≤ turn' → ComesInTurn turn' new
    → CameUnder own made came past turn old → CameUnder own made came past turn' new
same_came own made came past turn turn' old new moves events taken le next h =
    record {
      in_turn = h.in_turn;
      by_turn = all_by (λ c. turn_of c ≤ turn) (λ c. turn_of c ≤ turn') came
          (λ c on. omega (arith, le, on)) h.by_turn;
      next = next;
      brought = subst (λ (x : Bor Moves). IsBrought own x.now.ports.items came past) (sym moves)
          h.brought;
      made_by_rows = h.made_by_rows;
      asked =
          h.asked
          ∙ sym (ap (λ (v : Vec (Bor AddressedEvent) Global).
          take new.taken (map (λ (e : Bor AddressedEvent). e.now) v.items)) events
          ∙ ap (λ n. take n (asked_in old)) taken);
    }

-- and the run inside went on
pub still_comes : (turn : ℕ) (old new : MovingRun) → new.row ≡ old.row
    → new.departures ≡ old.departures → new.events ≡ old.events → new.taken ≡ old.taken
    → ComesInTurn turn old → ComesInTurn turn new
still_comes turn old new row departures events taken h =
    record {
      row = λ r is. h.row r (sym row ∙ is);
      since = h.since;
      by_since = h.by_since;
      departures =
          subst (λ (d : Departures). All (λ (x : Departure). h.since ≤ x.moment)
          (heap_items d.waiting)) (sym departures) h.departures;
      events = λ e is. h.events e (sym (same_event old new events taken) ∙ is);
    }

-- it is the turn of the next
pub next_came : (own made : ℕ) (came : List Came) (past : List Filed) (turn : ℕ) (m : MovingRun)
    (coming : Coming) → IsNext m coming → CameUnder own made came past turn m
    → CameUnder own made came past (turn_in coming) m
next_came own made came past turn m coming next h =
    same_came own made came past turn (turn_in coming) m m refl refl refl
    (no_earlier m turn coming.moment coming.outside next.is h.next) next.turn h

-- one more came, in its turn
pub more_came : (own made made' : ℕ) (came : List Came) (past piece : List Filed) (turn : ℕ)
    (c : Came) (old new : MovingRun) → new.moves ≡ old.moves → turn_of c ≡ turn
    → ComesInTurn turn new → Brings own old.moves.now.ports.items came c piece
    → (made ≡ length (ids_of came) → made' ≡ length (ids_of (c ∷ came)))
    → (asked_of came ≡ take old.taken (asked_in old)
    → asked_of (c ∷ came) ≡ take new.taken (asked_in new))
    → CameUnder own made came past turn old → CameUnder own made' (c ∷ came) (past ++ piece) turn
    new
more_came own made made' came past piece turn c old new moves is next brings many asked h =
    record {
      in_turn = (
        all_by (λ b. turn_of b ≤ turn) (λ b. turn_of b ≤ turn_of c) came
            (λ b on. omega (arith, is, on)) h.by_turn,
        h.in_turn,
      );
      by_turn = (omega (arith, is), h.by_turn);
      next = next;
      brought = subst (λ (x : Bor Moves). IsBrought own x.now.ports.items (c ∷ came)
          (past ++ piece)) (sym moves) (past, piece, refl, h.brought, brings);
      made_by_rows = many h.made_by_rows;
      asked = asked h.asked;
    }

same_asked : (old new : MovingRun) → new.events ≡ old.events → new.taken ≡ old.taken
    → take old.taken (asked_in old) ≡ take new.taken (asked_in new)
same_asked old new events taken =
    sym (ap (λ (v : Vec (Bor AddressedEvent) Global).
    take new.taken (map (λ (e : Bor AddressedEvent). e.now) v.items)) events
    ∙ ap (λ n. take n (asked_in old)) taken)

-- a row of a station that is there
pub row_came : (own made : ℕ) (came : List Came) (past : List Filed) (row : Row) (station : ℕ)
    (old new : MovingRun) → new.moves ≡ old.moves → new.events ≡ old.events
    → new.taken ≡ old.taken → station < own + made → ComesInTurn (3 * row.moment) new
    → CameUnder own made came past (3 * row.moment) old
    → CameUnder own made (Moved row station ∷ came)
    (past ++ Happens (row_move station row) ∷ []) (3 * row.moment) new
row_came own made came past row station old new moves events taken lt next h =
    let many = h.made_by_rows in
    more_came own made made came past (Happens (row_move station row) ∷ []) (3 * row.moment)
    (Moved row station) old new moves (omega arith) next (omega (arith, lt, many), refl) (λ is. is)
    (λ is. is ∙ same_asked old new events taken) h

-- a row that makes its station
pub first_came : (own made : ℕ) (came : List Came) (past : List Filed) (row : Row) (station : ℕ)
    (old new : MovingRun) → new.moves ≡ old.moves → new.events ≡ old.events
    → new.taken ≡ old.taken → station ≡ own + made → ComesInTurn (3 * row.moment) new
    → CameUnder own made came past (3 * row.moment) old
    → CameUnder own (made + 1) (Makes row station ∷ came)
    (past ++ Happens (row_move station row)
    ∷ map (opening_at station row.moment) old.moves.now.ports.items) (3 * row.moment) new
first_came own made came past row station old new moves events taken is next h =
    let many = h.made_by_rows in
    more_came own made (made + 1) came past
    (Happens (row_move station row)
    ∷ map (opening_at station row.moment) old.moves.now.ports.items) (3 * row.moment)
    (Makes row station) old new moves (omega arith) next (omega (arith, is, many), refl)
    (λ so. let long = length-append (ids_of came) (string_bytes row.id ∷ []) in omega (
      arith,
      so,
      long,
    ))
    (λ so. so ∙ same_asked old new events taken) h

-- a station leaves
pub leave_came : (own made : ℕ) (came : List Came) (past piece : List Filed)
    (station moment : ℕ) (old new : MovingRun) → new.moves ≡ old.moves
    → new.events ≡ old.events → new.taken ≡ old.taken
    → MayCome (own + made) (Leaves station moment) piece → ComesInTurn (3 * moment + 1) new
    → CameUnder own made came past (3 * moment + 1) old
    → CameUnder own made (Left station moment ∷ came) (past ++ piece) (3 * moment + 1) new
leave_came own made came past piece station moment old new moves events taken may next h =
    more_came own made made came past piece (3 * moment + 1) (Left station moment) old new moves
    refl next
    (subst (λ n. MayCome (own + n) (Leaves station moment) piece) h.made_by_rows may) (λ is. is)
    (λ is. is ∙ same_asked old new events taken) h

-- the next that the scenario has
pub event_came : (own made : ℕ) (came : List Came) (past piece : List Filed)
    (e : Bor AddressedEvent) (old new : MovingRun)
    → slice_get old.events.items old.taken ≡ Some e → new.moves ≡ old.moves
    → new.events ≡ old.events → new.taken ≡ old.taken + 1
    → MayAsk (own + made) e.now e.now.addressee piece
    → ComesInTurn (3 * e.now.moment + 2) new
    → CameUnder own made came past (3 * e.now.moment + 2) old
    → CameUnder own made (Asked e.now ∷ came) (past ++ piece) (3 * e.now.moment + 2) new
event_came own made came past piece e old new is moves events taken may next h =
    let xs = asked_in old in
    let here : slice_get xs old.taken ≡ Some e.now =
    slice_get-map (λ (x : Bor AddressedEvent). x.now) old.events.items old.taken
    ∙ ap (λ (o : Option (Bor AddressedEvent)). option_now o) is in
    let lt = slice_get_within xs old.taken e.now here in
    let one : take (old.taken + 1) xs ≡ take old.taken xs ++ e.now ∷ [] =
    take_more xs old.taken e.now lt
    ∙ ap (λ x. take old.taken xs ++ x ∷ []) (get_or_from_slice_get xs old.taken e.now e.now here) in
    more_came own made made came past piece (3 * e.now.moment + 2) (Asked e.now) old new
    moves refl next
    (subst (λ n. MayAsk (own + n) e.now e.now.addressee piece) h.made_by_rows may)
    (λ so. so)
    (λ so. ap (λ (l : List AddressedEvent). l ++ e.now ∷ []) so ∙ sym one
    ∙ sym (ap (λ (v : Vec (Bor AddressedEvent) Global).
    take new.taken (map (λ (x : Bor AddressedEvent). x.now) v.items)) events
    ∙ ap (λ n. take n xs) taken)) h
  where
    option_now : Option (Bor AddressedEvent) → Option AddressedEvent
    option_now (Some x) = Some x.now
    option_now None = None

-- ---- what the scenario has, in order

-- those of a moment are those that tie with one of it
tied : (lt : Bor AddressedEvent → Bor AddressedEvent → Bool) (x : Bor AddressedEvent) (m : ℕ)
    → ((y : Bor AddressedEvent) → ties lt x y ≡ (y.now.moment == m))
    → (xs : List (Bor AddressedEvent))
    → asked_at m (map (λ (e : Bor AddressedEvent). e.now) xs)
    ≡ map (λ (e : Bor AddressedEvent). e.now) (filter (ties lt x) xs)
tied lt x m is [] = refl
tied lt x m is (y ∷ xs) = grind (arith, is y, tied lt x m is xs)

-- they are sorted by their moments, and those of one moment as they stand
pub by_moment : (before sorted : List (Bor AddressedEvent)) (addressed : List AddressedEvent)
    → map (λ (e : Bor AddressedEvent). e.now) before ≡ addressed
    → IsNonDecreasingBy (λ (e : Bor AddressedEvent). e.now.moment) sorted
    → IsStableByKey (λ (e : Bor AddressedEvent). e.now.moment) nat_cmp before sorted
    → IsByMoment addressed (map (λ (e : Bor AddressedEvent). e.now) sorted)
by_moment before sorted addressed all rises stable =
    record {
      rises = λ a b d le lt.
          let f : Bor AddressedEvent → AddressedEvent = λ e. e.now in
          let lt' : b < length sorted = subst (λ n. b < n) (length-map sorted f) lt in
          let x : Bor AddressedEvent = record { ref_ptr = (0, 0); now = d } in
          subst (λ (e : AddressedEvent). e.moment
          ≤ (slice_index_or (map f sorted) b d).moment)
          (sym (get_or-map f sorted a x d (omega (arith, le, lt'))))
          (subst (λ (e : AddressedEvent). (slice_index_or sorted a x).now.moment
          ≤ e.moment) (sym (get_or-map f sorted b x d lt')) (rises a b x le lt'));
      as_before = λ m.
          let f : Bor AddressedEvent → AddressedEvent = λ e. e.now in
          let x = one_of m in
          let lt : Bor AddressedEvent → Bor AddressedEvent → Bool =
          λ y z. is_lt (nat_cmp (y.now.moment) (z.now.moment)) in
          let here : (y : Bor AddressedEvent) → ties lt x y ≡ (y.now.moment == m) =
          λ y. ties_at m (y.now.moment) in
          tied lt x m here sorted
          ∙ ap (map f) (stable x)
          ∙ sym (tied lt x m here before)
          ∙ ap (asked_at m) all;
    }
  where
    one_of : ℕ → Bor AddressedEvent
    one_of m =
        record {
          ref_ptr = (0, 0);
          now = record {
            number = 0;
            addressee = addressees.Station 0;
            moment = m;
            action = actions.Leaves;
          };
        }

-- ---- at the beginning and at the end

-- nothing came yet
pub none_came : (own : ℕ) (m : MovingRun) → m.taken ≡ 0 → ComesInTurn 0 m
    → CameUnder own 0 [] [] 0 m
none_came own m taken next =
    record {
      in_turn = tt;
      by_turn = tt;
      next = next;
      brought = refl;
      made_by_rows = refl;
      asked = sym (ap (λ n. take n (asked_in m)) taken);
    }

-- what is behind the next is no earlier
late_from : (events : List (Bor AddressedEvent)) (n end : ℕ)
    → IsNonDecreasingBy (λ a. a.now.moment) events
    → ((e : Bor AddressedEvent) → slice_get events n ≡ Some e → end + 1 ≤ e.now.moment)
    → All (λ (e : AddressedEvent). end < e.moment)
    (drop n (map (λ (e : Bor AddressedEvent). e.now) events))
late_from events n end sorted first = λ k d lt.
    let f : Bor AddressedEvent → AddressedEvent = λ e. e.now in
    let x : Bor AddressedEvent = record { ref_ptr = (0, 0); now = d } in
    let long = length-drop n (map f events) in
    let same = length-map events f in
    let within : n + k < length events = omega (arith, long, same, lt) in
    let le = first (slice_index_or events n x)
    (slice_get-get_or events n x (omega (arith, within))) in
    let rises = sorted n (n + k) x (omega arith) within in
    let here : slice_index_or (drop n (map f events)) k d ≡ f (slice_index_or events (n + k) x) =
    get_or-drop n (map f events) k d ∙ get_or-map f events (n + k) x d within in
    subst (λ (e : AddressedEvent). end < e.moment) (sym here)
    (omega (arith, le, rises))

-- it is all that came from outside
pub is_outside : (own made : ℕ) (came : List Came) (past : List Filed) (turn end : ℕ)
    (m : MovingRun) (asked : List AddressedEvent) → IsByMoment asked (asked_in m)
    → ComesFrom (end + 1) m → CameUnder own made came past turn m
    → IsOutside own made m.moves.now asked end past
is_outside own made came past turn end m asked by comes h =
    record {
      came = came;
      in_turn = h.in_turn;
      brought = h.brought;
      made_by_rows = h.made_by_rows;
      events = asked_in m;
      by_moment = by;
      count = m.taken;
      each = h.asked;
      late = late_from m.events.items m.taken end m.sorted comes.events;
    }

-- ---- what the scenario asks for

-- what a station does at a place, as what waits
pub filed_done : (action : Action) (station moment : ℕ) (place : Position) (filed : FileEvent)
    → IsDoneAt action station moment place filed
    → filed_of filed ≡ filed_when station moment (what_at action place)
filed_done action station moment place (files.Happens e) h =
    ap (λ n. filed_when n e.moment (Some (what_of e.what))) h.0
    ∙ ap (λ n. filed_when station n (Some (what_of e.what))) h.1
    ∙ ap (filed_when station moment) h.2
filed_done action station moment place (files.Leaves n m) h =
    ap (λ n. filed_when n m None) h.0
    ∙ ap (λ n. filed_when station n None) h.1
    ∙ ap (filed_when station moment) h.2

-- nothing is found past the end
pub none_past : {X Y : Type 0} (f : X → Y) (xs : List X) (n : ℕ)
    → option_map f (slice_get xs n) ≡ None → length xs ≤ n
none_past f xs n none = either (slice_get_cases xs n).1
  where
    either : ((x : _) × (n < length xs) × (slice_get xs n ≡ Some x) × (slice_index_or xs n x ≡ x))
        ⊎ ((length xs ≤ n) × (slice_get xs n ≡ None)) → length xs ≤ n
    either (inl x) =
        let bad : Some (f x.0) ≡ None = sym (ap (option_map f) x.2) ∙ none in
        let no : ⊥ = cc in absurd no
    either (inr past) = past.0

-- the station isn't there: nothing comes
pub away_at : (count : ℕ) (event : AddressedEvent) (station : ℕ) → count ≤ station
    → IsOfStation count event station []
away_at count event station le =
    let place : Position = record { latitude = pos 0; longitude = pos 0 } in
    (place, inr (inl (away (what_at event.action place)), refl))
  where
    away : (o : Option What)
        → count ≤ station_of_filed (filed_when station event.moment o)
    away (Some what) = le
    away None = le

-- of a station of its own
pub may_own : (count : ℕ) (event : AddressedEvent) (station : ℕ) (came : List Filed)
    → event.addressee ≡ addressees.Station station → IsOfStation count event station came
    → MayAsk count event event.addressee came
may_own count event station came is may =
    subst (λ a. MayAsk count event a came) (sym is) may

-- of an id, as that of a station
pub may_id : (count : ℕ) (event : AddressedEvent) (id : String Global) (station : ℕ)
    (came : List Filed) → event.addressee ≡ addressees.Vehicle id
    → IsOfStation count event station came → MayAsk count event event.addressee came
may_id count event id station came is may =
    subst (λ a. MayAsk count event a came) (sym is) (inl (station, may))

-- or not at all
pub may_not : (count : ℕ) (event : AddressedEvent) (id : String Global)
    → event.addressee ≡ addressees.Vehicle id → MayAsk count event event.addressee []
may_not count event id is = subst (λ a. MayAsk count event a []) (sym is) (inr refl)

-- ---- what is done

-- a row of a station that is there was done, or one that makes its station, and the next was read
pub row_done : (rules : Rules) (configs made : List Config) (past : List Filed)
    (came : List Came) (begin clock : ℕ) (row : Row) (old one new : MovingRun)
    (A B : List Event → List Entry → Type 0) → length old.run.world.stations
    ≡ length configs + length made → new.moves ≡ old.moves → new.events ≡ old.events
    → new.taken ≡ old.taken → row.moment ≤ end_in one
    → one.moves ≡ old.moves → stations_in one ≡ stations_in old
    → IsUnder rules configs made past row.moment row.moment begin clock one A
    → CameUnder (length configs) (length made) came past (3 * row.moment) old
    → DoesRow row one A new B
    → (made' : List Config) × (past' : List Filed) × (came' : List Came)
    × IsUnder rules configs made' past' row.moment row.moment begin clock new B
    × CameUnder (length configs) (length made') came' past' (3 * row.moment) new
row_done rules configs made past came begin clock row old one new A B count moves events taken
    within
    same_moves same_count under h (inl x) =
    let station = x.0 in
    let lt = x.1 in
    let on = x.2 rules configs made past begin clock within under in (
      made,
      past ++ Happens (row_move station row) ∷ [],
      Moved row station ∷ came,
      on,
      row_came (length configs) (length made) came past row station old new moves events taken
          (omega (arith, lt, count, same_count)) (turn_of_row row.moment new on.comings) h,
    )
row_done rules configs made past came begin clock row old one new A B count moves events taken
    within
    same_moves same_count under h (inr x) =
    let config = x.0 in
    let on = x.1 rules configs made past begin clock within under in
    let long = length-append made (config ∷ []) in (
      made ++ config ∷ [],
      past ++ Happens (row_move (stations_in one) row)
          ∷ map (opening_at (stations_in one) row.moment) one.moves.now.ports.items,
      Makes row (stations_in one) ∷ came,
      on,
      subst (λ n. CameUnder (length configs) n (Makes row (stations_in one) ∷ came)
          (past ++ Happens (row_move (stations_in one) row)
          ∷ map (opening_at (stations_in one) row.moment) one.moves.now.ports.items)
          (3 * row.moment) new) (sym long)
          (subst (λ (x : Bor Moves). CameUnder (length configs) (length made + 1)
          (Makes row (stations_in one) ∷ came)
          (past ++ Happens (row_move (stations_in one) row)
          ∷ map (opening_at (stations_in one) row.moment) x.now.ports.items)
          (3 * row.moment) new) (sym same_moves)
          (first_came (length configs) (length made) came past row (stations_in one) old new moves
          events taken (omega (arith, count, same_count)) (turn_of_row row.moment new on.comings)
          h)),
    )

-- a station left, or stays
pub leave_done : (rules : Rules) (configs made : List Config) (past : List Filed)
    (came : List Came) (begin clock station moment : ℕ) (old new : MovingRun)
    (A B : List Event → List Entry → Type 0) → length old.run.world.stations
    ≡ length configs + length made → new.moves ≡ old.moves → new.row ≡ old.row
    → new.events ≡ old.events → new.taken ≡ old.taken → moment ≤ end_in old
    → IsUnder rules configs made past moment moment begin clock old A
    → CameUnder (length configs) (length made) came past (3 * moment + 1) old
    → DoesLeave station moment old A new B → IsUnderSome rules configs begin clock new B
leave_done rules configs made past came begin clock station moment old new A B count moves row
    events
    taken within under h (inl stays) =
    let on = stays rules configs made past begin clock within under in
    record {
      last = moment;
      from = moment;
      made = made;
      past = past ++ [];
      came = came;
      turn = 3 * moment + 1;
      under = on;
      outside =
          subst (λ p. CameUnder (length configs) (length made) came p (3 * moment + 1) new)
          (sym (append-nil past))
          (same_came (length configs) (length made) came past (3 * moment + 1) (3 * moment + 1) old
          new moves events taken (omega arith) (turn_of_leave moment old new row h.next on.comings)
          h);
    }
leave_done rules configs made past came begin clock station moment old new A B count moves row
    events
    taken within under h (inr x) =
    let piece = x.0 in
    let may = x.1 in
    let on = x.2 rules configs made past begin clock within under in
    record {
      last = moment;
      from = moment;
      made = made;
      past = past ++ piece;
      came = Left station moment ∷ came;
      turn = 3 * moment + 1;
      under = on;
      outside =
          leave_came (length configs) (length made) came past piece station moment old new moves
          events taken (subst (λ n. MayCome n (Leaves station moment) piece) count may)
          (turn_of_leave moment old new row h.next on.comings) h;
    }

-- the next that the scenario has was done
pub event_done_under : (rules : Rules) (configs made : List Config) (past : List Filed)
    (came : List Came) (begin clock : ℕ) (e : Bor AddressedEvent) (old new : MovingRun)
    (A B : List Event → List Entry → Type 0) → length old.run.world.stations
    ≡ length configs + length made → slice_get old.events.items old.taken ≡ Some e
    → new.moves ≡ old.moves → new.row ≡ old.row → new.departures ≡ old.departures
    → new.events ≡ old.events → new.taken ≡ old.taken + 1
    → e.now.moment ≤ end_in old
    → IsUnder rules configs made past (e.now.moment) (e.now.moment) begin clock
    old A
    → CameUnder (length configs) (length made) came past (3 * e.now.moment + 2) old
    → DoesEvent e.now old A new B → IsUnderSome rules configs begin clock new B
event_done_under rules configs made past came begin clock e old new A B count is moves row
    departures
    events taken within under h x =
    let piece = x.0 in
    let may = x.1 in
    let on = x.2 rules configs made past begin clock within under in
    record {
      last = e.now.moment;
      from = e.now.moment;
      made = made;
      past = past ++ piece;
      came = Asked e.now ∷ came;
      turn = 3 * e.now.moment + 2;
      under = on;
      outside =
          event_came (length configs) (length made) came past piece e old new is moves events taken
          (subst (λ n. MayAsk n e.now e.now.addressee piece) count may)
          (turn_of_event (e.now.moment) old new row departures h.next on.comings) h;
    }
