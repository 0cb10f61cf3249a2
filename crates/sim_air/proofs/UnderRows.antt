-- A run with rows that is under way, from one step to the next.
use Rattle.std.proofs.Common.{true}
use Rattle.std.proofs.Common.{◌≡◌, ℕ, ◌+◌, ◌≤◌, ◌<◌, List, [], refl, sym, ap, subst, ◌∙◌, arith}
use Rattle.std.proofs.Common.{All}
use Rattle.std.proofs.Common.{Option, Some, None, length, slice_index_or, ◌++◌, append-nil, ◌∷◌}
use Rattle.std.proofs.Common.{◌⊎◌, inl, inr, map}
use Rattle.std.specs.Prelude.{Vec, IfNone, IfSome, slice_get}
use Rattle.std.specs.declared.alloc.Global.{Global}
use Rattle.std.specs.BinaryHeap.{heap_items}
use Rattle.std.specs.declared.collections.binary_heap.BinaryHeap.{BinaryHeap}
use Rattle.std.specs.List.Sorted.{IsNonDecreasingBy}
use Rattle.std.specs.Option.{ForSome}
use Rattle.std.proofs.lemmas.Option.{get_or_from_slice_get, slice_get_read, slice_get_within}
use denote.Ref.{Bor}
use Rattle.its_model.specs.World.{Config, Event}
use Rattle.sim_moves.specs.Rows.{IsRowBetween}
use Rattle.sim_moves.specs.declared.row.Row.{Row}
use Rattle.sim_scenario.specs.declared.events.event.AddressedEvent.{AddressedEvent}
use Rattle.its_world.specs.Entries.{Entry}
use Rattle.sim_air.specs.Moving.{DoesAt, IsMoving}
use Rattle.sim_air_model.specs.Timetable.{Rules}
use Rattle.sim_air_model.specs.Timetable.{Filed}
use Rattle.sim_air_model.specs.Timetable.Filed.{Happens}
use Rattle.sim_air.specs.Outside.{MayAsk, opening_at, row_move}
use Rattle.sim_air.specs.UnderRows.{ComesFrom, DoesEvent, DoesRow, IsComing, IsNext, IsUnder}
use Rattle.sim_air.specs.UnderRows.{MakesUnder}
use Rattle.sim_air.specs.UnderRows.{StaysAt, StaysUnder, stations_in}
use Rattle.sim_air.specs.UnderRows.{end_after, end_in}
use Rattle.sim_air.specs.declared.moving_run.Coming.{Coming}
use Rattle.sim_air.specs.declared.departures.Departure.{Departure}
use Rattle.sim_air.specs.declared.departures.Departures.{Departures}
use Rattle.sim_air.specs.declared.moving_run.MovingRun.{MovingRun}
use Rattle.sim_air.specs.declared.moving_run.Outside.{Outside}
use Rattle.sim_air.specs.declared.moving_run.Outside.TheVariants as outsides
use Rattle.sim_air.specs.declared.run.Run.{Run}
use Rattle.sim_air.specs.Runs.{SaysAsBefore}
use Rattle.sim_air.proofs.Moved.{ends_later, says_moving}

-- ---- what comes

-- what comes, comes no earlier than all that comes
pub from_coming : (m : MovingRun) (from moment : ℕ) (o : Outside) → IsComing m moment o
    → ComesFrom from m → from ≤ moment
from_coming m from moment outsides.Row c h =
    let le = h.row c.0 c.1 in
    let is = c.2 in omega (arith, le, is)
from_coming m from moment (outsides.Departure station) c h = c from h.departures
from_coming m from moment outsides.Event c h =
    let le = h.events c.0 c.1 in
    let is = c.2 in omega (arith, le, is)

pub comes_later : (m : MovingRun) (from from' : ℕ) → from' ≤ from → ComesFrom from m
    → ComesFrom from' m
comes_later m from from' le h =
    record {
      row = λ row is. let on = h.row row is in omega (arith, le, on);
      departures = λ k d lt. let on = h.departures k d lt in omega (arith, le, on);
      events = λ e is. let on = h.events e is in omega (arith, le, on);
    }

pub same_event : (old new : MovingRun) → new.events ≡ old.events → new.taken ≡ old.taken
    → slice_get new.events.items new.taken ≡ slice_get old.events.items old.taken
same_event old new events taken =
    ap (λ (v : Vec (Bor AddressedEvent) Global). slice_get v.items new.taken) events
    ∙ ap (λ n. slice_get old.events.items n) taken

-- the same comes
pub same_comes : (from : ℕ) (old new : MovingRun) → new.row ≡ old.row
    → All (λ d. from ≤ d.moment) (heap_items new.departures.waiting)
    → new.events ≡ old.events → new.taken ≡ old.taken → ComesFrom from old → ComesFrom from new
same_comes from old new row departures events taken h =
    record {
      row = λ r is. h.row r (sym row ∙ is);
      departures = departures;
      events = λ e is. h.events e (sym (same_event old new events taken) ∙ is);
    }

-- the same stations may leave
pub same_heap : (from : ℕ) (old new : Departures) → new.waiting ≡ old.waiting
    → All (λ d. from ≤ d.moment) (heap_items old.waiting)
    → All (λ d. from ≤ d.moment) (heap_items new.waiting)
same_heap from old new is h =
    subst (λ (x : BinaryHeap Departure Global). All (λ (d : Departure). from ≤ d.moment)
    (heap_items x)) (sym is) h

-- the next event comes no earlier than the one before it
pub next_event : (events : List (Bor AddressedEvent)) (n : ℕ) (e next : Bor AddressedEvent)
    → IsNonDecreasingBy (λ a. a.now.moment) events → slice_get events n ≡ Some e
    → slice_get events (n + 1) ≡ Some next → e.now.moment ≤ next.now.moment
next_event events n e next sorted is after =
    let le = sorted n (n + 1) e (omega arith) (slice_get_within events (n + 1) next after) in
    subst (λ (x : Bor AddressedEvent). e.now.moment ≤ x.now.moment)
    (get_or_from_slice_get events (n + 1) next e after)
    (subst (λ (x : Bor AddressedEvent). x.now.moment
    ≤ (slice_index_or events (n + 1) e).now.moment)
    (get_or_from_slice_get events n e e is) le)

-- ---- steps of the run inside

-- the run went on, and nothing else of what comes changed
pub under_moving : (rules : Rules) (configs made made' : List Config) (past past' : List Filed)
    (last from begin clock : ℕ) (old new : MovingRun) (A B : List Event → List Entry → Type 0)
    → new.row ≡ old.row → All (λ d. from ≤ d.moment) (heap_items new.departures.waiting)
    → new.events ≡ old.events → new.taken ≡ old.taken → end_in new ≡ end_in old
    → new.count.before ≡ old.count.before → new.count.delivered_by ≡ old.count.delivered_by
    → IsMoving true rules configs made' past' last from (end_in old) old.count.before
    old.count.delivered_by new.run B → IsUnder rules configs made past last from begin clock old A
    → IsUnder rules configs made' past' last from begin clock new B
under_moving rules configs made made' past past' last from begin clock old new A B row departures
    events taken end counted by moving h =
    record {
      moving =
          subst (λ n. IsMoving true rules configs made' past' last from n new.count.before
          new.count.delivered_by new.run B) (sym end)
          (subst (λ n. IsMoving true rules configs made' past' last from (end_in old) n
          new.count.delivered_by new.run B) (sym counted)
          (subst (λ n. IsMoving true rules configs made' past' last from (end_in old)
          old.count.before n new.run B) (sym by) moving));
      comings = same_comes from old new row departures events taken h.comings;
      ahead = λ r is. h.ahead r (sym row ∙ is);
    }

-- what comes at a moment is done, and other stations may leave, none before that
pub under_leaves : (moment : ℕ) (came : List Filed) (old new : MovingRun)
    (A B : List Event → List Entry → Type 0) → new.row ≡ old.row
    → ((from : ℕ) → All (λ d. from ≤ d.moment) (heap_items old.departures.waiting)
    → All (λ d. from ≤ d.moment) (heap_items new.departures.waiting))
    → new.events ≡ old.events → new.taken ≡ old.taken
    → end_in new ≡ end_in old → new.count.before ≡ old.count.before
    → new.count.delivered_by ≡ old.count.delivered_by → DoesAt true moment came old.run A new.run B
    → StaysAt moment came old A new B
under_leaves moment came old new A B row departures events taken end counted by does =
    λ rules configs made past begin clock within h.
    under_moving rules configs made made past (past ++ came) moment moment begin clock old new A B
    row (departures moment h.comings.departures) events taken end counted by
    (does rules configs made past (end_in old) old.count.before old.count.delivered_by within
    h.moving) h

-- nothing comes to the file
pub none_comes : (moment : ℕ) (old new : MovingRun) (A B : List Event → List Entry → Type 0)
    → ((rules : Rules) (configs made : List Config) (past : List Filed) (begin clock : ℕ)
    → IsUnder rules configs made past moment moment begin clock old A
    → IsUnder rules configs made past moment moment begin clock new B)
    → StaysAt moment [] old A new B
none_comes moment old new A B stays = λ rules configs made past begin clock within h.
    subst (λ (p : List Filed). IsUnder rules configs made p moment moment begin clock new B)
    (sym (append-nil past)) (stays rules configs made past begin clock h)

-- ---- events of the scenario

-- it is the one at this place
pub event_at : (events read : List (Bor AddressedEvent)) (n : ℕ) (e : Bor AddressedEvent)
    → read ≡ events → n < length read → e ≡ slice_index_or read n e
    → slice_get events n ≡ Some e
event_at events read n e same lt is =
    subst (λ (xs : List (Bor AddressedEvent)). slice_get xs n ≡ Some e) same
    (slice_get_read read (length read) n e refl lt is)

-- what comes once the next event was taken
event_comes : (e : Bor AddressedEvent) (old new : MovingRun)
    → slice_get old.events.items old.taken ≡ Some e → new.row ≡ old.row
    → new.departures ≡ old.departures → new.events ≡ old.events → new.taken ≡ old.taken + 1
    → ComesFrom (e.now.moment) old → ComesFrom (e.now.moment) new
event_comes e old new is row departures events taken h =
    record {
      row = λ r here. h.row r (sym row ∙ here);
      departures =
          subst (λ (d : Departures). All (λ (x : Departure). e.now.moment ≤ x.moment)
          (heap_items d.waiting)) (sym departures) h.departures;
      events = λ next here.
          next_event old.events.items old.taken e next old.sorted is
          (ap (λ n. slice_get old.events.items n) (sym taken)
          ∙ ap (λ (v : Vec (Bor AddressedEvent) Global). slice_get v.items new.taken)
          (sym events) ∙ here);
    }

-- the next event was taken, and isn't done yet
pub event_taken : (rules : Rules) (configs made : List Config) (past : List Filed)
    (begin clock : ℕ)
    (e : Bor AddressedEvent) (old new : MovingRun) (A : List Event → List Entry → Type 0)
    → slice_get old.events.items old.taken ≡ Some e → new.run ≡ old.run → new.row ≡ old.row
    → new.departures ≡ old.departures → new.events ≡ old.events → new.taken ≡ old.taken + 1
    → end_in new ≡ end_in old → new.count.before ≡ old.count.before
    → new.count.delivered_by ≡ old.count.delivered_by
    → IsUnder rules configs made past (e.now.moment) (e.now.moment) begin clock
    old A
    → IsUnder rules configs made past (e.now.moment) (e.now.moment) begin clock
    new A
event_taken rules configs made past begin clock e old new A is run row departures events taken end
    counted by h =
    let m = e.now.moment in
    record {
      moving =
          subst (λ (r : Run). IsMoving true rules configs made past m m (end_in new)
          new.count.before
          new.count.delivered_by r A) (sym run)
          (subst (λ n. IsMoving true rules configs made past m m n new.count.before
          new.count.delivered_by
          old.run A)
          (sym end)
          (subst (λ n. IsMoving true rules configs made past m m (end_in old) n
          new.count.delivered_by
          old.run A)
          (sym counted)
          (subst (λ n. IsMoving true rules configs made past m m (end_in old) old.count.before n
          old.run A)
          (sym by) h.moving)));
      comings = event_comes e old new is row departures events taken h.comings;
      ahead = λ r here. h.ahead r (sym row ∙ here);
    }

-- the next event was taken and done
pub event_done : (e : Bor AddressedEvent) (came : List Filed) (old new : MovingRun)
    (A B : List Event → List Entry → Type 0)
    → slice_get old.events.items old.taken ≡ Some e → new.row ≡ old.row
    → new.departures ≡ old.departures → new.events ≡ old.events → new.taken ≡ old.taken + 1
    → end_in new ≡ end_in old → new.count.before ≡ old.count.before
    → new.count.delivered_by ≡ old.count.delivered_by
    → DoesAt true (e.now.moment) came old.run A new.run B
    → StaysAt (e.now.moment) came old A new B
event_done e came old new A B is row departures events taken end counted by does =
    λ rules configs made past begin clock within h.
    let m = e.now.moment in
    record {
      moving =
          subst (λ n. IsMoving true rules configs made (past ++ came) m m n new.count.before
          new.count.delivered_by new.run B) (sym end)
          (subst (λ n. IsMoving true rules configs made (past ++ came) m m (end_in old) n
          new.count.delivered_by new.run B) (sym counted)
          (subst (λ n. IsMoving true rules configs made (past ++ came) m m (end_in old)
          old.count.before n new.run B) (sym by)
          (does rules configs made past (end_in old) old.count.before old.count.delivered_by within
          h.moving)));
      comings = event_comes e old new is row departures events taken h.comings;
      ahead = λ r here. h.ahead r (sym row ∙ here);
    }

-- the sink was told more, of which it says nothing
pub says_under : (rules : Rules) (configs made : List Config) (past : List Filed)
    (last from begin clock : ℕ) (m : MovingRun) (A B : List Event → List Entry → Type 0)
    → SaysAsBefore A B → IsUnder rules configs made past last from begin clock m A
    → IsUnder rules configs made past last from begin clock m B
says_under rules configs made past last from begin clock m A B says h =
    record {
      moving =
          says_moving true rules configs made past last from (end_in m) m.count.before
          m.count.delivered_by m.run A B says h.moving;
      comings = h.comings;
      ahead = h.ahead;
    }

-- so the next event was done, as the scenario has it
pub event_does : (event e : Bor AddressedEvent) (came : List Filed) (old new : MovingRun)
    (A B : List Event → List Entry → Type 0) → event ≡ e
    → slice_get old.events.items old.taken ≡ Some event → new.row ≡ old.row
    → new.departures ≡ old.departures → new.events ≡ old.events → new.taken ≡ old.taken + 1
    → end_in new ≡ end_in old → new.count.before ≡ old.count.before
    → new.count.delivered_by ≡ old.count.delivered_by
    → MayAsk (stations_in old) event.now event.now.addressee came
    → DoesAt true (event.now.moment) came old.run A new.run B → DoesEvent e.now old A new B
event_does event e came old new A B one is row departures events taken end counted by may does =
    subst (λ (x : Bor AddressedEvent). DoesEvent x.now old A new B) one (
      came,
      may,
      event_done event came old new A B is row departures events taken end counted by
          does,
    )

-- the next event was taken, and nothing was done
pub event_passed : (event e : Bor AddressedEvent) (old new : MovingRun)
    (A B : List Event → List Entry → Type 0) → event ≡ e
    → slice_get old.events.items old.taken ≡ Some event → new.run ≡ old.run
    → new.row ≡ old.row → new.departures ≡ old.departures → new.events ≡ old.events
    → new.taken ≡ old.taken + 1 → end_in new ≡ end_in old
    → new.count.before ≡ old.count.before → new.count.delivered_by ≡ old.count.delivered_by
    → MayAsk (stations_in old) event.now event.now.addressee []
    → SaysAsBefore A B → DoesEvent e.now old A new B
event_passed event e old new A B one is run row departures events taken end counted by may says =
    let m = event.now.moment in
    subst (λ (x : Bor AddressedEvent). DoesEvent x.now old A new B) one (
      [],
      may,
      none_comes m old new A B (λ rules configs made past begin clock h.
          says_under rules configs made past m m begin clock new A B says
          (event_taken rules configs made past begin clock event old new A is run row departures
          events
          taken end counted by h)),
    )

-- ---- rows

-- the last moment is the same
pub same_end : (old new : MovingRun) → new.until ≡ old.until → new.greatest ≡ old.greatest
    → end_in new ≡ end_in old
same_end old new until greatest =
    ap (λ (u : Option ℕ). end_after u new.greatest) until
    ∙ ap (λ n. end_after old.until n) greatest

ends_no_sooner : (until : Option ℕ) (greatest greatest' : ℕ) → greatest ≤ greatest'
    → end_after until greatest ≤ end_after until greatest'
ends_no_sooner (Some until) greatest greatest' le = omega arith
ends_no_sooner None greatest greatest' le = omega (arith, le)

-- the next row was read
pub row_read : (rules : Rules) (configs made : List Config) (past : List Filed)
    (last from begin clock clock' : ℕ)
    (old new : MovingRun) (A : List Event → List Entry → Type 0) → new.run ≡ old.run
    → new.departures ≡ old.departures → new.events ≡ old.events → new.taken ≡ old.taken
    → new.count.before ≡ old.count.before → new.count.delivered_by ≡ old.count.delivered_by
    → new.until ≡ old.until → old.greatest ≤ new.greatest
    → ForSome new.row (IsRowBetween begin clock clock')
    → ((n : ℕ) → clock ≤ n + begin → from ≤ n)
    → IsUnder rules configs made past last from begin clock old A
    → IsUnder rules configs made past last from begin clock' new A
row_read rules configs made past last from begin clock clock' old new A run departures events
    taken counted by
    until greatest row behind h =
    let later : end_in old ≤ end_in new =
    subst (λ (u : Option ℕ). end_in old ≤ end_after u new.greatest) (sym until)
    (ends_no_sooner old.until old.greatest new.greatest greatest) in
    record {
      moving =
          subst (λ (r : Run). IsMoving true rules configs made past last from (end_in new)
          new.count.before
          new.count.delivered_by r A) (sym run)
          (subst (λ n. IsMoving true rules configs made past last from (end_in new) n
          new.count.delivered_by
          old.run A)
          (sym counted)
          (subst (λ n. IsMoving true rules configs made past last from (end_in new) old.count.before
          n old.run A)
          (sym by)
          (ends_later true rules configs made past last from (end_in old) (end_in new)
          old.count.before
          old.count.delivered_by old.run A later h.moving)));
      comings =
          record {
            row = λ r is. behind r.moment (row r is).no_earlier;
            departures =
                subst (λ (d : Departures). All (λ (x : Departure). from ≤ x.moment)
                (heap_items d.waiting)) (sym departures) h.comings.departures;
            events = λ e is. h.comings.events e (sym (same_event old new events taken) ∙ is);
          };
      ahead = λ r is. (row r is).no_later;
    }

-- a row is done: the station is there, or it was made, with the ports that it opens
pub row_does : (row : Row) (station : ℕ) (ports : List ℕ) (old one new : MovingRun)
    (A B C : List Event → List Entry → Type 0)
    → ((station < stations_in old) × (ports ≡ []) × StaysUnder old A one B)
    ⊎ ((station ≡ stations_in old) × (ports ≡ old.moves.now.ports.items)
    × (config : Config) × MakesUnder config old A one B)
    → end_in one ≡ end_in old → new.row ≡ one.row
    → ((from : ℕ) → from ≤ row.moment
    → All (λ d. from ≤ d.moment) (heap_items one.departures.waiting)
    → All (λ d. from ≤ d.moment) (heap_items new.departures.waiting))
    → new.events ≡ one.events → new.taken ≡ one.taken → end_in new ≡ end_in one
    → new.count.before ≡ one.count.before → new.count.delivered_by ≡ one.count.delivered_by
    → DoesAt true row.moment (Happens (row_move station row)
    ∷ map (opening_at station row.moment) ports) one.run B new.run C
    → DoesRow row old A new C
row_does row station ports old one new A B C (inl x) same row_same departures events taken end
    counted
    by does =
    inl (
      station,
      x.0,
      λ rules configs made past begin clock within h.
          let m = row.moment in
          let came : List Filed = Happens (row_move station row) ∷ [] in
          let under = x.2 rules configs made past m m begin clock h in
          let moves : DoesAt true m came one.run B new.run C =
          subst (λ (l : List ℕ). DoesAt true m (Happens (row_move station row)
          ∷ map (opening_at station m) l) one.run B new.run C) x.1 does in
          under_moving rules configs made made past (past ++ came) m m begin clock one new B C
          row_same (departures m (omega arith) under.comings.departures) events taken end counted by
          (moves rules configs made past (end_in one) one.count.before one.count.delivered_by
          (subst (λ (n : ℕ). m ≤ n) (sym same) within) under.moving) under,
    )
row_does row station ports old one new A B C (inr x) same row_same departures events taken end
    counted
    by does =
    inr (
      x.2,
      λ rules configs made past begin clock within h.
          let m = row.moment in
          let count = stations_in old in
          let opens = old.moves.now.ports.items in
          let came : List Filed = Happens (row_move count row) ∷ map (opening_at count m) opens in
          let under = x.3 rules configs made past m m begin clock h in
          let moves : DoesAt true m came one.run B new.run C =
          subst (λ (n : ℕ). DoesAt true m (Happens (row_move n row) ∷ map (opening_at n m) opens)
          one.run B new.run C) x.0
          (subst (λ (l : List ℕ). DoesAt true m (Happens (row_move station row)
          ∷ map (opening_at station m) l) one.run B new.run C) x.1 does) in
          under_moving rules configs (made ++ x.2 ∷ []) (made ++ x.2 ∷ []) past (past ++ came) m m
          begin clock one new B C
          row_same (departures m (omega arith) under.comings.departures) events taken end counted by
          (moves rules configs (made ++ x.2 ∷ []) past (end_in one) one.count.before
          one.count.delivered_by (subst (λ (n : ℕ). m ≤ n) (sym same) within) under.moving) under,
    )

-- the next row was taken, and isn't done yet
pub row_taken : (rules : Rules) (configs made : List Config) (past : List Filed)
    (last from begin clock : ℕ)
    (old new : MovingRun) (A : List Event → List Entry → Type 0) → new.row ≡ None
    → new.run ≡ old.run → new.departures ≡ old.departures → new.events ≡ old.events
    → new.taken ≡ old.taken → end_in new ≡ end_in old → new.count.before ≡ old.count.before
    → new.count.delivered_by ≡ old.count.delivered_by → IsUnder rules configs made past last from
    begin clock
    old A
    → IsUnder rules configs made past last from begin clock new A
row_taken rules configs made past last from begin clock old new A row run departures events taken
    end counted
    by h =
    record {
      moving =
          subst (λ (r : Run). IsMoving true rules configs made past last from (end_in new)
          new.count.before
          new.count.delivered_by r A) (sym run)
          (subst (λ n. IsMoving true rules configs made past last from n new.count.before
          new.count.delivered_by
          old.run A) (sym end)
          (subst (λ n. IsMoving true rules configs made past last from (end_in old) n
          new.count.delivered_by
          old.run A)
          (sym counted)
          (subst (λ n. IsMoving true rules configs made past last from (end_in old) old.count.before
          n old.run A)
          (sym by) h.moving)));
      comings =
          record {
            row = λ r is. let no : None ≡ Some r = sym row ∙ is in no_row r no;
            departures =
                subst (λ (d : Departures). All (λ (x : Departure). from ≤ x.moment)
                (heap_items d.waiting)) (sym departures) h.comings.departures;
            events = λ e is. h.comings.events e (sym (same_event old new events taken) ∙ is);
          };
      ahead = λ r is. let no : None ≡ Some r = sym row ∙ is in no_row r no;
    }
  where
    no_row : {P : Type 0} (r : Row) → None ≡ Some r → P
    no_row r is = let no : ⊥ = cc in absurd no

-- nothing is done yet
pub begun_under : (rules : Rules) (configs made : List Config) (past : List Filed)
    (begin clock : ℕ) (m : MovingRun)
    (Took : List Event → List Entry → Type 0)
    → IsMoving true rules configs made past 0 0 (end_in m) 0 0 m.run Took → m.row ≡ None
    → heap_items m.departures.waiting ≡ [] → m.count.before ≡ 0 → m.count.delivered_by ≡ 0
    → IsUnder rules configs made past 0 0 begin clock m Took
begun_under rules configs made past begin clock m Took moving row none counted by =
    record {
      moving =
          subst (λ n. IsMoving true rules configs made past 0 0 (end_in m) n m.count.delivered_by
          m.run Took)
          (sym counted)
          (subst (λ n. IsMoving true rules configs made past 0 0 (end_in m) 0 n m.run Took) (sym by)
          moving);
      comings =
          record {
            row = λ r is. omega arith;
            departures = λ k d lt. omega arith;
            events = λ e is. omega arith;
          };
      ahead = λ r is. let no : None ≡ Some r = sym row ∙ is in no_row r no;
    }
  where
    no_row : {P : Type 0} (r : Row) → None ≡ Some r → P
    no_row r is = let no : ⊥ = cc in absurd no

-- ---- the next step

pub some_is : {X : Type 0} (o : Option X) (P : X → Type 0) (x : X) → o ≡ Some x → IfSome o P → P x
some_is o P x is h = subst (λ (y : Option _). IfSome y P) is h

none_is : {X : Type 0} (o : Option X) (P : Type 0) → o ≡ None → IfNone o P → P
none_is o P is h = subst (λ (y : Option _). IfNone y P) is h

-- the air's own come first up to what comes next, and none of it comes before that
pub limits : (o : Option Coming) (m : MovingRun) (limit end : ℕ)
    → IfSome o (λ c. c.moment ≤ end) → IfSome o (IsNext m) → IfNone o (ComesFrom (end + 1) m)
    → IfSome o (λ c. limit ≡ c.moment) → IfNone o (limit ≡ end + 1)
    → (limit ≤ end + 1) × ComesFrom limit m
limits (Some c) m limit end until next none some last = (
  omega (arith, until, some),
  subst (λ n. ComesFrom n m) (sym some) next.first,
)
limits None m limit end until next none some last =
    (omega (arith, last), subst (λ n. ComesFrom n m) (sym last) none)

pub is_next_of : (o : Option Coming) (m : MovingRun) (limit : ℕ) (c : Coming) → o ≡ Some c
    → IfSome o (IsNext m) → IfSome o (λ c. limit ≡ c.moment)
    → IsNext m c × (limit ≡ c.moment)
is_next_of o m limit c is next some = (
  some_is o (IsNext m) c is next,
  some_is o (λ x. limit ≡ x.moment) c is some,
)

pub is_last_of : (o : Option Coming) (limit end : ℕ) → o ≡ None → IfNone o (limit ≡ end + 1)
    → limit ≡ end + 1
is_last_of o limit end is last = none_is o (limit ≡ end + 1) is last

-- nothing comes up to the last moment
pub none_until : (o : Option Coming) (m : MovingRun) (end : ℕ) → o ≡ None
    → IfNone o (ComesFrom (end + 1) m) → ComesFrom (end + 1) m
none_until o m end is none = none_is o (ComesFrom (end + 1) m) is none

-- the last moment is the given one, if one is given
pub end_given : (until : Option ℕ) (greatest : ℕ)
    → IfSome until (λ moment. end_after until greatest ≡ moment)
end_given (Some until) greatest = refl
end_given None greatest = tt

-- one of the air's own was done
pub own_under : (rules : Rules) (configs made : List Config) (past : List Filed)
    (moment begin clock : ℕ) (old new : MovingRun) (B : List Event → List Entry → Type 0)
    → new.row ≡ old.row
    → new.departures ≡ old.departures → new.events ≡ old.events → new.taken ≡ old.taken
    → end_in new ≡ end_in old → ComesFrom (moment + 1) old
    → ForSome old.row (λ row. row.moment + begin ≤ clock)
    → IsMoving true rules configs made past moment (moment + 1) (end_in old) new.count.before
    new.count.delivered_by new.run B
    → IsUnder rules configs made past moment (moment + 1) begin clock new B
own_under rules configs made past moment begin clock old new B row departures events taken end
    comes ahead moving =
    record {
      moving =
          subst (λ n. IsMoving true rules configs made past moment (moment + 1) n new.count.before
          new.count.delivered_by new.run B) (sym end) moving;
      comings =
          same_comes (moment + 1) old new row
          (subst (λ (d : Departures). All (λ (x : Departure). moment + 1 ≤ x.moment)
          (heap_items d.waiting)) (sym departures) comes.departures) events taken comes;
      ahead = λ r is. ahead r (sym row ∙ is);
    }
