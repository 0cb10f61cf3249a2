-- A fleet does what a world does.
use Rattle.std.proofs.Common.{◌≡◌, ℕ, List, [], ◌∷◌, ◌++◌, map, length, Bool, true, false}
use Rattle.std.proofs.Common.{cond, Option, Some, None, refl, sym, ap, subst, ◌∙◌}
use Rattle.std.specs.Prelude.{slice_get, slice_set}
use Rattle.std.specs.List.{AllZip}
use Rattle.std.proofs.lemmas.Option.{none-some, same_Some}
use Rattle.its_model.specs.Packet.{Transmission}
use Rattle.its_model.specs.Calls as model
use Rattle.its_model.specs.Calls.{Answer}
use Rattle.its_model.specs.Station.{StationModel, Step, station_step}
use Rattle.its_model.specs.World as world
use Rattle.its_model.specs.World.{Config, Event, LogLine, What, WorldModel, entry_of, opening}
use Rattle.its_model.specs.World.{station_of, with_one_more, world_run, world_step}
use Rattle.its_unit.specs.Unit.{UnitAnswer, UnitCall, step_within}
use Rattle.its_unit.specs.Runs.{IsPartOf, UnitCallAt}
use Rattle.its_unit.specs.Fleets.{NumberedFrame, Sending, UnitKind, numbered, FleetWhat, FleetEvent}
use Rattle.its_unit.specs.Fleets.{FleetLine, FleetModel, new_fleet, Asked, delivery, plain}
use Rattle.its_unit.specs.Fleets.{verified}
use Rattle.its_unit.specs.Fleets.{asked, at_time, whole_answer, called_if, released, happened}
use Rattle.its_unit.specs.Fleets.{at_unit, fleet_step, fleet_run, call_in_world, unit_in_world}
use Rattle.its_unit.specs.Fleets.{event_in_world, world_events}
use Rattle.its_unit.specs.FleetLaws.{IsIn, AreNumbered, SendsOwn, IsMade, IsKeptBack}
use Rattle.its_unit.specs.FleetLaws.{IsLateOrLost, IsDelivery, IsSameWhat, IsLineOf}
use Rattle.its_unit.specs.FleetLaws.{is_made, made_lines, IsLikeWorld, AreNewUnits, FleetIsWorld}
use Rattle.its_unit.proofs.FleetFrames.{map_set, same_set, get_map, HasNumber}
use Rattle.its_unit.proofs.FleetFrames.{one_more_numbered, keep_numbers, new_numbered, same_what}
use Rattle.its_unit.proofs.FleetFrames.{same_lines, waiting_after, sent_after}

-- ---- a step in which the station does nothing

released_like : {U : Type 0} (kind : UnitKind U) (f : FleetModel U) (w : WorldModel)
    (e : FleetEvent) (u : U) (s : Sending U) → slice_get f.units e.unit ≡ Some u
    → kind.station s.unit ≡ kind.station u → SendsOwn kind u None s
    → IsLikeWorld kind f w → IsLikeWorld kind (released f e s) w
released_like kind f w e u s at same own h =
    let all : AreNumbered w.air (with_one_more (kind.waiting s.unit) s.sent) =
    λ x is. h.waiting u (e.unit, at) x (own x is) in
    record {
      stations = map_set kind.station f.units e.unit s.unit
          ∙ ap (λ x. slice_set (map kind.station f.units) e.unit x) same
          ∙ same_set (map kind.station f.units) e.unit (kind.station u)
          (get_map kind.station f.units e.unit u at)
          ∙ h.stations;
      made = h.made;
      sent = sent_after kind f.sent w.air s h.sent all;
      waiting = waiting_after kind f.units e.unit w.air s h.waiting all;
      log = same_lines f.sent s.sent w.air None (made_lines f.log) w.log h.log;
    }

-- a line of a call that is withheld is no line of the world
withheld_lines : (line : FleetLine) (log : List FleetLine) → line.answer ≡ UnitAnswer.OverRate
    → made_lines log ≡ made_lines (line ∷ log)
withheld_lines line log over =
    ap (λ (a : UnitAnswer). cond (is_made a) (line ∷ made_lines log) (made_lines log)) (sym over)

-- ---- a call that the station makes

-- the step of the world for what is asked of a unit
pub record Does (w : WorldModel) (e : Event) (sent : List NumberedFrame) (what : FleetWhat)
    (step : Step) : Type 0 where
  pub delivered : Option Transmission
  pub is : world_step w e ≡ world.answered w e delivered step
  pub same : IsSameWhat sent what e.what

abbrev pub in_world : ℕ → ℕ → What → Event
in_world j now what = record { station = j; moment = now; what = what }

-- the step of a delivery
brings : (w : WorldModel) (sent : List NumberedFrame) (s : StationModel) (j now n : ℕ)
    (brought : Transmission → UnitCall) (o : Option NumberedFrame) (a : Asked)
    → slice_get w.stations j ≡ Some s → AreNumbered w.air sent
    → ((t : Transmission) → station_step s now (model.Call.Receive t)
    ≡ step_within s now (brought t))
    → slice_get sent n ≡ o → delivery brought o ≡ Some a
    → (d : Option Transmission) × IsDelivery sent n a.what
    × (world_step w (in_world j now a.what)
    ≡ world.answered w (in_world j now a.what) d (step_within s now a.call))
brings w sent s j now n brought None a at h as_step got e = absurd (none-some a e)
brings w sent s j now n brought (Some f) a at h as_step got e =
    let event = in_world j now (What.Deliver f.number) in
    subst (λ (x : Asked). (d : Option Transmission) × IsDelivery sent n x.what
    × (world_step w (in_world j now x.what)
    ≡ world.answered w (in_world j now x.what) d (step_within s now x.call)))
    (same_Some (record { call = brought f.frame; what = What.Deliver f.number }) a e) (
      Some f.frame,
      record { frame = f; is = got; what_is = refl },
      ap (world.at_station w event) at ∙ ap (world.delivery w event s) (h f (n, got))
          ∙ ap (world.answered w event (Some f.frame)) (as_step f.frame),
    )

pub does : (w : WorldModel) (sent : List NumberedFrame) (s : StationModel) (j now : ℕ)
    (what : FleetWhat) (a : Asked) → slice_get w.stations j ≡ Some s → AreNumbered w.air sent
    → asked sent what ≡ Some a
    → Does w (in_world j now a.what) sent what (step_within s now a.call)
does w sent s j now (FleetWhat.Calls call) a at h e =
    subst (λ (x : Asked). Does w (in_world j now x.what) sent (FleetWhat.Calls call)
    (step_within s now x.call))
    (same_Some (record { call = UnitCall.Own call; what = What.Calls call }) a e)
    (record {
      delivered = None;
      is = ap (world.at_station w (in_world j now (What.Calls call))) at;
      same = refl;
    })
does w sent s j now (FleetWhat.Deliver n) a at h e =
    let b = brings w sent s j now n plain (slice_get sent n) a at h (λ t. refl) refl e in
    record { delivered = b.0; is = b.2; same = b.1 }
does w sent s j now (FleetWhat.DeliverVerified n message) a at h e =
    let b =
    brings w sent s j now n (verified message) (slice_get sent n) a at h (λ t. refl) refl e in
    record { delivered = b.0; is = b.2; same = b.1 }
does w sent s j now FleetWhat.Release a at h e = absurd (none-some a e)

-- a call of a unit, by whether it is withheld
abbrev called_by : {U : Type 0} → UnitKind U → FleetModel U → FleetEvent → U → UnitCallAt → Bool
    → FleetModel U
called_by kind f e u c withheld =
    record {
      units = slice_set f.units e.unit (kind.call (length f.made) u c).unit;
      made = with_one_more f.made (cond withheld None (world.frame_of (whole_answer kind u c)));
      sent = with_one_more f.sent (kind.call (length f.made) u c).sent;
      log = record { event = e; number = length f.made; answer = kind.answer u c } ∷ f.log;
    }

-- what a part of an answer passes of is a call that the station made
part_is_made : (a : UnitAnswer) (whole : Answer Transmission) → IsPartOf a whole → is_made a ≡ true
part_is_made (UnitAnswer.Passed answer) whole part = refl
part_is_made UnitAnswer.Repeated whole part = refl
part_is_made UnitAnswer.OverRate whole part = absurd part

made_line : (line : FleetLine) (log : List FleetLine) → is_made line.answer ≡ true
    → line ∷ made_lines log ≡ made_lines (line ∷ log)
made_line line log made =
    ap (λ (b : Bool). cond b (line ∷ made_lines log) (made_lines log)) (sym made)

made_like : {U : Type 0} (kind : UnitKind U) (f : FleetModel U) (w : WorldModel) (e : FleetEvent)
    (u : U) (a : Asked) → slice_get f.units e.unit ≡ Some u
    → IsMade kind (length f.made) u (at_time e a)
    → Does w (in_world e.unit e.moment a.what) f.sent e.what
    (step_within (kind.station u) e.moment a.call)
    → IsLikeWorld kind f w
    → IsLikeWorld kind (called_by kind f e u (at_time e a) false)
    (world_step w (in_world e.unit e.moment a.what))
made_like kind f w e u a at made d h =
    let c = at_time e a in
    let step = step_within (kind.station u) e.moment a.call in
    let new = world.frame_of step.answer in
    let s = kind.call (length f.made) u c in
    let air = with_one_more w.air new in
    let all : AreNumbered air (with_one_more (kind.waiting s.unit) s.sent) =
    λ x is. (one_more_numbered air (kind.waiting u) (numbered (length f.made) new)
    (keep_numbers w.air new (kind.waiting u) (h.waiting u (e.unit, at)))
    (λ y e. subst (λ (l : List Transmission). HasNumber (with_one_more l new) y)
    h.made (new_numbered f.made new y e)))
    x (made.frames x is) in
    subst (λ (v : WorldModel). IsLikeWorld kind (called_by kind f e u c false) v) (sym d.is)
    (record {
      stations = map_set kind.station f.units e.unit s.unit
          ∙ ap (λ x. slice_set (map kind.station f.units) e.unit x) made.station
          ∙ ap (λ xs. slice_set xs e.unit step.station) h.stations;
      made = ap (λ xs. with_one_more xs new) h.made;
      sent = sent_after kind f.sent air s (keep_numbers w.air new f.sent h.sent) all;
      waiting = waiting_after kind f.units e.unit air s
          (λ v is. keep_numbers w.air new (kind.waiting v) (h.waiting v is)) all;
      log = subst (λ l. AllZip (IsLineOf (with_one_more f.sent s.sent) air) l
          (world.answered w (in_world e.unit e.moment a.what) d.delivered step).log)
          (made_line (record { event = e; number = length f.made; answer = kind.answer u c }) f.log
          (part_is_made (kind.answer u c) step.answer made.answer)) (
            record {
              station = refl;
              moment = refl;
              what = same_what f.sent s.sent e.what a.what d.same;
              whole = step.answer;
              entry = ap (λ (l : List Transmission). entry_of (length l) step.answer) (sym h.made);
              frame = λ t is. subst (λ (l : List Transmission).
                  HasNumber (with_one_more l new) (record { number = length f.made; frame = t }))
                  h.made
                  (new_numbered f.made new (record { number = length f.made; frame = t })
                  (ap (λ (o : Option Transmission). numbered (length f.made) o) is));
              part = made.answer;
            },
            same_lines f.sent s.sent w.air new (made_lines f.log) w.log h.log,
          );
    })

withheld_like : {U : Type 0} (kind : UnitKind U) (f : FleetModel U) (w : WorldModel)
    (e : FleetEvent) (u : U) (c : UnitCallAt) → slice_get f.units e.unit ≡ Some u
    → IsKeptBack kind (length f.made) u c → IsLikeWorld kind f w
    → IsLikeWorld kind (called_by kind f e u c true) w
withheld_like kind f w e u c at kept h =
    let s = kind.call (length f.made) u c in
    let q = released_like kind f w e u s at kept.station kept.frames h in
    record {
      stations = q.stations;
      made = q.made;
      sent = q.sent;
      waiting = q.waiting;
      log = subst (λ l. AllZip (IsLineOf (with_one_more f.sent s.sent) w.air) l w.log)
          (withheld_lines (record { event = e; number = length f.made; answer = kind.answer u c })
          f.log kept.answer) q.log;
    }

-- ---- a step

called_like : {U : Type 0} (kind : UnitKind U) → IsLateOrLost kind → (f : FleetModel U)
    (w : WorldModel) (e : FleetEvent) (u : U) (o : Option Asked) → slice_get f.units e.unit ≡ Some u
    → asked f.sent e.what ≡ o → IsLikeWorld kind f w
    → IsLikeWorld kind (called_if kind f e u o) (world_run w (call_in_world kind e u o))
called_like kind lawful f w e u None at is h = h
called_like kind lawful f w e u (Some a) at is h =
    by (kind.is_withheld u (at_time e a)) refl
  where
    by : (b : Bool) → kind.is_withheld u (at_time e a) ≡ b
        → IsLikeWorld kind (called_by kind f e u (at_time e a) b)
        (world_run w (cond b [] (in_world e.unit e.moment a.what ∷ [])))
    by true withheld =
        withheld_like kind f w e u (at_time e a) at
        (lawful.withheld (length f.made) u (at_time e a) withheld) h
    by false made =
        made_like kind f w e u a at (lawful.made (length f.made) u (at_time e a) made)
        (does w f.sent (kind.station u) e.unit e.moment e.what a
        (ap (λ xs. slice_get xs e.unit) (sym h.stations)
        ∙ get_map kind.station f.units e.unit u at) h.sent is) h

happened_like : {U : Type 0} (kind : UnitKind U) → IsLateOrLost kind → (f : FleetModel U)
    (w : WorldModel) (e : FleetEvent) (u : U) (what : FleetWhat)
    → slice_get f.units e.unit ≡ Some u → e.what ≡ what → IsLikeWorld kind f w
    → IsLikeWorld kind (happened kind f e u what)
    (world_run w (call_in_world kind e u (asked f.sent what)))
happened_like kind lawful f w e u (FleetWhat.Calls call) at is h =
    called_like kind lawful f w e u (asked f.sent (FleetWhat.Calls call)) at
    (ap (asked f.sent) is) h
happened_like kind lawful f w e u (FleetWhat.Deliver n) at is h =
    called_like kind lawful f w e u (asked f.sent (FleetWhat.Deliver n)) at
    (ap (asked f.sent) is) h
happened_like kind lawful f w e u (FleetWhat.DeliverVerified n message) at is h =
    called_like kind lawful f w e u (asked f.sent (FleetWhat.DeliverVerified n message)) at
    (ap (asked f.sent) is) h
happened_like kind lawful f w e u FleetWhat.Release at is h =
    let release = lawful.released u e.moment in
    released_like kind f w e u (kind.release u e.moment) at release.station release.frames h

unit_like : {U : Type 0} (kind : UnitKind U) → IsLateOrLost kind → (f : FleetModel U)
    (w : WorldModel) (e : FleetEvent) (o : Option U) → slice_get f.units e.unit ≡ o
    → IsLikeWorld kind f w
    → IsLikeWorld kind (at_unit kind f e o) (world_run w (unit_in_world kind f e o))
unit_like kind lawful f w e None at h = h
unit_like kind lawful f w e (Some u) at h = happened_like kind lawful f w e u e.what at refl h

-- an event in a fleet is that in the world, or none
pub step_like : {U : Type 0} (kind : UnitKind U) → IsLateOrLost kind → (f : FleetModel U)
    (w : WorldModel) (e : FleetEvent) → IsLikeWorld kind f w
    → IsLikeWorld kind (fleet_step kind f e) (world_run w (event_in_world kind f e))
step_like kind lawful f w e h = unit_like kind lawful f w e (slice_get f.units e.unit) refl h

-- ---- a run

pub run_goes_on : (w : WorldModel) (first next : List Event)
    → world_run w (first ++ next) ≡ world_run (world_run w first) next
run_goes_on w [] next = refl
run_goes_on w (e ∷ first) next = run_goes_on (world_step w e) first next

run_like : {U : Type 0} (kind : UnitKind U) → IsLateOrLost kind → (f : FleetModel U)
    (w : WorldModel) (events : List FleetEvent) → IsLikeWorld kind f w
    → IsLikeWorld kind (fleet_run kind f events) (world_run w (world_events kind f events))
run_like kind lawful f w [] h = h
run_like kind lawful f w (e ∷ events) h =
    subst (λ (v : WorldModel). IsLikeWorld kind (fleet_run kind (fleet_step kind f e) events) v)
    (sym (run_goes_on w (event_in_world kind f e) (world_events kind (fleet_step kind f e) events)))
    (run_like kind lawful (fleet_step kind f e) (world_run w (event_in_world kind f e)) events
    (step_like kind lawful f w e h))

pub none_is_in : {X : Type 0} (x : X) → IsIn [] x → ⊥
none_is_in x is = none-some x is.1

new_like : {U : Type 0} (kind : UnitKind U) (configs : List Config) (units : List U)
    → AreNewUnits kind configs units → IsLikeWorld kind (new_fleet units) (opening configs)
new_like kind configs units new = record {
  stations = new.stations;
  made = refl;
  sent = λ f is. absurd (none_is_in f is);
  waiting = λ u is f among.
      absurd (none_is_in f (subst (λ xs. IsIn xs f) (new.waiting u is) among));
  log = tt;
}

-- A fleet of units whose frames are late or lost, and no more, does what a run of the world does.
pub fleet_is_world : {U : Type 0} (kind : UnitKind U) → IsLateOrLost kind → (configs : List Config)
    (units : List U) → AreNewUnits kind configs units → FleetIsWorld kind configs units
fleet_is_world kind lawful configs units new events =
    run_like kind lawful (new_fleet units) (opening configs) events
    (new_like kind configs units new)
