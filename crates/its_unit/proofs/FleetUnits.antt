-- The frames of a unit are late or lost, and no more; and the units of a fleet run as units do.
use Rattle.std.proofs.Common.{◌≡◌, ◌≢◌, ◌⊎◌, ℕ, zero, suc, List, [], ◌∷◌, ◌++◌, Bool, true, false}
use Rattle.std.proofs.Common.{cond, Option, Some, None, refl, sym, ap, subst, ◌∙◌, inl, inr, eqb}
use Rattle.std.proofs.Common.{arith}
use Rattle.std.specs.Prelude.{slice_get, slice_set}
use Rattle.std.specs.Option.{option_map}
use Rattle.std.proofs.lemmas.Bool.Decides.{nat_tests}
use Rattle.std.proofs.lemmas.Option.{none-some}
use Rattle.its_model.specs.Packet.{Transmission}
use Rattle.its_model.specs.Calls as model
use Rattle.its_model.specs.Calls.{Answer}
use Rattle.its_model.specs.World as world
use Rattle.its_model.specs.World.{with_one_more}
use Rattle.its_unit.specs.Unit.{UnitModel, UnitAnswer, passed_step, refused_step, step_within}
use Rattle.its_unit.specs.Unit.{unit_step}
use Rattle.its_unit.specs.Runs.{UnitCallAt, unit_run, is_withheld, station_after, IsPartOf}
use Rattle.its_unit.specs.Fleets.{numbered, frame_passed, unit_kind, FleetWhat, FleetEvent}
use Rattle.its_unit.specs.Fleets.{FleetModel, new_fleet, Asked, asked, at_unit, happened}
use Rattle.its_unit.specs.Fleets.{called_if, fleet_step, fleet_run, call_at, calls_of}
use Rattle.its_unit.specs.FleetLaws.{AreAmong, IsLateOrLost, UnitsRun}
use Rattle.its_unit.proofs.Runs.{station_runs}
use Rattle.its_unit.proofs.FleetFrames.{same_set}
use Rattle.its_unit.proofs.Fleets.{none_is_in}

-- ---- a unit sends what its station made, or nothing

pub part_frame : (a : UnitAnswer) (whole : Answer Transmission) → IsPartOf a whole
    → (frame_passed a ≡ None) ⊎ (frame_passed a ≡ world.frame_of whole)
part_frame (UnitAnswer.Passed (model.Answer.Accepted handed sent))
    (model.Answer.Accepted message frame) part = part.1
part_frame (UnitAnswer.Passed answer) whole part = inr (ap world.frame_of part)
part_frame UnitAnswer.Repeated whole part = inl refl
part_frame UnitAnswer.OverRate whole part = inl refl

pub among_numbered : (n : ℕ) (x y : Option Transmission) → (x ≡ None) ⊎ (x ≡ y)
    → AreAmong (with_one_more [] (numbered n x)) (with_one_more [] (numbered n y))
among_numbered n x y (inl e) =
    subst (λ (z : Option Transmission).
    AreAmong (with_one_more [] (numbered n z)) (with_one_more [] (numbered n y))) (sym e)
    (λ f is. absurd (none_is_in f is))
among_numbered n x y (inr e) =
    subst (λ (z : Option Transmission).
    AreAmong (with_one_more [] (numbered n x)) (with_one_more [] (numbered n z))) e (λ f is. is)

-- the station after a call, by whether it is withheld
pub station_by : (u : UnitModel) (c : UnitCallAt) (b : Bool) → is_withheld u c ≡ b
    → (unit_step u c.now c.call).unit.station ≡ station_after u.station (cond b [] (c ∷ []))
station_by u c b e =
    (station_runs u).station (c ∷ [])
    ∙ ap (λ (p : Bool). station_after u.station (cond p [] (c ∷ []))) e

pub answer_withheld : (u : UnitModel) (c : UnitCallAt) → is_withheld u c ≡ true
    → (unit_step u c.now c.call).answer ≡ UnitAnswer.OverRate
answer_withheld u c e =
    ap (λ (p : Bool). (cond p (refused_step u)
    (passed_step u c.now c.call (step_within u.station c.now c.call))).answer) e

pub late_or_lost : IsLateOrLost unit_kind
late_or_lost = record {
  made = λ n u c e. (let part = (station_runs u).answers [] c e in
      record {
        station = station_by u c false e;
        answer = part;
        frames = among_numbered n (frame_passed (unit_step u c.now c.call).answer)
            (world.frame_of (step_within u.station c.now c.call).answer)
            (part_frame (unit_step u c.now c.call).answer
            (step_within u.station c.now c.call).answer part);
      });
  withheld = λ n u c e. record {
    station = station_by u c true e;
    answer = answer_withheld u c e;
    frames = among_numbered n (frame_passed (unit_step u c.now c.call).answer) None
        (inl (ap frame_passed (answer_withheld u c e)));
  };
  released = λ u now. record { station = refl; frames = λ f is. is };
}

-- ---- the units of a fleet

pub get_same : {X : Type 0} (xs : List X) (i : ℕ) (x y : X) → slice_get xs i ≡ Some x
    → slice_get (slice_set xs i y) i ≡ Some y
get_same [] i x y h = absurd (none-some x h)
get_same (z ∷ xs) zero x y h = refl
get_same (z ∷ xs) (suc i) x y h = get_same xs i x y h

pub get_other : {X : Type 0} (xs : List X) (i j : ℕ) (y : X) → i ≢ j
    → slice_get (slice_set xs i y) j ≡ slice_get xs j
get_other [] i j y differ = refl
get_other (z ∷ xs) zero zero y differ = absurd (differ refl)
get_other (z ∷ xs) zero (suc j) y differ = refl
get_other (z ∷ xs) (suc i) zero y differ = refl
get_other (z ∷ xs) (suc i) (suc j) y differ = get_other xs i j y (λ e. differ (ap suc e))

run_on : (u : UnitModel) (first next : List UnitCallAt)
    → unit_run u (first ++ next) ≡ unit_run (unit_run u first) next
run_on u [] next = refl
run_on u (c ∷ first) next = run_on (unit_step u c.now c.call).unit first next

-- a unit that there is, after runs
pub map_runs : (o : Option UnitModel) (first next : List UnitCallAt)
    → option_map (λ (u : UnitModel). unit_run u next)
    (option_map (λ (u : UnitModel). unit_run u first) o)
    ≡ option_map (λ (u : UnitModel). unit_run u (first ++ next)) o
map_runs None first next = refl
map_runs (Some u) first next = ap Some (sym (run_on u first next))

map_none : (o : Option UnitModel) → o ≡ option_map (λ (u : UnitModel). unit_run u []) o
map_none None = refl
map_none (Some u) = refl

-- the unit of an event
own_asked : (f : FleetModel UnitModel) (e : FleetEvent) (u : UnitModel) (o : Option Asked)
    → slice_get f.units e.unit ≡ Some u
    → slice_get (called_if unit_kind f e u o).units e.unit ≡ Some (unit_run u (call_at e o))
own_asked f e u None at = at
own_asked f e u (Some a) at =
    get_same f.units e.unit u (unit_step u e.moment a.call).unit at

own_happened : (f : FleetModel UnitModel) (e : FleetEvent) (u : UnitModel) (what : FleetWhat)
    → slice_get f.units e.unit ≡ Some u
    → slice_get (happened unit_kind f e u what).units e.unit
    ≡ Some (unit_run u (call_at e (asked f.sent what)))
own_happened f e u (FleetWhat.Calls call) at =
    own_asked f e u (asked f.sent (FleetWhat.Calls call)) at
own_happened f e u (FleetWhat.Deliver n) at =
    own_asked f e u (asked f.sent (FleetWhat.Deliver n)) at
own_happened f e u (FleetWhat.DeliverVerified n message) at =
    own_asked f e u (asked f.sent (FleetWhat.DeliverVerified n message)) at
own_happened f e u FleetWhat.Release at =
    ap (λ xs. slice_get xs e.unit) (same_set f.units e.unit u at) ∙ at

own_unit : (f : FleetModel UnitModel) (e : FleetEvent) (o : Option UnitModel)
    → slice_get f.units e.unit ≡ o
    → slice_get (at_unit unit_kind f e o).units e.unit
    ≡ option_map (λ (u : UnitModel). unit_run u (call_at e (asked f.sent e.what))) o
own_unit f e None at = at
own_unit f e (Some u) at = own_happened f e u e.what at

-- the other units
other_asked : (f : FleetModel UnitModel) (e : FleetEvent) (u : UnitModel) (o : Option Asked) (j : ℕ)
    → e.unit ≢ j → slice_get (called_if unit_kind f e u o).units j ≡ slice_get f.units j
other_asked f e u None j differ = refl
other_asked f e u (Some a) j differ =
    get_other f.units e.unit j (unit_step u e.moment a.call).unit differ

other_happened : (f : FleetModel UnitModel) (e : FleetEvent) (u : UnitModel) (what : FleetWhat)
    (j : ℕ) → e.unit ≢ j
    → slice_get (happened unit_kind f e u what).units j ≡ slice_get f.units j
other_happened f e u (FleetWhat.Calls call) j differ =
    other_asked f e u (asked f.sent (FleetWhat.Calls call)) j differ
other_happened f e u (FleetWhat.Deliver n) j differ =
    other_asked f e u (asked f.sent (FleetWhat.Deliver n)) j differ
other_happened f e u (FleetWhat.DeliverVerified n message) j differ =
    other_asked f e u (asked f.sent (FleetWhat.DeliverVerified n message)) j differ
other_happened f e u FleetWhat.Release j differ = get_other f.units e.unit j u differ

other_unit : (f : FleetModel UnitModel) (e : FleetEvent) (o : Option UnitModel) (j : ℕ)
    → e.unit ≢ j → slice_get (at_unit unit_kind f e o).units j ≡ slice_get f.units j
other_unit f e None j differ = refl
other_unit f e (Some u) j differ = other_happened f e u e.what j differ

-- unit j after an event
unit_after : (f : FleetModel UnitModel) (e : FleetEvent) (j : ℕ) (b : Bool) → eqb e.unit j ≡ b
    → slice_get (fleet_step unit_kind f e).units j
    ≡ option_map (λ (u : UnitModel). unit_run u (cond b (call_at e (asked f.sent e.what)) []))
    (slice_get f.units j)
unit_after f e j true same =
    subst (λ (i : ℕ). slice_get (fleet_step unit_kind f e).units i
    ≡ option_map (λ (u : UnitModel). unit_run u (call_at e (asked f.sent e.what)))
    (slice_get f.units i)) (grind (arith, nat_tests))
    (own_unit f e (slice_get f.units e.unit) refl)
unit_after f e j false same =
    other_unit f e (slice_get f.units e.unit) j (grind (arith, nat_tests))
    ∙ map_none (slice_get f.units j)

run_of_unit : (events : List FleetEvent) (f : FleetModel UnitModel) (j : ℕ)
    → slice_get (fleet_run unit_kind f events).units j
    ≡ option_map (λ (u : UnitModel). unit_run u (calls_of unit_kind j f events))
    (slice_get f.units j)
run_of_unit [] f j = map_none (slice_get f.units j)
run_of_unit (e ∷ events) f j =
    let next = fleet_step unit_kind f e in
    let first = cond (eqb e.unit j) (call_at e (asked f.sent e.what)) [] in
    run_of_unit events next j
    ∙ ap (option_map (λ (u : UnitModel). unit_run u (calls_of unit_kind j next events)))
    (unit_after f e j (eqb e.unit j) refl)
    ∙ map_runs (slice_get f.units j) first (calls_of unit_kind j next events)

pub units_run : (units : List UnitModel) → UnitsRun units
units_run units events j = run_of_unit events (new_fleet units) j
