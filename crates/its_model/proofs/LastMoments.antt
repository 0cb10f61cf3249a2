-- No station's clock is ahead of all lines.
use Rattle.std.proofs.Common.{◌≡◌, ℕ, zero, suc, ◌≤◌, List, [], ◌∷◌, ◌++◌, map, Option}
use Rattle.std.proofs.Common.{Some, None, refl, sym, ap, subst, ◌∙◌, inl, inr, arith}
use Rattle.std.proofs.Common.{append_assoc}
use Rattle.std.specs.Prelude.{slice_get}
use Rattle.its_model.specs.Packet.{Transmission}
use Rattle.its_model.specs.Calls.{Call, Refusal}
use Rattle.its_model.specs.Calls.Call.{Own, Receive}
use Rattle.its_model.specs.Calls.Refusal.{NoSuchFrame, NoSuchStation}
use Rattle.its_model.specs.Station.{StationModel, station_step}
use Rattle.its_model.specs.World.{Config, Event, LogLine, What, WorldModel, answered, asked}
use Rattle.its_model.specs.World.{at_station, delivery, opening, passed_over, station_of}
use Rattle.its_model.specs.World.{world_step}
use Rattle.its_model.specs.World.What.{Calls, Deliver}
use Rattle.its_model.specs.Chain.{MomentsNeverFall}
use Rattle.its_model.proofs.Lists.{get_set}
use Rattle.its_model.proofs.Steps.{done_in_time, refused_stays}
use Rattle.its_model.proofs.Clocks.{refused_or_not}

-- none of these lines is later than this moment
abbrev pub AreAllUpTo : ℕ → List LogLine → Type 0
AreAllUpTo moment [] = Unit {0}
AreAllUpTo moment (line ∷ before) = (line.event.moment ≤ moment) × AreAllUpTo moment before

-- a station's clock is no later than the latest of the lines
abbrev pub ClocksLast : WorldModel → Type 0
ClocksLast w =
    (j : ℕ) (s : StationModel) → slice_get w.stations j ≡ Some s
    → (moment : ℕ) → AreAllUpTo moment w.log → s.clock ≤ moment

-- an event for which there is no station or no frame
passed_last : (w : WorldModel) (e : Event) (r : Refusal) → ClocksLast w
    → ClocksLast (passed_over w e r)
passed_last w e r h j s at moment up = h j s at moment up.1

-- an event that its station answered
answered_last : (w : WorldModel) (e : Event) (call : Call) (s : StationModel)
    (delivered : Option Transmission)
    → slice_get w.stations e.station ≡ Some s → ClocksLast w
    → ClocksLast (answered w e delivered (station_step s e.moment call))
answered_last w e call s delivered at h j x is moment up =
    elim (get_set w.stations e.station (station_step s e.moment call).station j x is) [
      | inr g ↦ h j x g.1 moment up.1
      | inl g ↦ elim (refused_or_not (station_step s e.moment call).answer) [
        | inl r ↦ (
            let same : s ≡ x = sym (refused_stays s e.moment call r.0 r.1) ∙ g.1 in
            subst (λ (y : StationModel). y.clock ≤ moment) same (h e.station s at moment up.1))
        | inr ok ↦ (
            let d = done_in_time s e.moment call ok in
            let clock : x.clock ≡ e.moment =
            ap (λ (y : StationModel). y.clock) (sym g.1) ∙ d.2 in
            let last : e.moment ≤ moment = up.0 in
            omega (arith, clock, last))
      ]
    ]

-- a delivery
delivery_last : (o : Option Transmission) (w : WorldModel) (e : Event) (s : StationModel)
    → slice_get w.stations e.station ≡ Some s → ClocksLast w → ClocksLast (delivery w e s o)
delivery_last None w e s at h = passed_last w e NoSuchFrame h
delivery_last (Some t) w e s at h = answered_last w e (Receive t) s (Some t) at h

-- a call or a delivery
asked_last : (what : What) (w : WorldModel) (e : Event) (s : StationModel)
    → slice_get w.stations e.station ≡ Some s → ClocksLast w → ClocksLast (asked w e s what)
asked_last (Calls call) w e s at h = answered_last w e (Own call) s None at h
asked_last (Deliver k) w e s at h = delivery_last (slice_get w.air k) w e s at h

-- an event at a station, if there is such a one
at_station_last : (o : Option StationModel) (w : WorldModel) (e : Event)
    → slice_get w.stations e.station ≡ o → ClocksLast w → ClocksLast (at_station w e o)
at_station_last None w e at h = passed_last w e NoSuchStation h
at_station_last (Some s) w e at h = asked_last e.what w e s at h

-- an event
pub step_last : (w : WorldModel) (e : Event) → ClocksLast w → ClocksLast (world_step w e)
step_last w e h = at_station_last (slice_get w.stations e.station) w e refl h

-- a new station's clock is 0
none_late : (cs : List Config) (j : ℕ) (s : StationModel)
    → slice_get (map station_of cs) j ≡ Some s → s.clock ≡ 0
none_late [] j s h = cc
none_late (c ∷ cs) zero s h = ap (λ (x : StationModel). x.clock) (sym (same h))
  where
    same : Some (station_of c) ≡ Some s → station_of c ≡ s
    same e = cc
none_late (c ∷ cs) (suc j) s h = none_late cs j s h

-- the opening world
pub opening_last : (configs : List Config) → ClocksLast (opening configs)
opening_last configs j s at moment up =
    let none : s.clock ≡ 0 = none_late configs j s at in omega (arith, none)

-- where moments never fall, none before a line is later than it
pub all_up_to : (log later before : List LogLine) (line : LogLine) → MomentsNeverFall log
    → log ≡ later ++ line ∷ before → AreAllUpTo line.event.moment before
all_up_to log later before line never split = up before [] refl
  where
    up : (rest between : List LogLine) → before ≡ between ++ rest
        → AreAllUpTo line.event.moment rest
    up [] between e = tt
    up (x ∷ rest) between e = (
      never later between rest x line (split ∙ ap (λ xs. later ++ line ∷ xs) e),
      up rest (between ++ x ∷ []) (e ∙ sym (append_assoc between (x ∷ []) rest)),
    )
