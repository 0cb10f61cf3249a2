-- The frame that an event gives is the next of all frames.
use Rattle.std.proofs.Common.{◌≡◌, ℕ, suc, ◌≤◌, List, [], ◌∷◌, ◌++◌, refl, sym, ap, ◌∙◌, subst}
use Rattle.std.proofs.Common.{arith, length, Option, Some, None}
use Rattle.std.specs.Prelude.{slice_get}
use Rattle.std.proofs.lemmas.List.{length-append}
use Rattle.its_model.specs.Packet.{Transmission}
use Rattle.its_model.specs.Calls.{Answer, Refusal}
use Rattle.its_model.specs.Calls.Refusal.{NoSuchStation, NoSuchFrame}
use Rattle.its_model.specs.Calls.Answer.{Moved, Opened, Closed, Restarted, Quiet, Sent, Ignored}
use Rattle.its_model.specs.Calls.Answer.{Accepted, Refused}
use Rattle.its_model.specs.Calls.Call.{Own, Receive}
use Rattle.its_model.specs.Station.{StationModel, Step, station_step}
use Rattle.its_model.specs.World.{Config, Event, What, WorldModel, opening, world_run, world_step}
use Rattle.its_model.specs.World.{answered, asked, at_station, entry_of, frame_of, numbered}
use Rattle.its_model.specs.World.{with_one_more, passed_over}
use Rattle.its_model.specs.World.{delivery as delivered}
use Rattle.its_model.specs.World.What.{Calls, Deliver}
use Rattle.sim_air_model.specs.Timetable.{given}

-- A frame that was given is the next, and there is one more then; there are never fewer.
pub record IsNextFrame (before after : WorldModel) : Type 0 where
  pub no_fewer : length before.air ≤ length after.air
  pub next : (k : ℕ) → given after.log ≡ Some k
      → (k ≡ length before.air) × (length after.air ≡ suc (length before.air))

-- what an answer gives has this number, where it gives a frame
is_number : (n k : ℕ) (o : Option Transmission) → numbered n o ≡ Some k
    → (k ≡ n) × (t : Transmission) × (o ≡ Some t)
is_number n k None is = let no : ⊥ = cc in absurd no
is_number n k (Some t) is = let same : k ≡ n = cc in (same, t, refl)

frame_named : (n k : ℕ) (answer : Answer Transmission) → frame_of (entry_of n answer) ≡ Some k
    → (k ≡ n) × (t : Transmission) × (frame_of answer ≡ Some t)
frame_named n k Moved is = let no : ⊥ = cc in absurd no
frame_named n k Opened is = let no : ⊥ = cc in absurd no
frame_named n k Closed is = let no : ⊥ = cc in absurd no
frame_named n k Restarted is = let no : ⊥ = cc in absurd no
frame_named n k Quiet is = let no : ⊥ = cc in absurd no
frame_named n k (Sent t) is = let same : k ≡ n = cc in (same, t, refl)
frame_named n k (Ignored why) is = let no : ⊥ = cc in absurd no
frame_named n k (Accepted handed relayed) is = is_number n k relayed is
frame_named n k (Refused refusal) is = let no : ⊥ = cc in absurd no

one_more : (air : List Transmission) (t : Transmission)
    → length (air ++ t ∷ []) ≡ suc (length air)
one_more air t =
    let is = length-append air (t ∷ []) in
    let one : length (t ∷ []) ≡ 1 = refl in omega (arith, is, one)

no_less : (air : List Transmission) (o : Option Transmission)
    → length air ≤ length (with_one_more air o)
no_less air None = omega arith
no_less air (Some t) = let is = one_more air t in omega (arith, is)

-- ---- one event

next_answered : (w : WorldModel) (e : Event) (o : Option Transmission) (step : Step)
    → IsNextFrame w (answered w e o step)
next_answered w e o step =
    record {
      no_fewer = no_less w.air (frame_of step.answer);
      next = λ k is. (
          let named = frame_named (length w.air) k step.answer is in (
            named.0,
            ap (λ (x : Option Transmission). length (with_one_more w.air x)) named.2
                ∙ one_more w.air named.1,
          ));
    }

-- of one for which there is no station or no frame
none_given : (w : WorldModel) (e : Event) (refusal : Refusal)
    → IsNextFrame w (passed_over w e refusal)
none_given w e refusal =
    record { no_fewer = omega arith; next = λ k is. (let no : ⊥ = cc in absurd no) }

next_delivered : (w : WorldModel) (e : Event) (s : StationModel) (o : Option Transmission)
    → IsNextFrame w (delivered w e s o)
next_delivered w e s None = none_given w e NoSuchFrame
next_delivered w e s (Some t) =
    next_answered w e (Some t) (station_step s e.moment (Receive t))

next_asked : (w : WorldModel) (e : Event) (s : StationModel) (what : What)
    → IsNextFrame w (asked w e s what)
next_asked w e s (Calls call) = next_answered w e None (station_step s e.moment (Own call))
next_asked w e s (Deliver k) = next_delivered w e s (slice_get w.air k)

next_at : (w : WorldModel) (e : Event) (o : Option StationModel)
    → IsNextFrame w (at_station w e o)
next_at w e None = none_given w e NoSuchStation
next_at w e (Some s) = next_asked w e s e.what

-- ---- after other events

run_push : (es : List Event) (w : WorldModel) (e : Event)
    → world_run w (es ++ e ∷ []) ≡ world_step (world_run w es) e
run_push [] w e = refl
run_push (x ∷ es) w e = run_push es (world_step w x) e

pub next_frame : (w : WorldModel) (es : List Event) (e : Event)
    → IsNextFrame (world_run w es) (world_run w (es ++ e ∷ []))
next_frame w es e =
    let before = world_run w es in
    subst (IsNextFrame before) (sym (run_push es w e))
    (next_at before e (slice_get before.stations e.station))

pub frame_is_new : (configs : List Config) (es : List Event) (e : Event) (k : ℕ)
    → given (world_run (opening configs) (es ++ e ∷ [])).log ≡ Some k
    → (k ≡ length (world_run (opening configs) es).air)
    × (length (world_run (opening configs) (es ++ e ∷ [])).air
    ≡ suc (length (world_run (opening configs) es).air))
frame_is_new configs es e k is = (next_frame (opening configs) es e).next k is
