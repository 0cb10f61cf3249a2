-- Words of the contracts of private functions about frames that wait.
use Rattle.std.specs.Prelude.{◌≡◌, ◌≤◌, ℕ, ◌^◌, List, true, false, Option, Some, None, Result, Ok, Err}
use Rattle.its_model.specs.Packet.{Transmission}
use Rattle.its_model.specs.Calls as model
use Rattle.its_model.specs.Calls.{Answer, Refusal}
use Rattle.its_model.specs.Contention.{first_due}
use Rattle.its_model.specs.Station.{StationModel}
use Rattle.its_station.specs.Receiving.{Encoded}
use Rattle.its_station.specs.Steps.{refusal_of}
use Rattle.its_station.specs.declared.refused.Refused.{Refused}
use Rattle.its_contention.specs.Buffer.{Buffer, after_release, after_drop}
use Rattle.its_contention.specs.Waiting.{Waiting}
use Rattle.its_governor.specs.declared.governor.Governor.{Governor}
use Rattle.its_unit.specs.Contending.{after_due_frame, has_room_for_due}
use Rattle.its_unit.specs.declared.contending.Judged.{Judged}
use Rattle.its_unit.specs.declared.contending.Judged.TheVariants as judged

-- The octets of each packet that is encoded so are what this says.
abbrev pub AreSaid : Encoded → (Transmission → List ℕ) → Type 0
AreSaid Encodes say = (t : Transmission) (w : List ℕ) → Encodes t w → w ≡ say t

-- a packet was accepted at a time that the station does not refuse
abbrev pub InTime : StationModel → ℕ → Answer Transmission → Type 0
InTime s now (model.Answer.Accepted handed relayed) = (s.clock ≤ now) × (now ≤ 2 ^ 62)
InTime s now answer = Unit {0}

-- a check of a time refuses it for this
abbrev pub IsCheckOf : Result (Unit {0}) Refused → Option Refusal → Type 0
IsCheckOf (Ok done) refusal = refusal ≡ None
IsCheckOf (Err e) refusal = refusal_of e ≡ refusal

-- what became of the frame that is due first, with what waits and the limits before and after
abbrev pub IsJudged : Judged → Buffer Waiting → Governor → ℕ → ℕ → Buffer Waiting → Governor
    → Type 0
IsJudged (judged.Passes frame) b g address now b' g' =
    (first_due now b.held ≡ Some frame)
    × (has_room_for_due g address now (Some frame) ≡ true)
    × (b' ≡ after_release b now) × (g' ≡ after_due_frame g now (Some frame) true)
IsJudged judged.Dropped b g address now b' g' =
    (frame : Waiting) × (first_due now b.held ≡ Some frame)
    × (has_room_for_due g address now (Some frame) ≡ false)
    × (b' ≡ after_drop b now) × (g' ≡ after_due_frame g now (Some frame) false)
IsJudged judged.NoneDue b g address now b' g' =
    (first_due now b.held ≡ None) × (b' ≡ b) × (g' ≡ g)
