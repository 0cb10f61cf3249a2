-- What is delivered of a frame that passes the limits is the end of what came.
use Rattle.std.proofs.Common.{◌≡◌, List, ℕ, refl}
use Rattle.std.specs.Prelude.{Result, Ok, Err, IfOk}
use Rattle.its_model.specs.Packet.{Transmission}
use Rattle.its_headers.specs.Encoding.{payload_of}
use Rattle.its_model.specs.Calls as model
use Rattle.its_linkframe.specs.Frames.{EncodesFrame, frame_octets}
use Rattle.its_linkframe.specs.Secured.{Verified, EncodesVerified}
use Rattle.its_station.specs.Receiving.{DeliversEndOf, VerifiedCall}
use Rattle.its_station.specs.declared.refused.Refused.{Refused}
use Rattle.its_station.proofs.Deliveries.{delivered_end, verified_end}
use Rattle.its_unit.specs.Contending.{verified_octets}
use Rattle.its_unit.specs.Unit.{UnitCall, UnitModel, UnitState, step_by, step_of_by, unit_step, unlimited_step}
use Rattle.its_unit.specs.Unit.UnitCall.{Receive, ReceiveVerified}
use Rattle.its_unit.specs.declared.limiting.Limiting.{Limiting}
use Rattle.its_unit.specs.declared.outcome.Reaction.{Reaction}
use Rattle.its_unit.specs.declared.outcome.UnitOutcome.{UnitOutcome}
use Rattle.its_unit.specs.declared.outcome.UnitOutcome.TheVariants as units
use Rattle.its_unit.specs.Steps.{IsRefusedStep, WherePassed}

passed : (t : Transmission) (w : List ℕ) → EncodesFrame t w → (o : UnitOutcome)
    → WherePassed (DeliversEndOf (payload_of t.pdu.body)) o → WherePassed (DeliversEndOf w) o
passed t w enc (units.Passed outcome) ends = delivered_end t w enc (Ok outcome) ends
passed t w enc units.Repeated ends = ends

pub passed_end : (t : Transmission) (w : List ℕ) → EncodesFrame t w
    → (answer : Result Reaction Refused)
    → IfOk answer (λ r. WherePassed (DeliversEndOf (payload_of t.pdu.body)) r.outcome)
    → IfOk answer (λ r. WherePassed (DeliversEndOf w) r.outcome)
passed_end t w enc (Ok r) ends = passed t w enc r.outcome ends
passed_end t w enc (Err refused) ends = ends

verified_passed : (v : Verified) (w plain : List ℕ) → EncodesVerified v w plain → (o : UnitOutcome)
    → WherePassed (DeliversEndOf (payload_of v.frame.pdu.body)) o
    → WherePassed (DeliversEndOf plain) o
verified_passed v w plain enc (units.Passed outcome) ends =
    verified_end v w plain enc (Ok outcome) ends
verified_passed v w plain enc units.Repeated ends = ends

pub verified_passed_end : (v : Verified) (w plain : List ℕ) → EncodesVerified v w plain
    → (answer : Result Reaction Refused)
    → IfOk answer (λ r. WherePassed (DeliversEndOf (payload_of v.frame.pdu.body)) r.outcome)
    → IfOk answer (λ r. WherePassed (DeliversEndOf plain) r.outcome)
verified_passed_end v w plain enc (Ok r) ends = verified_passed v w plain enc r.outcome ends
verified_passed_end v w plain enc (Err refused) ends = ends

-- a packet that came in a frame is received so, within the limits and past them
pub frames_by : (l : Limiting) (u : UnitModel) (now : ℕ) (t : Transmission)
    → step_of_by l frame_octets u now t ≡ step_by l u now (Receive (model.Call.Receive t))
frames_by Limiting.Within u now t = refl
frames_by Limiting.Past u now t = refl

pub verified_by : (l : Limiting) (u : UnitModel) (now : ℕ) (v : Verified)
    → step_of_by l (verified_octets (VerifiedCall.Came v)) u now v.frame
    ≡ step_by l u now (ReceiveVerified (VerifiedCall.Came v))
verified_by Limiting.Within u now v = refl
verified_by Limiting.Past u now v = refl

-- so is what is refused
pub refused_by : (l : Limiting) (e : Refused) (new : UnitState) (u : UnitModel) (now : ℕ)
    (call : UnitCall) → IsRefusedStep e new (unit_step u now call)
    → IsRefusedStep e new (unlimited_step u now call) → IsRefusedStep e new (step_by l u now call)
refused_by Limiting.Within e new u now call within past = within
refused_by Limiting.Past e new u now call within past = past
