-- What a station answers to a frame.
use Rattle.std.specs.Prelude.{◌≡◌, ℕ, ◌++◌, not, ◌==◌, ◌&&◌, nat_le, if◌then◌else◌, Bool, true}
use Rattle.std.specs.Prelude.{false, [], List, length, ◌≤◌, Vec, Option, Some, None, IfSome}
use Rattle.std.specs.Prelude.{Result, Ok, Err}
use Rattle.std.specs.Option.{option_map}
use Rattle.std.specs.declared.alloc.Global.{Global}
use Rattle.its_gnvalue.specs.Values.{Position, PositionVector, broadcast, mid_of}
use Rattle.its_geometry.specs.Area.{area_holds}
use Rattle.its_model.specs.Packet.{Message, Body, beacon, shb, gbc, gac, Pdu, Transmission}
use Rattle.its_model.specs.Packet.{number_in, relay}
use Rattle.std.specs.Prelude.{◌⊎◌, IsTrue, IsFalse}
use Rattle.its_model.specs.History.{is_live}
use Rattle.its_model.specs.Calls as model
use Rattle.its_model.specs.Calls.{Call, Answer, Refusal, Why as ModelWhy}
use Rattle.its_model.specs.Station.{StationModel, Step, is_for, is_sender_wrong, is_repeated}
use Rattle.its_model.specs.Station.{receive_step_by, station_step, moment_refusal}
use Rattle.its_model.specs.Station as station
use Rattle.its_linkframe.specs.Frames.{EncodesFrame}
use Rattle.its_linkframe.specs.FrameFaults.{IsFrameFault}
use Rattle.its_linkframe.specs.Secured.{EncodesSecured, Verified, EncodesVerified, sealed}
use Rattle.its_linkframe.specs.Secured.{IsVerifiedFault}
use Rattle.its_faults.specs.declared.secured.SecuredFault.{SecuredFault}
use Rattle.its_loctable.specs.SourceReport.{SourceReport}
use Rattle.its_loctable.specs.Found.{Admits, IsIndexOf}
use Rattle.its_loctable.specs.declared.found.Found.{Found}
use Rattle.its_loctable.specs.declared.found.Found.TheVariants as found
use Rattle.its_station.specs.State.{StationState}
use Rattle.its_station.specs.Steps.{refusal_of}
use Rattle.its_station.specs.declared.looked_up.LookedUp.{LookedUp}
use Rattle.its_station.specs.declared.looked_up.LookedUp.TheVariants as looks
use Rattle.its_station.specs.declared.refused.Refused.{Refused}
use Rattle.its_station.specs.declared.outcome.Handed.{Handed}
use Rattle.its_station.specs.declared.outcome.Outcome.{Outcome}
use Rattle.its_station.specs.declared.outcome.Outcome.TheVariants as outcomes
use Rattle.its_station.specs.declared.outcome.Why.{Why}
use Rattle.its_station.specs.declared.outcome.Why.TheVariants as why

-- The octets come to the model as this call: the frame that they are, or junk with their first
-- fault.
abbrev pub IsFrameCall : List ℕ → Call → Type 0
IsFrameCall w (model.Call.Own call) = ⊥
IsFrameCall w (model.Call.Receive t) = EncodesFrame t w
IsFrameCall w (model.Call.Junk fault) = IsFrameFault w fault

-- how octets say a packet on the air: as its frame, or as its secured frame with a message
abbrev pub Encoded : Type 1
Encoded = Transmission → List ℕ → Type 0

-- the octets are the packet's secured frame with this message
abbrev pub EncodesSealed : List ℕ → Encoded
EncodesSealed message t w = EncodesSecured (sealed t message) w

-- octets that came with a plain part: a secured frame with it, or their first fault
pub data VerifiedCall : Type 0 where
  Came : (frame : Verified) → VerifiedCall
  Faulty : (fault : SecuredFault) → VerifiedCall

abbrev pub IsVerifiedCall : List ℕ → List ℕ → VerifiedCall → Type 0
IsVerifiedCall w plain (VerifiedCall.Came v) = EncodesVerified v w plain
IsVerifiedCall w plain (VerifiedCall.Faulty fault) = IsVerifiedFault w plain fault

-- they are refused for their first fault, unless the moment is refused before
abbrev pub secured_step_by : StationModel → SecuredFault → Option Refusal → Step
secured_step_by s fault (Some refusal) =
    record { answer = model.Answer.Refused refusal; station = s }
secured_step_by s fault None =
    record { answer = model.Answer.Refused (model.Refusal.BadSecured fault); station = s }

-- The step of the packet that they are is that of the same packet unsecured.
abbrev pub verified_step : StationModel → ℕ → VerifiedCall → Step
verified_step s moment (VerifiedCall.Came v) = station_step s moment (model.Call.Receive v.frame)
verified_step s moment (VerifiedCall.Faulty fault) =
    secured_step_by s fault (moment_refusal s moment)

-- what goes on has the message that came
abbrev pub sealed_by : VerifiedCall → Encoded
sealed_by (VerifiedCall.Came v) = EncodesSealed v.message
sealed_by (VerifiedCall.Faulty fault) = EncodesSealed []

-- a reason, in the model
abbrev pub why_of : Why → ModelWhy
why_of why.NotForMe = model.Why.NotForMe
why_of why.OwnSource = model.Why.OwnSource
why_of why.SenderMismatch = model.Why.SenderMismatch
why_of why.Duplicate = model.Why.Duplicate

-- the message that is handed to a port
abbrev pub said_by : Handed → Message
said_by h = record { port = h.port; info = h.info; payload = h.payload.now }

-- the octets are a frame, encoded so
pub record IsSentFrame (Encodes : Encoded) (w : List ℕ) : Type 0 where
  pub transmission : Transmission
  pub encodes : Encodes transmission w

-- the octets are the frame that is sent on, encoded so, and there are none where none is
abbrev pub IsRelayBy : Encoded → Option (Vec ℕ Global) → Option Transmission → Type 0
IsRelayBy Encodes None None = Unit {0}
IsRelayBy Encodes (Some w) (Some t) = Encodes t w.items
IsRelayBy Encodes None (Some t) = ⊥
IsRelayBy Encodes (Some w) None = ⊥

-- an accepted frame's answer: the message that is delivered, and the frame that is sent on
pub record TellsAcceptedBy (Encodes : Encoded) (handed : Option Message)
    (sent : Option (Vec ℕ Global)) (answer : Answer Transmission) : Type 0 where
  pub relayed : Option Transmission
  pub is : answer ≡ model.Answer.Accepted handed relayed
  pub frame : IsRelayBy Encodes sent relayed

-- the outcome is this answer of the model
abbrev pub TellsBy : Encoded → Outcome → Answer Transmission → Type 0
TellsBy Encodes (outcomes.Ignored why) answer = answer ≡ model.Answer.Ignored (why_of why)
TellsBy Encodes (outcomes.Accepted handed sent) answer =
    TellsAcceptedBy Encodes (option_map said_by handed) sent answer

-- the same of frames that aren't secured
abbrev pub IsRelay : Option (Vec ℕ Global) → Option Transmission → Type 0
IsRelay sent relayed = IsRelayBy EncodesFrame sent relayed

abbrev pub TellsAccepted : Option Message → Option (Vec ℕ Global) → Answer Transmission → Type 0
TellsAccepted handed sent answer = TellsAcceptedBy EncodesFrame handed sent answer

abbrev pub Tells : Outcome → Answer Transmission → Type 0
Tells outcome answer = TellsBy EncodesFrame outcome answer

-- what is delivered, if anything is, is the end of these octets
abbrev pub HandsOutEndOf : List ℕ → Option Handed → Type 0
HandsOutEndOf w None = Unit {0}
HandsOutEndOf w (Some h) = (front : List ℕ) × (w ≡ front ++ h.payload.now)

-- what is delivered of this outcome, if anything is, is the end of these octets
abbrev pub DeliversEndOf : List ℕ → Outcome → Type 0
DeliversEndOf w (outcomes.Ignored why) = Unit {0}
DeliversEndOf w (outcomes.Accepted handed sent) = HandsOutEndOf w handed

-- the frame that is sent on, if there is one, has at most so many octets
abbrev pub SendsAtMost : ℕ → Outcome → Type 0
SendsAtMost most (outcomes.Ignored why) = Unit {0}
SendsAtMost most (outcomes.Accepted handed sent) = IfSome sent (λ w. length w.items ≤ most)

-- From this place, with so many hops left, a packet goes on: a geobroadcast that has another hop,
-- and outside of its area a geoanycast.
abbrev pub goes_on : Position → ℕ → Body → Bool
goes_on place left beacon = false
goes_on place left (shb media message) = false
goes_on place left (gbc number area message) = nat_le 2 left
goes_on place left (gac number area message) = not (area_holds area place) && nat_le 2 left

-- An accepted packet takes memory only for a new entry and for the frame in which it goes on.
abbrev pub TakesMemory : StationModel → ℕ → Transmission → Type 0
TakesMemory s moment t =
    IsFalse (is_live t.pdu.vector.address moment s.history)
    ⊎ IsTrue (goes_on s.vector.place t.hops_left t.pdu.body)

-- ---- a look-up

-- what the packet says of its source
abbrev pub report_of : Pdu → SourceReport
report_of p = record { vector = p.vector; number = number_in p.body }

-- What a station finds of a frame is this verdict of the model, which never runs out of memory.
abbrev pub IsVerdictOf : Result LookedUp Refused → station.Verdict → Type 0
IsVerdictOf (Ok (looks.Ignored why)) verdict = verdict ≡ station.Verdict.Ignore (why_of why)
IsVerdictOf (Ok (looks.New heard index)) verdict = verdict ≡ station.Verdict.Accept
IsVerdictOf (Err e) verdict =
    IfSome (refusal_of e) (λ refusal. verdict ≡ station.Verdict.Refuse refusal)

-- If the packet is new, this is what it says of its source, whose entry has this index.
abbrev pub IsPlaceOf : LookedUp → StationState → ℕ → Transmission → Type 0
IsPlaceOf (looks.Ignored why) st now t = Unit {0}
IsPlaceOf (looks.New heard index) st now t =
    (heard ≡ report_of t.pdu) × Admits st.remember st.capacity st.content now heard
    × IsIndexOf st.content heard.vector.address index

-- ---- words of private functions

-- why a frame is ignored, if it is
abbrev pub why_found : StationModel → ℕ → Transmission → Option Why
why_found s moment t =
    if not (is_for s t) then Some why.NotForMe
    else if t.pdu.vector.address == s.address then Some why.OwnSource
    else if is_sender_wrong t t.pdu.body then Some why.SenderMismatch
    else if is_repeated s.remember (number_in t.pdu.body) t.pdu.vector.address moment s.history
    then Some why.Duplicate
    else None

-- why a frame is ignored before the location table is asked, if it is
abbrev pub why_unasked : StationModel → Transmission → Option Why
why_unasked s t =
    if not (is_for s t) then Some why.NotForMe
    else if t.pdu.vector.address == s.address then Some why.OwnSource
    else if is_sender_wrong t t.pdu.body then Some why.SenderMismatch
    else None

-- A packet that is new has a history that admits it, and the index of its source's entry.
abbrev pub IsAdmitted : StationState → ℕ → SourceReport → Found → Type 0
IsAdmitted st now heard found.Duplicate = Unit {0}
IsAdmitted st now heard found.Full = Unit {0}
IsAdmitted st now heard (found.New index) =
    Admits st.remember st.capacity st.content now heard
    × IsIndexOf st.content heard.vector.address index

-- the step where a frame is accepted
abbrev pub accept_step : StationModel → ℕ → Transmission → Step
accept_step s moment t = receive_step_by s moment t station.Verdict.Accept

-- the place is inside of the packet's area, if that has one
abbrev pub is_inside : Position → Body → Bool
is_inside place beacon = true
is_inside place (shb media message) = true
is_inside place (gbc number area message) = area_holds area place
is_inside place (gac number area message) = area_holds area place

-- the frame in which the packet would go on to all
abbrev pub copy_of : PositionVector → Transmission → Body → Option Transmission
copy_of own t body =
    if goes_on own.place t.hops_left body then Some (relay t (mid_of own.address) broadcast)
    else None
