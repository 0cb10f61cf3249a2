-- Many calls of a unit, one after the other, in every order, and releases of frames that wait.
use Rattle.std.specs.Prelude.{◌≡◌, ◌≤◌, ℕ, ◌+◌, ◌++◌, ◌⊎◌, ◌&&◌, List, [], ◌∷◌, Bool, true, false}
use Rattle.std.specs.Prelude.{if◌then◌else◌, Option, Some, None, IsTrue, All, length, not}
use Rattle.its_model.specs.Packet.{Message, Transmission}
use Rattle.its_model.specs.Calls as model
use Rattle.its_model.specs.Calls.{Answer, Call}
use Rattle.its_model.specs.Station.{StationModel, Step}
use Rattle.its_model.specs.Isolation.{TimedCall, station_run}
use Rattle.its_station.specs.Receiving.{VerifiedCall}
use Rattle.its_governor.specs.declared.rate.Limits.{Limits}
use Rattle.its_governor.specs.declared.rate.Rate.{Rate}
use Rattle.its_governor.specs.Bucket.{IsBounded}
use Rattle.its_governor.specs.Sources.{Forwarded, times_from}
use Rattle.its_governor.specs.Governing.{admits, is_over_rate}
use Rattle.its_governor.specs.Deliveries.{AreApart, AreOwed}
use Rattle.its_governor.specs.declared.receiver.Receiver.{Receiver}
use Rattle.its_governor.specs.Forwarding.{RemembersSources, IsWithheld, times}
use Rattle.its_governor.specs.Sharing.{SharesAreKept, NewSourcesTakeNothing}
use Rattle.its_gnvalue.specs.Values.{mid_of}
use Rattle.its_linkframe.specs.Copies.{is_copy}
use Rattle.its_model.specs.History.{is_among}
use Rattle.its_model.specs.Contention.{ContentionRule, IsRule, cancelled_by, due_of, late_after}
use Rattle.its_contention.specs.Buffer.{Buffer, empty}
use Rattle.its_contention.specs.Counted.{AreCounted}
use Rattle.its_contention.specs.Waiting.{Waiting}
use Rattle.its_unit.specs.Releases.{release_step}
use Rattle.its_unit.specs.Unit.{UnitModel, UnitCall, UnitAnswer, unit_step, step_within, frame_of}
use Rattle.its_unit.specs.Unit.{is_request, octets_in}

-- a call, and when it is made
pub record UnitCallAt : Type 0 where
  pub now : ℕ
  pub call : UnitCall

-- the unit after calls
abbrev pub unit_run : UnitModel → List UnitCallAt → UnitModel
unit_run u [] = u
unit_run u (c ∷ calls) = unit_run (unit_step u c.now c.call).unit calls

-- ---- the station within

-- whether a call is refused for the rate of own packets: the station doesn't make it
abbrev pub is_withheld : UnitModel → UnitCallAt → Bool
is_withheld u c = is_request c.call && is_over_rate u.governor u.station.clock c.now

-- the calls that the station within makes
abbrev pub made : UnitModel → List UnitCallAt → List UnitCallAt
made u [] = []
made u (c ∷ calls) =
    if is_withheld u c
    then made (unit_step u c.now c.call).unit calls
    else c ∷ made (unit_step u c.now c.call).unit calls

-- the station after these calls
abbrev pub station_after : StationModel → List UnitCallAt → StationModel
station_after s [] = s
station_after s (c ∷ calls) = station_after (step_within s c.now c.call).station calls

-- A message or a frame passes, or it is withheld.
abbrev pub IsPart : {A : Type 0} → Option A → Option A → Type 0
IsPart x whole = (x ≡ None) ⊎ (x ≡ whole)

-- What passes of an answer is the answer, but that of an accepted packet the message may not be
-- delivered, and the frame in which it goes on may not be sent. That frame is the one of the answer.
abbrev pub IsPartOf : UnitAnswer → Answer Transmission → Type 0
IsPartOf (UnitAnswer.Passed (model.Answer.Accepted handed sent)) (model.Answer.Accepted message frame) =
    IsPart handed message × IsPart sent frame
IsPartOf (UnitAnswer.Passed answer) whole = answer ≡ whole
IsPartOf UnitAnswer.Repeated (model.Answer.Accepted message frame) = Unit {0}
IsPartOf UnitAnswer.Repeated whole = ⊥
IsPartOf UnitAnswer.OverRate whole = ⊥

-- A run of a unit is a run of its station whose frames are late or lost: the station has made those
-- very calls, and of each answer a part passes.
pub record IsStationRun (u : UnitModel) : Type 0 where
  pub station : (calls : List UnitCallAt)
      → (unit_run u calls).station ≡ station_after u.station (made u calls)
  pub answers : (calls : List UnitCallAt) (next : UnitCallAt)
      → let now = unit_run u calls in
      is_withheld now next ≡ false
      → IsPartOf (unit_step now next.now next.call).answer
      (step_within now.station next.now next.call).answer

-- The call is one of the model: no move with a time stamp of its own, no single-hop broadcast with
-- options of its own, and no faulty secured frame. A secured frame with its plain part is the packet
-- that they are.
abbrev pub model_call : UnitCall → Option Call
model_call (UnitCall.Own call) = Some (model.Call.Own call)
model_call (UnitCall.MoveAt timestamp place accurate speed heading) = None
model_call (UnitCall.SendShbFor options request) = None
model_call (UnitCall.Receive call) = Some call
model_call (UnitCall.ReceiveVerified (VerifiedCall.Came v)) = Some (model.Call.Receive v.frame)
model_call (UnitCall.ReceiveVerified (VerifiedCall.Faulty fault)) = None

-- these calls in the model, one for one
abbrev pub AreModelCalls : List UnitCallAt → List TimedCall → Type 0
AreModelCalls [] [] = Unit {0}
AreModelCalls [] (t ∷ timed) = ⊥
AreModelCalls (c ∷ calls) [] = ⊥
AreModelCalls (c ∷ calls) (t ∷ timed) =
    (t.moment ≡ c.now) × (model_call c.call ≡ Some t.call) × AreModelCalls calls timed

-- So it is a run of a station of the model, if its calls are such.
abbrev pub IsModelRun : UnitModel → Type 0
IsModelRun u =
    (calls : List UnitCallAt) (timed : List TimedCall) → AreModelCalls (made u calls) timed
    → (unit_run u calls).station ≡ station_run u.station timed

-- ---- the limits

-- the frame that is sent on by an answer to a frame that came: its source, and when
abbrev pub forwarded_in : Option Transmission → UnitAnswer → ℕ → List Forwarded
forwarded_in (Some t) (UnitAnswer.Passed (model.Answer.Accepted handed (Some frame))) now =
    record { source = t.pdu.vector.address; time = now } ∷ []
forwarded_in frame answer now = []

-- the frames that are forwarded in calls, the oldest first
abbrev pub frames_forwarded : UnitModel → List UnitCallAt → List Forwarded
frames_forwarded u [] = []
frames_forwarded u (c ∷ calls) =
    forwarded_in (frame_of c.call) (unit_step u c.now c.call).answer c.now
    ++ frames_forwarded (unit_step u c.now c.call).unit calls

-- when own packets were sent that are no beacons
abbrev pub request_if : Bool → UnitAnswer → ℕ → List ℕ
request_if true (UnitAnswer.Passed (model.Answer.Sent sent)) now = now ∷ []
request_if true answer now = []
request_if false answer now = []

abbrev pub requests_sent : UnitModel → List UnitCallAt → List ℕ
requests_sent u [] = []
requests_sent u (c ∷ calls) =
    request_if (is_request c.call) (unit_step u c.now c.call).answer c.now
    ++ requests_sent (unit_step u c.now c.call).unit calls

-- What the limits of a unit promise, in every list of calls: a rate on all frames that are forwarded,
-- one on those of each source, and one on own packets.
pub record AreWithin (limits : Limits) (u : UnitModel) : Type 0 where
  pub forwards : (rate : Rate) → limits.forward ≡ Some rate → (calls : List UnitCallAt)
      → IsBounded rate (times (frames_forwarded u calls))
  pub sources : (rate : Rate) → limits.source ≡ Some rate → RemembersSources limits.forward rate
      → (calls : List UnitCallAt) (source : ℕ)
      → IsBounded rate (times_from source (frames_forwarded u calls))
  pub own : (rate : Rate) → limits.own ≡ Some rate → (calls : List UnitCallAt)
      → IsBounded rate (requests_sent u calls)

-- after every list of calls, a message that the station hands out is delivered, if no copy of its
-- packet was delivered whose lifetime isn't over (`AreOwed`); and two deliveries of one packet are a
-- lifetime of the first apart, or 1024 others came between (`AreApart`)
pub record AreDelivered (limits : Limits) (u : UnitModel) : Type 0 where
  pub owed : AreOwed u.governor
  pub apart : IsTrue limits.delivers_once → AreApart u.governor

-- under pressure, after every list of calls: why a frame is withheld (`IsWithheld`), that a frame which
-- keeps the rules is forwarded (`SharesAreKept`), and that with both limits new sources take nothing
-- of the lower four fifths of the bucket of all forwarded frames (`NewSourcesTakeNothing`)
pub record IsFair (limits : Limits) (u : UnitModel) : Type 0 where
  pub reasons : (calls : List UnitCallAt) (r : Receiver) (now : ℕ) (t : Transmission)
      → IsWithheld (unit_run u calls).governor r now t
  pub kept : SharesAreKept u.governor
  pub untaken : (forward source : Rate) → limits.forward ≡ Some forward
      → limits.source ≡ Some source → NewSourcesTakeNothing u.governor

-- ---- releases between the calls

-- a call, or a release at a time
pub data UnitAct : Type 0 where
  Calls : (call : UnitCallAt) → UnitAct
  Releases : (now : ℕ) → UnitAct

-- the unit after an act, and after many
abbrev pub after_act : UnitModel → UnitAct → UnitModel
after_act u (UnitAct.Calls c) = (unit_step u c.now c.call).unit
after_act u (UnitAct.Releases now) = (release_step u now).unit

abbrev pub unit_acts : UnitModel → List UnitAct → UnitModel
unit_acts u [] = u
unit_acts u (a ∷ acts) = unit_acts (after_act u a) acts

-- the call that the station within makes in an act: none in a release, or if it is refused for the
-- rate of own packets
abbrev pub made_in_act : UnitModel → UnitAct → List UnitCallAt
made_in_act u (UnitAct.Calls c) = if is_withheld u c then [] else c ∷ []
made_in_act u (UnitAct.Releases now) = []

-- the calls that it makes in these acts
abbrev pub made_in : UnitModel → List UnitAct → List UnitCallAt
made_in u [] = []
made_in u (a ∷ acts) = made_in_act u a ++ made_in (after_act u a) acts

-- The station within is the one that its calls alone make, whatever is released between them. Of each
-- answer of the station a part passes.
pub record StationsAreAsBefore (u : UnitModel) : Type 0 where
  pub station : (acts : List UnitAct)
      → (unit_acts u acts).station ≡ station_after u.station (made_in u acts)
  pub answers : (acts : List UnitAct) (next : UnitCallAt)
      → let now = unit_acts u acts in
      is_withheld now next ≡ false
      → IsPartOf (unit_step now next.now next.call).answer
      (step_within now.station next.now next.call).answer

-- A unit that contends goes on doing so. If no frame waits yet, each frame that begins to wait in these
-- acts is released, cancelled or dropped, or waits in the end, and is counted so.
abbrev pub ForwardsAreCounted : UnitModel → Type 0
ForwardsAreCounted u =
    (rule : ContentionRule) (acts : List UnitAct) → u.contention ≡ Some (empty rule)
    → (b : Buffer Waiting) × ((unit_acts u acts).contention ≡ Some b) × AreCounted b

-- This frame began to wait in one of these acts, a call that brought a packet: the station accepted it
-- and answered with this relay, whose octets it has, and the limits admitted it. It is due by the rule.
pub record WasPut (rule : ContentionRule) (u : UnitModel) (acts : List UnitAct) (frame : Waiting)
    (due : ℕ) : Type 0 where
  pub earlier : List UnitAct
  pub call : UnitCallAt
  pub since : List UnitAct
  pub packet : Transmission
  pub handed : Option Message
  pub relay : Transmission
  pub split : acts ≡ earlier ++ UnitAct.Calls call ∷ since
  pub brought : frame_of call.call ≡ Some packet
  pub answered : (step_within (unit_acts u earlier).station call.now call.call).answer
      ≡ model.Answer.Accepted handed (Some relay)
  pub admitted : admits (unit_acts u earlier).governor call.now packet ≡ true
  pub octets : frame.octets ≡ octets_in call.call relay
  pub due_is : due
      ≡ due_of rule (step_within (unit_acts u earlier).station call.now call.call).station call.now
      packet
  pub not_before : call.now + rule.min_wait ≤ due
  pub not_after : due ≤ call.now + rule.max_wait

-- and it is released from its due time to a second after it
pub record IsReleasedAsPut (rule : ContentionRule) (u : UnitModel) (acts : List UnitAct)
    (frame : Waiting) (now : ℕ) : Type 0 where
  pub due : ℕ
  pub put : WasPut rule u acts frame due
  pub not_before : due ≤ now
  pub not_after : now ≤ due + late_after

-- What is released after acts is octet for octet what the station answered when it accepted a packet.
abbrev pub ReleasedIsWhatWouldBeSent : UnitModel → Type 0
ReleasedIsWhatWouldBeSent u =
    (rule : ContentionRule) (acts : List UnitAct) (now : ℕ) (frame : Waiting) → IsRule rule
    → u.contention ≡ Some (empty rule)
    → (release_step (unit_acts u acts) now).frame ≡ Some frame
    → IsReleasedAsPut rule u acts frame now

-- the frame that a release sends: the source of its packet, and when
abbrev pub released_at : Option Waiting → ℕ → List Forwarded
released_at None now = []
released_at (Some frame) now = record { source = frame.source; time = now } ∷ []

-- the frames of other stations that go out in an act, at once or after they waited, and in many, the
-- oldest first
abbrev pub gone_in_act : UnitModel → UnitAct → List Forwarded
gone_in_act u (UnitAct.Calls c) =
    forwarded_in (frame_of c.call) (unit_step u c.now c.call).answer c.now
gone_in_act u (UnitAct.Releases now) = released_at (release_step u now).frame now

-- when they go out
abbrev pub times_gone : UnitModel → List UnitAct → List ℕ
times_gone u [] = []
times_gone u (a ∷ acts) = times (gone_in_act u a) ++ times_gone (after_act u a) acts

-- The rate bounds those that go out, at once and by releases together.
abbrev pub ReleasesAreWithin : Limits → UnitModel → Type 0
ReleasesAreWithin limits u =
    (rate : Rate) → limits.forward ≡ Some rate → (acts : List UnitAct)
    → IsBounded rate (times_gone u acts)

-- The senders that are counted of a frame that waits, after a frame that is a copy of it or not: a copy
-- counts once for each sender.
abbrev pub counted_by : Bool → ℕ → List ℕ → List ℕ
counted_by is_copy sender senders =
    if is_copy && not (is_among sender senders) then sender ∷ senders else senders

-- by what the station answered to a frame: a duplicate may be a copy
abbrev pub counted_at : ℕ → List ℕ → ℕ → Answer Transmission → List ℕ → List ℕ → List ℕ
counted_at own octets sender (model.Answer.Ignored model.Why.Duplicate) waiting senders =
    counted_by (is_copy own waiting octets) sender senders
counted_at own octets sender answer waiting senders = senders

abbrev pub counted_in : UnitCallAt → Step → Option Transmission → List ℕ → List ℕ → List ℕ
counted_in c step None waiting senders = senders
counted_in c step (Some t) waiting senders =
    counted_at (mid_of step.station.address) (octets_in c.call t) t.link_source step.answer waiting
    senders

-- in an act, and in many, the oldest first
abbrev pub counted_in_act : UnitModel → UnitAct → List ℕ → List ℕ → List ℕ
counted_in_act u (UnitAct.Calls c) waiting senders =
    counted_in c (step_within u.station c.now c.call) (frame_of c.call) waiting senders
counted_in_act u (UnitAct.Releases now) waiting senders = senders

abbrev pub counted_since : UnitModel → List UnitAct → List ℕ → List ℕ → List ℕ
counted_since u [] waiting senders = senders
counted_since u (a ∷ acts) waiting senders =
    counted_since (after_act u a) acts waiting (counted_in_act u a waiting senders)

-- the frames that a call cancels
abbrev pub cancelled_of : Option (Buffer Waiting) → ℕ → List ℕ → ℕ → Answer Transmission
    → List Waiting
cancelled_of (Some b) own octets sender (model.Answer.Ignored model.Why.Duplicate) =
    cancelled_by b.rule.copies (λ held. is_copy own held.octets octets) sender b.held
cancelled_of o own octets sender answer = []

abbrev pub cancelled_for : UnitModel → UnitCallAt → Step → Option Transmission → List Waiting
cancelled_for u c step None = []
cancelled_for u c step (Some t) =
    cancelled_of u.contention (mid_of step.station.address) (octets_in c.call t) t.link_source
    step.answer

abbrev pub cancelled_in : UnitModel → UnitCallAt → List Waiting
cancelled_in u c = cancelled_for u c (step_within u.station c.now c.call) (frame_of c.call)

-- This frame was put in one of these acts. Since then, and in this call, copies of it came from as many
-- senders as the rule asks for.
pub record IsCancelledByCopies (rule : ContentionRule) (u : UnitModel) (acts : List UnitAct)
    (call : UnitCallAt) (frame : Waiting) : Type 0 where
  pub due : ℕ
  pub put : WasPut rule u acts frame due
  pub enough : rule.copies
      ≤ length (counted_since (unit_acts u (put.earlier ++ UnitAct.Calls put.call ∷ []))
      (put.since ++ UnitAct.Calls call ∷ []) frame.octets [])

-- each frame that a call cancels is
abbrev pub CancelledByTheSameFrame : UnitModel → Type 0
CancelledByTheSameFrame u =
    (rule : ContentionRule) (acts : List UnitAct) (call : UnitCallAt) → IsRule rule
    → u.contention ≡ Some (empty rule)
    → All (IsCancelledByCopies rule u acts call) (cancelled_in (unit_acts u acts) call)
