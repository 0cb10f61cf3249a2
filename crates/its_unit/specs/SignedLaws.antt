-- What holds of units with sound security entities, whatever a forger does.
use Rattle.std.specs.Prelude.{◌≡◌, ◌⊎◌, ℕ, ◌≤◌, ◌-◌, List, ◌∷◌, ◌++◌, Option, Some, true, IsTrue}
use Rattle.std.specs.Prelude.{slice_get}
use Rattle.std.specs.Option.{option_map}
use Rattle.its_gnvalue.specs.Values.{Position, mid_of}
use Rattle.its_geometry.specs.Area.{area_holds}
use Rattle.its_model.specs.History.{is_among}
use Rattle.its_model.specs.Packet.{Message, Transmission}
use Rattle.its_model.specs.Calls as model
use Rattle.its_model.specs.Calls.{GbcRequest}
use Rattle.its_model.specs.World as world
use Rattle.its_linkframe.specs.Secured.{Verified, sealed, secured_octets}
use Rattle.its_contention.specs.Buffer.{empty}
use Rattle.its_contention.specs.Waiting.{Waiting}
use Rattle.its_model.specs.Contention.{ContentionRule}
use Rattle.its_faults.specs.declared.secured.SecuredFault.{SecuredFault}
use Rattle.its_station.specs.Receiving.{VerifiedCall}
use Rattle.its_governor.specs.declared.rate.Limits.{Limits}
use Rattle.its_governor.specs.declared.rate.Rate.{Rate}
use Rattle.its_governor.specs.Bucket.{IsBounded}
use Rattle.its_governor.specs.Governing.{IsNewGovernor}
use Rattle.its_unit.specs.Unit.{UnitModel, UnitCall, UnitAnswer, unit_step}
use Rattle.its_unit.specs.Releases.{release_step}
use Rattle.its_unit.specs.Runs.{times_gone, unit_acts}
use Rattle.its_unit.specs.FleetLaws.{IsIn}
use Rattle.its_unit.specs.Signed.{SignedWhat, SignedEvent, SignedLine, SignedModel, new_signed}
use Rattle.its_unit.specs.Signed.{signed_run, signed_acts, call_in, IsSoundEvent, AreSound}
use Rattle.its_unit.specs.Signed.{WasSealed}

-- each unit's own position vector bears its own address
abbrev pub AreNamed : List UnitModel → Type 0
AreNamed units =
    (j : ℕ) (u : UnitModel) → slice_get units j ≡ Some u
    → u.station.vector.address ≡ u.station.address

-- these units after events
abbrev pub signed_after : List UnitModel → List SignedEvent → SignedModel
signed_after units events = signed_run (new_signed units) events

-- What the next event of a run is: a call of a unit, and what it answers.
pub record IsNext (units : List UnitModel) (events : List SignedEvent) (e : SignedEvent)
    (call : UnitCall) (answer : UnitAnswer) : Type 0 where
  pub unit : UnitModel
  pub before : AreSound (new_signed units) events
  pub sound : IsSoundEvent (signed_after units events).log e.what
  pub there : slice_get (signed_after units events).units e.unit ≡ Some unit
  pub called : call_in e.what ≡ Some call
  pub answered : (unit_step unit e.now call).answer ≡ answer

-- ---- a message was sent by the unit that its packet names

-- a request for a packet to an area that holds this position
abbrev pub AsksInside : GbcRequest → Message → Position → Type 0
AsksInside request message here =
    (request.message ≡ message) × (area_holds request.area here ≡ true)

-- The call asks to send this message, and if it is for an area, that area holds this position.
abbrev pub AsksToSend : UnitCall → Message → Position → Type 0
AsksToSend (UnitCall.Own (model.OwnCall.SendShb request)) message here =
    request.message ≡ message
AsksToSend (UnitCall.Own (model.OwnCall.SendGbc request)) message here =
    AsksInside request message here
AsksToSend (UnitCall.Own (model.OwnCall.SendGac request)) message here =
    AsksInside request message here
AsksToSend (UnitCall.SendShbFor options request) message here = request.message ≡ message
AsksToSend call message here = ⊥

-- The unit whose address the packet bears sent it before, with this message, for an area that holds
-- this position, and its entity sealed it as what came.
pub record WasSentBySource (units : List UnitModel) (log : List SignedLine) (v : Verified)
    (message : Message) (here : Position) : Type 0 where
  pub line : SignedLine
  pub call : UnitCall
  pub frame : Transmission
  pub source : UnitModel
  pub logged : IsIn log line
  pub asked : line.event.what ≡ SignedWhat.Asks call v.message
  pub answer : line.answer ≡ UnitAnswer.Passed (model.Answer.Sent frame)
  pub sender : slice_get units line.event.unit ≡ Some source
  pub named : v.frame.pdu.vector.address ≡ source.station.address
  pub request : AsksToSend call message here

-- What a unit delivers to a port was sent so, to that port, which is open.
abbrev pub DeliversAsSealed : List UnitModel → Type 0
DeliversAsSealed units =
    (events : List SignedEvent) (e : SignedEvent) (v : Verified) (message : Message)
    (relayed : Option Transmission)
    (next : IsNext units events e (UnitCall.ReceiveVerified (VerifiedCall.Came v))
    (UnitAnswer.Passed (model.Answer.Accepted (Some message) relayed)))
    → IsTrue (is_among message.port next.unit.station.ports)
    × WasSentBySource units (signed_after units events).log v message
    next.unit.station.vector.place

-- ---- what goes on is what was sealed

-- The frame is one that came, forwarded: the packet with one hop fewer, from the unit's own link
-- address. Its secured frame has the message that came, which was sealed for this packet; the
-- lifetime is that of the frame that came.
pub record IsSealedForwarding (log : List SignedLine) (u : UnitModel) (what : SignedWhat)
    (t : Transmission) : Type 0 where
  pub octets : List ℕ
  pub plain : List ℕ
  pub came : Verified
  pub sealed : WasSealed log plain came.message
  pub is : what ≡ SignedWhat.Arrives octets plain (VerifiedCall.Came came)
  pub hops : 2 ≤ came.frame.hops_left
  pub target : ℕ
  pub same : t ≡ record {
    pdu = record sealed.frame.pdu { lifetime = came.frame.pdu.lifetime };
    hops_left = came.frame.hops_left - 1;
    link_source = mid_of u.station.address;
    link_target = target;
  }

-- the frame is an own packet, which the unit's applications asked for
abbrev pub IsOwnSealed : SignedWhat → UnitAnswer → Transmission → Type 0
IsOwnSealed what answer t =
    (call : UnitCall) × (message : List ℕ) × (what ≡ SignedWhat.Asks call message)
    × (answer ≡ UnitAnswer.Passed (model.Answer.Sent t))

-- Each frame that a unit sends is its own, or a faithful forwarding of a sealed one.
abbrev pub ForwardsAsSealed : List UnitModel → Type 0
ForwardsAsSealed units =
    (events : List SignedEvent) (e : SignedEvent) (call : UnitCall)
    (answer : model.Answer Transmission) (t : Transmission)
    (next : IsNext units events e call (UnitAnswer.Passed answer))
    → world.frame_of answer ≡ Some t
    → IsOwnSealed e.what (UnitAnswer.Passed answer) t
    ⊎ IsSealedForwarding (signed_after units events).log next.unit e.what t

-- What waits in a unit is a frame that came to it, forwarded so, in the secured frame with its message.
pub record IsSealedWaiting (events : List SignedEvent) (log : List SignedLine) (j : ℕ)
    (u : UnitModel) (w : Waiting) : Type 0 where
  pub event : SignedEvent
  pub earlier : IsIn events event
  pub there : event.unit ≡ j
  pub frame : Transmission
  pub forwarded : IsSealedForwarding log u event.what frame
  pub octets : w.octets ≡ secured_octets (sealed frame forwarded.came.message)

-- Each frame that a unit releases is such a one.
abbrev pub ReleasesAsSealed : List UnitModel → Type 0
ReleasesAsSealed units =
    (events : List SignedEvent) (j now : ℕ) (first u : UnitModel) (rule : ContentionRule)
    (w : Waiting) → AreSound (new_signed units) events
    → slice_get units j ≡ Some first → first.contention ≡ Some (empty rule)
    → slice_get (signed_after units events).units j ≡ Some u
    → (release_step u now).frame ≡ Some w
    → IsSealedWaiting events (signed_after units events).log j first w

-- ---- what a forger changes

-- each unit is a unit after its own calls and releases, so all laws of units hold of it (`IsLawful`)
abbrev pub SignedUnitsRun : List UnitModel → Type 0
SignedUnitsRun units =
    (events : List SignedEvent) (j : ℕ)
    → slice_get (signed_after units events).units j
    ≡ option_map (λ (u : UnitModel). unit_acts u (signed_acts j events)) (slice_get units j)

-- whatever arrives, what a unit forwards, at once and by releases, is within its rate
abbrev pub FloodsAreBounded : List UnitModel → Type 0
FloodsAreBounded units =
    (events : List SignedEvent) (j : ℕ) (u : UnitModel) (limits : Limits) (rate : Rate)
    → slice_get units j ≡ Some u → IsNewGovernor limits u.governor → limits.forward ≡ Some rate
    → IsBounded rate (times_gone u (signed_acts j events))

-- Octets that the entity doesn't read change nothing, whatever comes before and after them; and
-- octets that are no packet with its plain part change no unit.
pub record ForgersChangeNothing (units : List UnitModel) : Type 0 where
  pub unread : (before after : List SignedEvent) (unit now : ℕ) (octets : List ℕ)
      → signed_after units
      (before ++ record { unit = unit; now = now; what = SignedWhat.Unread octets } ∷ after)
      ≡ signed_after units (before ++ after)
  pub faulty : (u : UnitModel) (now : ℕ) (fault : SecuredFault)
      → (unit_step u now (UnitCall.ReceiveVerified (VerifiedCall.Faulty fault))).unit ≡ u
