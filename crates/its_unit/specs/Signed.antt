-- Units whose frames are secured, and a forger: any octets may arrive at any unit, at any time.
use Rattle.std.specs.Prelude.{◌≡◌, ℕ, List, [], ◌∷◌, ◌++◌, ◌==◌, Bool, true, false, IsTrue}
use Rattle.std.specs.Prelude.{if◌then◌else◌, Option, Some, None, slice_get, slice_set}
use Rattle.its_model.specs.Packet.{Transmission}
use Rattle.its_model.specs.Calls as model
use Rattle.its_headers.specs.Encoding.{Encodes}
use Rattle.its_headers.specs.Inner.{inner_octets}
use Rattle.its_linkframe.specs.Secured.{basic_on_air}
use Rattle.its_station.specs.Receiving.{VerifiedCall, IsVerifiedCall}
use Rattle.its_unit.specs.Unit.{UnitModel, UnitCall, UnitAnswer, unit_step}
use Rattle.its_unit.specs.Releases.{release_step}
use Rattle.its_unit.specs.Runs.{UnitAct}
use Rattle.its_unit.specs.FleetLaws.{IsIn}

-- What happens to a unit with a security entity:
-- - `Asks`: a call of its own applications. If the unit answers with a frame, the entity seals it as
--   this message
-- - `Unread`: octets arrive, for which the entity returns no plain part. They don't reach the unit
-- - `Arrives`: octets arrive, for which the entity returns this plain part. Together they are this
--   call
-- - `Releases`: the unit may send a frame that waits
pub data SignedWhat : Type 0 where
  Asks : (call : UnitCall) (message : List ℕ) → SignedWhat
  Unread : (octets : List ℕ) → SignedWhat
  Arrives : (octets plain : List ℕ) (call : VerifiedCall) → SignedWhat
  Releases : SignedWhat

-- what happens to which unit, and when
pub record SignedEvent : Type 0 where
  pub unit : ℕ
  pub now : ℕ
  pub what : SignedWhat

-- a call of a unit, and its answer
pub record SignedLine : Type 0 where
  pub event : SignedEvent
  pub answer : UnitAnswer

-- the units, and all calls, the newest first
pub record SignedModel : Type 0 where
  pub units : List UnitModel
  pub log : List SignedLine

-- these units, and nothing that happened
abbrev pub new_signed : List UnitModel → SignedModel
new_signed units = record { units = units; log = [] }

-- the call of the unit, if there is one
abbrev pub call_in : SignedWhat → Option UnitCall
call_in (SignedWhat.Asks call message) = Some call
call_in (SignedWhat.Unread octets) = None
call_in (SignedWhat.Arrives octets plain call) = Some (UnitCall.ReceiveVerified call)
call_in SignedWhat.Releases = None

-- a call of a unit
abbrev pub after_signed : SignedModel → SignedEvent → UnitModel → Option UnitCall → SignedModel
after_signed f e u None = f
after_signed f e u (Some call) =
    record {
      units = slice_set f.units e.unit (unit_step u e.now call).unit;
      log = record { event = e; answer = (unit_step u e.now call).answer } ∷ f.log;
    }

-- a release, which is no call
abbrev pub released_signed : SignedModel → SignedEvent → UnitModel → SignedModel
released_signed f e u =
    record { units = slice_set f.units e.unit (release_step u e.now).unit; log = f.log }

-- what happens to a unit
abbrev pub happened_signed : SignedModel → SignedEvent → UnitModel → SignedWhat → SignedModel
happened_signed f e u (SignedWhat.Asks call message) = after_signed f e u (Some call)
happened_signed f e u (SignedWhat.Unread octets) = f
happened_signed f e u (SignedWhat.Arrives octets plain call) =
    after_signed f e u (Some (UnitCall.ReceiveVerified call))
happened_signed f e u SignedWhat.Releases = released_signed f e u

-- an event at a unit, if there is such a one
abbrev pub at_signed : SignedModel → SignedEvent → Option UnitModel → SignedModel
at_signed f e None = f
at_signed f e (Some u) = happened_signed f e u e.what

-- One event. If there is no such unit, nothing happens.
abbrev pub signed_step : SignedModel → SignedEvent → SignedModel
signed_step f e = at_signed f e (slice_get f.units e.unit)

-- events, one after the other
abbrev pub signed_run : SignedModel → List SignedEvent → SignedModel
signed_run f [] = f
signed_run f (e ∷ events) = signed_run (signed_step f e) events

-- ---- what is assumed of an entity

-- The octets are the plain part of the frame: its packet behind the Basic Header. So the lifetime,
-- the hops that are left, and both link addresses are not part of them.
abbrev pub IsPlainPart : Transmission → List ℕ → Type 0
IsPlainPart t plain = Encodes t.pdu t.hops_left (inner_octets (basic_on_air t) plain)

-- This plain part was sealed as this message: it is that of a frame that a unit sent, for which its
-- entity returned the message.
pub record WasSealed (log : List SignedLine) (plain message : List ℕ) : Type 0 where
  pub line : SignedLine
  pub call : UnitCall
  pub frame : Transmission
  pub logged : IsIn log line
  pub asked : line.event.what ≡ SignedWhat.Asks call message
  pub answer : line.answer ≡ UnitAnswer.Passed (model.Answer.Sent frame)
  pub part : IsPlainPart frame plain

-- An entity is sound: a plain part that it returns for a message was sealed as this message before.
-- Nothing is assumed of octets that are no secured frame with a packet: the unit refuses them.
abbrev pub IsSoundCall : List SignedLine → List ℕ → VerifiedCall → Type 0
IsSoundCall log plain (VerifiedCall.Came v) = WasSealed log plain v.message
IsSoundCall log plain (VerifiedCall.Faulty fault) = Unit {0}

-- a call of the unit's own applications
abbrev pub is_own : UnitCall → Bool
is_own (UnitCall.Own call) = true
is_own (UnitCall.MoveAt timestamp place accurate speed heading) = true
is_own (UnitCall.SendShbFor options request) = true
is_own (UnitCall.Receive call) = false
is_own (UnitCall.ReceiveVerified call) = false

-- Frames reach the unit through a sound entity alone. Which octets arrive, when and where, is free,
-- and so is what the entity refuses.
abbrev pub IsSoundEvent : List SignedLine → SignedWhat → Type 0
IsSoundEvent log (SignedWhat.Asks call message) = IsTrue (is_own call)
IsSoundEvent log (SignedWhat.Unread octets) = Unit {0}
IsSoundEvent log (SignedWhat.Arrives octets plain call) =
    IsVerifiedCall octets plain call × IsSoundCall log plain call
IsSoundEvent log SignedWhat.Releases = Unit {0}

-- each of these events
abbrev pub AreSound : SignedModel → List SignedEvent → Type 0
AreSound f [] = Unit {0}
AreSound f (e ∷ events) = IsSoundEvent f.log e.what × AreSound (signed_step f e) events

-- ---- the calls and releases of one unit

abbrev pub signed_act : SignedEvent → SignedWhat → List UnitAct
signed_act e (SignedWhat.Asks call message) =
    UnitAct.Calls (record { now = e.now; call = call }) ∷ []
signed_act e (SignedWhat.Unread octets) = []
signed_act e (SignedWhat.Arrives octets plain call) =
    UnitAct.Calls (record { now = e.now; call = UnitCall.ReceiveVerified call }) ∷ []
signed_act e SignedWhat.Releases = UnitAct.Releases e.now ∷ []

-- those of unit j, in order
abbrev pub signed_acts : ℕ → List SignedEvent → List UnitAct
signed_acts j [] = []
signed_acts j (e ∷ events) =
    if e.unit == j then signed_act e e.what ++ signed_acts j events
    else signed_acts j events
