-- What a call tells C.
use Rattle.std.specs.Prelude.{◌≡◌, ◌+◌, ◌-◌, ◌^◌, ◌∷◌, [], ℕ, ℤ, Bool, true, false, List, length, take, drop}
use Rattle.std.specs.Prelude.{Vec, Option, Some, None}
use Rattle.std.specs.Prelude.{Result, Ok, Err}
use Rattle.std.specs.Option.{option_map}
use Rattle.std.specs.declared.alloc.Global.{Global}
use Rattle.its_faults.specs.declared.frame.FrameFault.{FrameFault}
use Rattle.its_faults.specs.declared.frame.FrameFault.TheVariants as faults
use Rattle.its_faults.specs.declared.secured.SecuredFault.{SecuredFault}
use Rattle.its_faults.specs.declared.secured.SecuredFault.TheVariants as secured
use Rattle.its_faults.specs.declared.packet.FaultKind.{FaultKind}
use Rattle.its_faults.specs.declared.packet.FaultKind.TheVariants as kinds
use Rattle.its_model.specs.Packet.{number_in}
use Rattle.its_model.specs.Calls as model
use Rattle.its_model.specs.Calls.{Call}
use Rattle.its_headers.specs.Fields.{kind_of_body, media_in}
use Rattle.its_headers.specs.Seen.{Seen}
use Rattle.its_linkframe.specs.Secured.{seen_on_air}
use Rattle.its_headers.specs.declared.kind.Kind.{Kind}
use Rattle.its_headers.specs.declared.kind.Kind.TheVariants as kinds_of
use Rattle.its_unit.specs.Unit.{UnitState, UnitStep}
use Rattle.its_unit.specs.declared.outcome.Reaction.{Reaction}
use Rattle.its_unit.specs.declared.outcome.UnitOutcome.{UnitOutcome}
use Rattle.its_unit.specs.declared.outcome.UnitOutcome.TheVariants as units
use Rattle.its_unit.specs.declared.unsent.Unsent.{Unsent}
use Rattle.its_station.specs.Receiving.{VerifiedCall}
use Rattle.its_station.specs.declared.counts.Counts.{Counts}
use Rattle.its_station.specs.declared.outcome.Handed.{Handed}
use Rattle.its_station.specs.declared.outcome.Outcome.{Outcome}
use Rattle.its_station.specs.declared.outcome.Outcome.TheVariants as outcomes
use Rattle.its_station.specs.declared.outcome.Why.{Why}
use Rattle.its_station.specs.declared.outcome.Why.TheVariants as why
use Rattle.its_station.specs.declared.refused.Refused.{Refused}
use Rattle.its_station.specs.declared.refused.Refused.TheVariants as refused
use Rattle.its_c.specs.Held.{counts_in}
use Rattle.its_c.specs.declared.handle.Geostation.{Geostation}
use Rattle.its_c.specs.declared.layout.Reception.{Reception}

-- A call was made of the unit that the handle holds: C is told what the library answered, that answer
-- and the unit afterwards are those of the step, and the answer is counted.
pub record IsTold {X E : Type 0} (IsDone : Result X E → UnitState → UnitStep → Type 0)
    (Shows : Result X E → Type 0) (count : Result X E → Counts → Counts) (status_by : Result X E → ℤ)
    (status : ℤ) (old new : Geostation) (step : UnitStep) : Type 0 where
  pub said : Result X E
  pub after : UnitState
  pub held : new.held.unit ≡ Some after
  pub done : IsDone said after step
  pub code : status ≡ status_by said
  pub shown : Shows said
  pub counts : counts_in new ≡ option_map (count said) (counts_in old)

-- nothing is shown but the status
abbrev pub ShowsNothing : {X : Type 0} → X → Type 0
ShowsNothing x = Unit {0}

-- the buffer begins with these octets, and so many they are
abbrev pub Holds : ℕ → List ℕ → List ℕ → Type 0
Holds n room w = (n ≡ length w) × (take n room ≡ w)

-- the buffer has the frame that is to be sent
abbrev pub ShowsFrame : ℕ → List ℕ → Result (Vec ℕ Global) Unsent → Type 0
ShowsFrame n room (Ok w) = Holds n room w.items
ShowsFrame n room (Err e) = n ≡ 0

-- the buffer has the frame that is to be sent, if any is
abbrev pub ShowsSent : ℕ → List ℕ → Option (Vec ℕ Global) → Type 0
ShowsSent n room None = n ≡ 0
ShowsSent n room (Some w) = Holds n room w.items

-- the same of a call that may be refused
abbrev pub ShowsBeacon : ℕ → List ℕ → Result (Option (Vec ℕ Global)) Refused → Type 0
ShowsBeacon n room (Ok sent) = ShowsSent n room sent
ShowsBeacon n room (Err e) = n ≡ 0

-- the reception of which nothing is to be said
abbrev pub nothing_received : Reception
nothing_received =
    record {
      ignored = 0;
      delivered = 0;
      port = 0;
      info = 0;
      media = 0 ∷ 0 ∷ 0 ∷ 0 ∷ [];
      payload_start = 0;
      payload_length = 0;
      relay_length = 0;
      fault = 0;
      fault_kind = 0;
      fault_at = 0;
      source = 0;
      kind = 0;
      number = 0;
      traffic_class = 0;
      hops_left = 0;
      due = 0;
      held = 0;
      cancelled = 0;
    }

-- the number of a kind of packet
abbrev pub kind_number : Kind → ℕ
kind_number kinds_of.Beacon = 1
kind_number kinds_of.Shb = 2
kind_number kinds_of.Gbc = 3
kind_number kinds_of.Gac = 4

-- the sequence number, or 0
abbrev pub shown_number : Option ℕ → ℕ
shown_number None = 0
shown_number (Some number) = number

-- the media-dependent data, or zeros
abbrev pub shown_media : Option (List ℕ) → List ℕ
shown_media None = 0 ∷ 0 ∷ 0 ∷ 0 ∷ []
shown_media (Some media) = media

-- what is told of each packet that isn't refused: the source, the kind, the sequence number, the
-- traffic class, the hops that are left, and the media-dependent data
abbrev pub reception_of : Seen → Reception
reception_of p = record nothing_received {
  source = p.pdu.vector.address;
  kind = kind_number (kind_of_body p.pdu.body);
  number = shown_number (number_in p.pdu.body);
  traffic_class = p.pdu.class;
  hops_left = p.left;
  media = shown_media (media_in p.pdu.body);
}

-- a reception that tells no more than that, why the frame is ignored, and what came of held frames
abbrev pub IsHeard : Reception → Type 0
IsHeard r = r ≡ record nothing_received {
  ignored = r.ignored;
  media = r.media;
  source = r.source;
  kind = r.kind;
  number = r.number;
  traffic_class = r.traffic_class;
  hops_left = r.hops_left;
  due = r.due;
  held = r.held;
  cancelled = r.cancelled;
}

-- when the frame to forward is due that is held, whether one is, and whether one is cancelled
abbrev pub shown_due : Option ℕ → ℕ
shown_due None = 0
shown_due (Some due) = due

abbrev pub shown_held : Option ℕ → ℕ
shown_held None = 0
shown_held (Some due) = 1

abbrev pub shown_flag : Bool → ℕ
shown_flag false = 0
shown_flag true = 1

-- what is told of a packet, with what came of the frames that are held
abbrev pub with_reaction : Reception → Option ℕ → Bool → Reception
with_reaction r due cancelled = record r {
  due = shown_due due;
  held = shown_held due;
  cancelled = shown_flag cancelled;
}

-- what is told of octets that come to the model as this call, where they aren't refused
abbrev pub reception_in : Call → Reception
reception_in (model.Call.Own call) = nothing_received
reception_in (model.Call.Receive t) = reception_of (seen_on_air t)
reception_in (model.Call.Junk fault) = nothing_received

-- the same of a secured frame that came with its plain part
abbrev pub verified_reception_in : VerifiedCall → Reception
verified_reception_in (VerifiedCall.Came v) = reception_of (seen_on_air v.frame)
verified_reception_in (VerifiedCall.Faulty fault) = nothing_received

-- the number of a reason
abbrev pub number_of : Why → ℕ
number_of why.NotForMe = 1
number_of why.OwnSource = 2
number_of why.SenderMismatch = 3
number_of why.Duplicate = 4

-- the number of what is wrong with a field, as in its code
abbrev pub number_of_kind : FaultKind → ℕ
number_of_kind kinds.Truncated = 1
number_of_kind kinds.Version = 2
number_of_kind kinds.BasicNext = 3
number_of_kind kinds.Reserved = 4
number_of_kind kinds.HopZero = 5
number_of_kind kinds.CommonNext = 6
number_of_kind kinds.HeaderType = 7
number_of_kind kinds.SubType = 8
number_of_kind kinds.HopAboveMax = 9
number_of_kind kinds.PayloadLength = 10
number_of_kind kinds.Position = 11
number_of_kind kinds.Area = 12

-- the number of a fault's code
abbrev pub layer_of : FrameFault → ℕ
layer_of faults.Short = 1
layer_of faults.EtherType = 2
layer_of faults.TooLong = 3
layer_of faults.Trailing = 4
layer_of (faults.Packet f) = 5

-- of a packet's fault the number of its kind, else 0
abbrev pub kind_of : FrameFault → ℕ
kind_of faults.Short = 0
kind_of faults.EtherType = 0
kind_of faults.TooLong = 0
kind_of faults.Trailing = 0
kind_of (faults.Packet f) = number_of_kind f.kind

-- of a packet's fault the octet of the packet, else 0
abbrev pub place_in : FrameFault → ℕ
place_in faults.Short = 0
place_in faults.EtherType = 0
place_in faults.TooLong = 0
place_in faults.Trailing = 0
place_in (faults.Packet f) = f.at

-- the reception of octets with this fault
abbrev pub faulty : FrameFault → Reception
faulty fault = record nothing_received {
  fault = layer_of fault;
  fault_kind = kind_of fault;
  fault_at = place_in fault;
}

-- the same of a secured frame's fault
abbrev pub secured_layer : SecuredFault → ℕ
secured_layer secured.Short = 1
secured_layer secured.EtherType = 2
secured_layer secured.TooLong = 3
secured_layer secured.Trailing = 4
secured_layer (secured.Packet f) = 5
secured_layer (secured.Inner f) = 6

abbrev pub secured_kind : SecuredFault → ℕ
secured_kind secured.Short = 0
secured_kind secured.EtherType = 0
secured_kind secured.TooLong = 0
secured_kind secured.Trailing = 0
secured_kind (secured.Packet f) = number_of_kind f.kind
secured_kind (secured.Inner f) = number_of_kind f.kind

abbrev pub secured_place : SecuredFault → ℕ
secured_place secured.Short = 0
secured_place secured.EtherType = 0
secured_place secured.TooLong = 0
secured_place secured.Trailing = 0
secured_place (secured.Packet f) = f.at
secured_place (secured.Inner f) = f.at

abbrev pub faulty_secured : SecuredFault → Reception
faulty_secured fault = record nothing_received {
  fault = secured_layer fault;
  fault_kind = secured_kind fault;
  fault_at = secured_place fault;
}

-- the reception of a frame that is refused
abbrev pub refused_reception : Refused → Reception
refused_reception refused.MomentEarlier = nothing_received
refused_reception refused.MomentTooLate = nothing_received
refused_reception refused.JitterRange = nothing_received
refused_reception (refused.Frame fault) = faulty fault
refused_reception (refused.Secured fault) = faulty_secured fault
refused_reception (refused.Port fault) = nothing_received
refused_reception refused.PayloadTooLong = nothing_received
refused_reception refused.HopLimitZero = nothing_received
refused_reception refused.TableFull = nothing_received
refused_reception refused.NoMemory = nothing_received

-- what is delivered, if anything is, and where in the frame it lies, to the frame's end
abbrev pub ShowsHanded : List ℕ → Reception → Option Handed → Type 0
ShowsHanded w r None =
    (r.delivered ≡ 0) × (r.port ≡ 0) × (r.info ≡ 0)
    × (r.payload_length ≡ 0) × (r.payload_start ≡ 0)
ShowsHanded w r (Some h) =
    (r.delivered ≡ 1) × (r.port ≡ h.port) × (r.info ≡ h.info)
    × (r.payload_length ≡ length h.payload.now) × (drop r.payload_start w ≡ h.payload.now)
    × (r.payload_start + r.payload_length ≡ length w)

-- but for what is delivered and for what goes on, the reception is this one: no fault, and no
-- reason why it would be ignored
abbrev pub IsBesides : Reception → Reception → Type 0
IsBesides frame r = r ≡ record frame {
  delivered = r.delivered;
  port = r.port;
  info = r.info;
  payload_start = r.payload_start;
  payload_length = r.payload_length;
  relay_length = r.relay_length;
}

-- what became of a frame that is no fault, of which this is told
abbrev pub ShowsOutcome : List ℕ → Reception → Reception → List ℕ → Outcome → Type 0
ShowsOutcome w frame r room (outcomes.Ignored reason) =
    r ≡ record frame { ignored = number_of reason }
ShowsOutcome w frame r room (outcomes.Accepted handed sent) =
    IsBesides frame r × ShowsHanded w r handed × ShowsSent r.relay_length room sent

-- so, of a unit; the reason 5 says that the packet was delivered before
abbrev pub ShowsUnit : List ℕ → Reception → Reception → List ℕ → UnitOutcome → Type 0
ShowsUnit w frame r room (units.Passed outcome) = ShowsOutcome w frame r room outcome
ShowsUnit w frame r room units.Repeated = r ≡ record frame { ignored = 5 }

-- what became of a frame
abbrev pub ShowsReceived : List ℕ → Reception → Reception → List ℕ → Result Reaction Refused
    → Type 0
ShowsReceived w frame r room (Ok reaction) =
    ShowsUnit w (with_reaction frame reaction.due reaction.cancelled) r room reaction.outcome
ShowsReceived w frame r room (Err e) = r ≡ refused_reception e

-- the time at which the next held frame is due, or the greatest number if none is held
abbrev pub shown_next_due : Option ℕ → ℕ
shown_next_due None = 2 ^ 64 - 1
shown_next_due (Some due) = due
