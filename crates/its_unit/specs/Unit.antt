-- A unit, as it ships: a station, the frames that wait if it contends, and the limits on what it
-- sends. Contention is between the station and the limits.
use Rattle.std.specs.Prelude.{◌≡◌, ℕ, ℤ, ◌^◌, Bool, true, false, ◌&&◌, ◌||◌, nat_le, if◌then◌else◌}
use Rattle.std.specs.Prelude.{Option, Some, None, is_some, List}
use Rattle.its_gnvalue.specs.Values.{Position}
use Rattle.its_model.specs.History.{known}
use Rattle.its_model.specs.Packet.{Transmission}
use Rattle.its_model.specs.Calls as model
use Rattle.its_model.specs.Calls.{Answer, Call, OwnCall, ShbRequest}
use Rattle.its_model.specs.Station.{StationModel, Step, station_step}
use Rattle.its_station.specs.State.{StationState, RepresentsStation}
use Rattle.its_station.specs.Beside.{move_at_step, send_shb_for_step}
use Rattle.its_station.specs.Receiving.{VerifiedCall, verified_step}
use Rattle.its_station.specs.declared.counts.Counts.{Counts}
use Rattle.its_station.specs.declared.looked_up.LookedUp.{LookedUp}
use Rattle.its_station.specs.declared.looked_up.LookedUp.TheVariants as looks
use Rattle.its_station.specs.declared.requests.ShbOptions.{ShbOptions}
use Rattle.its_governor.specs.declared.governor.Governor.{Governor}
use Rattle.its_governor.specs.declared.receiver.Receiver.{Receiver}
use Rattle.its_governor.specs.Governing.{frame_in, verified_frame, governed, is_repeated_in}
use Rattle.its_governor.specs.Governing.{after_call, after_refusal, is_over_rate}
use Rattle.its_governor.specs.Pressure.{is_pressed}
use Rattle.its_contention.specs.Buffer.{Buffer}
use Rattle.its_contention.specs.Waiting.{Waiting}
use Rattle.its_linkframe.specs.Frames.{frame_octets}
use Rattle.its_unit.specs.Contending.{left_in, contended, verified_octets}
use Rattle.its_unit.specs.Contending.{cancels_by_answer, due_of_answer}
use Rattle.its_unit.specs.declared.limiting.Limiting.{Limiting}

-- a unit of the model
pub record UnitModel : Type 0 where
  pub station : StationModel
  pub contention : Option (Buffer Waiting)  -- the frames that wait, if it contends
  pub governor : Governor

-- a unit as contracts see it
pub record UnitState : Type 0 where
  pub station : StationState
  pub contention : Option (Buffer Waiting)
  pub governor : Governor
  pub counts : Counts

-- The unit represents the one of the model: its station does, the same frames wait, and it has
-- these limits.
pub record RepresentsUnit (st : UnitState) (u : UnitModel) : Type 0 where
  pub station : RepresentsStation st.station u.station
  pub contention : u.contention ≡ st.contention
  pub governor : u.governor ≡ st.governor

-- A call of a unit: one of its own applications, a frame that came, or a secured frame that came with
-- its plain part. The second is a move whose time stamp is that of the fix, the third a single-hop
-- broadcast with a lifetime and media-dependent data of its own.
pub data UnitCall : Type 0 where
  Own : (call : OwnCall) → UnitCall
  MoveAt : (timestamp : ℕ) (place : Position) (accurate : Bool) (speed : ℤ) (heading : ℕ) → UnitCall
  SendShbFor : (options : ShbOptions) (request : ShbRequest) → UnitCall
  Receive : (call : Call) → UnitCall
  ReceiveVerified : (call : VerifiedCall) → UnitCall

-- the step of the station within
abbrev pub step_within : StationModel → ℕ → UnitCall → Step
step_within s now (UnitCall.Own call) = station_step s now (model.Call.Own call)
step_within s now (UnitCall.MoveAt timestamp place accurate speed heading) =
    move_at_step s now timestamp place accurate speed heading
step_within s now (UnitCall.SendShbFor options request) = send_shb_for_step s now options request
step_within s now (UnitCall.Receive call) = station_step s now call
step_within s now (UnitCall.ReceiveVerified call) = verified_step s now call

-- the frame that a call brought, if it did
abbrev pub frame_of : UnitCall → Option Transmission
frame_of (UnitCall.Receive call) = frame_in call
frame_of (UnitCall.ReceiveVerified call) = verified_frame call
frame_of call = None

-- whether a station, at a time that it accepts, has a live entry of a source in its location table
abbrev pub knows : StationModel → ℕ → ℕ → Bool
knows s now source =
    nat_le s.clock now && nat_le now (2 ^ 62)
    && is_some (known s.remember source now s.history)

-- The station as the receiver of a frame, before the call that brings the frame.
abbrev pub receiver_of : StationModel → ℕ → Option Transmission → Receiver
receiver_of s now None = record { address = s.address; knew_source = false }
receiver_of s now (Some t) =
    record { address = s.address; knew_source = knows s now t.pdu.vector.address }

-- whether a call asks for an own packet that is no beacon
abbrev pub is_own_request : OwnCall → Bool
is_own_request (model.OwnCall.SendShb request) = true
is_own_request (model.OwnCall.SendGbc request) = true
is_own_request (model.OwnCall.SendGac request) = true
is_own_request call = false

abbrev pub is_request : UnitCall → Bool
is_request (UnitCall.Own call) = is_own_request call
is_request (UnitCall.SendShbFor options request) = true
is_request call = false

-- What a unit answers: what passes of the station's answer; that the packet was delivered before, and
-- so neither goes on nor is delivered; or that own packets are over their rate.
pub data UnitAnswer : Type 0 where
  Passed : (answer : Answer Transmission) → UnitAnswer
  Repeated : UnitAnswer
  OverRate : UnitAnswer

-- What a unit answers; when the frame is due that begins to wait, if one does; whether a frame that
-- waited is cancelled; and the unit afterwards.
pub record UnitStep : Type 0 where
  pub answer : UnitAnswer
  pub due : Option ℕ
  pub cancelled : Bool
  pub unit : UnitModel

abbrev pub answer_by : Bool → Answer Transmission → UnitAnswer
answer_by true answer = UnitAnswer.Repeated
answer_by false answer = UnitAnswer.Passed answer

-- the octets of a frame in which the packet of a call goes on: a secured one has the message that came
abbrev pub octets_in : UnitCall → Transmission → List ℕ
octets_in (UnitCall.ReceiveVerified call) = verified_octets call
octets_in call = frame_octets

-- what contention leaves of a step of the station: the answer without a frame that waits
abbrev pub left_step : UnitModel → ℕ → UnitCall → Step → Step
left_step u now call step =
    record step {
      answer = left_in u.contention (Some u.governor) step.station now (frame_of call) step.answer;
    }

-- the frames that wait after a step of the station
abbrev pub waiting_after : UnitModel → ℕ → UnitCall → Step → Option (Buffer Waiting)
waiting_after u now call step =
    contended u.contention (Some u.governor) step.station now (octets_in call)
    (receiver_of u.station now (frame_of call)).knew_source (frame_of call) step.answer

-- when the frame is due that begins to wait by a step of the station, if one does
abbrev pub due_after : UnitModel → ℕ → UnitCall → Step → Option ℕ
due_after u now call step =
    due_of_answer u.contention (Some u.governor) step.station now (frame_of call) step.answer

-- whether a step of the station cancels a frame that waits
abbrev pub cancels_after : UnitModel → UnitCall → Step → Bool
cancels_after u call step =
    cancels_by_answer u.contention step.station (octets_in call) (frame_of call) step.answer

-- what passes of what contention leaves, by the frames that wait afterwards
abbrev pub limited_step : UnitModel → ℕ → UnitCall → Option (Buffer Waiting) → Option ℕ → Bool → Step
    → UnitStep
limited_step u now call waiting due cancelled step =
    record {
      due = due;
      cancelled = cancelled;
      answer = answer_by (is_repeated_in u.governor now (frame_of call) step.answer)
          (governed u.governor (receiver_of u.station now (frame_of call)) now (frame_of call)
          step.answer);
      unit = record {
        station = step.station;
        contention = waiting;
        governor = after_call u.governor (receiver_of u.station now (frame_of call)) now
            (is_request call) (frame_of call) step.answer;
      };
    }

-- what passes of a step of the station
abbrev pub passed_step : UnitModel → ℕ → UnitCall → Step → UnitStep
passed_step u now call step =
    limited_step u now call (waiting_after u now call step) (due_after u now call step)
    (cancels_after u call step) (left_step u now call step)

-- a request that is refused for its rate: the station makes no call
abbrev pub refused_step : UnitModel → UnitStep
refused_step u =
    record {
      answer = UnitAnswer.OverRate;
      due = None;
      cancelled = false;
      unit = record u { governor = after_refusal u.governor };
    }

-- The step of a unit: the station's, of whose answer that is kept which passes; or a request at a time
-- that the station accepts is refused, as the bucket of own packets has no room.
abbrev pub unit_step : UnitModel → ℕ → UnitCall → UnitStep
unit_step u now call =
    if is_request call && is_over_rate u.governor u.station.clock now
    then refused_step u
    else passed_step u now call (step_within u.station now call)

-- the step of a unit for a packet that came in a frame, if `say` makes the octets of such frames
abbrev pub unit_step_of : (Transmission → List ℕ) → UnitModel → ℕ → Transmission → UnitStep
unit_step_of say u now t =
    let call = UnitCall.Receive (model.Call.Receive t) in
    let step = station_step u.station now (model.Call.Receive t) in
    limited_step u now call
    (contended u.contention (Some u.governor) step.station now say
    (receiver_of u.station now (Some t)).knew_source (Some t) step.answer)
    (due_after u now call step)
    (cancels_by_answer u.contention step.station say (Some t) step.answer)
    (left_step u now call step)

-- ---- past the limits

-- what comes of a step of the station past the limits, if `say` makes the octets of such frames
abbrev pub past_step : (Transmission → List ℕ) → UnitModel → ℕ → UnitCall → Step → UnitStep
past_step say u now call step =
    record {
      answer = UnitAnswer.Passed
          (left_in u.contention None step.station now (frame_of call) step.answer);
      due = due_of_answer u.contention None step.station now (frame_of call) step.answer;
      cancelled = cancels_by_answer u.contention step.station say (frame_of call) step.answer;
      unit = record u {
        station = step.station;
        contention = contended u.contention None step.station now say
            (receiver_of u.station now (frame_of call)).knew_source (frame_of call) step.answer;
      };
    }

-- The step of a unit past its limits: none applies to the call, which takes nothing from one.
abbrev pub unlimited_step : UnitModel → ℕ → UnitCall → UnitStep
unlimited_step u now call =
    past_step (octets_in call) u now call (step_within u.station now call)

-- so for a packet that came in a frame
abbrev pub unlimited_step_of : (Transmission → List ℕ) → UnitModel → ℕ → Transmission → UnitStep
unlimited_step_of say u now t =
    past_step say u now (UnitCall.Receive (model.Call.Receive t))
    (station_step u.station now (model.Call.Receive t))

-- such a step, within the limits or past them
abbrev pub step_of_by : Limiting → (Transmission → List ℕ) → UnitModel → ℕ → Transmission → UnitStep
step_of_by Limiting.Within = unit_step_of
step_of_by Limiting.Past = unlimited_step_of

-- the step of a unit, within its limits or past them
abbrev pub step_by : Limiting → UnitModel → ℕ → UnitCall → UnitStep
step_by Limiting.Within = unit_step
step_by Limiting.Past = unlimited_step

-- ---- words of private functions

-- whether a unit looks the source of a frame up: if it contends, and within the limits under pressure
abbrev pub looks_up : Limiting → UnitModel → ℕ → Bool
looks_up Limiting.Within u now =
    is_some u.contention || is_pressed u.governor.forward u.governor.shares now
looks_up Limiting.Past u now = is_some u.contention

-- whether a packet that was looked up may be forwarded: it is new, and has a sequence number
abbrev pub may_forward : LookedUp → Bool
may_forward (looks.Ignored why) = false
may_forward (looks.New heard index) = is_some heard.number

-- The receiver of a frame as a unit sees it. Only the source of a packet that may be forwarded is
-- looked up.
abbrev pub asked : Limiting → UnitModel → ℕ → ℕ → Bool → Receiver
asked l u now source forwards =
    record {
      address = u.station.address;
      knew_source = forwards && (looks_up l u now && knows u.station now source);
    }
