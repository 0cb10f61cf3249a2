-- Units that contend, in a fleet: the frames of the fleet that wait in a unit, and what a unit sends
-- of them when it releases one. A frame that waits is a frame that comes late. One that is cancelled or
-- dropped comes to nobody.
use Rattle.std.specs.Prelude.{◌≡◌, ◌⊎◌, ◌≤◌, ◌+◌, ℕ, zero, suc, List, [], ◌∷◌, ◌++◌, map, length, slice_get}
use Rattle.std.specs.Prelude.{Bool, true, false, if◌then◌else◌, ◌==◌, Option, Some, None, nat_le, remove}
use Rattle.std.specs.Option.{option_map}
use Rattle.std.specs.List.{AllZip}
use Rattle.its_gnvalue.specs.Values.{mid_of}
use Rattle.its_linkframe.specs.Copies.{is_copy}
use Rattle.its_linkframe.specs.Frames.{frame_octets}
use Rattle.its_linkframe.specs.Secured.{secured_octets, sealed}
use Rattle.its_model.specs.Packet.{Transmission}
use Rattle.its_model.specs.Calls as model
use Rattle.its_model.specs.Calls.{Answer, Refusal, Why}
use Rattle.its_model.specs.Contention.{Fate, HeldFrame, counted, first_due, kept_at, late_after}
use Rattle.its_model.specs.Contention.{place_due, stays}
use Rattle.its_model.specs.Station.{StationModel, Step, moment_refusal}
use Rattle.its_model.specs.World.{Config, station_of}
use Rattle.its_contention.specs.Buffer.{Buffer, after_drop, after_late}
use Rattle.its_contention.specs.Waiting.{Waiting}
use Rattle.its_governor.specs.declared.governor.Governor.{Governor}
use Rattle.its_unit.specs.Contending.{after_due_frame, fate_in, has_room_for_due}
use Rattle.its_unit.specs.Releases.{release_step}
use Rattle.its_unit.specs.Runs.{UnitAct, UnitCallAt, is_withheld, unit_acts}
use Rattle.its_unit.specs.Unit.{UnitModel, frame_of, octets_in, step_within, unit_step}
use Rattle.its_unit.specs.Fleets.{NumberedFrame, UnitKind, numbered, frame_passed, FleetWhat}
use Rattle.its_unit.specs.Fleets.{FleetEvent, FleetModel, new_fleet, Asked, asked, at_time, fleet_step}
use Rattle.its_unit.specs.FleetLaws.{IsIn, fleet_after}

-- ---- the frames that wait

-- A unit, and the frames of the fleet that wait in it. The one that was put first is the first.
pub record HoldingUnit : Type 0 where
  pub unit : UnitModel
  pub frames : List NumberedFrame

-- a unit in which no frame waits
abbrev pub holding : UnitModel → HoldingUnit
holding u = record { unit = u; frames = [] }

-- the elements of the second list for which the element of the first at the same place passes
abbrev pub kept_with : {X Y : Type 0} → (X → Bool) → List X → List Y → List Y
kept_with test [] ys = []
kept_with test (x ∷ xs) [] = []
kept_with test (x ∷ xs) (y ∷ ys) =
    if test x then y ∷ kept_with test xs ys else kept_with test xs ys

-- after an acceptance, by what becomes of the frame in which the packet goes on
abbrev pub frames_by_fate : List NumberedFrame → NumberedFrame → Fate → List NumberedFrame
frames_by_fate frames new (Fate.Waits due) = frames ++ new ∷ []
frames_by_fate frames new Fate.Goes = frames
frames_by_fate frames new Fate.Stays = frames

abbrev pub frames_accepting : ℕ → Option (Buffer Waiting) → Governor → StationModel → ℕ
    → Transmission → Option Transmission → List NumberedFrame → List NumberedFrame
frames_accepting n None g s now t relayed frames = frames
frames_accepting n (Some b) g s now t None frames = frames
frames_accepting n (Some b) g s now t (Some relay) frames =
    frames_by_fate frames (record { number = n; frame = relay })
    (fate_in b (Some g) s now t (Some relay))

-- Whether a frame still waits after a copy of it, or another frame, from this link sender: too few
-- senders are counted to cancel it.
abbrev pub waits_on : ℕ → ℕ → List ℕ → ℕ → HeldFrame Waiting → Bool
waits_on copies own octets sender h =
    stays copies (counted (λ held. is_copy own held.octets octets) sender h)

-- after a duplicate, which may be a copy
abbrev pub frames_hearing : Option (Buffer Waiting) → ℕ → List ℕ → ℕ → List NumberedFrame
    → List NumberedFrame
frames_hearing None own octets sender frames = frames
frames_hearing (Some b) own octets sender frames =
    kept_with (waits_on b.rule.copies own octets sender) b.held frames

-- after a frame that was ignored
abbrev pub frames_ignoring : Option (Buffer Waiting) → ℕ → List ℕ → ℕ → Why → List NumberedFrame
    → List NumberedFrame
frames_ignoring o own octets sender model.Why.Duplicate frames =
    frames_hearing o own octets sender frames
frames_ignoring o own octets sender why frames = frames

-- after a frame that came, by what the station answered. `n` is the number of the frame that the
-- station makes, if it makes one.
abbrev pub frames_receiving : ℕ → UnitModel → UnitCallAt → Step → Transmission
    → Answer Transmission → List NumberedFrame → List NumberedFrame
frames_receiving n u c step t (model.Answer.Accepted handed relayed) frames =
    frames_accepting n u.contention u.governor step.station c.now t relayed frames
frames_receiving n u c step t (model.Answer.Ignored why) frames =
    frames_ignoring u.contention (mid_of step.station.address) (octets_in c.call t) t.link_source why
    frames
frames_receiving n u c step t answer frames = frames

-- after a call that brought no frame: a restart drops all that wait
abbrev pub frames_owning : Answer Transmission → List NumberedFrame → List NumberedFrame
frames_owning model.Answer.Restarted frames = []
frames_owning answer frames = frames

-- after a call that the station makes
abbrev pub frames_calling : ℕ → UnitModel → UnitCallAt → Step → Option Transmission
    → List NumberedFrame → List NumberedFrame
frames_calling n u c step None frames = frames_owning step.answer frames
frames_calling n u c step (Some t) frames = frames_receiving n u c step t step.answer frames

-- after a call
abbrev pub frames_after : ℕ → HoldingUnit → UnitCallAt → List NumberedFrame
frames_after n u c =
    if is_withheld u.unit c then u.frames
    else frames_calling n u.unit c (step_within u.unit.station c.now c.call) (frame_of c.call) u.frames

-- ---- a release

-- the frame that is sent, if one is, and those that wait afterwards
pub record ReleasedFrame : Type 0 where
  pub sent : Option NumberedFrame
  pub frames : List NumberedFrame

-- the frame at a place, and the frames without it
abbrev pub frame_there : List NumberedFrame → Option ℕ → Option NumberedFrame
frame_there frames None = None
frame_there frames (Some place) = slice_get frames place

abbrev pub frames_without : List NumberedFrame → Option ℕ → List NumberedFrame
frames_without frames None = frames
frames_without frames (Some place) = remove frames place

-- by the frame that is due, whether the limits let it pass, and what comes of the next ones if they
-- don't
abbrev pub frames_or : List NumberedFrame → Option ℕ → Option Waiting → Bool → ReleasedFrame
    → ReleasedFrame
frames_or frames place None passes rest = record { sent = None; frames = frames }
frames_or frames place (Some w) true rest =
    record { sent = frame_there frames place; frames = frames_without frames place }
frames_or frames place (Some w) false rest = rest

-- without the frame that is due, if one is
abbrev pub frames_left : Option Waiting → Option ℕ → List NumberedFrame → List NumberedFrame
frames_left None place frames = frames
frames_left (Some w) place frames = frames_without frames place

-- as `release_first` does with the frames that wait
abbrev pub frames_first : ℕ → ℕ → ℕ → Buffer Waiting → Governor → List NumberedFrame → ReleasedFrame
frames_first zero address now b g frames = record { sent = None; frames = frames }
frames_first (suc most) address now b g frames =
    frames_or frames (place_due now b.held) (first_due now b.held)
    (has_room_for_due g address now (first_due now b.held))
    (frames_first most address now (after_drop b now)
    (after_due_frame g now (first_due now b.held) false)
    (frames_left (first_due now b.held) (place_due now b.held) frames))

-- without the late ones
abbrev pub frames_in_time : ℕ → Buffer Waiting → List NumberedFrame → List NumberedFrame
frames_in_time now b frames = kept_with (λ h. nat_le now (h.due + late_after)) b.held frames

abbrev pub frames_released_of : HoldingUnit → ℕ → Option (Buffer Waiting) → ReleasedFrame
frames_released_of u now None = record { sent = None; frames = u.frames }
frames_released_of u now (Some b) =
    frames_first (length (kept_at now b.held)) u.unit.station.address now (after_late b now)
    u.unit.governor (frames_in_time now b u.frames)

abbrev pub frames_released_by : HoldingUnit → ℕ → Option Refusal → ReleasedFrame
frames_released_by u now (Some refusal) = record { sent = None; frames = u.frames }
frames_released_by u now None = frames_released_of u now u.unit.contention

abbrev pub frames_released : HoldingUnit → ℕ → ReleasedFrame
frames_released u now = frames_released_by u now (moment_refusal u.unit.station now)

-- ---- a unit that may contend, as a fleet sees it

-- It sends a frame in the call by which its station makes it, or after it waited, or never.
abbrev pub holding_kind : UnitKind HoldingUnit
holding_kind = record {
  station = λ u. u.unit.station;
  waiting = λ u. u.frames;
  is_withheld = λ u c. is_withheld u.unit c;
  answer = λ u c. (unit_step u.unit c.now c.call).answer;
  call = λ n u c. record {
    sent = numbered n (frame_passed (unit_step u.unit c.now c.call).answer);
    unit = record {
      unit = (unit_step u.unit c.now c.call).unit;
      frames = frames_after n u c;
    };
  };
  release = λ u now. record {
    sent = (frames_released u now).sent;
    unit = record {
      unit = (release_step u.unit now).unit;
      frames = (frames_released u now).frames;
    };
  };
}

-- a fleet of these units, in which no frame waits yet, after events
abbrev pub contending_after : List UnitModel → List FleetEvent → FleetModel HoldingUnit
contending_after units events = fleet_after holding_kind (map holding units) events

-- ---- what holds of such a fleet

-- no frame waits
abbrev pub NothingWaits : Option (Buffer Waiting) → Type 0
NothingWaits None = Unit {0}
NothingWaits (Some b) = b.held ≡ []

-- Units whose stations are new, of these configs, and in which no frame waits. Any number of them
-- contend, each by its own rule.
pub record AreNewContending (configs : List Config) (units : List UnitModel) : Type 0 where
  pub stations : map (λ u. u.station) units ≡ map station_of configs
  pub waiting : (u : UnitModel) → IsIn units u → NothingWaits u.contention

-- What waits are the octets of this frame of the fleet, plain or as a secured frame.
abbrev pub IsFrameOf : Waiting → NumberedFrame → Type 0
IsFrameOf w f =
    (w.octets ≡ frame_octets f.frame)
    ⊎ ((message : List ℕ) × (w.octets ≡ secured_octets (sealed f.frame message)))

-- what waits in a unit are these frames, one for one
abbrev pub AreFramesOf : Option (Buffer Waiting) → List NumberedFrame → Type 0
AreFramesOf None frames = frames ≡ []
AreFramesOf (Some b) frames = AllZip (λ h f. IsFrameOf h.frame f) b.held frames

-- a release sends this frame of the fleet, or none
abbrev pub AreReleased : Option Waiting → Option NumberedFrame → Type 0
AreReleased None None = Unit {0}
AreReleased (Some w) (Some f) = IsFrameOf w f
AreReleased None (Some f) = ⊥
AreReleased (Some w) None = ⊥

-- In each unit of the fleet:
-- - `waiting`: what waits are the frames of the fleet that the fleet counts as waiting
-- - `released`: the octets that `release` returns are those of the frame that the fleet counts as sent
pub record HoldsItsFrames (u : HoldingUnit) : Type 0 where
  pub waiting : AreFramesOf u.unit.contention u.frames
  pub released : (now : ℕ)
      → AreReleased (release_step u.unit now).frame (holding_kind.release u now).sent

abbrev pub UnitsHoldFrames : List UnitModel → Type 0
UnitsHoldFrames units =
    (events : List FleetEvent) (j : ℕ) (u : HoldingUnit)
    → slice_get (contending_after units events).units j ≡ Some u → HoldsItsFrames u

-- No frame is sent twice: two frames that units sent have two numbers of the world. No more are sent
-- than the stations made, so no more than stations without contention and limits send on these calls.
pub record SendsEachOnce (f : FleetModel HoldingUnit) : Type 0 where
  pub once : (m n : ℕ) (a b : NumberedFrame) → slice_get f.sent m ≡ Some a
      → slice_get f.sent n ≡ Some b → a.number ≡ b.number → m ≡ n
  pub fewer : length f.sent ≤ length f.made

abbrev pub ContendersSendOnce : List UnitModel → Type 0
ContendersSendOnce units =
    (events : List FleetEvent) → SendsEachOnce (contending_after units events)

-- ---- the acts of one unit

-- what an event asks of a unit, as an act
abbrev pub act_at : FleetEvent → Option Asked → List UnitAct
act_at e None = []
act_at e (Some a) = UnitAct.Calls (at_time e a) ∷ []

abbrev pub acts_by : List NumberedFrame → FleetEvent → FleetWhat → List UnitAct
acts_by sent e (FleetWhat.Calls call) = act_at e (asked sent (FleetWhat.Calls call))
acts_by sent e (FleetWhat.Deliver n) = act_at e (asked sent (FleetWhat.Deliver n))
acts_by sent e (FleetWhat.DeliverVerified n message) =
    act_at e (asked sent (FleetWhat.DeliverVerified n message))
acts_by sent e FleetWhat.Release = UnitAct.Releases e.moment ∷ []

-- the calls and releases of unit j in a fleet, in order
abbrev pub acts_of : ℕ → FleetModel HoldingUnit → List FleetEvent → List UnitAct
acts_of j f [] = []
acts_of j f (e ∷ events) =
    (if e.unit == j then acts_by f.sent e e.what else [])
    ++ acts_of j (fleet_step holding_kind f e) events

-- Each unit of a fleet is a unit after the calls and releases that the fleet makes of it, one after the
-- other. So all holds of it that `IsLawful` says of calls and releases.
abbrev pub UnitsAct : List UnitModel → Type 0
UnitsAct units =
    (events : List FleetEvent) (j : ℕ)
    → option_map (λ (u : HoldingUnit). u.unit) (slice_get (contending_after units events).units j)
    ≡ option_map (λ (u : UnitModel). unit_acts u (acts_of j (new_fleet (map holding units)) events))
    (slice_get units j)
