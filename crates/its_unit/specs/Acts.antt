-- What the limits of a unit promise in every list of calls and releases.
use Rattle.std.specs.Prelude.{◌≡◌, ℕ, ◌≤◌, ◌++◌, ◌⊎◌, List, [], ◌∷◌, length}
use Rattle.std.specs.Prelude.{Option, Some, IsTrue}
use Rattle.its_model.specs.Packet.{Message, Transmission}
use Rattle.its_model.specs.Calls as model
use Rattle.its_model.specs.Calls.{Answer}
use Rattle.its_governor.specs.declared.memory.PacketId.{PacketId}
use Rattle.its_governor.specs.declared.rate.Limits.{Limits}
use Rattle.its_governor.specs.declared.rate.Rate.{Rate}
use Rattle.its_governor.specs.Bucket.{IsBounded}
use Rattle.its_governor.specs.Deliveries.{DeliveredAt, IsUndelivered, delivery_of}
use Rattle.its_governor.specs.Forwarding.{RemembersSources}
use Rattle.its_governor.specs.Governing.{id_of}
use Rattle.its_governor.specs.Memory.{end_of_life, is_same_packet}
use Rattle.its_governor.specs.Sources.{Forwarded, times_from}
use Rattle.its_unit.specs.Runs.{UnitAct, UnitCallAt, after_act, gone_in_act, request_if}
use Rattle.its_unit.specs.Runs.{unit_acts}
use Rattle.its_unit.specs.Unit.{UnitAnswer, UnitModel, frame_of, is_request, step_within, unit_step}

-- ---- what goes out

-- the frames of other stations that go out in acts, at once or after they waited, the oldest first
abbrev pub frames_gone : UnitModel → List UnitAct → List Forwarded
frames_gone u [] = []
frames_gone u (a ∷ acts) = gone_in_act u a ++ frames_gone (after_act u a) acts

-- when own packets are sent that are no beacons, in an act and in many
abbrev pub requested_in_act : UnitModel → UnitAct → List ℕ
requested_in_act u (UnitAct.Calls c) =
    request_if (is_request c.call) (unit_step u c.now c.call).answer c.now
requested_in_act u (UnitAct.Releases now) = []

abbrev pub requests_in : UnitModel → List UnitAct → List ℕ
requests_in u [] = []
requests_in u (a ∷ acts) = requested_in_act u a ++ requests_in (after_act u a) acts

-- The rate of each source bounds its frames that go out, at once and by releases together, and own
-- packets keep theirs.
pub record RatesAreKept (limits : Limits) (u : UnitModel) : Type 0 where
  pub sources : (rate : Rate) → limits.source ≡ Some rate → RemembersSources limits.forward rate
      → (acts : List UnitAct) (source : ℕ) → IsBounded rate (times_from source (frames_gone u acts))
  pub own : (rate : Rate) → limits.own ≡ Some rate → (acts : List UnitAct)
      → IsBounded rate (requests_in u acts)

-- ---- what is delivered

-- the packet for an area whose message a unit delivers, by the frame that came and the answer
abbrev pub delivered_with : Option Transmission → UnitAnswer → ℕ → List DeliveredAt
delivered_with (Some t) (UnitAnswer.Passed (model.Answer.Accepted (Some message) relayed)) now =
    delivery_of (id_of t) now (end_of_life now t.pdu.lifetime)
delivered_with frame answer now = []

-- in an act, and in many after others, the newest first
abbrev pub delivered_in_act : UnitModel → UnitAct → List DeliveredAt
delivered_in_act u (UnitAct.Calls c) =
    delivered_with (frame_of c.call) (unit_step u c.now c.call).answer c.now
delivered_in_act u (UnitAct.Releases now) = []

abbrev pub delivered_in_acts : UnitModel → List DeliveredAt → List UnitAct → List DeliveredAt
delivered_in_acts u past [] = past
delivered_in_acts u past (a ∷ acts) =
    delivered_in_acts (after_act u a) (delivered_in_act u a ++ past) acts

-- After every list of calls and releases:
-- - `owed`: a message that the station hands out is delivered, if no copy of its packet was delivered
--   whose lifetime isn't over
-- - `apart`: two deliveries of one packet are a lifetime of the first one apart, or 1024 others came
--   between
pub record DeliveriesAreKept (limits : Limits) (u : UnitModel) : Type 0 where
  pub owed : (acts : List UnitAct) (next : UnitCallAt) (t : Transmission) (message : Message)
      (relayed : Option Transmission)
      → frame_of next.call ≡ Some t
      → (step_within (unit_acts u acts).station next.now next.call).answer
      ≡ model.Answer.Accepted (Some message) relayed
      → ((id : PacketId) → id_of t ≡ Some id
      → IsUndelivered next.now (delivered_in_acts u [] acts) id)
      → (sent : Option Transmission)
      × ((unit_step (unit_acts u acts) next.now next.call).answer
      ≡ UnitAnswer.Passed (model.Answer.Accepted (Some message) sent))
  pub apart : IsTrue limits.delivers_once → (acts : List UnitAct)
      (newer between older : List DeliveredAt) (d e : DeliveredAt)
      → delivered_in_acts u [] acts ≡ newer ++ d ∷ (between ++ e ∷ older)
      → IsTrue (is_same_packet e.packet.id d.packet.id)
      → (e.packet.until ≤ d.time) ⊎ (1024 ≤ length between)
