-- Which packets for an area a station with limits delivers, in every list of calls. All lists of
-- deliveries have the newest first.
use Rattle.std.specs.Prelude.{◌≡◌, ℕ, ◌≤◌, ◌++◌, List, [], ◌∷◌, length, All, Bool, true, false}
use Rattle.std.specs.Prelude.{Option, Some, None, is_some, IsTrue, IsFalse, ◌⊎◌}
use Rattle.its_model.specs.Packet.{Message, Transmission}
use Rattle.its_model.specs.Calls as model
use Rattle.its_model.specs.Calls.{Answer}
use Rattle.its_governor.specs.declared.governor.Governor.{Governor}
use Rattle.its_governor.specs.declared.memory.DeliveredPacket.{DeliveredPacket}
use Rattle.its_governor.specs.declared.memory.PacketId.{PacketId}
use Rattle.its_governor.specs.declared.receiver.Receiver.{Receiver}
use Rattle.its_governor.specs.Memory.{end_of_life, is_packet, is_same_packet}
use Rattle.its_governor.specs.Governing.{after_call, after_refusal, governed, id_of, passed_of}

-- A call of a station with limits, as the contracts of such calls have it: the station as the
-- receiver of a frame, the time, whether the call asks for an own packet, the frame that it brought,
-- and the answer of the station. Or a request that is refused for its rate.
pub data GovernedCall : Type 0 where
  Answered : (receiver : Receiver) (now : ℕ) (request : Bool) (frame : Option Transmission)
      (answer : Answer Transmission) → GovernedCall
  OverRate : GovernedCall

-- the limits after a call, and after many
abbrev pub after_governed : Governor → GovernedCall → Governor
after_governed g (GovernedCall.Answered r now request frame answer) =
    after_call g r now request frame answer
after_governed g GovernedCall.OverRate = after_refusal g

abbrev pub after_calls : Governor → List GovernedCall → Governor
after_calls g [] = g
after_calls g (call ∷ calls) = after_calls (after_governed g call) calls

-- a packet for an area that was delivered, and when
pub record DeliveredAt : Type 0 where
  pub packet : DeliveredPacket
  pub time : ℕ

abbrev pub delivery_of : Option PacketId → ℕ → ℕ → List DeliveredAt
delivery_of None now until = []
delivery_of (Some id) now until =
    record { packet = record { id = id; until = until }; time = now } ∷ []

abbrev pub delivery_if : Bool → ℕ → Transmission → List DeliveredAt
delivery_if true now t = delivery_of (id_of t) now (end_of_life now t.pdu.lifetime)
delivery_if false now t = []

-- what is delivered in an accepted frame, in a call, and in many after others
abbrev pub delivered_of : Governor → Receiver → ℕ → Option Transmission → Option Message
    → Option Transmission → List DeliveredAt
delivered_of g r now (Some t) handed relayed =
    delivery_if (passed_of g r now t (is_some handed) (is_some relayed)).delivers now t
delivered_of g r now None handed relayed = []

abbrev pub delivered_by : Governor → Receiver → ℕ → Option Transmission → Answer Transmission
    → List DeliveredAt
delivered_by g r now frame (model.Answer.Accepted handed relayed) =
    delivered_of g r now frame handed relayed
delivered_by g r now frame answer = []

abbrev pub delivered_in : Governor → GovernedCall → List DeliveredAt
delivered_in g (GovernedCall.Answered r now request frame answer) = delivered_by g r now frame answer
delivered_in g GovernedCall.OverRate = []

abbrev pub deliveries : Governor → List DeliveredAt → List GovernedCall → List DeliveredAt
deliveries g past [] = past
deliveries g past (call ∷ calls) =
    deliveries (after_governed g call) (delivered_in g call ++ past) calls

-- no copy of this packet was delivered whose lifetime isn't over
abbrev pub IsUndelivered : ℕ → List DeliveredAt → PacketId → Type 0
IsUndelivered now past id = All (λ d. IsFalse (is_packet id now d.packet)) past

-- After each list of calls, a payload that the station hands out is delivered, if no copy of its
-- packet was delivered whose lifetime isn't over.
abbrev pub AreOwed : Governor → Type 0
AreOwed g =
    (calls : List GovernedCall) (r : Receiver) (now : ℕ) (t : Transmission) (message : Message)
    (relayed : Option Transmission)
    → ((id : PacketId) → id_of t ≡ Some id → IsUndelivered now (deliveries g [] calls) id)
    → (sent : Option Transmission)
    × (governed (after_calls g calls) r now (Some t) (model.Answer.Accepted (Some message) relayed)
    ≡ model.Answer.Accepted (Some message) sent)

-- In each list of calls, two deliveries of one packet are a lifetime of the first one apart, or
-- 1024 others came between.
abbrev pub AreApart : Governor → Type 0
AreApart g =
    (calls : List GovernedCall) (newer between older : List DeliveredAt) (d e : DeliveredAt)
    → deliveries g [] calls ≡ newer ++ d ∷ (between ++ e ∷ older)
    → IsTrue (is_same_packet e.packet.id d.packet.id)
    → (e.packet.until ≤ d.time) ⊎ (1024 ≤ length between)
