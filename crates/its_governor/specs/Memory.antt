-- Packets that were delivered, the newest first.
use Rattle.std.specs.Prelude.{ℕ, ◌+◌, ◌-◌, ◌^◌, min, ◌==◌, ◌&&◌, nat_lt, Bool, List, ◌∷◌, take}
use Rattle.std.specs.List.{list_any}
use Rattle.its_gnvalue.specs.Values.{lifetime_millis}
use Rattle.its_governor.specs.declared.memory.DeliveredPacket.{DeliveredPacket}
use Rattle.its_governor.specs.declared.memory.PacketId.{PacketId}

-- the packets, and how many are kept at most
pub record MemoryState : Type 0 where
  pub packets : List DeliveredPacket
  pub limit : ℕ

-- whether these are one packet: of one source, with one sequence number and one time stamp
abbrev pub is_same_packet : PacketId → PacketId → Bool
is_same_packet a b =
    a.source == b.source && a.number == b.number && a.timestamp == b.timestamp

-- whether this is that packet, and still lives
abbrev pub is_packet : PacketId → ℕ → DeliveredPacket → Bool
is_packet id now p = is_same_packet p.id id && nat_lt now p.until

-- whether a packet is among those that were delivered, and still lives
abbrev pub is_held : MemoryState → PacketId → ℕ → Bool
is_held m id now = list_any (is_packet id now) m.packets

-- when a packet that comes now is dead, by its lifetime octet
abbrev pub end_of_life : ℕ → ℕ → ℕ
end_of_life now lifetime = min (now + lifetime_millis lifetime) (2 ^ 64 - 1)

-- one more packet
abbrev pub with_packet : PacketId → ℕ → MemoryState → MemoryState
with_packet id until m =
    record m { packets = take m.limit (record { id = id; until = until } ∷ m.packets) }
