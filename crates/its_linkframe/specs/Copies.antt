-- Copies of a frame (profile): the same frame, sent to all by another station. The link sender and
-- the lifetime may differ.
use Rattle.std.specs.Prelude.{ℕ, nat_lt, nat_eq, Bool, not, ◌&&◌, ◌==◌, List, length, take, drop}
use Rattle.std.specs.Prelude.{Option, Some, None}
use Rattle.std.specs.Cmp.Lexicographic.{pointwise}
use Rattle.byteorder.specs.Endian.{big_bytes}
use Rattle.its_gnvalue.specs.Values.{broadcast}
use Rattle.its_model.specs.Packet.{Transmission}
use Rattle.its_linkframe.specs.Frames.{frame_octets}
use Rattle.its_linkframe.specs.Secured.{secured_octets, sealed}

-- ---- of octets

-- the same octets
abbrev pub same_octets : List ℕ → List ℕ → Bool
same_octets a b = pointwise nat_eq a b

-- so many octets from a place on
abbrev pub octets_from : ℕ → ℕ → List ℕ → List ℕ
octets_from start count w = take count (drop start w)

-- the two are equal in all octets but 6 to 11 and 16
abbrev pub same_but_sender : List ℕ → List ℕ → Bool
same_but_sender held heard =
    same_octets (take 6 held) (take 6 heard)
    && same_octets (octets_from 12 4 held) (octets_from 12 4 heard)
    && same_octets (drop 17 held) (drop 17 heard)

-- the frame that was heard is the one that is held, sent to all by another station than this one
abbrev pub is_copy : ℕ → List ℕ → List ℕ → Bool
is_copy own held heard =
    length held == length heard && nat_lt 16 (length heard)
    && same_octets (take 6 heard) (big_bytes 6 broadcast)
    && not (same_octets (octets_from 6 6 heard) (big_bytes 6 own)) && same_but_sender held heard

-- ---- of packets on the air

-- a packet on the air as it goes out: with the message that it came with, if it came secured
pub record Sendable : Type 0 where
  pub frame : Transmission
  pub message : Option (List ℕ)

-- the octets of its frame, by its message
abbrev pub octets_by : Transmission → Option (List ℕ) → List ℕ
octets_by t None = frame_octets t
octets_by t (Some message) = secured_octets (sealed t message)

abbrev pub octets_of : Sendable → List ℕ
octets_of s = octets_by s.frame s.message

-- the second packet on the air, with link sender and lifetime of the first
abbrev pub sent_like : Transmission → Transmission → Transmission
sent_like held heard =
    record heard {
      link_source = held.link_source;
      pdu = record heard.pdu { lifetime = held.pdu.lifetime };
    }

-- the second is the first, sent to all by another station than this one
abbrev pub is_sent_again : ℕ → Sendable → Sendable → Bool
is_sent_again own held heard =
    heard.frame.link_target == broadcast && not (heard.frame.link_source == own)
    && same_octets (octets_of held)
    (octets_by (sent_like held.frame heard.frame) heard.message)
