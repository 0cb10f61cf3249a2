-- Classic pcap as it is written: numbers with their lowest octet first.
use Rattle.std.specs.Prelude.{◌≡◌, ℕ, ◌/◌, ◌^◌, ◌<◌, ◌≤◌, List, [], ◌∷◌, ◌++◌, length}
use Rattle.byteorder.specs.Endian.{little_bytes}
use Rattle.its_linkframe.specs.Devices.{AppendsPrefix}
use Rattle.cap_linklayers.specs.LinkLayers.{layer_number}
use Rattle.cap_linklayers.specs.declared.link.LinkLayer.{LinkLayer}
use Rattle.cap_pcap.specs.declared.pcap.TheConstants.{LONGEST_CAPTURED}
use Rattle.cap_pcap.specs.declared.pcap.Unit.{Unit}
use Rattle.cap_pcap.specs.declared.pcap.Unit.TheVariants as units
use Rattle.cap_pcap.specs.declared.put_fault.PutFault.{PutFault}
use Rattle.cap_pcap.specs.declared.put_fault.PutFault.TheVariants as faults
use Rattle.cap_pcap.specs.Writing.{Writing}

-- the magic d4c3b2a1 of microseconds or 4d3cb2a1 of nanoseconds, version 2.4, zone 0, accuracy 0,
-- snap length 262144
abbrev pub file_front : Unit → List ℕ
file_front units.Micro =
    212 ∷ 195 ∷ 178 ∷ 161 ∷ 2 ∷ 0 ∷ 4 ∷ 0 ∷ 0 ∷ 0 ∷ 0 ∷ 0 ∷ 0 ∷ 0 ∷ 0 ∷ 0 ∷ 0 ∷ 0 ∷ 4 ∷ 0 ∷ []
file_front units.Nano =
    77 ∷ 60 ∷ 178 ∷ 161 ∷ 2 ∷ 0 ∷ 4 ∷ 0 ∷ 0 ∷ 0 ∷ 0 ∷ 0 ∷ 0 ∷ 0 ∷ 0 ∷ 0 ∷ 0 ∷ 0 ∷ 4 ∷ 0 ∷ []

-- the same, and the link layer
unfoldable pub file_header : Unit → LinkLayer → List ℕ
file_header unit l = file_front unit ++ little_bytes 4 (layer_number l)

-- before a frame its time, in seconds and what is below the second, and its length twice: captured
-- and on the wire
unfoldable pub record_head : ℕ → ℕ → ℕ → List ℕ
record_head seconds fraction size =
    little_bytes 4 seconds ++ little_bytes 4 fraction
    ++ little_bytes 4 size ++ little_bytes 4 size

-- a record at a moment in milliseconds, of which the second counts here
abbrev pub record_of : ℕ → ℕ → List ℕ → List ℕ
record_of moment fraction frame = record_head (moment / 1000) fraction (length frame) ++ frame

-- the second of the moment has no place in 32 bits
abbrev pub IsLate : ℕ → Type 0
IsLate moment = 2 ^ 32 ≤ moment / 1000

-- what a fault says of a record of a frame at a moment: a frame that is too long comes first
abbrev pub IsPutFault : ℕ → ℕ → List ℕ → Writing → Writing → PutFault → Type 0
IsPutFault moment fraction frame old new faults.Length =
    (LONGEST_CAPTURED < length frame) × (new ≡ old)
IsPutFault moment fraction frame old new faults.Moment =
    (length frame ≤ LONGEST_CAPTURED) × IsLate moment × (new ≡ old)
IsPutFault moment fraction frame old new faults.Interface = ⊥
IsPutFault moment fraction frame old new faults.Name = ⊥
IsPutFault moment fraction frame old new faults.Io =
    (length frame ≤ LONGEST_CAPTURED) × (moment / 1000 < 2 ^ 32)
    × AppendsPrefix old.contents new.contents (record_of moment fraction frame)
IsPutFault moment fraction frame old new faults.Failed = new ≡ old
