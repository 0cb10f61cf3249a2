-- pcapng as it is written: numbers with their lowest octet first, and one section.
use Rattle.std.specs.Prelude.{◌≡◌, ℕ, ◌+◌, ◌-◌, ◌/◌, ◌%◌, ◌^◌, ◌<◌, ◌≤◌, Bool}
use Rattle.std.specs.Prelude.{List, [], ◌∷◌, ◌++◌, length, take, Option, Some, None, ◌==◌}
use Rattle.std.specs.Prelude.{if◌then◌else◌}
use Rattle.byteorder.specs.Endian.{little_bytes}
use Rattle.its_linkframe.specs.Devices.{AppendsPrefix}
use Rattle.cap_pcap.specs.declared.info.InterfaceHead.{InterfaceHead}
use Rattle.cap_pcap.specs.declared.pcap.TheConstants.{LONGEST_CAPTURED}
use Rattle.cap_pcap.specs.declared.put_fault.PutFault.{PutFault}
use Rattle.cap_pcap.specs.declared.put_fault.PutFault.TheVariants as faults
use Rattle.cap_pcap.specs.Writing as outputs

-- how many octets of 0 follow so many octets, and these: up to a multiple of 4
abbrev pub padding_size : ℕ → ℕ
padding_size n = (4 - n % 4) % 4

abbrev pub padding : ℕ → List ℕ
padding n = take (padding_size n) (0 ∷ 0 ∷ 0 ∷ [])

abbrev pub padding_of : List ℕ → List ℕ
padding_of w = padding (length w)

-- a section header of 28 octets: the magic, version 1.0, section length -1, no options
abbrev pub section_octets : List ℕ
section_octets =
    10 ∷ 13 ∷ 13 ∷ 10 ∷ 28 ∷ 0 ∷ 0 ∷ 0 ∷ 77 ∷ 60 ∷ 43 ∷ 26 ∷ 1 ∷ 0 ∷ 0 ∷ 0
    ∷ 255 ∷ 255 ∷ 255 ∷ 255 ∷ 255 ∷ 255 ∷ 255 ∷ 255 ∷ 28 ∷ 0 ∷ 0 ∷ 0 ∷ []

-- an interface up to its options: block type 1, the block's length, the link type, snap length
-- 262144
unfoldable pub interface_front : ℕ → ℕ → List ℕ
interface_front link size =
    little_bytes 4 1 ++ little_bytes 4 size ++ little_bytes 2 link
    ++ little_bytes 2 0 ++ little_bytes 4 262144

-- the option `if_name` up to the name, whole and where there is one
unfoldable pub name_head : ℕ → List ℕ
name_head size = little_bytes 2 2 ++ little_bytes 2 size

abbrev pub name_head_room : ℕ → ℕ
name_head_room size = if size == 0 then 0 else 4

abbrev pub name_head_of : ℕ → List ℕ
name_head_of size = take (name_head_room size) (name_head size)

-- the option `if_tsresol`, of one octet, and padding
unfoldable pub resolution_octets : ℕ → List ℕ
resolution_octets r = little_bytes 2 9 ++ little_bytes 2 1 ++ little_bytes 4 r

-- the option `if_tsoffset`, whole and where there are seconds
unfoldable pub offset_octets : ℕ → List ℕ
offset_octets seconds = little_bytes 2 14 ++ little_bytes 2 8 ++ little_bytes 8 seconds

abbrev pub offset_room : ℕ → ℕ
offset_room seconds = if seconds == 0 then 0 else 12

abbrev pub offset_of : ℕ → List ℕ
offset_of seconds = take (offset_room seconds) (offset_octets seconds)

-- the end of options, and the block's length
unfoldable pub interface_end : ℕ → List ℕ
interface_end size = little_bytes 4 0 ++ little_bytes 4 size

-- how many octets an interface has, with a name of so many and these seconds
abbrev pub interface_size : ℕ → ℕ → ℕ
interface_size n seconds = 32 + (name_head_room n + n + padding_size n) + offset_room seconds

-- an interface, which has a name only where that isn't empty, and seconds only where they aren't 0
abbrev pub interface_octets : InterfaceHead → List ℕ → List ℕ
interface_octets h name =
    interface_front h.link (interface_size (length name) h.offset)
    ++ (name_head_of (length name) ++ (name ++ (padding_of name
    ++ (resolution_octets h.resolution ++ (offset_of h.offset
    ++ interface_end (interface_size (length name) h.offset))))))

-- how many octets an enhanced packet with a frame of so many has
abbrev pub packet_size : ℕ → ℕ
packet_size n = 32 + (n + padding_size n)

-- an enhanced packet before its frame: block type 6, the block's length, the interface, the timestamp's upper
-- and lower 32 bits, the frame's length twice: captured and on the wire
unfoldable pub packet_head : ℕ → ℕ → ℕ → List ℕ
packet_head interface ticks n =
    little_bytes 4 6 ++ little_bytes 4 (packet_size n) ++ little_bytes 4 interface
    ++ little_bytes 4 (ticks / 2 ^ 32) ++ little_bytes 4 (ticks % 2 ^ 32)
    ++ little_bytes 4 n ++ little_bytes 4 n

-- an enhanced packet
abbrev pub enhanced_octets : ℕ → ℕ → List ℕ → List ℕ
enhanced_octets interface ticks frame =
    (packet_head interface ticks (length frame) ++ frame)
    ++ (padding_of frame ++ little_bytes 4 (packet_size (length frame)))

-- how many octets a simple packet with a frame of so many has
abbrev pub simple_size : ℕ → ℕ
simple_size n = 16 + (n + padding_size n)

-- a simple packet before its frame: block type 3, the block's length, and the frame's on the wire
unfoldable pub simple_head : ℕ → List ℕ
simple_head n = little_bytes 4 3 ++ little_bytes 4 (simple_size n) ++ little_bytes 4 n

-- a simple packet
abbrev pub simple_octets : List ℕ → List ℕ
simple_octets frame =
    (simple_head (length frame) ++ frame)
    ++ (padding_of frame ++ little_bytes 4 (simple_size (length frame)))

-- a packet: a simple one where it has no time stamp
abbrev pub packet_octets : ℕ → Option ℕ → List ℕ → List ℕ
packet_octets interface (Some ticks) frame = enhanced_octets interface ticks frame
packet_octets interface None frame = simple_octets frame

-- a packet without a time stamp is one of the first interface
abbrev pub HasBlock : ℕ → Option ℕ → Type 0
HasBlock interface (Some ticks) = Unit {0}
HasBlock interface None = interface ≡ 0

abbrev pub LacksBlock : ℕ → Option ℕ → Type 0
LacksBlock interface (Some ticks) = ⊥
LacksBlock interface None = 0 < interface

-- A writer: whether a call of its device failed, how many interfaces it wrote, what octets its sink
-- has, where they are known, and how many calls of the sink failed.
pub record Writing : Type 0 where
  pub failed : Bool
  pub interfaces : ℕ
  pub contents : Option (List ℕ)
  pub failures : ℕ

-- what an output does, of a writer that has written so many interfaces
abbrev pub numbered : ℕ → outputs.Writing → Writing
numbered n w = record {
  failed = w.failed;
  interfaces = n;
  contents = w.contents;
  failures = w.failures;
}

-- a call of the device failed: a prefix of the octets is written, and not all of them
abbrev pub IsLost : List ℕ → Writing → Writing → Type 0
IsLost text old new =
    AppendsPrefix old.contents new.contents text × (new.interfaces ≡ old.interfaces)

-- what a fault says of a section header, which is never too long
abbrev pub IsSectionFault : Writing → Writing → PutFault → Type 0
IsSectionFault old new faults.Length = ⊥
IsSectionFault old new faults.Moment = ⊥
IsSectionFault old new faults.Interface = ⊥
IsSectionFault old new faults.Name = ⊥
IsSectionFault old new faults.Io = IsLost section_octets old new
IsSectionFault old new faults.Failed = new ≡ old

-- what a fault says of an interface: a name of over 65535 octets has no place in an option, and a
-- file has fewer interfaces than 2^32
abbrev pub IsInterfaceFault : InterfaceHead → List ℕ → Writing → Writing → PutFault → Type 0
IsInterfaceFault l name old new faults.Length = ⊥
IsInterfaceFault l name old new faults.Moment = ⊥
IsInterfaceFault l name old new faults.Interface = (2 ^ 32 - 1 ≤ old.interfaces) × (new ≡ old)
IsInterfaceFault l name old new faults.Name =
    (old.interfaces < 2 ^ 32 - 1) × (65535 < length name) × (new ≡ old)
IsInterfaceFault l name old new faults.Io =
    (old.interfaces < 2 ^ 32 - 1) × (length name ≤ 65535)
    × IsLost (interface_octets l name) old new
IsInterfaceFault l name old new faults.Failed = new ≡ old

-- what a fault says of a record of an interface: one that was not written comes first
abbrev pub IsPacketFault : ℕ → Option ℕ → List ℕ → Writing → Writing → PutFault → Type 0
IsPacketFault interface ticks frame old new faults.Length =
    (interface < old.interfaces) × (LONGEST_CAPTURED < length frame) × (new ≡ old)
IsPacketFault interface ticks frame old new faults.Moment =
    (interface < old.interfaces) × (length frame ≤ LONGEST_CAPTURED)
    × LacksBlock interface ticks × (new ≡ old)
IsPacketFault interface ticks frame old new faults.Interface =
    (old.interfaces ≤ interface) × (new ≡ old)
IsPacketFault interface ticks frame old new faults.Name = ⊥
IsPacketFault interface ticks frame old new faults.Io =
    (interface < old.interfaces) × (length frame ≤ LONGEST_CAPTURED)
    × HasBlock interface ticks × IsLost (packet_octets interface ticks frame) old new
IsPacketFault interface ticks frame old new faults.Failed = new ≡ old
