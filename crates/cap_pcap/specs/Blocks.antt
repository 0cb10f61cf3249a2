-- The blocks of a pcapng file. Each begins with its type and its length, which stands at its end
-- again; a section header says the order of octets for the blocks behind it.
use Rattle.std.specs.Prelude.{◌≡◌, ◌≢◌, ℕ, ◌+◌, ◌-◌, ◌*◌, ◌^◌, ◌%◌, ◌≤◌, ◌⊎◌, ◌==◌, min}
use Rattle.std.specs.Prelude.{List, drop, if◌then◌else◌, Option, Some, None, false}
use Rattle.std.specs.List.{slice_get}
use Rattle.byteorder.specs.Endian.{big_number}
use Rattle.cap_pcap.specs.declared.blocks.Block.{Block}
use Rattle.cap_pcap.specs.declared.blocks.Block.TheVariants as blocks
use Rattle.cap_pcap.specs.declared.blocks.Kind.{Kind}
use Rattle.cap_pcap.specs.declared.blocks.Kind.TheVariants as kinds
use Rattle.cap_pcap.specs.declared.field.TheConstants.{LONGEST_BLOCK}
use Rattle.cap_pcap.specs.declared.interface.Interface.{Interface}
use Rattle.cap_pcap.specs.declared.octets.Endianness.{Endianness}
use Rattle.cap_pcap.specs.declared.octets.Endianness.TheVariants as orders
use Rattle.cap_pcap.specs.declared.pcap.TheConstants.{LONGEST_CAPTURED}
use Rattle.cap_pcap.specs.Layouts.{Layout, behind, field, frame, gives, number, number_that, octets}
use Rattle.cap_pcap.specs.Interfaces.{plain, options}
use Rattle.cap_pcap.specs.Moments.{IsMoment, IsNoMoment, added_of, taken_of, fine_in}
use Rattle.cap_pcap.specs.declared.record.FineTime.{FineTime}
use Rattle.cap_pcap.specs.Octets.{number_in}

-- a length that a block may have, of which its type always has `least` octets
abbrev pub IsBlockLength : ℕ → ℕ → Type 0
IsBlockLength least n = (n % 4 ≡ 0) × (n ≤ LONGEST_BLOCK) × (least ≤ n)

abbrev pub block_length : Endianness → ℕ → Layout ℕ
block_length o least = number_that o 4 (IsBlockLength least)

-- the length of a block of n octets at its end
abbrev pub last_length : Endianness → ℕ → Layout (Unit {0})
last_length o n = field 4 (λ _ w. number_in o 4 w ≡ n) (λ w. number_in o 4 w ≢ n)

-- what is left of a block of n octets before its end, and the length at its end
unfoldable pub closing : Endianness → ℕ → ℕ → Layout (Unit {0})
closing o rest n =
    behind (octets rest) (λ _. last_length o n)

-- ---- a section header, behind its type

-- the magic 1a2b3c4d, in either order of octets
abbrev pub magic_of : Endianness → ℕ
magic_of orders.Big = 439041101
magic_of orders.Little = 1295788826

abbrev pub HasMagic : Endianness → List ℕ → Type 0
HasMagic o w = big_number 4 (drop 4 w) ≡ magic_of o

-- the length, and the magic, which says its order
pub record IsSectionHead (head : Endianness × ℕ) (w : List ℕ) : Type 0 where
  pub magic : HasMagic head.0 w
  pub length : head.1 ≡ number_in head.0 4 w
  pub fits : IsBlockLength 28 head.1

-- the magic is checked before the length
abbrev pub IsWrongSection : List ℕ → Type 0
IsWrongSection w =
    ((o : Endianness) → ¬ HasMagic o w)
    ⊎ ((o : Endianness) × HasMagic o w × ¬ IsBlockLength 28 (number_in o 4 w))

abbrev pub section_head : Layout (Endianness × ℕ)
section_head = field 8 IsSectionHead IsWrongSection

-- behind the magic a major version of 1; minor version, section length and options aren't read
unfoldable pub section : Layout Block
section =
    behind section_head
    (λ head. behind (number_that head.0 2 (λ version. version ≡ 1))
    (λ _. behind (closing head.0 (head.1 - 18) head.1) (λ _. gives (blocks.Section head.0))))

-- ---- an interface, behind its type

-- the interface of this number
unfoldable pub interface : Endianness → ℕ → Layout Block
interface o next =
    behind (block_length o 20)
    (λ n. behind (plain o next)
    (λ i. behind (options o (n - 20) i)
    (λ known. behind (closing o known.0 n) (λ _. gives (blocks.Interface known.1)))))

-- ---- packets, behind their type, of the interfaces of their section

-- an interface by its number, from 0
abbrev pub named : Endianness → List Interface → Layout Interface
named o is =
    field 4 (λ i w. slice_get is (number_in o 4 w) ≡ Some i)
    (λ w. slice_get is (number_in o 4 w) ≡ None)

-- a timestamp: the upper 32 bits, and the lower
abbrev pub timestamp_in : Endianness → List ℕ → ℕ
timestamp_in o w = number_in o 4 w * 2 ^ 32 + number_in o 4 (drop 4 w)

-- the seconds that an interface adds to each moment, and those that it takes
abbrev pub added : Interface → ℕ
added i = added_of i.info.head.offset

abbrev pub taken : Interface → ℕ
taken i = taken_of i.info.head.offset

-- the moment, and the time below its milliseconds
abbrev pub moment : Endianness → Interface → Layout (ℕ × FineTime)
moment o i =
    field 8
    (λ m w. IsMoment i.ticks (added i) (taken i) (timestamp_in o w) m.0
    × (m.1 ≡ fine_in i.ticks (timestamp_in o w)))
    (λ w. IsNoMoment i.ticks (added i) (taken i) (timestamp_in o w))

-- a captured length that a record may have, and for which the block has room
abbrev pub FitsRecord : ℕ → ℕ → Type 0
FitsRecord room c = (c ≤ LONGEST_CAPTURED) × (c ≤ room)

unfoldable pub packet : Endianness → List Interface → ℕ → List ℕ → Layout Block
packet o is keep kept =
    behind (block_length o 32)
    (λ n. behind (named o is)
    (λ i. behind (moment o i)
    (λ m. behind (number_that o 4 (FitsRecord (n - 32)))
    (λ c. behind (number o 4)
    (λ wire. behind (frame c keep kept)
    (λ _. behind (closing o (n - 32 - c) n)
    (λ _. gives (blocks.Record (record {
      moment = m.0;
      fine = m.1;
      interface = i.number;
      captured = c;
      wire = wire;
      layer = i.info.layer;
    })))))))))

-- the first interface of a section: no octet says it
abbrev pub first : List Interface → Layout Interface
first is = field 0 (λ i _. slice_get is 0 ≡ Some i) (λ _. slice_get is 0 ≡ None)

-- a simple packet has the lesser of its length and the interface's snap length, where that is not 0
abbrev pub simple_length : ℕ → ℕ → ℕ
simple_length snap wire = if snap == 0 then wire else min wire snap

-- the length on the wire, and how many octets there are of it
pub record IsSimpleLength (o : Endianness) (i : Interface) (room : ℕ) (lengths : ℕ × ℕ) (w : List ℕ)
    : Type 0 where
  pub wire : lengths.0 ≡ number_in o 4 w
  pub captured : lengths.1 ≡ simple_length i.snap lengths.0
  pub fits : FitsRecord room lengths.1

abbrev pub simple_lengths : Endianness → Interface → ℕ → Layout (ℕ × ℕ)
simple_lengths o i room =
    field 4 (IsSimpleLength o i room)
    (λ w. ¬ FitsRecord room (simple_length i.snap (number_in o 4 w)))

-- its ticks: none if the interface adds seconds to ticks
abbrev pub ticks_of_zero : ℕ → Option ℕ
ticks_of_zero offset = if offset == 0 then Some 0 else None

-- a simple packet: a record of the first interface, at moment 0
unfoldable pub simple : Endianness → List Interface → ℕ → List ℕ → Layout Block
simple o is keep kept =
    behind (block_length o 16)
    (λ n. behind (first is)
    (λ i. behind (simple_lengths o i (n - 16))
    (λ lengths. behind (frame lengths.1 keep kept)
    (λ _. behind (closing o (n - 16 - lengths.1) n)
    (λ _. gives (blocks.Record (record {
      moment = 0;
      fine = record { nanos = 0; finer = false; ticks = ticks_of_zero i.info.head.offset };
      interface = i.number;
      captured = lengths.1;
      wire = lengths.0;
      layer = i.info.layer;
    })))))))

-- ---- a block of another kind, behind its type: it is passed over

unfoldable pub other : Endianness → Layout Block
other o =
    behind (block_length o 12) (λ n. behind (closing o (n - 12) n) (λ _. gives blocks.Other))

-- ---- any block

abbrev pub kind_of_block : ℕ → Kind
kind_of_block number =
    if number == 168627466 then kinds.Section
    else if number == 1 then kinds.Interface
    else if number == 3 then kinds.Simple
    else if number == 6 then kinds.Packet
    else kinds.Other

-- a block of this type, in a section of this order with these interfaces: a further one has the
-- number `next`
abbrev pub block_of : Endianness → ℕ → List Interface → ℕ → List ℕ → Kind → Layout Block
block_of o next is keep kept kinds.Section = section
block_of o next is keep kept kinds.Interface = interface o next
block_of o next is keep kept kinds.Simple = simple o is keep kept
block_of o next is keep kept kinds.Packet = packet o is keep kept
block_of o next is keep kept kinds.Other = other o
