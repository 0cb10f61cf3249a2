-- What a capture has of the frames of a link: its records, in the order of their time stamps.
-- A frame that IEEE 802.11 sends again, as its retry bit says, is one record with several stamps.
use Rattle.std.specs.Prelude.{◌≡◌, ℕ, ◌+◌, ◌/◌, ◌%◌, ◌<◌, ◌^◌, Bool, true, false, not, ◌&&◌}
use Rattle.std.specs.Prelude.{◌||◌, ◌==◌, nat_le, if◌then◌else◌, List, [], ◌∷◌, ◌++◌, length}
use Rattle.std.specs.Prelude.{drop, Option, Some, None, is_none, slice_get}
use Rattle.byteorder.specs.Endian.{big_number}
use Rattle.its_gnvalue.specs.Values.{broadcast}
use Rattle.its_headers.specs.Encoding.{IsBytes}
use Rattle.its_model.specs.Packet.{Transmission}
use Rattle.its_linkframe.specs.Frames.{EncodesFrame, IsTransmission, frame_octets}
use Rattle.its_duties.specs.declared.claims.Claims.{Claims}

-- A record. Its octets are those of a frame as Ethernet has it: link target, link source, type and
-- packet. A record of which not even the link addresses are read has no octets, and is cut.
pub record Seen : Type 0 where
  pub moment : ℕ  -- its stamp, in nanoseconds since 1970
  pub repeats : List ℕ  -- the stamps at which the link sent the frame again
  -- its retry bit is set, but the capture has no earlier sending of it
  pub retried : Bool
  pub interface : ℕ
  pub wireless : Bool  -- of IEEE 802.11, where a link sends a frame again
  pub octets : List ℕ
  pub cut : Bool  -- the capture doesn't have all octets of the frame
  pub known_target : Bool  -- the capture has the link target
  pub frame : Option Transmission  -- what is read of it; None: it is no frame of the profile

-- all stamps of a record
abbrev pub sendings : Seen → List ℕ
sendings r = r.moment ∷ r.repeats

-- the first of these, or this one
abbrev pub earliest : ℕ → List ℕ → ℕ
earliest first [] = first
earliest first (stamp ∷ stamps) = earliest (if nat_le stamp first then stamp else first) stamps

-- when it was sent first
abbrev pub first_sending : Seen → ℕ
first_sending r = earliest r.moment r.repeats

-- the last of these, or this one
abbrev pub latest : ℕ → List ℕ → ℕ
latest last [] = last
latest last (stamp ∷ stamps) = latest (if nat_le last stamp then stamp else last) stamps

-- when it was sent last
abbrev pub last_sending : Seen → ℕ
last_sending r = latest r.moment r.repeats

-- What is read of a record is what its octets say: it is not cut, and they are this frame. And
-- octets that are a frame and not cut are read.
pub record IsRead (r : Seen) : Type 0 where
  pub bytes : IsBytes r.octets
  pub whole : (t : Transmission) → r.frame ≡ Some t → r.cut ≡ false
  pub says : (t : Transmission) → r.frame ≡ Some t → EncodesFrame t r.octets
  pub all : (t : Transmission) → r.cut ≡ false → EncodesFrame t r.octets → r.frame ≡ Some t

-- all records of a tap are read
abbrev pub AreRead : List Seen → Type 0
AreRead [] = Unit {0}
AreRead (r ∷ tap) = IsRead r × AreRead tap

-- ---- what a record says of a frame that was on the link

-- the same frame to another link address
abbrev pub sent_to : ℕ → Transmission → Transmission
sent_to target t = record t { link_target = target }

-- Its octets are those of the frame: all of them, and what the link put after them (padding, a
-- check sequence), or the first ones if it is cut.
abbrev pub HasOctets : Bool → List ℕ → List ℕ → List ℕ → Type 0
HasOctets false octets frame rest = octets ≡ frame ++ rest
HasOctets true octets frame rest = octets ++ rest ≡ frame

-- The record is of this frame. If the capture doesn't have the link target, some other address is
-- in its place.
pub record Carries (r : Seen) (t : Transmission) : Type 0 where
  pub target : ℕ
  pub in_range : target < 2 ^ 48
  pub same_target : r.known_target ≡ true → target ≡ t.link_target
  pub rest : List ℕ
  pub octets : HasOctets r.cut r.octets (frame_octets (sent_to target t)) rest

-- ---- addresses and type of a record, if it has so many octets

abbrev pub number_at : ℕ → ℕ → List ℕ → Option ℕ
number_at place size octets = if nat_le (place + size) (length octets)
    then Some (big_number size (drop place octets)) else None

abbrev pub link_source_of : Seen → Option ℕ
link_source_of r = number_at 6 6 r.octets

abbrev pub link_target_of : Seen → Option ℕ
link_target_of r = if r.known_target then number_at 0 6 r.octets else None

-- it is this number
abbrev pub is_number : ℕ → Option ℕ → Bool
is_number n None = false
is_number n (Some m) = m == n

-- the type is that of GeoNetworking, 0x8947
abbrev pub is_geonetworking : Seen → Bool
is_geonetworking r = is_number 35143 (number_at 12 2 r.octets)

-- Where the source's address begins in a packet of this header type and sub-type: behind the Common
-- Header in a beacon and a single-hop broadcast, and behind a sequence number in GUC, GAC, GBC, a
-- multi-hop TSB and LS.
abbrev pub source_place : ℕ → ℕ → Option ℕ
source_place type subtype =
    if type == 1 then Some 12
    else if type == 5 then (if subtype == 0 then Some 12 else Some 16)
    else if nat_le 2 type && nat_le type 6 then Some 16
    else None

-- the address there
abbrev pub address_there : Option ℕ → List ℕ → Option ℕ
address_there None packet = None
address_there (Some place) packet = number_at place 8 packet

-- by the first octet, in which a Common Header has to be the next one, and the octet of the types
abbrev pub address_by : Option ℕ → Option ℕ → List ℕ → Option ℕ
address_by None types packet = None
address_by (Some first) None packet = None
address_by (Some first) (Some types) packet =
    if first % 16 == 1 then address_there (source_place (types / 16) (types % 16)) packet
    else None

-- the source that the octets of a frame name, though they may be no frame of the profile
unfoldable pub named_source : List ℕ → Option ℕ
named_source octets =
    let packet = drop 14 octets in
    address_by (slice_get packet 0) (slice_get packet 5) packet

-- ---- what a record is to the station

-- its frames are judged on this interface
abbrev pub is_judged_on : Option ℕ → ℕ → Bool
is_judged_on None interface = true
is_judged_on (Some judged) interface = interface == judged

-- the station sent it
abbrev pub is_sent : Claims → Seen → Bool
is_sent k r = is_judged_on k.interface r.interface && is_number k.mac (link_source_of r)
    && is_geonetworking r

-- the packet is of this source
abbrev pub is_of : ℕ → Option Transmission → Bool
is_of source None = false
is_of source (Some t) = t.pdu.vector.address == source

-- the packet is of another source
abbrev pub is_of_other : ℕ → Option Transmission → Bool
is_of_other source None = false
is_of_other source (Some t) = not (t.pdu.vector.address == source)

-- a packet of its own
abbrev pub is_own : Claims → Seen → Bool
is_own k r = is_sent k r && is_of k.address r.frame

-- a packet of another source that it forwarded
abbrev pub is_relay : Claims → Seen → Bool
is_relay k r = is_sent k r && is_of_other k.address r.frame

-- it sent it, but it isn't read
abbrev pub is_unread_sent : Claims → Seen → Bool
is_unread_sent k r = is_sent k r && is_none r.frame

-- for the station, or for all; or the capture doesn't say
abbrev pub is_for_it : ℕ → Option ℕ → Bool
is_for_it mac None = true
is_for_it mac (Some target) = target == mac || target == broadcast

-- another station sent it, and it is for this one
abbrev pub comes_to_it : Claims → Seen → Bool
comes_to_it k r =
    not (is_number k.mac (link_source_of r)) && is_for_it k.mac (link_target_of r)

-- the station may have heard it: a frame of the profile
abbrev pub is_heard : Claims → Seen → Bool
is_heard k r = comes_to_it k r && is_of_other k.address r.frame

-- its link addresses or its type aren't read
abbrev pub has_no_type : Seen → Bool
has_no_type r = r.cut && not (nat_le 14 (length r.octets))

-- it is a secured packet
abbrev pub is_secured : Seen → Bool
is_secured r = is_number 18 (slice_get r.octets 14)

-- The station may have processed it, though it is no frame of the profile: cut, secured, of another
-- kind, or with octets after the packet. If it processes only the profile, the octets have to begin
-- with a frame of it, or to be secured or cut.
pub record IsUnread (k : Claims) (r : Seen) : Type 0 where
  pub none : r.frame ≡ None
  pub comes : (has_no_type r || (comes_to_it k r && is_geonetworking r)) ≡ true
  pub profile : k.profile ≡ true → (r.cut || is_secured r) ≡ false
      → (t : Transmission) × IsTransmission t × (rest : List ℕ) × (r.octets ≡ frame_octets t ++ rest)
