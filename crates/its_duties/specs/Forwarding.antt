-- The duties of what the station forwards, and of its own packets for areas, whose place is known:
-- when a record of a tap fails them.
use Rattle.std.specs.Prelude.{◌≡◌, ◌≢◌, ◌⊎◌, ℕ, ◌+◌, ◌-◌, ◌*◌, ◌≤◌, ◌<◌, Bool, true, false, ◌&&◌}
use Rattle.std.specs.Prelude.{not, ◌==◌, nat_le, nat_lt, if◌then◌else◌, List, [], ◌∷◌, length}
use Rattle.std.specs.Prelude.{filter}
use Rattle.std.specs.Prelude.{Option, Some, None, slice_get}
use Rattle.std.specs.List.{count_by}
use Rattle.its_gnvalue.specs.Values.{broadcast}
use Rattle.its_geometry.specs.Area.{GeoArea}
use Rattle.its_headers.specs.Fields.{area_in}
use Rattle.its_model.specs.Packet.{Message, Transmission, number_in}
use Rattle.its_model.specs.Packet.Body.{gac}
use Rattle.its_model.specs.Log.{distinct}
use Rattle.its_duties.specs.declared.claims.Claims.{Claims}
use Rattle.its_duties.specs.declared.claims.AreaForwarding.TheVariants as areas
use Rattle.its_duties.specs.Seen.{Seen, is_of, is_heard, is_relay, sendings, last_sending}
use Rattle.its_duties.specs.Times.{Stretch, lies_in, caused_in, life, wait, slack, retry_time}
use Rattle.its_duties.specs.Times.{begin_of}
use Rattle.its_duties.specs.Places.{is_surely_inside}
use Rattle.its_duties.specs.Heard.{IsCopy, has_number, is_heard_from, sources_in, has_room, NoUnread}
use Rattle.its_duties.specs.Duties.{IsOwnRecord, IsRelayRecord}

-- ---- what a forwarded packet was made from

-- Record i was heard, and is a copy of this packet with one hop more.
pub record IsSource (k : Claims) (tap : List Seen) (i : ℕ) (r : Seen) (u t : Transmission)
    : Type 0 where
  pub at : slice_get tap i ≡ Some r
  pub heard : is_heard k r ≡ true
  pub frame : r.frame ≡ Some u
  pub copy : IsCopy k u.pdu t.pdu
  pub hops : u.hops_left ≡ t.hops_left + 1

-- A record so near to this stamp that a sending of it may have caused it.
pub record MayCause (k : Claims) (r : Seen) (stamp : ℕ) : Type 0 where
  pub number : ℕ
  pub sending : ℕ
  pub is_sending : slice_get (sendings r) number ≡ Some sending
  pub before : sending ≤ stamp + 2 * slack k
  pub soon : stamp ≤ last_sending r + wait k + 2 * slack k

-- the first sending of a retried frame may have been earlier
abbrev pub by_retry : Bool → ℕ
by_retry true = retry_time
by_retry false = 0

-- how long ago the packet may have been heard, at most: as long as a source counts
abbrev pub longest : Claims → ℕ
longest k = if nat_lt (life k) (wait k + 2 * slack k) then wait k + 2 * slack k else life k

-- where the packet is looked for from which a record was made
abbrev pub searched : Claims → Seen → Stretch
searched k r = record {
  from = r.moment - longest k - by_retry r.retried;
  to = r.moment + 2 * slack k;
}

-- ---- faithful: a received packet, with one hop fewer and nothing else changed (10.3.11.3,
-- 10.3.12.3)

-- No record was heard from which the packet of record j was made.
pub record FailsFaithful (k : Claims) (tap : List Seen) (j : ℕ) : Type 0 where
  pub seen : Seen
  pub frame : Transmission
  pub is : IsRelayRecord k tap j seen frame
  pub received : k.received ≡ true
  pub unbuffered : k.unbuffered ≡ true
  pub late : begin_of tap + wait k + 2 * slack k + by_retry seen.retried ≤ seen.moment
  pub none : (i : ℕ) (r : Seen) (u : Transmission) → IsSource k tap i r u frame
      → lies_in (searched k seen) r ≡ true → ⊥
  pub all_read : NoUnread k tap (searched k seen)

-- ---- in time: at most the longest wait after it

-- Record j was made from a packet that was heard, but none was that may have caused it.
pub record FailsInTime (k : Claims) (tap : List Seen) (j : ℕ) : Type 0 where
  pub seen : Seen
  pub frame : Transmission
  pub is : IsRelayRecord k tap j seen frame
  pub received : k.received ≡ true
  pub unbuffered : k.unbuffered ≡ true
  pub area : k.area ≡ areas.Simple
  pub sure : seen.retried ≡ false
  pub i : ℕ
  pub origin : Seen
  pub packet : Transmission
  pub faithful : IsSource k tap i origin packet frame
  pub heard_before : lies_in (searched k seen) origin ≡ true
  pub none : (m : ℕ) (r : Seen) (u : Transmission) → IsSource k tap m r u frame
      → MayCause k r seen.moment → ⊥
  pub all_read : NoUnread k tap (caused_in k seen.moment)

-- When the packet was decided on is known: it was made from one that was heard in time.
pub record IsDecided (k : Claims) (tap : List Seen) (j : ℕ) : Type 0 where
  pub faithful : FailsFaithful k tap j → ⊥
  pub in_time : FailsInTime k tap j → ⊥

-- ---- a geoanycast goes no further once it is inside of its area (10.3.12.3)

pub record FailsStopsInside (k : Claims) (tap : List Seen) (j : ℕ) : Type 0 where
  pub seen : Seen
  pub frame : Transmission
  pub number : ℕ
  pub area : GeoArea
  pub message : Message
  pub is : IsRelayRecord k tap j seen frame
  pub anycast : frame.pdu.body ≡ gac number area message
  pub decided : IsDecided k tap j
  pub inside : is_surely_inside k area ≡ true

-- ---- inside of an area a packet goes to all (Annex D)

pub record GoesAstray (k : Claims) (seen : Seen) (frame : Transmission) : Type 0 where
  pub area : GeoArea
  pub area_is : area_in frame.pdu.body ≡ Some area
  pub simple : k.area ≡ areas.Simple
  pub known : seen.known_target ≡ true
  pub inside : is_surely_inside k area ≡ true
  pub astray : frame.link_target ≢ broadcast

-- an own packet
pub record FailsAreaTarget (k : Claims) (tap : List Seen) (j : ℕ) : Type 0 where
  pub seen : Seen
  pub frame : Transmission
  pub is : IsOwnRecord k tap j seen frame
  pub astray : GoesAstray k seen frame

-- one that it forwarded
pub record FailsNextHop (k : Claims) (tap : List Seen) (j : ℕ) : Type 0 where
  pub seen : Seen
  pub frame : Transmission
  pub is : IsRelayRecord k tap j seen frame
  pub decided : IsDecided k tap j
  pub astray : GoesAstray k seen frame

-- ---- once (Annex A)

-- the packet of the record has this source and this number
abbrev pub is_packet : ℕ → ℕ → Seen → Bool
is_packet source n r = is_of source r.frame && has_number n r.frame

-- a number other than this one
abbrev pub other_number : ℕ → Option ℕ → List ℕ → List ℕ
other_number n None numbers = numbers
other_number n (Some m) numbers = if m == n then numbers else m ∷ numbers

abbrev pub number_of_frame : Option Transmission → Option ℕ
number_of_frame None = None
number_of_frame (Some t) = number_in t.pdu.body

abbrev pub numbers_but : ℕ → List Seen → List ℕ
numbers_but n [] = []
numbers_but n (r ∷ tap) = other_number n (number_of_frame r.frame) (numbers_but n tap)

abbrev pub is_from_in : Claims → ℕ → Stretch → Seen → Bool
is_from_in k source stretch r = is_heard_from k source r && lies_in stretch r

-- how many other numbers of a source were heard in a stretch
abbrev pub others_in : Claims → ℕ → ℕ → Stretch → List Seen → ℕ
others_in k source n stretch tap =
    length (distinct (numbers_but n (filter (is_from_in k source stretch) tap)))

-- how often the packet was heard in a stretch
abbrev pub is_heard_in : Claims → ℕ → ℕ → Stretch → Seen → Bool
is_heard_in k source n stretch r = is_heard k r && is_packet source n r && lies_in stretch r

abbrev pub heard_in : Claims → ℕ → ℕ → Stretch → List Seen → ℕ
heard_in k source n stretch tap = count_by (is_heard_in k source n stretch) tap

-- How often it was forwarded from one stamp to another. A frame whose first sending isn't in the
-- capture may have left before.
abbrev pub is_relayed_in : Claims → ℕ → ℕ → Stretch → Seen → Bool
is_relayed_in k source n stretch r =
    is_relay k r && not r.retried && is_packet source n r && nat_le stretch.from r.moment
    && nat_le r.moment stretch.to

abbrev pub relayed_in : Claims → ℕ → ℕ → Stretch → List Seen → ℕ
relayed_in k source n stretch tap = count_by (is_relayed_in k source n stretch) tap

-- The stretch that begins so long before a stamp doesn't begin before the tap, and each record in
-- it is read.
pub record IsWhole (k : Claims) (tap : List Seen) (back stamp : ℕ) (stretch : Stretch)
    : Type 0 where
  pub begins : begin_of tap + back ≤ stamp
  pub all_read : NoUnread k tap stretch

-- the stretch in which other numbers count, for two frames with these stamps
abbrev pub counted_in : Claims → (first second : ℕ) → Stretch
counted_in k first second =
    record { from = first - 2 * wait k - 2 * slack k; to = second + 2 * slack k }

-- that in which copies count
abbrev pub copies_in : Claims → (first second : ℕ) → Stretch
copies_in k first second =
    record { from = first - wait k - 2 * slack k; to = second + 2 * slack k }

-- Between records i and j, which forwarded packets of one source and number, the station can't have
-- forgotten the number: fewer others were heard than it remembers. Or the packet was heard less
-- often than it was forwarded.
abbrev pub IsNotForgotten : Claims → List Seen → (source n : ℕ) → (first second : Seen) → Type 0
IsNotForgotten k tap source n first second =
    let counted = counted_in k first.moment second.moment in
    let copies = copies_in k first.moment second.moment in
    (IsWhole k tap (2 * wait k + 2 * slack k) first.moment counted
    × (others_in k source n counted tap < k.remember))
    ⊎ (IsWhole k tap (wait k + 2 * slack k) first.moment copies × (heard_in k source n copies tap
    < relayed_in k source n (record { from = first.moment; to = second.moment }) tap))

-- the time in which a full table may have forgotten a source
abbrev pub table_time : Claims → (first second : ℕ) → Stretch
table_time k first second =
    record { from = first - life k - 2 * wait k - 2 * slack k; to = second + 2 * slack k }

pub record FailsOnce (k : Claims) (tap : List Seen) (j : ℕ) : Type 0 where
  pub i : ℕ
  pub before : Seen
  pub seen : Seen
  pub packet : Transmission
  pub frame : Transmission
  pub number : ℕ
  pub first : IsRelayRecord k tap i before packet
  pub again : IsRelayRecord k tap j seen frame
  pub earlier : (before.moment ≤ seen.moment) × (i < j)
  pub number_is : (number_in packet.pdu.body ≡ Some number)
      × (number_in frame.pdu.body ≡ Some number)
  pub source : packet.pdu.vector.address ≡ frame.pdu.vector.address
  pub sure : (before.retried ≡ false) × (seen.retried ≡ false)
  pub steady : k.steady ≡ true
  pub unbuffered : k.unbuffered ≡ true
  pub area : k.area ≡ areas.Simple
  pub received : k.received ≡ true
  pub within_life : seen.moment + wait k + 2 * slack k < before.moment + life k
  pub not_forgotten : IsNotForgotten k tap frame.pdu.vector.address number before seen
  pub room : has_room k.capacity (sources_in k (table_time k before.moment seen.moment) tap) ≡ true
  pub room_known : k.fresh ≡ false
      → begin_of tap + life k + 2 * wait k + 2 * slack k ≤ before.moment
  pub all_read : NoUnread k tap (table_time k before.moment seen.moment)
