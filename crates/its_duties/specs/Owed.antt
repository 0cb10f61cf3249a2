-- A packet for an area that was heard, which the station has to forward (10.3.11.3): when a record
-- of a tap fails that, and the verdict on it.
use Rattle.std.specs.Prelude.{◌≡◌, ◌≢◌, ◌⊎◌, ℕ, ◌+◌, ◌-◌, ◌*◌, ◌≤◌, Bool, true, false, not}
use Rattle.std.specs.Prelude.{◌&&◌, ◌||◌}
use Rattle.std.specs.Prelude.{nat_le, if◌then◌else◌, List, Option, Some, None, is_some, slice_get}
use Rattle.its_geometry.specs.Area.{GeoArea}
use Rattle.its_headers.specs.declared.kind.Kind.{Kind}
use Rattle.its_headers.specs.declared.kind.Kind.TheVariants as kinds
use Rattle.its_headers.specs.Fields.{kind_of_body, area_in}
use Rattle.its_model.specs.Packet.{Message, Transmission, number_in}
use Rattle.its_model.specs.Packet.Body.{gbc}
use Rattle.its_duties.specs.declared.claims.Claims.{Claims}
use Rattle.its_duties.specs.declared.claims.AreaForwarding.TheVariants as areas
use Rattle.its_duties.specs.declared.owed.RelaySeen.{RelaySeen}
use Rattle.its_duties.specs.declared.owed.RelaySeen.TheVariants as relays
use Rattle.its_duties.specs.declared.owed.OwedSearch.{OwedSearch}
use Rattle.its_duties.specs.declared.places.AreaPosition.{AreaPosition}
use Rattle.its_duties.specs.declared.places.AreaPosition.TheVariants.{Inside, Outside, Unsure}
use Rattle.its_duties.specs.declared.verdict.NotOwed.{NotOwed}
use Rattle.its_duties.specs.declared.verdict.NotOwed.TheVariants as reasons
use Rattle.its_duties.specs.declared.verdict.Verdict.{Verdict}
use Rattle.its_duties.specs.declared.verdict.Verdict.TheVariants.{Pass, Fail, Inconclusive}
use Rattle.its_duties.specs.declared.verdict.Breach.TheVariants as breaches
use Rattle.its_duties.specs.declared.verdict.Doubt.TheVariants as doubts
use Rattle.its_duties.specs.Seen.{Seen, is_heard, is_relay, first_sending, last_sending}
use Rattle.its_duties.specs.Times.{Stretch, lies_in, reach, wait, lag, slack, begin_of, end_of}
use Rattle.its_duties.specs.Places.{position_in, is_surely_inside}
use Rattle.its_duties.specs.Heard.{IsCopy, is_heard_from, sources_in, has_room, NoUnread}
use Rattle.its_duties.specs.Heard.{may_be_relay}
use Rattle.its_duties.specs.Forwarding.{is_packet, by_retry}
use Rattle.its_duties.specs.Relays.{is_simple}

-- ---- from when on it is known what the station heard of a source

-- Nothing was heard of the source for as long as a source counts: less than a reach after this
-- stamp. The tap has all of this time, and it ends before a record that is sent first then.
pub record IsQuiet (k : Claims) (tap : List Seen) (source from first : ℕ) : Type 0 where
  pub begins : begin_of tap ≤ from
  pub ends : from + reach k ≤ first
  pub none : (m : ℕ) (s : Seen) → slice_get tap m ≡ Some s → is_heard_from k source s ≡ true
      → lies_in (record { from = from + 1; to = from + reach k - 1 }) s ≡ true → ⊥

-- The station knew no other station at the begin, or nothing was heard of the source.
abbrev pub IsKnownFrom : Claims → List Seen → (source from first : ℕ) → Type 0
IsKnownFrom k tap source from first =
    ((k.fresh ≡ true) × (from ≡ 0)) ⊎ IsQuiet k tap source from first

-- ---- what is owed

-- when a packet was processed that came with this record, and others may have been before it
abbrev pub processed_in : Claims → Seen → Stretch
processed_in k r =
    record { from = first_sending r; to = last_sending r + wait k + 2 * slack k }

-- when the sources were heard that the station may know then
abbrev pub sources_at : Claims → Seen → Stretch
sources_at k r = record {
  from = first_sending r - reach k;
  to = last_sending r + wait k + 2 * slack k;
}

-- another record of the packet's source and number
pub record IsOther (k : Claims) (tap : List Seen) (i source n m : ℕ) (s : Seen) : Type 0 where
  pub at : slice_get tap m ≡ Some s
  pub other : m ≢ i
  pub heard : is_heard k s ≡ true
  pub packet : is_packet source n s ≡ true

-- Record i, a geobroadcast that was heard, is owed: the station accepted it for sure, or a copy of
-- it, inside of its area and with another hop. So it forwards it within the longest wait.
pub record IsOwed (k : Claims) (tap : List Seen) (i : ℕ) (r : Seen) (t : Transmission) (n : ℕ)
    : Type 0 where
  pub at : slice_get tap i ≡ Some r
  pub heard : is_heard k r ≡ true
  pub frame : r.frame ≡ Some t
  pub area : GeoArea
  pub message : Message
  -- a geoanycast inside goes no further
  pub broadcast : t.pdu.body ≡ gbc n area message
  pub sent : k.sent ≡ true
  pub received : k.received ≡ true
  pub delivered : k.delivered ≡ true
  pub unlimited : k.unlimited ≡ true
  pub unbuffered : k.unbuffered ≡ true
  pub simple : k.area ≡ areas.Simple
  pub known_target : r.known_target ≡ true
  pub hops : 2 ≤ t.hops_left
  -- it came after the last call before the begin
  pub late : begin_of tap + 2 * slack k ≤ first_sending r
  pub from : ℕ
  pub known_from : IsKnownFrom k tap t.pdu.vector.address from (first_sending r)
  -- the number is new
  pub new : (m : ℕ) (s : Seen) → IsOther k tap i t.pdu.vector.address n m s
      → lies_in (record { from = from; to = first_sending r - 1 }) s ≡ true → ⊥
  -- each other record of it that may be accepted in its place is a copy with another hop
  pub copies : (m : ℕ) (s : Seen) (u : Transmission) → IsOther k tap i t.pdu.vector.address n m s
      → lies_in (processed_in k r) s ≡ true → s.frame ≡ Some u
      → IsCopy k t.pdu u.pdu × (2 ≤ u.hops_left)
  pub room : has_room k.capacity (sources_in k (sources_at k r) tap) ≡ true
  pub steady : k.steady ≡ true
  pub inside : is_surely_inside k area ≡ true
  pub all_read : NoUnread k tap
      (record { from = from; to = last_sending r + wait k + 2 * slack k })

-- Up to this stamp a frame may come that was made from a packet of record i, or of a copy that came
-- beside it.
abbrev pub IsUntil : Claims → List Seen → (r : Seen) → (source n until : ℕ) → Type 0
IsUntil k tap r source n until =
    (m : ℕ) (s : Seen) → slice_get tap m ≡ Some s → is_heard k s ≡ true
    → is_packet source n s ≡ true → lies_in (processed_in k r) s ≡ true
    → last_sending s + wait k + 2 * slack k ≤ until

-- a record of a frame that the station sent in this time
pub record IsSentThen (k : Claims) (r : Seen) (until : ℕ) (s : Seen) : Type 0 where
  pub after : first_sending r ≤ s.moment + 2 * slack k
  pub before : s.moment ≤ until + by_retry s.retried

-- It is owed, and was not forwarded.
pub record FailsForward (k : Claims) (tap : List Seen) (i : ℕ) : Type 0 where
  pub seen : Seen
  pub frame : Transmission
  pub number : ℕ
  pub owed : IsOwed k tap i seen frame number
  pub until : ℕ
  pub until_is : IsUntil k tap seen frame.pdu.vector.address number until
  -- The tap has each frame that the packet may have caused. On IEEE 802.11 frames may come again.
  pub goes_on : until + lag k + wait k + by_retry seen.wireless ≤ end_of k tap
  pub not_forwarded : (j : ℕ) (s : Seen) → slice_get tap j ≡ Some s → is_relay k s ≡ true
      → is_packet frame.pdu.vector.address number s ≡ true → IsSentThen k seen until s → ⊥
  pub sent_read : (j : ℕ) (s : Seen) → slice_get tap j ≡ Some s → may_be_relay k s ≡ true
      → IsSentThen k seen until s → ⊥

-- ---- the verdict

-- the packet was forwarded, as it was heard or as a copy that came beside it
abbrev pub is_forwarded : RelaySeen → Bool
is_forwarded relays.Forwarded = true
is_forwarded relays.OtherForwarded = false
is_forwarded relays.NotSeen = false

-- another packet of its number was forwarded
abbrev pub is_other_forwarded : RelaySeen → Bool
is_other_forwarded relays.Forwarded = false
is_other_forwarded relays.OtherForwarded = true
is_other_forwarded relays.NotSeen = false

-- a geobroadcast, or a geoanycast
abbrev pub is_broadcast : Kind → Bool
is_broadcast kinds.Beacon = false
is_broadcast kinds.Shb = false
is_broadcast kinds.Gbc = true
is_broadcast kinds.Gac = false

abbrev pub is_inside : AreaPosition → Bool
is_inside Inside = true
is_inside Outside = false
is_inside Unsure = false

-- no reason if it holds
abbrev pub unless : Bool → NotOwed → Option NotOwed
unless holds why = if holds then None else Some why

-- the first of two reasons
abbrev pub or_this : Option NotOwed → Option NotOwed → Option NotOwed
or_this (Some why) other = Some why
or_this None other = other

-- by the claims
abbrev pub claims_reason : Claims → Option NotOwed
claims_reason k =
    or_this (unless k.sent reasons.Sent)
    (or_this (unless k.received reasons.Received)
    (or_this (unless k.delivered reasons.Delivered)
    (or_this (unless k.unlimited reasons.Limited)
    (or_this (unless k.unbuffered reasons.Buffered)
    (unless (is_simple k.area) reasons.OtherForwarding)))))

-- by what was found of the packet
abbrev pub packet_reason : Claims → OwedSearch → Option NotOwed
packet_reason k p =
    or_this (unless p.known_target reasons.NoLinkTarget)
    (or_this (unless (p.late && p.known_from) reasons.KnownBefore)
    (or_this (unless p.copies reasons.OtherPacket)
    (or_this (unless (has_room k.capacity p.sources) reasons.TableFull)
    (unless k.steady reasons.Restarted))))

-- by where the station is, and what the capture has
abbrev pub capture_reason : OwedSearch → (inside : Bool) → Option NotOwed
capture_reason p inside =
    or_this (unless inside reasons.PlaceUnsure)
    (or_this (unless p.goes_on reasons.CaptureEnds)
    (or_this (unless p.all_read reasons.NotRead)
    (unless (not (is_other_forwarded p.relay)) reasons.OtherPacket)))

-- the first reason for which it isn't owed
abbrev pub reason : Claims → OwedSearch → (inside : Bool) → Option NotOwed
reason k p inside =
    or_this (claims_reason k) (or_this (packet_reason k p) (capture_reason p inside))

abbrev pub owed_by : Option NotOwed → Verdict
owed_by None = Fail breaches.NotForwarded
owed_by (Some why) = Inconclusive (doubts.NotOwed why)

-- It may be owed: the number is new, another hop is left, and it is no geoanycast that has come
-- inside.
abbrev pub may_be_owed : OwedSearch → (hops : ℕ) → (broadcast : Bool) → AreaPosition → Bool
may_be_owed p hops broadcast position =
    p.new && nat_le 2 hops && (broadcast || not (is_inside position))

abbrev pub owed_in : Claims → OwedSearch → (hops : ℕ) → (broadcast : Bool) → AreaPosition
    → Option Verdict
owed_in k p hops broadcast position =
    if is_forwarded p.relay then Some Pass
    else if may_be_owed p hops broadcast position
    then Some (owed_by (reason k p (is_inside position)))
    else None

-- other packets have no such verdict
abbrev pub owed_of : Claims → OwedSearch → (hops : ℕ) → (broadcast : Bool) → Option GeoArea
    → Option Verdict
owed_of k p hops broadcast None = None
owed_of k p hops broadcast (Some area) = owed_in k p hops broadcast (position_in k area)

abbrev pub owed_verdict : Claims → OwedSearch → Transmission → Option Verdict
owed_verdict k p t =
    owed_of k p t.hops_left (is_broadcast (kind_of_body t.pdu.body)) (area_in t.pdu.body)

-- This was found of record i, a packet for an area that was heard.
pub record IsFound (k : Claims) (tap : List Seen) (i : ℕ) (r : Seen) (t : Transmission) (n : ℕ)
    (p : OwedSearch) : Type 0 where
  pub at : slice_get tap i ≡ Some r
  pub heard : is_heard k r ≡ true
  pub frame : r.frame ≡ Some t
  pub number : number_in t.pdu.body ≡ Some n
  pub from : ℕ
  pub until : ℕ
  pub is_known_target : p.known_target ≡ true → r.known_target ≡ true
  pub is_late : p.late ≡ true → begin_of tap + 2 * slack k ≤ first_sending r
  pub is_known_from : p.known_from ≡ true
      → IsKnownFrom k tap t.pdu.vector.address from (first_sending r)
  pub is_new : p.new ≡ true → (m : ℕ) (s : Seen) → IsOther k tap i t.pdu.vector.address n m s
      → lies_in (record { from = from; to = first_sending r - 1 }) s ≡ true → ⊥
  pub are_copies : p.copies ≡ true → (m : ℕ) (s : Seen) (u : Transmission)
      → IsOther k tap i t.pdu.vector.address n m s → lies_in (processed_in k r) s ≡ true
      → s.frame ≡ Some u → IsCopy k t.pdu u.pdu × (2 ≤ u.hops_left)
  pub sources_are : sources_in k (sources_at k r) tap ≤ p.sources
  pub until_is : IsUntil k tap r t.pdu.vector.address n until
  pub is_going_on : p.goes_on ≡ true
      → until + lag k + wait k + by_retry r.wireless ≤ end_of k tap
  pub are_read : p.all_read ≡ true
      → NoUnread k tap (record { from = from; to = last_sending r + wait k + 2 * slack k })
  pub sent_read : p.all_read ≡ true → (j : ℕ) (s : Seen) → slice_get tap j ≡ Some s
      → may_be_relay k s ≡ true → IsSentThen k r until s → ⊥
  pub not_seen : p.relay ≡ relays.NotSeen → (j : ℕ) (s : Seen) → slice_get tap j ≡ Some s
      → is_relay k s ≡ true → is_packet t.pdu.vector.address n s ≡ true → IsSentThen k r until s
      → ⊥
