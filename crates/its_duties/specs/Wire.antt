-- A capture of a wire: all is claimed, each record is read, and what belongs together is known by
-- its time.
use Rattle.std.specs.Prelude.{◌≡◌, ◌≢◌, ◌⊎◌, ℕ, ◌+◌, ◌*◌, ◌≤◌, ◌<◌, true, false, List, [], Some}
use Rattle.std.specs.Prelude.{slice_get, ◌-◌}
use Rattle.its_geometry.specs.Area.{GeoArea}
use Rattle.its_headers.specs.Fields.{area_in}
use Rattle.its_model.specs.Packet.{Transmission, number_in}
use Rattle.its_model.specs.Stations.{is_full, stations_at}
use Rattle.its_model.specs.Station.{StationModel, last_moment}
use Rattle.its_duties.specs.declared.claims.Claims.{Claims}
use Rattle.its_duties.specs.declared.claims.AreaForwarding.TheVariants as areas
use Rattle.its_duties.specs.declared.duty.Duty.{Duty}
use Rattle.its_duties.specs.Seen.{Seen, IsUnread, is_heard, is_relay, first_sending}
use Rattle.its_duties.specs.Times.{Stretch, wait, lag, slack, life, lies_in, begin_of, end_of}
use Rattle.its_duties.specs.Places.{IsAllowed, is_surely_inside}
use Rattle.its_duties.specs.Heard.{has_room, sources_in, may_be_relay}
use Rattle.its_duties.specs.Duties.{IsRelayRecord}
use Rattle.its_duties.specs.Forwarding.{is_packet, others_in, counted_in}
use Rattle.its_duties.specs.Owed.{IsKnownFrom, IsOther}
use Rattle.its_duties.specs.Fails.{FailOf}

-- a packet that was heard, and a frame that the station sent so near that this may have caused it
pub record IsPair (k : Claims) (r s : Seen) : Type 0 where
  pub heard : is_heard k r ≡ true
  pub relay : is_relay k s ≡ true
  pub after : r.moment ≤ s.moment + 2 * slack k
  pub soon : s.moment ≤ r.moment + wait k + 2 * slack k

-- the link sends no frame again, and its target is known
pub record IsPlain (r : Seen) : Type 0 where
  pub repeats : r.repeats ≡ []
  pub first : r.retried ≡ false
  pub wired : r.wireless ≡ false
  pub known_target : r.known_target ≡ true

pub record IsWire (k : Claims) (tap : List Seen) : Type 0 where
  pub sent : k.sent ≡ true
  pub received : k.received ≡ true
  pub delivered : k.delivered ≡ true
  pub fresh : k.fresh ≡ true
  pub unlimited : k.unlimited ≡ true
  pub unbuffered : k.unbuffered ≡ true
  pub steady : k.steady ≡ true
  pub simple : k.area ≡ areas.Simple
  pub queue : lag k ≤ wait k
  pub plain : (i : ℕ) (r : Seen) → slice_get tap i ≡ Some r → IsPlain r
  pub read : (i : ℕ) (r : Seen) → slice_get tap i ≡ Some r → IsUnread k r → ⊥
  pub sent_read : (i : ℕ) (r : Seen) → slice_get tap i ≡ Some r → may_be_relay k r ≡ true → ⊥
  pub room : (stretch : Stretch) → has_room k.capacity (sources_in k stretch tap) ≡ true
  -- the station is inside of each area
  pub inside : (i : ℕ) (r : Seen) (t : Transmission) (area : GeoArea) → slice_get tap i ≡ Some r
      → r.frame ≡ Some t → area_in t.pdu.body ≡ Some area → is_surely_inside k area ≡ true
  pub begins : (i : ℕ) (r : Seen) → slice_get tap i ≡ Some r → is_heard k r ≡ true
      → begin_of tap + 2 * wait k + 4 * slack k ≤ r.moment
  pub goes_on : (i : ℕ) (r : Seen) → slice_get tap i ≡ Some r → is_heard k r ≡ true
      → r.moment + 3 * wait k + 4 * slack k ≤ end_of k tap
  -- two records are far from each other, but for a packet that was heard and what it may have caused
  pub apart : (i m : ℕ) (r s : Seen) → slice_get tap i ≡ Some r → slice_get tap m ≡ Some s → i ≢ m
      → IsPair k r s ⊎ IsPair k s r ⊎ (r.moment + 2 * wait k + 4 * slack k < s.moment)
      ⊎ (s.moment + 2 * wait k + 4 * slack k < r.moment)

-- record i, a packet for an area that was heard
pub record IsMet (k : Claims) (tap : List Seen) (i : ℕ) (r : Seen) (t : Transmission) (n : ℕ)
    : Type 0 where
  pub at : slice_get tap i ≡ Some r
  pub heard : is_heard k r ≡ true
  pub frame : r.frame ≡ Some t
  pub number : number_in t.pdu.body ≡ Some n

-- its number is new
pub record IsNew (k : Claims) (tap : List Seen) (i : ℕ) (r : Seen) (t : Transmission) (n : ℕ)
    : Type 0 where
  pub from : ℕ
  pub known_from : IsKnownFrom k tap t.pdu.vector.address from (first_sending r)
  pub new : (m : ℕ) (s : Seen) → IsOther k tap i t.pdu.vector.address n m s
      → lies_in (record { from = from; to = first_sending r - 1 }) s ≡ true → ⊥

-- a station as the claims say that has room for the source
pub record IsReady (k : Claims) (s : StationModel) (source moment : ℕ) : Type 0 where
  pub address : s.address ≡ k.address
  pub place : IsAllowed k s.vector.place
  pub clock : s.clock ≤ moment
  pub in_range : moment ≤ last_moment
  pub room : is_full s.capacity source (stations_at s.remember moment s.history) ≡ false

-- Record m was forwarded before, with this source and number, so near that the station remembers
-- the number at record j: fewer others of the source were heard than it remembers.
pub record IsRemembered (k : Claims) (tap : List Seen) (j source n : ℕ) (s : Seen) : Type 0 where
  pub m : ℕ
  pub before : Seen
  pub packet : Transmission
  pub is : IsRelayRecord k tap m before packet
  pub source_is : packet.pdu.vector.address ≡ source
  pub number_is : number_in packet.pdu.body ≡ Some n
  pub earlier : (before.moment ≤ s.moment) × (m < j)
  pub begins : begin_of tap + 2 * wait k + 2 * slack k ≤ before.moment
  pub near : s.moment + wait k + 2 * slack k < before.moment + life k
  pub few : others_in k source n (counted_in k before.moment s.moment) tap < k.remember

-- no duty fails on a record
abbrev pub NoneFails : Claims → List Seen → ℕ → Type 0
NoneFails k tap j = (d : Duty) → FailOf d k tap j → ⊥
