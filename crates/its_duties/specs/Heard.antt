-- What the station may have heard of a source: copies of a packet, how many sources, and whether
-- another record may be missing.
use Rattle.std.specs.Prelude.{◌≡◌, ◌⊎◌, ℕ, ◌+◌, ◌<◌, Bool, true, false, not, ◌&&◌, ◌||◌}
use Rattle.std.specs.Prelude.{nat_le, List, [], ◌∷◌, filter}
use Rattle.std.specs.Prelude.{length, Option, Some, None, slice_get, is_none}
use Rattle.its_gnvalue.specs.Values.{lifetime_millis}
use Rattle.its_model.specs.Packet.{Pdu, Transmission, number_in}
use Rattle.its_model.specs.Log.{distinct}
use Rattle.its_duties.specs.declared.claims.Claims.{Claims}
use Rattle.its_duties.specs.Seen.{Seen, is_of, is_heard, is_unread_sent, is_number, named_source}
use Rattle.its_duties.specs.Seen.{has_no_type, IsUnread}
use Rattle.its_duties.specs.Times.{Stretch, lies_in}

-- ---- copies of a packet

-- A copy: the same packet, though with another number of hops left. A station that keeps packets
-- may also have shortened the lifetime of the later one.
abbrev pub IsCopy : Claims → (earlier later : Pdu) → Type 0
IsCopy k earlier later =
    (earlier ≡ later)
    ⊎ ((k.unbuffered ≡ false) × (earlier ≡ record later { lifetime = earlier.lifetime })
    × (lifetime_millis later.lifetime < lifetime_millis earlier.lifetime))

-- the packet of a frame has this number
abbrev pub has_number : ℕ → Option Transmission → Bool
has_number n None = false
has_number n (Some t) = is_number n (number_in t.pdu.body)

-- ---- the records of a source

abbrev pub is_heard_from : Claims → ℕ → Seen → Bool
is_heard_from k source r = is_heard k r && is_of source r.frame

-- ---- how many sources

-- the sources of these
abbrev pub source_before : Option Transmission → List ℕ → List ℕ
source_before None sources = sources
source_before (Some t) sources = t.pdu.vector.address ∷ sources

abbrev pub sources_of : List Seen → List ℕ
sources_of [] = []
sources_of (r ∷ tap) = source_before r.frame (sources_of tap)

-- of how many sources a record was heard in a stretch
abbrev pub sources_in : Claims → Stretch → List Seen → ℕ
sources_in k stretch tap =
    length (distinct (sources_of (filter (λ r. is_heard k r && lies_in stretch r) tap)))

-- the table has room for them for sure
abbrev pub has_room : Option ℕ → ℕ → Bool
has_room None sources = false
has_room (Some capacity) sources = nat_le sources capacity

-- ---- records that aren't read

-- none that the station may have processed lies in the stretch
abbrev pub NoUnread : Claims → List Seen → Stretch → Type 0
NoUnread k tap stretch =
    (i : ℕ) (r : Seen) → slice_get tap i ≡ Some r → IsUnread k r → lies_in stretch r ≡ true → ⊥

-- the station may have sent it, and it isn't read
abbrev pub is_unread_of_it : Claims → Seen → Bool
is_unread_of_it k r = is_unread_sent k r || has_no_type r

-- It may be a packet of another source: it names one, or none.
abbrev pub may_be_relay : Claims → Seen → Bool
may_be_relay k r =
    is_unread_of_it k r && not (is_number k.address (named_source r.octets))

-- It may be an own packet.
abbrev pub may_be_own : Claims → Seen → Bool
may_be_own k r =
    is_unread_of_it k r
    && (is_number k.address (named_source r.octets) || is_none (named_source r.octets))

-- no such record lies in the stretch
abbrev pub NoneSent : (Seen → Bool) → List Seen → Stretch → Type 0
NoneSent test tap stretch =
    (i : ℕ) (r : Seen) → slice_get tap i ≡ Some r → test r ≡ true → lies_in stretch r ≡ true → ⊥
