-- What the station under test sent, compared with what the written rules send.
use Rattle.std.specs.Prelude.{◌≡◌, ◌≢◌, ◌&&◌, ◌++◌, ◌∷◌, [], ℕ, ◌+◌, ◌^◌, nat_le, nat_lt, Bool}
use Rattle.std.specs.Prelude.{if◌then◌else◌, List, length, take, drop, position, remove, slice_get}
use Rattle.std.specs.Prelude.{Option, Some, None}
use Rattle.cap_records.specs.SignedFrames.{begins_secured}
use Rattle.its_linkframe.specs.Copies.{octets_from, same_octets}
use Rattle.cmd_stats.specs.declared.replay.awaited.Awaited.{Awaited}
use Rattle.cmd_stats.specs.declared.replay.comparison.Compared.{Compared}
use Rattle.cmd_stats.specs.declared.replay.comparison.Compared.TheVariants as results

-- ---- two frames

-- they are equal in all octets but those of the link source
abbrev pub is_same : List ℕ → List ℕ → Bool
is_same owed w =
    nat_le 12 (length owed) && nat_le 12 (length w) && same_octets (take 6 owed) (take 6 w)
    && same_octets (drop 12 owed) (drop 12 w)

-- they have the same sequence number and source, where an unsecured packet for an area has them
abbrev pub has_same_number : List ℕ → List ℕ → Bool
has_same_number owed w =
    same_octets (octets_from 26 2 owed) (octets_from 26 2 w)
    && same_octets (octets_from 30 8 owed) (octets_from 30 8 w)

-- They are of one packet for an area: of the same type, and with the same number and source. A
-- secured one has the same message.
abbrev pub is_of_packet : List ℕ → List ℕ → Bool
is_of_packet owed w =
    nat_le 38 (length owed) && nat_le 38 (length w)
    && same_octets (octets_from 12 2 owed) (octets_from 12 2 w)
    && (if begins_secured owed then same_octets (drop 18 owed) (drop 18 w)
    else has_same_number owed w)

-- ---- the frames that wait

-- how many frames wait at most
abbrev pub most_awaited : ℕ
most_awaited = 1024

-- where the first is that equals what was sent
abbrev pub same_place : List ℕ → List Awaited → Option ℕ
same_place w awaited = position (λ a. is_same a.octets.items w) awaited

-- where the first is that is of the packet that was sent
abbrev pub packet_place : List ℕ → List Awaited → Option ℕ
packet_place w awaited = position (λ a. is_of_packet a.octets.items w) awaited

-- where the first is whose time is over
abbrev pub missed_place : ℕ → List Awaited → Option ℕ
missed_place now awaited = position (λ a. nat_lt a.due now) awaited

-- where the one is that makes room for another, if too many wait
abbrev pub crowded_place : List Awaited → Option ℕ
crowded_place awaited = if nat_lt (length awaited) most_awaited then None else Some 0

-- the frame at a place was taken, and the others wait on
abbrev pub IsTaken : List Awaited → ℕ → Awaited → List Awaited → Type 0
IsTaken awaited place frame rest =
    (slice_get awaited place ≡ Some frame) × (rest ≡ remove awaited place)

-- so if there is a place
abbrev pub IsTakenAt : List Awaited → Option ℕ → Option Awaited → List Awaited → Type 0
IsTakenAt awaited None None rest = rest ≡ awaited
IsTakenAt awaited None (Some frame) rest = ⊥
IsTakenAt awaited (Some place) None rest = ⊥
IsTakenAt awaited (Some place) (Some frame) rest = IsTaken awaited place frame rest

-- ---- what was sent

-- What was sent answers none that waits.
abbrev pub AnswersNone : List ℕ → List Awaited → Type 0
AnswersNone w awaited = (same_place w awaited ≡ None) × (packet_place w awaited ≡ None)

-- What is said of what the station under test, of this address, sent: these octets, of a packet of
-- this source, if they are read. It answers the first frame that waits and equals it, otherwise the
-- first of its packet. That one waits no longer.
abbrev pub IsCompared : ℕ → List Awaited → List ℕ → Option ℕ → Compared → List Awaited → Type 0
IsCompared address awaited w source (results.Same frame) rest =
    (place : ℕ) × (same_place w awaited ≡ Some place) × IsTaken awaited place frame rest
IsCompared address awaited w source (results.Other frame) rest =
    (same_place w awaited ≡ None)
    × ((place : ℕ) × (packet_place w awaited ≡ Some place) × IsTaken awaited place frame rest)
IsCompared address awaited w source results.Own rest =
    AnswersNone w awaited × (source ≡ Some address) × (rest ≡ awaited)
IsCompared address awaited w source results.Extra rest =
    AnswersNone w awaited × ((other : ℕ) × (source ≡ Some other) × (other ≢ address))
    × (rest ≡ awaited)
IsCompared address awaited w source results.Unread rest =
    AnswersNone w awaited × (source ≡ None) × (rest ≡ awaited)

-- ---- words of private functions

-- what is said of a frame that answers none
abbrev pub IsUnasked : ℕ → Option ℕ → Compared → Type 0
IsUnasked address source (results.Same frame) = ⊥
IsUnasked address source (results.Other frame) = ⊥
IsUnasked address source results.Own = source ≡ Some address
IsUnasked address source results.Extra = (other : ℕ) × (source ≡ Some other) × (other ≢ address)
IsUnasked address source results.Unread = source ≡ None
