-- What can be read off a log. All logs have the newest line first, so what stands behind a line
-- came before it, and how many lines stand behind it is its place.
use Rattle.std.specs.Prelude.{◌≡◌, ◌⊎◌, ℕ, ◌+◌, ◌≤◌, List, [], ◌∷◌, length, filter, Bool, true}
use Rattle.std.specs.Prelude.{false, not, ◌&&◌, Option, Some, None, if◌then◌else◌, ◌==◌, slice_get}
use Rattle.std.specs.List.{list_any}
use Rattle.its_gnvalue.specs.Values.{Position}
use Rattle.its_model.specs.Packet.{Transmission}
use Rattle.its_model.specs.History.{Reception, entry_life, of_source, numbers_of}
use Rattle.its_model.specs.Calls.{Answer}
use Rattle.its_model.specs.Calls.OwnCall.{Move, SendGbc, SendGac, Restart}
use Rattle.its_model.specs.Calls.Answer.{Moved, Restarted, Sent, Accepted}
use Rattle.its_model.specs.Station.{reception, number_after}
use Rattle.its_model.specs.World.{What, Event, LogLine, frame_of, with_one_more}
use Rattle.its_model.specs.World.What.{Calls, Deliver}

-- ---- how a frame came about

-- where the packet of a frame comes from
pub record Origin : Type 0 where
  pub event : Event  -- the call by which a station sent the packet
  pub before : List LogLine  -- what had happened before that call
  pub depth : ℕ  -- how often the packet was relayed since

-- the place of that call in the log
abbrev pub place_of : Origin → ℕ
place_of o = length o.before

-- the origin of a frame that was relayed once more
abbrev pub deeper : Option Origin → Option Origin
deeper None = None
deeper (Some o) = Some (record { event = o.event; before = o.before; depth = o.depth + 1 })

-- of a frame that an event gave: a call is its own origin, and a relayed frame has that of the
-- frame that was delivered
abbrev pub origin_by : What → Event → List LogLine → List Origin → Option Origin
origin_by (Calls call) e before earlier = Some (record { event = e; before = before; depth = 0 })
origin_by (Deliver k) e before earlier = deeper (slice_get earlier k)

-- the origins of the frames so far, and that of the frame that a line gives, if it gives one
abbrev pub with_origin : Option ℕ → Event → List LogLine → List Origin → List Origin
with_origin None e before earlier = earlier
with_origin (Some k) e before earlier = with_one_more earlier (origin_by e.what e before earlier)

-- the origin of each frame, at its number
unfoldable pub origins : List LogLine → List Origin
origins [] = []
origins (line ∷ before) = with_origin (frame_of line.entry) line.event before (origins before)

-- ---- where a station stands, and the number of its next packet for an area

-- by a move that wasn't refused to another place
abbrev pub moved_by : Answer ℕ → What → Position → Position
moved_by Moved (Calls (Move place accurate speed heading)) old = place
moved_by entry what old = old

-- the place of station j after one more line
abbrev pub position_after : ℕ → LogLine → Position → Position
position_after j line old =
    if line.event.station == j then moved_by line.entry line.event.what old else old

-- where station j stands after these lines: where its last move took it that wasn't refused, else
-- where it began
abbrev pub position_at : Position → ℕ → List LogLine → Position
position_at start j [] = start
position_at start j (line ∷ before) = position_after j line (position_at start j before)

-- by a restart that wasn't refused to the number that it names, and by a geobroadcast or geoanycast
-- that was sent to the number after
abbrev pub renumbered_by : Answer ℕ → What → ℕ → ℕ
renumbered_by Restarted (Calls (Restart number)) old = number
renumbered_by (Sent k) (Calls (SendGbc request)) old = number_after old
renumbered_by (Sent k) (Calls (SendGac request)) old = number_after old
renumbered_by entry what old = old

-- the next number of station j after one more line
abbrev pub next_number_after : ℕ → LogLine → ℕ → ℕ
next_number_after j line old =
    if line.event.station == j then renumbered_by line.entry line.event.what old else old

-- The next number of station j after these lines: from its last restart on, or from 0, it counts
-- what it sent to areas, modulo 65536 (profile).
abbrev pub sequence_number_at : ℕ → List LogLine → ℕ
sequence_number_at j [] = 0
sequence_number_at j (line ∷ before) = next_number_after j line (sequence_number_at j before)

-- ---- what a station accepted, and whether it forgot it

-- a packet that was accepted is put before the older ones, and a restart leaves none
abbrev pub heard_in : Answer ℕ → Option Transmission → ℕ → List Reception → List Reception
heard_in (Accepted handed relayed) (Some t) moment older = reception moment t ∷ older
heard_in Restarted delivered moment older = []
heard_in entry delivered moment older = older

-- what station j accepted, after one more line
abbrev pub heard_at : ℕ → LogLine → List Reception → List Reception
heard_at j line older = if line.event.station == j
    then heard_in line.entry line.delivered line.event.moment older else older

-- the packets that station j accepted by these lines since its last restart among them, the newest
-- first
abbrev pub receptions_at : ℕ → List LogLine → List Reception
receptions_at j [] = []
receptions_at j (line ∷ before) = heard_at j line (receptions_at j before)

-- Of a first moment, those of receptions after it, and a last one, two that follow each other are
-- an entry's life or more apart.
abbrev pub IsBroken : ℕ → List Reception → ℕ → Type 0
IsBroken last [] first = first + entry_life ≤ last
IsBroken last (r ∷ older) first = (r.moment + entry_life ≤ last) ⊎ IsBroken r.moment older first

-- each number once
abbrev pub distinct : List ℕ → List ℕ
distinct [] = []
distinct (n ∷ ns) = n ∷ filter (λ m. not (m == n)) (distinct ns)

-- Among the numbers of these, at least so many differ from this one and from each other.
abbrev pub HasOthers : ℕ → ℕ → List Reception → Type 0
HasOthers count number receptions =
    count ≤ length (filter (λ n. not (n == number)) (distinct (numbers_of receptions)))

-- a restart that wasn't refused
abbrev pub is_restart : Answer ℕ → Bool
is_restart Restarted = true
is_restart entry = false

-- one of station j
abbrev pub is_restart_of : ℕ → LogLine → Bool
is_restart_of j line = (line.event.station == j) && is_restart line.entry

-- station j restarted by one of these lines
abbrev pub has_restarted : ℕ → List LogLine → Bool
has_restarted j log = list_any (is_restart_of j) log

-- The first line, at which station j accepted a packet of this source with this number, and what it
-- accepted of the source since: until the later line the source's session broke, or as many others
-- came as are remembered.
abbrev pub IsOutlived : ℕ → ℕ → ℕ → ℕ → LogLine → List LogLine → LogLine → Type 0
IsOutlived remember j source number first between later =
    let receptions = of_source source (receptions_at j between) in
    IsBroken later.event.moment receptions first.event.moment ⊎ HasOthers remember number receptions

-- Station j, which remembers so many numbers of a source, accepted a packet of this source with
-- this number by the first line. By the later line it has forgotten it: between them it restarted,
-- or the source's session broke, or as many others of the source were accepted as are remembered.
abbrev pub Forgotten : ℕ → ℕ → ℕ → ℕ → LogLine → List LogLine → LogLine → Type 0
Forgotten remember j source number first between later =
    (has_restarted j between ≡ true) ⊎ IsOutlived remember j source number first between later
