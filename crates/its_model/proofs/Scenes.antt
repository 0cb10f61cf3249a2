-- Small worlds for the rows: three stations, a geobroadcast, and events.
use Rattle.std.proofs.Common.{◌≡◌, ℕ, ◌+◌, ◌*◌, List, [], ◌∷◌, map, Bool}
use Rattle.std.specs.Prelude.{ℤ, pos, ◌^◌}
use Rattle.its_gnvalue.specs.Values.{Position}
use Rattle.its_geometry.specs.Area.{GeoArea}
use Rattle.its_geometry.specs.declared.area.Shape.TheVariants.{Circle}
use Rattle.its_model.specs.Packet.{Message}
use Rattle.its_model.specs.Calls.{GbcRequest, Answer}
use Rattle.its_model.specs.Calls.OwnCall.{Open, Move, Tick, SendGbc, SendGac, Restart}
use Rattle.its_model.specs.World.{What, Event, WorldModel, Config, default_remember, opening}
use Rattle.its_model.specs.World.{world_run, entries}
use Rattle.its_model.specs.World.What.{Calls}

-- in tenths of a microdegree
abbrev pub place : ℤ → ℤ → Position
place latitude longitude = record { latitude = latitude; longitude = longitude }

-- the MACs 020000000001, 020000000002 and 020000000003, and the addresses 1400 before them
abbrev pub mac : ℕ → ℕ
mac n = 2 * 2 ^ 40 + n

-- the address of a number
abbrev pub address : ℕ → ℕ
address n = 5120 * 2 ^ 48 + mac n

-- a config
abbrev pub station : ℕ → Position → ℕ → Config
station n where_it_is capacity =
    record {
      address = address n;
      place = where_it_is;
      capacity = capacity;
      remember = default_remember;
    }

-- the place (0, 0)
abbrev pub here : Position
here = place (pos 0) (pos 0)

-- at (0, 0), at (449, 0) and at (0, 449)
abbrev pub three : List Config
three = station 1 here 64 ∷ station 2 (place (pos 449) (pos 0)) 64
    ∷ station 3 (place (pos 0) (pos 449)) 64 ∷ []

-- the same with the second one far away
abbrev pub second_far : List Config
second_far =
    station 1 here 64 ∷ station 2 (place (pos 100000) (pos 0)) 64
    ∷ station 3 (place (pos 0) (pos 449)) 64 ∷ []

-- hi, to port 2002
abbrev pub hi : Message
hi = record { port = 2002; info = 0; payload = 104 ∷ 105 ∷ [] }

-- round a centre, in metres
abbrev pub circle : Position → ℕ → GeoArea
circle centre radius = record { shape = Circle; centre = centre; a = radius; b = 0; angle = 0 }

-- a geobroadcast of hi to 100 m round (0, 0), over ten hops
abbrev pub request : GbcRequest
request = record { class = 0; lifetime = 26; max_hops = 10; area = circle here 100; message = hi }

-- the same over so many hops
abbrev pub gbc_with_hops : ℕ → What
gbc_with_hops hops = Calls (SendGbc (record request { max_hops = hops }))

-- a call for it
abbrev pub gbc_hi : What
gbc_hi = Calls (SendGbc request)

-- a geoanycast of the same
abbrev pub gac_hi : What
gac_hi = Calls (SendGac request)

-- a restart, from this number on
abbrev pub restart : ℕ → What
restart number = Calls (Restart number)

-- a call to open its port
abbrev pub open_port : What
open_port = Calls (Open 2002)

-- a call for a beacon, if one is due
abbrev pub tick : What
tick = Calls (Tick 0)

-- a call to move
abbrev pub move : Position → Bool → What
move where_to accurate = Calls (Move where_to accurate (pos 0) 0)

-- an event
abbrev pub by : ℕ → ℕ → What → Event
by station moment what = record { station = station; moment = moment; what = what }

-- the world after these events
abbrev pub after : List Config → List Event → WorldModel
after configs events = world_run (opening configs) events

-- an event, and the entry that it has
abbrev pub at : ℕ → ℕ → What → Answer ℕ → Event × Answer ℕ
at station moment what entry = (by station moment what, entry)

-- from the opening world on, these events have these entries
abbrev pub Happens : List Config → List (Event × Answer ℕ) → Type 0
Happens configs lines =
    entries (after configs (map (λ line. line.0) lines)).log ≡ map (λ line. line.1) lines

-- to whom each frame goes
abbrev pub targets : WorldModel → List ℕ
targets w = map (λ t. t.link_target) w.air
