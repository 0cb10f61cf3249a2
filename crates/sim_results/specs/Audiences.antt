-- The stations that packets for an area are for, and how far these came there.
use Rattle.std.specs.Prelude.{ℕ, List, map, Bool, true, false, not, ◌&&◌, nat_le, Option, Some, None}
use Rattle.std.specs.List.{filter}
use Rattle.its_world.specs.Entries.{Entry}
use Rattle.its_station.specs.declared.answer.Answer.TheVariants as entries
use Rattle.its_station.specs.declared.call.OwnCall.TheVariants as own_calls
use Rattle.its_world.specs.declared.event.What.{What}
use Rattle.its_world.specs.declared.event.What.TheVariants as whats
use Rattle.sim_results.specs.declared.audience.IntendedStation.{IntendedStation}
use Rattle.sim_results.specs.declared.reach.Reach.{Reach}
use Rattle.sim_results.specs.declared.reach.Reach.TheVariants as reaches

-- it was delivered to its port
abbrev pub is_delivered : Reach → Bool
is_delivered reaches.Delivered = true
is_delivered reach = false

-- how far it came at the end of the run: where no frame of it came and the run did not make all of
-- its deliveries, it was cut off
abbrev pub at_end : Bool → Reach → Reach
at_end true reaches.Unheard = reaches.Cut
at_end is_cut reach = reach

-- the packet was delivered there: where a limit is given, at most so many milliseconds after it was
-- sent
abbrev pub was_reached : Option ℕ → IntendedStation → Bool
was_reached None target = is_delivered target.reach
was_reached (Some limit) target = is_delivered target.reach && nat_le target.after limit

-- the number of a station, and how far the packet came there
abbrev pub told : IntendedStation → ℕ × Reach
told target = (target.station, target.reach)

-- those to which it wasn't delivered, in order
abbrev pub missed_of : List IntendedStation → List (ℕ × Reach)
missed_of targets = map told (filter (λ target. not (was_reached None target)) targets)

-- a frame was given
abbrev pub is_sent : Entry → Bool
is_sent (entries.Sent frame) = true
is_sent entry = false

-- a packet for an area was sent
abbrev pub is_for_area : What → Entry → Bool
is_for_area (whats.Call (own_calls.SendGeobroadcast request)) entry = is_sent entry
is_for_area (whats.Call (own_calls.SendGeoanycast request)) entry = is_sent entry
is_for_area what entry = false
