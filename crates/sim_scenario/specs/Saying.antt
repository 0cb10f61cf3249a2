-- What the tables of a scenario say of its stations and its events.
use Rattle.std.specs.Prelude.{◌≡◌, ℕ, Bool, true, false, not, List, length, string_bytes}
use Rattle.std.specs.Prelude.{Option, Some, None}
use Rattle.std.specs.Int.{w64, from_be_bytes}
use Rattle.its_words.specs.Fields.{FieldValues, AreOctets, IsMissing, IsNumber}
use Rattle.its_words.specs.Fields.{IsNumberOr, IsPlace, IsText, IsTruth, IsTruthOr}
use Rattle.its_gnvalue.specs.Values.{Position}
use Rattle.its_words.specs.Keys.{word_of}
use Rattle.its_words.specs.Verbs.{verb_word}
use Rattle.its_words.specs.declared.keys.key.Key.TheVariants as keys
use Rattle.its_words.specs.declared.keys.verb.Verb.TheVariants as verbs
use Rattle.sim_scenario.specs.Airs.{moment_of}
use Rattle.sim_scenario.specs.Events.{station_in}
use Rattle.sim_scenario.specs.Actions.{what_at, what_in}
use Rattle.its_words.specs.Reading.{SaysWhat, shape_word}
use Rattle.sim_scenario.specs.declared.events.action.Action.{Action}
use Rattle.sim_scenario.specs.declared.events.action.Action.TheVariants as actions
use Rattle.sim_scenario.specs.declared.events.around.AroundRequest.{AroundRequest}
use Rattle.sim_scenario.specs.declared.events.event.AddressedEvent.{AddressedEvent}
use Rattle.sim_scenario.specs.declared.events.event.Addressee.{Addressee}
use Rattle.sim_scenario.specs.declared.events.event.Addressee.TheVariants as addressees
use Rattle.sim_scenario.specs.declared.events.event.FileEvent.{FileEvent}
use Rattle.sim_scenario.specs.declared.events.event.StationEvent.{StationEvent}
use Rattle.its_world.specs.Events.{what_of}
use Rattle.its_world.specs.declared.config.Config.{Config}
use Rattle.its_world.specs.declared.event.Event.{Event}

-- the digits under `address` are those of the address' 8 octets, the highest first
abbrev pub IsAddress : FieldValues → ℕ → Type 0
IsAddress values address =
    (octets : List ℕ) × AreOctets values keys.Address octets × (length octets ≡ 8)
    × (address ≡ from_be_bytes w64 octets)

-- the keys say how a station begins: where nothing is said, there is room for 64 sources, and 8
-- numbers of each are remembered
abbrev pub SaysStation : FieldValues → Config → Type 0
SaysStation values config =
    IsAddress values config.address
    × IsPlace values keys.Lat keys.Lon config.place
    × IsNumberOr values keys.Capacity 64 config.capacity
    × IsNumberOr values keys.Remember 8 config.remember

-- whether a station is present at the start: it is, where nothing is said
abbrev pub SaysPresent : FieldValues → Bool → Type 0
SaysPresent values present = IsTruthOr values keys.Absent false (not present)

-- whether a station contends, where its keys say so; else nothing stands there
abbrev pub SaysContends : FieldValues → Option Bool → Type 0
SaysContends values None = IsMissing values keys.Contention
SaysContends values (Some contends) =
    (values.has (word_of keys.Contention) ≡ true) × IsTruth values keys.Contention contends

-- the keys say this event of a scenario without an air
abbrev pub SaysEvent : FieldValues → Event → Type 0
SaysEvent values event =
    IsNumber values keys.Station event.station
    × IsNumber values keys.At event.moment
    × SaysWhat values (what_of event.what)

-- The keys beside those of the station and the moment say a request for an area around the station:
-- both coordinates of its centre are left out.
abbrev pub SaysAround : FieldValues → AroundRequest → Type 0
SaysAround values request =
    IsMissing values keys.Alat
    × IsMissing values keys.Alon
    × IsNumber values keys.Tc request.class
    × IsNumber values keys.Lt request.lifetime
    × IsNumber values keys.Hops request.max_hops
    × IsText values keys.Shape (shape_word request.shape)
    × IsNumber values keys.A request.a
    × IsNumber values keys.B request.b
    × IsNumber values keys.Angle request.angle
    × IsNumber values keys.Port request.port
    × IsNumber values keys.Info request.info
    × AreOctets values keys.Payload request.payload.items

-- the same keys say that this is done
abbrev pub SaysAction : FieldValues → Action → Type 0
SaysAction values (actions.Happens what) = SaysWhat values (what_of what)
SaysAction values (actions.GeobroadcastAround request) =
    IsText values keys.Do (verb_word verbs.Gbc) × SaysAround values request
SaysAction values (actions.GeoanycastAround request) =
    IsText values keys.Do (verb_word verbs.Gac) × SaysAround values request
SaysAction values actions.Leaves = IsText values keys.Do (verb_word verbs.Leave)

-- the keys say this event or leave of a station
abbrev pub SaysStationEvent : FieldValues → StationEvent → Type 0
SaysStationEvent values event =
    IsNumber values keys.Station event.station
    × IsNumber values keys.At event.moment
    × SaysAction values event.action

-- the keys say what waits in an air; an area around its station lies around some place
abbrev pub SaysFileEvent : FieldValues → FileEvent → Type 0
SaysFileEvent values waiting =
    (action : Action) × (place : Position)
    × IsNumber values keys.Station (station_in waiting)
    × IsNumber values keys.At (moment_of waiting)
    × SaysAction values action
    × (what_in waiting ≡ what_at action place)

-- this id stands under `id`; or nothing does, and the number of the station stands under `station`
abbrev pub SaysAddressee : FieldValues → Addressee → Type 0
SaysAddressee values (addressees.Vehicle id) = IsText values keys.Id (string_bytes id)
SaysAddressee values (addressees.Station station) =
    IsMissing values keys.Id × IsNumber values keys.Station station

-- the keys say this line of the events of a scenario that is run with moves
abbrev pub SaysAddressed : FieldValues → AddressedEvent → Type 0
SaysAddressed values addressed =
    SaysAddressee values addressed.addressee
    × IsNumber values keys.At addressed.moment
    × SaysAction values addressed.action
