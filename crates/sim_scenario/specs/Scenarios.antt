-- Which scenario a document is.
use Rattle.std.specs.Prelude.{◌≡◌, ℕ, Bool, true, false, List, [], Option, Some, None, cond}
use Rattle.std.specs.Prelude.{◌||◌, String, is_some}
use Rattle.std.specs.Option.{option_map}
use Rattle.std.specs.List.{list_any}
use Rattle.std.specs.declared.alloc.Global.{Global}
use Rattle.its_words.specs.Fields.{FieldValues, IsTruthOr}
use Rattle.its_words.specs.Keys.{word_of}
use Rattle.sim_settings.specs.Settings.{set_values}
use Rattle.sim_settings.specs.Tables.{table_values}
use Rattle.its_words.specs.declared.keys.key.Key.TheVariants as keys
use Rattle.sim_settings.specs.declared.air_settings.AirSettings.{AirSettings}
use Rattle.sim_settings.specs.declared.air_settings.SetAir.{SetAir}
use Rattle.its_world.specs.declared.event.Event.{Event}
use Rattle.sim_settings.specs.Items.{SayItems, items_if, items_under, members_if}
use Rattle.sim_settings.specs.Moves.{SaysMoves}
use Rattle.sim_scenario.specs.Saying.{SaysAddressed, SaysEvent, SaysFileEvent}
use Rattle.sim_scenario.specs.Saying.{SaysContends, SaysPresent, SaysStation}
use Rattle.sim_settings.specs.Saying.{SaysAir, SaysExpectation, SaysTraffic}
use Rattle.sim_settings.specs.declared.moves.Moves.{Moves as MovesSettings}
use Rattle.sim_scenario.specs.declared.tables.Tables.{Tables}
use Rattle.sim_scenario.specs.declared.reading.AirTable.{AirTable}
use Rattle.sim_scenario.specs.declared.reading.AirTable.TheVariants.{Ignored, Optional, Required}
use Rattle.sim_scenario.specs.declared.reading.Reading.{Reading}
use Rattle.sim_scenario.specs.declared.scenario.Scenario.{Scenario}
use Rattle.sim_scenario.specs.declared.timeline.AirTimeline.{AirTimeline}
use Rattle.sim_scenario.specs.declared.timeline.MovesTimeline.{MovesTimeline}
use Rattle.sim_scenario.specs.declared.timeline.Timeline.{Timeline}
use Rattle.sim_scenario.specs.declared.timeline.Timeline.TheVariants.{Plain, Air, Moves}
use Rattle.std.specs.BTreeMap.{BTreeMap}
use Rattle.toml.specs.Data.{Data, Items, Members, no_members, as_table, get_member}
use Rattle.toml.specs.Parse.{parse_document}
use Rattle.toml.specs.View.{items_view, table_view}
use Rattle.toml.specs.declared.value.Value.{Value}
use denote.Ref.{Bor}

-- The parts of a document that say a scenario: the items of its arrays, what stands under the words
-- of its air, if it has one, and the members of its table of moves; and whether it is run with the
-- moves of a file.
pub record Parts : Type 0 where
  pub stations : Items
  pub events : Items
  pub has_moves : Bool
  pub air : Option FieldValues
  pub every : Items
  pub moves : Members
  pub expectations : Items

-- what stands under the words of an air, if it is a table, with values in place of its own
abbrev pub air_of_found : AirSettings → Option Data → Option (Option FieldValues)
air_of_found settings None = Some None
air_of_found settings (Some found) =
    option_map (λ members. Some (set_values settings (table_values members))) (as_table found)

-- the same of a document's air
abbrev pub air_under : AirSettings → Members → Option (Option FieldValues)
air_under settings document = air_of_found settings (get_member (word_of keys.Air) document)

-- whether the table of the air is read
abbrev pub reads_air : AirTable → Bool
reads_air Ignored = false
reads_air Optional = true
reads_air Required = true

-- what stands under the words of a document's air where it is read, else there is none
abbrev pub air_if : Bool → AirSettings → Members → Option (Option FieldValues)
air_if is_read settings document = cond is_read (air_under settings document) (Some None)

-- the parts of a document that are read in this way
pub record ArePartsOf (reading : Reading) (document : Members) (parts : Parts) : Type 0 where
  pub stations : items_under keys.Station document ≡ Some parts.stations
  pub events : items_under keys.Event document ≡ Some parts.events
  pub has_moves : parts.has_moves ≡ reading.moves
  pub air : air_if (reads_air reading.air) reading.settings document ≡ Some parts.air
  pub every : items_if (is_some parts.air) keys.Every document ≡ Some parts.every
  pub moves : members_if (is_some parts.air) keys.Moves document ≡ Some parts.moves
  pub expectations :
      items_if (reads_air reading.air) keys.Expect document ≡ Some parts.expectations

-- whether a station is present at the start, by its keys in an air; else it is
abbrev pub SaysPresence : Bool → FieldValues → Bool → Type 0
SaysPresence true values present = SaysPresent values present
SaysPresence false values present = present ≡ true

-- whether a station contends, where it says so in an air
abbrev pub SaysOwnContention : Bool → FieldValues → Option Bool → Type 0
SaysOwnContention true values own = SaysContends values own
SaysOwnContention false values own = own ≡ None

-- whether stations contend that don't say it themselves: as their air says. There is no such value
-- without an air
abbrev pub usual_contention : Timeline → Option Bool
usual_contention (Plain timeline) = None
usual_contention (Air timeline) = Some timeline.air.contends
usual_contention (Moves timeline) = Some timeline.air.contends

-- whether a station contends by its keys, in an air of this usual value; without an air it doesn't
abbrev pub SaysContention : Option Bool → FieldValues → Bool → Type 0
SaysContention None values contends = contends ≡ false
SaysContention (Some usual) values contends = IsTruthOr values keys.Contention usual contends

-- the same of one that says this itself, or doesn't say it
abbrev pub contends : Option Bool → Option Bool → Bool
contends None own = false
contends (Some usual) None = usual
contends (Some usual) (Some own) = own

-- whether stations contend that rows make
abbrev pub rows_contend : Timeline → Bool
rows_contend (Plain timeline) = false
rows_contend (Air timeline) = false
rows_contend (Moves timeline) = timeline.moves.contends

-- The parts of a document say the events of an air, and what they are run by. How moves are read is
-- said too, as it would be with the moves of a file.
pub record SayAirTimeline (values : FieldValues) (parts : Parts) (timeline : AirTimeline) : Type 0
  where
    pub air : SaysAir values timeline.air
    pub every : SayItems SaysTraffic parts.every timeline.every.items
    pub moves : (moves : MovesSettings) × SaysMoves timeline.air.contends parts.moves moves
    pub events : SayItems SaysFileEvent parts.events timeline.events.items

-- the same in an air with the moves of a file
pub record SayMovesTimeline (values : FieldValues) (parts : Parts) (timeline : MovesTimeline)
    : Type 0 where
  pub air : SaysAir values timeline.air
  pub every : SayItems SaysTraffic parts.every timeline.every.items
  pub moves : SaysMoves timeline.air.contends parts.moves timeline.moves
  pub events : SayItems SaysAddressed parts.events timeline.events.items

-- the parts of a document say what its events are run by: the air, if there is one, with the moves of
-- a file, if it is read for them; and the events
abbrev pub SayTimelineIn : Option FieldValues → Bool → Parts → Timeline → Type 0
SayTimelineIn None has_moves parts (Plain timeline) =
    SayItems SaysEvent parts.events timeline.events.items
SayTimelineIn None has_moves parts (Air timeline) = ⊥
SayTimelineIn None has_moves parts (Moves timeline) = ⊥
SayTimelineIn (Some air) false parts (Plain timeline) = ⊥
SayTimelineIn (Some air) false parts (Air timeline) = SayAirTimeline air parts timeline
SayTimelineIn (Some air) false parts (Moves timeline) = ⊥
SayTimelineIn (Some air) true parts (Plain timeline) = ⊥
SayTimelineIn (Some air) true parts (Air timeline) = ⊥
SayTimelineIn (Some air) true parts (Moves timeline) = SayMovesTimeline air parts timeline

abbrev pub SayTimeline : Parts → Timeline → Type 0
SayTimeline parts timeline = SayTimelineIn parts.air parts.has_moves parts timeline

-- these parts of a document say a scenario
pub record SayScenario (parts : Parts) (scenario : Scenario) : Type 0 where
  pub stations : SayItems SaysStation parts.stations scenario.stations.items
  pub present :
      SayItems (SaysPresence (is_some parts.air)) parts.stations scenario.present.items
  pub contend :
      SayItems (SaysContention (usual_contention scenario.timeline)) parts.stations
      scenario.contend.items
  pub timeline : SayTimeline parts scenario.timeline
  pub expectations : SayItems SaysExpectation parts.expectations scenario.expectations.items

-- whether any station of a scenario contends, or one that a row would make
abbrev pub has_contention : Scenario → Bool
has_contention scenario =
    rows_contend scenario.timeline || list_any (λ contends. contends) scenario.contend.items

-- the events are run without an air
abbrev pub IsPlain : Timeline → Type 0
IsPlain (Plain timeline) = Unit {0}
IsPlain (Air timeline) = ⊥
IsPlain (Moves timeline) = ⊥

-- its events then; none with an air
abbrev pub plain_events : Timeline → List Event
plain_events (Plain timeline) = timeline.events.items
plain_events (Air timeline) = []
plain_events (Moves timeline) = []

-- what stands under the words of an air that was found
abbrev pub set_air_values : SetAir → FieldValues
set_air_values air = set_values air.settings.now (table_values (table_view air.table.now))

-- the same of one that may be missing
abbrev pub air_in : Option SetAir → Option FieldValues
air_in air = option_map set_air_values air

-- the members of a table, none where there is no table
abbrev pub members_in : Option (Bor (BTreeMap (String Global) Value)) → Members
members_in None = no_members
members_in (Some table) = table_view table.now

-- the parts that these tables are
abbrev pub parts_in : Tables → Parts
parts_in tables =
    record {
      stations = items_view tables.stations.now;
      events = items_view tables.events.now;
      has_moves = tables.has_moves;
      air = air_in tables.air;
      every = items_view tables.every.now;
      moves = members_in tables.moves;
      expectations = items_view tables.expectations.now;
    }

-- how `from_toml` reads a document: it need have no air, nothing stands in place of the air's own
-- values, and it isn't run with moves
abbrev pub usual_reading : Reading
usual_reading =
    record {
      strict = false;
      air = Optional;
      moves = false;
      settings =
          record {
            range = None;
            delay = None;
            loss = None;
            seed = None;
            beacons = None;
            until = None;
            contention = None;
            contention_max = None;
            contention_min = None;
            contention_range = None;
            contention_copies = None;
          };
    }

-- the text is a document whose parts, read in this way, say this scenario
pub record SaysScenario (reading : Reading) (text : List ℕ) (scenario : Scenario)
    : Type 0 where
  pub document : Members
  pub parsed : parse_document text ≡ Some document
  pub parts : Parts
  pub are_its : ArePartsOf reading document parts
  pub say : SayScenario parts scenario
