-- The events of a scenario.
use Rattle.std.specs.Prelude.{ℕ, ℤ, pos, ◌<◌, ◌^◌, string_bytes}
use Rattle.its_gnvalue.specs.Values.{IsSpeed}
use Rattle.its_words.specs.Calls.{own_speed}
use Rattle.its_world.specs.declared.event.Event.{Event}
use Rattle.its_world.specs.declared.event.What.{What}
use Rattle.its_world.specs.declared.event.What.TheVariants as whats
use Rattle.its_words.specs.Ids.{IsId}
use Rattle.sim_scenario.specs.Airs.{moment_of}
use Rattle.sim_scenario.specs.declared.events.action.Action.{Action}
use Rattle.sim_scenario.specs.declared.events.action.Action.TheVariants as actions
use Rattle.sim_scenario.specs.declared.events.event.AddressedEvent.{AddressedEvent}
use Rattle.sim_scenario.specs.declared.events.event.Addressee.{Addressee}
use Rattle.sim_scenario.specs.declared.events.event.Addressee.TheVariants as addressees
use Rattle.sim_scenario.specs.declared.events.event.FileEvent.{FileEvent}
use Rattle.sim_scenario.specs.declared.events.event.FileEvent.TheVariants as files
use Rattle.sim_scenario.specs.declared.events.event.StationEvent.{StationEvent}

-- the speed of a move; 0 where none is given
abbrev pub speed_of : What → ℤ
speed_of (whats.Call call) = own_speed call
speed_of (whats.Deliver frame) = pos 0

-- the frame that is delivered; 0 where none is
abbrev pub frame_of : What → ℕ
frame_of (whats.Call call) = 0
frame_of (whats.Deliver frame) = frame

-- the numbers of what happens are in the ranges that a scenario gives them
abbrev pub FitsWhat : What → Type 0
FitsWhat what = IsSpeed (speed_of what) × (frame_of what < 2 ^ 32)

-- the numbers of an event are in the ranges that a scenario gives them
abbrev pub FitsEvent : Event → Type 0
FitsEvent e = (e.station < 2 ^ 16) × (e.moment < 2 ^ 63) × FitsWhat e.what

-- the station of what a file has
abbrev pub station_in : FileEvent → ℕ
station_in (files.Happens e) = e.station
station_in (files.Leaves station moment) = station

-- what it does, if it is an event: its speed and its frame, 0 where it has none
abbrev pub speed_in : FileEvent → ℤ
speed_in (files.Happens e) = speed_of e.what
speed_in (files.Leaves station moment) = pos 0

abbrev pub frame_in : FileEvent → ℕ
frame_in (files.Happens e) = frame_of e.what
frame_in (files.Leaves station moment) = 0

-- its numbers are in the ranges that a scenario gives them
abbrev pub FitsFileEvent : FileEvent → Type 0
FitsFileEvent f =
    (station_in f < 2 ^ 16) × (moment_of f < 2 ^ 63) × IsSpeed (speed_in f) × (frame_in f < 2 ^ 32)

-- the speed and the frame of what an event of a scenario does, 0 where it has none
abbrev pub speed_at : Action → ℤ
speed_at (actions.Happens what) = speed_of what
speed_at action = pos 0

abbrev pub frame_at : Action → ℕ
frame_at (actions.Happens what) = frame_of what
frame_at action = 0

-- they are in their ranges
abbrev pub FitsAction : Action → Type 0
FitsAction action = IsSpeed (speed_at action) × (frame_at action < 2 ^ 32)

-- so are the numbers of an event of a station
abbrev pub FitsStationEvent : StationEvent → Type 0
FitsStationEvent e = (e.station < 2 ^ 16) × (e.moment < 2 ^ 63) × FitsAction e.action

-- the number of a station, 0 where it is one by its id
abbrev pub number_of : Addressee → ℕ
number_of (addressees.Station station) = station
number_of (addressees.Vehicle id) = 0

-- the id is one that a row may have
abbrev pub HasId : Addressee → Type 0
HasId (addressees.Station station) = Unit {0}
HasId (addressees.Vehicle id) = IsId (string_bytes id)

-- the numbers of an event of a scenario with moves are in their ranges
abbrev pub FitsAddressed : AddressedEvent → Type 0
FitsAddressed a = (number_of a.addressee < 2 ^ 16) × (a.moment < 2 ^ 63) × FitsAction a.action
