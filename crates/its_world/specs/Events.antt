-- Events and configs in the model.
use Rattle.std.specs.Prelude.{◌≤◌}
use Rattle.its_model.specs.World as model
use Rattle.its_station.specs.Runs.{IsOwnInRange, own_of}
use Rattle.its_world.specs.declared.config.Config.{Config}
use Rattle.its_world.specs.declared.event.Event.{Event}
use Rattle.its_world.specs.declared.event.What.{What}
use Rattle.its_world.specs.declared.event.What.TheVariants as whats

-- what happens, in the model
abbrev pub what_of : What → model.What
what_of (whats.Call call) = model.What.Calls (own_of call)
what_of (whats.Deliver k) = model.What.Deliver k

-- an event
abbrev pub event_of : Event → model.Event
event_of e = record { station = e.station; moment = e.moment; what = what_of e.what }

-- what an event asks for is in its range
abbrev pub IsInRange : What → Type 0
IsInRange (whats.Call call) = IsOwnInRange call
IsInRange (whats.Deliver k) = Unit {0}

-- how a station begins
abbrev pub config_of : Config → model.Config
config_of c =
    record { address = c.address; place = c.place; capacity = c.capacity; remember = c.remember }

-- the numbers of a config are in their ranges
abbrev pub IsConfig : Config → Type 0
IsConfig c = (1 ≤ c.capacity) × (c.capacity ≤ 4096) × (1 ≤ c.remember) × (c.remember ≤ 64)
