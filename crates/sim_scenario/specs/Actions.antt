-- What an event of a scenario does, in the model, where its station is at a position.
use Rattle.std.specs.Prelude.{◌≡◌, ℕ, Option, Some, None}
use Rattle.its_gnvalue.specs.Values.{Position}
use Rattle.its_model.specs.Calls.{GbcRequest}
use Rattle.its_model.specs.Calls.OwnCall.{SendGbc, SendGac}
use Rattle.its_model.specs.World.{What}
use Rattle.its_model.specs.World.What.{Calls}
use Rattle.its_world.specs.Events.{what_of}
use Rattle.sim_scenario.specs.Airs.{moment_of}
use Rattle.sim_scenario.specs.Events.{station_in}
use Rattle.sim_scenario.specs.declared.events.action.Action.{Action}
use Rattle.sim_scenario.specs.declared.events.action.Action.TheVariants as actions
use Rattle.sim_scenario.specs.declared.events.around.AroundRequest.{AroundRequest}
use Rattle.sim_scenario.specs.declared.events.event.FileEvent.{FileEvent}
use Rattle.sim_scenario.specs.declared.events.event.FileEvent.TheVariants as files

-- the request of a station at this position
abbrev pub request_at : AroundRequest → Position → GbcRequest
request_at r place =
    record {
      class = r.class;
      lifetime = r.lifetime;
      max_hops = r.max_hops;
      area = record { shape = r.shape; centre = place; a = r.a; b = r.b; angle = r.angle };
      message = record { port = r.port; info = r.info; payload = r.payload.items };
    }

-- what happens while the station is at this position; nothing does where the station leaves
abbrev pub what_at : Action → Position → Option What
what_at (actions.Happens what) place = Some (what_of what)
what_at (actions.GeobroadcastAround r) place = Some (Calls (SendGbc (request_at r place)))
what_at (actions.GeoanycastAround r) place = Some (Calls (SendGac (request_at r place)))
what_at actions.Leaves place = None

-- the same of what waits in a radio model
abbrev pub what_in : FileEvent → Option What
what_in (files.Happens e) = Some (what_of e.what)
what_in (files.Leaves station moment) = None

-- this is the action of a station at a moment, while the station is at this position
abbrev pub IsDoneAt : Action → ℕ → ℕ → Position → FileEvent → Type 0
IsDoneAt action station moment place filed =
    (station_in filed ≡ station) × (moment_of filed ≡ moment)
    × (what_in filed ≡ what_at action place)
