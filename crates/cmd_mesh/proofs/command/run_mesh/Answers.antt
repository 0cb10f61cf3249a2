use Rattle.std.proofs.Common.{List, map, subst}
use Rattle.its_model.specs.World.{opening}
use Rattle.its_world.specs.State.{RepresentStations}
use Rattle.its_world.specs.declared.config.Config.{Config}
use Rattle.its_world.specs.declared.event.Event.{Event}
use Rattle.its_world.specs.Events.{config_of, event_of}
use Rattle.sim_scenario.specs.Scenarios.{plain_events}
use Rattle.cmd_mesh.specs.Calls.{HasRun}
use Rattle.cmd_mesh.proofs.Runs.{run_ends}
use Rattle.cmd_mesh.proofs.command.run_mesh.Goals as goal

pub returns-then-is_none-clause-run : goal.returns-then-is_none-clause-run
returns-then-is_none-clause-run g c = λ _.
    let configs = map config_of c.args.scenario.stations.items in
    let events = map event_of (plain_events c.args.scenario.timeline) in
    let mesh = c.in-Ok.mesh in
    let represent = subst (λ (l : List Config). RepresentStations mesh.stations.items
    (opening (map config_of l)).stations) c.as_slice.ensures.value
    c.in-Ok.ensures.stations in
    let unused = c.in-Ok.ensures.unused in
    let after = c.run.new.self in
    let run = subst (λ (l : List Event). HasRun (map event_of l) (opening configs).stations
    mesh.moment mesh.refused after.stations.items after.refused) c.events_of-events.ensures.events
    (c.in_ok-run.ensures.made (opening configs).stations represent) in
    run_ends configs events c.args.options.strict after.failed mesh.refused after.refused
    mesh.moment after.stations.items _ run unused.0 unused.1 c.in_ok-run.ensures.status
