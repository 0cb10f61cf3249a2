use Rattle.its_unit.specs.Fleets.{unit_kind, new_fleet, world_events}
use Rattle.its_unit.proofs.Fleets.{fleet_is_world}
use Rattle.its_unit.proofs.FleetUnits.{late_or_lost, units_run}
use Rattle.its_unit.proofs.FleetOnce.{sends_once}
use Rattle.its_unit.proofs.FleetMessages.{delivers_as_sent, frames_are_faithful}
use Rattle.its_unit.proofs.laws.fleets_are_worlds.Goals as goal

pub returns-clause-world : goal.returns-clause-world
returns-clause-world c =
    λ configs units new. fleet_is_world unit_kind late_or_lost configs units new

pub returns-clause-schedules : goal.returns-clause-schedules
returns-clause-schedules c =
    λ configs units events.
    c.every_schedule.ensures configs (world_events unit_kind (new_fleet units) events)

pub returns-clause-units : goal.returns-clause-units
returns-clause-units c = units_run

pub returns-clause-delivered : goal.returns-clause-delivered
returns-clause-delivered c =
    λ configs units new. delivers_as_sent unit_kind late_or_lost configs units new

pub returns-clause-faithful : goal.returns-clause-faithful
returns-clause-faithful c =
    λ configs units new. frames_are_faithful unit_kind late_or_lost configs units new

pub returns-clause-once : goal.returns-clause-once
returns-clause-once c = sends_once
