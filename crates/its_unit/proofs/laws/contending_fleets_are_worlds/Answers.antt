use Rattle.std.specs.Prelude.{map}
use Rattle.its_unit.specs.Fleets.{new_fleet, world_events}
use Rattle.its_unit.specs.Holding.{holding, holding_kind}
use Rattle.its_unit.proofs.Fleets.{fleet_is_world}
use Rattle.its_unit.proofs.FleetMessages.{delivers_as_sent, frames_are_faithful}
use Rattle.its_unit.proofs.HoldingOnce.{contenders_send_once}
use Rattle.its_unit.proofs.HoldingUnits.{begins_new, holding_late_or_lost, units_act, units_hold}
use Rattle.its_unit.proofs.laws.contending_fleets_are_worlds.Goals as goal

pub returns-clause-world : goal.returns-clause-world
returns-clause-world c =
    λ configs units new.
    fleet_is_world holding_kind holding_late_or_lost configs (map holding units)
    (begins_new configs units new)

pub returns-clause-schedules : goal.returns-clause-schedules
returns-clause-schedules c =
    λ configs units events.
    c.every_schedule.ensures configs
    (world_events holding_kind (new_fleet (map holding units)) events)

pub returns-clause-units : goal.returns-clause-units
returns-clause-units c = units_act

pub returns-clause-waiting : goal.returns-clause-waiting
returns-clause-waiting c = units_hold

pub returns-clause-once : goal.returns-clause-once
returns-clause-once c = contenders_send_once

pub returns-clause-delivered : goal.returns-clause-delivered
returns-clause-delivered c =
    λ configs units new.
    delivers_as_sent holding_kind holding_late_or_lost configs (map holding units)
    (begins_new configs units new)

pub returns-clause-faithful : goal.returns-clause-faithful
returns-clause-faithful c =
    λ configs units new.
    frames_are_faithful holding_kind holding_late_or_lost configs (map holding units)
    (begins_new configs units new)
