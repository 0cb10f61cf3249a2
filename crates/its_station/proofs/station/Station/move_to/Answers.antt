use Rattle.std.proofs.Common.{refl}
use Rattle.std.proofs.Math.Facts.{to_z-of_z}
use Rattle.its_model.specs.Calls.{Moved, Own}
use Rattle.its_model.specs.Calls.OwnCall.{Move}
use Rattle.its_station.specs.Steps.{Says}
use Rattle.its_station.proofs.Hearing.{moment_exit}
use Rattle.its_station.proofs.Stations.{Represents-later, own_done_step}
use Rattle.its_station.proofs.station.Station.move_to.Goals as goal

pub returns-in_err-check_moment-clause-step : goal.returns-in_err-check_moment-clause-step
returns-in_err-check_moment-clause-step g c =
    moment_exit {T = Unit {0}} (Says Moved) c.args.self.now c.args.now
    (Own (Move c.args.place c.args.pai c.args.speed c.args.heading)) _
    c.from_residual.result c.from_residual.ensures.1 c.in_err-check_moment.ensures.refusal

pub returns-clause-step : goal.returns-clause-step
returns-clause-step g c =
    let fields = simp (to_z-of_z c.ranges.speed) at c.set_vector.ensures in
    own_done_step {T = Unit {0}} (Says Moved) tt c.args.self.now c.set_vector.new.self _ c.args.now
    (Move c.args.place c.args.pai c.args.speed c.args.heading)
    (λ ports history. Moved) (λ ports. ports)
    (λ history. history) fields c.in_ok-check_moment.ensures.refusal
    (λ ports history past. refl) (λ ports history. refl)
    (λ ports history past. record {
      ports = past.ports;
      table =
          Represents-later _ _ _ _ _ c.in_ok-check_moment.ensures.time.0 past.table;
    })
    (λ ports history past. refl)
