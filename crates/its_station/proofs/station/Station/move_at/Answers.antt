use Rattle.std.proofs.Common.{refl}
use Rattle.std.proofs.Math.Facts.{to_z-of_z}
use Rattle.its_model.specs.Calls as model
use Rattle.its_model.specs.Calls.{Moved}
use Rattle.its_model.specs.Station.{moment_refusal}
use Rattle.its_station.specs.Steps.{Says}
use Rattle.its_station.specs.Beside.{stands_at}
use Rattle.its_station.proofs.Beside.{refused_exit, done_step}
use Rattle.its_station.proofs.Stations.{Represents-later, represents}
use Rattle.its_station.proofs.station.Station.move_at.Goals as goal

pub returns-in_err-check_moment-clause-step : goal.returns-in_err-check_moment-clause-step
returns-in_err-check_moment-clause-step g c =
    refused_exit {T = Unit {0}} (Says Moved) c.args.self.now _ c.from_residual.result
    (λ m. moment_refusal m c.args.now)
    (λ m. record {
      answer = model.Answer.Moved;
      station = stands_at m c.args.now c.args.fix c.args.place c.args.pai c.args.speed
          c.args.heading;
    }) c.from_residual.ensures.1 c.in_err-check_moment.ensures.refusal

pub returns-clause-step : goal.returns-clause-step
returns-clause-step g c =
    let fields = simp (to_z-of_z c.ranges.speed) at c.set_vector.ensures in
    done_step {T = Unit {0}} (Says Moved) tt c.args.self.now c.set_vector.new.self _
    (λ m. moment_refusal m c.args.now)
    (λ m. record {
      answer = model.Answer.Moved;
      station = stands_at m c.args.now c.args.fix c.args.place c.args.pai c.args.speed
          c.args.heading;
    }) fields c.in_ok-check_moment.ensures.refusal
    (λ ports history past. refl)
    (λ ports history past. represents _ ports history (record {
      ports = past.ports;
      table =
          Represents-later _ _ _ _ _ c.in_ok-check_moment.ensures.time.0 past.table;
    }))
