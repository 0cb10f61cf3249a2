use Rattle.std.proofs.Common.{[], refl, ap, subst, arith}
use Rattle.its_model.specs.Calls.{Restarted, Own}
use Rattle.its_model.specs.Calls.OwnCall.{Restart}
use Rattle.its_station.specs.Steps.{Says}
use Rattle.its_loctable.specs.Content.{Represents}
use Rattle.its_station.specs.State.{StationState}
use Rattle.its_station.proofs.Hearing.{moment_exit}
use Rattle.its_station.proofs.Stations.{Represents-later, own_done_step}
use Rattle.its_station.proofs.station.Station.restart.Goals as goal

pub returns-in_err-check_moment-clause-step : goal.returns-in_err-check_moment-clause-step
returns-in_err-check_moment-clause-step g c =
    moment_exit {T = Unit {0}} (Says Restarted) c.args.self.now c.args.now
    (Own (Restart c.args.number)) _ c.from_residual.result c.from_residual.ensures.1
    c.in_err-check_moment.ensures.refusal

pub returns-clause-step : goal.returns-clause-step
returns-clause-step g c =
    let new = c.begin_anew.new.self in
    let remember = ap (λ (st : StationState). st.remember) c.begin_anew.ensures.fields in
    own_done_step {T = Unit {0}} (Says Restarted) tt c.args.self.now new _ c.args.now
    (Restart c.args.number)
    (λ ports history. Restarted) (λ ports. [])
    (λ history. []) c.begin_anew.ensures.fields c.in_ok-check_moment.ensures.refusal
    (λ ports history past. refl) (λ ports history. refl)
    (λ ports history past. record {
      ports = record { each = λ p. refl; mine_once = tt; theirs_once = tt };
      table = Represents-later _ _ _ _ _ (omega arith)
          (subst (λ n. Represents n new.content [] 0) remember c.begin_anew.ensures.table);
    })
    (λ ports history past. refl)
