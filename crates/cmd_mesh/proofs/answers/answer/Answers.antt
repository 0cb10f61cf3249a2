use Rattle.std.proofs.Common.{[], ◌∙◌, ap, refl, Ok, Err}
use Rattle.std.specs.Prelude.{Result, IfOk}
use Rattle.its_model.specs.Station.{StationModel}
use Rattle.its_model.specs.Isolation.{answers_of, answers_for}
use Rattle.its_station.specs.Runs.{reply_of}
use Rattle.its_station.proofs.Runs.{run_more, run_none}
use Rattle.cmd_mesh.proofs.answers.answer.Goals as goal

-- what follows for each answer
if_ok : {T E : Type 0} {P Q : T → Type 0} (r : Result T E) → IfOk r P → ((x : T) → P x → Q x)
    → IfOk r Q
if_ok (Ok x) h f = f x h
if_ok (Err e) h f = tt

pub returns-clause-done : goal.returns-clause-done
returns-clause-done c = λ s represent.
    if_ok c.answer.result c.answer.ensures.step (λ answer step. (
    let run = run_more s [] [] c.args.station.now c.answer.new.self
    (c.args.moment, c.args.call) (reply_of answer) answer refl
    c.calls_go_on.ensures.station c.calls_go_on.ensures.answers
    (run_none s c.args.station.now represent) step in
    record {
      run = run;
      isolated = λ address place capacity remember mobile past source was falls full.
          ap (λ (m : StationModel). answers_for source run.done (answers_of m run.done)) was
          ∙ c.sources_are_isolated.ensures address place capacity remember mobile past run.done
          source falls full;
    }))
