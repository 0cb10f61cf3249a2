use Rattle.std.proofs.Common.{◌∙◌, ap}
use Rattle.its_model.specs.Station.{StationModel}
use Rattle.its_model.specs.Isolation.{answers_of, answers_for}
use Rattle.its_station.proofs.station.Station.run.Goals as goal

pub returns-clause-run : goal.returns-clause-run
returns-clause-run g c = λ s rep.
    let run = c.run_all.ensures.run s rep in
    record {
      run = run;
      isolated = λ address place capacity remember mobile past source was falls full.
          ap (λ (m : StationModel). answers_for source run.done (answers_of m run.done)) was
          ∙ c.sources_are_isolated.ensures address place capacity remember mobile past run.done
          source falls full;
    }
