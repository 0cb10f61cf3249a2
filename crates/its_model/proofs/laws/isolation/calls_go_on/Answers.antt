use Rattle.std.proofs.Common.{◌≡◌, List, [], ◌∷◌, ◌++◌, refl, ap}
use Rattle.its_model.specs.Station.{StationModel, station_step}
use Rattle.its_model.specs.Isolation.{TimedCall, answers_of, station_run}
use Rattle.its_model.proofs.laws.isolation.calls_go_on.Goals as goal

on : (s : StationModel) (first next : List TimedCall)
    → station_run s (first ++ next) ≡ station_run (station_run s first) next
on s [] next = refl
on s (c ∷ first) next = on (station_step s c.moment c.call).station first next

answers_on : (s : StationModel) (first next : List TimedCall)
    → answers_of s (first ++ next) ≡ answers_of s first ++ answers_of (station_run s first) next
answers_on s [] next = refl
answers_on s (c ∷ first) next =
    ap (λ xs. (station_step s c.moment c.call).answer ∷ xs)
    (answers_on (station_step s c.moment c.call).station first next)

pub returns-clause-station : goal.returns-clause-station
returns-clause-station c = on

pub returns-clause-answers : goal.returns-clause-answers
returns-clause-answers c = answers_on
