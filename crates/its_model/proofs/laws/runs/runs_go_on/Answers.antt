use Rattle.std.proofs.Common.{◌≡◌, List, [], ◌∷◌, ◌++◌, refl}
use Rattle.its_model.specs.World.{WorldModel, Event, world_step, world_run}
use Rattle.its_model.proofs.laws.runs.runs_go_on.Goals as goal

on : (w : WorldModel) (first next : List Event)
    → world_run w (first ++ next) ≡ world_run (world_run w first) next
on w [] next = refl
on w (e ∷ first) next = on (world_step w e) first next

pub returns : goal.returns
returns c = on
