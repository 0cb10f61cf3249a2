use Rattle.its_model.proofs.Steps.{ports_kept}
use Rattle.its_model.proofs.laws.calls.open_ports_are_few.Goals as goal

pub returns : goal.returns
returns c = λ s moment call distinct few. ports_kept call s moment (distinct, few)
