use Rattle.std.proofs.Common.{◌≡◌, ◌∙◌, None, Some, sym}
use Rattle.sim_air.proofs.step.take_turn.Goals as goal

pub returns-clause-taken : goal.returns-clause-taken
returns-clause-taken g c = λ is grows rules configs made past last from end most h.
    let both : None ≡ Some c.in-Some.due =
    sym (c.due_before.ensures.none h.timed.steady) ∙ c.in-Some.is in
    let no : ⊥ = cc in absurd no
