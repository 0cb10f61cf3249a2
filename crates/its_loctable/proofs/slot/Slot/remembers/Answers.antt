use Rattle.std.proofs.Common.{sym, ◌∙◌}
use Rattle.its_loctable.proofs.NumberLemmas.{is_among-reverse}
use Rattle.its_loctable.proofs.slot.Slot.remembers.Goals as goal

pub returns : goal.returns
returns c = c.holds.ensures.found
    ∙ sym (is_among-reverse c.args.number c.args.self.now.recent.numbers)
