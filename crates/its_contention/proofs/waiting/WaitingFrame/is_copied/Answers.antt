use Rattle.std.proofs.Common.{◌≡◌, ◌≢◌, ◌∙◌, sym, ne_eqb, rules}
use Rattle.its_contention.specs.Key.{key_of}
use Rattle.its_contention.proofs.Keys.{no_copy}
use Rattle.its_contention.proofs.waiting.WaitingFrame.is_copied.Goals as goal

pub returns-else-self-key : goal.returns-else-self-key
returns-else-self-key c =
    let differ : key_of c.args.self.now.octets ≢ key_of c.args.came.now.octets.now = search rules in
    ne_eqb _ _ c.if-self-key.false
    ∙ sym (no_copy c.args.own c.args.self.now.octets c.args.came.now.octets.now differ)
