use Rattle.std.proofs.Common.{◌≡◌, ap, ◌∙◌, rules, arith}
use Rattle.std.specs.Option.{option_map}
use denote.Bor.{Bor}
use Rattle.its_loctable.specs.declared.slot.Slot.{Slot}
use Rattle.its_loctable.specs.Heard.{has_number}
use Rattle.its_loctable.specs.Slots.{slot_known}
use Rattle.its_loctable.proofs.VerdictLemmas.{has_number-known}
use Rattle.its_loctable.proofs.ordered.OrderedTableLocationStore.remembers.Goals as goal

pub returns : goal.returns
returns c = λ history rep.
    let is : c.is_some_and.result
    ≡ has_number (option_map (λ (s : Bor Slot). slot_known s.now) c.live_slot.result)
    c.args.number = search rules in
    is ∙ ap (λ o. has_number o c.args.number)
    (c.live_slot.ensures ∙ rep.live c.args.now c.args.a (omega arith) c.requires)
    ∙ has_number-known c.args.self.now.remembered c.args.a c.args.number c.args.now history
