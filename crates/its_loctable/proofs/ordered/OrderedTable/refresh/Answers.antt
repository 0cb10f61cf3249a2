use Rattle.std.proofs.Common.{Some, sym, ap, ◌∙◌, is_some, eqb, cond, rules}
use Rattle.std.specs.Map.{lookup}
use Rattle.its_model.specs.History.{renewed}
use Rattle.its_loctable.specs.Heard.{reception}
use Rattle.its_loctable.specs.Slots.{slot_known}
use Rattle.its_loctable.proofs.OrderedLemmas.{limits-put, Hears-slots, entry_at-live, entry_at-none}
use Rattle.its_loctable.proofs.ordered.OrderedTable.refresh.Goals as goal

pub returns-in-Some-clause-hears : goal.returns-in-Some-clause-hears
returns-in-Some-clause-hears c =
    let es = c.args.self.now.slots.entries in
    let r = reception c.args.now c.args.heard.now in
    let found = c.in-Some.ensures.value ∙ ap (λ a. lookup (eqb a) es) c.address.ensures in
    let writes = (c.get_mut.follows.holds c.hear.new.self).3
    (sym (ap is_some c.in-Some.ensures.value)) in
    Hears-slots c.args.self.now.remembered es _ r c.hear.new.self
    (λ s. writes.0 s ∙ ap (λ a. cond (eqb a s) (Some c.hear.new.self) (lookup (eqb s) es))
    c.address.ensures)
    (c.hear.ensures.known ∙ ap (λ n. renewed n (Some (slot_known c.in-Some.slot.now)) r)
    (c.args.self.now.limits _ _ (sym found)) ∙ ap (λ o. renewed c.args.self.now.remembered o r)
    (sym (entry_at-live es _ _ c.in-Some.slot.now found (sym c.requires.live))))
    c.hear.ensures.until

pub returns-in_default-clause-hears : goal.returns-in_default-clause-hears
returns-in_default-clause-hears c =
    let es = c.args.self.now.slots.entries in
    absurd (entry_at-none es _ _
    (c.in_default.ensures.value ∙ ap (λ a. lookup (eqb a) es) c.address.ensures)
    (sym c.requires.live))

pub invariant_of-self : goal.invariant_of-self
invariant_of-self c =
    let table = c.args.self.now in
    let found = c.in-Some.ensures.value ∙ ap (λ a. lookup (eqb a) table.slots.entries)
    c.address.ensures in
    let writes = (c.get_mut.follows.holds c.hear.new.self).3
    (sym (ap is_some c.in-Some.ensures.value)) in
    record {
      within = search rules;
      lengths = table.lengths;
      limits = limits-put table.remembered table.slots.entries _ c.address.result c.hear.new.self
          table.limits writes.0
          (c.hear.ensures.limit ∙ table.limits _ _ (sym found));
    }
