use Rattle.std.proofs.Common.{◌≡◌, ℕ, ◌≤◌, List, Some, None, sym, ap, ◌∙◌, eqb, cond, subst, rules}
use Rattle.std.proofs.Common.{arith}
use Rattle.std.specs.Map.{lookup}
use Rattle.its_loctable.specs.declared.slot.Slot.{Slot}
use Rattle.its_model.specs.History.{renewed}
use Rattle.its_duplicates.specs.Numbers.{LastNumbers}
use Rattle.its_loctable.specs.Content.{entry_at}
use Rattle.its_loctable.specs.Heard.{reception}
use Rattle.its_loctable.specs.Ordered.{contained, HaveLimit}
use Rattle.its_loctable.proofs.OrderedLemmas.{limits-put, on_either, Hears-slots, Hears-same}
use Rattle.its_loctable.proofs.ordered.OrderedTable.enter.Goals as goal

pub returns-in-Ok-clause-hears : goal.returns-in-Ok-clause-hears
returns-in-Ok-clause-hears c =
    let es = c.args.self.now.slots.entries in
    let mid = c.make_room.new.self.slots.entries in
    let r = reception c.args.now c.args.heard.now in
    let same : (t source : ℕ) → c.args.now ≤ t → entry_at (contained mid) source t
    ≡ entry_at (contained es) source t =
    λ t s from. c.make_room.ensures.same t s from
    ∙ ap (λ (l : List (ℕ × Slot)). entry_at (contained l) s t) c.reserve.ensures.entries in
    let limit : c.in_ok-recent.recent.limit ≡ c.args.self.now.remembered =
    ap (λ (l : LastNumbers). l.limit) c.in_ok-recent.ensures in
    let none : entry_at (contained mid) r.vector.address c.args.now
    ≡ None = same c.args.now r.vector.address (omega arith) ∙ c.requires.absent in
    Hears-same c.args.self.now.remembered (contained es) (contained mid) _ r same
    (Hears-slots c.args.self.now.remembered mid _ r c.first-slot.result
    (λ s. c.in-Ok.ensures.updates.0 s
    ∙ ap (λ a. cond (eqb a s) (Some c.first-slot.result) (lookup (eqb s) mid))
    c.address-address.ensures)
    (c.first-slot.ensures.known ∙ ap (λ n. renewed n None r) limit
    ∙ ap (λ o. renewed c.args.self.now.remembered o r) (sym none)) c.first-slot.ensures.until)

pub invariant_of-self-2 : goal.invariant_of-self-2
invariant_of-self-2 c =
    let table = c.make_room.new.self in
    let limit : c.first-slot.result.recent.limit ≡ table.remembered =
    c.first-slot.ensures.limit ∙ ap (λ (l : LastNumbers). l.limit) c.in_ok-recent.ensures
    ∙ sym c.make_room.ensures.remembered in
    record {
      within = search rules;
      lengths = table.lengths;
      limits = on_either c.insert.result c.insert.ensures.updates c.insert.ensures.err
          (λ u. limits-put table.remembered table.slots.entries _ c.address-address.result
          c.first-slot.result table.limits u.0 limit)
          (λ same. subst (HaveLimit table.remembered) (sym same) table.limits);
    }
