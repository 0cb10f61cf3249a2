use Rattle.std.proofs.Common.{◌≡◌, ◌∙◌, ◌-◌, ap, sym, length, false, refl, rules}
use Rattle.std.specs.Prelude.{slice_index_or}
use Rattle.sim_queue.specs.Waiting.{delivery_of}
use Rattle.sim_queue.proofs.Lines.{lt, behind_all, was_false}
use Rattle.sim_queue.proofs.own_events.is_behind.Goals as goal

pub returns-in-Some : goal.returns-in-Some
returns-in-Some c = λ is.
    let line = c.args.line.now.items in
    let last = c.in-Some.last.now in
    let new = delivery_of c.args.delivery.now in
    let said = c.is_before.ensures (delivery_of last) refl refl in
    let after : lt (delivery_of last) new ≡ false = sym said ∙ was_false c.is_before.result is in
    let size : c.args.line.now.len ≡ length line = search rules in
    behind_all line last new c.requires c.in-Some.ensures.item.3.0
    (c.in-Some.ensures.lookup ∙ ap (λ n. slice_index_or line (n - 1) last) size) after
