use Rattle.std.proofs.Common.{◌∙◌, ap, List, Some, false, subst, sym, ℕ}
use Rattle.cap_records.specs.Choosing.{selects}
use Rattle.cap_records.specs.OutsideFrames.{IsOutsideFrame}
use Rattle.cap_records.specs.declared.choosing.Traits.{Traits}
use Rattle.cap_records.proofs.selection.Selection.has_outside.Goals as goal

pub traits_of_outside-traits-requires : goal.traits_of_outside-traits-requires
traits_of_outside-traits-requires c =
    let (s, placed) = c.requires in
    (s, subst (λ (v : List ℕ). IsOutsideFrame v s) (sym c.octets.ensures) placed.frame)

pub returns : goal.returns
returns c =
    λ s placed.
    let there = subst (λ (v : List ℕ). IsOutsideFrame v s) (sym c.octets.ensures) placed.frame in
    c.selects.ensures
    ∙ ap (λ (traits : Traits). selects c.args.self.now.choice c.args.moment (Some traits) false)
    (c.traits_of_outside-traits.ensures s there)
