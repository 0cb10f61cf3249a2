use Rattle.std.proofs.Common.{◌≡◌, ◌++◌, List, ap, eqb, lit<, map, subst, sym}
use Rattle.std.proofs.lemmas.Iterator.Splits.{YieldsList-from_str_split}
use Rattle.std.specs.Iterator.{AlwaysYields}
use Rattle.std.specs.List.{slice_split}
use Rattle.std.specs.Str.Iter.{split_steps}
use Rattle.std.specs.Str.Pattern.{FindsChar}
use Rattle.cmd_captures.specs.Fields.{field_word}
use Rattle.cmd_captures.specs.declared.field.Field.{Field}
use Rattle.cmd_arguments.proofs.Names.{all_named, key_added, name_taken, none_left}
use Rattle.cmd_arguments.proofs.choosing.fields_in.Goals as goal

pub loop-name-init : goal.loop-name-init
loop-name-init c =
    let parts = slice_split (λ b. eqb b 44) c.args.names.now in
    let all = YieldsList-from_str_split 44 c.args.names.now (lit< tt)
    c.split-name-items.ensures.text c.split-name-items.ensures.has_more
    c.split-name-items.ensures.pattern in (
      parts,
      subst (λ s. AlwaysYields (split_steps FindsChar (λ a b. b ≡ a)) (λ x. x.now) s parts)
          (sym c.into_iter-name-iterator.ensures.into_iter_gives) all.runs,
      ap (λ (l : List Field). map field_word l ++ parts) c.new-fields.ensures.items,
    )

pub loop-name-preserved : goal.loop-name-preserved
loop-name-preserved c =
    let at = c.loop-name in
    let left = at.invariant.0 in
    let taken = name_taken (split_steps FindsChar (λ a b. b ≡ a)) at.name-iterator
    c.next.new.self c.in-Some.name left at.invariant.1 c.in-Some.ensures.steps in (
      taken.0,
      taken.2,
      key_added at.fields.items _ c.in-Some-named.field c.in-Some.name.now taken.0 left _
          c.in_ok-push-in-Some-named.ensures.items c.in-Some-named.ensures taken.1 at.invariant.2,
    )

pub returns : goal.returns
returns c =
    let at = c.loop-name in
    let left = at.invariant.0 in
    all_named at.fields.items left c.args.names.now
    (none_left (split_steps FindsChar (λ a b. b ≡ a)) at.name-iterator c.next.new.self left
    at.invariant.1 c.in-None.ensures.steps)
    at.invariant.2
