use Rattle.std.proofs.Common.{◌≡◌, ◌++◌, List, ℕ, eqb, map}
use Rattle.std.specs.Iterator.{AlwaysYields}
use Rattle.std.specs.List.{slice_split}
use Rattle.std.specs.Str.Iter.{split_steps}
use Rattle.std.specs.Str.Pattern.{FindsChar}
use Rattle.cmd_captures.specs.Fields.{field_word}
use Rattle.cmd_arguments.proofs.choosing.fields_in.Given as goal

-- the names of the keys so far, and those that are left, are the parts of the text
abbrev pub invariant-loop-name : goal.invariant-loop-name
invariant-loop-name l =
    (left : List (List ℕ))
    × AlwaysYields (split_steps FindsChar (λ a b. b ≡ a)) (λ x. x.now) l.name-iterator left
    × (map field_word l.fields.items ++ left ≡ slice_split (λ b. eqb b 44) l.names)
