-- Names among others.
use Rattle.std.proofs.Common.{◌≡◌, ◌≢◌, ℕ, zero, suc, ◌+◌, ◌<◌, List, [], ◌∷◌, length, get_or, Some}
use Rattle.std.proofs.Common.{refl, sym, ap, ◌∙◌, arith}
use Rattle.std.specs.Prelude.{slice_get, Vec}
use Rattle.std.specs.declared.alloc.Global.{Global}
use Rattle.sim_moves.specs.Columns.{texts, HasNoneBelow, HasOnceBelow, HasTwiceBelow, IsFoundBelow}
use Rattle.sim_moves.specs.declared.columns.Occurrence.{Occurrence}
use Rattle.sim_moves.specs.declared.columns.Occurrence.TheVariants as founds

-- what the field of a place says
pub text_at : (fields : List (Vec ℕ Global)) (place : ℕ) (field : Vec ℕ Global)
    → place < length fields → field ≡ get_or fields place field
    → slice_get (texts fields) place ≡ Some field.items
text_at [] place field lt is = absurd (omega (arith, lt))
text_at (x ∷ fields) zero field lt is =
    ap (λ (f : Vec ℕ Global). Some f.items) (sym is)
text_at (x ∷ fields) (suc place) field lt is = text_at fields place field (omega (arith, lt)) is

-- one more name, which is another
pub none_more : (names : List (List ℕ)) (word name : List ℕ) (n : ℕ)
    → slice_get names n ≡ Some name → name ≢ word → HasNoneBelow n names word
    → HasNoneBelow (n + 1) names word
none_more names word name n is other none = λ k lt same. grind (arith, none k)

pub once_more : (names : List (List ℕ)) (word name : List ℕ) (n place : ℕ)
    → slice_get names n ≡ Some name → name ≢ word → HasOnceBelow n names word place
    → HasOnceBelow (n + 1) names word place
once_more names word name n place is other once = record {
  within = omega (arith, once.within);
  stands = once.stands;
  alone = λ k lt same. grind (arith, once.alone k);
}

-- one more, which is this one
pub none_then : (names : List (List ℕ)) (word name : List ℕ) (n : ℕ)
    → slice_get names n ≡ Some name → name ≡ word → HasNoneBelow n names word
    → HasOnceBelow (n + 1) names word n
none_then names word name n is same none = record {
  within = omega arith;
  stands = is ∙ ap Some same;
  alone = λ k lt found. grind (arith, none k);
}

pub once_then : (names : List (List ℕ)) (word name : List ℕ) (n place : ℕ)
    → n < length names → slice_get names n ≡ Some name → name ≡ word
    → HasOnceBelow n names word place → HasTwiceBelow (length names) names word
once_then names word name n place lt is same once = record {
  first = place;
  second = n;
  order = once.within;
  within = lt;
  stands = once.stands;
  again = is ∙ ap Some same;
}

-- however often it stood, one more name that is another
pub found_more : (names : List (List ℕ)) (word name : List ℕ) (n : ℕ) (found : Occurrence)
    → slice_get names n ≡ Some name → name ≢ word → IsFoundBelow n names word found
    → IsFoundBelow (n + 1) names word found
found_more names word name n founds.Nowhere is other none =
    none_more names word name n is other none
found_more names word name n (founds.Once place) is other once =
    once_more names word name n place is other once
found_more names word name n founds.Twice is other twice = record {
  first = twice.first;
  second = twice.second;
  order = twice.order;
  within = omega (arith, twice.within);
  stands = twice.stands;
  again = twice.again;
}
