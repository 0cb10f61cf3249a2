-- Words that are nearest among the first so many.
use Rattle.std.proofs.Common.{◌≡◌, ℕ, ◌+◌, ◌<◌, ◌≤◌, List, length}
use Rattle.std.proofs.Common.{Option, Some, None, refl, subst, arith}
use Rattle.std.specs.Prelude.{IfNone, IfSome, slice_get}
use Rattle.its_words.specs.Nearest.{changes, IsNearest, IsNearestBelow, IsFar, IsFarBelow}

-- what is known of the first so many: the nearest, or that there is none
abbrev pub IsSoFar : ℕ → List ℕ → List (List ℕ) → Option ℕ → ℕ → Type 0
IsSoFar count word known (Some place) fewest =
    (h : IsNearestBelow count word known place) × (fewest ≡ changes word h.near)
IsSoFar count word known None fewest = IsFarBelow count word known × (fewest ≡ 3)

-- one more word, which is nearer
pub nearer : (word : List ℕ) (known : List (List ℕ)) (n fewest : ℕ) (found : Option ℕ)
    (w : List ℕ) → slice_get known n ≡ Some w → changes word w < fewest
    → IsSoFar n word known found fewest
    → IsSoFar (n + 1) word known (Some n) (changes word w)
nearer word known n fewest (Some place) w is lt (h, same) = (
  record {
    near = w;
    stands = is;
    within = omega arith;
    close = omega (arith, lt, same, h.close);
    fewest = λ other v below stands. grind (arith, is, lt, same, h.fewest other v);
    first = λ other v below stands. omega (arith, lt, same, h.fewest other v below stands);
  },
  refl,
)
nearer word known n fewest None w is lt (far, same) = (
  record {
    near = w;
    stands = is;
    within = omega arith;
    close = omega (arith, lt, same);
    fewest = λ other v below stands. grind (arith, is, lt, same, far other v);
    first = λ other v below stands. omega (arith, lt, same, far other v below stands);
  },
  refl,
)

-- one more word, which isn't
pub no_nearer : (word : List ℕ) (known : List (List ℕ)) (n fewest : ℕ) (found : Option ℕ)
    (w : List ℕ) → slice_get known n ≡ Some w → fewest ≤ changes word w
    → IsSoFar n word known found fewest → IsSoFar (n + 1) word known found fewest
no_nearer word known n fewest (Some place) w is le (h, same) = (
  record {
    near = h.near;
    stands = h.stands;
    within = omega (arith, h.within);
    close = h.close;
    fewest = λ other v below stands. grind (arith, is, le, same, h.fewest other v);
    first = h.first;
  },
  same,
)
no_nearer word known n fewest None w is le (far, same) =
    (λ other v below stands. grind (arith, is, le, same, far other v), same)

-- of all words
pub some_nearest : (count fewest : ℕ) (word : List ℕ) (known : List (List ℕ)) (found : Option ℕ)
    → count ≡ length known → IsSoFar count word known found fewest
    → IfSome found (IsNearest word known)
some_nearest count fewest word known (Some place) all h =
    subst (λ k. IsNearestBelow k word known place) all h.0
some_nearest count fewest word known None all h = tt

pub none_near : (count fewest : ℕ) (word : List ℕ) (known : List (List ℕ)) (found : Option ℕ)
    → count ≡ length known → IsSoFar count word known found fewest
    → IfNone found (IsFar word known)
none_near count fewest word known (Some place) all h = tt
none_near count fewest word known None all h = subst (λ k. IsFarBelow k word known) all h.0
