-- Parts of what stands in an order: between two keys.
use Rattle.std.proofs.Common.{◌≡◌, ℕ, ◌+◌, ◌<◌, List, [], ◌∷◌, Bool, true, false, ◌&&◌, filter}
use Rattle.std.proofs.Common.{refl, sym, ap, subst, ◌∙◌, arith, length, take, drop, ◌++◌, ltb, leb}
use Rattle.std.specs.Prelude.{nat_le}
use Rattle.std.proofs.lemmas.Bool.{le-leb, lt-leb, ltb-true, ltb-false, and_from, and_left}
use Rattle.std.proofs.lemmas.Bool.{and_right}
use Rattle.std.proofs.lemmas.List.{get_or-take, get_or-drop, length-take, length-drop}
use Rattle.std.proofs.lemmas.List.{take-append-drop, append-nil}
use Rattle.std.proofs.lemmas.List.Elements.{filter-append, recursion_from_All}
use Rattle.std.proofs.lemmas.List.Elements.{All-from_recursion, All-take}
use Rattle.std.specs.List.{AllWithin, AllByRecursion}
use Rattle.std.specs.List.Sorted.{IsPartitionPoint}
use Rattle.sim_queue.specs.declared.places.place_index.Standing.{Standing}

-- what is true of a part is true of it taken alone
all_take : (P : Standing → Type 0) (xs : List Standing) (i : ℕ) → AllWithin P xs 0 i
    → AllByRecursion P (take i xs)
all_take P xs i h =
    recursion_from_All P (take i xs) (λ k d lt.
    let within : k < i = omega (arith, lt, length-take i xs) in
    subst P (sym (get_or-take i xs k d within)) (h k d (omega arith) within))

all_drop : (P : Standing → Type 0) (xs : List Standing) (i : ℕ) → AllWithin P xs i (length xs)
    → AllByRecursion P (drop i xs)
all_drop P xs i h =
    recursion_from_All P (drop i xs) (λ k d lt.
    subst P (sym (get_or-drop i xs k d))
    (h (i + k) d (omega arith) (omega (arith, lt, length-drop i xs))))

keeps_none : (p : Standing → Bool) (xs : List Standing) → AllByRecursion (λ s. p s ≡ false) xs
    → filter p xs ≡ []
keeps_none p [] h = refl
keeps_none p (x ∷ xs) h = rw h.0 (keeps_none p xs h.1)

keeps_all : (p : Standing → Bool) (xs : List Standing) → AllByRecursion (λ s. p s ≡ true) xs
    → filter p xs ≡ xs
keeps_all p [] h = refl
keeps_all p (x ∷ xs) h = rw h.0 (ap (λ (l : List Standing). x ∷ l) (keeps_all p xs h.1))

weaker : (P Q : Standing → Type 0) → ((s : Standing) → P s → Q s) → (xs : List Standing)
    → AllByRecursion P xs → AllByRecursion Q xs
weaker P Q imp [] h = tt
weaker P Q imp (x ∷ xs) h = (imp x h.0, weaker P Q imp xs h.1)

both : (P Q R : Standing → Type 0) → ((s : Standing) → P s → Q s → R s) → (xs : List Standing)
    → AllByRecursion P xs → AllByRecursion Q xs → AllByRecursion R xs
both P Q R imp [] h g = tt
both P Q R imp (x ∷ xs) h g = (imp x h.0 g.0, both P Q R imp xs h.1 g.1)

-- so far in those that follow
within_drop : (P : Standing → Type 0) (xs : List Standing) (j : ℕ) → AllByRecursion P xs
    → AllByRecursion P (take j xs)
within_drop P xs j h =
    recursion_from_All P (take j xs) (All-take P j xs (All-from_recursion P xs h))

-- between two partition points stand those between
pub between : (key : Standing → ℕ) (low high : ℕ) (xs : List Standing) (i j : ℕ)
    → IsPartitionPoint (λ s. ltb (key s) low ≡ true) (λ s. ltb (key s) low ≡ false) xs i
    → IsPartitionPoint (λ s. leb (key s) high ≡ true) (λ s. leb (key s) high ≡ false) (drop i xs) j
    → take j (drop i xs) ≡ filter (λ s. nat_le low (key s) && nat_le (key s) high) xs
between key low high xs i j first second =
    let p : Standing → Bool = λ s. nat_le low (key s) && nat_le (key s) high in
    let ys = drop i xs in
    let Below : Bool → Standing → Type 0 = λ b s. ltb (key s) low ≡ b in
    let UpTo : Bool → Standing → Type 0 = λ b s. leb (key s) high ≡ b in
    let Kept : Bool → Standing → Type 0 = λ b s. p s ≡ b in
    let under : AllByRecursion (Kept false) (take i xs) =
    weaker (Below true) (Kept false) (λ s h. and_left (leb low (key s)) _
    (lt-leb low (key s) (ltb-true _ _ h))) (take i xs)
    (all_take (Below true) xs i first.0) in
    let above : AllByRecursion (Below false) ys = all_drop (Below false) xs i first.1 in
    let inside : AllByRecursion (Kept true) (take j ys) =
    both (Below false) (UpTo true) (Kept true) (λ s h g. and_from (leb low (key s)) _
    (le-leb low (key s) (ltb-false _ _ h)) g)
    (take j ys) (within_drop (Below false) ys j above) (all_take (UpTo true) ys j second.0) in
    let over : AllByRecursion (Kept false) (drop j ys) =
    weaker (UpTo false) (Kept false)
    (λ s h. and_right (leb low (key s)) (leb (key s) high) h) (drop j ys)
    (all_drop (UpTo false) ys j second.1) in
    let split : filter p ys ≡ take j ys =
    ap (filter p) (sym (take-append-drop j ys)) ∙ filter-append p (take j ys) (drop j ys)
    ∙ ap (λ (l : List Standing). filter p (take j ys) ++ l) (keeps_none p (drop j ys) over)
    ∙ append-nil (filter p (take j ys)) ∙ keeps_all p (take j ys) inside in
    sym (ap (filter p) (sym (take-append-drop i xs)) ∙ filter-append p (take i xs) ys
    ∙ ap (λ (l : List Standing). l ++ filter p ys) (keeps_none p (take i xs) under) ∙ split)
