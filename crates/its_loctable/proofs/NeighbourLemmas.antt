-- What a look-up of the next neighbour says of the neighbours that are left.
use Rattle.std.proofs.Common.{◌≡◌, ℕ, ◌≤◌, ◌<◌, Bool, true, false, cond, ◌&&◌, List, [], ◌∷◌}
use Rattle.std.proofs.Common.{Option}
use Rattle.std.proofs.Common.{Some, None, refl, sym, ap, ◌∙◌, ltb, find, arith, true≢false}
use Rattle.std.proofs.Common.{is_some, unwrap_or}
use Rattle.std.specs.Option.{option_map}
use Rattle.std.proofs.lemmas.Bool.{ltb-true, lt-ltb, le-ltb, cond-false, and_parts}
use Rattle.its_gnvalue.specs.Values.{PositionVector}
use Rattle.its_model.specs.History.{Known}
use Rattle.its_model.specs.Stations.{is_above, is_next_neighbour, next_neighbour, AllAbove, Rises}
use Rattle.its_model.proofs.StationLemmas.{addr}
use Rattle.its_loctable.specs.Pieces.{neighbours_above}

pub is_above-up : (after : Option ℕ) (m n : ℕ) → is_above after m ≡ true → m < n
    → is_above after n ≡ true
is_above-up None m n h lt = refl
is_above-up (Some a) m n h lt = let g : a < m = ltb-true a m h in lt-ltb a n (omega arith)

-- above what lies above an address, the neighbours are those above it
pub same_rest : (after : Option ℕ) (m : ℕ) (xs : List Known) → is_above after m ≡ true
    → AllAbove m xs → neighbours_above after xs ≡ neighbours_above (Some m) xs
same_rest after m [] h all = refl
same_rest after m (x ∷ xs) h all =
    λ i. cond (x.neighbour && both i) (x ∷ same_rest after m xs h all.1 i)
    (same_rest after m xs h all.1 i)
  where
    both : is_above after (addr x) ≡ ltb m (addr x)
    both = is_above-up after m (addr x) h all.0 ∙ sym (lt-ltb m (addr x) all.0)

found_above : (p : Known → Bool) (n : ℕ) (xs : List Known) (k : Known) → AllAbove n xs
    → find p xs ≡ Some k → n < addr k
found_above p n [] k all e = absurd (true≢false (sym (ap is_some e)))
found_above p n (x ∷ xs) k all e = by (p x) e (found_above p n xs k all.1)
  where
    by : (b : Bool) → cond b (Some x) (find p xs) ≡ Some k → (find p xs ≡ Some k → n < addr k)
        → n < addr k
    by true e rest = let same : addr x ≡ addr k = ap (λ o. addr (unwrap_or o x)) e in
        let lt : n < addr x = all.0 in omega arith
    by false e rest = rest e

-- one below is none of the neighbours above
skip : (m : ℕ) (x : Known) (xs : List Known) → addr x ≤ m
    → neighbours_above (Some m) (x ∷ xs) ≡ neighbours_above (Some m) xs
skip m x xs le = by x.neighbour (ltb m (addr x)) (le-ltb m (addr x) le)
  where
    by : (a b : Bool) → b ≡ false
        → cond (a && b) (x ∷ neighbours_above (Some m) xs) (neighbours_above (Some m) xs)
        ≡ neighbours_above (Some m) xs
    by false b e = refl
    by true b e = cond-false b _ _ e

-- the neighbour that a look-up finds is the first, and behind it stand those above it
pub first_neighbour : (after : Option ℕ) (xs : List Known) (k : Known) → Rises xs
    → find (is_next_neighbour after) xs ≡ Some k
    → neighbours_above after xs ≡ k ∷ neighbours_above (Some (addr k)) xs
first_neighbour after [] k rises e = absurd (true≢false (sym (ap is_some e)))
first_neighbour after (x ∷ xs) k rises e =
    by (is_next_neighbour after x) refl e (first_neighbour after xs k rises.1)
  where
    by : (b : Bool) → is_next_neighbour after x ≡ b
        → cond b (Some x) (find (is_next_neighbour after) xs) ≡ Some k
        → (find (is_next_neighbour after) xs ≡ Some k
        → neighbours_above after xs ≡ k ∷ neighbours_above (Some (addr k)) xs)
        → cond b (x ∷ neighbours_above after xs) (neighbours_above after xs) ≡ k
        ∷ neighbours_above (Some (addr k)) (x ∷ xs)
    by true q e rest =
        let same : x ≡ k = ap (λ o. unwrap_or o x) e in
        ap (λ l. x ∷ l)
        (same_rest after (addr x) xs
        (and_parts x.neighbour (is_above after (addr x)) q).1 rises.0
        ∙ sym (skip (addr x) x xs (omega arith)))
        ∙ ap (λ y. y ∷ neighbours_above (Some (addr y)) (x ∷ xs)) same
    by false q e rest =
        let lt : addr x < addr k = found_above (is_next_neighbour after) (addr x) xs k rises.0 e in
        rest e ∙ ap (λ l. k ∷ l) (sym (skip (addr k) x xs (omega arith)))

pub no_neighbour : (after : Option ℕ) (xs : List Known) → find (is_next_neighbour after) xs ≡ None
    → neighbours_above after xs ≡ []
no_neighbour after [] e = refl
no_neighbour after (x ∷ xs) e = by (is_next_neighbour after x) e (no_neighbour after xs)
  where
    by : (b : Bool) → cond b (Some x) (find (is_next_neighbour after) xs) ≡ None
        → (find (is_next_neighbour after) xs ≡ None → neighbours_above after xs ≡ [])
        → cond b (x ∷ neighbours_above after xs) (neighbours_above after xs) ≡ []
    by true e rest = absurd (true≢false (ap is_some e))
    by false e rest = rest e

-- the neighbour whose vector was found, before those above it
pub record IsFirst (after : Option ℕ) (xs : List Known) (v : PositionVector) : Type 0 where
  pub k : Known
  pub vector : k.vector ≡ v
  pub ahead : neighbours_above after xs ≡ k ∷ neighbours_above (Some v.address) xs

pub is_first : (after : Option ℕ) (xs : List Known) (v : PositionVector) → Rises xs
    → Some v ≡ option_map (λ (k : Known). k.vector) (next_neighbour after xs) → IsFirst after xs v
is_first after xs v rises e = by (next_neighbour after xs) refl e
  where
    by : (o : Option Known) → next_neighbour after xs ≡ o
        → Some v ≡ option_map (λ (k : Known). k.vector) o → IsFirst after xs v
    by None found e = absurd (true≢false (ap is_some e))
    by (Some k) found e =
        let same : k.vector ≡ v = sym (ap (λ o. unwrap_or o v) e) in
        record {
          k = k;
          vector = same;
          ahead = first_neighbour after xs k rises found
              ∙ ap (λ (w : PositionVector). k ∷ neighbours_above (Some w.address) xs) same;
        }

pub is_last : (after : Option ℕ) (xs : List Known)
    → None ≡ option_map (λ (k : Known). k.vector) (next_neighbour after xs)
    → neighbours_above after xs ≡ []
is_last after xs e = by (next_neighbour after xs) refl e
  where
    by : (o : Option Known) → next_neighbour after xs ≡ o
        → None ≡ option_map (λ (k : Known). k.vector) o → neighbours_above after xs ≡ []
    by None found e = no_neighbour after xs found
    by (Some k) found e = absurd (true≢false (sym (ap is_some e)))
