-- What a piece says of the walk.
use Rattle.std.proofs.Common.{◌≡◌, ℕ, suc, zero, ◌^◌, ◌≤◌, ◌<◌, Bool, true, false, cond, List, []}
use Rattle.std.proofs.Common.{◌∷◌, ◌++◌, Option, Some, None, refl, sym, ap, ◌∙◌, ltb, take, drop}
use Rattle.std.proofs.Common.{map}
use Rattle.std.proofs.Common.{length, get_or, slice_get, true≢false, is_some, unwrap_or, arith}
use Rattle.std.proofs.lemmas.Bool.{ltb-true, lt-ltb, le-ltb, cond-true, cond-false}
use Rattle.std.proofs.lemmas.List.{length-map, length-take}
use Rattle.its_gnvalue.specs.Values.{Position}
use Rattle.its_geometry.specs.Nearest.{distances, IsMet, IsFirstBelow}
use Rattle.its_model.specs.History.{Known}
use Rattle.its_model.specs.Stations.{is_above, next_neighbour, Rises}
use Rattle.its_model.specs.Decision.{distance_of}
use Rattle.its_model.proofs.StationLemmas.{addr}
use Rattle.its_loctable.specs.Pieces.{neighbours_above}
use Rattle.its_loctable.proofs.ListLemmas.{drop_past}
use Rattle.its_loctable.proofs.NeighbourLemmas.{first_neighbour, no_neighbour}
use Rattle.its_forwarding.proofs.Walk.{walk, room}

abbrev pub spot : Known → Position
spot k = k.vector.place

module _ (c : Position) where
  -- those that are no nearer change nothing
  pub walk-farther : (limit : ℕ) (best : Option ℕ) (front rest : List Known)
      → ((k : ℕ) → k < length front → limit ≤ get_or (distances c (map spot front)) k 0)
      → walk c limit best (front ++ rest) ≡ walk c limit best rest
  walk-farther limit best [] rest far = refl
  walk-farther limit best (x ∷ xs) rest far =
      cond-false (ltb (distance_of c x) limit) _ _ (le-ltb _ _ (far 0 (omega arith)))
      ∙ walk-farther limit best xs rest (λ k h. far (suc k) (omega arith))

  -- the first of the nearest is the best from then on
  pub walk-nearest : (limit least : ℕ) (best : Option ℕ) (front rest : List Known) (i a : ℕ)
      → IsFirstBelow limit least (distances c (map spot front)) (length front) i
      → a ≡ get_or (map addr front) i a
      → walk c limit best (front ++ rest) ≡ walk c least (Some a) rest
  walk-nearest limit least best [] rest i a h is = absurd (omega (arith, h.within))
  walk-nearest limit least best (x ∷ xs) rest zero a h is =
      let same : distance_of c x ≡ least = h.is in
      cond-true (ltb (distance_of c x) limit) _ _ (lt-ltb _ _ (omega (arith, same, h.below)))
      ∙ (λ j. walk c (same j) (Some (is' j)) (xs ++ rest))
      ∙ walk-farther least (Some a) xs rest (λ k l. h.lowest (suc k) (omega arith))
    where
      is' : addr x ≡ a
      is' = sym is
  walk-nearest limit least best (x ∷ xs) rest (suc i) a h is =
      by (ltb (distance_of c x) limit) refl
      (λ low next lt. walk-nearest low least next xs rest i a (tail low lt) is)
    where
      tail : (low : ℕ) → least < low
          → IsFirstBelow low least (distances c (map spot xs)) (length xs) i
      tail low lt = record {
        within = omega (arith, h.within);
        is = h.is;
        below = lt;
        lowest = λ k l. h.lowest (suc k) (omega arith);
        first = λ k l. h.first (suc k) (omega arith);
      }

      by : (b : Bool) → ltb (distance_of c x) limit ≡ b
          → ((low : ℕ) (next : Option ℕ) → least < low
          → walk c low next (xs ++ rest) ≡ walk c least (Some a) rest)
          → cond b (walk c (distance_of c x) (Some (addr x)) (xs ++ rest))
          (walk c limit best (xs ++ rest)) ≡ walk c least (Some a) rest
      by true e on = on (distance_of c x) (Some (addr x)) (h.first 0 (omega arith))
      by false e on = on limit best h.below

  cut : (ns : List Known) (n : ℕ) → ns ≡ take n ns ++ drop n ns
  cut [] zero = refl
  cut [] (suc n) = refl
  cut (x ∷ xs) zero = refl
  cut (x ∷ xs) (suc n) = ap (λ l. x ∷ l) (cut xs n)

  pub piece-none : (limit least : ℕ) (best : Option ℕ) (ns : List Known)
      → IsMet limit least (distances c (map spot (take 32 ns))) (length (map spot (take 32 ns)))
      None
      → walk c limit best ns ≡ walk c least best (drop 32 ns)
  piece-none limit least best ns h =
      ap (walk c limit best) (cut ns 32)
      ∙ walk-farther limit best (take 32 ns) (drop 32 ns)
      (λ k l. h.1 k (omega (arith, l, length-map (take 32 ns) spot)))
      ∙ ap (λ m. walk c m best (drop 32 ns)) (sym h.0)

  pub piece-some : (limit least : ℕ) (best : Option ℕ) (ns : List Known) (i a : ℕ)
      → IsMet limit least (distances c (map spot (take 32 ns))) (length (map spot (take 32 ns)))
      (Some i)
      → a ≡ get_or (map addr (take 32 ns)) i a
      → walk c limit best ns ≡ walk c least (Some a) (drop 32 ns)
  piece-some limit least best ns i a h is =
      ap (walk c limit best) (cut ns 32)
      ∙ walk-nearest limit least best (take 32 ns) (drop 32 ns) i a
      (record {
        within = omega (arith, h.within, length-map (take 32 ns) spot);
        is = h.is;
        below = h.below;
        lowest = λ k l. h.lowest k (omega (arith, l, length-map (take 32 ns) spot));
        first = h.first;
      }) is

-- ---- what is left behind a piece
pub left_behind : (after : Option ℕ) (xs : List Known) (n a : ℕ) → Rises xs
    → slice_get (map addr (take (suc n) (neighbours_above after xs))) n ≡ Some a
    → drop (suc n) (neighbours_above after xs) ≡ neighbours_above (Some a) xs
left_behind after xs zero a rises e = by (next_neighbour after xs) refl
  where
    by : (o : Option Known) → next_neighbour after xs ≡ o
        → drop 1 (neighbours_above after xs) ≡ neighbours_above (Some a) xs
    by None found = absurd (true≢false (sym (ap is_some
        (sym (ap (λ l. slice_get (map addr (take 1 l)) 0) (no_neighbour after xs found)) ∙ e))))
    by (Some k) found =
        let ahead = first_neighbour after xs k rises found in
        let same : addr k ≡ a =
        ap (λ o. unwrap_or o a) (sym (ap (λ l. slice_get (map addr (take 1 l)) 0) ahead) ∙ e) in
        ap (drop 1) ahead ∙ rest_is (neighbours_above (Some (addr k)) xs)
        ∙ ap (λ n. neighbours_above (Some n) xs) same
      where
        rest_is : (l : List Known) → drop 0 l ≡ l
        rest_is [] = refl
        rest_is (x ∷ l) = refl
left_behind after xs (suc m) a rises e =
    by (next_neighbour after xs) refl (λ k. left_behind (Some (addr k)) xs m a rises)
  where
    by : (o : Option Known) → next_neighbour after xs ≡ o
        → ((k : Known)
        → slice_get (map addr (take (suc m) (neighbours_above (Some (addr k)) xs))) m ≡ Some a
        → drop (suc m) (neighbours_above (Some (addr k)) xs) ≡ neighbours_above (Some a) xs)
        → drop (suc (suc m)) (neighbours_above after xs) ≡ neighbours_above (Some a) xs
    by None found on = absurd (true≢false (sym (ap is_some
        (sym (ap (λ l. slice_get (map addr (take (suc (suc m)) l)) (suc m))
        (no_neighbour after xs found)) ∙ e))))
    by (Some k) found on =
        let ahead = first_neighbour after xs k rises found in
        ap (drop (suc (suc m))) ahead
        ∙ on k (sym (ap (λ l. slice_get (map addr (take (suc (suc m)) l)) (suc m)) ahead) ∙ e)

pub none_behind : (ns : List Known) → length (map addr (take 32 ns)) < 32 → drop 32 ns ≡ []
none_behind ns h =
    drop_past ns 32 (omega (arith, h, length-map (take 32 ns) addr, length-take 32 ns))

-- above more there is less room
pub room-less : (after : Option ℕ) (a : ℕ) → is_above after a ≡ true → a < 2 ^ 64
    → room (Some a) < room after
room-less None a h lt = omega arith
room-less (Some low) a h lt = let more : low < a = ltb-true low a h in omega arith

pub get_at : (xs : List ℕ) (i a : ℕ) → slice_get xs i ≡ Some a → get_or xs i a ≡ a
get_at [] i a e = absurd (true≢false (sym (ap is_some e)))
get_at (x ∷ xs) zero a e = ap (λ o. unwrap_or o a) e
get_at (x ∷ xs) (suc i) a e = get_at xs i a e
