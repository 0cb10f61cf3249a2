-- Stations by their numbers.
use Rattle.std.proofs.Common.{◌≡◌, ℕ, ◌+◌, List, [], ◌∷◌, ◌++◌, length, refl, sym, ap, subst}
use Rattle.std.proofs.Common.{arith, Bool, true, false, cond}
use Rattle.its_station.specs.State.{StationState}
use Rattle.sim_queue.specs.Reach.{numbers_from}

-- of one station more
pub numbers_more : (passes : ℕ → StationState → Bool) (n : ℕ) (xs : List StationState)
    (x : StationState) (k : ℕ) → k ≡ n + length xs
    → numbers_from passes n (xs ++ x ∷ [])
    ≡ numbers_from passes n xs ++ cond (passes k x) (k ∷ []) []
numbers_more passes n [] x k is =
    subst (λ m. cond (passes n x) (n ∷ []) [] ≡ cond (passes m x) (m ∷ []) [])
    (sym (omega (arith, is))) refl
numbers_more passes n (y ∷ xs) x k is =
    by (passes n y) _ _ _ (numbers_more passes (n + 1) xs x k (omega (arith, is)))
  where
    by : (b : Bool) (u v t : List ℕ) → u ≡ v ++ t → cond b (n ∷ u) u ≡ cond b (n ∷ v) v ++ t
    by true u v t e = ap (λ (l : List ℕ). n ∷ l) e
    by false u v t e = e
