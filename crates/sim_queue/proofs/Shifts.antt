-- One element put elsewhere: what a shift of those between, and one write, leave.
use Rattle.std.proofs.Common.{◌≡◌, ◌∙◌, ℕ, zero, suc, ◌+◌, ◌<◌, ◌≤◌, List, length, get_or, set}
use Rattle.std.proofs.Common.{insert, remove, sym, arith, ◌⊎◌, inl, inr}
use Rattle.std.proofs.lemmas.Bool.{cases_order, cases_lt}
use Rattle.std.proofs.lemmas.List.{same_lists, get_or-set_same, get_or-set_other, length-set}
use Rattle.std.proofs.lemmas.List.Edits.{length-remove, length-insert}
use Rattle.std.proofs.lemmas.List.Edits.{get_or-insert_below, get_or-insert_at, get_or-insert_above}
use Rattle.std.proofs.lemmas.List.Edits.{get_or-remove_below, get_or-remove_above}

-- one that went up: those behind it, up to its new place, each stand one lower
pub moved_up : {X : Type 0} (xs ms : List X) (from to : ℕ) (y : X) → from < to → to < length xs
    → length ms ≡ length xs
    → ((k : ℕ) (d : X) → from ≤ k → k < to → get_or ms k d ≡ get_or xs (k + 1) d)
    → ((k : ℕ) (d : X) → k < from → get_or ms k d ≡ get_or xs k d)
    → ((k : ℕ) (d : X) → to < k → get_or ms k d ≡ get_or xs k d)
    → set ms to y ≡ insert (remove xs from) to y
moved_up {X} xs ms from to y up within same shifted below above =
    same_lists _ _
    (let less = length-remove xs from inside in
    omega (arith, less, same, length-set ms to y, length-insert (remove xs from) to y room))
    (λ k d lt. by k d (cases_order k to) (cases_lt k from))
  where
    inside : from < length xs
    inside = omega (arith, up, within)

    room : to ≤ length (remove xs from)
    room = let less = length-remove xs from inside in omega (arith, less, within)

    by : (k : ℕ) (d : X) → (k ≡ to) ⊎ ((k < to) ⊎ (to < k)) → (k < from) ⊎ (from ≤ k)
        → get_or (set ms to y) k d ≡ get_or (insert (remove xs from) to y) k d
    by k d (inl is) side =
        rw is (get_or-set_same ms to y d (omega (arith, same, within))
        ∙ sym (get_or-insert_at (remove xs from) to y d room))
    by k d (inr (inl lt)) (inl before) =
        get_or-set_other ms to k y d (λ e. let e' : k ≡ to = e in absurd (omega (arith, lt)))
        ∙ below k d before
        ∙ sym (get_or-insert_below (remove xs from) to y d k lt room
        ∙ get_or-remove_below xs from d k before inside)
    by k d (inr (inl lt)) (inr behind) =
        get_or-set_other ms to k y d (λ e. let e' : k ≡ to = e in absurd (omega (arith, lt)))
        ∙ shifted k d behind lt
        ∙ sym (get_or-insert_below (remove xs from) to y d k lt room
        ∙ get_or-remove_above xs from d k behind inside)
    by zero d (inr (inr gt)) side = absurd (omega (arith, gt))
    by (suc j) d (inr (inr gt)) side =
        get_or-set_other ms to (suc j) y d
        (λ e. let e' : suc j ≡ to = e in absurd (omega (arith, gt)))
        ∙ above (suc j) d gt
        ∙ rw next (sym (get_or-insert_above (remove xs from) to y d j (omega (arith, gt)) room
        ∙ get_or-remove_above xs from d j (omega (arith, gt, up)) inside))
      where
        next : suc j ≡ j + 1
        next = omega arith

-- one that went down: those before it, from its new place on, each stand one higher
pub moved_down : {X : Type 0} (xs ms : List X) (from to : ℕ) (y : X) → to ≤ from
    → from < length xs → length ms ≡ length xs
    → ((k : ℕ) (d : X) → to ≤ k → k < from → get_or ms (k + 1) d ≡ get_or xs k d)
    → ((k : ℕ) (d : X) → k ≤ to → get_or ms k d ≡ get_or xs k d)
    → ((k : ℕ) (d : X) → from < k → get_or ms k d ≡ get_or xs k d)
    → set ms to y ≡ insert (remove xs from) to y
moved_down {X} xs ms from to y down inside same shifted below above =
    same_lists _ _
    (let less = length-remove xs from inside in
    omega (arith, less, same, length-set ms to y, length-insert (remove xs from) to y room))
    (λ k d lt. by k d (cases_order k to))
  where
    room : to ≤ length (remove xs from)
    room = let less = length-remove xs from inside in omega (arith, less, down, inside)

    behind : (j : ℕ) (d : X) → to ≤ j → (j < from) ⊎ (from ≤ j)
        → get_or ms (j + 1) d ≡ get_or (remove xs from) j d
    behind j d ge (inl lt) = shifted j d ge lt ∙ sym (get_or-remove_below xs from d j lt inside)
    behind j d ge (inr le) =
        above (j + 1) d (omega (arith, le)) ∙ sym (get_or-remove_above xs from d j le inside)

    by : (k : ℕ) (d : X) → (k ≡ to) ⊎ ((k < to) ⊎ (to < k))
        → get_or (set ms to y) k d ≡ get_or (insert (remove xs from) to y) k d
    by k d (inl is) =
        rw is (get_or-set_same ms to y d (omega (arith, same, down, inside))
        ∙ sym (get_or-insert_at (remove xs from) to y d room))
    by k d (inr (inl lt)) =
        get_or-set_other ms to k y d (λ e. let e' : k ≡ to = e in absurd (omega (arith, lt)))
        ∙ below k d (omega (arith, lt))
        ∙ sym (get_or-insert_below (remove xs from) to y d k lt room
        ∙ get_or-remove_below xs from d k (omega (arith, lt, down)) inside)
    by zero d (inr (inr gt)) = absurd (omega (arith, gt))
    by (suc j) d (inr (inr gt)) =
        get_or-set_other ms to (suc j) y d
        (λ e. let e' : suc j ≡ to = e in absurd (omega (arith, gt)))
        ∙ rw next (behind j d (omega (arith, gt)) (cases_lt j from)
        ∙ sym (get_or-insert_above (remove xs from) to y d j (omega (arith, gt)) room))
      where
        next : suc j ≡ j + 1
        next = omega arith
