-- A number of an interval, times another or divided, is in the interval that is made so.
use Rattle.std.proofs.Common.{◌≡◌, ◌⊎◌, ℕ, zero, suc, ◌+◌, ◌*◌, ◌/◌, ◌≤◌, Bool, true, false}
use Rattle.std.proofs.Common.{cond, refl, arith, inl, inr}
use Rattle.std.specs.Prelude.{ℤ, pos, negsuc, neg_ℤ, ◌+ℤ◌, ◌-ℤ◌, ◌*ℤ◌, ◌≤ℤ◌, int_div, int_lt}
use Rattle.std.specs.Prelude.{unsigned_abs, nat_lt}
use Rattle.std.proofs.lemmas.Bool.Decides.{nat_tests}
use Rattle.std.proofs.lemmas.Int.{ints}
use Rattle.std.proofs.lemmas.Nat.{le-div}
use Rattle.std.proofs.Math.Nat.{div-mul-le_self, div-zero, mul-le-mul_right}
use borrow.Author.Differences.{up, down}
use Rattle.its_duties.specs.declared.interval.Interval.{Interval}
use Rattle.its_duties.specs.Places.{IsIn, int_least, int_greatest, times, plus, minus}
use Rattle.its_duties.specs.Places.{ten_thousandths, farthest}

-- ---- quotients

div_more : (a b d : ℕ) → a ≤ b → a / d ≤ b / d
div_more a b zero h = omega (arith, div-zero a, div-zero b)
div_more a b (suc d) h =
    le-div (a / suc d) b (suc d) (omega arith) (omega (arith, h, div-mul-le_self a (suc d)))

neg_below : (m n : ℕ) → neg_ℤ (pos m) ≤ℤ pos n
neg_below m n = omega (arith, ints)

neg_less : (m n : ℕ) → m ≤ n → neg_ℤ (pos n) ≤ℤ neg_ℤ (pos m)
neg_less m n h = omega (arith, ints)

pub quotient_more : (a b : ℤ) (d : ℕ) → a ≤ℤ b → int_div a (pos d) ≤ℤ int_div b (pos d)
quotient_more (pos a) (pos b) d h =
    let below : a / d ≤ b / d = div_more a b d (omega (arith, ints)) in omega (arith, ints)
quotient_more (pos a) (negsuc b) d h = absurd (omega (arith, ints))
quotient_more (negsuc a) (pos b) d h = neg_below (suc a / d) (b / d)
quotient_more (negsuc a) (negsuc b) d h =
    neg_less (suc b / d) (suc a / d) (div_more (suc b) (suc a) d (omega (arith, ints)))

-- ---- products

pub product_more : (a b : ℤ) (n : ℕ) → a ≤ℤ b → (a *ℤ pos n) ≤ℤ (b *ℤ pos n)
product_more a b n h =
    let more : (up a + down b) * n ≤ (up b + down a) * n =
    mul-le-mul_right n (omega (arith, ints)) in
    omega (arith, ints)

product_less : (a b : ℤ) (n : ℕ) → a ≤ℤ b → (b *ℤ negsuc n) ≤ℤ (a *ℤ negsuc n)
product_less a b n h =
    let more : (up a + down b) * suc n ≤ (up b + down a) * suc n =
    mul-le-mul_right (suc n) (omega (arith, ints)) in
    omega (arith, ints)

-- ---- the lesser of two, and the greater

least_by : (t : Bool) (a b n : ℤ) → int_lt b a ≡ t → (a ≤ℤ n) ⊎ (b ≤ℤ n) → cond t b a ≤ℤ n
least_by true a b n is (inl h) = omega (arith, ints)
least_by true a b n is (inr h) = h
least_by false a b n is (inl h) = h
least_by false a b n is (inr h) = omega (arith, ints)

least_below : (a b n : ℤ) → (a ≤ℤ n) ⊎ (b ≤ℤ n) → int_least a b ≤ℤ n
least_below a b n h = least_by (int_lt b a) a b n refl h

greatest_by : (t : Bool) (a b n : ℤ) → int_lt a b ≡ t → (n ≤ℤ a) ⊎ (n ≤ℤ b) → n ≤ℤ cond t b a
greatest_by true a b n is (inl h) = omega (arith, ints)
greatest_by true a b n is (inr h) = h
greatest_by false a b n is (inl h) = h
greatest_by false a b n is (inr h) = omega (arith, ints)

greatest_above : (a b n : ℤ) → (n ≤ℤ a) ⊎ (n ≤ℤ b) → n ≤ℤ int_greatest a b
greatest_above a b n h = greatest_by (int_lt a b) a b n refl h

-- ---- what is made of a number of an interval

pub in_times : (s : Interval) (n factor : ℤ) → IsIn s n → IsIn (times s factor) (n *ℤ factor)
in_times s n (pos factor) h = (
  least_below _ _ _ (inl (product_more s.low n factor h.0)),
  greatest_above _ _ _ (inr (product_more n s.high factor h.1)),
)
in_times s n (negsuc factor) h = (
  least_below _ _ _ (inr (product_less n s.high factor h.1)),
  greatest_above _ _ _ (inl (product_less s.low n factor h.0)),
)

pub in_plus : (s t : Interval) (m n : ℤ) → IsIn s m → IsIn t n → IsIn (plus s t) (m +ℤ n)
in_plus s t m n h i = (omega (arith, ints, h.0, i.0), omega (arith, ints, h.1, i.1))

pub in_minus : (s t : Interval) (m n : ℤ) → IsIn s m → IsIn t n → IsIn (minus s t) (m -ℤ n)
in_minus s t m n h i = (omega (arith, ints, h.0, i.1), omega (arith, ints, h.1, i.0))

pub in_ten_thousandths : (s : Interval) (n : ℤ) → IsIn s n
    → IsIn (ten_thousandths s) (int_div n (pos 10000))
in_ten_thousandths s n h = (
  quotient_more s.low n 10000 h.0,
  quotient_more n s.high 10000 h.1,
)

-- wider on both sides
pub in_wider : (s : Interval) (n : ℤ) (a b : ℕ) → IsIn s n
    → IsIn (record { low = s.low -ℤ pos a; high = s.high +ℤ pos b }) n
in_wider s n a b h = (omega (arith, ints, h.0), omega (arith, ints, h.1))

-- ---- magnitudes

greater_by : (t : Bool) (a b n : ℕ) → nat_lt a b ≡ t → (n ≤ a) ⊎ (n ≤ b) → n ≤ cond t b a
greater_by true a b n is (inl h) = omega (arith, less a b is)
  where
    less : (a b : ℕ) → nat_lt a b ≡ true → a ≤ b
    less a b e = grind (arith, nat_tests)
greater_by true a b n is (inr h) = h
greater_by false a b n is (inl h) = h
greater_by false a b n is (inr h) = omega (arith, less a b is)
  where
    less : (a b : ℕ) → nat_lt a b ≡ false → b ≤ a
    less a b e = grind (arith, nat_tests)

-- at most that of one of the ends
by_an_end : (low n high : ℤ) → low ≤ℤ n → n ≤ℤ high
    → (unsigned_abs n ≤ unsigned_abs low) ⊎ (unsigned_abs n ≤ unsigned_abs high)
by_an_end low (pos n) high h i = inr (omega (arith, ints))
by_an_end low (negsuc n) high h i = inl (omega (arith, ints))

pub in_farthest : (s : Interval) (n : ℤ) → IsIn s n → unsigned_abs n ≤ farthest s
in_farthest s n h =
    greater_by (nat_lt (unsigned_abs s.low) (unsigned_abs s.high)) (unsigned_abs s.low)
    (unsigned_abs s.high) (unsigned_abs n) refl (by_an_end s.low n s.high h.0 h.1)
