-- The count of the sources that share, as frames come and go.
use Rattle.std.proofs.Common.{◌≡◌, ℕ, suc, zero, ◌+◌, ◌-◌, ◌≤◌, ◌&&◌, ◌||◌, Bool}
use Rattle.std.proofs.Common.{true, false, cond, not, eqb, List, [], ◌∷◌, ◌++◌, length, take}
use Rattle.std.proofs.Common.{Option, Some, None, slice_get, refl, sym, ap, ◌∙◌, subst, arith}
use Rattle.std.proofs.lemmas.Option.{none-some, same_Some}
use Rattle.std.proofs.lemmas.Bool.{eqb-true, eq-eqb, false≢true}
use Rattle.its_governor.specs.declared.shares.SharedFrame.{SharedFrame}
use Rattle.its_governor.specs.Shares.{has_sharer, is_sharing, sharers, is_alone, counted_with}
use Rattle.its_governor.specs.Shares.{counted_without, IsTally}

-- there are no more of them than frames
pub few : (frames : List SharedFrame) → sharers frames ≤ length frames
few [] = omega arith
few (f ∷ frames) =
    by (f.pressed && not (has_sharer f.source frames)) (few frames)
  where
    by : (p : Bool) → sharers frames ≤ length frames
        → cond p (sharers frames + 1) (sharers frames) ≤ length (f ∷ frames)
    by true h = omega (arith, h)
    by false h = omega (arith, h)

-- one more among others
has_last : (source : ℕ) (frames : List SharedFrame) (e : SharedFrame)
    → has_sharer source (frames ++ e ∷ []) ≡ (has_sharer source frames || is_sharing source e)
has_last source [] e = or_false (is_sharing source e)
  where
    or_false : (p : Bool) → (p || false) ≡ p
    or_false true = refl
    or_false false = refl
has_last source (f ∷ frames) e =
    ap (λ (p : Bool). is_sharing source f || p) (has_last source frames e)
    ∙ sym (assoc (is_sharing source f) (has_sharer source frames) (is_sharing source e))
  where
    assoc : (a b c : Bool) → ((a || b) || c) ≡ (a || (b || c))
    assoc true b c = refl
    assoc false b c = refl

same_back : (a b : ℕ) → eqb a b ≡ eqb b a
same_back a b = by (eqb a b) (eqb b a) refl refl
  where
    by : (p q : Bool) → eqb a b ≡ p → eqb b a ≡ q → p ≡ q
    by true q e f = sym (eq-eqb b a (sym (eqb-true a b e))) ∙ f
    by false true e f = sym e ∙ eq-eqb a b (sym (eqb-true b a f))
    by false false e f = refl

-- the count with one frame in front and one behind
combine : (n : ℕ) (fp ep same hf he : Bool) → (same ≡ true → hf ≡ he)
    → cond (fp && not (hf || (ep && same))) (cond (ep && not he) (n + 1) n + 1)
    (cond (ep && not he) (n + 1) n)
    ≡ cond (ep && not ((fp && same) || he)) (cond (fp && not hf) (n + 1) n + 1)
    (cond (fp && not hf) (n + 1) n)
combine n false ep same hf he h = refl
combine n true false same true he h = refl
combine n true false same false he h = refl
combine n true true true true true h = refl
combine n true true true false false h = refl
combine n true true true true false h = absurd (false≢true (sym (h refl)))
combine n true true true false true h = absurd (false≢true (h refl))
combine n true true false true true h = refl
combine n true true false true false h = refl
combine n true true false false true h = refl
combine n true true false false false h = refl

-- the count with the oldest frame, by that without it
with_last : (frames : List SharedFrame) (e : SharedFrame)
    → sharers (frames ++ e ∷ []) ≡ cond (is_alone frames e) (sharers frames + 1) (sharers frames)
with_last [] e = refl
with_last (f ∷ frames) e =
    let n = sharers frames in
    let hf = has_sharer f.source frames in
    let he = has_sharer e.source frames in
    let same = eqb e.source f.source in
    ap (λ (p : Bool). cond (f.pressed && not p) (sharers (frames ++ e ∷ []) + 1)
    (sharers (frames ++ e ∷ []))) (has_last f.source frames e)
    ∙ ap (λ (m : ℕ). cond (f.pressed && not (hf || (e.pressed && same))) (m + 1) m)
    (with_last frames e)
    ∙ combine n f.pressed e.pressed same hf he
    (λ is. ap (λ (source : ℕ). has_sharer source frames) (sym (eqb-true e.source f.source is)))
    ∙ ap (λ (p : Bool). cond (e.pressed && not ((f.pressed && p) || he))
    (cond (f.pressed && not hf) (n + 1) n + 1) (cond (f.pressed && not hf) (n + 1) n))
    (same_back e.source f.source)

-- ---- the memory, full or not

-- nothing goes
none_gone : (n : ℕ) (xs : List SharedFrame) → slice_get xs n ≡ None → take n xs ≡ xs
none_gone zero [] e = refl
none_gone zero (x ∷ xs) e = absurd (none-some x (sym e))
none_gone (suc n) [] e = refl
none_gone (suc n) (x ∷ xs) e = ap (λ (l : List SharedFrame). x ∷ l) (none_gone n xs e)

-- the last goes
one_gone : (n : ℕ) (xs : List SharedFrame) (e : SharedFrame) → length xs ≤ suc n
    → slice_get xs n ≡ Some e → xs ≡ take n xs ++ e ∷ []
one_gone n [] e le is = absurd (none-some e is)
one_gone zero (x ∷ []) e le is = ap (λ (y : SharedFrame). y ∷ []) (same_Some x e is)
one_gone zero (x ∷ y ∷ xs) e le is = absurd (omega (arith, le))
one_gone (suc n) (x ∷ xs) e le is =
    ap (λ (l : List SharedFrame). x ∷ l) (one_gone n xs e (omega (arith, le)) is)

-- no more than fit
take_few : (n : ℕ) (xs : List SharedFrame) → length (take n xs) ≤ n
take_few zero xs = omega arith
take_few (suc n) [] = omega arith
take_few (suc n) (x ∷ xs) = let few = take_few n xs in omega (arith, few)

gone_by : (frames xs : List SharedFrame) (count : ℕ) (o : Option SharedFrame)
    → count ≡ sharers xs → (o ≡ None → frames ≡ xs)
    → ((e : SharedFrame) → o ≡ Some e → xs ≡ frames ++ e ∷ [])
    → counted_without count o frames ≡ sharers frames
gone_by frames xs count None is none some = is ∙ ap sharers (sym (none refl))
gone_by frames xs count (Some e) is none some =
    ap (λ (n : ℕ). cond (is_alone frames e) (n - 1) n)
    (is ∙ ap sharers (some e refl) ∙ with_last frames e)
    ∙ by (is_alone frames e) (sharers frames)
  where
    by : (p : Bool) (n : ℕ) → cond p (cond p (n + 1) n - 1) (cond p (n + 1) n) ≡ n
    by true n = omega arith
    by false n = refl

pub tally_kept : (frames : List SharedFrame) (limit count : ℕ) (f : SharedFrame)
    → IsTally frames limit count
    → IsTally (take limit (f ∷ frames)) limit (counted_without (counted_with count frames f)
    (slice_get (f ∷ frames) limit) (take limit (f ∷ frames)))
tally_kept frames limit count f tally = record {
  few = take_few limit (f ∷ frames);
  most = tally.most;
  is = gone_by (take limit (f ∷ frames)) (f ∷ frames) (counted_with count frames f)
      (slice_get (f ∷ frames) limit)
      (ap (λ (n : ℕ). counted_with n frames f) tally.is)
      (λ none. none_gone limit (f ∷ frames) none)
      (λ e some. one_gone limit (f ∷ frames) e (one_more tally.few) some);
}
  where
    one_more : length frames ≤ limit → length (f ∷ frames) ≤ suc limit
    one_more le = omega (arith, le)

-- the count is at most as many as are kept
pub count_fits : (frames : List SharedFrame) (limit count : ℕ) → IsTally frames limit count
    → count ≤ 256
count_fits frames limit count tally =
    let most = few frames in
    let within = tally.few in
    let limited = tally.most in
    let is = tally.is in
    omega (arith, most, within, limited, is)

-- the count that `note` keeps, by what it was told
pub tally_by : (frames : List SharedFrame) (limit count : ℕ) (f : SharedFrame)
    → IsTally frames limit count → (new : List SharedFrame) (bound more less : ℕ)
    (oldest : Option SharedFrame) → new ≡ take limit (f ∷ frames) → bound ≡ limit
    → more ≡ counted_with count frames f → oldest ≡ slice_get (f ∷ frames) limit
    → less ≡ counted_without more oldest new → IsTally new bound less
tally_by frames limit count f tally new bound more less oldest a b c d e =
    let kept = take limit (f ∷ frames) in
    let more_is = counted_with count frames f in
    let gone = slice_get (f ∷ frames) limit in
    subst (λ (l : List SharedFrame). IsTally l bound less) (sym a)
    (subst (λ (n : ℕ). IsTally kept n less) (sym b)
    (subst (λ (n : ℕ). IsTally kept limit n) (sym (e
    ∙ ap (λ (n : ℕ). counted_without n oldest new) c
    ∙ ap (λ (o : Option SharedFrame). counted_without more_is o new) d
    ∙ ap (λ (l : List SharedFrame). counted_without more_is gone l) a))
    (tally_kept frames limit count f tally)))
