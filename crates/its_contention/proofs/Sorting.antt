-- Frames that wait, of which a frame may be a copy: step by step the ones that stay and those that
-- are cancelled.
use Rattle.std.proofs.Common.{◌≡◌, ◌≤◌, ◌<◌, ℕ, suc, ◌+◌, Bool, true, false, List, [], ◌∷◌, ◌++◌}
use Rattle.std.proofs.Common.{length}
use Rattle.std.proofs.Common.{take, drop, set, get_or, sym, ◌∙◌, ap, ap₂, refl, arith, append_assoc}
use Rattle.std.proofs.Common.{drop-cons, add-one, remove, All, rules}
use Rattle.std.proofs.lemmas.List.{take_more_set, take-set, drop-set-lt, take-append-le, take-take}
use Rattle.std.proofs.lemmas.List.{length-take-le}
use Rattle.std.proofs.lemmas.List.Elements.{All-append, All-take, All-drop}
use Rattle.std.proofs.Math.Seq.{drop-append_seam}
use Rattle.its_model.specs.Contention.{HeldFrame, counted, stays, after_copy}
use Rattle.its_model.specs.Contention.{cancelled_by}

-- counting a copy leaves the frame
counted-frame : {F : Type 0} → (p : F → Bool) (s : ℕ) (h : HeldFrame F)
    → (counted p s h).frame ≡ h.frame
counted-frame p s h = search (rules)

-- a frame that stays
stays-first : {F : Type 0} → (k : ℕ) (p : F → Bool) (s : ℕ) (x : HeldFrame F)
    → (rest : List (HeldFrame F)) → stays k (counted p s x) ≡ true
    → (after_copy k p s (x ∷ rest) ≡ counted p s x ∷ after_copy k p s rest)
    × (cancelled_by k p s (x ∷ rest) ≡ cancelled_by k p s rest)
stays-first k p s x rest h = (rw h refl, rw h refl)

-- a frame that is cancelled
goes-first : {F : Type 0} → (k : ℕ) (p : F → Bool) (s : ℕ) (x : HeldFrame F)
    → (rest : List (HeldFrame F)) → stays k (counted p s x) ≡ false
    → (after_copy k p s (x ∷ rest) ≡ after_copy k p s rest)
    × (cancelled_by k p s (x ∷ rest) ≡ x.frame ∷ cancelled_by k p s rest)
goes-first k p s x rest h =
    (rw h refl, rw h (ap (λ f. f ∷ cancelled_by k p s rest) (counted-frame p s x)))

-- Up to this place the frames are sorted out.
pub record AreSorted {F : Type 0} (k : ℕ) (p : F → Bool) (s : ℕ) (all : List (HeldFrame F)) (i : ℕ)
    (held : List (HeldFrame F)) (left : List F) : Type 0 where
  pub kept : after_copy k p s all ≡ take i held ++ after_copy k p s (drop i held)
  pub gone : cancelled_by k p s all ≡ left ++ cancelled_by k p s (drop i held)

-- the rest from a place on begins with the frame there
pub front : {F : Type 0} → (held : List (HeldFrame F)) (i : ℕ) (x : HeldFrame F) → i < length held
    → x ≡ get_or held i x → drop i held ≡ x ∷ drop (i + 1) held
front held i x lt at =
    drop-cons held i x lt
    ∙ ap (λ h. h ∷ drop (suc i) held) (sym at)
    ∙ ap (λ n. x ∷ drop n held) (sym (add-one i))

-- The frame at the place stays, with what was counted.
pub AreSorted-stays : {F : Type 0} → (k : ℕ) (p : F → Bool) (s : ℕ) (all held : List (HeldFrame F))
    → (left : List F) (i : ℕ) (x y : HeldFrame F) → i < length held → x ≡ get_or held i x
    → y ≡ counted p s x → stays k y ≡ true → AreSorted k p s all i held left
    → AreSorted k p s all (i + 1) (set held i y) left
AreSorted-stays k p s all held left i x y lt at is st a =
    let rest = drop (i + 1) held in
    let here : drop i held ≡ x ∷ rest = front held i x lt at in
    let first = stays-first k p s x rest (sym (ap (stays k) is) ∙ st) in
    let after : drop (i + 1) (set held i y) ≡ rest = drop-set-lt (i + 1) held i y (omega arith) in
    let before : take (i + 1) (set held i y) ≡ take i held ++ y ∷ [] = take_more_set held i y lt in
    record {
      kept = rw (before, after)
          (a.kept
          ∙ ap (λ l. take i held ++ after_copy k p s l) here
          ∙ ap (λ l. take i held ++ l) (first.0 ∙ ap (λ h. h ∷ after_copy k p s rest) (sym is))
          ∙ sym (append_assoc (take i held) (y ∷ []) (after_copy k p s rest)));
      gone = rw after
          (a.gone
          ∙ ap (λ l. left ++ cancelled_by k p s l) here
          ∙ ap (λ l. left ++ l) first.1);
    }

-- what comes before a frame that is taken out, and what comes after it
pub removed-before : {A : Type 0} → (xs : List A) (i : ℕ) → i ≤ length xs
    → take i (remove xs i) ≡ take i xs
removed-before xs i le =
    let size : i ≤ length (take i xs) = omega (arith, length-take-le i xs le) in
    take-append-le i (take i xs) (drop (suc i) xs) size ∙ take-take i i xs (omega arith)

pub removed-after : {A : Type 0} → (xs : List A) (i : ℕ) → i ≤ length xs
    → drop i (remove xs i) ≡ drop (i + 1) xs
removed-after xs i le =
    let size : length (take i xs) ≡ i = length-take-le i xs le in
    ap (λ n. drop n (take i xs ++ drop (suc i) xs)) (sym size)
    ∙ drop-append_seam (take i xs) (drop (suc i) xs)
    ∙ ap (λ n. drop n xs) (sym (add-one i))

-- a change of a frame that is taken out then
pub removed-set : {A : Type 0} → (xs : List A) (i : ℕ) (y : A) → remove (set xs i y) i ≡ remove xs i
removed-set xs i y =
    ap₂ (λ a b. a ++ b) (take-set xs i y) (drop-set-lt (suc i) xs i y (omega arith))

-- what holds of each frame still does when one is taken out
pub All-removed : {A : Type 0} → (P : A → Type 0) (xs : List A) (i : ℕ) → All P xs
    → All P (remove xs i)
All-removed P xs i all =
    All-append P (take i xs) (drop (suc i) xs) (All-take P i xs all) (All-drop P (suc i) xs all)

-- The frame at the place is cancelled.
pub AreSorted-goes : {F : Type 0} → (k : ℕ) (p : F → Bool) (s : ℕ) (all held : List (HeldFrame F))
    → (left : List F) (i : ℕ) (x : HeldFrame F) → i < length held → x ≡ get_or held i x
    → stays k (counted p s x) ≡ false → AreSorted k p s all i held left
    → AreSorted k p s all i (remove held i) (left ++ x.frame ∷ [])
AreSorted-goes k p s all held left i x lt at go a =
    let rest = drop (i + 1) held in
    let here : drop i held ≡ x ∷ rest = front held i x lt at in
    let first = goes-first k p s x rest go in
    let within : i ≤ length held = omega arith in
    let before : take i (remove held i) ≡ take i held = removed-before held i within in
    let after : drop i (remove held i) ≡ rest = removed-after held i within in
    record {
      kept = rw (before, after)
          (a.kept
          ∙ ap (λ l. take i held ++ after_copy k p s l) here
          ∙ ap (λ l. take i held ++ l) first.0);
      gone = rw after
          (a.gone
          ∙ ap (λ l. left ++ cancelled_by k p s l) here
          ∙ ap (λ l. left ++ l) first.1
          ∙ sym (append_assoc left (x.frame ∷ []) (cancelled_by k p s rest)));
    }
