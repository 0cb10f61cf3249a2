-- The first line of a text that was taken piece by piece.
use Rattle.std.proofs.Common.{arith, ◌≡◌, ◌<◌, ◌++◌, ◌∙◌, ◌⊎◌, ◌↔◌, inl, inr}
use Rattle.std.proofs.Common.{ℕ, zero, suc, Bool, true, false, Option, Some, None, List, [], ◌∷◌}
use Rattle.std.proofs.Common.{All, IsTrue}
use Rattle.std.proofs.Common.{IfSome, length, take, drop, refl, sym, ap, subst, cond, ne_eqb, ◌==◌}
use Rattle.std.proofs.Common.{length-take, length-drop, length-append}
use Rattle.std.proofs.lemmas.List.{append_assoc, append-nil}
use Rattle.std.proofs.lemmas.List.Elements.{All-append, All-head, All-tail, All-nil}
use Rattle.std.proofs.KnownBytes.{Consumes-nil, Consumes-trans}
use Rattle.std.specs.Io.KnownBytes.{Consumes}
use Rattle.cmd_text.specs.Lines.{first_line, after_line, begun_with, lines_of, IsKept}
use Rattle.cmd_text.specs.Lines.{IsLineRead, TakesPiece}
use Rattle.cmd_text.specs.declared.lines.line.Line.{Line}
use Rattle.cmd_text.specs.declared.lines.reading.Reached.TheVariants as reached

abbrev pub NoFeed : List ℕ → Type 0
NoFeed = All (λ octet. ¬ (octet ≡ 10))

first_of : (octets rest : List ℕ) → NoFeed octets → first_line (octets ++ 10 ∷ rest) ≡ octets
first_of [] rest none = refl
first_of (x ∷ xs) rest none =
    ap (λ b. cond b [] (x ∷ first_line (xs ++ 10 ∷ rest)))
    (ne_eqb x 10 (All-head (λ octet. ¬ (octet ≡ 10)) x xs none))
    ∙ ap (λ l. x ∷ l) (first_of xs rest (All-tail (λ octet. ¬ (octet ≡ 10)) x xs none))

after_of : (octets rest : List ℕ) → NoFeed octets → after_line (octets ++ 10 ∷ rest) ≡ rest
after_of [] rest none = refl
after_of (x ∷ xs) rest none =
    ap (λ b. cond b (xs ++ 10 ∷ rest) (after_line (xs ++ 10 ∷ rest)))
    (ne_eqb x 10 (All-head (λ octet. ¬ (octet ≡ 10)) x xs none))
    ∙ after_of xs rest (All-tail (λ octet. ¬ (octet ≡ 10)) x xs none)

first_alone : (octets : List ℕ) → NoFeed octets → first_line octets ≡ octets
first_alone [] none = refl
first_alone (x ∷ xs) none =
    ap (λ b. cond b [] (x ∷ first_line xs))
    (ne_eqb x 10 (All-head (λ octet. ¬ (octet ≡ 10)) x xs none))
    ∙ ap (λ l. x ∷ l) (first_alone xs (All-tail (λ octet. ¬ (octet ≡ 10)) x xs none))

after_alone : (octets : List ℕ) → NoFeed octets → after_line octets ≡ []
after_alone [] none = refl
after_alone (x ∷ xs) none =
    ap (λ b. cond b xs (after_line xs)) (ne_eqb x 10 (All-head (λ octet. ¬ (octet ≡ 10)) x xs none))
    ∙ after_alone xs (All-tail (λ octet. ¬ (octet ≡ 10)) x xs none)

-- the lines of a text are its first one, and those of what follows it
pub lines_first : (octets : List ℕ) → 0 < length octets
    → lines_of octets ≡ first_line octets ∷ lines_of (after_line octets)
lines_first [] some = absurd (omega (arith, some))
lines_first (x ∷ []) some = at (x == 10)
  where
    at : (b : Bool) → cond b ([] ∷ []) ((x ∷ []) ∷ [])
        ≡ cond b [] (x ∷ []) ∷ lines_of (cond b [] [])
    at true = refl
    at false = refl
lines_first (x ∷ y ∷ ys) some = at (x == 10) (lines_first (y ∷ ys) (omega arith))
  where
    at : (b : Bool) → lines_of (y ∷ ys) ≡ first_line (y ∷ ys) ∷ lines_of (after_line (y ∷ ys))
        → cond b ([] ∷ lines_of (y ∷ ys)) (begun_with x (lines_of (y ∷ ys)))
        ≡ cond b [] (x ∷ first_line (y ∷ ys)) ∷ lines_of (cond b (y ∷ ys) (after_line (y ∷ ys)))
    at true rest = refl
    at false rest = ap (begun_with x) rest

-- a line is being read: what was taken of it has no line feed, and the reader gave just that
pub record Reading (most : ℕ) (old new : Option (List ℕ)) (line : Line) : Type 0 where
  pub most_is : line.most ≡ most
  pub taken : List ℕ
  pub no_end : NoFeed taken
  pub kept : IsKept line taken
  pub gave : Consumes old new taken

pub reading_none : (most : ℕ) (old : Option (List ℕ)) (line : Line) → line.most ≡ most
    → IsKept line [] → Reading most old old line
reading_none most old line is kept =
    record {
      most_is = is;
      taken = [];
      no_end = All-nil (λ octet. ¬ (octet ≡ 10));
      kept = kept;
      gave = Consumes-nil old;
    }

pub reading_more : (most : ℕ) (old mid new : Option (List ℕ)) (before after : Line)
    → Reading most old mid before → after.most ≡ before.most
    → TakesPiece mid new before after reached.Within → Reading most old new after
reading_more most old mid new before after reading same takes =
    record {
      most_is = same ∙ reading.most_is;
      taken = reading.taken ++ takes.piece;
      no_end = All-append (λ octet. ¬ (octet ≡ 10)) _ _ reading.no_end takes.no_end;
      kept = takes.adds reading.taken reading.kept;
      gave = Consumes-trans old mid new _ _ reading.gave takes.gives;
    }

-- its line feed was taken too
pub reading_line : (most : ℕ) (old mid new : Option (List ℕ)) (before after : Line)
    → Reading most old mid before → TakesPiece mid new before after reached.EndOfLine
    → IfSome old (λ octets. IsLineRead octets new after true)
reading_line most None mid new before after reading takes = tt
reading_line most (Some octets) mid new before after reading takes =
    at new (Consumes-trans (Some octets) mid new _ _ reading.gave takes.gives)
  where
    at : (left : Option (List ℕ))
        → Consumes (Some octets) left (reading.taken ++ (takes.piece ++ 10 ∷ []))
        → IsLineRead octets left after true
    at None gave = absurd gave
    at (Some rest) gave =
        let none : NoFeed (reading.taken ++ takes.piece) =
        All-append (λ octet. ¬ (octet ≡ 10)) _ _ reading.no_end takes.no_end in
        let whole : octets ≡ (reading.taken ++ takes.piece) ++ 10 ∷ rest =
        gave ∙ ap (λ l. l ++ rest) (sym (append_assoc reading.taken takes.piece (10 ∷ [])))
        ∙ append_assoc (reading.taken ++ takes.piece) (10 ∷ []) rest in
        record {
          there = (
            λ _. omega (
              arith,
              ap length whole,
              length-append (reading.taken ++ takes.piece) (10 ∷ rest),
            ),
            λ _. refl,
          );
          kept = subst (IsKept after) (sym (ap first_line whole ∙ first_of _ rest none))
              (takes.adds reading.taken reading.kept);
          rest = ap Some (sym (ap after_line whole ∙ after_of _ rest none));
        }

-- the text ended
pub reading_end : (most : ℕ) (old mid new : Option (List ℕ)) (before after : Line) (some : Bool)
    → Reading most old mid before → TakesPiece mid new before after reached.EndOfText
    → (IsTrue some ↔ ((0 < length after.start.items) ⊎ IsTrue after.passed.any))
    → IfSome old (λ octets. IsLineRead octets new after some)
reading_end most None mid new before after some reading takes is = tt
reading_end most (Some octets) None new before after some reading takes is = absurd reading.gave
reading_end most (Some octets) (Some rest) new before after some reading takes is =
    let whole : octets ≡ reading.taken =
    reading.gave ∙ ap (λ l. reading.taken ++ l) takes.gives.1.0 ∙ append-nil reading.taken in
    let none : NoFeed octets = subst NoFeed (sym whole) reading.no_end in
    let kept : IsKept after octets =
    subst (IsKept after)
    (ap (λ l. reading.taken ++ l) takes.gives.0 ∙ append-nil reading.taken ∙ sym whole)
    (takes.adds reading.taken reading.kept) in
    record {
      there = some_is after octets some kept is;
      kept = subst (IsKept after) (sym (first_alone octets none)) kept;
      rest = takes.gives.1.1 ∙ ap Some (sym (after_alone octets none));
    }
  where
    some_is : (line : Line) (octets : List ℕ) (some : Bool) → IsKept line octets
        → (IsTrue some ↔ ((0 < length line.start.items) ⊎ IsTrue line.passed.any))
        → (IsTrue some ↔ (0 < length octets))
    some_is line octets some kept is = (
      λ h. elim (is.0 h) [
        | inl w ↦ omega (arith, w, ap length kept.start, length-take line.most octets)
        | inr w ↦ omega (arith, kept.passed.any.0 w, length-drop line.most octets)
      ],
      λ h. is.1 (at line.most octets line.start.items kept.start kept.passed.any h),
    )
      where
        at : (n : ℕ) (octets items : List ℕ) → items ≡ take n octets
            → (IsTrue line.passed.any ↔ (0 < length (drop n octets))) → 0 < length octets
            → (0 < length items) ⊎ IsTrue line.passed.any
        at zero octets items start any h = inr (any.1 h)
        at (suc n) [] items start any h = absurd (omega arith)
        at (suc n) (x ∷ xs) items start any h = inl (omega (arith, ap length start))
