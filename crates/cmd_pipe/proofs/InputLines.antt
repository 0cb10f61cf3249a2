-- The lines of an input that was read line by line.
use Rattle.std.proofs.Common.{arith, ◌≡◌, ◌<◌, ◌++◌, ◌∙◌, ◌↔◌, ℕ, List, [], ◌∷◌, Bool}
use Rattle.std.proofs.Common.{true}
use Rattle.std.proofs.Common.{false, Option, Some, None, IsTrue, IfSome, length, take, drop, refl}
use Rattle.std.proofs.Common.{sym}
use Rattle.std.proofs.Common.{ap, subst, length-drop, lt-ltb, le-ltb, nat_lt}
use Rattle.std.specs.Prelude.{map, Result, IfOk, Ok}
use Rattle.std.proofs.lemmas.List.{append_assoc, append-nil}
use Rattle.cmd_text.specs.Lines.{IsKept, IsLineRead, first_line, after_line, lines_of}
use Rattle.cmd_text.specs.declared.lines.line.Line.{Line}
use Rattle.cmd_text.proofs.Texts.{lines_first}
use Rattle.cmd_pipe.specs.Lines.{AreLines, kept_line, text_of}
use Rattle.its_lines.specs.Lines.{LineText}

-- these are the lines of the input that stand before what is left of it
abbrev pub AreBefore : Option (List ℕ) → Option (List ℕ) → List LineText → Type 0
AreBefore None left lines = Unit {0}
AreBefore (Some octets) None lines = ⊥
AreBefore (Some octets) (Some rest) lines =
    map kept_line (lines_of octets) ≡ lines ++ map kept_line (lines_of rest)

pub before_none : (input : Option (List ℕ)) → AreBefore input input []
before_none None = tt
before_none (Some octets) = refl

-- whether there is more than is kept
more_is : (any : Bool) (most : ℕ) (octets : List ℕ) → (IsTrue any ↔ (0 < length (drop most octets)))
    → any ≡ nat_lt most (length octets)
more_is true most octets is =
    sym (lt-ltb most (length octets) (omega (arith, is.0 refl, length-drop most octets)))
more_is false most octets is =
    sym (le-ltb most (length octets) (omega (arith, length-drop most octets, none)))
  where
    none : 0 < length (drop most octets) → ⊥
    none some = absurd (cc (is.1 some))

kept_text : (line : Line) (octets : List ℕ) → line.most ≡ 65536 → IsKept line octets
    → text_of line ≡ kept_line octets
kept_text line octets most kept =
    text (kept.start ∙ ap (λ n. take n octets) most)
    (more_is line.passed.any line.most octets kept.passed.any
    ∙ ap (λ n. nat_lt n (length octets)) most)
  where
    text : {a b : List ℕ} {x y : Bool} → a ≡ b → x ≡ y
        → (let t : LineText = record { octets = a; longer = x } in t)
        ≡ record { octets = b; longer = y }
    text {a} {b} {x} {y} e f =
        ap (λ (o : List ℕ). let t : LineText = record { octets = o; longer = x } in t) e
        ∙ ap (λ (l : Bool). let t : LineText = record { octets = b; longer = l } in t) f

-- one more line was read
pub before_more : (input left rest : Option (List ℕ)) (lines : List LineText) (line : Line)
    → line.most ≡ 65536 → IfSome left (λ octets. IsLineRead octets rest line true)
    → AreBefore input left lines → AreBefore input rest (lines ++ text_of line ∷ [])
before_more None left rest lines line most read before = tt
before_more (Some octets) None rest lines line most read before = absurd before
before_more (Some octets) (Some left) rest lines line most read before =
    let next : map kept_line (lines_of left)
    ≡ text_of line ∷ map kept_line (lines_of (after_line left)) =
    ap (map kept_line) (lines_first left (read.there.0 refl))
    ∙ ap (λ (t : LineText). t ∷ map kept_line (lines_of (after_line left)))
    (sym (kept_text line (first_line left) most read.kept)) in
    subst (λ (r : Option (List ℕ)). AreBefore (Some octets) r (lines ++ text_of line ∷ []))
    (sym read.rest)
    (before ∙ ap (λ l. lines ++ l) next
    ∙ sym (append_assoc lines (text_of line ∷ []) (map kept_line (lines_of (after_line left)))))

-- there is no further line
pub before_end : (input left rest : Option (List ℕ)) (lines : List LineText) (line : Line)
    → IfSome left (λ octets. IsLineRead octets rest line false)
    → AreBefore input left lines → AreLines input lines
before_end None left rest lines line read before = tt
before_end (Some octets) None rest lines line read before = absurd before
before_end (Some octets) (Some []) rest lines line read before = sym (before ∙ append-nil lines)
before_end (Some octets) (Some (x ∷ xs)) rest lines line read before =
    absurd (cc (read.there.1 (omega arith)))

-- what was read of the input, where that ended well
pub read_of : {E : Type 0} (left rest : Option (List ℕ)) (line : Line) (r : Result Bool E)
    (there : Bool) → IfSome left (λ octets. IfOk r (IsLineRead octets rest line)) → r ≡ Ok there
    → IfSome left (λ octets. IsLineRead octets rest line there)
read_of None rest line r there read is = tt
read_of {E} (Some octets) rest line r there read is =
    subst (λ (q : Result Bool E). IfOk q (IsLineRead octets rest line)) is read
