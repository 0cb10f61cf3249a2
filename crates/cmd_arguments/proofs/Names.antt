-- The names of keys that a text lists, separated by commas.
use Rattle.std.proofs.Common.{◌≡◌, ◌++◌, ◌∷◌, [], List, Option, None, Some, ℕ, map, eqb}
use Rattle.std.proofs.Common.{refl, ap, sym, ◌∙◌, append-nil, append_assoc}
use Rattle.std.proofs.lemmas.List.{map-append}
use Rattle.std.proofs.lemmas.List.Splits.{join_with_byte-slice_split}
use Rattle.std.specs.Borrow.{Bor}
use Rattle.std.specs.Iterator.{AlwaysYields}
use Rattle.std.specs.List.{join_with_byte, slice_split}
use Rattle.cmd_captures.specs.Fields.{field_word}
use Rattle.cmd_captures.specs.declared.field.Field.{Field}

-- the next one is the first of those that are left
pub name_taken : {S : Type 0} (steps : S → Option (Bor (List ℕ)) → S → Type 0) (s t : S)
    (x : Bor (List ℕ)) (left : List (List ℕ)) → AlwaysYields steps (λ x. x.now) s left
    → steps s (Some x) t
    → (rest : List (List ℕ)) × (left ≡ x.now ∷ rest) × AlwaysYields steps (λ x. x.now) t rest
name_taken steps s t x [] runs step = absurd (runs x t step)
name_taken steps s t x (y ∷ ys) runs step =
    let one = runs.1 x t step in (ys, ap (λ z. z ∷ ys) (sym one.0), one.1)

-- where no next one is, none is left
pub none_left : {S : Type 0} (steps : S → Option (Bor (List ℕ)) → S → Type 0) (s t : S)
    (left : List (List ℕ)) → AlwaysYields steps (λ x. x.now) s left → steps s None t → left ≡ []
none_left steps s t [] runs step = refl
none_left steps s t (y ∷ ys) runs step = absurd (runs.0 t step)

-- one more key, whose name is the first of those that are left
pub key_added : (keys all : List Field) (key : Field) (word : List ℕ)
    (rest left parts : List (List ℕ)) → all ≡ keys ++ key ∷ [] → word ≡ field_word key
    → left ≡ word ∷ rest → map field_word keys ++ left ≡ parts
    → map field_word all ++ rest ≡ parts
key_added keys all key word rest left parts added named first before =
    ap (λ (l : List Field). map field_word l ++ rest) added
    ∙ ap (λ (l : List (List ℕ)). l ++ rest) (map-append field_word keys (key ∷ []))
    ∙ append_assoc (map field_word keys) (field_word key ∷ []) rest
    ∙ ap (λ (w : List ℕ). map field_word keys ++ w ∷ rest) (sym named)
    ∙ ap (λ (l : List (List ℕ)). map field_word keys ++ l) (sym first)
    ∙ before

-- the names of all keys are the text, where none is left
pub all_named : (keys : List Field) (left : List (List ℕ)) (text : List ℕ) → left ≡ []
    → map field_word keys ++ left ≡ slice_split (λ b. eqb b 44) text
    → join_with_byte 44 (map field_word keys) ≡ text
all_named keys left text none is =
    ap (join_with_byte 44)
    (sym (append-nil (map field_word keys))
    ∙ ap (λ (l : List (List ℕ)). map field_word keys ++ l) (sym none)
    ∙ is)
    ∙ join_with_byte-slice_split 44 text
