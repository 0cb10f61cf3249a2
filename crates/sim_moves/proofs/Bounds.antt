-- Fields by their bounds.
use Rattle.std.proofs.Common.{◌≡◌, ◌≢◌, ℕ, suc, ◌+◌, ◌-◌, ◌<◌, ◌≤◌, List, [], ◌∷◌, ◌++◌}
use Rattle.std.proofs.Common.{length, get_or, take, drop, ◌⊎◌, inl, inr}
use Rattle.std.proofs.Common.{refl, sym, ap, ap₂, ◌∙◌, arith, append_assoc, eq-eqb, eqb, le_refl}
use Rattle.std.proofs.Common.{Bool, true, false, slice_range, min, length-take, length-drop}
use Rattle.std.specs.Prelude.{if◌then◌else◌}
use Rattle.std.specs.List.{AllByRecursion}
use Rattle.std.proofs.Math.Nat.{min-eq_left, min-eq_right}
use Rattle.std.proofs.Math.Seq.{drop-append_seam}
use Rattle.std.proofs.lemmas.Bool.{ne_eqb, cases_lt}
use Rattle.std.proofs.lemmas.List.{map-append, get_or-drop, drop_all, take_more, take_rest}
use Rattle.std.proofs.lemmas.List.{drop-append-le, take-append-le, take_all, nil_from_length}
use Rattle.sim_moves.specs.declared.fields.Bound.{Bound}
use Rattle.sim_moves.specs.declared.fields.FieldPart.{FieldPart}
use Rattle.sim_moves.specs.declared.fields.FieldPart.TheVariants as parts
use Rattle.sim_moves.specs.Fields.{cut, effect_of, effect_outside, fields_after, fields_of}
use Rattle.sim_moves.specs.Fields.{plain_after}
use Rattle.sim_moves.proofs.Parts.{after_ends, after_stays, rest_at}

-- one octet more of a part
pub range_more : (xs : List ℕ) (begin i : ℕ) → begin ≤ i → i < length xs
    → slice_range xs begin (i + 1) ≡ slice_range xs begin i ++ get_or xs i 0 ∷ []
range_more xs begin i le lt =
    let one : i + 1 - begin ≡ (i - begin) + 1 = omega (arith, le) in
    let at : begin + (i - begin) ≡ i = omega (arith, le) in
    ap (λ n. take n (drop begin xs)) one
    ∙ take_more (drop begin xs) (i - begin) 0 (omega (arith, lt, le, length-drop begin xs))
    ∙ ap (λ x. take (i - begin) (drop begin xs) ++ x ∷ [])
    (get_or-drop begin xs (i - begin) 0 ∙ ap (λ n. get_or xs n 0) at)

-- nothing of a part
pub range_none : (xs : List ℕ) (i : ℕ) → slice_range xs i i ≡ []
range_none xs i = rw none refl
  where
    none : i - i ≡ 0
    none = omega arith

-- one bound more
pub cut_more : (line : List ℕ) (bounds : List Bound) (b : Bound)
    → cut line (bounds ++ b ∷ []) ≡ cut line bounds ++ slice_range line b.begin b.end ∷ []
cut_more line bounds b =
    map-append (λ (b : Bound). slice_range line b.begin b.end) bounds (b ∷ [])

pub length_cut : (octets : List ℕ) (bounds : List Bound)
    → length (cut octets bounds) ≡ length bounds
length_cut octets [] = refl
length_cut octets (b ∷ bounds) = ap suc (length_cut octets bounds)

plain_goes : (separator : ℕ) (field : List ℕ) (octet : ℕ) (octets : List ℕ) → octet ≢ separator
    → plain_after separator field (octet ∷ octets)
    ≡ plain_after separator (field ++ octet ∷ []) octets
plain_goes separator field octet octets other = rw (ne_eqb octet separator other) refl

plain_ends : (separator : ℕ) (field : List ℕ) (octet : ℕ) (octets : List ℕ) → octet ≡ separator
    → plain_after separator field (octet ∷ octets) ≡ field ∷ plain_after separator [] octets
plain_ends separator field octet octets same = rw (eq-eqb octet separator same) refl

-- the fields that are done and those of the rest, one octet further
pub goes_on : (separator : ℕ) (line : List ℕ) (begin i : ℕ) (bounds : List Bound) → begin ≤ i
    → i < length line → get_or line i 0 ≢ separator
    → cut line bounds ++ plain_after separator (slice_range line begin i) (drop i line)
    ≡ cut line bounds ++ plain_after separator (slice_range line begin (i + 1)) (drop (i + 1) line)
goes_on separator line begin i bounds le lt other =
    ap (λ (l : List (List ℕ)). cut line bounds ++ l)
    (ap (λ (l : List ℕ). plain_after separator (slice_range line begin i) l) (rest_at line i lt)
    ∙ plain_goes separator (slice_range line begin i) (get_or line i 0) (drop (i + 1) line) other
    ∙ ap (λ (l : List ℕ). plain_after separator l (drop (i + 1) line))
    (sym (range_more line begin i le lt)))

pub ends_one : (separator : ℕ) (line : List ℕ) (begin i : ℕ) (bounds bounds' : List Bound)
    → i < length line → get_or line i 0 ≡ separator
    → bounds' ≡ bounds ++ record { begin = begin; end = i } ∷ []
    → cut line bounds ++ plain_after separator (slice_range line begin i) (drop i line)
    ≡ cut line bounds' ++ plain_after separator (slice_range line (i + 1) (i + 1)) (drop (i + 1) line)
ends_one separator line begin i bounds bounds' lt same grown =
    let b : Bound = record { begin = begin; end = i } in
    let rest : List ℕ = drop (i + 1) line in
    ap (λ (l : List (List ℕ)). cut line bounds ++ l)
    (ap (λ (l : List ℕ). plain_after separator (slice_range line begin i) l) (rest_at line i lt)
    ∙ plain_ends separator (slice_range line begin i) (get_or line i 0) rest same)
    ∙ sym (append_assoc (cut line bounds) (slice_range line begin i ∷ [])
    (plain_after separator [] rest))
    ∙ ap (λ (l : List (List ℕ)). l ++ plain_after separator [] rest)
    (sym (cut_more line bounds b) ∙ ap (cut line) (sym grown))
    ∙ ap (λ (l : List ℕ). cut line bounds' ++ plain_after separator l rest)
    (sym (range_none line (i + 1)))

-- at the end the last field is done
pub ends_all : (separator : ℕ) (line : List ℕ) (begin i : ℕ) (bounds bounds' : List Bound)
    → length line ≤ i
    → bounds' ≡ bounds ++ record { begin = begin; end = length line } ∷ []
    → i ≡ length line
    → cut line bounds ++ plain_after separator (slice_range line begin i) (drop i line)
    ≡ cut line bounds'
ends_all separator line begin i bounds bounds' over grown is =
    let b : Bound = record { begin = begin; end = length line } in
    ap (λ (l : List ℕ). cut line bounds ++ plain_after separator (slice_range line begin i) l)
    (drop_all i line over)
    ∙ ap (λ n. cut line bounds ++ slice_range line begin n ∷ []) is
    ∙ sym (cut_more line bounds b) ∙ ap (cut line) (sym grown)

-- outside a quotation what is no mark is judged so
outside : (separator : ℕ) (part : FieldPart) (octet : ℕ) → (part ≡ parts.Begin) ⊎ (part ≡ parts.Open)
    → octet ≢ 34 → effect_of separator part octet ≡ effect_outside separator octet
outside separator part octet (inl is) other = rw is (rw (ne_eqb octet 34 other) refl)
outside separator part octet (inr is) other = rw is refl

-- without marks the fields are those that the separators part
pub plain_from : (separator : ℕ) (part : FieldPart) (field octets : List ℕ)
    → (part ≡ parts.Begin) ⊎ (part ≡ parts.Open)
    → ((k : ℕ) → k < length octets → get_or octets k 0 ≢ 34)
    → fields_after separator part field octets ≡ plain_after separator field octets
plain_from separator part field [] out none = refl
plain_from separator part field (octet ∷ octets) out none =
    let rest : (k : ℕ) → k < length octets → get_or octets k 0 ≢ 34 =
    λ k lt. none (suc k) (omega (arith, lt)) in
    by (eqb octet separator) refl (plain_from separator parts.Begin [] octets (inl refl) rest)
    (plain_from separator parts.Open (field ++ octet ∷ []) octets (inr refl) rest)
  where
    same : effect_of separator part octet ≡ effect_outside separator octet
    same = outside separator part octet out (none 0 (omega arith))

    by : (b : Bool) → eqb octet separator ≡ b
        → fields_after separator parts.Begin [] octets ≡ plain_after separator [] octets
        → fields_after separator parts.Open (field ++ octet ∷ []) octets
        ≡ plain_after separator (field ++ octet ∷ []) octets
        → fields_after separator part field (octet ∷ octets)
        ≡ (if b then field ∷ plain_after separator [] octets
        else plain_after separator (field ++ octet ∷ []) octets)
    by true is ended stayed =
        after_ends separator part field octet octets (same ∙ rw is refl)
        ∙ ap (λ (l : List (List ℕ)). field ∷ l) ended
    by false is ended stayed =
        after_stays separator part parts.Open field octet octets (same ∙ rw is refl) ∙ stayed

pub plain_line : (separator : ℕ) (line : List ℕ)
    → ((k : ℕ) → k < length line → get_or line k 0 ≢ 34)
    → fields_of separator line ≡ plain_after separator [] line
plain_line separator line none = plain_from separator parts.Begin [] line (inl refl) none

-- a part of octets is one of more octets
pub range_append : (xs ys : List ℕ) (begin end : ℕ) → begin ≤ end → end ≤ length xs
    → slice_range (xs ++ ys) begin end ≡ slice_range xs begin end
range_append xs ys begin end le within =
    ap (take (end - begin)) (drop-append-le begin xs ys (omega (arith, le, within)))
    ∙ take-append-le (end - begin) (drop begin xs) ys
    (omega (arith, le, within, length-drop begin xs))

-- bounds that lie within so many octets
abbrev pub AreWithin : ℕ → List Bound → Type 0
AreWithin count bounds =
    AllByRecursion (λ (b : Bound). (b.begin ≤ b.end) × (b.end ≤ count)) bounds

pub cut_append : (xs ys : List ℕ) (bounds : List Bound) → AreWithin (length xs) bounds
    → cut (xs ++ ys) bounds ≡ cut xs bounds
cut_append xs ys [] within = refl
cut_append xs ys (b ∷ bounds) within =
    ap₂ (λ (l : List ℕ) (ls : List (List ℕ)). l ∷ ls)
    (range_append xs ys b.begin b.end within.0.0 within.0.1)
    (cut_append xs ys bounds within.1)

pub within_more : (count more : ℕ) (bounds : List Bound) (b : Bound) → count ≤ more
    → b.begin ≤ b.end → b.end ≤ more → AreWithin count bounds → AreWithin more (bounds ++ b ∷ [])
within_more count more [] b le order here within = ((order, here), tt)
within_more count more (a ∷ bounds) b le order here within = (
  (within.0.0, omega (arith, le, within.0.1)),
  within_more count more bounds b le order here within.1,
)

-- one field more is joined
pub join_one : (xs ys text : List ℕ) (bounds : List Bound) (b : Bound)
    → AreWithin (length xs) bounds → text ≡ xs ++ ys → b.begin ≡ length xs
    → b.end ≡ length text → cut text (bounds ++ b ∷ []) ≡ cut xs bounds ++ ys ∷ []
join_one xs ys text bounds b within is from upto =
    cut_more text bounds b
    ∙ ap (λ (l : List (List ℕ)). l ++ slice_range text b.begin b.end ∷ [])
    (ap (λ (l : List ℕ). cut l bounds) is ∙ cut_append xs ys bounds within)
    ∙ ap (λ (l : List ℕ). cut xs bounds ++ l ∷ []) all
  where
    all : slice_range text b.begin b.end ≡ ys
    all =
        ap₂ (slice_range text) from upto ∙ take_rest text (length xs)
        ∙ ap (drop (length xs)) is ∙ drop-append_seam xs ys

-- a bound beyond the octets ends with them
pub clamped : (xs : List ℕ) (begin end : ℕ)
    → slice_range xs (min begin (min end (length xs))) (min end (length xs))
    ≡ slice_range xs begin end
clamped xs begin end = by (cases_lt (length xs) end) (cases_lt (min end (length xs)) begin)
  where
    none : (b e : ℕ) → (e ≤ b) ⊎ (length xs ≤ b) → slice_range xs b e ≡ []
    none b e (inl le) =
        nil_from_length (slice_range xs b e)
        (omega (arith, le, length-take (e - b) (drop b xs)))
    none b e (inr le) =
        nil_from_length (slice_range xs b e)
        (omega (arith, le, length-take (e - b) (drop b xs), length-drop b xs))

    all : (e : ℕ) → length xs ≤ e → slice_range xs begin e ≡ drop begin xs
    all e le = take_all (e - begin) (drop begin xs) (omega (arith, le, length-drop begin xs))

    by : (length xs < end) ⊎ (end ≤ length xs)
        → (min end (length xs) < begin) ⊎ (begin ≤ min end (length xs))
        → slice_range xs (min begin (min end (length xs))) (min end (length xs))
        ≡ slice_range xs begin end
    by (inl over) (inl past) =
        none (min begin (min end (length xs))) (min end (length xs)) (inl (omega arith))
        ∙ sym (none begin end (inr (omega (arith, over, past))))
    by (inr within) (inl past) =
        none (min begin (min end (length xs))) (min end (length xs)) (inl (omega arith))
        ∙ sym (none begin end (inl (omega (arith, within, past))))
    by (inl over) (inr before) =
        ap₂ (slice_range xs) (min-eq_left before) (min-eq_right (omega (arith, over)))
        ∙ all (length xs) (le_refl (length xs)) ∙ sym (all end (omega (arith, over)))
    by (inr within) (inr before) =
        ap₂ (slice_range xs) (min-eq_left before) (min-eq_left within)
