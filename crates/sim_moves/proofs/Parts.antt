-- One more octet of a line.
use Rattle.std.proofs.Common.{◌≡◌, ℕ, ◌+◌, ◌<◌, List, [], ◌∷◌, ◌++◌, length, get_or, drop}
use Rattle.std.proofs.Common.{sym, ap, ◌∙◌, add-one, append_assoc}
use Rattle.std.specs.Prelude.{Vec}
use Rattle.std.specs.declared.alloc.Global.{Global}
use Rattle.std.proofs.Math.Seq.{drop-cons}
use Rattle.std.proofs.lemmas.List.{map-append}
use Rattle.sim_moves.specs.declared.fields.FieldPart.{FieldPart}
use Rattle.sim_moves.specs.declared.fields.FieldPart.TheVariants as parts
use Rattle.sim_moves.specs.declared.fields.Effect.{Effect}
use Rattle.sim_moves.specs.declared.fields.Effect.TheVariants as effects
use Rattle.sim_moves.specs.Columns.{texts}
use Rattle.sim_moves.specs.Fields.{effect_of, fields_after, going_on}

-- what follows from here begins with the octet that stands here
pub rest_at : (line : List ℕ) (i : ℕ) → i < length line
    → drop i line ≡ get_or line i 0 ∷ drop (i + 1) line
rest_at line i lt = drop-cons line i 0 lt ∙ ap (λ k. get_or line i 0 ∷ drop k line) (sym (add-one i))

-- the fields that follow, by what this octet does
pub fields_by : ℕ → List ℕ → ℕ → List ℕ → Effect → List (List ℕ)
fields_by separator field octet octets effect =
    going_on effect (λ next. fields_after separator next (field ++ octet ∷ []) octets)
    (λ next. fields_after separator next field octets)
    (field ∷ fields_after separator parts.Begin [] octets)

pub after_stays : (separator : ℕ) (part next : FieldPart) (field : List ℕ) (octet : ℕ) (octets : List ℕ)
    → effect_of separator part octet ≡ effects.Stays next
    → fields_after separator part field (octet ∷ octets)
    ≡ fields_after separator next (field ++ octet ∷ []) octets
unfolding fields_by
after_stays separator part next field octet octets is =
    ap (fields_by separator field octet octets) is

pub after_goes : (separator : ℕ) (part next : FieldPart) (field : List ℕ) (octet : ℕ) (octets : List ℕ)
    → effect_of separator part octet ≡ effects.Goes next
    → fields_after separator part field (octet ∷ octets) ≡ fields_after separator next field octets
unfolding fields_by
after_goes separator part next field octet octets is =
    ap (fields_by separator field octet octets) is

pub after_ends : (separator : ℕ) (part : FieldPart) (field : List ℕ) (octet : ℕ) (octets : List ℕ)
    → effect_of separator part octet ≡ effects.Ends
    → fields_after separator part field (octet ∷ octets)
    ≡ field ∷ fields_after separator parts.Begin [] octets
unfolding fields_by
after_ends separator part field octet octets is =
    ap (fields_by separator field octet octets) is

-- what the loop over a line keeps, one octet further
pub kept_stays : (separator : ℕ) (part next : FieldPart) (line : List ℕ) (i : ℕ)
    (fields : List (Vec ℕ Global)) (field field' : List ℕ) → i < length line
    → effect_of separator part (get_or line i 0) ≡ effects.Stays next
    → field' ≡ field ++ get_or line i 0 ∷ []
    → texts fields ++ fields_after separator part field (drop i line)
    ≡ texts fields ++ fields_after separator next field' (drop (i + 1) line)
kept_stays separator part next line i fields field field' lt is grown =
    ap (λ (l : List ℕ). texts fields ++ fields_after separator part field l) (rest_at line i lt)
    ∙ ap (λ (l : List (List ℕ)). texts fields ++ l)
    (after_stays separator part next field (get_or line i 0) (drop (i + 1) line) is
    ∙ ap (λ (l : List ℕ). fields_after separator next l (drop (i + 1) line)) (sym grown))

pub kept_goes : (separator : ℕ) (part next : FieldPart) (line : List ℕ) (i : ℕ)
    (fields : List (Vec ℕ Global)) (field : List ℕ) → i < length line
    → effect_of separator part (get_or line i 0) ≡ effects.Goes next
    → texts fields ++ fields_after separator part field (drop i line)
    ≡ texts fields ++ fields_after separator next field (drop (i + 1) line)
kept_goes separator part next line i fields field lt is =
    ap (λ (l : List ℕ). texts fields ++ fields_after separator part field l) (rest_at line i lt)
    ∙ ap (λ (l : List (List ℕ)). texts fields ++ l)
    (after_goes separator part next field (get_or line i 0) (drop (i + 1) line) is)

pub kept_ends : (separator : ℕ) (part : FieldPart) (line : List ℕ) (i : ℕ)
    (fields fields' : List (Vec ℕ Global)) (field : Vec ℕ Global) (fresh : List ℕ)
    → i < length line → effect_of separator part (get_or line i 0) ≡ effects.Ends
    → fields' ≡ fields ++ field ∷ [] → fresh ≡ []
    → texts fields ++ fields_after separator part field.items (drop i line)
    ≡ texts fields' ++ fields_after separator parts.Begin fresh (drop (i + 1) line)
kept_ends separator part line i fields fields' field fresh lt is grown new =
    ap (λ (l : List ℕ). texts fields ++ fields_after separator part field.items l)
    (rest_at line i lt)
    ∙ ap (λ (l : List (List ℕ)). texts fields ++ l)
    (after_ends separator part field.items (get_or line i 0) (drop (i + 1) line) is)
    ∙ sym (append_assoc (texts fields) (field.items ∷ [])
    (fields_after separator parts.Begin [] (drop (i + 1) line)))
    ∙ ap (λ (l : List (List ℕ)). l ++ fields_after separator parts.Begin [] (drop (i + 1) line))
    (sym (map-append (λ (f : Vec ℕ Global). f.items) fields (field ∷ [])))
    ∙ ap (λ (l : List (Vec ℕ Global)).
    texts l ++ fields_after separator parts.Begin [] (drop (i + 1) line)) (sym grown)
    ∙ ap (λ (l : List ℕ). texts fields' ++ fields_after separator parts.Begin l (drop (i + 1) line))
    (sym new)
