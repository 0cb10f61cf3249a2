-- The fields of a line (RFC 4180, but that a row is one line).
use Rattle.std.specs.Prelude.{◌==◌, ℕ, List, [], ◌∷◌, ◌++◌, if◌then◌else◌, map, slice_range}
use Rattle.sim_moves.specs.declared.fields.Bound.{Bound}
use Rattle.sim_moves.specs.declared.fields.FieldPart.{FieldPart}
use Rattle.sim_moves.specs.declared.fields.FieldPart.TheVariants as parts
use Rattle.sim_moves.specs.declared.fields.Effect.{Effect}
use Rattle.sim_moves.specs.declared.fields.Effect.TheVariants as effects

-- What an octet does outside quotation marks: the separator ends the field.
abbrev pub effect_outside : ℕ → ℕ → Effect
effect_outside separator octet =
    if octet == separator then effects.Ends else effects.Stays parts.Open

-- What an octet does in a part of a field: a mark at the begin of a field opens a quotation; in it
-- two marks are one, and one alone ends it.
abbrev pub effect_of : ℕ → FieldPart → ℕ → Effect
effect_of separator parts.Begin octet =
    if octet == 34 then effects.Goes parts.Quoted else effect_outside separator octet
effect_of separator parts.Open octet = effect_outside separator octet
effect_of separator parts.Quoted octet =
    if octet == 34 then effects.Goes parts.Marked else effects.Stays parts.Quoted
effect_of separator parts.Marked octet =
    if octet == 34 then effects.Stays parts.Quoted else effect_outside separator octet

-- the fields that follow, by what an octet did: it stays in the field, or goes, or ends it
abbrev pub going_on : Effect → (FieldPart → List (List ℕ)) → (FieldPart → List (List ℕ))
    → List (List ℕ) → List (List ℕ)
going_on (effects.Stays next) stays goes ends = stays next
going_on (effects.Goes next) stays goes ends = goes next
going_on effects.Ends stays goes ends = ends

-- the fields of the octets that follow in a part of a field of which this stands already
abbrev pub fields_after : ℕ → FieldPart → List ℕ → List ℕ → List (List ℕ)
fields_after separator part field [] = field ∷ []
fields_after separator part field (octet ∷ octets) =
    going_on (effect_of separator part octet)
    (λ next. fields_after separator next (field ++ octet ∷ []) octets)
    (λ next. fields_after separator next field octets)
    (field ∷ fields_after separator parts.Begin [] octets)

-- the fields of a line
abbrev pub fields_of : ℕ → List ℕ → List (List ℕ)
fields_of separator line = fields_after separator parts.Begin [] line

-- what octets have within bounds
abbrev pub cut : List ℕ → List Bound → List (List ℕ)
cut octets bounds = map (λ (b : Bound). slice_range octets b.begin b.end) bounds

-- ---- words of private functions

-- the fields of the octets that follow where none is a mark
abbrev pub plain_after : ℕ → List ℕ → List ℕ → List (List ℕ)
plain_after separator field [] = field ∷ []
plain_after separator field (octet ∷ octets) =
    if octet == separator then field ∷ plain_after separator [] octets
    else plain_after separator (field ++ octet ∷ []) octets
