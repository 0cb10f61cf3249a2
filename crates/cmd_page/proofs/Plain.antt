-- Octets among which there is no sign to spell.
use Rattle.std.proofs.Common.{◌≡◌, ◌≢◌, ℕ, List, [], ◌∷◌, ◌++◌, All, Bool, true, false, refl, sym}
use Rattle.std.proofs.Common.{ap, ◌∙◌, if◌then◌else◌, ◌==◌, codes, eqb-true}
use Rattle.std.proofs.lemmas.List.Elements.{All-head, All-tail}
use Rattle.cmd_page.specs.Inside.{spelled, spelled_octet}

chosen : (octet : ℕ) (is : Bool) → (octet == 60) ≡ is → octet ≢ 60
    → (if is then codes "\\u003c" else octet ∷ []) ≡ octet ∷ []
chosen octet false e other = refl
chosen octet true e other = absurd (other (eqb-true octet 60 e))

-- another octet is spelled as it is
one : (octet : ℕ) → octet ≢ 60 → spelled_octet octet ≡ octet ∷ []
one octet other = chosen octet (octet == 60) refl other

-- and so are many
pub plain : (octets : List ℕ) → All (λ octet. octet ≢ 60) octets → octets ≡ spelled octets
plain [] h = refl
plain (octet ∷ octets) h =
    ap (λ (xs : List ℕ). octet ∷ xs)
    (plain octets (All-tail (λ (x : ℕ). x ≢ 60) octet octets h))
    ∙ ap (λ (xs : List ℕ). xs ++ spelled octets)
    (sym (one octet (All-head (λ (x : ℕ). x ≢ 60) octet octets h)))
