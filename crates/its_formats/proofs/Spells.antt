-- What a format spells that follows another.
use Rattle.std.proofs.Common.{◌≡◌, ℕ, ◌+◌, ◌*◌, List, [], ◌∷◌, ◌++◌, refl}
use Rattle.std.proofs.Common.{sym, ap, subst, ◌∙◌, append_assoc}
use Rattle.byteorder.specs.Endian.{big_bytes}
use Rattle.its_formats.specs.Format.{Format, ends, number, halves, octets, after}
use Rattle.its_formats.specs.Spells.{Spells}

pub Spells-after : {K A B : Type 0} (f : Format K A) (g : A → Format K B) (y : B) (s : List ℕ)
    → Spells (after f g) y s
    → (x : A) × (a : List ℕ) × (b : List ℕ) × Spells f x a × Spells (g x) y b × (s ≡ a ++ b)
Spells-after (ends x) g y s h = (x, [], s, (refl, refl), h, refl)
Spells-after (number n kind right next) g y s (v, t, lt, r, e, h) =
    let i = Spells-after (next v) g y t h in (
      i.0,
      big_bytes n v ++ i.1,
      i.2,
      (v, i.1, lt, r, refl, i.3),
      i.4,
      e ∙ ap (λ (z : List ℕ). big_bytes n v ++ z) i.5 ∙ sym (append_assoc (big_bytes n v) i.1 i.2),
    )
Spells-after (halves high is_high low is_low next) g y s (h, l, t, lh, ll, rh, rl, e, k) =
    let i = Spells-after (next h l) g y t k in (
      i.0,
      (16 * h + l) ∷ i.1,
      i.2,
      (h, l, i.1, lh, ll, rh, rl, refl, i.3),
      i.4,
      e ∙ ap (λ (z : List ℕ). (16 * h + l) ∷ z) i.5,
    )
Spells-after (octets n next) g y s (bytes, t, len, fits, e, h) =
    let i = Spells-after (next bytes) g y t h in (
      i.0,
      bytes ++ i.1,
      i.2,
      (bytes, i.1, len, fits, refl, i.3),
      i.4,
      e ∙ ap (λ (z : List ℕ). bytes ++ z) i.5 ∙ sym (append_assoc bytes i.1 i.2),
    )

pub after-Spells : {K A B : Type 0} (f : Format K A) (g : A → Format K B) (x : A) (y : B) (a b : List ℕ)
    → Spells f x a → Spells (g x) y b → Spells (after f g) y (a ++ b)
after-Spells (ends z) g x y a b (e, n) h =
    subst (λ (t : List ℕ). Spells (g z) y (t ++ b)) (sym n)
    (subst (λ w. Spells (g w) y b) (sym e) h)
after-Spells (number n kind right next) g x y a b (v, t, lt, r, e, k) h = (
  v,
  t ++ b,
  lt,
  r,
  ap (λ (z : List ℕ). z ++ b) e ∙ append_assoc (big_bytes n v) t b,
  after-Spells (next v) g x y t b k h,
)
after-Spells (halves high is_high low is_low next) g x y a b (p, l, t, lh, ll, rh, rl, e, k) h = (
  p,
  l,
  t ++ b,
  lh,
  ll,
  rh,
  rl,
  ap (λ (z : List ℕ). z ++ b) e,
  after-Spells (next p l) g x y t b k h,
)
after-Spells (octets n next) g x y a b (bytes, t, len, fits, e, k) h = (
  bytes,
  t ++ b,
  len,
  fits,
  ap (λ (z : List ℕ). z ++ b) e ∙ append_assoc bytes t b,
  after-Spells (next bytes) g x y t b k h,
)
