-- Walks of formats.
use Rattle.std.proofs.Common.{◌≡◌, ℕ, ◌+◌, ◌/◌, ◌%◌, List, Bool, true, false, cond, Result, Ok, Err}
use Rattle.std.proofs.Common.{refl, sym, ◌∙◌}
use Rattle.its_formats.specs.Format.{Format, Faults, ends, number, halves, octets, after, walk}
use Rattle.its_formats.specs.Format.{number_at, octets_at, ◌>>=◌}

-- a step at both ends of a bind
pub bind_same : {A B E : Type 0} (r : Result A E) (f g : A → Result B E)
    → ((x : A) → f x ≡ g x) → (r >>= f) ≡ (r >>= g)
bind_same (Ok x) f g h = h x
bind_same (Err e) f g h = refl

pub bind_assoc : {A B C E : Type 0} (r : Result A E) (f : A → Result B E) (g : B
    → Result C E) → ((r >>= f) >>= g) ≡ (r >>= λ x. f x >>= g)
bind_assoc (Ok x) f g = refl
bind_assoc (Err e) f g = refl

bind_cond : {A B E : Type 0} (b : Bool) (x y : Result A E) (g : A → Result B E)
    → (cond b x y >>= g) ≡ cond b (x >>= g) (y >>= g)
bind_cond true x y g = refl
bind_cond false x y g = refl

cond_same : {A : Type 0} (b : Bool) (x y z : A) → x ≡ y → cond b x z ≡ cond b y z
cond_same true x y z h = h
cond_same false x y z h = refl

pub walk_after : {K E A B : Type 0} (m : Faults K E) (f : Format K A) (g : A → Format K B) (at : ℕ) (w : List ℕ)
    → walk m (after f g) at w ≡ (walk m f at w >>= λ x. walk m (g x.0) x.1 w)
walk_after m (ends x) g at w = refl
walk_after m (number n kind right next) g at w =
    bind_same (number_at m n at w) _ _
    (λ v. cond_same (right v) _ _ _ (walk_after m (next v) g (at + n) w)
    ∙ sym (bind_cond (right v) _ _ _)) ∙ sym (bind_assoc (number_at m n at w) _ _)
walk_after m (halves high is_high low is_low next) g at w =
    bind_same (number_at m 1 at w) _ _
    (λ v. cond_same (is_high (v / 16)) _ _ _
    (cond_same (is_low (v / 16) (v % 16)) _ _ _ (walk_after m (next (v / 16) (v % 16)) g (at + 1) w)
    ∙ sym (bind_cond (is_low (v / 16) (v % 16)) _ _ _)) ∙ sym (bind_cond (is_high (v / 16)) _ _ _))
    ∙ sym (bind_assoc (number_at m 1 at w) _ _)
walk_after m (octets n next) g at w =
    bind_same (octets_at m n at w) _ _ (λ bytes. walk_after m (next bytes) g (at + n) w)
    ∙ sym (bind_assoc (octets_at m n at w) _ _)
