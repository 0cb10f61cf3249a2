-- The fault that a walk meets is the first one, for every format that reads the encodings of its
-- values and nothing else.
use Rattle.std.proofs.Common.{◌≡◌, ℕ, zero, suc, ◌+◌, ◌*◌, ◌/◌, ◌%◌, ◌^◌, ◌<◌, ◌≤◌, List, [], ◌∷◌}
use Rattle.std.proofs.Common.{◌++◌, length, take, drop, get_or, slice_index, Bool, true, false}
use Rattle.std.proofs.Common.{cond, Result, Ok, Err, refl, sym, ap, subst, ◌∙◌, arith, append_assoc}
use Rattle.std.proofs.Common.{length-append, length-drop, length-take, ◌⊎◌, inl, inr}
use Rattle.std.proofs.lemmas.Bool.{cases_lt, lt-ltb}
use Rattle.std.proofs.lemmas.List.{append-nil, take_at, drop_at, take-take, drop-take, take_all}
use Rattle.std.proofs.lemmas.List.{get_or-drop}
use Rattle.byteorder.specs.Endian.{big_number, big_bytes}
use Rattle.byteorder.specs.Numbers.{big_from-take, big_from-lt}
use Rattle.its_formats.specs.Bytes.{IsBytes}
use Rattle.its_formats.specs.Format.{Format, Faults, ends, number, halves, octets, after, walk}
use Rattle.its_formats.specs.Format.{number_at, octets_at, fault}
use Rattle.its_formats.specs.FirstFault.{Row, half, whole, half_octets, IsSound, front_to}
use Rattle.its_formats.specs.FirstFault.{FaultAmong}
use Rattle.its_formats.specs.Spells.{Spells}
use Rattle.its_formats.proofs.Numbers.{IsBytes-big_bytes, IsBytes-append, IsBytes-take}
use Rattle.its_formats.proofs.Numbers.{IsBytes-drop}
use Rattle.its_formats.proofs.Found.{again, number_at-here, octets_at-here, judged_ok, number_read}
use Rattle.its_formats.proofs.Found.{octets_read}

abbrev reads : {A E : Type 0} → A → Result A E
reads x = Ok x

one_more : (b : ℕ) (w : List ℕ) → b < 256 → IsBytes w → IsBytes (b ∷ w)
one_more b w h fits zero = h
one_more b w h fits (suc i) = fits i

abbrev failed : {A E : Type 0} → E → Result A E
failed e = Err e

clash : {A E : Type 0} {x : A} {e : E} → reads x ≡ failed e → ⊥
clash h = cc

octet_is : (at : ℕ) (w : List ℕ) → big_number 1 (drop at w) ≡ get_or w at 0
octet_is at w =
    let z : at + 0 ≡ at = omega arith in
    let g : slice_index (drop at w) 0 ≡ get_or w at 0 =
    get_or-drop at w 0 0 ∙ ap (λ (t : ℕ). get_or w t 0) z in
    omega (arith, g)

placed : {K E : Type 0} (m : Faults K E) (at start : ℕ) (kind : K) → start ≡ 2 * at
    → m.wrong at kind ≡ m.wrong (start / 2) kind
placed m at start kind is = let e : at ≡ start / 2 = omega arith in
    ap (λ (t : ℕ). m.wrong t kind) e

placed_low : {K E : Type 0} (m : Faults K E) (at start : ℕ) (kind : K) → start ≡ 2 * at
    → m.wrong at kind ≡ m.wrong ((start + 1) / 2) kind
placed_low m at start kind is = let e : at ≡ (start + 1) / 2 = omega arith in
    ap (λ (t : ℕ). m.wrong t kind) e

-- ---- half octets

pub length-half_octets : (w : List ℕ) → length (half_octets w) ≡ 2 * length w
length-half_octets [] = refl
length-half_octets (b ∷ w) = let i = length-half_octets w in omega (arith, i)

half_octets-append : (a b : List ℕ) → half_octets (a ++ b) ≡ half_octets a ++ half_octets b
half_octets-append [] b = refl
half_octets-append (x ∷ a) b = ap (λ (t : List ℕ). x / 16 ∷ x % 16 ∷ t) (half_octets-append a b)

take-half_octets : (k p : ℕ) (w : List ℕ) → p ≡ 2 * k
    → take p (half_octets w) ≡ half_octets (take k w)
take-half_octets zero zero w e = refl
take-half_octets zero (suc p) w e = absurd (omega arith)
take-half_octets (suc k) zero w e = absurd (omega arith)
take-half_octets (suc k) (suc zero) w e = absurd (omega arith)
take-half_octets (suc k) (suc (suc p)) [] e = refl
take-half_octets (suc k) (suc (suc p)) (b ∷ w) e =
    ap (λ (t : List ℕ). b / 16 ∷ b % 16 ∷ t) (take-half_octets k p w (omega arith))

-- an odd number of half octets ends in the high half of an octet
take_odd : (k p : ℕ) (w : List ℕ) → p ≡ 2 * k + 1 → k < length w
    → take p (half_octets w) ≡ half_octets (take k w) ++ (get_or w k 0 / 16) ∷ []
take_odd k p [] e lt = absurd (omega arith)
take_odd k zero (b ∷ w) e lt = absurd (omega arith)
take_odd zero (suc zero) (b ∷ w) e lt = refl
take_odd zero (suc (suc p)) (b ∷ w) e lt = absurd (omega arith)
take_odd (suc k) (suc zero) (b ∷ w) e lt = absurd (omega arith)
take_odd (suc k) (suc (suc p)) (b ∷ w) e lt =
    ap (λ (t : List ℕ). b / 16 ∷ b % 16 ∷ t) (take_odd k p w (omega arith) (omega arith))

head_is : (a b : ℕ) (x y : List ℕ) → a ∷ x ≡ b ∷ y → a ≡ b
head_is a b x y e = cc

tail_is : (a b : ℕ) (x y : List ℕ) → a ∷ x ≡ b ∷ y → x ≡ y
tail_is a b x y e = cc

-- what begins with the same half octets begins with the same octets
same_front : (k p : ℕ) (e w rest : List ℕ) → p ≡ 2 * k → k ≤ length w
    → half_octets e ≡ take p (half_octets w) ++ rest → (take k e ≡ take k w) × (k ≤ length e)
same_front zero p e w rest h le s = (refl, omega arith)
same_front (suc k) zero e w rest h le s = absurd (omega arith)
same_front (suc k) (suc zero) e w rest h le s = absurd (omega arith)
same_front (suc k) (suc (suc p)) e [] rest h le s = absurd (omega arith)
same_front (suc k) (suc (suc p)) [] (b ∷ w) rest h le s = absurd cc
same_front (suc k) (suc (suc p)) (c ∷ e) (b ∷ w) rest h le s =
    let high = head_is _ _ _ _ s in
    let t = tail_is _ _ _ _ s in
    let low = head_is _ _ _ _ t in
    let i = same_front k p e w rest (omega arith) (omega arith) (tail_is _ _ _ _ t) in
    let same : c ≡ b = omega (arith, high, low) in
    (ap (λ (x : ℕ). x ∷ take k e) same ∙ ap (λ (t : List ℕ). b ∷ t) i.0, omega (arith, i.1))

same_odd : (k p : ℕ) (e w rest : List ℕ) → p ≡ 2 * k + 1 → k < length w
    → half_octets e ≡ take p (half_octets w) ++ rest
    → (take k e ≡ take k w) × (k < length e) × (get_or e k 0 / 16 ≡ get_or w k 0 / 16)
same_odd k zero e w rest h lt s = absurd (omega arith)
same_odd k (suc p) e [] rest h lt s = absurd (omega arith)
same_odd k (suc p) [] (b ∷ w) rest h lt s = absurd cc
same_odd zero (suc p) (c ∷ e) (b ∷ w) rest h lt s = (refl, omega arith, head_is _ _ _ _ s)
same_odd (suc k) (suc zero) (c ∷ e) (b ∷ w) rest h lt s = absurd (omega arith)
same_odd (suc k) (suc (suc p)) (c ∷ e) (b ∷ w) rest h lt s =
    let high = head_is _ _ _ _ s in
    let t = tail_is _ _ _ _ s in
    let low = head_is _ _ _ _ t in
    let i = same_odd k p e w rest (omega arith) (omega arith) (tail_is _ _ _ _ t) in
    let same : c ≡ b = omega (arith, high, low) in
    (ap (λ (x : ℕ). x ∷ take k e) same ∙ ap (λ (t : List ℕ). b ∷ t) i.0, omega (arith, i.1), i.2)

-- ---- every format can be completed

-- After each run of right fields there is a right one.
abbrev pub IsInhabited : {K A : Type 0} → Format K A → Type 0
IsInhabited (ends x) = Unit {0}
IsInhabited (number n kind right next) =
    ((v : ℕ) × (v < 256 ^ n) × (right v ≡ true))
    × ((v : ℕ) → v < 256 ^ n → right v ≡ true → IsInhabited (next v))
IsInhabited (halves high is_high low is_low next) =
    ((h : ℕ) × (h < 16) × (is_high h ≡ true))
    × ((h : ℕ) → h < 16 → is_high h ≡ true
    → ((l : ℕ) × (l < 16) × (is_low h l ≡ true))
    × ((l : ℕ) → l < 16 → is_low h l ≡ true → IsInhabited (next h l)))
IsInhabited (octets n next) =
    (bytes : List ℕ) → length bytes ≡ n → IsBytes bytes → IsInhabited (next bytes)

zeros : (n : ℕ) → (w : List ℕ) × (length w ≡ n) × IsBytes w
zeros zero = ([], refl, λ i. omega arith)
zeros (suc n) = let z = zeros n in
    (0 ∷ z.0, omega (arith, z.1), λ i. IsBytes-append (0 ∷ []) z.0 (IsBytes-big_bytes 1 0) z.2 i)

pub complete : {K A : Type 0} (f : Format K A) → IsInhabited f
    → (x : A) × (s : List ℕ) × Spells f x s × IsBytes s
complete (ends x) h = (x, [], (refl, refl), λ i. omega arith)
complete (number n kind right next) h =
    let v = h.0 in
    let i = complete (next v.0) (h.1 v.0 v.1 v.2) in (
      i.0,
      big_bytes n v.0 ++ i.1,
      (v.0, i.1, v.1, v.2, refl, i.2),
      IsBytes-append (big_bytes n v.0) i.1 (IsBytes-big_bytes n v.0) i.3,
    )
complete (halves high is_high low is_low next) h =
    let p = h.0 in
    let q = h.1 p.0 p.1 p.2 in
    let l = q.0 in
    let i = complete (next p.0 l.0) (q.1 l.0 l.1 l.2) in (
      i.0,
      (16 * p.0 + l.0) ∷ i.1,
      (p.0, l.0, i.1, p.1, l.1, p.2, l.2, refl, i.2),
      one_more (16 * p.0 + l.0) i.1 (omega (arith, p.1, l.1)) i.3,
    )
complete (octets n next) h =
    let z = zeros n in
    let i = complete (next z.0) (h z.0 z.1 z.2) in
    (i.0, z.0 ++ i.1, (z.0, i.1, z.1, z.2, refl, i.2), IsBytes-append z.0 i.1 z.2 i.3)

-- what follows a format that can be completed, and can be itself, can be completed with it
pub inhabited_after : {K A B : Type 0} (f : Format K A) (g : A → Format K B) → IsInhabited f
    → ((x : A) (s : List ℕ) → Spells f x s → IsInhabited (g x)) → IsInhabited (after f g)
inhabited_after (ends x) g h k = k x [] (refl, refl)
inhabited_after (number n kind right next) g h k = (
  h.0,
  λ v lt r.
      inhabited_after (next v) g (h.1 v lt r)
      (λ x s p. k x (big_bytes n v ++ s) (v, s, lt, r, refl, p)),
)
inhabited_after (halves high is_high low is_low next) g h k = (
  h.0,
  λ a la ra. (
    (h.1 a la ra).0,
    λ b lb rb. inhabited_after (next a b) g ((h.1 a la ra).1 b lb rb)
        (λ x s p. k x ((16 * a + b) ∷ s) (a, b, s, la, lb, ra, rb, refl, p)),
  ),
)
inhabited_after (octets n next) g h k =
    λ bytes len fits.
    inhabited_after (next bytes) g (h bytes len fits)
    (λ x s p. k x (bytes ++ s) (bytes, s, len, fits, refl, p))

-- ---- the path to a format

-- The format reads what encodes a value, and nothing else.
pub record Rules {K E X : Type 0} (m : Faults K E) (Encodes : X → List ℕ → Type 0) (r : Format K X) : Type 0 where
  pub sound : (x : X) (s rest : List ℕ) → Encodes x s
      → walk m r 0 (s ++ rest) ≡ Ok (x, length s)
  pub full : (w : List ℕ) (x : X) (n : ℕ) → IsBytes w → walk m r 0 w ≡ Ok (x, n)
      → Encodes x (take n w)

-- What begins with these octets is read by what is left of the format.
pub record Path {K E X : Type 0} (m : Faults K E) (r f : Format K X) (at : ℕ) (w : List ℕ) : Type 0 where
  pub goes : (v : List ℕ) → take at v ≡ take at w → at ≤ length v → walk m r 0 v ≡ walk m f at v

same_number : (n at : ℕ) (v w : List ℕ) → take (at + n) v ≡ take (at + n) w
    → big_number n (drop at v) ≡ big_number n (drop at w)
same_number n at v w e =
    sym (big_from-take 0 n n (drop at v) (omega arith))
    ∙ ap (big_number n) (sym (drop-take at n v) ∙ ap (drop at) e ∙ drop-take at n w)
    ∙ big_from-take 0 n n (drop at w) (omega arith)

same_octets_at : (n at : ℕ) (v w : List ℕ) → take (at + n) v ≡ take (at + n) w
    → take n (drop at v) ≡ take n (drop at w)
same_octets_at n at v w e = sym (drop-take at n v) ∙ ap (drop at) e ∙ drop-take at n w

shorter : (m n : ℕ) (v w : List ℕ) → m ≤ n → take n v ≡ take n w → take m v ≡ take m w
shorter m n v w le e = sym (take-take m n v le) ∙ ap (take m) e ∙ take-take m n w le

path_number : {K E X : Type 0} (m : Faults K E) (r : Format K X) (n : ℕ) (kind : K) (right : ℕ → Bool) (next : ℕ
    → Format K X) (at : ℕ) (w : List ℕ)
    → Path m r (number n kind right next) at w → right (big_number n (drop at w)) ≡ true
    → Path m r (next (big_number n (drop at w))) (at + n) w
path_number m r n kind right next at w p right_is = record {
  goes = λ v same le.
      let read : number_at m n at v ≡ Ok (big_number n (drop at w)) =
      number_at-here m n at v le ∙ ap (λ (t : ℕ). reads t) (same_number n at v w same) in
      let e : walk m (number n kind right next) at v
      ≡ walk m (next (big_number n (drop at w))) (at + n) v = rw (read, right_is) refl in
      p.goes v (shorter at (at + n) v w (omega arith) same) (omega arith) ∙ e;
}

path_halves : {K E X : Type 0} (m : Faults K E) (r : Format K X) (high : K) (is_high : ℕ
    → Bool) (low : K) (is_low : ℕ → ℕ → Bool) (next : ℕ → ℕ
    → Format K X) (at b : ℕ) (w : List ℕ)
    → Path m r (halves high is_high low is_low next) at w → big_number 1 (drop at w) ≡ b
    → is_high (b / 16) ≡ true → is_low (b / 16) (b % 16) ≡ true
    → Path m r (next (b / 16) (b % 16)) (at + 1) w
path_halves m r high is_high low is_low next at b w p is rh rl = record {
  goes = λ v same le.
      let read : number_at m 1 at v ≡ Ok b =
      number_at-here m 1 at v le ∙ ap (λ (t : ℕ). reads t) (same_number 1 at v w same ∙ is) in
      let e : walk m (halves high is_high low is_low next) at v
      ≡ walk m (next (b / 16) (b % 16)) (at + 1) v = rw (read, rh, rl) refl in
      p.goes v (shorter at (at + 1) v w (omega arith) same) (omega arith) ∙ e;
}

path_octets : {K E X : Type 0} (m : Faults K E) (r : Format K X) (n : ℕ) (next : List ℕ
    → Format K X) (at : ℕ) (w : List ℕ)
    → Path m r (octets n next) at w → Path m r (next (take n (drop at w))) (at + n) w
path_octets m r n next at w p = record {
  goes = λ v same le.
      let read : octets_at m n at v ≡ Ok (take n (drop at w)) =
      octets_at-here m n at v le ∙ ap (λ (t : List ℕ). reads t) (same_octets_at n at v w same) in
      let e : walk m (octets n next) at v ≡ walk m (next (take n (drop at w))) (at + n) v =
      rw read refl in
      p.goes v (shorter at (at + n) v w (omega arith) same) (omega arith) ∙ e;
}

-- ---- fronts that are sound

-- octets that continue a front to an encoding make it sound
sound_by : {K E X : Type 0} {Encodes : X → List ℕ → Type 0} (m : Faults K E) (r f : Format K X) (at : ℕ) (w : List ℕ) (x : X) (s : List ℕ) → Rules m Encodes r
    → Path m r f at w → IsBytes w → at ≤ length w → Spells f x s → IsBytes s
    → Encodes x (take at w ++ s)
sound_by {Encodes = Encodes} m r f at w x s rules p fits le h bytes =
    let e = take at w ++ s in
    let size : length (take at w) ≡ at = omega (arith, length-take at w) in
    let long : length e ≡ at + length s = omega (arith, length-append (take at w) s, size) in
    let inside : at ≤ length e = omega (arith, long) in
    let rest : drop at e ≡ s ++ [] = drop_at (take at w) s at size ∙ sym (append-nil s) in
    let read : walk m r 0 e ≡ Ok (x, at + length s) =
    p.goes e (take_at (take at w) s at size) inside ∙ again m f x at e s [] h rest inside in
    let enc = rules.full e x (at + length s)
    (IsBytes-append (take at w) s (IsBytes-take at w fits) bytes) read in
    subst (λ (t : List ℕ). Encodes x t) (take_all (at + length s) e (omega (arith, long))) enc

pub sound_front : {K E X : Type 0} (m : Faults K E) {Encodes : X → List ℕ → Type 0} (r f : Format K X) (at p : ℕ) (w : List ℕ) → Rules m Encodes r → Path m r f at w
    → IsInhabited f → IsBytes w → at ≤ length w → p ≡ 2 * at → IsSound Encodes (front_to p w)
sound_front m r f at p w rules path inh fits le is =
    let c = complete f inh in
    let e = take at w ++ c.1 in
    record {
      value = c.0;
      encoded = e;
      rest = half_octets c.1;
      encodes = sound_by m r f at w c.0 c.1 rules path fits le c.2 c.3;
      begins = half_octets-append (take at w) c.1
          ∙ ap (λ (t : List ℕ). t ++ half_octets c.1) (sym (take-half_octets at p w is));
    }

-- with the high half of an octet the front is sound where that half is right
sound_high : {K E X : Type 0} (m : Faults K E) {Encodes : X → List ℕ → Type 0} (r : Format K X) (high : K) (is_high : ℕ
    → Bool) (low : K) (is_low : ℕ → ℕ → Bool) (next : ℕ → ℕ
    → Format K X) (at p : ℕ) (w : List ℕ)
    → Rules m Encodes r → Path m r (halves high is_high low is_low next) at w
    → IsInhabited (halves high is_high low is_low next) → IsBytes w → at < length w → p ≡ 2 * at + 1
    → is_high (get_or w at 0 / 16) ≡ true → IsSound Encodes (front_to p w)
sound_high m r high is_high low is_low next at p w rules path inh fits lt is right =
    let h = get_or w at 0 / 16 in
    let fit : h < 16 = omega (arith, fits at) in
    let q = inh.1 h fit right in
    let l = q.0 in
    let c = complete (next h l.0) (q.1 l.0 l.1 l.2) in
    let s = (16 * h + l.0) ∷ c.1 in
    let spells : Spells (halves high is_high low is_low next) c.0 s =
    (h, l.0, c.1, fit, l.1, right, l.2, refl, c.2) in
    let top : (16 * h + l.0) / 16 ≡ h = omega (arith, l.1) in
    record {
      value = c.0;
      encoded = take at w ++ s;
      rest = ((16 * h + l.0) % 16) ∷ half_octets c.1;
      encodes = sound_by m r (halves high is_high low is_low next) at w c.0 s rules path fits
          (omega arith) spells (one_more (16 * h + l.0) c.1 (omega (arith, l.1)) c.3);
      begins = half_octets-append (take at w) s
          ∙ ap (λ (t : ℕ). half_octets (take at w)
          ++ (t ∷ ((16 * h + l.0) % 16) ∷ half_octets c.1)) top
          ∙ sym (append_assoc (half_octets (take at w)) (h ∷ []) (((16 * h + l.0) % 16)
          ∷ half_octets c.1))
          ∙ ap (λ (t : List ℕ). t ++ ((16 * h + l.0) % 16) ∷ half_octets c.1)
          (sym (take_odd at p w is lt));
    }

-- ---- fronts that are not sound

same_size : (at n : ℕ) (e : List ℕ) → at + n ≤ length e → at ≤ length e
same_size at n e h = omega arith

-- a number that is wrong begins no encoding
wrong_number : {K E X : Type 0} (m : Faults K E) {Encodes : X → List ℕ → Type 0} (r : Format K X) (n : ℕ) (kind : K) (right : ℕ → Bool) (next : ℕ
    → Format K X) (at p : ℕ) (w : List ℕ)
    → Rules m Encodes r → Path m r (number n kind right next) at w → at + n ≤ length w → p ≡ 2 * (at + n)
    → right (big_number n (drop at w)) ≡ false → ¬ IsSound Encodes (front_to p w)
wrong_number m r n kind right next at p w rules path le is wrong g =
    let s = same_front (at + n) p g.encoded w g.rest is le g.begins in
    let read : number_at m n at g.encoded ≡ Ok (big_number n (drop at w)) =
    number_at-here m n at g.encoded s.1
    ∙ ap (λ (t : ℕ). reads t) (same_number n at g.encoded w s.0) in
    let fails : walk m (number n kind right next) at g.encoded ≡ fault m at kind =
    rw (read, wrong) refl in
    let ok = sym (ap (walk m r 0) (append-nil g.encoded))
    ∙ rules.sound g.value g.encoded [] g.encodes in
    clash (sym ok
    ∙ path.goes g.encoded (shorter at (at + n) g.encoded w (omega arith) s.0) (omega (arith, s.1))
    ∙ fails)

wrong_low : {K E X : Type 0} (m : Faults K E) {Encodes : X → List ℕ → Type 0} (r : Format K X) (high : K) (is_high : ℕ
    → Bool) (low : K) (is_low : ℕ → ℕ → Bool) (next : ℕ → ℕ
    → Format K X) (at p b : ℕ) (w : List ℕ)
    → Rules m Encodes r → Path m r (halves high is_high low is_low next) at w → at + 1 ≤ length w
    → p ≡ 2 * (at + 1) → big_number 1 (drop at w) ≡ b → is_high (b / 16) ≡ true
    → is_low (b / 16) (b % 16) ≡ false → ¬ IsSound Encodes (front_to p w)
wrong_low m r high is_high low is_low next at p b w rules path le is b-is right wrong g =
    let s = same_front (at + 1) p g.encoded w g.rest is le g.begins in
    let read : number_at m 1 at g.encoded ≡ Ok b =
    number_at-here m 1 at g.encoded s.1
    ∙ ap (λ (t : ℕ). reads t) (same_number 1 at g.encoded w s.0 ∙ b-is) in
    let fails : walk m (halves high is_high low is_low next) at g.encoded ≡ fault m at low =
    rw (read, right, wrong) refl in
    let ok = sym (ap (walk m r 0) (append-nil g.encoded))
    ∙ rules.sound g.value g.encoded [] g.encodes in
    clash (sym ok
    ∙ path.goes g.encoded (shorter at (at + 1) g.encoded w (omega arith) s.0) (omega (arith, s.1))
    ∙ fails)

wrong_high : {K E X : Type 0} (m : Faults K E) {Encodes : X → List ℕ → Type 0} (r : Format K X) (high : K) (is_high : ℕ
    → Bool) (low : K) (is_low : ℕ → ℕ → Bool) (next : ℕ → ℕ
    → Format K X) (at p : ℕ) (w : List ℕ)
    → Rules m Encodes r → Path m r (halves high is_high low is_low next) at w → at < length w → p ≡ 2 * at + 1
    → is_high (get_or w at 0 / 16) ≡ false → ¬ IsSound Encodes (front_to p w)
wrong_high m r high is_high low is_low next at p w rules path lt is wrong g =
    let s = same_odd at p g.encoded w g.rest is lt g.begins in
    let b = get_or g.encoded at 0 in
    let read : number_at m 1 at g.encoded ≡ Ok b =
    number_at-here m 1 at g.encoded (omega (arith, s.1))
    ∙ ap (λ (t : ℕ). reads t) (octet_is at g.encoded) in
    let wrong_too : is_high (b / 16) ≡ false = ap is_high s.2 ∙ wrong in
    let fails : walk m (halves high is_high low is_low next) at g.encoded ≡ fault m at high =
    rw (read, wrong_too) refl in
    let ok = sym (ap (walk m r 0) (append-nil g.encoded))
    ∙ rules.sound g.value g.encoded [] g.encodes in
    clash (sym ok ∙ path.goes g.encoded s.0 (omega (arith, s.1)) ∙ fails)

-- ---- the fields that a walk meets

-- The fields that a walk meets. Octets are never wrong: they have this kind.
abbrev pub rows_in : {K A : Type 0} → K → Format K A → ℕ → List ℕ → List (Row K)
rows_in never (ends x) at w = []
rows_in never (number n kind right next) at w =
    whole n kind ∷ rows_in never (next (big_number n (drop at w))) (at + n) w
rows_in never (halves high is_high low is_low next) at w =
    half high ∷ half low
    ∷ rows_in never (next (big_number 1 (drop at w) / 16) (big_number 1 (drop at w) % 16)) (at + 1) w
rows_in never (octets n next) at w = whole n never ∷ rows_in never (next (take n (drop at w))) (at + n) w

by_test : {A E : Type 0} (b : Bool) (x y z : Result A E) → cond b x y ≡ z
    → ((b ≡ true) × (x ≡ z)) ⊎ ((b ≡ false) × (y ≡ z))
by_test true x y z e = inl (refl, e)
by_test false x y z e = inr (refl, e)

err_is : {A E : Type 0} (d e : E) → failed {A = A} d ≡ failed e → d ≡ e
err_is d e h = cc

cut_number : {K E : Type 0} (m : Faults K E) (n at : ℕ) (w : List ℕ) → length w < at + n
    → number_at m n at w ≡ Err (m.truncated (length w))
unfolding number_at
cut_number m n at w lt = rw (lt-ltb _ _ lt) refl

cut_octets : {K E : Type 0} (m : Faults K E) (n at : ℕ) (w : List ℕ) → length w < at + n
    → octets_at m n at w ≡ Err (m.truncated (length w))
unfolding octets_at
cut_octets m n at w lt = rw (lt-ltb _ _ lt) refl

pub faults : {K E X : Type 0} (m : Faults K E) {Encodes : X → List ℕ → Type 0} (never : K) (r f : Format K X) (at start : ℕ) (w : List ℕ) (e : E) → Rules m Encodes r
    → Path m r f at w → IsInhabited f → IsBytes w → at ≤ length w → start ≡ 2 * at
    → walk m f at w ≡ Err e → FaultAmong m Encodes (rows_in never f at w) start w e
faults m never r (ends x) at start w e rules path inh fits le is h = absurd cc
faults m never r (number n kind right next) at start w e rules path inh fits le is h =
    elim (cases_lt (length w) (at + n)) [
      | inl lt ↦ inl (omega arith, sym (err_is _ e (let c = cut_number m n at w lt in rw c at h)))
      | inr here ↦
          let c = number_at-here m n at w here in
          let g = rw c at h in
          elim (by_test (right (big_number n (drop at w))) _ _ _ g) [
            | inl t ↦
                let next_path = path_number m r n kind right next at w path t.0 in
                let next_inh =
                inh.1 (big_number n (drop at w))
                (big_from-lt 0 n (drop at w) (IsBytes-drop at w fits)) t.0 in
                inr (inr (
                  omega arith,
                  sound_front m r (next (big_number n (drop at w))) (at + n)
                      (start + 2 * n) w rules next_path next_inh fits here (omega arith),
                  faults m never r (next (big_number n (drop at w))) (at + n)
                      (start + 2 * n) w e rules next_path next_inh fits here (omega arith) t.1,
                ))
            | inr t ↦ inr
                (inl (
                  omega arith,
                  wrong_number m r n kind right next at (start + 2 * n) w rules path here
                      (omega arith) t.0,
                  sym (err_is _ e t.1) ∙ placed m at start kind is,
                ))
          ]
    ]
faults m never r (halves high is_high low is_low next) at start w e rules path inh fits le is h =
    elim (cases_lt (length w) (at + 1)) [
      | inl lt ↦ inl (omega arith, sym (err_is _ e (let c = cut_number m 1 at w lt in rw c at h)))
      | inr here ↦
          let b = big_number 1 (drop at w) in
          let octet : b ≡ get_or w at 0 = octet_is at w in
          let c = number_at-here m 1 at w here in
          let g = rw c at h in
          elim (by_test (is_high (b / 16)) _ _ _ g) [
            | inr t ↦ inr
                (inl (
                  omega arith,
                  wrong_high m r high is_high low is_low next at (start + 1) w rules path
                      (omega arith)
                      (omega arith) (ap (λ (x : ℕ). is_high (x / 16)) (sym octet) ∙ t.0),
                  sym (err_is _ e t.1) ∙ placed m at start high is,
                ))
            | inl t ↦
                inr (inr (
                  omega arith,
                  sound_high m r high is_high low is_low next at (start + 1) w rules path inh fits
                      (omega arith) (omega arith) (ap (λ (x : ℕ). is_high (x / 16)) (sym octet)
                      ∙ t.0),
                  elim (by_test (is_low (b / 16) (b % 16)) _ _ _ t.1) [
                    | inr u ↦ inr
                        (inl (
                          omega arith,
                          wrong_low m r high is_high low is_low next at
                              (start + 1 + 1) b w rules path here
                              (omega arith) refl t.0 u.0,
                          sym (err_is _ e u.1) ∙ placed_low m at start low is,
                        ))
                    | inl u ↦
                        let next_path =
                        path_halves m r high is_high low is_low next at b w path refl t.0 u.0 in
                        let small : b < 256 = omega (arith, octet, fits at) in
                        let next_inh =
                        (inh.1 (b / 16) (omega arith) t.0).1 (b % 16) (omega arith) u.0 in
                        inr (inr (
                          omega arith,
                          sound_front m r (next (b / 16) (b % 16)) (at + 1)
                              (start + 1 + 1) w rules next_path next_inh fits here (omega arith),
                          faults m never r (next (b / 16) (b % 16)) (at + 1)
                              (start + 1 + 1) w e rules next_path next_inh fits here
                              (omega arith) u.1,
                        ))
                  ],
                ))
          ]
    ]
faults m never r (octets n next) at start w e rules path inh fits le is h =
    elim (cases_lt (length w) (at + n)) [
      | inl lt ↦ inl (omega arith, sym (err_is _ e (let c = cut_octets m n at w lt in rw c at h)))
      | inr here ↦
          let c = octets_at-here m n at w here in
          let g = rw c at h in
          let next_path = path_octets m r n next at w path in
          let next_inh =
          inh (take n (drop at w)) (omega (arith, length-take n (drop at w), length-drop at w))
          (IsBytes-take n (drop at w) (IsBytes-drop at w fits)) in
          inr (inr (
            omega arith,
            sound_front m r (next (take n (drop at w))) (at + n)
                (start + 2 * n) w rules next_path next_inh fits here (omega arith),
            faults m never r (next (take n (drop at w))) (at + n)
                (start + 2 * n) w e rules next_path next_inh fits here (omega arith) g,
          ))
    ]

-- ---- what is read has no fault

pub faultless : {K E X : Type 0} (m : Faults K E) {Encodes : X → List ℕ → Type 0} (never : K) (r f : Format K X) (at start : ℕ) (w : List ℕ) (x : X) (end : ℕ)
    (e : E) → Rules m Encodes r → Path m r f at w → IsInhabited f → IsBytes w → at ≤ length w
    → start ≡ 2 * at → walk m f at w ≡ Ok (x, end) → FaultAmong m Encodes (rows_in never f at w) start w e → ⊥
faultless m never r (ends y) at start w x end e rules path inh fits le is h no_fault = no_fault
faultless m never r (number n kind right next) at start w x end e rules path inh fits le is h no_fault =
    let a = number_read m n at w _ (x, end) h in
    let t = judged_ok (right (big_number n (drop at w))) _ _ _ a.1 in
    let next_path = path_number m r n kind right next at w path t.0 in
    let next_inh =
    inh.1 (big_number n (drop at w)) (big_from-lt 0 n (drop at w) (IsBytes-drop at w fits)) t.0 in
    let sound =
    sound_front m r (next (big_number n (drop at w))) (at + n)
    (start + 2 * n) w rules next_path next_inh fits a.0 (omega arith) in
    elim no_fault [
      | inl cut ↦ absurd (omega (arith, cut.0, a.0))
      | inr rest ↦ elim rest [
        | inl bad ↦ bad.1 sound
        | inr more ↦ faultless m never r (next (big_number n (drop at w))) (at + n)
            (start + 2 * n) w x end e rules next_path next_inh fits a.0 (omega arith) t.1 more.2
      ]
    ]
faultless m never r
    (halves high is_high low is_low next) at start w x end e rules path inh fits le is h no_fault =
    let a = number_read m 1 at w _ (x, end) h in
    let b = big_number 1 (drop at w) in
    let t = judged_ok (is_high (b / 16)) _ _ _ a.1 in
    let u = judged_ok (is_low (b / 16) (b % 16)) _ _ _ t.1 in
    let octet : b ≡ get_or w at 0 = octet_is at w in
    let small : b < 256 = omega (arith, octet, fits at) in
    let next_path = path_halves m r high is_high low is_low next at b w path refl t.0 u.0 in
    let next_inh = (inh.1 (b / 16) (omega arith) t.0).1 (b % 16) (omega arith) u.0 in
    let sound =
    sound_front m r (next (b / 16) (b % 16)) (at + 1)
    (start + 1 + 1) w rules next_path next_inh fits a.0 (omega arith) in
    let sound_first =
    sound_high m r high is_high low is_low next at (start + 1) w rules path inh fits
    (omega (arith, a.0)) (omega arith) (ap (λ (x : ℕ). is_high (x / 16)) (sym octet) ∙ t.0) in
    elim no_fault [
      | inl cut ↦ absurd (omega (arith, cut.0, a.0))
      | inr rest ↦ elim rest [
        | inl bad ↦ bad.1 sound_first
        | inr more ↦ elim more.2 [
          | inl cut ↦ absurd (omega (arith, cut.0, a.0))
          | inr rest_low ↦ elim rest_low [
            | inl bad ↦ bad.1 sound
            | inr last ↦ faultless m never r (next (b / 16) (b % 16)) (at + 1)
                (start + 1 + 1) w x end e rules next_path next_inh fits a.0 (omega arith) u.1 last.2
          ]
        ]
      ]
    ]
faultless m never r (octets n next) at start w x end e rules path inh fits le is h no_fault =
    let a = octets_read m n at w _ (x, end) h in
    let next_path = path_octets m r n next at w path in
    let next_inh =
    inh (take n (drop at w)) (omega (arith, a.0, length-take n (drop at w), length-drop at w))
    (IsBytes-take n (drop at w) (IsBytes-drop at w fits)) in
    let sound =
    sound_front m r (next (take n (drop at w))) (at + n)
    (start + 2 * n) w rules next_path next_inh fits a.0 (omega arith) in
    elim no_fault [
      | inl cut ↦ absurd (omega (arith, cut.0, a.0))
      | inr rest ↦ elim rest [
        | inl bad ↦ bad.1 sound
        | inr more ↦ faultless m never r (next (take n (drop at w))) (at + n)
            (start + 2 * n) w x end e rules next_path next_inh fits a.0 (omega arith) a.1 more.2
      ]
    ]

-- ---- there is one fault m at most

pub one_fault : {K E X : Type 0} (m : Faults K E) (Encodes : X → List ℕ → Type 0) (rows : List (Row K)) (start : ℕ) (w : List ℕ) (e d : E) → FaultAmong m Encodes rows start w e
    → FaultAmong m Encodes rows start w d → e ≡ d
one_fault m Encodes [] start w e d he hd = absurd he
one_fault m Encodes (row ∷ rows) start w e d (inl a) (inl b) = a.1 ∙ sym b.1
one_fault m Encodes (row ∷ rows) start w e d (inl a) (inr (inl b)) = absurd (omega (arith, a.0, b.0))
one_fault m Encodes (row ∷ rows) start w e d (inl a) (inr (inr b)) = absurd (omega (arith, a.0, b.0))
one_fault m Encodes (row ∷ rows) start w e d (inr (inl a)) (inl b) = absurd (omega (arith, a.0, b.0))
one_fault m Encodes (row ∷ rows) start w e d (inr (inl a)) (inr (inl b)) = a.2 ∙ sym b.2
one_fault m Encodes (row ∷ rows) start w e d (inr (inl a)) (inr (inr b)) = absurd (a.1 b.1)
one_fault m Encodes (row ∷ rows) start w e d (inr (inr a)) (inl b) = absurd (omega (arith, a.0, b.0))
one_fault m Encodes (row ∷ rows) start w e d (inr (inr a)) (inr (inl b)) = absurd (b.1 a.1)
one_fault m Encodes (row ∷ rows) start w e d (inr (inr a)) (inr (inr b)) =
    one_fault m Encodes rows (start + row.halves) w e d a.2 b.2
