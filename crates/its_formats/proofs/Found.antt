-- A walk reads what a format spells, and nothing else.
use Rattle.std.proofs.Common.{◌≡◌, ℕ, ◌+◌, ◌*◌, ◌/◌, ◌%◌, ◌^◌, ◌<◌, ◌≤◌, List, [], ◌∷◌, ◌++◌}
use Rattle.std.proofs.Common.{length, take, drop, Bool, true, false, cond, Result, Ok, Err, refl}
use Rattle.std.proofs.Common.{sym, ap, subst, ◌∙◌, arith, append_assoc, length-append, length-drop}
use Rattle.std.proofs.Common.{length-take}
use Rattle.std.proofs.lemmas.Bool.{ltb-false, le-ltb}
use Rattle.std.proofs.lemmas.List.{take_at, drop_at, take-append-drop, drop-drop}
use Rattle.byteorder.specs.Endian.{big_number, big_bytes}
use Rattle.byteorder.specs.Numbers.{big_number-reads_back, big_from-lt, length-bytes_high_first}
use Rattle.its_formats.specs.Bytes.{IsBytes}
use Rattle.its_formats.specs.Format.{Format, Faults, ends, number, halves, octets, walk}
use Rattle.its_formats.specs.Format.{number_at, octets_at, ◌>>=◌}
use Rattle.its_formats.specs.Spells.{Spells}
use Rattle.its_formats.proofs.Numbers.{IsBytes-drop, IsBytes-take, big_bytes-big_number}

pub bind_ok : {A B E : Type 0} (r : Result A E) (f : A → Result B E) (y : B)
    → (r >>= f) ≡ Ok y → (x : A) × (r ≡ Ok x) × (f x ≡ Ok y)
bind_ok (Ok x) f y e = (x, refl, e)
bind_ok (Err d) f y e = absurd cc

-- a test that did not fail
pub judged_ok : {A E : Type 0} (b : Bool) (r : Result A E) (d : E) (y : A)
    → cond b r (Err d) ≡ Ok y → (b ≡ true) × (r ≡ Ok y)
judged_ok true r d y e = (refl, e)
judged_ok false r d y e = absurd cc

abbrev fine : {A E : Type 0} → A → Result A E
fine x = Ok x

pub ok_is : {A E : Type 0} (x y : A) → fine {A = A} {E = E} x ≡ fine y → x ≡ y
ok_is x y e = cc

read_ok : {A E : Type 0} (b : Bool) (x y : A) (d : E) → cond b (Err d) (fine x) ≡ Ok y
    → (b ≡ false) × (x ≡ y)
read_ok true x y d e = absurd cc
read_ok false x y d e = (refl, ok_is x y e)

pub number_at-ok : {K E : Type 0} (m : Faults K E) (n at : ℕ) (w : List ℕ) (v : ℕ) → number_at m n at w ≡ Ok v
    → (at + n ≤ length w) × (big_number n (drop at w) ≡ v)
unfolding number_at
number_at-ok m n at w v e = let r = read_ok _ _ _ _ e in (ltb-false _ _ r.0, r.1)

pub octets_at-ok : {K E : Type 0} (m : Faults K E) (n at : ℕ) (w v : List ℕ) → octets_at m n at w ≡ Ok v
    → (at + n ≤ length w) × (take n (drop at w) ≡ v)
unfolding octets_at
octets_at-ok m n at w v e = let r = read_ok _ _ _ _ e in (ltb-false _ _ r.0, r.1)

pub number_at-here : {K E : Type 0} (m : Faults K E) (n at : ℕ) (w : List ℕ) → at + n ≤ length w
    → number_at m n at w ≡ Ok (big_number n (drop at w))
unfolding number_at
number_at-here m n at w le = rw (le-ltb _ _ le) refl

pub octets_at-here : {K E : Type 0} (m : Faults K E) (n at : ℕ) (w : List ℕ) → at + n ≤ length w
    → octets_at m n at w ≡ Ok (take n (drop at w))
unfolding octets_at
octets_at-here m n at w le = rw (le-ltb _ _ le) refl

pub number_read : {K E A : Type 0} (m : Faults K E) (n at : ℕ) (w : List ℕ) (g : ℕ → Result A E) (y : A)
    → (number_at m n at w >>= g) ≡ Ok y → (at + n ≤ length w) × (g (big_number n (drop at w)) ≡ Ok y)
number_read m n at w g y e =
    let a = bind_ok (number_at m n at w) g y e in
    let h = number_at-ok m n at w a.0 a.1 in
    (h.0, ap g h.1 ∙ a.2)

pub octets_read : {K E A : Type 0} (m : Faults K E) (n at : ℕ) (w : List ℕ) (g : List ℕ → Result A E) (y : A)
    → (octets_at m n at w >>= g) ≡ Ok y → (at + n ≤ length w) × (g (take n (drop at w)) ≡ Ok y)
octets_read m n at w g y e =
    let a = bind_ok (octets_at m n at w) g y e in
    let h = octets_at-ok m n at w a.0 a.1 in
    (h.0, ap g h.1 ∙ a.2)

-- what stands at a place, in two parts
pub split_at : (n at : ℕ) (w : List ℕ) → drop at w ≡ take n (drop at w) ++ drop (at + n) w
split_at n at w =
    sym (take-append-drop n (drop at w))
    ∙ ap (λ (t : List ℕ). take n (drop at w) ++ t) (drop-drop n at w)

pub number_is : (n at : ℕ) (w : List ℕ) (v : ℕ) → IsBytes w → at + n ≤ length w
    → big_number n (drop at w) ≡ v → drop at w ≡ big_bytes n v ++ drop (at + n) w
number_is n at w v fits le e =
    split_at n at w
    ∙ ap (λ (t : List ℕ). t ++ drop (at + n) w)
    (sym (big_bytes-big_number n (drop at w) (omega (arith, length-drop at w))
    (IsBytes-drop at w fits)) ∙ ap (big_bytes n) e)

-- ---- what is read

pub record Found {K A : Type 0} (f : Format K A) (x : A) (at : ℕ) (w : List ℕ) (end : ℕ) : Type 0 where
  pub text : List ℕ
  pub spells : Spells f x text
  pub parts : drop at w ≡ text ++ drop end w
  pub size : end ≡ at + length text
  pub inside : at ≤ length w → end ≤ length w

join : (at n end : ℕ) (w a b : List ℕ) → drop at w ≡ a ++ drop (at + n) w
    → drop (at + n) w ≡ b ++ drop end w → drop at w ≡ (a ++ b) ++ drop end w
join at n end w a b e h = e ∙ ap (λ (t : List ℕ). a ++ t) h ∙ sym (append_assoc a b (drop end w))

-- one octet as its two halves
pub two_halves : (v : ℕ) → v < 256 → 16 * (v / 16) + v % 16 ≡ v
two_halves v h = omega arith

pub one_octet : (v : ℕ) → v < 256 → big_bytes 1 v ≡ v ∷ []
one_octet v h = ap (λ (t : ℕ). t ∷ []) (omega arith)

pub found : {K E A : Type 0} (m : Faults K E) (f : Format K A) (x : A) (at : ℕ) (w : List ℕ) (end : ℕ) → IsBytes w
    → walk m f at w ≡ Ok (x, end) → Found f x at w end
found {A = A} m (ends y) x at w end fits e =
    let p = ok_is (y, at) (x, end) e in
    let q : at ≡ end = ap (λ (t : A × ℕ). t.1) p in
    record {
      text = [];
      spells = (ap (λ (t : A × ℕ). t.0) p, refl);
      parts = ap (λ (t : ℕ). drop t w) q;
      size = omega arith;
      inside = λ le. omega arith;
    }
found m (number n kind right next) x at w end fits e =
    let a = bind_ok (number_at m n at w) _ (x, end) e in
    let v = a.0 in
    let h = number_at-ok m n at w v a.1 in
    let j = judged_ok (right v) _ _ _ a.2 in
    let i = found m (next v) x (at + n) w end fits j.1 in
    let lt : v < 256 ^ n =
    subst (λ t. t < 256 ^ n) h.1 (big_from-lt 0 n (drop at w) (IsBytes-drop at w fits)) in
    let len : length (big_bytes n v) ≡ n = length-bytes_high_first n v in
    record {
      text = big_bytes n v ++ i.text;
      spells = (v, i.text, lt, j.0, refl, i.spells);
      parts = join at n end w (big_bytes n v) i.text (number_is n at w v fits h.0 h.1) i.parts;
      size = omega (arith, i.size, len, length-append (big_bytes n v) i.text);
      inside = λ le. i.inside h.0;
    }
found m (halves high is_high low is_low next) x at w end fits e =
    let a = bind_ok (number_at m 1 at w) _ (x, end) e in
    let v = a.0 in
    let h = number_at-ok m 1 at w v a.1 in
    let j = judged_ok (is_high (v / 16)) _ _ _ a.2 in
    let k = judged_ok (is_low (v / 16) (v % 16)) _ _ _ j.1 in
    let i = found m (next (v / 16) (v % 16)) x (at + 1) w end fits k.1 in
    let lt : v < 256 ^ 1 =
    subst (λ t. t < 256 ^ 1) h.1 (big_from-lt 0 1 (drop at w) (IsBytes-drop at w fits)) in
    let here : drop at w ≡ (16 * (v / 16) + v % 16) ∷ drop (at + 1) w =
    number_is 1 at w v fits h.0 h.1
    ∙ ap (λ (t : List ℕ). t ++ drop (at + 1) w) (one_octet v (omega arith))
    ∙ ap (λ (t : ℕ). t ∷ drop (at + 1) w) (sym (two_halves v (omega arith))) in
    record {
      text = (16 * (v / 16) + v % 16) ∷ i.text;
      spells = (v / 16, v % 16, i.text, omega arith, omega arith, j.0, k.0, refl, i.spells);
      parts = join at 1 end w ((16 * (v / 16) + v % 16) ∷ []) i.text here i.parts;
      size = omega (arith, i.size);
      inside = λ le. i.inside h.0;
    }
found m (octets n next) x at w end fits e =
    let a = bind_ok (octets_at m n at w) _ (x, end) e in
    let v = a.0 in
    let h = octets_at-ok m n at w v a.1 in
    let i = found m (next v) x (at + n) w end fits a.2 in
    let len : length v ≡ n =
    subst (λ (t : List ℕ). length t ≡ n) h.1
    (omega (arith, length-take n (drop at w), length-drop at w)) in
    record {
      text = v ++ i.text;
      spells = (
        v,
        i.text,
        len,
        subst IsBytes h.1 (IsBytes-take n (drop at w) (IsBytes-drop at w fits)),
        refl,
        i.spells,
      );
      parts = join at n end w v i.text (split_at n at w
          ∙ ap (λ (t : List ℕ). t ++ drop (at + n) w) h.1) i.parts;
      size = omega (arith, i.size, len, length-append v i.text);
      inside = λ le. i.inside h.0;
    }

-- ---- what is spelled is read

room : (at : ℕ) (w a b : List ℕ) → drop at w ≡ a ++ b → at ≤ length w → at + length a ≤ length w
room at w a b e le = let l = ap length e in omega (arith, l, length-append a b, length-drop at w)

rest_of : (at n : ℕ) (w a b : List ℕ) → length a ≡ n → drop at w ≡ a ++ b → drop (at + n) w ≡ b
rest_of at n w a b len e = sym (drop-drop n at w) ∙ ap (drop n) e ∙ drop_at a b n len

pub again : {K E A : Type 0} (m : Faults K E) (f : Format K A) (x : A) (at : ℕ) (w s rest : List ℕ) → Spells f x s
    → drop at w ≡ s ++ rest → at ≤ length w → walk m f at w ≡ Ok (x, at + length s)
again {A = A} m (ends y) x at w s rest (e, n) parts le = let l = ap length n in
    ap (λ (t : A × ℕ). fine t)
    (let p : (y, at) ≡ (x, at + length s) = rw (e, n) (ap (λ (t : ℕ). (x, t)) (omega arith)) in p)
again m (number n kind right next) x at w s rest (v, t, lt, r, e, h) parts le =
    let p : drop at w ≡ big_bytes n v ++ (t ++ rest) =
    parts ∙ ap (λ (z : List ℕ). z ++ rest) e ∙ append_assoc (big_bytes n v) t rest in
    let len : length (big_bytes n v) ≡ n = length-bytes_high_first n v in
    let fit : at + n ≤ length w = omega (arith, room at w (big_bytes n v) (t ++ rest) p le, len) in
    let read : number_at m n at w ≡ Ok v =
    number_at-here m n at w fit
    ∙ ap (λ (z : ℕ). fine z) (ap (big_number n) p ∙ big_number-reads_back n v (t ++ rest) lt) in
    let i = again m (next v) x (at + n) w t rest h
    (rest_of at n w (big_bytes n v) (t ++ rest) len p) fit in
    let size : at + n + length t ≡ at + length s = let l = ap length e in
    omega (arith, l, len, length-append (big_bytes n v) t) in
    rw (read, r, i) (ap (λ (z : ℕ). fine (x, z)) size)
again m (halves high is_high low is_low next) x at w s rest (h, l, t, lh, ll, rh, rl, e, k) parts le =
    let p : drop at w ≡ (16 * h + l) ∷ (t ++ rest) = parts ∙ ap (λ (z : List ℕ). z ++ rest) e in
    let fit : at + 1 ≤ length w = room at w ((16 * h + l) ∷ []) (t ++ rest) p le in
    let read : number_at m 1 at w ≡ Ok (16 * h + l) =
    number_at-here m 1 at w fit ∙ ap (λ (z : ℕ). fine z) (ap (big_number 1) p ∙ omega arith) in
    let i = again m (next h l) x (at + 1) w t rest k
    (rest_of at 1 w ((16 * h + l) ∷ []) (t ++ rest) refl p) fit in
    let size : at + 1 + length t ≡ at + length s = let q = ap length e in omega (arith, q) in
    let high_is : (16 * h + l) / 16 ≡ h = omega arith in
    let low_is : (16 * h + l) % 16 ≡ l = omega arith in
    rw (read, high_is, low_is, rh, rl, i) (ap (λ (z : ℕ). fine (x, z)) size)
again m (octets n next) x at w s rest (v, t, len, fits, e, h) parts le =
    let p : drop at w ≡ v ++ (t ++ rest) =
    parts ∙ ap (λ (z : List ℕ). z ++ rest) e ∙ append_assoc v t rest in
    let fit : at + n ≤ length w = omega (arith, room at w v (t ++ rest) p le, len) in
    let read : octets_at m n at w ≡ Ok v =
    octets_at-here m n at w fit
    ∙ ap (λ (z : List ℕ). fine z) (ap (take n) p ∙ take_at v (t ++ rest) n len) in
    let i = again m (next v) x (at + n) w t rest h (rest_of at n w v (t ++ rest) len p) fit in
    let size : at + n + length t ≡ at + length s = let l = ap length e in
    omega (arith, l, len, length-append v t) in
    rw (read, i) (ap (λ (z : ℕ). fine (x, z)) size)
