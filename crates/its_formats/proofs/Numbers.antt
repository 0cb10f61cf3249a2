-- Numbers of several octets: what is read is what stands there.
use Rattle.std.proofs.Common.{◌≡◌, ℕ, zero, suc, ◌+◌, ◌*◌, ◌/◌, ◌^◌, ◌<◌, ◌≤◌, List, [], ◌∷◌, ◌++◌}
use Rattle.std.proofs.Common.{length, take, drop, sym, ap, ◌∙◌, arith, length-take, inl, inr}
use Rattle.std.proofs.Math.Nat.{mod-lt, mod-eq_of_lt}
use Rattle.std.proofs.lemmas.Bool.{cases_lt}
use Rattle.std.proofs.lemmas.Nat.{same_from_place}
use Rattle.std.proofs.lemmas.List.{append-nil, nil_from_length, get_or-take, get_or_past}
use Rattle.std.proofs.lemmas.List.{get_or-drop}
use Rattle.std.specs.Int.{byte_at}
use Rattle.byteorder.specs.Endian.{big_number, big_bytes}
use Rattle.byteorder.specs.Numbers.{big_from-cons, big_from-bytes, big_from-lt, big_from-take}
use Rattle.byteorder.specs.Numbers.{length-bytes_high_first}
use Rattle.its_formats.specs.Bytes.{IsBytes}

pub IsBytes-drop : (n : ℕ) (w : List ℕ) → IsBytes w → IsBytes (drop n w)
IsBytes-drop n w h i = rw get_or-drop (h (n + i))

pub IsBytes-take : (n : ℕ) (w : List ℕ) → IsBytes w → IsBytes (take n w)
IsBytes-take n w h i =
    elim (cases_lt i n) [
      | inl lt ↦ rw (get_or-take n w i 0 lt) (h i)
      | inr le ↦ rw (get_or_past (take n w) i 0 (omega (arith, length-take n w))) (omega arith)
    ]

byte_at-lt : (k x : ℕ) → byte_at k x < 256
byte_at-lt zero x = mod-lt x (omega arith)
byte_at-lt (suc k) x = mod-lt (x / 256 ^ suc k) (omega arith)

pub IsBytes-big_bytes : (n x : ℕ) → IsBytes (big_bytes n x)
IsBytes-big_bytes zero x i = omega arith
IsBytes-big_bytes (suc n) x zero = byte_at-lt n x
IsBytes-big_bytes (suc n) x (suc i) = IsBytes-big_bytes n x i

tail_bytes : (x : ℕ) (xs : List ℕ) → IsBytes (x ∷ xs) → IsBytes xs
tail_bytes x xs h i = h (suc i)

-- as many octets that are one number are the same
pub same_octets : (n : ℕ) (a b : List ℕ) → length a ≡ n → length b ≡ n → IsBytes a → IsBytes b
    → big_number n a ≡ big_number n b → a ≡ b
same_octets zero a b la lb ha hb e = nil_from_length a la ∙ sym (nil_from_length b lb)
same_octets (suc n) [] b la lb ha hb e = absurd (omega arith)
same_octets (suc n) (x ∷ a) [] la lb ha hb e = absurd (omega arith)
same_octets (suc n) (x ∷ a) (y ∷ b) la lb ha hb e =
    let f : x * 256 ^ n + big_number n a ≡ y * 256 ^ n + big_number n b =
    ap (λ (t : ℕ). x * 256 ^ n + t) (sym (big_from-cons 0 n x a)) ∙ e
    ∙ ap (λ (t : ℕ). y * 256 ^ n + t) (big_from-cons 0 n y b) in
    let p = same_from_place x (big_number n a) y (big_number n b) (256 ^ n)
    (big_from-lt 0 n a (tail_bytes x a ha)) (big_from-lt 0 n b (tail_bytes y b hb)) f in
    let q = same_octets n a b (omega arith) (omega arith) (tail_bytes x a ha)
    (tail_bytes y b hb) p.1 in
    ap (λ (t : ℕ). t ∷ a) p.0 ∙ ap (λ (t : List ℕ). y ∷ t) q

-- the octets of the number that was read
pub big_bytes-big_number : (n : ℕ) (w : List ℕ) → n ≤ length w → IsBytes w
    → big_bytes n (big_number n w) ≡ take n w
big_bytes-big_number n w le h =
    let read : big_number n (big_bytes n (big_number n w)) ≡ big_number n (take n w) =
    ap (big_number n) (sym (append-nil (big_bytes n (big_number n w))))
    ∙ big_from-bytes n (big_number n w) [] ∙ mod-eq_of_lt (big_from-lt 0 n w h)
    ∙ sym (big_from-take 0 n n w (omega arith)) in
    same_octets n (big_bytes n (big_number n w)) (take n w)
    (length-bytes_high_first n (big_number n w)) (omega (arith, length-take n w))
    (IsBytes-big_bytes n (big_number n w)) (IsBytes-take n w h) read

pub IsBytes-append : (a b : List ℕ) → IsBytes a → IsBytes b → IsBytes (a ++ b)
IsBytes-append [] b ha hb i = hb i
IsBytes-append (x ∷ a) b ha hb zero = ha zero
IsBytes-append (x ∷ a) b ha hb (suc i) = IsBytes-append a b (λ k. ha (suc k)) hb i
