-- What octets say, from the parts in which they were read.
use Rattle.std.proofs.Common.{◌≡◌, ℕ, ◌+◌, ◌<◌, ◌≤◌, List, ◌++◌, length, drop, Option, None, Some}
use Rattle.std.proofs.Common.{IfSome, sym, ap, subst, ◌∙◌, arith, length-drop}
use Rattle.std.proofs.lemmas.List.{drop-append-le}
use Rattle.std.proofs.Math.Seq.{drop-append-add}
use Rattle.std.specs.Io.KnownBytes.{Consumes}
use Rattle.byteorder.specs.Numbers.{big_from-append, little_from-append}
use Rattle.cap_pcap.specs.declared.octets.Endianness.{Endianness}
use Rattle.cap_pcap.specs.declared.octets.Endianness.TheVariants as orders
use Rattle.cap_pcap.specs.Octets.{number_in}
use Rattle.cap_pcap.specs.Reading.{EndsWhere}
use Rattle.cap_pcap.proofs.Cuts.{ConsumesPrefix-after}

-- what holds of all octets that begin with those that went holds of those that there were
pub IfSome-of : (P : List ℕ → Type 0) (a b : Option (List ℕ)) (p : List ℕ) → Consumes a b p
    → ((v : List ℕ) → P (p ++ v))
    → IfSome a P
IfSome-of P None b p gone all = tt
IfSome-of P (Some u) None p gone all = absurd gone
IfSome-of P (Some u) (Some v) p gone all = subst P (sym gone) (all v)

-- the same where few octets followed
pub IfSome-few : (P : List ℕ → Type 0) (a b : Option (List ℕ)) (p : List ℕ) (n : ℕ) → Consumes a b p
    → IfSome b (λ w. length w < n) → ((v : List ℕ) → length v < n → P (p ++ v))
    → IfSome a P
IfSome-few P None b p n gone few all = tt
IfSome-few P (Some u) None p n gone few all = absurd gone
IfSome-few P (Some u) (Some v) p n gone few all = subst P (sym gone) (all v few)

pub EndsWhere-after : (P : List ℕ → Type 0) (a b c : Option (List ℕ)) (p : List ℕ) (n : ℕ)
    → Consumes a b p → EndsWhere (λ w. length w < n) b c
    → ((v : List ℕ) → length v < n → P (p ++ v))
    → EndsWhere P a c
EndsWhere-after P a b c p n gone cut all =
    (IfSome-few P a b p n gone cut.0 all, ConsumesPrefix-after a b c p gone cut.1, cut.2)

pub number_in-append : (o : Endianness) (n : ℕ) (p v : List ℕ) → n ≤ length p
    → number_in o n (p ++ v) ≡ number_in o n p
number_in-append orders.Big n p v le = big_from-append n p v le
number_in-append orders.Little n p v le = little_from-append n p v le

-- a number in the first part
pub number_in-front : (o : Endianness) (n k : ℕ) (p v : List ℕ) → k + n ≤ length p
    → number_in o n (drop k (p ++ v)) ≡ number_in o n (drop k p)
number_in-front o n k p v le =
    ap (number_in o n) (drop-append-le k p v (omega arith))
    ∙ number_in-append o n (drop k p) v (omega (arith, le, length-drop k p))

-- a number in the second part
pub number_in-behind : (o : Endianness) (n k j : ℕ) (p v : List ℕ) → k ≡ length p + j
    → number_in o n (drop k (p ++ v)) ≡ number_in o n (drop j v)
number_in-behind o n k j p v is =
    ap (λ (t : ℕ). number_in o n (drop t (p ++ v))) is ∙ ap (number_in o n) (drop-append-add p v j)
