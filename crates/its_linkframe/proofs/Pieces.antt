-- One piece after another: what a buffer holds, and what was written of a text.
use Rattle.std.proofs.Common.{◌≡◌, ℕ, ◌+◌, ◌-◌, ◌≤◌, List, ◌++◌, length, take, drop, Option, sym}
use Rattle.std.proofs.Common.{ap, subst, ◌∙◌, arith, length-append, length-take}
use Rattle.std.proofs.lemmas.List.{take-append-le, take_rest}
use Rattle.std.proofs.Math.Seq.{take-add, take-append-add}
use Rattle.std.proofs.KnownBytes.{Appends-trans, Consumes-trans}
use borrow.Rule.Slice.PartMut.{put_mid}
use Rattle.std.specs.Io.KnownBytes.{Appends, Consumes}

-- a read into the rest of a buffer: what the buffer now holds is what was consumed
pub Consumes-put_mid : (a b c : Option (List ℕ)) (at k n : ℕ) (buf new : List ℕ) → at ≤ length buf
    → n ≤ length new → Consumes a b (take at buf) → Consumes b c (take n new)
    → Consumes a c (take (at + n) (put_mid at k buf new))
Consumes-put_mid a b c at k n buf new le fit p q =
    let size : at ≡ length (take at buf) = omega (arith, length-take at buf) in
    let text : take (at + n) (put_mid at k buf new) ≡ take at buf ++ take n new =
    ap (λ (t : ℕ). take (t + n) (put_mid at k buf new)) size
    ∙ take-append-add (take at buf) (new ++ drop k (drop at buf)) n
    ∙ ap (λ (t : List ℕ). take at buf ++ t) (take-append-le n new (drop k (drop at buf)) fit) in
    subst (Consumes a c) (sym text) (Consumes-trans a b c _ _ p q)

pub length-put_mid : (at k n : ℕ) (buf new : List ℕ) → at ≤ length buf → n ≤ length new
    → at + n ≤ length (put_mid at k buf new)
length-put_mid at k n buf new le fit =
    omega (
      arith,
      length-take at buf,
      length-append (take at buf) (new ++ drop k (drop at buf)),
      length-append new (drop k (drop at buf)),
    )

-- a write of the rest of a text: what was appended is a longer front of the text
pub Appends-rest : (a b c : Option (List ℕ)) (at n : ℕ) (text : List ℕ) → Appends a b (take at text)
    → Appends b c (take n (take (length text - at) (drop at text)))
    → Appends a c (take (at + n) text)
Appends-rest a b c at n text p q =
    let whole = subst (λ (t : List ℕ). Appends b c (take n t)) (take_rest text at) q in
    subst (Appends a c) (sym (take-add at n text)) (Appends-trans a b c _ _ p whole)
