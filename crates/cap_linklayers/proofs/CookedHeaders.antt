-- What the headers of cooked captures say.
use Rattle.std.proofs.Common.{◌≡◌, ℕ, ◌≤◌, List, ◌++◌, length, take, drop, Result, Ok, true, eqb, refl}
use Rattle.std.proofs.Common.{sym, ap, ◌∙◌, arith, eq-eqb}
use Rattle.byteorder.specs.Endian.{big_number}
use Rattle.its_formats.proofs.Found.{number_at-here, octets_at-here}
use Rattle.cap_linklayers.specs.declared.link.LinkFault.{LinkFault}
use Rattle.cap_linklayers.specs.LinkFormats.{Format, walk, link_faults}
use Rattle.cap_linklayers.specs.Cooked.{IsCooked, sll_format, sll2_format, target_of, is_shared}

abbrev reads : List ℕ → ℕ → Result (List ℕ × ℕ) LinkFault
reads front end = Ok (front, end)

-- a frame whose first octets are these
cooked : (header : Format (List ℕ)) (w f front said : List ℕ) (end : ℕ)
    → walk header w ≡ Ok (said, end) → front ≡ said → f ≡ front ++ drop end w → IsCooked header w f
cooked header w f front said end reading same frame = record {
  front = front;
  end = end;
  reading = reading ∙ ap (λ (t : List ℕ). reads t end) (sym same);
  frame = frame;
}

sll_reads : (w : List ℕ) → 16 ≤ length w → big_number 2 (drop 4 w) ≡ 6
    → walk sll_format w ≡ Ok (
      (target_of (is_shared (big_number 2 w)) ++ take 6 (drop 6 w)) ++ take 2 (drop 14 w),
      16,
    )
unfolding sll_format
sll_reads w room size =
    let n0 = number_at-here link_faults 2 0 w (omega arith) in
    let n1 = octets_at-here link_faults 2 2 w (omega arith) in
    let n2 = number_at-here link_faults 2 4 w (omega arith) in
    let n3 = octets_at-here link_faults 6 6 w (omega arith) in
    let n4 = octets_at-here link_faults 2 12 w (omega arith) in
    let n5 = octets_at-here link_faults 2 14 w (omega arith) in
    let n6 = number_at-here link_faults 0 16 w (omega arith) in
    let six : eqb (big_number 2 (drop 4 w)) 6 ≡ true = eq-eqb _ _ size in
    rw (n0, n1, n2, n3, n4, n5, n6, six) refl

sll2_reads : (w : List ℕ) → 20 ≤ length w → big_number 1 (drop 11 w) ≡ 6
    → walk sll2_format w ≡ Ok (
      (target_of (is_shared (big_number 1 (drop 10 w))) ++ take 6 (drop 12 w)) ++ take 2 w,
      20,
    )
unfolding sll2_format
sll2_reads w room size =
    let n0 = octets_at-here link_faults 2 0 w (omega arith) in
    let n1 = octets_at-here link_faults 8 2 w (omega arith) in
    let n2 = number_at-here link_faults 1 10 w (omega arith) in
    let n3 = number_at-here link_faults 1 11 w (omega arith) in
    let n4 = octets_at-here link_faults 6 12 w (omega arith) in
    let n5 = octets_at-here link_faults 2 18 w (omega arith) in
    let n6 = number_at-here link_faults 0 20 w (omega arith) in
    let six : eqb (big_number 1 (drop 11 w)) 6 ≡ true = eq-eqb _ _ size in
    rw (n0, n1, n2, n3, n4, n5, n6, six) refl

pub sll_frame : (w f front : List ℕ) → 16 ≤ length w → big_number 2 (drop 4 w) ≡ 6
    → front ≡ (target_of (is_shared (big_number 2 w)) ++ take 6 (drop 6 w)) ++ take 2 (drop 14 w)
    → f ≡ front ++ drop 16 w → IsCooked sll_format w f
sll_frame w f front room size same frame =
    cooked sll_format w f front _ 16 (sll_reads w room size) same frame

pub sll2_frame : (w f front : List ℕ) → 20 ≤ length w → big_number 1 (drop 11 w) ≡ 6
    → front ≡ (target_of (is_shared (big_number 1 (drop 10 w))) ++ take 6 (drop 12 w)) ++ take 2 w
    → f ≡ front ++ drop 20 w → IsCooked sll2_format w f
sll2_frame w f front room size same frame =
    cooked sll2_format w f front _ 20 (sll2_reads w room size) same frame
