-- What the headers of data frames of IEEE 802.11 say.
use Rattle.std.proofs.Common.{◌≡◌, ℕ, ◌+◌, ◌<◌, ◌≤◌, List, ◌++◌, length, take, drop, Result, Ok, Err}
use Rattle.std.proofs.Common.{Bool, true, false, cond, not, ◌&&◌, refl, sym, ap, ◌∙◌, arith, append_assoc}
use Rattle.std.proofs.Common.{eqb, drop-drop, nat_lt, ◌==◌}
use Rattle.std.proofs.lemmas.Bool.{ltb-false}
use Rattle.std.proofs.lemmas.List.{take-append-drop}
use Rattle.byteorder.specs.Endian.{big_number}
use Rattle.its_formats.specs.Format as formats
use Rattle.its_formats.specs.Format.{octets, ends, octets_at, number_at, ◌>>=◌}
use Rattle.its_formats.proofs.Found.{number_at-here, octets_at-here}
use Rattle.cap_linklayers.specs.Ieee80211.{data_format, data_at, is_data, is_gathered, snap_number}
use Rattle.cap_linklayers.specs.Ieee80211.{fourth_octets, qos_octets, ht_octets, filling_octets}
use Rattle.cap_linklayers.specs.Ieee80211.{target_of, source_of, header_octets, to_ds, from_ds, joined, front_of}
use Rattle.cap_linklayers.specs.LinkFormats.{Format, link_faults, skipped, any_number, check}
use Rattle.cap_linklayers.specs.declared.ieee80211.DataHeader.{DataHeader}
use Rattle.cap_linklayers.specs.declared.link.LinkFault.{LinkFault}
use Rattle.cap_linklayers.specs.declared.link.LinkFault.TheVariants as faults

-- what the fields of a header say, of these widths
abbrev Says : Type 0
Says = List ℕ → List ℕ → List ℕ → List ℕ → List ℕ → List ℕ

-- the fields behind the frame control
abbrev fields : (a q h f : ℕ) → Says → Format (List ℕ)
fields a q h f say =
    skipped 2 (octets 6 λ first.
    octets 6 λ second.
    octets 6 λ third.
    skipped 2 (octets a λ fourth.
    any_number q λ qos.
    skipped h (skipped f (any_number 6 λ snap.
    octets 2 λ kind.
    check (not (is_gathered qos) && (snap == snap_number)) (ends (say first second third fourth kind))))))

abbrev reads : List ℕ → ℕ → Result (List ℕ × ℕ) LinkFault
reads front end = Ok (front, end)

fields_read : (a q h f : ℕ) (say : Says) (w : List ℕ) (at : ℕ)
    → at + 32 + (a + q + (h + f)) ≤ length w
    → formats.walk link_faults (fields a q h f say) (at + 2) w
    ≡ cond (not (is_gathered (big_number q (drop (at + 2 + 2 + 6 + 6 + 6 + 2 + a) w)))
    && (big_number 6 (drop (at + 2 + 2 + 6 + 6 + 6 + 2 + a + q + h + f) w) == snap_number))
    (reads (say (take 6 (drop (at + 2 + 2) w)) (take 6 (drop (at + 2 + 2 + 6) w))
    (take 6 (drop (at + 2 + 2 + 6 + 6) w)) (take a (drop (at + 2 + 2 + 6 + 6 + 6 + 2) w))
    (take 2 (drop (at + 2 + 2 + 6 + 6 + 6 + 2 + a + q + h + f + 6) w)))
    (at + 2 + 2 + 6 + 6 + 6 + 2 + a + q + h + f + 6 + 2 + 0)) (Err faults.Kind)
fields_read a q h f say w at room =
    let n1 = octets_at-here link_faults 2 (at + 2) w (omega arith) in
    let n2 = octets_at-here link_faults 6 (at + 2 + 2) w (omega arith) in
    let n3 = octets_at-here link_faults 6 (at + 2 + 2 + 6) w (omega arith) in
    let n4 = octets_at-here link_faults 6 (at + 2 + 2 + 6 + 6) w (omega arith) in
    let n5 = octets_at-here link_faults 2 (at + 2 + 2 + 6 + 6 + 6) w (omega arith) in
    let n6 = octets_at-here link_faults a (at + 2 + 2 + 6 + 6 + 6 + 2) w (omega arith) in
    let n7 = number_at-here link_faults q (at + 2 + 2 + 6 + 6 + 6 + 2 + a) w (omega arith) in
    let n8 = octets_at-here link_faults h (at + 2 + 2 + 6 + 6 + 6 + 2 + a + q) w (omega arith) in
    let n9 = octets_at-here link_faults f (at + 2 + 2 + 6 + 6 + 6 + 2 + a + q + h) w (omega arith) in
    let n10 = number_at-here link_faults 6 (at + 2 + 2 + 6 + 6 + 6 + 2 + a + q + h + f) w (omega arith) in
    let n11 = octets_at-here link_faults 2 (at + 2 + 2 + 6 + 6 + 6 + 2 + a + q + h + f + 6) w (omega arith) in
    let n12 = number_at-here link_faults 0 (at + 2 + 2 + 6 + 6 + 6 + 2 + a + q + h + f + 6 + 2) w (omega arith) in
    rw (n1, n2, n3, n4, n5, n6, n7, n8, n9, n10, n11, n12) refl

-- a field that isn't there, or one behind it
cut_or : {A B E : Type 0} (b : Bool) (d : E) (x : A) (f : A → Result B E)
    → (b ≡ false → f x ≡ Err d) → (cond b (Err d) (Ok x) >>= f) ≡ Err d
cut_or true d x f rest = refl
cut_or false d x f rest = rest refl

pub octets_cut : {A : Type 0} (n at : ℕ) (w : List ℕ) (next : List ℕ → Result A LinkFault)
    → (at + n ≤ length w → next (take n (drop at w)) ≡ Err faults.Short)
    → (octets_at link_faults n at w >>= next) ≡ Err faults.Short
unfolding octets_at
octets_cut n at w next rest =
    cut_or (nat_lt (length w) (at + n)) faults.Short _ next (λ e. rest (ltb-false _ _ e))

pub number_cut : {A : Type 0} (n at : ℕ) (w : List ℕ) (next : ℕ → Result A LinkFault)
    → (at + n ≤ length w → next (big_number n (drop at w)) ≡ Err faults.Short)
    → (number_at link_faults n at w >>= next) ≡ Err faults.Short
unfolding number_at
number_cut n at w next rest =
    cut_or (nat_lt (length w) (at + n)) faults.Short _ next (λ e. rest (ltb-false _ _ e))

fields_cut : (a q h f : ℕ) (say : Says) (w : List ℕ) (at : ℕ)
    → length w < at + 32 + (a + q + (h + f))
    → formats.walk link_faults (fields a q h f say) (at + 2) w ≡ Err faults.Short
fields_cut a q h f say w at short =
    octets_cut 2 _ w _ λ r1. octets_cut 6 _ w _ λ r2. octets_cut 6 _ w _ λ r3.
    octets_cut 6 _ w _ λ r4. octets_cut 2 _ w _ λ r5. octets_cut a _ w _ λ r6.
    number_cut q _ w _ λ r7. octets_cut h _ w _ λ r8. octets_cut f _ w _ λ r9.
    number_cut 6 _ w _ λ r10. octets_cut 2 _ w _ λ r11. absurd (omega arith)

-- ---- the walk over a whole header

abbrev control_at : List ℕ → ℕ → ℕ
control_at w at = big_number 2 (drop at w)

abbrev says : ℕ → Says
says control first second third fourth kind =
    (target_of control first third ++ source_of control second third fourth) ++ kind

-- the widths behind the three addresses and the sequence control
abbrev widths : Bool → ℕ → ℕ
widths filled c = fourth_octets c + qos_octets c + (ht_octets c + filling_octets filled c)

judged : {A E : Type 0} (b : Bool) (r s : Result A E) → b ≡ true → cond b r s ≡ r
judged b r s e = rw (e) refl

data_begins : (filled : Bool) (w : List ℕ) (at c : ℕ) → at + 2 ≤ length w → c ≡ control_at w at
    → data_at filled w at ≡ cond (is_data c)
    (formats.walk link_faults
    (fields (fourth_octets c) (qos_octets c) (ht_octets c) (filling_octets filled c) (says c)) (at + 2) w)
    (Err faults.Kind)
unfolding data_format
data_begins filled w at c room e = rw (number_at-here link_faults 2 at w room, e) refl

pub data_none : (filled : Bool) (w : List ℕ) (at : ℕ) → length w < at + 2
    → data_at filled w at ≡ Err faults.Short
unfolding data_format
data_none filled w at short = number_cut 2 at w _ (λ r. absurd (omega arith))

pub data_other : (filled : Bool) (w : List ℕ) (at c : ℕ) → at + 2 ≤ length w → c ≡ control_at w at
    → is_data c ≡ false → data_at filled w at ≡ Err faults.Kind
data_other filled w at c room e other = data_begins filled w at c room e ∙ (rw (other) refl)

-- the frame control is that of data, and LLC would begin at this place
abbrev pub BeginsData : Bool → List ℕ → ℕ → ℕ → ℕ → Type 0
BeginsData filled w at c llc =
    (at + 2 ≤ length w) × (c ≡ control_at w at) × (is_data c ≡ true)
    × (llc ≡ at + (header_octets c + filling_octets filled c))

pub data_cut : (filled : Bool) (w : List ℕ) (at c llc : ℕ) → BeginsData filled w at c llc
    → length w < llc + 8 → data_at filled w at ≡ Err faults.Short
data_cut filled w at c llc begins short =
    data_begins filled w at c begins.0 begins.1 ∙ judged _ _ _ begins.2
    ∙ fields_cut (fourth_octets c) (qos_octets c) (ht_octets c) (filling_octets filled c) (says c) w at
    (omega (arith, begins.3, short))

-- the same walk, where LLC begins at this place
moved : (a q h f : ℕ) (say : Says) (w : List ℕ) (at llc : ℕ) → llc ≡ at + (24 + (a + (q + h)) + f)
    → at + 32 + (a + q + (h + f)) ≤ length w
    → formats.walk link_faults (fields a q h f say) (at + 2) w
    ≡ cond (not (is_gathered (big_number q (drop (at + 24 + a) w)))
    && (big_number 6 (drop llc w) == snap_number))
    (reads (say (take 6 (drop (at + 4) w)) (take 6 (drop (at + 10) w))
    (take 6 (drop (at + 16) w)) (take a (drop (at + 24) w)) (take 2 (drop (llc + 6) w))) (llc + 6 + 2))
    (Err faults.Kind)
moved a q h f say w at llc place room =
    let e : at + 2 + 2 + 6 + 6 + 6 + 2 + a + q + h + f ≡ llc = omega (arith, place) in
    let e4 : at + 2 + 2 ≡ at + 4 = omega arith in
    let e10 : at + 4 + 6 ≡ at + 10 = omega arith in
    let e16 : at + 10 + 6 ≡ at + 16 = omega arith in
    let e22 : at + 16 + 6 ≡ at + 22 = omega arith in
    let e24 : at + 22 + 2 ≡ at + 24 = omega arith in
    let end : llc + 6 + 2 + 0 ≡ llc + 6 + 2 = omega arith in
    fields_read a q h f say w at room ∙ (rw (e, e4, e10, e16, e22, e24, end) refl)

-- ---- a whole header

abbrev pub qos_at : ℕ → List ℕ → ℕ → ℕ
qos_at c w at = big_number (qos_octets c) (drop (at + 24 + fourth_octets c) w)

data_whole : (filled : Bool) (w : List ℕ) (at c llc : ℕ) → BeginsData filled w at c llc
    → llc + 8 ≤ length w → data_at filled w at
    ≡ cond (not (is_gathered (qos_at c w at)) && (big_number 6 (drop llc w) == snap_number))
    (reads (says c (take 6 (drop (at + 4) w)) (take 6 (drop (at + 10) w))
    (take 6 (drop (at + 16) w)) (take (fourth_octets c) (drop (at + 24) w))
    (take 2 (drop (llc + 6) w))) (llc + 6 + 2)) (Err faults.Kind)
data_whole filled w at c llc begins room =
    data_begins filled w at c begins.0 begins.1 ∙ judged _ _ _ begins.2
    ∙ moved (fourth_octets c) (qos_octets c) (ht_octets c) (filling_octets filled c) (says c) w at llc
    begins.3 (omega (arith, begins.3, room))

pub data_gathered : (filled : Bool) (w : List ℕ) (at c llc : ℕ) → BeginsData filled w at c llc
    → llc + 8 ≤ length w → is_gathered (qos_at c w at) ≡ true → data_at filled w at ≡ Err faults.Kind
data_gathered filled w at c llc begins room is =
    data_whole filled w at c llc begins room ∙ (rw (is) refl)

other_than : (b c : Bool) {A E : Type 0} (r s : Result A E) → c ≡ false → cond (b && c) r s ≡ s
other_than true false r s e = refl
other_than false false r s e = refl
other_than true true r s e = absurd cc
other_than false true r s e = refl

pub data_other_snap : (filled : Bool) (w : List ℕ) (at c llc : ℕ) → BeginsData filled w at c llc
    → llc + 8 ≤ length w → eqb (big_number 6 (drop llc w)) snap_number ≡ false
    → data_at filled w at ≡ Err faults.Kind
data_other_snap filled w at c llc begins room other =
    data_whole filled w at c llc begins room ∙ other_than (not (is_gathered (qos_at c w at))) _ _ _ other

-- the addresses of target and source, from where they are
target_by : (to : Bool) (at : ℕ) (w : List ℕ)
    → cond to (take 6 (drop (at + 16) w)) (take 6 (drop (at + 4) w)) ≡ take 6 (drop (at + cond to 16 4) w)
target_by true at w = refl
target_by false at w = refl

source_by : (to from : Bool) (at : ℕ) (w : List ℕ)
    → cond from (cond to (take (cond (to && from) 6 0) (drop (at + 24) w)) (take 6 (drop (at + 16) w))) (take 6 (drop (at + 10) w))
    ≡ take 6 (drop (at + cond from (cond to 24 16) 10) w)
source_by true true at w = refl
source_by false true at w = refl
source_by true false at w = refl
source_by false false at w = refl

target_there : (c at : ℕ) (w : List ℕ) → target_of c (take 6 (drop (at + 4) w)) (take 6 (drop (at + 16) w))
    ≡ take 6 (drop (at + target_of c 4 16) w)
target_there c at w = target_by (to_ds c) at w

source_there : (c at : ℕ) (w : List ℕ)
    → source_of c (take 6 (drop (at + 10) w)) (take 6 (drop (at + 16) w)) (take (fourth_octets c) (drop (at + 24) w))
    ≡ take 6 (drop (at + source_of c 10 16 24) w)
source_there c at w = source_by (to_ds c) (from_ds c) at w

pub data_read : (filled : Bool) (w : List ℕ) (at c llc : ℕ) → BeginsData filled w at c llc
    → llc + 8 ≤ length w → is_gathered (qos_at c w at) ≡ false
    → eqb (big_number 6 (drop llc w)) snap_number ≡ true → data_at filled w at
    ≡ reads ((take 6 (drop (at + target_of c 4 16) w) ++ take 6 (drop (at + source_of c 10 16 24) w))
    ++ take 2 (drop (llc + 6) w)) (llc + 6 + 2)
data_read filled w at c llc begins room one snap =
    data_whole filled w at c llc begins room ∙ (rw (one, snap, target_there c at w, source_there c at w) refl)

-- ---- the frame

pub joined_is : (h : DataHeader) (w : List ℕ) → joined h w ≡ front_of h w ++ drop (h.kind + 2) w
joined_is h w =
    ap (λ (t : List ℕ). (take 6 (drop h.target w) ++ take 6 (drop h.source w)) ++ t)
    (sym (take-append-drop 2 (drop h.kind w))
    ∙ ap (λ (t : List ℕ). take 2 (drop h.kind w) ++ t) (drop-drop 2 h.kind w))
    ∙ sym (append_assoc (take 6 (drop h.target w) ++ take 6 (drop h.source w)) (take 2 (drop h.kind w)) _)
