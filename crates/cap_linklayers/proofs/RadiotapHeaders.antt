-- What radiotap headers say.
use Rattle.std.proofs.Common.{◌≡◌, ◌≢◌, ℕ, zero, suc, ◌+◌, ◌-◌, ◌*◌, ◌/◌, ◌<◌, ◌≤◌, List, []}
use Rattle.std.proofs.Common.{length, take, drop}
use Rattle.std.proofs.Common.{Bool, true, false, cond, Result, Ok, Err, refl, sym, ap, ◌∙◌, arith}
use Rattle.std.proofs.Common.{slice_index}
use Rattle.std.proofs.Common.{true≢false, eqb, eq-eqb, ne_eqb, le-leb, leb-true, lt_irrefl, leb}
use Rattle.std.proofs.Common.{lt_of_le_of_lt}
use Rattle.std.proofs.Common.{length-take-le, length-drop, take_all, inl, inr, Some, None, Option}
use Rattle.std.proofs.Common.{le-ltb, lt-ltb, ltb, is_some}
use Rattle.std.proofs.lemmas.Bool.{cases_lt}
use Rattle.std.proofs.lemmas.List.{get_or-take, get_or-drop}
use Rattle.byteorder.specs.Endian.{big_number, little_number}
use Rattle.its_formats.specs.Format as formats
use Rattle.its_formats.specs.Format.{octets_at, ◌>>=◌}
use Rattle.its_formats.proofs.Found.{number_at-here, octets_at-here}
use Rattle.cap_linklayers.proofs.DataHeaders.{octets_cut, number_cut}
use Rattle.cap_linklayers.specs.LinkFormats.{Format, link_faults, walk, check}
use Rattle.cap_linklayers.specs.Ieee80211.{has_bit, is_retry_at}
use Rattle.cap_linklayers.specs.Radiotap.{header, words, further, has_next, next_at, length_of}
use Rattle.cap_linklayers.specs.Radiotap.{IsThere}
use Rattle.cap_linklayers.specs.Radiotap.{IsLastWord, IsEndless, Fields, octet_at, field_of}
use Rattle.cap_linklayers.specs.Radiotap.{flags_at, has_flags}
use Rattle.cap_linklayers.specs.Radiotap.{fields_format, radiotap_format, flags_in, or_zero}
use Rattle.cap_linklayers.specs.Radiotap.{rate_at, rate_end, channel_end, signal_at}
use Rattle.cap_linklayers.specs.Radiotap.{has_tsft, has_channel, has_hopping, retry_after}
use Rattle.cap_linklayers.specs.declared.link.LinkFault.{LinkFault}
use Rattle.cap_linklayers.specs.declared.link.LinkFault.TheVariants as faults

-- ---- the chain of present words

abbrev Next : Type 0 → Type 0
Next A = ℕ → List ℕ → Format A

word_octet : (w : List ℕ) (at i : ℕ) → i < 4 → slice_index (take 4 (drop at w)) i
    ≡ slice_index w (at + i)
word_octet w at i lt = get_or-take 4 (drop at w) i 0 lt ∙ get_or-drop at w i 0

word_next : (w : List ℕ) (at k : ℕ) → at ≡ 8 + 4 * k → has_next (take 4 (drop at w))
    ≡ next_at w (suc k)
word_next w at k e =
    let place : at + 3 ≡ 7 + 4 * suc k = omega (arith, e) in
    ap (λ (x : ℕ). has_bit 128 x) (word_octet w at 3 (omega arith)
    ∙ ap (λ (i : ℕ). slice_index w i) place)

last_here : (w : List ℕ) (k m : ℕ) → IsLastWord w m → false ≡ next_at w k → k ≤ m → k ≡ m
last_here w k m last bit km =
    elim (cases_lt k m) [
      | inl lt ↦ absurd (true≢false (sym (last.before k lt) ∙ sym bit))
      | inr le ↦ omega (arith, km, le)
    ]

not_last : (w : List ℕ) (k m : ℕ) → IsLastWord w m → true ≡ next_at w k → k ≤ m → k < m
not_last w k m last bit km =
    elim (cases_lt k m) [
      | inl lt ↦ lt
      | inr le ↦ (let same : k ≡ m = omega (arith, km, le) in
          absurd (true≢false (bit ∙ ap (λ (n : ℕ). next_at w n) same ∙ last.last)))
    ]

-- the fields of a header whose last word is word m
further_found : {A : Type 0} (left k at size m : ℕ) (b : Bool) (w : List ℕ) (next : Next A)
    → IsLastWord w m → at ≡ 8 + 4 * k → b ≡ next_at w k → k ≤ m → 8 + 4 * m ≤ size → m ≤ k + left
    → size ≤ length w
    → formats.walk link_faults (further left at b size next) at w
    ≡ formats.walk link_faults (next (8 + 4 * m) (take (size - (8 + 4 * m)) (drop
    (8 + 4 * m) w))) size w
further_found left k at size m false w next last e bit km room fuel le =
    let same : at ≡ 8 + 4 * m = omega (arith, e, last_here w k m last bit km) in
    let here = octets_at-here link_faults (size - at) at w (omega (arith, same, room, le)) in
    let end : at + (size - at) ≡ size = omega (arith, same, room) in
    rw (here, end, same) refl
further_found zero k at size m true w next last e bit km room fuel le =
    let same : m ≡ k = omega (arith, km, fuel) in
    absurd (true≢false (bit ∙ ap (λ (n : ℕ). next_at w n) (sym same) ∙ last.last))
further_found (suc left) k at size m true w next last e bit km room fuel le =
    let more : k < m = not_last w k m last bit km in
    let here = octets_at-here link_faults 4 at w (omega (arith, e, more, room, le)) in
    rw (here) (further_found left (suc k) (at + 4) size m _ w next last (omega (arith, e))
    (word_next w at k e)
    (omega (arith, more)) room (omega (arith, fuel)) le)

-- a header that ends before its last word has no fields
further_endless : {A : Type 0} (left k at size : ℕ) (b : Bool) (w : List ℕ) (next : Next A)
    → IsEndless w size → at ≡ 8 + 4 * k → b ≡ next_at w k → at + 4 * left ≤ size
    → size < at + 4 * left + 4 → size ≤ length w
    → formats.walk link_faults (further left at b size next) at w
    ≡ formats.walk link_faults (next 0 []) size w
further_endless left k at size false w next all e bit room full le =
    absurd (true≢false (sym (all k (omega (arith, e, room))) ∙ sym bit))
further_endless zero k at size true w next all e bit room full le =
    let here = octets_at-here link_faults (size - at) at w (omega (arith, room, le)) in
    let end : at + (size - at) ≡ size = omega (arith, room) in
    rw (here, end) refl
further_endless (suc left) k at size true w next all e bit room full le =
    let here = octets_at-here link_faults 4 at w (omega (arith, room, le)) in
    rw (here) (further_endless left (suc k) (at + 4) size _ w next all (omega (arith, e))
    (word_next w at k e)
    (omega (arith, room)) (omega (arith, full)) le)

-- the record ends inside the header
further_cut : {A : Type 0} (left at size : ℕ) (b : Bool) (w : List ℕ) (next : Next A)
    → at + 4 * left ≤ size → length w < size
    → formats.walk link_faults (further left at b size next) at w ≡ Err faults.Short
further_cut left at size false w next room short = octets_cut (size - at) at w _ (λ r. absurd
    (omega (arith, r, room, short)))
further_cut zero at size true w next room short = octets_cut (size - at) at w _ (λ r. absurd (omega
    (arith, r, room, short)))
further_cut (suc left) at size true w next room short =
    octets_cut 4 at w _ (λ r. further_cut left (at + 4) size _ w next (omega (arith, room)) short)

-- some fields, whatever the words say
record Reached {A : Type 0} (next : Next A) (walked : Result (A × ℕ) LinkFault) (size : ℕ)
    (w : List ℕ) : Type 0 where
  start : ℕ
  fields : List ℕ
  is : walked ≡ formats.walk link_faults (next start fields) size w

further_reached : {A : Type 0} (left at size : ℕ) (b : Bool) (w : List ℕ) (next : Next A)
    → at + 4 * left ≤ size → size ≤ length w
    → Reached next (formats.walk link_faults (further left at b size next) at w) size w
further_reached left at size false w next room le =
    let here = octets_at-here link_faults (size - at) at w (omega (arith, room, le)) in
    let end : at + (size - at) ≡ size = omega (arith, room) in
    record { start = at; fields = take (size - at) (drop at w); is = rw (here, end) refl }
further_reached zero at size true w next room le =
    let here = octets_at-here link_faults (size - at) at w (omega (arith, room, le)) in
    let end : at + (size - at) ≡ size = omega (arith, room) in
    record { start = 0; fields = []; is = rw (here, end) refl }
further_reached (suc left) at size true w next room le =
    let here = octets_at-here link_faults 4 at w (omega (arith, room, le)) in
    let r = further_reached left (at + 4) size (has_next (take 4 (drop at w))) w next (omega (
      arith,
      room,
    )) le in
    record { start = r.start; fields = r.fields; is = rw (here) r.is }

-- ---- before the present words

not_true : (b : Bool) → ¬ (b ≡ true) → b ≡ false
not_true true other = absurd (other refl)
not_true false other = refl

length_read : (xs : List ℕ) → little_number 2 (take 2 xs) ≡ little_number 2 xs
length_read xs = rw (get_or-take 2 xs 0 0 (omega arith), get_or-take 2 xs 1 0 (omega arith)) refl

-- the length, read from the rest of the record
pub length_is : (w : List ℕ) → little_number 2 (take (length w - 2) (drop 2 w)) ≡ length_of w
length_is w =
    ap (λ (xs : List ℕ). little_number 2 xs)
    (take_all (length w - 2) (drop 2 w) (omega (arith, length-drop 2 w)))

version_read : (w : List ℕ) → big_number 1 w ≡ slice_index w 0
version_read w = omega arith

abbrev head : {A : Type 0} → (Fields → Format A) → List ℕ → Result (A × ℕ) LinkFault
head next w = formats.walk link_faults (header next) 0 w

pub head_none : {A : Type 0} (next : Fields → Format A) (w : List ℕ) → length w < 1 → head next w
    ≡ Err faults.Short
unfolding header
head_none next w short = number_cut 1 0 w _ (λ r. absurd (omega (arith, r, short)))

pub head_other : {A : Type 0} (next : Fields → Format A) (w : List ℕ) → 1 ≤ length w
    → slice_index w 0 ≢ 0
    → head next w ≡ Err faults.Kind
unfolding header
head_other next w room other =
    let here = number_at-here link_faults 1 0 w room in
    let no : eqb (slice_index w 0) 0 ≡ false = ne_eqb _ _ other in
    rw (here, version_read w, no) refl

head_versioned : {A : Type 0} (next : Fields → Format A) (w : List ℕ) → 1 ≤ length w
    → slice_index w 0 ≡ 0
    → head next w ≡
    (octets_at link_faults 1 1 w >>= λ filling. octets_at link_faults 2 2 w >>= λ size.
    formats.number_at link_faults 0 4 w >>= λ v. cond (leb 8 (little_number 2 size))
    (formats.walk link_faults (words (little_number 2 size) next) 4 w) (Err faults.Kind))
unfolding header
head_versioned next w room zero_is =
    let here = number_at-here link_faults 1 0 w room in
    let yes : eqb (slice_index w 0) 0 ≡ true = eq-eqb _ _ zero_is in
    rw (here, version_read w, yes) refl

pub head_short : {A : Type 0} (next : Fields → Format A) (w : List ℕ) → 1 ≤ length w
    → slice_index w 0 ≡ 0
    → length w < 4 → head next w ≡ Err faults.Short
head_short next w room version short =
    head_versioned next w room version
    ∙ octets_cut 1 1 w _ (λ r. octets_cut 2 2 w _ (λ q. absurd (omega (arith, q, short))))

-- the present words and the fields, if the header is large enough for one word
abbrev sized : {A : Type 0} → (Fields → Format A) → List ℕ → ℕ → Result (A × ℕ) LinkFault
sized next w size = cond (leb 8 size) (formats.walk link_faults (words size next) 4 w)
    (Err faults.Kind)

head_measured : {A : Type 0} (next : Fields → Format A) (w : List ℕ) → 4 ≤ length w
    → slice_index w 0 ≡ 0
    → head next w ≡ cond (leb 8 (length_of w)) (formats.walk link_faults (words
    (length_of w) next) 4 w)
    (Err faults.Kind)
head_measured next w room version =
    let n1 = octets_at-here link_faults 1 1 w (omega (arith, room)) in
    let n2 = octets_at-here link_faults 2 2 w (omega (arith, room)) in
    let n3 = number_at-here link_faults 0 4 w (omega (arith, room)) in
    let step : head next w ≡ sized next w (little_number 2 (take 2 (drop 2 w))) =
    head_versioned next w (omega (arith, room)) version ∙ (rw (n1, n2, n3) refl) in
    step ∙ ap (λ (size : ℕ). sized next w size) (length_read (drop 2 w))

leb-no : (a b : ℕ) → b < a → leb a b ≡ false
leb-no a b lt = not_true (leb a b) (λ e. lt_irrefl a (lt_of_le_of_lt (leb-true a b e) lt))

pub head_small : {A : Type 0} (next : Fields → Format A) (w : List ℕ) → 4 ≤ length w
    → slice_index w 0 ≡ 0
    → length_of w < 8 → head next w ≡ Err faults.Kind
head_small next w room version small =
    let no : leb 8 (length_of w) ≡ false = leb-no _ _ small in
    head_measured next w room version ∙ (rw (no) refl)

head_words : {A : Type 0} (next : Fields → Format A) (w : List ℕ) → 4 ≤ length w → slice_index w 0
    ≡ 0
    → 8 ≤ length_of w → head next w ≡ formats.walk link_faults (words (length_of w) next) 4 w
head_words next w room version large =
    let yes : leb 8 (length_of w) ≡ true = le-leb _ _ large in
    head_measured next w room version ∙ (rw (yes) refl)

pub head_cut : {A : Type 0} (next : Fields → Format A) (w : List ℕ) → 4 ≤ length w
    → slice_index w 0 ≡ 0
    → 8 ≤ length_of w → length w < length_of w → head next w ≡ Err faults.Short
head_cut next w room version large short =
    head_words next w room version large
    ∙ octets_cut 4 4 w _ (λ r. further_cut ((length_of w - 8) / 4) 8 (length_of w) _ w _ (omega
    (arith, large)) short)

-- ---- a header that is there

first_bits : (w : List ℕ) → slice_index (take 4 (drop 4 w)) 0 ≡ slice_index w 4
first_bits w = word_octet w 4 0 (omega arith)

first_next : (w : List ℕ) → has_next (take 4 (drop 4 w)) ≡ next_at w 0
first_next w = ap (λ (x : ℕ). has_bit 128 x) (word_octet w 4 3 (omega arith))

-- what follows the further words
abbrev then_fields : {A : Type 0} → (Fields → Format A) → ℕ → Next A
then_fields next bits start fields = next (record { bits = bits; start = start; octets = fields })

-- the walk from the second present word on
abbrev behind_first : {A : Type 0} → (Fields → Format A) → List ℕ → ℕ → Result (A × ℕ) LinkFault
behind_first next w bits =
    formats.walk link_faults
    (further ((length_of w - 8) / 4) 8 (has_next (take 4 (drop 4 w))) (length_of w)
    (then_fields next bits)) 8 w

head_there : {A : Type 0} (next : Fields → Format A) (w : List ℕ) → IsThere w
    → head next w ≡ behind_first next w (slice_index w 4)
head_there next w there =
    let here = octets_at-here link_faults 4 4 w (omega (arith, there.2, there.3)) in
    let step : formats.walk link_faults (words (length_of w) next) 4 w
    ≡ behind_first next w (slice_index (take 4 (drop 4 w)) 0) = rw (here) refl in
    head_words next w there.0 there.1 there.2 ∙ step
    ∙ ap (λ (bits : ℕ). behind_first next w bits) (first_bits w)

-- the last present word is word m, which is inside the header
abbrev pub HasEnd : List ℕ → ℕ → Type 0
HasEnd w m = IsLastWord w m × (8 + 4 * m ≤ length_of w)

abbrev fields_of : List ℕ → ℕ → Fields
fields_of w start =
    record {
      bits = slice_index w 4;
      start = start;
      octets = take (length_of w - start)
          (drop start w);
    }

abbrev no_fields : List ℕ → Fields
no_fields w = record { bits = slice_index w 4; start = 0; octets = [] }

head_found : {A : Type 0} (next : Fields → Format A) (w : List ℕ) (m : ℕ) → IsThere w → HasEnd w m
    → head next w ≡ formats.walk link_faults (next (fields_of w (8 + 4 * m))) (length_of w) w
head_found next w m there end =
    head_there next w there
    ∙ further_found ((length_of w - 8) / 4) 0 8 (length_of w) m _ w (then_fields next
    (slice_index w 4)) end.0
    (omega arith) (first_next w) (omega arith) end.1 (omega (arith, end.1)) there.3

head_endless : {A : Type 0} (next : Fields → Format A) (w : List ℕ) → IsThere w
    → IsEndless w (length_of w)
    → head next w ≡ formats.walk link_faults (next (no_fields w)) (length_of w) w
head_endless next w there all =
    head_there next w there
    ∙ further_endless ((length_of w - 8) / 4) 0 8 (length_of w) _ w (then_fields next
    (slice_index w 4)) all
    (omega arith) (first_next w) (omega (arith, there.2)) (omega (arith, there.2)) there.3

head_reached : {A : Type 0} (next : Fields → Format A) (w : List ℕ) → IsThere w
    → Reached (then_fields next (slice_index w 4)) (head next w) (length_of w) w
head_reached next w there =
    let r = further_reached ((length_of w - 8) / 4) 8 (length_of w) (has_next (take 4 (drop 4 w))) w
    (then_fields next (slice_index w 4)) (omega (arith, there.2)) there.3 in
    record { start = r.start; fields = r.fields; is = head_there next w there ∙ r.is }

-- ---- octets of fields

abbrev some_octet : ℕ → Option ℕ
some_octet x = Some x

abbrev nothing : {A : Type 0} → Option A
nothing = None

octet_inside : (w : List ℕ) (start place : ℕ) → start ≤ place → place < length_of w
    → length_of w ≤ length w
    → octet_at (fields_of w start) place ≡ Some (slice_index w place)
octet_inside w start place low high le =
    let room : length_of w - start ≤ length (drop start w) = omega (
      arith,
      length-drop start w,
      low,
      high,
      le,
    ) in
    let long = length-take-le (length_of w - start) (drop start w) room in
    let size : start + (length_of w - start) ≡ length_of w = omega (arith, low, high) in
    let yes : ltb place (length_of w) ≡ true = lt-ltb _ _ high in
    let back : start + (place - start) ≡ place = omega (arith, low) in
    let value = get_or-take (length_of w - start) (drop start w) (place - start) 0 (omega (
      arith,
      low,
      high,
    ))
    ∙ get_or-drop start w (place - start) 0 ∙ ap (λ (i : ℕ). slice_index w i) back in
    rw (long, size, yes) (ap (λ (x : ℕ). some_octet x) value)

octet_outside : (w : List ℕ) (start place : ℕ) → start ≤ length_of w → length_of w ≤ place
    → length_of w ≤ length w
    → octet_at (fields_of w start) place ≡ None
octet_outside w start place low high le =
    let room : length_of w - start ≤ length (drop start w) = omega (
      arith,
      length-drop start w,
      low,
      le,
    ) in
    let long = length-take-le (length_of w - start) (drop start w) room in
    let size : start + (length_of w - start) ≡ length_of w = omega (arith, low) in
    let no : ltb place (length_of w) ≡ false = le-ltb _ _ high in
    rw (long, size, no) refl

octet_nowhere : (w : List ℕ) (place : ℕ) → octet_at (no_fields w) place ≡ None
octet_nowhere w place = rw (le-ltb place 0 (omega arith)) refl

-- ---- the flags

-- what follows the fields where the flags have to be inside
abbrev checked : Fields → Format ℕ
checked f = check (is_some (flags_in f)) (formats.ends (or_zero (flags_in f)))

flagged : (w : List ℕ) (f : Fields) (flags : ℕ) → IsThere w → flags_in f ≡ Some flags
    → formats.walk link_faults (checked f) (length_of w) w ≡ Ok (flags, length_of w)
flagged w f flags there is =
    let here = number_at-here link_faults 0 (length_of w) w (omega (arith, there.3)) in
    let end : length_of w + 0 ≡ length_of w = omega arith in
    rw (here, is, end) refl

unflagged : (w : List ℕ) (f : Fields) → IsThere w → flags_in f ≡ None
    → formats.walk link_faults (checked f) (length_of w) w ≡ Err faults.Kind
unflagged w f there is =
    let here = number_at-here link_faults 0 (length_of w) w (omega (arith, there.3)) in
    rw (here, is) refl

flags_low : (b : Bool) (start : ℕ) → start ≤ cond b ((start + 7) / 8 * 8 + 8) start
flags_low true start = omega arith
flags_low false start = omega arith

pub flags_found : (w : List ℕ) (m place : ℕ) → IsThere w → HasEnd w m → place
    ≡ flags_at (slice_index w 4) (8 + 4 * m)
    → place < length_of w → has_flags (slice_index w 4) ≡ true → walk radiotap_format w
    ≡ Ok (slice_index w place, length_of w)
flags_found w m place there end is inside has =
    let low : 8 + 4 * m ≤ place = omega (
      arith,
      is,
      flags_low (has_tsft (slice_index w 4))
          (8 + 4 * m),
    ) in
    let octet = octet_inside w (8 + 4 * m) place low inside there.3 in
    let here = number_at-here link_faults 0 (length_of w) w (omega (arith, there.3)) in
    let flags : flags_in (fields_of w (8 + 4 * m))
    ≡ Some (slice_index w place) = rw (has, sym is) octet in
    head_found checked w m there end ∙ flagged w (fields_of w (8 + 4 * m)) _ there flags

pub flags_beyond : (w : List ℕ) (m place : ℕ) → IsThere w → HasEnd w m → place
    ≡ flags_at (slice_index w 4) (8 + 4 * m)
    → length_of w ≤ place → has_flags (slice_index w 4) ≡ true → walk radiotap_format w
    ≡ Err faults.Kind
flags_beyond w m place there end is outside has =
    let octet = octet_outside w (8 + 4 * m) place end.1 outside there.3 in
    let flags : flags_in (fields_of w (8 + 4 * m)) ≡ None = rw (has, sym is) octet in
    head_found checked w m there end ∙ unflagged w (fields_of w (8 + 4 * m)) there flags

pub flags_endless : (w : List ℕ) → IsThere w → IsEndless w (length_of w)
    → has_flags (slice_index w 4) ≡ true → walk radiotap_format w ≡ Err faults.Kind
flags_endless w there all has =
    let flags : flags_in (no_fields w) ≡ None = rw (has) (octet_nowhere w _) in
    head_endless checked w there all ∙ unflagged w (no_fields w) there flags

pub flags_unsaid : (w : List ℕ) → IsThere w → has_flags (slice_index w 4) ≡ false
    → walk radiotap_format w ≡ Ok (0, length_of w)
flags_unsaid w there unsaid =
    let r = head_reached checked w there in
    let f : Fields = record { bits = slice_index w 4; start = r.start; octets = r.fields } in
    let flags : flags_in f ≡ Some 0 = rw (unsaid) refl in
    r.is ∙ flagged w f 0 there flags

-- ---- other fields

abbrev FieldAt : Type 0
FieldAt = ℕ → ℕ → ℕ

pub field_found : (has : ℕ → Bool) (at : FieldAt) (w : List ℕ) (m place : ℕ) → IsThere w
    → HasEnd w m
    → place ≡ at (slice_index w 4) (8 + 4 * m) → 8 + 4 * m ≤ place → place < length_of w
    → has (slice_index w 4) ≡ true
    → field_of has at (walk fields_format w) ≡ Some (slice_index w place)
field_found has at w m place there end is low inside said =
    let octet = octet_inside w (8 + 4 * m) place low inside there.3 in
    ap (λ (r : Result (Fields × ℕ) LinkFault). field_of has at r) (head_found
    (λ f. formats.ends f) w m there end)
    ∙ (rw (said, sym is) octet)

pub field_beyond : (has : ℕ → Bool) (at : FieldAt) (w : List ℕ) (m place : ℕ) → IsThere w
    → HasEnd w m
    → place ≡ at (slice_index w 4) (8 + 4 * m) → length_of w ≤ place → has (slice_index w 4) ≡ true
    → field_of has at (walk fields_format w) ≡ None
field_beyond has at w m place there end is outside said =
    let octet = octet_outside w (8 + 4 * m) place end.1 outside there.3 in
    ap (λ (r : Result (Fields × ℕ) LinkFault). field_of has at r) (head_found
    (λ f. formats.ends f) w m there end)
    ∙ (rw (said, sym is) octet)

none_there : {A : Type 0} (b : Bool) → cond b (nothing {A = A}) nothing ≡ nothing
none_there true = refl
none_there false = refl

pub field_endless : (has : ℕ → Bool) (at : FieldAt) (w : List ℕ) → IsThere w
    → IsEndless w (length_of w)
    → field_of has at (walk fields_format w) ≡ None
field_endless has at w there all =
    ap (λ (r : Result (Fields × ℕ) LinkFault). field_of has at r) (head_endless
    (λ f. formats.ends f) w there all)
    ∙ (rw (octet_nowhere w (at (slice_index w 4) 0)) (none_there (has (slice_index w 4))))

pub field_unsaid : (has : ℕ → Bool) (at : FieldAt) (w : List ℕ) → IsThere w
    → has (slice_index w 4) ≡ false
    → field_of has at (walk fields_format w) ≡ None
field_unsaid has at w there unsaid =
    let r = head_reached (λ f. formats.ends f) w there in
    ap (λ (s : Result (Fields × ℕ) LinkFault). field_of has at s) r.is ∙ (rw (unsaid) refl)

-- no header is there
record Refused {A : Type 0} (walked : Result A LinkFault) : Type 0 where
  fault : LinkFault
  is : walked ≡ Err fault

head_refused : {A : Type 0} (next : Fields → Format A) (w : List ℕ) → ¬ IsThere w
    → Refused (head next w)
head_refused next w not_there =
    elim (cases_lt (length w) 1) [
      | inl none ↦ record { fault = faults.Short; is = head_none next w none }
      | inr some ↦ elim (cases_lt 0 (slice_index w 0)) [
        | inl other ↦ record {
          fault = faults.Kind;
          is = head_other next w some (λ e. omega (
            arith,
            e,
            other,
          ));
        }
        | inr same ↦ elim (cases_lt (length w) 4) [
          | inl short ↦ record {
            fault = faults.Short;
            is = head_short next w some (omega (
              arith,
              same,
            )) short;
          }
          | inr room ↦ elim (cases_lt (length_of w) 8) [
            | inl small ↦ record {
              fault = faults.Kind;
              is = head_small next w room (omega (
                arith,
                same,
              )) small;
            }
            | inr large ↦ elim (cases_lt (length w) (length_of w)) [
              | inl cut ↦ record {
                fault = faults.Short;
                is = head_cut next w room (omega (
                  arith,
                  same,
                )) large cut;
              }
              | inr whole ↦ absurd (not_there (room, omega (arith, same), large, whole))
            ]
          ]
        ]
      ]
    ]

pub field_absent : (has : ℕ → Bool) (at : FieldAt) (w : List ℕ) → ¬ IsThere w
    → field_of has at (walk fields_format w) ≡ None
field_absent has at w not_there =
    ap (λ (r : Result (Fields × ℕ) LinkFault). field_of has at r) (head_refused
    (λ f. formats.ends f) w not_there).is

pub retry_there : (w : List ℕ) → IsThere w → retry_after w (walk fields_format w)
    ≡ is_retry_at w (length_of w)
retry_there w there =
    ap (λ (r : Result (Fields × ℕ) LinkFault). retry_after w r) (head_reached
    (λ f. formats.ends f) w there).is

pub retry_absent : (w : List ℕ) → ¬ IsThere w → retry_after w (walk fields_format w) ≡ false
retry_absent w not_there =
    ap (λ (r : Result (Fields × ℕ) LinkFault). retry_after w r) (head_refused
    (λ f. formats.ends f) w not_there).is

-- the rate and the signal begin after the last present word
pub rate_low : (bits start : ℕ) → start ≤ rate_at bits start
rate_low bits start = omega (arith, flags_low (has_tsft bits) start)

even_low : (b : Bool) (at more : ℕ) → at ≤ cond b ((at + 1) / 2 * 2 + more) at
even_low true at more = omega arith
even_low false at more = omega arith

pub signal_low : (bits start : ℕ) → start ≤ signal_at bits start
signal_low bits start =
    omega (
      arith,
      rate_low bits start,
      even_low (has_channel bits) (rate_end bits start) 4,
      even_low (has_hopping bits) (channel_end bits start) 2,
    )
