-- Radiotap headers, which captures of IEEE 802.11 have before each frame.
use Rattle.std.specs.Prelude.{◌≡◌, ℕ, zero, suc, ◌+◌, ◌-◌, ◌*◌, ◌/◌, ◌<◌, ◌≤◌, Bool, true, false}
use Rattle.std.specs.Prelude.{if◌then◌else◌, nat_lt, nat_le, ◌==◌, is_some, List, [], length, drop}
use Rattle.std.specs.Prelude.{slice_index, Option, Some, None, Result, Ok, Err, ℤ}
use Rattle.std.specs.Int.{w8, cast_signed}
use Rattle.byteorder.specs.Endian.{little_number}
use Rattle.its_formats.specs.Format.{ends, number, octets}
use Rattle.cap_linklayers.specs.Ieee80211.{has_bit, is_retry_at}
use Rattle.cap_linklayers.specs.LinkFormats.{Format, walk, skipped, check}
use Rattle.cap_linklayers.specs.declared.radiotap.RadiotapHeader.{RadiotapHeader}
use Rattle.cap_linklayers.specs.declared.link.LinkFault.{LinkFault}

-- ---- the present words, of 4 octets each, the lowest first

-- The lowest octet of the first word says which fields there are: TSFT (bit 0), the flags (1), the
-- rate (2), the channel (3), hopping (4), and the signal at the antenna in dBm (5).
abbrev pub has_tsft : ℕ → Bool
has_tsft bits = has_bit 1 bits

abbrev pub has_flags : ℕ → Bool
has_flags bits = has_bit 2 bits

abbrev pub has_rate : ℕ → Bool
has_rate bits = has_bit 4 bits

abbrev pub has_channel : ℕ → Bool
has_channel bits = has_bit 8 bits

abbrev pub has_hopping : ℕ → Bool
has_hopping bits = has_bit 16 bits

abbrev pub has_signal : ℕ → Bool
has_signal bits = has_bit 32 bits

-- bit 31 of a word: another word follows
abbrev pub has_next : List ℕ → Bool
has_next word = has_bit 128 (slice_index word 3)

-- ---- the fields, which begin after the last present word

-- TSFT has 8 octets and begins at a multiple of 8. The flags follow.
abbrev pub flags_at : ℕ → ℕ → ℕ
flags_at bits start = if has_tsft bits then (start + 7) / 8 * 8 + 8 else start

-- The flags and the rate have an octet each. The channel (4 octets) and hopping (2) begin at even
-- positions. Then the signal follows.
abbrev pub rate_at : ℕ → ℕ → ℕ
rate_at bits start = flags_at bits start + (if has_flags bits then 1 else 0)

abbrev pub rate_end : ℕ → ℕ → ℕ
rate_end bits start = rate_at bits start + (if has_rate bits then 1 else 0)

abbrev pub channel_end : ℕ → ℕ → ℕ
channel_end bits start =
    if has_channel bits then (rate_end bits start + 1) / 2 * 2 + 4 else rate_end bits start

abbrev pub signal_at : ℕ → ℕ → ℕ
signal_at bits start =
    if has_hopping bits then (channel_end bits start + 1) / 2 * 2 + 2 else channel_end bits start

-- What a header says.
pub record Fields : Type 0 where
  -- the lowest octet of the first present word
  pub bits : ℕ
  -- the position of the fields in the header
  pub start : ℕ
  -- the fields, up to the end of the header
  pub octets : List ℕ

-- the octet at this position of the header, if it is inside
abbrev pub octet_at : Fields → ℕ → Option ℕ
octet_at f place =
    if nat_lt place (f.start + length f.octets)
    then Some (slice_index f.octets (place - f.start)) else None

-- the octet of a field, if the header has the field
abbrev pub field_in : (ℕ → Bool) → (ℕ → ℕ → ℕ) → Fields → Option ℕ
field_in has at f = if has f.bits then octet_at f (at f.bits f.start) else None

-- the flags, which are 0 if the header has none
abbrev pub flags_in : Fields → Option ℕ
flags_in f = if has_flags f.bits then octet_at f (flags_at f.bits f.start) else Some 0

-- ---- the header

-- The present words from this position on, and then the fields up to the end of the header. The
-- numbers are: how many words the header has space for, the position, and the size of the header.
-- The test is whether another word follows. A header that ends before its last word has no fields.
abbrev pub further : {A : Type 0} → ℕ → ℕ → Bool → ℕ → (ℕ → List ℕ → Format A) → Format A
further left at false size next = octets (size - at) (λ fields. next at fields)
further zero at true size next = skipped (size - at) (next 0 [])
further (suc left) at true size next =
    octets 4 (λ word. further left (at + 4) (has_next word) size next)

-- The present words and the fields of a header of this size.
abbrev pub words : {A : Type 0} → ℕ → (Fields → Format A) → Format A
words size next =
    octets 4 (λ first. further ((size - 8) / 4) 8 (has_next first) size (λ start fields.
    next (record { bits = slice_index first 0; start = start; octets = fields })))

-- Version, filling, length, present words, fields. The length counts the whole header.
unfoldable pub header : {A : Type 0} → (Fields → Format A) → Format A
header next =
    number 1 tt (λ version. version == 0) λ version.
    skipped 1 (octets 2 λ size.
    check (nat_le 8 (little_number 2 size)) (words (little_number 2 size) next))

-- a header of which the fields are not tested
abbrev pub fields_format : Format Fields
fields_format = header (λ f. ends f)

abbrev pub or_zero : Option ℕ → ℕ
or_zero None = 0
or_zero (Some octet) = octet

-- A header whose flags are inside it. The format says the flags.
abbrev pub radiotap_format : Format ℕ
radiotap_format = header λ f. check (is_some (flags_in f)) (ends (or_zero (flags_in f)))

-- the flags of a header, and its length, where it ends
abbrev pub IsRadiotap : List ℕ → RadiotapHeader → Type 0
IsRadiotap w h = walk radiotap_format w ≡ Ok (h.flags, h.length)

-- The first rule that doesn't hold.
abbrev pub IsRadiotapFault : List ℕ → LinkFault → Type 0
IsRadiotapFault w fault = walk radiotap_format w ≡ Err fault

-- ---- the rate and the signal

-- the octet of a field, if a header was read and has the field
abbrev pub field_of : (ℕ → Bool) → (ℕ → ℕ → ℕ) → Result (Fields × ℕ) LinkFault → Option ℕ
field_of has at (Ok (f, end)) = field_in has at f
field_of has at (Err fault) = None

-- the rate, in units of 500 kbit/s, if there is one
abbrev pub IsRate : List ℕ → Option ℕ → Type 0
IsRate w rate = rate ≡ field_of has_rate rate_at (walk fields_format w)

-- the signal, in dBm, if there is one
abbrev pub IsSignal : List ℕ → Option ℤ → Type 0
IsSignal w None = field_of has_signal signal_at (walk fields_format w) ≡ None
IsSignal w (Some dbm) =
    (octet : ℕ) × (field_of has_signal signal_at (walk fields_format w) ≡ Some octet)
    × (dbm ≡ cast_signed w8 octet)

-- ---- the retry bit

-- the retry bit after the end of the header that was read
abbrev pub retry_after : List ℕ → Result (Fields × ℕ) LinkFault → Bool
retry_after w (Ok (f, end)) = is_retry_at w end
retry_after w (Err fault) = false

-- whether the header of IEEE 802.11 that comes after this one has the retry bit
abbrev pub IsRetryBehind : List ℕ → Bool → Type 0
IsRetryBehind w retry = retry ≡ retry_after w (walk fields_format w)

-- ---- positions, which the private functions find

abbrev pub length_of : List ℕ → ℕ
length_of w = little_number 2 (drop 2 w)

-- the whole header is there
abbrev pub IsThere : List ℕ → Type 0
IsThere w =
    (4 ≤ length w) × (slice_index w 0 ≡ 0) × (8 ≤ length_of w) × (length_of w ≤ length w)

-- bit 31 of present word n, the first being 0
abbrev pub next_at : List ℕ → ℕ → Bool
next_at w n = has_bit 128 (slice_index w (7 + 4 * n))

-- each word before word n says that another follows, and word n doesn't
pub record IsLastWord (w : List ℕ) (n : ℕ) : Type 0 where
  pub before : (k : ℕ) → k < n → next_at w k ≡ true
  pub last : next_at w n ≡ false

-- no word inside a header of this size is the last
abbrev pub IsEndless : List ℕ → ℕ → Type 0
IsEndless w size = (n : ℕ) → 8 + 4 * n ≤ size → next_at w n ≡ true
