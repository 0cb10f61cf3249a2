-- What the options of a command say: their values as texts, and what a text spells.
use Rattle.std.specs.Prelude.{ℕ, List, [], ◌∷◌, Option, Some, None, Result, Ok, Err, ⊤}
use Rattle.std.specs.Prelude.{◌≡◌, ◌<◌, ◌^◌, cond, codes, nat_eq, true, false, Bool, ◌==◌}
use Rattle.std.specs.Prelude.{◌&&◌, ◌||◌, length, map, slice_index}
use Rattle.std.specs.List.{join_with_byte}
use Rattle.std.specs.Option.{option_map_or}
use Rattle.std.specs.Cmp.Lexicographic.{pointwise}
use Rattle.std.specs.Str.Parse.{IsNumeral, digits_value, without_leading_plus}
use Rattle.std.specs.Int.{from_be_bytes, w64}
use Rattle.byteorder.specs.Endian.{big_number}
use Rattle.hex.specs.Hex.{decode_sized}
use Rattle.cap_records.specs.declared.choosing.Choice.{Choice}
use Rattle.its_gnvalue.specs.Values.{IsIndividual}
use Rattle.cap_pcap.specs.declared.format.Format.{Format}
use Rattle.cap_records.specs.declared.selection.Selection.{Selection}
use Rattle.clap.specs.Matches.{first_value, found_of, matched_of, one_text, raw_values}
use Rattle.clap.specs.declared.parser.matches.ArgMatches.{ArgMatches}
use Rattle.cmd_captures.specs.Fields.{field_word}
use Rattle.cmd_captures.specs.declared.field.Field.{Field}
use Rattle.cmd_times.specs.declared.moment.Time.{Time}
use Rattle.cmd_times.specs.declared.moment.Time.TheVariants as times
use Rattle.cmd_arguments.specs.declared.bad_argument.BadArgument.{BadArgument}
use Rattle.cmd_arguments.specs.declared.bad_argument.BadArgument.TheVariants.{OutOfMemory, Value}

-- the first value of an option, where it is given
abbrev pub value_in : ArgMatches → List ℕ → Option (List ℕ)
value_in matches option = first_value (found_of matches) option

-- the values of an option as texts, in their order: of all its uses
abbrev pub texts_in : ArgMatches → List ℕ → List (List ℕ)
texts_in matches option = option_map_or raw_values (matched_of (found_of matches) option) []

-- the text is decimal digits, before which a plus may stand, of this number of so many bits
abbrev pub IsWhole : ℕ → List ℕ → ℕ → Type 0
IsWhole bits text n =
    (IsNumeral 10 (without_leading_plus text)
    × (digits_value 10 (without_leading_plus text) < 2 ^ bits))
    × (n ≡ digits_value 10 (without_leading_plus text))

-- the same of a number of 64 bits from 1 on
abbrev pub IsCount : List ℕ → ℕ → Type 0
IsCount text n = IsWhole 64 text n × (0 < n)

-- six pairs of digits, with this mark between them
abbrev pub has_marks : ℕ → List ℕ → Bool
has_marks mark text =
    (length text == 17) && (slice_index text 2 == mark) && (slice_index text 5 == mark)
    && (slice_index text 8 == mark) && (slice_index text 11 == mark) && (slice_index text 14 == mark)

abbrev pub paired : List ℕ → List ℕ
paired text =
    slice_index text 0 ∷ slice_index text 1 ∷ slice_index text 3 ∷ slice_index text 4
    ∷ slice_index text 6 ∷ slice_index text 7 ∷ slice_index text 9 ∷ slice_index text 10
    ∷ slice_index text 12 ∷ slice_index text 13 ∷ slice_index text 15 ∷ slice_index text 16 ∷ []

-- the digits of a link address, without the colons or hyphens between each two
abbrev pub bare_digits : List ℕ → List ℕ
bare_digits text =
    cond (has_marks 58 text || has_marks 45 text) (paired text) text

-- the text is the hexadecimal digits of this link address, with colons or hyphens or without
abbrev pub IsMac : List ℕ → ℕ → Type 0
IsMac text mac = (octets : List ℕ) × (decode_sized (bare_digits text) 6 ≡ Ok octets)
    × (mac ≡ big_number 6 octets)

-- a moment: where the text is a whole number, that number
abbrev pub IsMoment : List ℕ → ℕ → Type 0
IsMoment text moment = (n : ℕ) → IsWhole 64 text n → moment ≡ n

-- and of this station's address, of which the MID isn't that of a group
abbrev pub IsAddress : List ℕ → ℕ → Type 0
IsAddress text address = (octets : List ℕ) × (decode_sized text 8 ≡ Ok octets)
    × (address ≡ from_be_bytes w64 octets) × IsIndividual address

-- the value that the text of an option spells, and none where the option isn't given
abbrev pub IsGiven : {T : Type 0} → (List ℕ → T → Type 0) → Option (List ℕ) → Option T → Type 0
IsGiven Spells None value = value ≡ None
IsGiven Spells (Some text) None = ⊥
IsGiven Spells (Some text) (Some value) = Spells text value

-- the same, and another value where the option isn't given
abbrev pub IsGivenOr : {T : Type 0} → (List ℕ → T → Type 0) → T → Option (List ℕ) → T → Type 0
IsGivenOr Spells other None value = value ≡ other
IsGivenOr Spells other (Some text) value = Spells text value

-- the fault names this option, and this text as its value
abbrev pub NamesValue : List ℕ → List ℕ → BadArgument → Type 0
NamesValue option text (Value name value wanted) = (name.now ≡ option) × (value.now ≡ text)
NamesValue option text OutOfMemory = ⊥

-- the fault names this option with its text, which spells no value
abbrev pub IsBadValue : {T : Type 0} → (List ℕ → T → Type 0) → List ℕ → Option (List ℕ)
    → BadArgument → Type 0
IsBadValue Spells option None fault = ⊥
IsBadValue {T} Spells option (Some text) fault =
    ((value : T) → ¬ Spells text value) × NamesValue option text fault

-- what is read of an option's text, as its type reads a text, and none where it isn't given
abbrev pub IsRead : {T E : Type 0} → (List ℕ → Result T E → Type 0) → Option (List ℕ) → Option T
    → Type 0
IsRead gives None value = value ≡ None
IsRead gives (Some text) None = ⊥
IsRead gives (Some text) (Some value) = gives text (Ok value)

-- the fault names this option with its text, which its type can't read
abbrev pub IsUnread : {T E : Type 0} → (List ℕ → Result T E → Type 0) → List ℕ → Option (List ℕ)
    → BadArgument → Type 0
IsUnread gives option None fault = ⊥
IsUnread {T} {E} gives option (Some text) fault =
    ((e : E) × gives text (Err e)) × NamesValue option text fault

-- each text is the number of a port, in this order
abbrev pub ArePorts : List (List ℕ) → List ℕ → Type 0
ArePorts [] [] = ⊤
ArePorts [] (port ∷ ports) = ⊥
ArePorts (text ∷ texts) [] = ⊥
ArePorts (text ∷ texts) (port ∷ ports) = IsWhole 16 text port × ArePorts texts ports

-- how times are printed, by a word; in milliseconds if it is another one
abbrev pub time_of_word : List ℕ → Time
time_of_word word =
    cond (pointwise nat_eq word (codes "exact")) times.Exact
    (cond (pointwise nat_eq word (codes "utc")) times.Utc
    (cond (pointwise nat_eq word (codes "relative")) times.Relative
    (cond (pointwise nat_eq word (codes "delta")) times.Delta times.Raw)))

-- the same by the value of an option, which may not be given
abbrev pub time_named : Option (List ℕ) → Time
time_named None = times.Raw
time_named (Some word) = time_of_word word

-- the names of the keys, with a comma between each two, are the text
abbrev pub AreNamed : List ℕ → List Field → Type 0
AreNamed text fields = join_with_byte 44 (map field_word fields) ≡ text

-- the fault of `--fields`, if it is given: it lists no keys, or there is no memory for them
abbrev pub IsFieldsFault : Option (List ℕ) → BadArgument → Type 0
IsFieldsFault None fault = ⊥
IsFieldsFault (Some names) OutOfMemory = ⊤
IsFieldsFault (Some names) fault = NamesValue (codes "fields") names fault

-- whether records of another protocol are skipped, by the value of an option
abbrev pub is_skipping : Option (List ℕ) → Bool
is_skipping None = false
is_skipping (Some word) = pointwise nat_eq word (codes "skip")

-- the flag is given
abbrev pub IsFlagged : ArgMatches → List ℕ → Type 0
IsFlagged matches flag = one_text (found_of matches) flag ≡ Some (codes "true")

-- Which records the options choose, to any port: frames of a source, from a link address, and
-- records of moments from one on, up to one.
pub record IsChoice (matches : ArgMatches) (choice : Choice) : Type 0 where
  pub source : IsGiven IsAddress (value_in matches (codes "source")) choice.source
  pub from : IsGiven IsMac (value_in matches (codes "from-mac")) choice.from
  pub since : IsGivenOr IsMoment 0 (value_in matches (codes "since")) choice.since
  pub until : IsGivenOr IsMoment 18446744073709551615
      (value_in matches (codes "until")) choice.until
  pub refused : IsFlagged matches (codes "refused") → choice.refused ≡ true
  pub others : choice.skips_others
      ≡ is_skipping (value_in matches (codes "not-geonetworking"))
  pub all_kinds : IsFlagged matches (codes "all-kinds") → choice.all_kinds ≡ true

-- the same of a file of this format, and how many of them at most
pub record IsSelection (matches : ArgMatches) (file : Option Format) (selection : Selection)
    : Type 0 where
  pub choice : IsChoice matches selection.choice
  pub count : IsGiven IsCount (value_in matches (codes "count")) selection.count
  pub format : selection.format ≡ file
  pub signed : IsFlagged matches (codes "signed") → selection.signed ≡ true
