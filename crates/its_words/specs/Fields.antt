-- What stands under the words of keys, in a table or in an object of another notation.
use Rattle.std.specs.Prelude.{◌≡◌, ℕ, ℤ, pos, Bool, false, List, Option, Some, None, Ok, cond}
use Rattle.hex.specs.Hex.{decode_of}
use Rattle.its_gnvalue.specs.Values.{Position}
use Rattle.its_words.specs.Keys.{IsTakenBy, word_of}
use Rattle.its_words.specs.declared.keys.key.Key.{Key}

-- What stands under each word: whether anything does, and the whole number, the truth and the text
-- that does, where it is one.
pub record FieldValues : Type 0 where
  pub has : List ℕ → Bool
  pub integer : List ℕ → Option ℤ
  pub truth : List ℕ → Option Bool
  pub text : List ℕ → Option (List ℕ)

-- this whole number stands under the key
abbrev pub IsWhole : FieldValues → Key → ℤ → Type 0
IsWhole values key number = values.integer (word_of key) ≡ Some number

-- so does this one, which isn't below 0
abbrev pub IsNumber : FieldValues → Key → ℕ → Type 0
IsNumber values key number = IsWhole values key (pos number)

-- this truth stands under the key
abbrev pub IsTruth : FieldValues → Key → Bool → Type 0
IsTruth values key truth = values.truth (word_of key) ≡ Some truth

-- this text stands under the key
abbrev pub IsText : FieldValues → Key → List ℕ → Type 0
IsText values key text = values.text (word_of key) ≡ Some text

-- the hexadecimal digits of these octets stand under the key
abbrev pub AreOctets : FieldValues → Key → List ℕ → Type 0
AreOctets values key octets =
    (digits : List ℕ) × IsText values key digits × (decode_of digits ≡ Ok octets)

-- the latitude and the longitude of this place stand under the keys
abbrev pub IsPlace : FieldValues → Key → Key → Position → Type 0
IsPlace values latitude longitude place =
    IsWhole values latitude place.latitude × IsWhole values longitude place.longitude

-- no whole number that the key takes stands under it
abbrev pub IsUntaken : FieldValues → Key → Type 0
IsUntaken values key = (number : ℤ) → IsWhole values key number → ¬ IsTakenBy key number

-- nothing stands under the key
abbrev pub IsMissing : FieldValues → Key → Type 0
IsMissing values key = values.has (word_of key) ≡ false

-- the number is the whole number under the key, or this other one where nothing stands there
abbrev pub IsWholeOr : FieldValues → Key → ℤ → ℤ → Type 0
IsWholeOr values key other number =
    cond (values.has (word_of key)) (values.integer (word_of key)) (Some other) ≡ Some number

-- the same of numbers that aren't below 0
abbrev pub IsNumberOr : FieldValues → Key → ℕ → ℕ → Type 0
IsNumberOr values key other number = IsWholeOr values key (pos other) (pos number)

-- the same of a truth
abbrev pub IsTruthOr : FieldValues → Key → Bool → Bool → Type 0
IsTruthOr values key other truth =
    cond (values.has (word_of key)) (values.truth (word_of key)) (Some other) ≡ Some truth

-- this number stands under the key; or nothing does, where there is none
abbrev pub IsNumberIf : FieldValues → Key → Option ℕ → Type 0
IsNumberIf values key (Some number) = IsNumber values key number
IsNumberIf values key None = IsMissing values key
