-- Values of the air that are given beside a scenario, and what is wrong with one.
use Rattle.std.specs.Prelude.{ℕ, ℤ, Bool, ◌||◌, List, [], ◌∷◌, Option, None, cond, is_some}
use Rattle.std.specs.Option.{option_or}
use Rattle.its_words.specs.Fields.{FieldValues}
use Rattle.its_words.specs.Keys.{is_word, word_of}
use Rattle.its_words.specs.Nearest.{IsMeant}
use Rattle.its_words.specs.declared.keys.key.Key.TheVariants as keys
use Rattle.its_words.specs.declared.keys.key.Key.{Key}
use Rattle.sim_settings.specs.declared.air_settings.AirSettings.{AirSettings}
use Rattle.sim_settings.specs.declared.air_settings.SettingReason.{SettingReason}
use Rattle.sim_settings.specs.declared.air_settings.SettingReason.TheVariants.{Meant, Value}

-- the keys of the air
abbrev pub air_keys : List Key
air_keys =
    keys.Range ∷ keys.Delay ∷ keys.Loss ∷ keys.Seed ∷ keys.Beacons ∷ keys.Until ∷ keys.Contention
    ∷ keys.ContentionMax ∷ keys.ContentionMin ∷ keys.ContentionRange ∷ keys.ContentionCopies ∷ []

-- a key of the air is told that may be meant by a word that is none
abbrev pub IsTip : List ℕ → SettingReason → Type 0
IsTip word (Meant key) = IsMeant word_of word air_keys key
IsTip word (Value wrong) = ⊥

-- the whole number that is set of a key of the air
abbrev pub set_number : AirSettings → List ℕ → Option ℤ
set_number settings word =
    cond (is_word keys.Range word) settings.range
    (cond (is_word keys.Delay word) settings.delay
    (cond (is_word keys.Loss word) settings.loss
    (cond (is_word keys.Seed word) settings.seed
    (cond (is_word keys.Until word) settings.until
    (cond (is_word keys.ContentionMax word) settings.contention_max
    (cond (is_word keys.ContentionMin word) settings.contention_min
    (cond (is_word keys.ContentionRange word) settings.contention_range
    (cond (is_word keys.ContentionCopies word) settings.contention_copies None))))))))

-- the truth that is set of one
abbrev pub set_truth : AirSettings → List ℕ → Option Bool
set_truth settings word =
    cond (is_word keys.Beacons word) settings.beacons
    (cond (is_word keys.Contention word) settings.contention None)

-- what stands under the words of the table of an air, with values in place of its own
abbrev pub set_values : AirSettings → FieldValues → FieldValues
set_values settings values =
    record {
      has = λ word. is_some (set_number settings word)
          || (is_some (set_truth settings word) || values.has word);
      integer = λ word. option_or (set_number settings word) (values.integer word);
      truth = λ word. option_or (set_truth settings word) (values.truth word);
      text = values.text;
    }
