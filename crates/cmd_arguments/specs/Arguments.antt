-- What the arguments of a station have under the words of a scenario.
use Rattle.std.specs.Prelude.{◌≡◌, ℕ, List, Option, Some, None, cond, codes, is_some, nat_eq}
use Rattle.std.specs.Cmp.Lexicographic.{pointwise}
use Rattle.std.specs.Option.{option_and_then, option_map}
use Rattle.cmd_arguments.specs.declared.station.SpelledNumber.{SpelledNumber}
use Rattle.cmd_arguments.specs.declared.station.StationArguments.{StationArguments}
use Rattle.its_words.specs.Fields.{FieldValues}
use Rattle.clap.specs.declared.parser.matches.ArgMatches.{ArgMatches}
use Rattle.cmd_arguments.specs.Options.{value_in}

-- the argument under a word
abbrev pub argument_of : StationArguments → List ℕ → Option SpelledNumber
argument_of station word =
    cond (pointwise nat_eq word (codes "address")) (Some station.address)
    (cond (pointwise nat_eq word (codes "lat")) (Some station.lat)
    (cond (pointwise nat_eq word (codes "lon")) (Some station.lon)
    (cond (pointwise nat_eq word (codes "capacity")) station.capacity
    (cond (pointwise nat_eq word (codes "remember")) station.remember None))))

-- what stands there: a text, and the whole number that it spells; no truth
abbrev pub argument_values : StationArguments → FieldValues
argument_values station =
    record {
      has = λ word. is_some (argument_of station word);
      integer = λ word. option_and_then (λ a. a.number) (argument_of station word);
      truth = λ _. None;
      text = λ word. option_map (λ a. a.text.now) (argument_of station word);
    }

-- the arguments are those that were matched: the first three, and the others where they are given
pub record AreMatched (matches : ArgMatches) (station : StationArguments) : Type 0 where
  pub address : value_in matches (codes "ADDRESS") ≡ Some station.address.text.now
  pub lat : value_in matches (codes "LAT") ≡ Some station.lat.text.now
  pub lon : value_in matches (codes "LON") ≡ Some station.lon.text.now
  pub capacity : value_in matches (codes "capacity") ≡ option_map (λ a. a.text.now) station.capacity
  pub remember : value_in matches (codes "remember") ≡ option_map (λ a. a.text.now) station.remember
