-- Calls of a station's own applications, by the members of an object.
use Rattle.std.proofs.Common.{◌≡◌, Option, Some, None, codes, refl}
use Rattle.std.specs.Prelude.{IfErr, IfNone, IsSome, Result, Ok, Err}
use Rattle.serde_json.specs.Data.{Data}
use Rattle.its_words.specs.Faults.{IsWhatFault}
use Rattle.its_words.specs.declared.keys.fault.KeyFault.TheVariants as key_faults
use Rattle.its_words.specs.declared.keys.fault.KeyFault.{KeyFault}
use Rattle.its_words.specs.Reading.{IsBadOf as IsBadKeyOf, IsBadWord}
use Rattle.its_station.specs.declared.call.Call.TheVariants as calls
use Rattle.its_station.specs.declared.call.OwnCall.{OwnCall}
use Rattle.its_lines.specs.Requests.{AsksCall, BringsMedia, IsBadCallKeyOf, IsWord, SaysCall, values_in}
use Rattle.its_lines.specs.Words.{line_word}
use Rattle.its_lines.specs.declared.word.LineWord.{LineWord}

-- the call that is said is asked for
pub asks_own : (members : Data) (call : OwnCall) → (¬ IsWord members (codes "receive"))
    → (¬ IsWord members (codes "deliver")) → (¬ BringsMedia members) → SaysCall members call
    → AsksCall members (calls.Own call)
asks_own members call receive deliver media says = (receive, deliver, media, says)

-- the bad key of a call that is read is the first one
pub bad_call : (members : Data) (read : Result OwnCall KeyFault)
    → (¬ IsWord members (codes "receive")) → IfErr read IsWhatFault
    → ((¬ IsWord members (codes "deliver")) → IfErr read (IsBadKeyOf (values_in members)))
    → (IsWord members (codes "deliver") → IsBadWord read)
    → IfErr read (IsBadCallKeyOf members)
bad_call members (Ok call) receive what bad word = tt
bad_call members (Err key_faults.OutOfMemory) receive what bad word = tt
bad_call members (Err (key_faults.Refused key wrong)) receive what bad word =
    record {
      what = what;
      own = λ _ deliver. bad deliver;
      deliver = word;
      frame = λ is. absurd (receive is);
    }

-- a word that isn't read, where none is and where one is
pub not_word : (members : Data) (found : Option LineWord) (word : LineWord)
    → IfNone found ((other : LineWord) → ¬ IsWord members (line_word other))
    → (IsSome found → ¬ IsWord members (line_word word)) → ¬ IsWord members (line_word word)
not_word members None word none some = none word
not_word members (Some other) word none some = some refl
