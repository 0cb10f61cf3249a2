-- What a packet says, as a reception, and what a store answers.
use Rattle.std.specs.Prelude.{ℕ, Bool, false, if◌then◌else◌}
use Rattle.std.specs.Prelude.{List, Option, Some, None, Result, Ok, Err}
use Rattle.its_loctable.specs.declared.heard.Known.{Known as Shown}
use Rattle.its_loctable.specs.declared.store.Verdict.{Verdict}
use Rattle.its_loctable.specs.declared.store.Verdict.TheVariants.{Accepted, Duplicate}
use Rattle.its_loctable.specs.declared.refused.StoreRefused.{StoreRefused}
use Rattle.its_loctable.specs.declared.refused.StoreRefused.TheVariants.{Full}
use Rattle.its_model.specs.History.{Reception, Known, is_among, is_remembered}
use Rattle.its_model.specs.Stations.{stations_at, is_full}
use Rattle.its_loctable.specs.SourceReport.{SourceReport}

-- a packet that was accepted at a moment
abbrev pub reception : ℕ → SourceReport → Reception
reception now heard = record { moment = now; vector = heard.vector; number = heard.number }

-- what a look-up shows of all that is known
abbrev pub shown : Known → Shown
shown k = record { vector = k.vector; neighbour = k.neighbour }

-- a number is among those that are known of a source
abbrev pub has_number : Option Known → ℕ → Bool
has_number None number = false
has_number (Some k) number = is_among number k.numbers

-- a packet's number is among those that are known of its source
abbrev pub is_noted : Option Known → Option ℕ → Bool
is_noted k None = false
is_noted k (Some number) = has_number k number

-- a packet's number is remembered of its source
abbrev pub is_repeated : ℕ → Option ℕ → ℕ → ℕ → List Reception → Bool
is_repeated remember None source moment history = false
is_repeated remember (Some number) source moment history =
    is_remembered remember source number moment history

-- What `accept` answers, unless an allocation failed: a duplicate is one in a full store too.
unfoldable pub verdict_at : ℕ → ℕ → ℕ → SourceReport → List Reception → Result Verdict StoreRefused
verdict_at remember capacity now heard history =
    if is_repeated remember heard.number heard.vector.address now history then Ok Duplicate
    else if is_full capacity heard.vector.address (stations_at remember now history) then Err Full
    else Ok Accepted
