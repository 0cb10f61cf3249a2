-- What a look-up of a packet's source finds among the entries of a table.
use Rattle.std.specs.Prelude.{◌≡◌, ℕ, ◌<◌, ◌≤◌, List, map, length, Result, Ok, Err}
use Rattle.its_model.specs.History.{Reception}
use Rattle.its_loctable.specs.declared.store.Verdict.{Verdict}
use Rattle.its_loctable.specs.declared.store.Verdict.TheVariants as verdicts
use Rattle.its_loctable.specs.declared.refused.StoreRefused.{StoreRefused}
use Rattle.its_loctable.specs.declared.refused.StoreRefused.TheVariants as refusals
use Rattle.its_loctable.specs.declared.found.EntryIndex.{EntryIndex}
use Rattle.its_loctable.specs.declared.found.EntryIndex.TheVariants.{At, Gap, Unknown}
use Rattle.its_loctable.specs.declared.found.Found.{Found}
use Rattle.its_loctable.specs.declared.found.Found.TheVariants as found
use Rattle.its_loctable.specs.Content.{Entry, Represents}
use Rattle.its_loctable.specs.Heard.{verdict_at}
use Rattle.its_loctable.specs.SourceReport.{SourceReport}
use Rattle.its_loctable.specs.Sorted.{IsFoundAt, IsGapFor}

-- the addresses of entries, in their order
abbrev pub addresses_in : List Entry → List ℕ
addresses_in es = map (λ (e : Entry). e.address) es

-- where the entry of an address is among these, or the gap where it would go
abbrev pub IsIndexOf : List Entry → ℕ → EntryIndex → Type 0
IsIndexOf es address (At i) = IsFoundAt (addresses_in es) address i × (i < length es)
IsIndexOf es address (Gap i) = IsGapFor (addresses_in es) address i × (i ≤ length es)
IsIndexOf es address Unknown = Unit {0}

-- if the packet is new, the index is that of its source
abbrev pub HasIndex : List Entry → ℕ → Found → Type 0
HasIndex es address found.Duplicate = Unit {0}
HasIndex es address found.Full = Unit {0}
HasIndex es address (found.New index) = IsIndexOf es address index

-- what `accept` answers to the packet then
abbrev pub verdict_of : Found → Result Verdict StoreRefused
verdict_of found.Duplicate = Ok verdicts.Duplicate
verdict_of found.Full = Err refusals.Full
verdict_of (found.New index) = Ok verdicts.Accepted

-- By a history that the entries represent, the packet is new and there is room for its source.
pub record Admits (remember limit : ℕ) (es : List Entry) (now : ℕ)
    (heard : SourceReport) : Type 0 where
  pub history : List Reception
  pub represented : Represents remember es history now
  pub accepted : verdict_at remember limit now heard history ≡ Ok verdicts.Accepted
