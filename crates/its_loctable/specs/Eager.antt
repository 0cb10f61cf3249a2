-- What a table that is swept at each accept answers, and what it contains then.
use Rattle.std.specs.Prelude.{ℕ, ◌+◌, Bool, true, ◌&&◌, ◌||◌, ◌==◌, nat_lt, if◌then◌else◌}
use Rattle.std.specs.Prelude.{List, [], ◌∷◌, filter, count_by, is_some, Result, Ok, Err}
use Rattle.std.specs.List.{list_all}
use Rattle.its_loctable.specs.declared.store.Verdict.{Verdict}
use Rattle.its_loctable.specs.declared.store.Verdict.TheVariants.{Accepted, Duplicate}
use Rattle.its_loctable.specs.declared.refused.StoreRefused.{StoreRefused}
use Rattle.its_loctable.specs.declared.refused.StoreRefused.TheVariants.{Full}
use Rattle.its_model.specs.History.{entry_life, renewed}
use Rattle.its_loctable.specs.Content.{Entry, entry_at}
use Rattle.its_loctable.specs.Heard.{reception, is_noted}
use Rattle.its_loctable.specs.SourceReport.{SourceReport}

-- without the expired entries
abbrev pub swept : ℕ → List Entry → List Entry
swept now es = filter (λ e. nat_lt now e.until) es

-- an entry put into its place by address, in place of one with its address
abbrev pub upsert : List Entry → Entry → List Entry
upsert [] e = e ∷ []
upsert (x ∷ xs) e =
    if nat_lt e.address x.address then e ∷ x ∷ xs
    else if e.address == x.address then e ∷ xs
    else x ∷ upsert xs e

-- the addresses rise
abbrev pub is_rising : List Entry → Bool
is_rising [] = true
is_rising (e ∷ es) = list_all (λ d. nat_lt e.address d.address) es && is_rising es

-- the answer to a packet, by the entries alone
abbrev pub eager_verdict : ℕ → List Entry → ℕ → SourceReport → Result Verdict StoreRefused
eager_verdict capacity es now heard =
    if is_noted (entry_at es heard.vector.address now) heard.number then Ok Duplicate
    else if is_some (entry_at es heard.vector.address now)
    || nat_lt (count_by (λ e. nat_lt now e.until) es) capacity then Ok Accepted
    else Err Full

-- the entry that a packet makes of its source, from what was found of it
abbrev pub entry_after : ℕ → List Entry → ℕ → SourceReport → Entry
entry_after remember es now heard = record {
  address = heard.vector.address;
  known = renewed remember (entry_at es heard.vector.address now) (reception now heard);
  until = now + entry_life;
}

-- the entries after a packet that is accepted
abbrev pub after_accept : ℕ → List Entry → ℕ → SourceReport → List Entry
after_accept remember es now heard = upsert (swept now es) (entry_after remember es now heard)
