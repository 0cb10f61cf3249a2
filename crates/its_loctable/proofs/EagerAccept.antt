-- A table whose entries are those after an accept represents the history with the packet.
use Rattle.std.proofs.Common.{◌≡◌, ℕ, ◌≤◌, ◌^◌, ◌∷◌, List, subst, sym, refl}
use Rattle.its_model.specs.History.{Reception}
use Rattle.its_loctable.specs.SourceReport.{SourceReport}
use Rattle.its_loctable.specs.Content.{Entry, Represents, Hears}
use Rattle.its_loctable.specs.Heard.{reception}
use Rattle.its_loctable.specs.Eager.{entry_after, after_accept}
use Rattle.its_loctable.proofs.Accepted.{Represents-cons}
use Rattle.its_loctable.proofs.EagerLemmas.{IsRising, apart-rising, Hears-eager}

pub accepted : (remember : ℕ) (es new : List Entry) (history : List Reception) (now : ℕ)
    (heard : SourceReport) → now ≤ 2 ^ 62 → IsRising es → Represents remember es history now
    → new ≡ after_accept remember es now heard
    → Represents remember new (reception now heard ∷ history) now
accepted remember es new history now heard small rising rep is =
    Represents-cons remember es new history (reception now heard) small rep
    (subst (λ (l : List Entry). Hears remember es l (reception now heard)) (sym is)
    (Hears-eager remember es (reception now heard) (entry_after remember es now heard)
    (apart-rising es rising) refl refl refl))
