-- A store that hears a packet represents the history with it, and a history is represented later
-- too.
use Rattle.std.proofs.Common.{◌≡◌, ℕ, ◌+◌, ◌^◌, ◌≤◌, Bool, true, false, cond, List, ◌∷◌, Some, None}
use Rattle.std.proofs.Common.{refl, sym, ◌∙◌, eqb, ltb, arith}
use Rattle.std.proofs.lemmas.Bool.{eqb-true, eqb-false}
use Rattle.its_model.specs.History.{Reception, entry_life, known, renewed}
use Rattle.its_loctable.specs.Content.{Entry, Represents, Hears}
use Rattle.its_model.proofs.Renewal.{known_own, known_other}

-- what is known of any source after one more packet
known-cons : (remember source t : ℕ) (r : Reception) (history : List Reception)
    → known remember source t (r ∷ history) ≡ cond (eqb r.vector.address source)
    (cond (ltb t (r.moment + entry_life))
    (Some (renewed remember (known remember source r.moment history) r)) None)
    (known remember source t history)
known-cons remember source t r history = by (eqb r.vector.address source) refl
  where
    by : (b : Bool) → eqb r.vector.address source ≡ b
        → known remember source t (r ∷ history)
        ≡ cond b (cond (ltb t (r.moment + entry_life))
        (Some (renewed remember (known remember source r.moment history) r)) None)
        (known remember source t history)
    by true e = known_own remember source t r history (eqb-true _ _ e)
    by false e = known_other remember source t r history (eqb-false _ _ e)

pub Represents-cons : (remember : ℕ) (old new : List Entry) (history : List Reception)
    (r : Reception) → r.moment ≤ 2 ^ 62
    → Represents remember old history r.moment → Hears remember old new r
    → Represents remember new (r ∷ history) r.moment
Represents-cons remember old new history r small was hears = record {
  live = λ t source from to. hears.live t source from
      ∙ (λ i. cond (eqb r.vector.address source)
      (cond (ltb t (r.moment + entry_life))
      (Some (renewed remember (was.live r.moment source (omega arith) small i) r)) None)
      (was.live t source from to i))
      ∙ sym (known-cons remember source t r history);
}

pub Represents-later : (remember : ℕ) (content : List Entry) (history : List Reception)
    (earlier later : ℕ) → earlier ≤ later
    → Represents remember content history earlier → Represents remember content history later
Represents-later remember content history earlier later le was =
    record { live = λ t source from to. was.live t source (omega arith) to }
