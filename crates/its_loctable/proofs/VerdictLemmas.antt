-- The answer that is owed, by what a store finds.
use Rattle.std.proofs.Common.{◌≡◌, ℕ, ◌^◌, ◌≤◌, zero, suc, Bool, true, false, not, ◌||◌, cond, List}
use Rattle.std.proofs.Common.{[], ◌∷◌, take, Option, Some, None, Ok, Err, refl, sym, ap, ◌∙◌, ltb}
use Rattle.std.proofs.Common.{arith, is_some, count_by}
use Rattle.its_loctable.specs.SourceReport.{SourceReport}
use Rattle.its_loctable.specs.declared.store.Verdict.TheVariants.{Accepted, Duplicate}
use Rattle.its_loctable.specs.declared.refused.StoreRefused.TheVariants.{Full}
use Rattle.its_model.specs.History.{Reception, session, is_live, is_remembered, is_among}
use Rattle.its_model.specs.History.{numbers_of, known_after, known, Known}
use Rattle.its_model.specs.Stations.{stations_at, is_full}
use Rattle.its_model.proofs.Renewal.{is_some-known}
use Rattle.its_loctable.specs.Content.{Entry, entry_at, Represents}
use Rattle.its_loctable.specs.Heard.{has_number, is_noted, is_repeated, verdict_at}
use Rattle.its_loctable.specs.Eager.{eager_verdict}
use Rattle.its_loctable.specs.Found.{Admits}
use Rattle.its_loctable.proofs.ContentLemmas.{AreApart, room-is_full, live-is_full}

take_nothing : (k : ℕ) → take {A = ℕ} k [] ≡ []
take_nothing zero = refl
take_nothing (suc k) = refl

number_after : (remember number : ℕ) (rs : List Reception)
    → has_number (known_after remember rs) number ≡ is_among number (take remember (numbers_of rs))
number_after remember number [] = sym (ap (is_among number) (take_nothing remember))
number_after remember number (r ∷ rs) = refl

-- a number is remembered where it is among those that are known of its source
pub has_number-known : (remember source number t : ℕ) (history : List Reception)
    → has_number (known remember source t history) number ≡ is_remembered remember source number t
    history
unfolding known
has_number-known remember source number t history = number_after remember number
    (session source t history)

is_noted-known : (remember : ℕ) (number : Option ℕ) (source t : ℕ) (history : List Reception)
    → is_noted (known remember source t history) number
    ≡ is_repeated remember number source t history
is_noted-known remember None source t history = refl
is_noted-known remember (Some n) source t history = has_number-known remember source n t history

module _ (remember : ℕ) (es : List Entry) (history : List Reception) (now capacity : ℕ)
    (heard : SourceReport) (small : now ≤ 2 ^ 62) (rep : Represents remember es history now) where
  found : entry_at es heard.vector.address now ≡ known remember heard.vector.address now history
  found = rep.live now heard.vector.address (omega arith) small

  by_tests : (d f : Bool) → is_noted (entry_at es heard.vector.address now) heard.number ≡ d
      → is_full capacity heard.vector.address (stations_at remember now history) ≡ f
      → verdict_at remember capacity now heard history
      ≡ cond d (Ok Duplicate) (cond f (Err Full) (Ok Accepted))
  unfolding verdict_at
  by_tests d f p q =
      let repeated : is_repeated remember heard.number heard.vector.address now history
      ≡ d = sym (is_noted-known remember heard.number heard.vector.address now history)
      ∙ ap (λ o. is_noted o heard.number) (sym found) ∙ p in
      λ i. cond (repeated i) (Ok Duplicate) (cond (q i) (Err Full) (Ok Accepted))

  pub verdict-duplicate : is_noted (entry_at es heard.vector.address now) heard.number ≡ true
      → verdict_at remember capacity now heard history ≡ Ok Duplicate
  verdict-duplicate p = by_tests true _ p refl

  pub verdict-live : is_noted (entry_at es heard.vector.address now) heard.number ≡ false
      → is_some (entry_at es heard.vector.address now) ≡ true
      → verdict_at remember capacity now heard history ≡ Ok Accepted
  verdict-live p live = by_tests false false p
      (live-is_full remember es history now heard.vector.address capacity small rep live)

  pub is_live-none : entry_at es heard.vector.address now ≡ None
      → is_live heard.vector.address now history ≡ false
  is_live-none none = sym (is_some-known remember heard.vector.address now history)
      ∙ ap is_some (sym found ∙ none)

  module _ (apart : AreApart es) (p : is_noted (entry_at es heard.vector.address now) heard.number
      ≡ false) (none : entry_at es heard.vector.address now ≡ None) where
    full_is : is_full capacity heard.vector.address (stations_at remember now history)
        ≡ not (ltb (count_by (λ (e : Entry). ltb now e.until) es) capacity)
    full_is = twice (is_full capacity heard.vector.address (stations_at remember now history))
        ∙ ap not (sym
        (room-is_full remember es history now heard.vector.address capacity small apart rep
        none))
      where
        twice : (b : Bool) → b ≡ not (not b)
        twice true = refl
        twice false = refl

    pub verdict-full : ltb (count_by (λ (e : Entry). ltb now e.until) es) capacity ≡ false
        → verdict_at remember capacity now heard history ≡ Err Full
    verdict-full q = by_tests false true p (full_is ∙ ap not q)

    pub verdict-room : ltb (count_by (λ (e : Entry). ltb now e.until) es) capacity ≡ true
        → verdict_at remember capacity now heard history ≡ Ok Accepted
    verdict-room q = by_tests false false p (full_is ∙ ap not q)

-- ---- the answer by the entries alone
pub is_noted-none : (o : Option Known) (number : Option ℕ) → o ≡ None → is_noted o number ≡ false
is_noted-none o None e = refl
is_noted-none o (Some n) e = ap (λ k. has_number k n) e

module _ (capacity : ℕ) (es : List Entry) (now : ℕ) (heard : SourceReport) where
  pub eager_verdict-by : (d f : Bool)
      → is_noted (entry_at es heard.vector.address now) heard.number ≡ d
      → (is_some (entry_at es heard.vector.address now)
      || ltb (count_by (λ (e : Entry). ltb now e.until) es) capacity) ≡ f
      → eager_verdict capacity es now heard
      ≡ cond d (Ok Duplicate) (cond f (Ok Accepted) (Err Full))
  eager_verdict-by d f p q = λ i. cond (p i) (Ok Duplicate) (cond (q i) (Ok Accepted) (Err Full))

  -- it is the one that is owed
  pub eager_verdict-verdict : (remember : ℕ) (history : List Reception) → now ≤ 2 ^ 62
      → Represents remember es history now → AreApart es → eager_verdict capacity es now heard
      ≡ verdict_at remember capacity now heard history
  eager_verdict-verdict remember history small rep apart =
      by (is_noted (entry_at es heard.vector.address now) heard.number)
      (entry_at es heard.vector.address now)
      (ltb (count_by (λ (e : Entry). ltb now e.until) es) capacity) refl refl refl
    where
      by : (d : Bool) (o : Option Known) (f : Bool)
          → is_noted (entry_at es heard.vector.address now) heard.number ≡ d
          → entry_at es heard.vector.address now ≡ o
          → ltb (count_by (λ (e : Entry). ltb now e.until) es) capacity ≡ f
          → eager_verdict capacity es now heard ≡ verdict_at remember capacity now heard history
      by true o f p q r = eager_verdict-by true (is_some o || f) p (λ i. is_some (q i) || r i)
          ∙ sym (verdict-duplicate remember es history now capacity heard small rep p)
      by false (Some k) f p q r = eager_verdict-by false true p (λ i. is_some (q i) || r i)
          ∙ sym (verdict-live remember es history now capacity heard small rep p (ap is_some q))
      by false None true p q r = eager_verdict-by false true p (λ i. is_some (q i) || r i)
          ∙ sym (verdict-room remember es history now capacity heard small rep apart p q r)
      by false None false p q r = eager_verdict-by false false p (λ i. is_some (q i) || r i)
          ∙ sym (verdict-full remember es history now capacity heard small rep apart p q r)

-- a packet that a history admits is accepted by the entries too
pub admitted : (remember capacity : ℕ) (es : List Entry) (now : ℕ) (heard : SourceReport)
    → now ≤ 2 ^ 62 → AreApart es → Admits remember capacity es now heard
    → eager_verdict capacity es now heard ≡ Ok Accepted
admitted remember capacity es now heard small apart admits =
    eager_verdict-verdict capacity es now heard remember admits.history small admits.represented
    apart ∙ admits.accepted

-- the answer that is owed, by what the history says
pub verdict_at-by : (remember capacity now : ℕ) (heard : SourceReport) (history : List Reception)
    (d f : Bool) → is_repeated remember heard.number heard.vector.address now history ≡ d
    → is_full capacity heard.vector.address (stations_at remember now history) ≡ f
    → verdict_at remember capacity now heard history
    ≡ cond d (Ok Duplicate) (cond f (Err Full) (Ok Accepted))
unfolding verdict_at
verdict_at-by remember capacity now heard history d f p q =
    λ i. cond (p i) (Ok Duplicate) (cond (q i) (Err Full) (Ok Accepted))
