-- Counts with one entry more.
use Rattle.std.proofs.Common.{◌≡◌, ℕ, ◌+◌, List, [], ◌∷◌, ◌++◌, length, Bool, true}
use Rattle.std.proofs.Common.{false, cond, sym, ap, ◌∙◌, arith}
use Rattle.std.proofs.lemmas.List.{length-append}
use Rattle.std.specs.Prelude.{◌&&◌, count_by}
use Rattle.its_model.specs.World.{Event}
use Rattle.its_model.proofs.NumberTests.{count_snoc}
use Rattle.its_world.specs.Entries.{Entry}
use Rattle.sim_simulation.specs.declared.tally.summary.Totals.{Totals}
use Rattle.sim_simulation.specs.Totals.{capped, counted, gave_frame, delivered, was_duplicate}
use Rattle.sim_simulation.specs.Totals.{was_ignored, was_refused, AreTotals, with_entry}
use Rattle.sim_simulation.specs.Totals.{packets_sent, is_area_send, was_sent}

-- a count with one more, if it is one, stays that of the total
pub by_one : (b : Bool) (n m total : ℕ) → n ≡ capped m → total ≡ cond b 1 0 + m
    → counted b n ≡ capped total
by_one true n m total is more =
    ap (λ x. capped (x + 1)) is ∙ capped_more m ∙ ap capped (omega arith)
  where
    capped_more : (m : ℕ) → capped (capped m + 1) ≡ capped (m + 1)
    capped_more m = omega arith
by_one false n m total is more =
    let same : m ≡ total = omega (arith, more) in
    is ∙ ap capped same

-- one entry more, of those that are counted
one_more : (p : Entry → Bool) (n : ℕ) (log : List Entry) (entry : Entry)
    → n ≡ capped (count_by p log) → counted (p entry) n ≡ capped (count_by p (log ++ entry ∷ []))
one_more p n log entry is =
    by_one (p entry) n (count_by p log) (count_by p (log ++ entry ∷ [])) is (count_snoc p log entry)

pub length_more : {X : Type 0} (xs : List X) (x : X) → length (xs ++ x ∷ []) ≡ length xs + 1
length_more xs x = length-append xs (x ∷ [])

-- the totals with one entry more are those of one event more
pub entry_more : (t : Totals) (events : List Event) (log : List Entry) (e : Event) (entry : Entry)
    → AreTotals t events log → AreTotals (with_entry t entry) (events ++ e ∷ []) (log ++ entry ∷ [])
entry_more t events log e entry are =
    record {
      one_each = length_more events e ∙ ap (λ n. n + 1) are.one_each ∙ sym (length_more log entry);
      events = by_one true t.events (length log) (length (log ++ entry ∷ [])) are.events
          (length_more log entry ∙ omega arith);
      frames = one_more gave_frame t.frames log entry are.frames;
      deliveries = one_more delivered t.deliveries log entry are.deliveries;
      duplicates = one_more was_duplicate t.duplicates log entry are.duplicates;
      ignored = one_more was_ignored t.ignored log entry are.ignored;
      refused = one_more was_refused t.refused log entry are.refused;
    }

-- one event more, of those that send a packet for an area
pub packets_more : (events : List Event) (log : List Entry) (e : Event) (entry : Entry)
    → length events ≡ length log
    → packets_sent events log + cond (is_area_send e.what && was_sent entry) 1 0
    ≡ packets_sent (events ++ e ∷ []) (log ++ entry ∷ [])
packets_more [] [] e entry same = omega arith
packets_more [] (b ∷ log) e entry same = absurd (omega arith)
packets_more (a ∷ events) [] e entry same = absurd (omega arith)
packets_more (a ∷ events) (b ∷ log) e entry same =
    let rest = packets_more events log e entry (omega arith) in
    omega arith
