-- One more step of a file after those in which nothing was met.
use Rattle.std.proofs.Common.{◌≡◌, ℕ, ◌+◌, List, [], ◌∷◌, ◌++◌, refl, subst, arith}
use Rattle.std.proofs.Common.{length-append, ◌<◌, inl, inr, ap}
use Rattle.std.specs.Prelude.{Result, Ok, Err, IfOk, Option, None, Some}
use Rattle.cap_records.specs.Pulls.{Given, IsNext, IsNoStep, IsSkipped, IsStep, MeetsStep}
use Rattle.cap_records.specs.Pulls.{Passes, Skips, chosen_of, records_of, records_in}
use Rattle.cap_pcap.specs.declared.record.RecordHeader.{RecordHeader}
use Rattle.cap_records.specs.declared.selection.Selection.{Selection}
use Rattle.cap_pcap.specs.declared.fault.SourceFault.{SourceFault}
use Rattle.cap_pcap.specs.declared.record.Step.{Step}
use Rattle.cap_pcap.specs.declared.record.Step.TheVariants as steps
use Rattle.cap_records.specs.declared.counts.RecordCounts.{RecordCounts}
use Rattle.cap_records.specs.declared.records.Pulled.{Pulled}
use Rattle.cap_records.specs.declared.records.Pulled.TheVariants as pulls

-- a step that has no record
pub step_none : {S T : Type 0} (gives : S → S → List ℕ → Result Step SourceFault → Type 0)
    (reads : Selection → RecordHeader → List ℕ → List ℕ → Option T → Type 0)
    (selection : Selection) (file : S) (counts : RecordCounts) (later : S) (next : RecordCounts)
    (w : List ℕ) (step : Result Step SourceFault) (met : Option (Pulled T))
    → gives file later w step → MeetsStep reads selection w step w met
    → records_of step ≡ 0 → chosen_of met ≡ 0
    → (next.read ≡ counts.read) × (next.chosen ≡ counts.chosen) × (next.left + 1 ≡ counts.left)
    → IsStep gives reads selection file counts later w next met
step_none gives reads selection file counts later next w step met gave meets records chosen are =
    record {
      given = record { octets = w; step = step };
      gave = gave;
      meets = meets;
      read = omega (arith, records, are.0);
      chosen = omega (arith, chosen, are.1);
      left = are.2;
    }

-- a step that has one
pub step_record : {S T E : Type 0} (gives : S → S → List ℕ → Result Step SourceFault → Type 0)
    (reads : Selection → RecordHeader → List ℕ → List ℕ → Option T → Type 0)
    (selection : Selection) (file : S) (counts : RecordCounts) (later : S)
    (between next : RecordCounts) (w after : List ℕ) (head : RecordHeader)
    (result : Result (Option (Pulled T)) E)
    → gives file later w (Ok (steps.Record head))
    → (between.read ≡ counts.read) × (between.chosen ≡ counts.chosen)
    × (between.left + 1 ≡ counts.left)
    → IfOk result (λ met. MeetsStep reads selection w (Ok (steps.Record head)) after met)
    → IfOk result (λ met. (next.read ≡ between.read + 1)
    × (next.chosen ≡ between.chosen + chosen_of met) × (next.left ≡ between.left))
    → IfOk result (λ met. IsStep gives reads selection file counts later after next met)
step_record gives reads selection file counts later between next w after head (Err e) gave were
    meets are =
    tt
step_record gives reads selection file counts later between next w after head (Ok met) gave were
    meets are =
    record {
      given = record { octets = w; step = Ok (steps.Record head) };
      gave = gave;
      meets = meets;
      read = omega (arith, were.0, are.0);
      chosen = omega (arith, were.1, are.1);
      left = omega (arith, were.2, are.2);
    }

-- one more step in which nothing is met
passes_last : {S T : Type 0} (gives : S → S → List ℕ → Result Step SourceFault → Type 0)
    (reads : Selection → RecordHeader → List ℕ → List ℕ → Option T → Type 0)
    (selection : Selection) (file mid : S) (skipped : List Given) (one : Given) (later : S)
    (after : List ℕ)
    → Passes gives reads selection file skipped mid
    → gives mid later one.octets one.step
    → IsSkipped {T = T} reads selection one.octets one.step after
    → Passes gives reads selection file (skipped ++ one ∷ []) later
passes_last gives reads selection file mid [] one later after before gave meets =
    (later, after, subst (λ f. gives f later one.octets one.step) before gave, meets, refl)
passes_last gives reads selection file mid (g ∷ gs) one later after before gave meets =
    let (next, left, was, met, more) = before in (
      next,
      left,
      was,
      met,
      passes_last gives reads selection next mid gs one later after more gave meets,
    )

records_last : (given : List Given) (one : Given)
    → records_in (given ++ one ∷ []) ≡ records_in given + records_of one.step
records_last [] one = omega arith
records_last (g ∷ gs) one = omega (arith, records_last gs one)

-- no step yet
pub skips_none : {S T : Type 0} (gives : S → S → List ℕ → Result Step SourceFault → Type 0)
    (reads : Selection → RecordHeader → List ℕ → List ℕ → Option T → Type 0)
    (selection : Selection) (file : S) (counts : RecordCounts)
    → Skips gives reads selection file counts file counts
skips_none gives reads selection file counts =
    record { skipped = []; passes = refl; read = omega arith; chosen = refl; left = omega arith }

-- one more
pub skips_more : {S T : Type 0} (gives : S → S → List ℕ → Result Step SourceFault → Type 0)
    (reads : Selection → RecordHeader → List ℕ → List ℕ → Option T → Type 0)
    (selection : Selection) (file : S) (counts : RecordCounts) (mid : S) (between : RecordCounts)
    (later : S) (after : List ℕ) (next : RecordCounts)
    → Skips gives reads selection file counts mid between
    → IsStep {T = T} gives reads selection mid between later after next None
    → Skips gives reads selection file counts later next
skips_more gives reads selection file counts mid between later after next before one =
    record {
      skipped = before.skipped ++ one.given ∷ [];
      passes = passes_last gives reads selection file mid before.skipped one.given later after
          before.passes one.gave one.meets;
      read = omega (arith, records_last before.skipped one.given, before.read, one.read);
      chosen = omega (arith, before.chosen, one.chosen);
      left = omega (arith, length-append before.skipped (one.given ∷ []), before.left, one.left);
    }

-- each step is one of those that are left
pub step_fewer : {S T : Type 0} (gives : S → S → List ℕ → Result Step SourceFault → Type 0)
    (reads : Selection → RecordHeader → List ℕ → List ℕ → Option T → Type 0)
    (selection : Selection) (file : S) (counts : RecordCounts) (mid : S) (between : RecordCounts)
    (later : S) (after : List ℕ) (next : RecordCounts) (met : Option (Pulled T))
    → Skips gives reads selection file counts mid between
    → IsStep gives reads selection mid between later after next met
    → next.left < counts.left
step_fewer gives reads selection file counts mid between later after next met skips one =
    omega (arith, skips.left, one.left)

-- what was read of the record that comes next
pub next_reads : {S T : Type 0} (gives : S → S → List ℕ → Result Step SourceFault → Type 0)
    (reads : Selection → RecordHeader → List ℕ → List ℕ → Option T → Type 0)
    (selection : Selection) (file : S) (counts : RecordCounts) (left : S) (after : List ℕ)
    (next : RecordCounts) (head : RecordHeader) (found : T)
    → IsNext gives reads selection file counts left after next (pulls.Chosen head found)
    → (w : List ℕ) × reads selection head w after (Some found)
next_reads gives reads selection file counts left after next head found comes =
    elim comes.ends [
      | inl one ↦ (one.given.octets, one.meets.1)
      | inr stopped ↦ absurd stopped.none
    ]

none_chosen : {T : Type 0} (met : Pulled T) → IsNoStep met → chosen_of (Some met) ≡ 0
none_chosen (pulls.Chosen head found) none = absurd none
none_chosen pulls.Interface none = absurd none
none_chosen (pulls.End None) none = refl
none_chosen (pulls.End (Some fault)) none = absurd none

-- a record that comes next counts as selected
pub next_counts : {S T : Type 0} (gives : S → S → List ℕ → Result Step SourceFault → Type 0)
    (reads : Selection → RecordHeader → List ℕ → List ℕ → Option T → Type 0)
    (selection : Selection) (file : S) (counts : RecordCounts) (left : S) (after : List ℕ)
    (next : RecordCounts) (met : Pulled T)
    → IsNext gives reads selection file counts left after next met
    → next.chosen ≡ counts.chosen + chosen_of (Some met)
next_counts gives reads selection file counts left after next met comes =
    elim comes.ends [
      | inl one ↦ omega (arith, comes.skips.chosen, one.chosen)
      | inr stopped ↦ omega (
        arith,
        comes.skips.chosen,
        ap (λ (c : RecordCounts). c.chosen) stopped.next_is,
        none_chosen met stopped.none,
      )
    ]
