-- Which record of a file comes next: the steps that a pull passes over, and the one that it meets.
use Rattle.std.specs.Prelude.{◌≡◌, ◌⊎◌, ℕ, ◌+◌, List, [], ◌∷◌, length, Option, Some, None}
use Rattle.std.specs.Prelude.{Bool, true, false}
use Rattle.std.specs.Prelude.{Result, Ok, Err}
use Rattle.cap_pcap.specs.declared.fault.SourceFault.{SourceFault}
use Rattle.cap_pcap.specs.declared.record.RecordHeader.{RecordHeader}
use Rattle.cap_pcap.specs.declared.record.Step.{Step}
use Rattle.cap_pcap.specs.declared.record.Step.TheVariants as steps
use Rattle.cap_records.specs.declared.selection.Selection.{Selection}
use Rattle.cap_records.specs.declared.records.Pulled.{Pulled}
use Rattle.cap_records.specs.declared.records.Pulled.TheVariants as pulls
use Rattle.cap_records.specs.declared.counts.RecordCounts.{RecordCounts}

-- one call for the next step of a file: the octets in the buffer, and its answer
pub record Given : Type 0 where
  pub octets : List ℕ
  pub step : Result Step SourceFault

-- how many records a call gave, and how many all of these calls
abbrev pub records_of : Result Step SourceFault → ℕ
records_of (Ok (steps.Record head)) = 1
records_of (Ok steps.Interface) = 0
records_of (Ok steps.Passed) = 0
records_of (Ok steps.End) = 0
records_of (Err fault) = 0

abbrev pub records_in : List Given → ℕ
records_in [] = 0
records_in (given ∷ more) = records_of given.step + records_in more

-- A step that is skipped: a part of the file without a record, or a record that isn't selected, of
-- which the reader leaves these octets in the buffer.
abbrev pub IsSkipped : {T : Type 0}
    → (Selection → RecordHeader → List ℕ → List ℕ → Option T → Type 0) → Selection
    → List ℕ → Result Step SourceFault → List ℕ → Type 0
IsSkipped reads selection w (Ok (steps.Record head)) after = reads selection head w after None
IsSkipped reads selection w (Ok steps.Interface) after = ⊥
IsSkipped reads selection w (Ok steps.Passed) after = Unit {0}
IsSkipped reads selection w (Ok steps.End) after = ⊥
IsSkipped reads selection w (Err fault) after = ⊥

-- a step in which this is met: a record that is selected, the start of an interface, the end of the
-- file, or its fault
abbrev pub Meets : {T : Type 0}
    → (Selection → RecordHeader → List ℕ → List ℕ → Option T → Type 0) → Selection
    → List ℕ → Result Step SourceFault → List ℕ → Pulled T → Type 0
Meets reads selection w step after (pulls.Chosen head record_) =
    (step ≡ Ok (steps.Record head)) × reads selection head w after (Some record_)
Meets reads selection w step after pulls.Interface = step ≡ Ok steps.Interface
Meets reads selection w step after (pulls.End None) = step ≡ Ok steps.End
Meets reads selection w step after (pulls.End (Some fault)) = step ≡ Err fault

-- a step in which this is met, or nothing
abbrev pub MeetsStep : {T : Type 0}
    → (Selection → RecordHeader → List ℕ → List ℕ → Option T → Type 0) → Selection
    → List ℕ → Result Step SourceFault → List ℕ → Option (Pulled T) → Type 0
MeetsStep reads selection w step after None = IsSkipped reads selection w step after
MeetsStep reads selection w step after (Some met) = Meets reads selection w step after met

-- The file gave these steps, one after the other, and was left so: nothing is met in any of them.
abbrev pub Passes : {S T : Type 0} → (S → S → List ℕ → Result Step SourceFault → Type 0)
    → (Selection → RecordHeader → List ℕ → List ℕ → Option T → Type 0) → Selection
    → S → List Given → S → Type 0
Passes gives reads selection file [] left = left ≡ file
Passes {S} {T} gives reads selection file (given ∷ more) left =
    (later : S) × (after : List ℕ) × gives file later given.octets given.step
    × IsSkipped {T = T} reads selection given.octets given.step after
    × Passes gives reads selection later more left

-- how many selected records a step has
abbrev pub chosen_of : {T : Type 0} → Option (Pulled T) → ℕ
chosen_of None = 0
chosen_of (Some (pulls.Chosen head record_)) = 1
chosen_of (Some pulls.Interface) = 0
chosen_of (Some (pulls.End fault)) = 0

-- whether nothing more is pulled
abbrev pub is_end : {T : Type 0} → Pulled T → Bool
is_end (pulls.Chosen head record_) = false
is_end pulls.Interface = false
is_end (pulls.End fault) = true

-- one step of a file, and the counts after it
pub record IsStep {S T : Type 0} (gives : S → S → List ℕ → Result Step SourceFault → Type 0)
    (reads : Selection → RecordHeader → List ℕ → List ℕ → Option T → Type 0)
    (selection : Selection) (file : S) (counts : RecordCounts) (later : S) (after : List ℕ)
    (next : RecordCounts) (met : Option (Pulled T)) : Type 0 where
  pub given : Given
  pub gave : gives file later given.octets given.step
  pub meets : MeetsStep reads selection given.octets given.step after met
  pub read : next.read ≡ counts.read + records_of given.step
  pub chosen : next.chosen ≡ counts.chosen + chosen_of met
  pub left : next.left + 1 ≡ counts.left

-- No step is made: as many records were selected as are wanted, or no further step is allowed.
abbrev pub IsNoStep : {T : Type 0} → Pulled T → Type 0
IsNoStep (pulls.Chosen head record_) = ⊥
IsNoStep pulls.Interface = ⊥
IsNoStep (pulls.End None) = Unit {0}
IsNoStep (pulls.End (Some fault)) = ⊥

pub record IsStopped {S T : Type 0} (selection : Selection) (file : S) (counts : RecordCounts)
    (left : S) (next : RecordCounts) (met : Pulled T) : Type 0 where
  pub none : IsNoStep met
  pub left_is : left ≡ file
  pub next_is : next ≡ counts
  pub why : (selection.count ≡ Some counts.chosen) ⊎ (counts.left ≡ 0)

-- Nothing is met in these steps, after which the file and the counts are so: the records among them
-- count as read, and none of them as selected.
pub record Skips {S T : Type 0} (gives : S → S → List ℕ → Result Step SourceFault → Type 0)
    (reads : Selection → RecordHeader → List ℕ → List ℕ → Option T → Type 0)
    (selection : Selection) (file : S) (counts : RecordCounts) (later : S) (next : RecordCounts)
    : Type 0 where
  pub skipped : List Given
  pub passes : Passes gives reads selection file skipped later
  pub read : next.read ≡ counts.read + records_in skipped
  pub chosen : next.chosen ≡ counts.chosen
  pub left : next.left + length skipped ≡ counts.left

-- What comes next in the file, and how it is left: nothing is met in some steps, and then in the
-- very next one this is, or none is made.
pub record IsNext {S T : Type 0} (gives : S → S → List ℕ → Result Step SourceFault → Type 0)
    (reads : Selection → RecordHeader → List ℕ → List ℕ → Option T → Type 0)
    (selection : Selection) (file : S) (counts : RecordCounts) (left : S) (after : List ℕ)
    (next : RecordCounts) (met : Pulled T) : Type 0 where
  pub mid : S
  pub between : RecordCounts
  pub skips : Skips gives reads selection file counts mid between
  pub ends : IsStep gives reads selection mid between left after next (Some met)
      ⊎ IsStopped selection mid between left next met
  -- nothing is read where as many records were selected as are wanted
  pub full : selection.count ≡ Some counts.chosen → (left ≡ file) × (next ≡ counts)
