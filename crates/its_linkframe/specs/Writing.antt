-- What a writer of a capture does.
use Rattle.std.specs.Prelude.{◌≡◌, ℕ, Bool, List, [], ◌∷◌, ◌++◌, length, Option, Result, Ok, Err}
use Rattle.std.specs.Prelude.{IsSomeAnd}
use Rattle.its_linkframe.specs.declared.record.CaptureFault.{CaptureFault}
use Rattle.its_linkframe.specs.declared.record.CaptureFault.TheVariants as faults
use Rattle.its_linkframe.specs.Captures.{Captured, EncodesCapture, IsFrameLength, record_octets}
use Rattle.its_linkframe.specs.Devices.{AppendsPrefix}

-- A writer: whether a call of its device failed, what octets its sink has, where they are known,
-- and how many calls of the sink failed.
pub record Writing : Type 0 where
  pub failed : Bool
  pub contents : Option (List ℕ)
  pub failures : ℕ

-- What a fault says of the record that was to be written, and what it leaves: all as it was (C2,
-- C5), or a prefix of the record behind what there was (C3).
abbrev pub IsWriteFault : Captured → Writing → Writing → CaptureFault → Type 0
IsWriteFault r old new faults.CutRecord = ⊥
IsWriteFault r old new faults.Length = ¬ IsFrameLength (length r.frame) × (new ≡ old)
IsWriteFault r old new faults.Io =
    IsFrameLength (length r.frame) × AppendsPrefix old.contents new.contents (record_octets r)
IsWriteFault r old new faults.NoMemory = ⊥
IsWriteFault r old new faults.Failed = new ≡ old

-- behind some octets that were there before, a sink has the capture of the records
abbrev pub HoldsCapture : List ℕ → List Captured → Option (List ℕ) → Type 0
HoldsCapture before records contents =
    IsSomeAnd contents (λ v. (w : List ℕ) × (v ≡ before ++ w) × EncodesCapture records w)

-- the same of a prefix of that capture
abbrev pub HoldsPrefix : List ℕ → List Captured → Option (List ℕ) → Type 0
HoldsPrefix before records contents =
    IsSomeAnd contents
    (λ v. (w rest : List ℕ) × (v ≡ before ++ w) × EncodesCapture records (w ++ rest))

-- What a sink has after a call for a record, where it had the capture of others: that of these and
-- the record, or a prefix of it where a call of the device failed, or else what it had.
abbrev pub HoldsAfter : List ℕ → List Captured → Captured → Option (List ℕ)
    → Result (Unit {0}) CaptureFault → Type 0
HoldsAfter before records r contents (Ok _) = HoldsCapture before (records ++ r ∷ []) contents
HoldsAfter before records r contents (Err faults.CutRecord) = ⊥
HoldsAfter before records r contents (Err faults.Length) = HoldsCapture before records contents
HoldsAfter before records r contents (Err faults.Io) =
    HoldsPrefix before (records ++ r ∷ []) contents
HoldsAfter before records r contents (Err faults.NoMemory) = ⊥
HoldsAfter before records r contents (Err faults.Failed) = HoldsCapture before records contents
