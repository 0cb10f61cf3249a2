-- What a reader of a capture does.
use Rattle.std.specs.Prelude.{◌≡◌, ℕ, ◌<◌, ◌⊎◌, Bool, true, false, List, [], ◌∷◌, length}
use Rattle.std.specs.Prelude.{Option, Some, None, Result, Ok, Err, IfSome, IsSomeAnd}
use Rattle.std.specs.Io.KnownBytes.{Consumes, IsAtEnd}
use Rattle.its_linkframe.specs.declared.record.Record.{Record}
use Rattle.its_linkframe.specs.declared.record.CaptureFault.{CaptureFault}
use Rattle.its_linkframe.specs.declared.record.CaptureFault.TheVariants as faults
use Rattle.its_linkframe.specs.declared.reader.Stage.{Stage}
use Rattle.its_linkframe.specs.declared.reader.Stage.TheVariants as stages
use Rattle.its_linkframe.specs.Captures.{Captured, EncodesCapture, AnnouncesFrame, AnnouncesNoFrame}
use Rattle.its_linkframe.specs.Captures.{EndsInRecord, captured, captured_at}
use Rattle.its_linkframe.specs.Devices.{ConsumesPrefix}

-- A reader: whether it met a fault or the end, what octets its source has left, where they are
-- known, and how many calls of the source failed.
pub record Reading : Type 0 where
  pub failed : Bool
  pub ended : Bool
  pub rest : Option (List ℕ)
  pub failures : ℕ

abbrev pub is_failed : Stage → Bool
is_failed stages.Reading = false
is_failed stages.Ended = false
is_failed stages.Failed = true

abbrev pub is_ended : Stage → Bool
is_ended stages.Reading = false
is_ended stages.Ended = true
is_ended stages.Failed = false

-- the answer is that a call of the device failed
abbrev pub is_io : {T : Type 0} → Result T CaptureFault → Bool
is_io (Ok _) = false
is_io (Err faults.CutRecord) = false
is_io (Err faults.Length) = false
is_io (Err faults.Io) = true
is_io (Err faults.NoMemory) = false
is_io (Err faults.Failed) = false

-- the moment and the length of a record went, and nothing after them
abbrev pub ConsumesHead : Option (List ℕ) → Option (List ℕ) → Type 0
ConsumesHead old new = (head : List ℕ) × (length head ≡ 10) × Consumes old new head

-- nothing was left, and nothing is
abbrev pub MeetsEnd : Option (List ℕ) → Option (List ℕ) → Type 0
MeetsEnd old new = IsAtEnd old × IsAtEnd new × Consumes old new []

-- What a fault says of the octets that the source had, and what it leaves of them: none (C1), all
-- after the length (C2, C4), some end (C3), all (C5).
abbrev pub IsReadFault : Option (List ℕ) → Option (List ℕ) → CaptureFault → Type 0
IsReadFault old new faults.CutRecord =
    IfSome old EndsInRecord × ConsumesPrefix old new × IsAtEnd new
IsReadFault old new faults.Length = IfSome old AnnouncesNoFrame × ConsumesHead old new
IsReadFault old new faults.Io = ConsumesPrefix old new
IsReadFault old new faults.NoMemory = IfSome old AnnouncesFrame × ConsumesHead old new
IsReadFault old new faults.Failed = Consumes old new []

-- The same of a frame of a known length, after its head.
abbrev pub IsCutShort : ℕ → Option (List ℕ) → Option (List ℕ) → CaptureFault → Type 0
IsCutShort size old new faults.CutRecord =
    IfSome old (λ w. length w < size) × ConsumesPrefix old new × IsAtEnd new
IsCutShort size old new faults.Length = ⊥
IsCutShort size old new faults.Io = ConsumesPrefix old new
IsCutShort size old new faults.NoMemory = Consumes old new []
IsCutShort size old new faults.Failed = ⊥

-- What is answered where the octets that are left are those of a capture: its first record, which
-- leaves the capture of the others, or the end, where there is none; or else that the device failed
-- or that memory ran out.
abbrev pub ReadsFirst : List Captured → Option (List ℕ) → Result (Option Record) CaptureFault
    → Type 0
ReadsFirst [] new (Ok None) = new ≡ Some []
ReadsFirst [] new (Ok (Some r)) = ⊥
ReadsFirst (first ∷ others) new (Ok None) = ⊥
ReadsFirst (first ∷ others) new (Ok (Some r)) =
    (captured r ≡ first) × IsSomeAnd new (EncodesCapture others)
ReadsFirst [] new (Err fault) = fault ≡ faults.Io
ReadsFirst (first ∷ others) new (Err fault) = (fault ≡ faults.Io) ⊎ (fault ≡ faults.NoMemory)

-- The same of a call that gives a moment, and the frame in a buffer.
abbrev pub ReadsFirstInto : List Captured → Option (List ℕ) → List ℕ
    → Result (Option ℕ) CaptureFault → Type 0
ReadsFirstInto [] new frame (Ok None) = new ≡ Some []
ReadsFirstInto [] new frame (Ok (Some moment)) = ⊥
ReadsFirstInto (first ∷ others) new frame (Ok None) = ⊥
ReadsFirstInto (first ∷ others) new frame (Ok (Some moment)) =
    (captured_at moment frame ≡ first) × IsSomeAnd new (EncodesCapture others)
ReadsFirstInto [] new frame (Err fault) = fault ≡ faults.Io
ReadsFirstInto (first ∷ others) new frame (Err fault) =
    (fault ≡ faults.Io) ⊎ (fault ≡ faults.NoMemory)
