-- What one part of a file does to the octets that a source has left.
use Rattle.std.specs.Prelude.{◌≡◌, ℕ, ◌<◌, Bool, true, false, List, [], length, take, min}
use Rattle.std.specs.Prelude.{Option, Result, Ok, Err, IfSome}
use Rattle.std.specs.Io.KnownBytes.{Consumes, IsAtEnd}
use Rattle.its_linkframe.specs.declared.record.CaptureFault.TheVariants as captures
use Rattle.its_linkframe.specs.Devices.{ConsumesPrefix}
use Rattle.cap_pcap.specs.declared.fault.SourceFault.{SourceFault}
use Rattle.cap_pcap.specs.declared.fault.SourceFault.TheVariants as faults

-- the fault is that a call of the device failed
abbrev pub is_io_fault : SourceFault → Bool
is_io_fault faults.CutFile = false
is_io_fault faults.Malformed = false
is_io_fault faults.LinkType = false
is_io_fault (faults.Capture captures.CutRecord) = false
is_io_fault (faults.Capture captures.Length) = false
is_io_fault (faults.Capture captures.Io) = true
is_io_fault (faults.Capture captures.NoMemory) = false
is_io_fault (faults.Capture captures.Failed) = false

abbrev pub is_io : {T : Type 0} → Result T SourceFault → Bool
is_io (Ok _) = false
is_io (Err f) = is_io_fault f

-- that many octets went
pub record Passes (count : ℕ) (old new : Option (List ℕ)) : Type 0 where
  pub gone : List ℕ
  pub size : length gone ≡ count
  pub consumes : Consumes old new gone

-- nothing was left, and nothing is
abbrev pub MeetsEnd : Option (List ℕ) → Option (List ℕ) → Type 0
MeetsEnd old new = IsAtEnd old × IsAtEnd new × Consumes old new []

-- the file ends where `IsCut` holds of what was left
abbrev pub EndsWhere : (List ℕ → Type 0) → Option (List ℕ) → Option (List ℕ) → Type 0
EndsWhere IsCut old new = IfSome old IsCut × ConsumesPrefix old new × IsAtEnd new

-- What a fault says where that many octets were to come: fewer did (P1), or a call failed (C3).
abbrev pub IsCutShort : ℕ → Option (List ℕ) → Option (List ℕ) → SourceFault → Type 0
IsCutShort size old new faults.CutFile = EndsWhere (λ w. length w < size) old new
IsCutShort size old new faults.Malformed = ⊥
IsCutShort size old new faults.LinkType = ⊥
IsCutShort size old new (faults.Capture captures.CutRecord) = ⊥
IsCutShort size old new (faults.Capture captures.Length) = ⊥
IsCutShort size old new (faults.Capture captures.Io) = ConsumesPrefix old new
IsCutShort size old new (faults.Capture captures.NoMemory) = ⊥
IsCutShort size old new (faults.Capture captures.Failed) = ⊥

-- So many octets went, and the first of them were kept, as many as are wanted and there are.
pub record GivesFrame (captured keep : ℕ) (frame : List ℕ) (old new : Option (List ℕ))
    : Type 0 where
  pub passes : Passes captured old new
  pub kept : frame ≡ take (min captured keep) passes.gone

-- The same as for a cut, or an allocation failed (C4), and nothing was read.
abbrev pub IsFrameFault : ℕ → Option (List ℕ) → Option (List ℕ) → SourceFault → Type 0
IsFrameFault size old new faults.CutFile = EndsWhere (λ w. length w < size) old new
IsFrameFault size old new faults.Malformed = ⊥
IsFrameFault size old new faults.LinkType = ⊥
IsFrameFault size old new (faults.Capture captures.CutRecord) = ⊥
IsFrameFault size old new (faults.Capture captures.Length) = ⊥
IsFrameFault size old new (faults.Capture captures.Io) = ConsumesPrefix old new
IsFrameFault size old new (faults.Capture captures.NoMemory) = Consumes old new []
IsFrameFault size old new (faults.Capture captures.Failed) = ⊥
