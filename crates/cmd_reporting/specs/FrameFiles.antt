-- The file of a run's frames.
use Rattle.std.specs.Prelude.{◌≡◌, ℕ, zero, suc, ◌+◌, ◌-◌, ◌^◌, ◌<◌, Bool, true, false, List}
use Rattle.std.specs.Prelude.{Option, IfOk, Result, Ok, Err, if◌then◌else◌}
use Rattle.cap_pcap.specs.declared.format.Format.{Format}
use Rattle.cap_pcap.specs.declared.put_fault.PutFault.{PutFault}
use Rattle.cap_pcap.specs.declared.put_fault.PutFault.TheVariants as puts
use Rattle.cap_pcap.specs.RecordFiles.{RecordFile, Starts, AddsInterface, PutsFrame}
use Rattle.cap_pcap.specs.Stamps.{stamp_of}
use Rattle.cmd_reporting.specs.declared.fault.Fault.{Fault}
use Rattle.cmd_reporting.specs.declared.status.Status.{Status}
use Rattle.cmd_reporting.specs.declared.status.Status.TheVariants.{Done, Refused}

-- The file: what is written, how many frames were given, whether one of them was left out, and
-- whether the file could not be written.
pub record RunFile : Type 0 where
  pub file : RecordFile
  pub frames : ℕ
  pub left_out : Bool
  pub failed : Bool

-- so many interfaces were added, one after the other
abbrev pub AddsInterfaces : ℕ → RecordFile → RecordFile → Type 0
AddsInterfaces zero old new = new ≡ old
AddsInterfaces (suc n) old new = (between : RecordFile) × AddsInterfaces n old between
    × (name : List ℕ) × AddsInterface between.format name between new (Ok tt)

-- a file of a format that is not begun, whose device has these octets
abbrev pub fresh : Format → Option (List ℕ) → RecordFile
fresh format contents = record {
  format = format;
  interfaces = 0;
  failed = false;
  contents = contents;
  failures = 0;
}

-- what a file of that format begins with is written behind what the device has, and then an interface
-- for each of so many stations, where the format has any
abbrev pub IsBegun : Format → Option (List ℕ) → ℕ → RunFile → Type 0
IsBegun format contents stations f = (begun : RecordFile)
    × Starts format (fresh format contents) begun (Ok tt)
    × AddsInterfaces stations begun f.file
    × (f.frames ≡ 0) × (f.left_out ≡ false) × (f.failed ≡ false)

-- one more interface is written behind what the file has, where the format has any
pub record HasNewInterface (old new : RunFile) : Type 0 where
  pub name : List ℕ
  pub added : AddsInterface old.file.format name old.file new.file (Ok tt)
  pub frames : new.frames ≡ old.frames
  pub left_out : new.left_out ≡ old.left_out
  pub failed : new.failed ≡ old.failed

-- what a file remembers of a frame that was put so, and whether the run may go on: a frame whose
-- moment or length has no place is left out, and all other faults are the file's
abbrev pub Remembers : Result (Unit {0}) PutFault → RunFile → RunFile → Bool → Type 0
Remembers (Ok _) old new ok =
    (ok ≡ true) × (new.left_out ≡ old.left_out) × (new.failed ≡ old.failed)
Remembers (Err puts.Moment) old new ok =
    (ok ≡ true) × (new.left_out ≡ true) × (new.failed ≡ old.failed)
Remembers (Err puts.Length) old new ok =
    (ok ≡ true) × (new.left_out ≡ true) × (new.failed ≡ old.failed)
Remembers (Err fault) old new ok =
    (ok ≡ false) × (new.left_out ≡ old.left_out) × (new.failed ≡ true)

-- the next frame is put as one of its station's interface
abbrev pub IsNoted : ℕ → ℕ → List ℕ → RunFile → RunFile → Bool → Type 0
IsNoted station moment frame old new ok = (answer : Result (Unit {0}) PutFault)
    × PutsFrame station (stamp_of moment) frame old.file new.file answer
    × Remembers answer old new ok
    × (old.frames < 2 ^ 64 - 1 → new.frames ≡ old.frames + 1)

-- how a run with a file of its frames ends: refused where a frame was left out of one that is done
abbrev pub ended_status : Bool → Status → Status
ended_status left_out Done = if left_out then Refused else Done
ended_status left_out status = status

-- the file was written, and the run ended so
abbrev pub IsEnded : RunFile → Result Status Fault → Status → Type 0
IsEnded f ran status = (f.failed ≡ false) × IfOk ran (λ s. status ≡ ended_status f.left_out s)
