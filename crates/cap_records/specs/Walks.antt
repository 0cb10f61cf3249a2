-- How a walk over the frames of a capture ends.
use Rattle.std.specs.Prelude.{ℕ, ◌+◌, ◌||◌, is_some, nat_lt, if◌then◌else◌, Result, Ok, Err}
use Rattle.cmd_reporting.specs.declared.status.Status.{Status}
use Rattle.cmd_reporting.specs.declared.status.Status.TheVariants.{Done, Refused}
use Rattle.cap_records.specs.declared.found.Found.{Found}
use Rattle.cap_records.specs.declared.found.Found.TheVariants as found
use Rattle.cap_records.specs.declared.refusal.RecordFault.{RecordFault}
use Rattle.cap_records.specs.declared.walk.Walked.{Walked}

-- the status of a walk over a capture: done where the capture and each chosen record is good
abbrev pub walk_status : Walked → Status
walk_status walked =
    if is_some walked.fault || nat_lt 0 walked.refused then Refused else Done

-- a walk after one more chosen record with so many refused ones, and so many outside the profile
abbrev pub walked_with : Walked → ℕ → ℕ → Walked
walked_with walked refused outside = record {
  records = walked.records + 1;
  refused = walked.refused + refused;
  outside = walked.outside + outside;
  fault = walked.fault;
  read = walked.read;
}

-- a walk after one more chosen record, of which this was found
abbrev pub walked_after : Walked → Result Found RecordFault → Walked
walked_after walked (Ok (found.Profile f)) = walked_with walked 0 0
walked_after walked (Ok (found.Outside o)) = walked_with walked 0 1
walked_after walked (Err fault) = walked_with walked 1 0
