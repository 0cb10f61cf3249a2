-- Why a file is not read on.
use Rattle.std.specs.Prelude.{◌≡◌, ℕ, List, Bool, false, ◌&&◌, ◌==◌, Option, is_none}
use denote.Ref.{Bor}
use Rattle.its_linkframe.specs.declared.record.CaptureFault.TheVariants as captures
use Rattle.cap_pcap.specs.declared.fault.SourceFault.{SourceFault}
use Rattle.cap_pcap.specs.declared.fault.SourceFault.TheVariants as sources
use Rattle.cap_pcap.specs.declared.format.Format.{Format}
use Rattle.cap_records.specs.declared.refusal.FileFault.{FileFault}
use Rattle.cmd_reporting.specs.declared.fault.Fault.{Fault}
use Rattle.cmd_reporting.specs.declared.fault.Fault.TheVariants as ends

-- whether a file begins as one of no format that is read: none was given, and as a capture it has no
-- first record
abbrev pub begins_as_none : SourceFault → ℕ → Option Format → Bool
begins_as_none (sources.Capture captures.Length) records format = records == 0 && is_none format
begins_as_none fault records format = false

-- The file's octets are at fault, which a line tells.
abbrev pub IsToldInLine : SourceFault → ℕ → Option Format → FileFault → Type 0
IsToldInLine (sources.Capture captures.Io) records format told = ⊥
IsToldInLine (sources.Capture captures.NoMemory) records format told = ⊥
IsToldInLine fault records format told =
    told
    ≡ record { fault = fault; begins_as_none = begins_as_none fault records format; is_gzip = false }

-- A failed read, or an allocation that failed, ends the command instead.
abbrev pub EndsCommand : SourceFault → Bor (List ℕ) → Fault → Type 0
EndsCommand (sources.Capture captures.Io) file (ends.CannotRead name) = name ≡ file
EndsCommand (sources.Capture captures.NoMemory) file (ends.OutOfMemory error) = Unit {0}
EndsCommand fault file end = ⊥
