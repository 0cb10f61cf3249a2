-- What reading octets as a frame found.
use Rattle.std.specs.Prelude.{ℕ, List, Option, Some, None}
use Rattle.its_faults.specs.declared.frame.FrameFault.{FrameFault}
use Rattle.its_linkframe.specs.FrameFaults.{IsFrameFault}
use Rattle.its_linkframe.specs.Frames.{IsFrame}

-- the octets are a frame, or have this fault
abbrev pub IsReading : List ℕ → Option FrameFault → Type 0
IsReading w None = IsFrame w
IsReading w (Some fault) = IsFrameFault w fault
