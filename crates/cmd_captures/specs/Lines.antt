-- What a line of `import` says, and how lines end that are not read.
use Rattle.std.specs.Prelude.{ℕ, vec_len}
use Rattle.its_linkframe.specs.Captures.{IsFrameLength}
use Rattle.cmd_reporting.specs.declared.status.Status.{Status}
use Rattle.cmd_reporting.specs.declared.status.Status.TheVariants.{Refused, Failed}
use Rattle.cmd_captures.specs.declared.importing.LinesFault.{LinesFault}
use Rattle.cmd_captures.specs.declared.importing.LinesFault.TheVariants.{Line, Stopped}
use Rattle.cmd_captures.specs.declared.timed_frame.Step.{Step}
use Rattle.cmd_captures.specs.declared.timed_frame.Step.TheVariants as steps
use Rattle.cmd_captures.specs.declared.timed_frame.TimedFrame.{TimedFrame}

-- it has a frame that a capture can hold: 1 to 1468 octets
abbrev pub HasFrame : TimedFrame → Type 0
HasFrame timed = IsFrameLength (vec_len timed.frame)

-- how many steps of a file a millisecond has
abbrev pub per_milli : Step → ℕ
per_milli steps.Milli = 1
per_milli steps.Micro = 1000
per_milli steps.Nano = 1000000

-- the status of what kept lines from being read: a bad line is refused, all else failed
abbrev pub lines_fault_status : LinesFault → Status
lines_fault_status (Line _ _) = Refused
lines_fault_status (Stopped _) = Failed
