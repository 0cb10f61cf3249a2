-- What reading octets as a frame found.
use Rattle.std.proofs.Common.{◌≡◌, ℕ, List, Ok, Err, subst, sym}
use Rattle.std.specs.Prelude.{Result, IfOk, IfErr}
use Rattle.std.specs.Result.{result_err}
use Rattle.its_faults.specs.declared.frame.FrameFault.{FrameFault}
use Rattle.its_linkframe.specs.FrameFaults.{IsFrameFault}
use Rattle.its_linkframe.specs.Frames.{EncodesFrame, transmission_of}
use Rattle.its_linkframe.specs.declared.frame.FrameView.{FrameView}
use Rattle.cmd_stats.specs.Readings.{IsReading}

-- octets that are the same are a frame, or have the fault
pub reading : (octets w : List ℕ) (frame : Result FrameView FrameFault)
    → octets ≡ w → IfOk frame (λ v. EncodesFrame (transmission_of v) w)
    → IfErr frame (IsFrameFault w) → IsReading octets (result_err frame)
reading octets w (Ok v) same found fault =
    record {
      transmission = transmission_of v;
      encodes = subst (EncodesFrame (transmission_of v)) (sym same) found;
    }
reading octets w (Err f) same found fault =
    subst (λ (o : List ℕ). IsFrameFault o f) (sym same) fault
