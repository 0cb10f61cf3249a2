-- How long frames are.
use Rattle.std.proofs.Common.{◌≤◌, length}
use Rattle.std.specs.Prelude.{ℕ, Vec, Result, Ok, Err, IfOk}
use Rattle.std.specs.declared.alloc.Global.{Global}
use Rattle.its_model.specs.Packet.{Transmission}
use Rattle.its_gnvalue.specs.declared.fault.NoMemory.{NoMemory}
use Rattle.its_linkframe.specs.Frames.{EncodesFrame}
use Rattle.its_linkframe.specs.Secured.{Secured, EncodesSecured}
use Rattle.its_linkframe.proofs.Fronts.{frame_bounds}
use Rattle.its_linkframe.proofs.SecuredFrames.{secured_bounds}

-- a frame that is written has at most 1468 octets
pub short_frame : (t : Transmission) (r : Result (Vec ℕ Global) NoMemory)
    → IfOk r (λ w. EncodesFrame t w.items) → IfOk r (λ w. length w.items ≤ 1468)
short_frame t (Ok w) is = (frame_bounds t w.items is).1
short_frame t (Err e) is = is

-- and a secured one at most 2310
pub short_secured : (t : Secured) (r : Result (Vec ℕ Global) NoMemory)
    → IfOk r (λ w. EncodesSecured t w.items) → IfOk r (λ w. length w.items ≤ 2310)
short_secured t (Ok w) is = (secured_bounds t w.items is).1
short_secured t (Err e) is = is
