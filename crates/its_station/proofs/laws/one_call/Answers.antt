use Rattle.std.proofs.Common.{◌≡◌, ℕ, List, ap}
use Rattle.its_faults.specs.declared.frame.FrameFault.{FrameFault}
use Rattle.its_model.specs.Calls.{Call}
use Rattle.its_model.specs.Calls.Call.{Own, Receive, Junk}
use Rattle.its_model.specs.Packet.{Transmission}
use Rattle.its_linkframe.specs.Frames.{EncodesFrame}
use Rattle.its_linkframe.specs.FrameFaults.{IsFrameFault}
use Rattle.its_station.specs.Receiving.{IsFrameCall}
use Rattle.its_station.proofs.laws.one_call.Goals as goal

-- by the call and the other one: both the frame, both junk, or one of each, which can't be
same_call : (octets : List ℕ)
    → ((t u : Transmission) → EncodesFrame t octets → EncodesFrame u octets → t ≡ u)
    → ((t : Transmission) (f : FrameFault) → EncodesFrame t octets → IsFrameFault octets f → ⊥)
    → ((f g : FrameFault) → IsFrameFault octets f → IsFrameFault octets g → f ≡ g)
    → (call other : Call) → IsFrameCall octets call → IsFrameCall octets other → call ≡ other
same_call octets frame none fault (Own own) other is are = absurd is
same_call octets frame none fault (Receive t) (Own own) is are = absurd are
same_call octets frame none fault (Receive t) (Receive u) is are = ap Receive (frame t u is are)
same_call octets frame none fault (Receive t) (Junk f) is are = absurd (none t f is are)
same_call octets frame none fault (Junk f) (Own own) is are = absurd are
same_call octets frame none fault (Junk f) (Receive t) is are = absurd (none t f are is)
same_call octets frame none fault (Junk f) (Junk g) is are = ap Junk (fault f g is are)

pub returns : goal.returns
returns c = λ octets call other bytes is are. same_call octets
    (λ t u. c.one_frame.ensures t u octets)
    (λ t f. c.one_frame_fault.ensures.none t octets f bytes)
    (λ f g. c.one_frame_fault.ensures.one octets f g bytes)
    call other is are
