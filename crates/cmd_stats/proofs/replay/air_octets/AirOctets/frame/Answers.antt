use Rattle.std.proofs.Common.{◌∙◌, ap, subst, List, ℕ}
use Rattle.std.specs.Prelude.{Vec}
use Rattle.std.specs.declared.alloc.Global.{Global}
use Rattle.its_linkframe.specs.Frames.{EncodesFrame, transmission_of}
use Rattle.cmd_stats.proofs.replay.air_octets.AirOctets.frame.Goals as goal

pub returns-in-None-clause-found : goal.returns-in-None-clause-found
returns-in-None-clause-found c =
    subst (λ (w : List ℕ). EncodesFrame (transmission_of c.of_frame.result) w)
    (c.as_slice.ensures.value ∙ ap (λ (v : Vec ℕ Global). v.items) c.self.view_is)
    c.of_frame.ensures
