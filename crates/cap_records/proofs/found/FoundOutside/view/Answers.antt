use Rattle.std.proofs.Common.{List, subst, sym, ℕ}
use Rattle.cap_records.specs.OutsideFrames.{IsOutsideFrame, standard_of}
use Rattle.cap_records.proofs.found.FoundOutside.view.Goals as goal

pub of_frame-requires : goal.of_frame-requires
of_frame-requires c =
    let (s, placed) = c.requires in
    (s, subst (λ (v : List ℕ). IsOutsideFrame v s) (sym c.octets.ensures) placed.frame)

pub returns-clause-frame : goal.returns-clause-frame
returns-clause-frame c =
    subst (λ (v : List ℕ). IsOutsideFrame v (standard_of c.of_frame.result)) c.octets.ensures
    c.of_frame.ensures.frame
