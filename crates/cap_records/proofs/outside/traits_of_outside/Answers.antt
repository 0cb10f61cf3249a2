use Rattle.std.proofs.Common.{◌∙◌, ap}
use Rattle.cap_records.proofs.OutsideFronts.{one_outside}
use Rattle.cap_records.specs.OutsideFrames.{outside_traits, standard_of}
use Rattle.cap_records.proofs.outside.traits_of_outside.Goals as goal

pub returns : goal.returns
returns c = λ s there.
    let frame = c.of_frame-frame in
    c.traits.ensures
    ∙ ap outside_traits (one_outside c.args.octets.now (standard_of frame.result) s
    frame.ensures.frame there)
