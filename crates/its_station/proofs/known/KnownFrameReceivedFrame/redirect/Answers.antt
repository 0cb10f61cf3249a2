use Rattle.std.proofs.Common.{◌≡◌, length, sym, subst, arith}
use Rattle.std.proofs.lemmas.List.{take_at}
use Rattle.its_model.specs.Packet.{Transmission}
use Rattle.its_linkframe.specs.Frames.{EncodesFrame}
use Rattle.its_linkframe.proofs.Fronts.{frame_bounds}
use Rattle.its_station.proofs.known.KnownFrameReceivedFrame.redirect.Goals as goal

pub returns-clause-target : goal.returns-clause-target
returns-clause-target c = λ t enc.
    let size : length c.retarget.new.frame ≡ c.args.octets.len =
    omega (arith, c.retarget.auto.frame, c.as_mut_slice.ensures.len) in
    let u : Transmission = record t { link_target = c.args.to } in
    subst (EncodesFrame u) (sym (take_at c.retarget.new.frame _ _ size))
    (c.retarget.ensures.target t
    (subst (EncodesFrame t) (sym c.as_mut_slice.ensures.value) enc))

pub returns-clause-short : goal.returns-clause-short
returns-clause-short c =
    (frame_bounds _ _ (returns-clause-target c c.requires.transmission c.requires.encodes)).1
