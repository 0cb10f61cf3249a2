use Rattle.std.proofs.Common.{◌≡◌, length, sym, subst, arith}
use Rattle.std.proofs.lemmas.List.{take_at}
use Rattle.its_linkframe.specs.Frames.{EncodesFrame, sent_packet}
use Rattle.its_linkframe.proofs.building.write_frame.Goals as goal

pub returns : goal.returns
returns c =
    let size : length c.write_parts.new.frame ≡ c.in_ok-frame.frame.len =
    omega (arith, c.write_parts.auto.frame, c.as_mut_slice.ensures.len) in
    subst (EncodesFrame (sent_packet c.args.from c.args.to c.args.packet.now))
    (sym (take_at c.write_parts.new.frame _ _ size)) c.write_parts.ensures
