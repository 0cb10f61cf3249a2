use Rattle.std.proofs.Common.{◌∙◌, append-nil, drop, subst, sym, []}
use Rattle.std.proofs.lemmas.List.{take_rest}
use Rattle.its_outside.specs.Encoding.{Encodes, Standard}
use Rattle.its_outside.specs.Outside.{BeginsInProfile}
use Rattle.cap_records.proofs.OutsideFronts.{reads_in_profile}
use Rattle.cap_records.proofs.outside.OutsideFrame.of_frame.Goals as goal

pub unreachable-requires : goal.unreachable-requires
unreachable-requires c =
    let w = c.args.octets.now in
    let (s, frame) = c.requires in
    let is = c.in_default.ensures.only s.packet (drop 14 w) [] frame.packet
    (take_rest w 14 ∙ sym (append-nil (drop 14 w))) in
    frame.outside
    (subst BeginsInProfile (take_rest w 14)
    (reads_in_profile _ _ is c.in_default.ensures.reason))

pub returns-clause-frame : goal.returns-clause-frame
returns-clause-frame c =
    let w = c.args.octets.now in
    let (s, frame) = c.requires in
    let read = c.in-Ok.ensures.only s.packet (drop 14 w) [] frame.packet
    (take_rest w 14 ∙ sym (append-nil (drop 14 w))) in
    record {
      header = frame.header;
      target = c.mac_at.ensures;
      source = c.mac_at-2.ensures;
      packet = subst (λ (p : Standard). Encodes p (drop 14 w)) (sym read.0) frame.packet;
      outside = frame.outside;
    }
