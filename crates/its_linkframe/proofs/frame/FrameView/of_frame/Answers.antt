use Rattle.std.proofs.Common.{arith, sym, ap, subst, ◌∙◌, List, ℕ}
use Rattle.std.proofs.lemmas.List.{take_rest}
use Rattle.byteorder.specs.Endian.{big_number}
use Rattle.its_model.specs.Packet.{Transmission}
use Rattle.its_headers.specs.Encoding.{Encodes}
use Rattle.its_headers.specs.Seen.{IsEncoding}
use Rattle.its_headers.proofs.Views.{is_encoding, only_seen}
use Rattle.its_linkframe.specs.Frames.{EncodesFrame}
use Rattle.its_linkframe.proofs.Fronts.{packet_of_frame, target_of_frame, source_of_frame}
use Rattle.its_linkframe.proofs.Fronts.{frame_bounds, same_transmission, take-first_six}
use Rattle.its_linkframe.proofs.Fronts.{take-next_six}
use Rattle.its_linkframe.proofs.frame.FrameView.of_frame.Goals as goal

pub of_encoding-requires : goal.of_encoding-requires
of_encoding-requires c =
    let t = c.requires.transmission in
    subst IsEncoding (sym (take_rest c.args.octets.now 14))
    (is_encoding t.pdu t.hops_left _ (packet_of_frame t _ c.requires.encodes))

pub returns : goal.returns
returns c =
    let t = c.requires.transmission in
    let enc = c.requires.encodes in
    let bounds = frame_bounds t _ enc in
    let first = take-first_six c.args.octets.now (omega (arith, bounds)) in
    let next = take-next_six c.args.octets.now (omega (arith, bounds)) in
    let packet = subst (λ (w : List ℕ). Encodes t.pdu t.hops_left w)
    (sym (take_rest c.args.octets.now 14)) (packet_of_frame t _ enc) in
    subst (λ (u : Transmission). EncodesFrame u c.args.octets.now)
    (sym (same_transmission c.of_encoding.result _ _ t
    (only_seen c.of_encoding.result t.pdu t.hops_left _ c.of_encoding.ensures packet)
    (c.mac_at.ensures.number ∙ ap (big_number 6) first ∙ target_of_frame t _ enc)
    (c.mac_at-2.ensures.number ∙ ap (big_number 6) next ∙ source_of_frame t _ enc))) enc
