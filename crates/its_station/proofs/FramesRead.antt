-- Frames that were read, and their contents.
use Rattle.std.proofs.Common.{◌≡◌, ◌-◌, ℕ, List, ◌++◌, length, drop, arith, sym, ap, subst, ◌∙◌}
use Rattle.std.proofs.Common.{length-append}
use Rattle.std.proofs.lemmas.List.{drop_at}
use Rattle.its_model.specs.Packet.{Transmission}
use Rattle.its_headers.specs.Encoding.{payload_of}
use Rattle.its_headers.proofs.Views.{seen-encoding}
use Rattle.its_linkframe.specs.Frames.{EncodesFrame, sent_from_to, transmission_of}
use Rattle.its_linkframe.specs.declared.frame.FrameView.{FrameView}
use Rattle.its_linkframe.proofs.Fronts.{packet_of_frame}
use Rattle.its_station.specs.declared.known.FrameContents.{FrameContents}
use Rattle.its_station.specs.Known.{HasContents, AreContentsOf, frame_with}
use Rattle.its_station.proofs.Deliveries.{frame_end}

-- the end of octets that is as long as what they end with
end_of : (w front end : List ℕ) → w ≡ front ++ end → drop (length w - length end) w ≡ end
end_of w front end is =
    let size : length front ≡ length w - length end =
    omega (arith, ap length is, length-append front end) in
    ap (drop (length w - length end)) is ∙ drop_at front end (length w - length end) size

-- the payload is as long as the frame from where it begins
pub payload_there : (t : Transmission) (w payload : List ℕ) → EncodesFrame t w
    → payload ≡ payload_of t.pdu.body → drop (length w - length payload) w ≡ payload
payload_there t w payload enc is =
    let ends = frame_end t w enc in
    end_of w ends.0 payload (ends.1 ∙ ap (λ (end : List ℕ). ends.0 ++ end) (sym is))

-- the contents of a frame that was read are those of its octets
pub contents_there : (w : List ℕ) (v : FrameView) (c : FrameContents) → c.target ≡ v.to
    → c.sender ≡ v.from → HasContents (transmission_of v) w c → AreContentsOf w c
contents_there w v c target sender has =
    let t = transmission_of v in
    let packet = seen-encoding t.pdu t.hops_left (drop 14 w) (packet_of_frame t w has.encodes) in
    let same : t ≡ frame_with w c =
    ap (λ (n : ℕ). sent_from_to v.from n v.packet) (sym target)
    ∙ ap (λ (n : ℕ). sent_from_to n c.target v.packet) (sym sender)
    ∙ ap (sent_from_to c.sender c.target) (sym packet) in
    subst (λ (u : Transmission). HasContents u w c) same has
