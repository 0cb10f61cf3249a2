-- A record that was read is the frame that it is of.
use Rattle.std.proofs.Common.{◌≡◌, ℕ, zero, suc, ◌^◌, ◌<◌, Bool, true, false, List, [], ◌∷◌, ◌++◌}
use Rattle.std.proofs.Common.{drop, Some, refl, sym, ap, subst, ◌∙◌, append-nil}
use Rattle.std.specs.Prelude.{slice_get}
use Rattle.byteorder.specs.Endian.{big_number}
use Rattle.byteorder.specs.Numbers.{big_number-reads_back}
use Rattle.its_faults.specs.declared.packet.Fault.{Fault}
use Rattle.its_model.specs.Packet.{Pdu, Transmission}
use Rattle.its_headers.specs.Encoding.{IsBytes, Encodes, encoding}
use Rattle.its_headers.specs.FirstFault.{FirstFault}
use Rattle.its_formats.proofs.Numbers.{IsBytes-drop}
use Rattle.its_headers.proofs.Encodings.{encoding_read, one_encoding}
use Rattle.its_headers.proofs.PacketFaults.{no_first_fault}
use Rattle.its_linkframe.specs.Frames.{EncodesFrame, link_header, frame_octets}
use Rattle.its_linkframe.proofs.Fronts.{first_six, next_six, packet_of_frame, target_of_frame}
use Rattle.its_linkframe.proofs.Fronts.{source_of_frame, same_transmission}
use Rattle.its_duties.specs.Seen.{Seen, IsRead, AreRead, Carries, HasOctets, sent_to}
use Rattle.its_duties.proofs.Kept.{InRange}

-- a record of a tap that is read
pub is_read : (tap : List Seen) (i : ℕ) (r : Seen) → AreRead tap → slice_get tap i ≡ Some r
    → IsRead r
is_read [] i r all at = cc
is_read (s ∷ tap) zero r all at = subst IsRead (same s r at) all.0
  where
    same : (s r : Seen) → Some s ≡ Some r → s ≡ r
    same s r e = cc
is_read (s ∷ tap) (suc i) r all at = is_read tap i r all.1 at

-- ---- the parts of octets that a frame begins

-- the packet, with what follows it
rest_of_frame : (t : Transmission) (w rest : List ℕ) → w ≡ frame_octets t ++ rest
    → drop 14 w ≡ encoding t.pdu t.hops_left ++ rest
unfolding link_header
rest_of_frame t w rest is = ap (drop 14) is

target_in : (t : Transmission) (w rest : List ℕ) → t.link_target < 2 ^ 48
    → w ≡ frame_octets t ++ rest → big_number 6 (first_six w) ≡ t.link_target
unfolding link_header
target_in t w rest small is =
    ap (λ (v : List ℕ). big_number 6 (first_six v)) is
    ∙ big_number-reads_back 6 t.link_target [] small

source_in : (t : Transmission) (w rest : List ℕ) → t.link_source < 2 ^ 48
    → w ≡ frame_octets t ++ rest → big_number 6 (next_six w) ≡ t.link_source
unfolding link_header
source_in t w rest small is =
    ap (λ (v : List ℕ). big_number 6 (next_six v)) is
    ∙ big_number-reads_back 6 t.link_source [] small

encodes : (u : Transmission) → InRange u → Encodes u.pdu u.hops_left (encoding u.pdu u.hops_left)
encodes u range = record { fields = range.packet; octets = refl }

-- octets that are one frame, and begin with another, are both
one_frame_front : (t u : Transmission) (w rest : List ℕ) → EncodesFrame t w → InRange u
    → u.link_target < 2 ^ 48 → w ≡ frame_octets u ++ rest → t ≡ u
one_frame_front t u w rest enc range small is =
    let packet = one_encoding t.pdu u.pdu t.hops_left u.hops_left (drop 14 w)
    (encoding u.pdu u.hops_left) [] rest (packet_of_frame t w enc) (encodes u range)
    (append-nil (drop 14 w) ∙ rest_of_frame u w rest is) in
    same_transmission (record { pdu = t.pdu; left = t.hops_left }) t.link_target t.link_source u
    (ap (λ (p : Pdu). record { pdu = p; left = t.hops_left }) packet.0
    ∙ ap (λ (n : ℕ). record { pdu = u.pdu; left = n }) packet.1)
    (sym (target_of_frame t w enc) ∙ target_in u w rest small is)
    (sym (source_of_frame t w enc) ∙ source_in u w rest range.source is)

-- ---- a record

-- its frame, but for a link target that the capture doesn't have
pub record IsFrameOf (r : Seen) (t u : Transmission) : Type 0 where
  pub target : ℕ
  pub is : t ≡ sent_to target u
  pub same_target : r.known_target ≡ true → target ≡ u.link_target

pub frame_of_record : (r : Seen) (t u : Transmission) → IsRead r → r.frame ≡ Some t → Carries r u
    → InRange u → IsFrameOf r t u
frame_of_record r t u read frame c range =
    let whole : r.cut ≡ false = read.whole t frame in
    let octets : r.octets ≡ frame_octets (sent_to c.target u) ++ c.rest =
    subst (λ (b : Bool). HasOctets b r.octets (frame_octets (sent_to c.target u)) c.rest) whole
    c.octets in
    record {
      target = c.target;
      is = one_frame_front t (sent_to c.target u) r.octets c.rest (read.says t frame)
          (record { packet = range.packet; source = range.source }) c.in_range octets;
      same_target = c.same_target;
    }

-- octets that begin with a frame have no fault in their packet
pub no_packet_fault : (r : Seen) (u : Transmission) (f : Fault) → IsRead r → r.cut ≡ false
    → Carries r u → InRange u → FirstFault (drop 14 r.octets) f → ⊥
no_packet_fault r u f read whole c range fault =
    let v = sent_to c.target u in
    let octets : r.octets ≡ frame_octets v ++ c.rest =
    subst (λ (b : Bool). HasOctets b r.octets (frame_octets v) c.rest) whole c.octets in
    let packet : drop 14 r.octets ≡ encoding u.pdu u.hops_left ++ c.rest =
    rest_of_frame v r.octets c.rest octets in
    no_first_fault (encoding u.pdu u.hops_left ++ c.rest) _ _ f
    (subst IsBytes packet (IsBytes-drop 14 r.octets read.bytes))
    (encoding_read u.pdu u.hops_left (encoding u.pdu u.hops_left) c.rest (encodes u range))
    (subst (λ (w : List ℕ). FirstFault w f) packet fault)
