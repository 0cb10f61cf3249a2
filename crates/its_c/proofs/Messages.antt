-- A message's payload is the end of its frame.
use Rattle.std.proofs.Common.{◌≡◌, ℕ, ◌≤◌, ◌+◌, ◌-◌, List, [], ◌++◌, length, drop, refl, sym, ap, ◌∙◌}
use Rattle.std.proofs.Common.{subst, arith}
use Rattle.std.proofs.lemmas.List.{append_assoc, length-append}
use Rattle.std.proofs.Math.Seq.{drop-append_seam}
use Rattle.byteorder.specs.Endian.{big_bytes, big_number}
use Rattle.its_gnvalue.specs.Values.{PositionVector}
use Rattle.its_geometry.specs.Area.{GeoArea}
use Rattle.its_model.specs.Packet.{Body, beacon, shb, gbc, gac, Message, Transmission}
use Rattle.its_headers.specs.Encoding.{basic_header, common_header, extended_header, area_octets}
use Rattle.its_headers.specs.Encoding.{vector_octets, message_octets}
use Rattle.its_headers.specs.Fields.{SaysMessage, message_of}
use Rattle.its_linkframe.specs.Frames.{EncodesFrame, link_header}
use Rattle.its_c.specs.Frames.{ShowsMessage, TellsMessage}

-- what ends with these octets
abbrev EndsWith : List ℕ → List ℕ → Type 0
EndsWith w end = (front : List ℕ) × (w ≡ front ++ end)

both : (front end : List ℕ) → EndsWith (front ++ end) end
both front end = (front, refl)

-- what comes before octets leaves their end
behind : (front w end : List ℕ) → EndsWith w end → EndsWith (front ++ w) end
behind front w end ends = (
  front ++ ends.0,
  ap (λ (octets : List ℕ). front ++ octets) ends.1 ∙ sym (append_assoc front ends.0 end),
)

-- the BTP-B header ends with nothing more
message_last : (m : Message) → EndsWith (message_octets m) m.payload
message_last m = both (big_bytes 2 m.port ++ big_bytes 2 m.info) m.payload

-- of a packet for an area: number, two reserved octets, vector, area, two reserved octets
abbrev area_front : PositionVector → ℕ → GeoArea → List ℕ
area_front v number area =
    big_bytes 2 number ++ big_bytes 2 0 ++ vector_octets v ++ area_octets area ++ big_bytes 2 0

-- a frame ends as its extended header does
frame_last : (t : Transmission) (w end : List ℕ) → EncodesFrame t w
    → EndsWith (extended_header t.pdu.vector t.pdu.body) end → EndsWith w end
frame_last t w end enc last =
    let headers = basic_header t.pdu t.hops_left ++ common_header t.pdu in
    let extended = extended_header t.pdu.vector t.pdu.body in
    let packet = behind headers extended end last in
    let ends = behind (link_header t.link_target t.link_source) (headers ++ extended) end packet in
    (ends.0, enc.octets ∙ ends.1)

less_its_length : (a b n : ℕ) → n ≡ a + b → n - b ≡ a
less_its_length a b n is = omega (arith, is)

-- the octets from there on are the end
from_start : (w end : List ℕ) → EndsWith w end → drop (length w - length end) w ≡ end
from_start w end ends =
    let front = ends.0 in
    let sum = ap (λ (octets : List ℕ). length octets) ends.1 ∙ length-append front end in
    ap (λ (n : ℕ). drop n w) (less_its_length (length front) (length end) (length w) sum)
    ∙ ap (λ (octets : List ℕ). drop (length front) octets) ends.1
    ∙ drop-append_seam front end

module _ (w octets payload : List ℕ) (port info : ℕ) where
  -- the message that is split off, where it ends the frame
  split_off : (m : Message) → message_of octets ≡ m → port ≡ big_number 2 octets
      → info ≡ big_number 2 (drop 2 octets) → payload ≡ drop 4 octets → EndsWith w m.payload
      → TellsMessage w m record {
        payload_start = length w - length payload;
        payload_length = length payload;
        port = port;
        info = info;
      }
  split_off m says at_port at_info at_payload ends =
      let same = at_payload ∙ ap (λ (x : Message). x.payload) says in
      let size = ap (λ (x : List ℕ). length x) same in
      let sum = ap (λ (x : List ℕ). length x) ends.1 ∙ length-append ends.0 m.payload in
      record {
        port = at_port ∙ ap (λ (x : Message). x.port) says;
        info = at_info ∙ ap (λ (x : Message). x.info) says;
        size = size;
        start =
            ap (λ (x : List ℕ). drop (length w - length x) w) same
            ∙ from_start w m.payload ends;
        end = omega (arith, sum, size);
      }

nothing_to_split : (octets : List ℕ) → octets ≡ [] → 4 ≤ length octets → ⊥
nothing_to_split octets is long =
    let none : length octets ≡ 0 = ap (λ (x : List ℕ). length x) is in omega (arith, none, long)

pub message_shown : (t : Transmission) (w octets payload : List ℕ) (port info : ℕ)
    → EncodesFrame t w → (b : Body) → t.pdu.body ≡ b → SaysMessage b octets → 4 ≤ length octets
    → port ≡ big_number 2 octets → info ≡ big_number 2 (drop 2 octets) → payload ≡ drop 4 octets
    → ShowsMessage w b record {
      payload_start = length w - length payload;
      payload_length = length payload;
      port = port;
      info = info;
    }
message_shown t w octets payload port info enc beacon is says long at_port at_info at_payload =
    absurd (nothing_to_split octets says long)
message_shown t w octets payload port info enc (shb media m) is says long at_port at_info at_payload =
    split_off w octets payload port info m says at_port at_info at_payload
    (frame_last t w m.payload enc (subst (λ (b : Body).
    EndsWith (extended_header t.pdu.vector b) m.payload) (sym is)
    (behind (vector_octets t.pdu.vector ++ media) (message_octets m) m.payload (message_last m))))
message_shown t w octets payload port info enc (gbc number area m) is says long at_port at_info
    at_payload =
    split_off w octets payload port info m says at_port at_info at_payload
    (frame_last t w m.payload enc (subst (λ (b : Body).
    EndsWith (extended_header t.pdu.vector b) m.payload) (sym is)
    (behind (area_front t.pdu.vector number area) (message_octets m) m.payload (message_last m))))
message_shown t w octets payload port info enc (gac number area m) is says long at_port at_info
    at_payload =
    split_off w octets payload port info m says at_port at_info at_payload
    (frame_last t w m.payload enc (subst (λ (b : Body).
    EndsWith (extended_header t.pdu.vector b) m.payload) (sym is)
    (behind (area_front t.pdu.vector number area) (message_octets m) m.payload (message_last m))))
