-- What is delivered of a frame is its end.
use Rattle.std.proofs.Common.{◌≡◌, ℕ, List, ◌++◌, drop, Some, None, Option, refl, sym, ap, ◌∙◌}
use Rattle.std.proofs.lemmas.List.{append_assoc, append-nil}
use Rattle.std.specs.Int.{bytes_high_first}
use Rattle.std.specs.Prelude.{Result, Ok, Err, IfOk}
use Rattle.its_gnvalue.specs.Values.{PositionVector}
use Rattle.its_geometry.specs.Area.{GeoArea}
use Rattle.its_model.specs.Packet.{Body, beacon, shb, gbc, gac, Transmission}
use Rattle.its_headers.specs.Encoding.{basic_header, common_header, extended_header}
use Rattle.its_headers.specs.Encoding.{vector_octets, area_octets, message_octets, payload_of}
use Rattle.its_linkframe.specs.Frames.{EncodesFrame, link_header}
use Rattle.its_linkframe.specs.Secured.{Verified, EncodesVerified}
use Rattle.its_station.specs.declared.outcome.Handed.{Handed}
use Rattle.its_station.specs.declared.outcome.Outcome.{Outcome}
use Rattle.its_station.specs.declared.outcome.Outcome.TheVariants as outcomes
use Rattle.its_station.specs.declared.refused.Refused.{Refused}
use Rattle.its_station.specs.Receiving.{HandsOutEndOf, DeliversEndOf}

-- what ends with these octets
abbrev pub EndsWith : List ℕ → List ℕ → Type 0
EndsWith w end = (front : List ℕ) × (w ≡ front ++ end)

both : (front end : List ℕ) → EndsWith (front ++ end) end
both front end = (front, refl)

-- of a packet for an area: number, two reserved octets, vector, area, two reserved octets
abbrev area_front : PositionVector → ℕ → GeoArea → List ℕ
area_front v number area =
    bytes_high_first 2 number ++ bytes_high_first 2 0 ++ vector_octets v ++ area_octets area
    ++ bytes_high_first 2 0

-- an extended header ends with the payload, if there is one
payload_last : (v : PositionVector) (b : Body) → EndsWith (extended_header v b) (payload_of b)
payload_last v beacon = (vector_octets v, sym (append-nil (vector_octets v)))
payload_last v (shb media message) = both (vector_octets v ++ media) (message_octets message)
payload_last v (gbc number area message) = both (area_front v number area) (message_octets message)
payload_last v (gac number area message) = both (area_front v number area) (message_octets message)

-- what comes before octets leaves their end
behind : (front w end : List ℕ) → EndsWith w end → EndsWith (front ++ w) end
behind front w end ends = (
  front ++ ends.0,
  ap (λ (octets : List ℕ). front ++ octets) ends.1 ∙ sym (append_assoc front ends.0 end),
)

-- a frame ends with its packet's payload
pub frame_end : (t : Transmission) (w : List ℕ) → EncodesFrame t w
    → EndsWith w (payload_of t.pdu.body)
frame_end t w enc =
    let payload = payload_of t.pdu.body in
    let extended = extended_header t.pdu.vector t.pdu.body in
    let headers = basic_header t.pdu t.hops_left ++ common_header t.pdu in
    let packet = behind headers extended payload (payload_last t.pdu.vector t.pdu.body) in
    let ends = behind (link_header t.link_target t.link_source) (headers
    ++ extended) payload packet in
    (ends.0, enc.octets ∙ ends.1)

-- the end of the payload is the end of the frame
handing_end :
    (t : Transmission) (w : List ℕ) → EncodesFrame t w
    → (h : Option Handed) → HandsOutEndOf (payload_of t.pdu.body) h → HandsOutEndOf w h
handing_end t w enc None ends = ends
handing_end t w enc (Some h) ends =
    let frame = frame_end t w enc in
    let both = behind frame.0 (payload_of t.pdu.body) h.payload.now ends in
    (both.0, frame.1 ∙ both.1)

-- the plain part of a packet ends with its payload
plain_end : (v : Verified) (w plain : List ℕ) → EncodesVerified v w plain
    → EndsWith plain (payload_of v.frame.pdu.body)
plain_end v w plain enc =
    let p = v.frame.pdu in
    let ends = behind (common_header p) (extended_header p.vector p.body) (payload_of p.body)
    (payload_last p.vector p.body) in
    (ends.0, ap (drop 4) enc.packet.octets ∙ ends.1)

verified_handing : (v : Verified) (w plain : List ℕ) → EncodesVerified v w plain
    → (h : Option Handed) → HandsOutEndOf (payload_of v.frame.pdu.body) h → HandsOutEndOf plain h
verified_handing v w plain enc None ends = ends
verified_handing v w plain enc (Some h) ends =
    let packet = plain_end v w plain enc in
    let both = behind packet.0 (payload_of v.frame.pdu.body) h.payload.now ends in
    (both.0, packet.1 ∙ both.1)

pub verified_end : (v : Verified) (w plain : List ℕ) → EncodesVerified v w plain
    → (answer : Result Outcome Refused)
    → IfOk answer (DeliversEndOf (payload_of v.frame.pdu.body)) → IfOk answer (DeliversEndOf plain)
verified_end v w plain enc (Ok (outcomes.Ignored why)) ends = ends
verified_end v w plain enc (Ok (outcomes.Accepted handed sent)) ends =
    verified_handing v w plain enc handed ends
verified_end v w plain enc (Err refused) ends = ends

pub delivered_end :
    (t : Transmission) (w : List ℕ) → EncodesFrame t w → (answer : Result Outcome Refused)
    → IfOk answer (DeliversEndOf (payload_of t.pdu.body)) → IfOk answer (DeliversEndOf w)
delivered_end t w enc (Ok (outcomes.Ignored why)) ends = ends
delivered_end t w enc (Ok (outcomes.Accepted handed sent)) ends = handing_end t w enc handed ends
delivered_end t w enc (Err refused) ends = ends
