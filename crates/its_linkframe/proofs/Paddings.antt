-- Frames at the beginning of octets.
use Rattle.std.proofs.Common.{◌≡◌, ℕ, ◌+◌, ◌-◌, ◌≤◌, List, ◌++◌, length, take, drop, get_or}
use Rattle.std.proofs.Common.{refl, sym, ap, inl, inr, rules, take-take, length-take}
use Rattle.std.proofs.Common.{◌∙◌, subst, arith, length-take-le, length-drop, take-append-drop}
use Rattle.std.specs.Prelude.{All}
use Rattle.std.proofs.lemmas.Bool.{cases_lt}
use Rattle.std.proofs.lemmas.List.{drop-append-le, drop-take, drop_all, get_or-take, take_all}
use Rattle.byteorder.specs.Endian.{big_bytes, big_number}
use Rattle.its_model.specs.Packet.{Transmission}
use Rattle.its_headers.specs.Encoding.{IsBytes, Encodes}
use Rattle.its_headers.specs.Seen.{Seen}
use Rattle.its_formats.proofs.Numbers.{IsBytes-take}
use Rattle.its_linkframe.specs.Frames.{EncodesFrame, sent_from_to}
use Rattle.its_linkframe.specs.Padding.{IsFrameEnd, IsUnpadded}
use Rattle.its_linkframe.proofs.Fronts.{frame_bounds, EncodesFrame-parts}
use Rattle.its_linkframe.proofs.Fronts.{ether_octets, first_six, next_six}
use Rattle.its_linkframe.proofs.Fronts.{source_of_frame, target_of_frame, take-first_six}
use Rattle.its_linkframe.proofs.Fronts.{take-next_six}

-- a frame of n octets has its packet behind 14 of them
pub frame_long : (w : List ℕ) (n : ℕ) (t : Transmission) → n ≤ length w
    → EncodesFrame t (take n w) → 14 ≤ n
frame_long w n t le enc =
    let bounds = frame_bounds t (take n w) enc in
    omega (arith, bounds.0, length-take-le n w le)

pub packet_front : (w : List ℕ) (n : ℕ) (t : Transmission) → n ≤ length w
    → EncodesFrame t (take n w) → drop 14 w ≡ drop 14 (take n w) ++ drop n w
packet_front w n t le enc =
    let bounds = frame_bounds t (take n w) enc in
    ap (drop 14) (sym (take-append-drop n w))
    ∙ drop-append-le 14 (take n w) (drop n w) (omega (arith, bounds.0))

-- a frame at the beginning has the type of GeoNetworking where the octets have it
pub type_of_front : (w : List ℕ) (n : ℕ) (t : Transmission) → n ≤ length w
    → EncodesFrame t (take n w) → (get_or w 12 0 ≡ 137) × (get_or w 13 0 ≡ 71)
type_of_front w n t le enc =
    let long = frame_long w n t le enc in
    let type = ether_octets t (take n w) enc in (
      sym (get_or-take n w 12 0 (omega (arith, long))) ∙ type.0,
      sym (get_or-take n w 13 0 (omega (arith, long))) ∙ type.1,
    )

-- where a packet of this length was read behind those octets, the frame ends with it
pub frame_ends : (w : List ℕ) (n length_of : ℕ) (t : Transmission) → n ≤ length w
    → EncodesFrame t (take n w) → length_of ≡ length (drop 14 (take n w)) → 14 + length_of ≡ n
frame_ends w n length_of t le enc is =
    let long = frame_long w n t le enc in
    omega (arith, long, is, length-drop 14 (take n w), length-take-le n w le)

-- a beginning of at least 14 octets has the same addresses
pub same_addresses : (n : ℕ) (w : List ℕ) → 14 ≤ n → n ≤ length w
    → (first_six (take n w) ≡ first_six w) × (next_six (take n w) ≡ next_six w)
same_addresses n w long le =
    let size = length-take-le n w le in
    let at : 6 + (n - 6) ≡ n = omega (arith, long) in (
      sym (take-first_six (take n w) (omega (arith, size, long)))
          ∙ take-take 6 n w (omega (arith, long)) ∙ take-first_six w (omega (arith, long, le)),
      sym (take-next_six (take n w) (omega (arith, size, long)))
          ∙ ap (λ k. take 6 (drop 6 (take k w))) (sym at)
          ∙ ap (take 6) (drop-take 6 (n - 6) w)
          ∙ take-take 6 (n - 6) (drop 6 w) (omega (arith, long))
          ∙ take-next_six w (omega (arith, long, le)),
    )

-- octets of this type that go on with the encoding of a packet: the frame that they begin with
pub beginning_frame : (w : List ℕ) (s : Seen) (k to from : ℕ) → 14 ≤ length w → IsBytes w
    → get_or w 12 0 ≡ 137 → get_or w 13 0 ≡ 71 → k ≤ length (drop 14 w)
    → Encodes s.pdu s.left (take k (drop 14 w))
    → to ≡ big_number 6 (first_six w) → big_bytes 6 to ≡ first_six w
    → from ≡ big_number 6 (next_six w) → big_bytes 6 from ≡ next_six w
    → EncodesFrame (sent_from_to from to s) (take (14 + k) w)
beginning_frame w s k to from long fits e12 e13 le enc is_to to_octets is_from from_octets =
    let whole : 14 + k ≤ length w = omega (arith, le, long, length-drop 14 w) in
    let size = length-take-le (14 + k) w whole in
    let front = take (14 + k) w in
    let same = same_addresses (14 + k) w (omega arith) whole in
    EncodesFrame-parts front s to from (omega (arith, size)) (IsBytes-take (14 + k) w fits)
    (get_or-take (14 + k) w 12 0 (omega arith) ∙ e12)
    (get_or-take (14 + k) w 13 0 (omega arith) ∙ e13)
    (subst (Encodes s.pdu s.left) (sym (drop-take 14 k w)) enc)
    (is_to ∙ ap (big_number 6) (sym same.0)) (to_octets ∙ sym same.0)
    (is_from ∙ ap (big_number 6) (sym same.1)) (from_octets ∙ sym same.1)

-- the frame that octets begin with has the addresses of all of them
pub addresses_in_front : (w : List ℕ) (n : ℕ) (t : Transmission) → n ≤ length w
    → EncodesFrame t (take n w)
    → (big_number 6 (first_six w) ≡ t.link_target) × (big_number 6 (next_six w) ≡ t.link_source)
addresses_in_front w n t le enc =
    let same = same_addresses n w (frame_long w n t le enc) le in (
      ap (big_number 6) (sym same.0) ∙ target_of_frame t (take n w) enc,
      ap (big_number 6) (sym same.1) ∙ source_of_frame t (take n w) enc,
    )

-- a whole frame, as the frame that octets begin with
pub whole_frame : (t : Transmission) (w : List ℕ) → EncodesFrame t w
    → (length w ≤ 1468) × EncodesFrame t (take (length w) w)
whole_frame t w enc = (
  (frame_bounds t w enc).1,
  subst (EncodesFrame t) (sym (take_all (length w) w (omega arith))) enc,
)

-- a frame is not filled up, or by nothing
pub unpadded_frame : (w : List ℕ) (t : Transmission) → EncodesFrame t w → IsUnpadded w w
unpadded_frame w t enc =
    let n = length w in
    let whole : take n w ≡ w = take_all n w (omega arith) in
    elim (cases_lt 60 n) [
      | inl long ↦ inr ((λ m padded. omega (arith, padded.short, long)), refl)
      | inr short ↦ inl (
        n,
        record {
          short = short;
          frame = (
            omega arith,
            record { transmission = t; encodes = subst (EncodesFrame t) (sym whole) enc },
          );
          zeros = subst (All (λ (b : ℕ). b ≡ 0)) (sym (drop_all n w (omega arith))) (search rules);
        },
        sym whole,
      )
    ]

-- a frame at the beginning of a beginning is one at the beginning of all octets
pub front_of_front : (w : List ℕ) (m n : ℕ) (t : Transmission) → n ≤ length (take m w)
    → EncodesFrame t (take n (take m w)) → IsFrameEnd w n
front_of_front w m n t le enc =
    let size = length-take m w in (
      omega (arith, le, size),
      record {
        transmission = t;
        encodes = subst (EncodesFrame t) (take-take n m w (omega (arith, le, size))) enc;
      },
    )

-- a frame is no longer than the longest one
pub short_front : (w : List ℕ) (n : ℕ) (t : Transmission) → n ≤ length w
    → EncodesFrame t (take n w) → n ≤ 1468
short_front w n t le enc =
    let bounds = frame_bounds t (take n w) enc in
    omega (arith, bounds.1, length-take-le n w le)
