-- The octets of a frame, part by part.
use Rattle.std.proofs.Common.{◌≡◌, ℕ, ◌^◌, ◌<◌, ◌≤◌, List, [], ◌∷◌, ◌++◌, length, take, drop}
use Rattle.std.proofs.Common.{get_or, refl, sym, ap, subst, ◌∙◌, arith, lit≤, length-append}
use Rattle.std.proofs.Common.{length-take, length-drop}
use Rattle.std.proofs.lemmas.List.{take_all, take-append-drop}
use Rattle.byteorder.specs.Endian.{big_bytes, big_number}
use Rattle.byteorder.specs.Numbers.{big_from-lt, big_number-reads_back}
use Rattle.its_model.specs.Packet.{Pdu, Body, beacon, shb, gbc, gac, Transmission}
use Rattle.its_gnvalue.specs.Values.{PositionVector}
use Rattle.its_headers.specs.Encoding.{IsBytes, Encodes, IsPacket, IsBody, encoding}
use Rattle.its_headers.specs.Encoding.{extended_header, message_octets}
use Rattle.its_headers.specs.Seen.{Seen}
use Rattle.its_formats.proofs.Numbers.{IsBytes-take, IsBytes-drop, big_bytes-big_number}
use Rattle.its_linkframe.specs.Frames.{link_header, frame_octets, EncodesFrame, sent_from_to}
use Rattle.its_linkframe.specs.FrameFaults.{Trails}

-- the first six octets, and the six after them
abbrev pub first_six : List ℕ → List ℕ
first_six w =
    get_or w 0 0 ∷ get_or w 1 0 ∷ get_or w 2 0 ∷ get_or w 3 0 ∷ get_or w 4 0 ∷ get_or w 5 0 ∷ []

abbrev pub next_six : List ℕ → List ℕ
next_six w =
    get_or w 6 0 ∷ get_or w 7 0 ∷ get_or w 8 0 ∷ get_or w 9 0 ∷ get_or w 10 0 ∷ get_or w 11 0 ∷ []

pub take-first_six : (w : List ℕ) → 14 ≤ length w → take 6 w ≡ first_six w
take-first_six (a ∷ b ∷ c ∷ d ∷ e ∷ f ∷ w) le = refl
take-first_six _ le = absurd (omega arith)

pub take-next_six : (w : List ℕ) → 14 ≤ length w → take 6 (drop 6 w) ≡ next_six w
take-next_six (a ∷ b ∷ c ∷ d ∷ e ∷ f ∷ g ∷ h ∷ i ∷ j ∷ k ∷ l ∷ w) le = refl
take-next_six _ le = absurd (omega arith)

pub in_parts : (w : List ℕ) → 14 ≤ length w
    → w ≡ first_six w ++ next_six w ++ get_or w 12 0 ∷ get_or w 13 0 ∷ drop 14 w
in_parts (a ∷ b ∷ c ∷ d ∷ e ∷ f ∷ g ∷ h ∷ i ∷ j ∷ k ∷ l ∷ m ∷ n ∷ w) le = refl
in_parts _ le = absurd (omega arith)

-- six octets are a number of 48 bits
pub IsMac-first_six : (w : List ℕ) → 14 ≤ length w → IsBytes w → big_number 6 (first_six w) < 2 ^ 48
IsMac-first_six w le fits =
    big_from-lt 0 6 (first_six w) (subst IsBytes (take-first_six w le) (IsBytes-take 6 w fits))

pub IsMac-next_six : (w : List ℕ) → 14 ≤ length w → IsBytes w → big_number 6 (next_six w) < 2 ^ 48
IsMac-next_six w le fits =
    big_from-lt 0 6 (next_six w)
    (subst IsBytes (take-next_six w le) (IsBytes-take 6 (drop 6 w) (IsBytes-drop 6 w fits)))

pub big_bytes-first_six : (w : List ℕ) → 14 ≤ length w → IsBytes w
    → big_bytes 6 (big_number 6 (first_six w)) ≡ first_six w
big_bytes-first_six w le fits =
    subst (λ (v : List ℕ). big_bytes 6 (big_number 6 v) ≡ v) (take-first_six w le)
    (big_bytes-big_number 6 (take 6 w) (omega (arith, length-take 6 w)) (IsBytes-take 6 w fits)
    ∙ take_all 6 (take 6 w) (omega (arith, length-take 6 w)))

pub big_bytes-next_six : (w : List ℕ) → 14 ≤ length w → IsBytes w
    → big_bytes 6 (big_number 6 (next_six w)) ≡ next_six w
big_bytes-next_six w le fits =
    subst (λ (v : List ℕ). big_bytes 6 (big_number 6 v) ≡ v) (take-next_six w le)
    (big_bytes-big_number 6 (take 6 (drop 6 w))
    (omega (arith, length-take 6 (drop 6 w), length-drop 6 w))
    (IsBytes-take 6 (drop 6 w) (IsBytes-drop 6 w fits))
    ∙ take_all 6 (take 6 (drop 6 w)) (omega (arith, length-take 6 (drop 6 w))))

-- octets that begin with addresses and type, and go on with the encoding of a packet alone
pub EncodesFrame-parts : (w : List ℕ) (s : Seen) (to from : ℕ) → 14 ≤ length w → IsBytes w
    → get_or w 12 0 ≡ 137 → get_or w 13 0 ≡ 71 → Encodes s.pdu s.left (drop 14 w)
    → to ≡ big_number 6 (first_six w) → big_bytes 6 to ≡ first_six w
    → from ≡ big_number 6 (next_six w) → big_bytes 6 from ≡ next_six w
    → EncodesFrame (sent_from_to from to s) w
unfolding link_header
EncodesFrame-parts w s to from le fits e12 e13 enc is_to to_octets is_from from_octets = record {
  fields = record {
    target = subst (λ (n : ℕ). n < 2 ^ 48) (sym is_to) (IsMac-first_six w le fits);
    source = subst (λ (n : ℕ). n < 2 ^ 48) (sym is_from) (IsMac-next_six w le fits);
    packet = enc.fields;
  };
  octets = in_parts w le
      ∙ ap (λ (t : List ℕ). t ++ next_six w ++ get_or w 12 0 ∷ get_or w 13 0 ∷ drop 14 w)
      (sym to_octets)
      ∙ ap (λ (t : List ℕ). big_bytes 6 to ++ t ++ get_or w 12 0 ∷ get_or w 13 0 ∷ drop 14 w)
      (sym from_octets)
      ∙ ap (λ (n : ℕ). big_bytes 6 to ++ big_bytes 6 from ++ n ∷ get_or w 13 0 ∷ drop 14 w) e12
      ∙ ap (λ (n : ℕ). big_bytes 6 to ++ big_bytes 6 from ++ 137 ∷ n ∷ drop 14 w) e13
      ∙ ap (λ (t : List ℕ). big_bytes 6 to ++ big_bytes 6 from ++ 137 ∷ 71 ∷ t) enc.octets;
}

-- ---- what a frame has

pub ether_octets : (t : Transmission) (w : List ℕ) → EncodesFrame t w
    → (get_or w 12 0 ≡ 137) × (get_or w 13 0 ≡ 71)
unfolding link_header
ether_octets t w enc =
    (ap (λ (v : List ℕ). get_or v 12 0) enc.octets, ap (λ (v : List ℕ). get_or v 13 0) enc.octets)

pub packet_of_frame : (t : Transmission) (w : List ℕ) → EncodesFrame t w
    → Encodes t.pdu t.hops_left (drop 14 w)
unfolding link_header
packet_of_frame t w enc = record { fields = enc.fields.packet; octets = ap (drop 14) enc.octets }

pub target_of_frame : (t : Transmission) (w : List ℕ) → EncodesFrame t w
    → big_number 6 (first_six w) ≡ t.link_target
unfolding link_header
target_of_frame t w enc =
    ap (λ (v : List ℕ). big_number 6 (first_six v)) enc.octets
    ∙ big_number-reads_back 6 t.link_target [] enc.fields.target

pub source_of_frame : (t : Transmission) (w : List ℕ) → EncodesFrame t w
    → big_number 6 (next_six w) ≡ t.link_source
unfolding link_header
source_of_frame t w enc =
    ap (λ (v : List ℕ). big_number 6 (next_six v)) enc.octets
    ∙ big_number-reads_back 6 t.link_source [] enc.fields.source

-- a packet has at most 1454 octets
extended_bound : (v : PositionVector) (b : Body) → IsBody b → length (extended_header v b) ≤ 1442
extended_bound v beacon fits = lit≤ tt
extended_bound v (shb media message) fits =
    let tail = length-append media (message_octets message) in
    omega (arith, fits.0.size, fits.1.size, tail)
extended_bound v (gbc number area message) fits = omega (arith, fits.2.size)
extended_bound v (gac number area message) fits = omega (arith, fits.2.size)

encoding_bound : (p : Pdu) (left : ℕ) → IsPacket p left → length (encoding p left) ≤ 1454
encoding_bound p left fits = omega (arith, extended_bound p.vector p.body fits.body)

pub frame_bounds : (t : Transmission) (w : List ℕ) → EncodesFrame t w
    → (14 ≤ length w) × (length w ≤ 1468)
unfolding link_header
frame_bounds t w enc =
    let size : length w ≡ length (frame_octets t) = ap length enc.octets in
    let bound = encoding_bound t.pdu t.hops_left enc.fields.packet in
    (omega (arith, size), omega (arith, size))

-- the front of octets is a packet, and more octets follow
pub Trails-of : (w : List ℕ) (s : Seen) (n : ℕ) → Encodes s.pdu s.left (take n w) → n < length w
    → Trails w
Trails-of w s n enc lt =
    record {
      pdu = s.pdu;
      left = s.left;
      text = take n w;
      rest = drop n w;
      encodes = enc;
      is = sym (take-append-drop n w);
      more = omega (arith, length-drop n w);
    }

-- the whole of the octets is a packet
pub Encodes-whole : (v w : List ℕ) (s : Seen) (n : ℕ) → v ≡ w → Encodes s.pdu s.left (take n v)
    → length w ≤ n → Encodes s.pdu s.left w
Encodes-whole v w s n is enc le =
    subst (Encodes s.pdu s.left) (ap (take n) is ∙ take_all n w le) enc

pub same_transmission : (s : Seen) (to from : ℕ) (t : Transmission)
    → s ≡ record { pdu = t.pdu; left = t.hops_left } → to ≡ t.link_target → from ≡ t.link_source
    → sent_from_to from to s ≡ t
same_transmission s to from t is_packet is_target is_source =
    ap (sent_from_to from to) is_packet
    ∙ ap (λ (n : ℕ). sent_from_to from n (record { pdu = t.pdu; left = t.hops_left })) is_target
    ∙ ap (λ (n : ℕ). sent_from_to n t.link_target (record {
      pdu = t.pdu;
      left = t.hops_left;
    })) is_source
