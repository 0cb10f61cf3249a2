-- What is put is the encoding.
use Rattle.std.proofs.Common.{◌≡◌, ℕ, ◌+◌, ◌-◌, ◌^◌, ◌<◌, ◌≤◌, List, [], ◌∷◌, ◌++◌, length, take}
use Rattle.std.proofs.Common.{drop, get_or, cond, refl, sym, ap, subst, ◌∙◌, arith, length-append}
use Rattle.std.proofs.Common.{length-drop}
use Rattle.std.proofs.lemmas.List.{take_at, drop_at}
use Rattle.std.proofs.Math.ListN.{set}
use Rattle.byteorder.specs.Endian.{big_bytes}
use Rattle.its_headers.specs.declared.packet.Header.{Header}
use Rattle.its_geometry.specs.Area.{GeoArea}
use Rattle.its_model.specs.Packet.{Pdu, Body, beacon, shb, AreaKind, geobroadcast, geoanycast}
use Rattle.its_model.specs.Packet.{area_body, Message}
use Rattle.its_headers.specs.Encoding.{IsBytes, IsPacket, IsVector, IsBody, Encodes, encoding}
use Rattle.its_headers.specs.Encoding.{vector_octets, area_octets, IsArea, IsMedia, IsMessage}
use Rattle.its_headers.specs.Encoding.{header_type, message_octets}
use Rattle.its_headers.specs.Fields.{message_of}
use Rattle.its_headers.specs.Packets.{with_body}
use Rattle.its_headers.specs.Puts.{Puts}
use Rattle.its_headers.specs.Written.{WritesEncoding}
use Rattle.its_headers.proofs.Packets.{message_back, message_fits}
use Rattle.its_headers.proofs.Puttings.{Puts-then}

written_from : (p : Pdu) (left : ℕ) (old new s : List ℕ) (n : ℕ) → Puts old new 0 s
    → s ≡ encoding p left → IsPacket p left → n ≡ length s → WritesEncoding p left old new n
written_from p left old new s n put is fits size =
    let e : 0 + length s ≡ n = omega (arith, size) in
    let whole : new ≡ s ++ drop n old = put.is ∙ ap (λ (t : ℕ). s ++ drop t old) e in
    record {
      inside = let l = ap length whole in omega (arith, l, length-append s (drop n old), size);
      encodes = subst (Encodes p left)
          (sym (ap (take n) whole ∙ take_at s (drop n old) n (sym size))) (record {
            fields = fits;
            octets = is;
          });
      rest = ap (drop n) whole ∙ drop_at s (drop n old) n (sym size);
    }

abbrev pub heads : Header → ℕ → ℕ → ℕ → List ℕ
heads h next kind size =
    17 ∷ 0 ∷ h.lifetime ∷ h.hops.left ∷ next ∷ kind ∷ h.class ∷ cond h.mobile 128 0
    ∷ (big_bytes 2 size ++ h.hops.max ∷ 0 ∷ [])

-- the Basic Header and then the Common Header
pub heads_put : (h : Header) (next type size : ℕ) (old m new : List ℕ)
    → Puts old m 0 (17 ∷ 0 ∷ h.lifetime ∷ h.hops.left ∷ [])
    → Puts m new 4 (next ∷ type ∷ h.class ∷ cond h.mobile 128 0
    ∷ (big_bytes 2 size ++ h.hops.max ∷ 0 ∷ [])) → 12 ≤ length old
    → Puts old new 0 (heads h next type size)
heads_put h next type size old m new p q room =
    Puts-then old m new 0 4 (17 ∷ 0 ∷ h.lifetime ∷ h.hops.left ∷ []) (next ∷ type ∷ h.class
    ∷ cond h.mobile 128 0 ∷ (big_bytes 2 size ++ h.hops.max ∷ 0 ∷ [])) p q refl room

pub record HeaderFits (h : Header) : Type 0 where
  pub octets : (h.lifetime < 256) × (h.class < 256) × (h.hops.max < 256)
  pub hops : (0 < h.hops.left) × (h.hops.left ≤ h.hops.max)

packet_fits : (h : Header) (b : Body) → HeaderFits h → IsVector h.vector → IsBody b
    → IsPacket (with_body h b) h.hops.left
packet_fits h b f v fb =
    record {
      lifetime = f.octets.0;
      class = f.octets.1;
      some_left = f.hops.0;
      left_below = f.hops.1;
      max_hops = f.octets.2;
      vector = v;
      body = fb;
    }

pub beacon_written : (h : Header) (old m new : List ℕ) → Puts old m 0 (heads h 0 16 0)
    → Puts m new 12 (vector_octets h.vector) → 36 ≤ length old → HeaderFits h → IsVector h.vector
    → WritesEncoding (with_body h beacon) h.hops.left old new 36
beacon_written h old m new p q room f v =
    let both = Puts-then old m new 0 12 (heads h 0 16 0) (vector_octets h.vector) p q refl room in
    written_from (with_body h beacon) h.hops.left old new (heads h 0 16 0
    ++ vector_octets h.vector) 36 both refl (packet_fits h beacon f v tt) refl

pub shb_written : (h : Header) (media w old m0 m1 m2 new : List ℕ)
    → Puts old m0 0 (heads h 32 80 (length w)) → Puts m0 m1 12 (vector_octets h.vector)
    → Puts m1 m2 36 media → Puts m2 new 40 w
    → 40 + length w ≤ length old → HeaderFits h → IsVector h.vector → IsMedia media → 4 ≤ length w
    → length w ≤ 1398 → IsBytes w
    → WritesEncoding (with_body h (shb media (message_of w))) h.hops.left old new (40 + length w)
shb_written h media w old m0 m1 m2 new p0 p1 p2 p3 room f v fm low high fits =
    let s0 = heads h 32 80 (length w) in
    let q1 = Puts-then old m0 m1 0 12 s0 (vector_octets h.vector) p0 p1 refl (omega arith) in
    let q2 = Puts-then old m1 m2 0 36 (s0 ++ vector_octets h.vector) media q1 p2 refl
    (omega (arith, fm.size)) in
    let place : 40 ≡ 0 + length (s0 ++ vector_octets h.vector ++ media) =
    omega (arith, fm.size, length-append (s0 ++ vector_octets h.vector) media) in
    let q3 = Puts-then old m2 new 0 40 (s0 ++ vector_octets h.vector ++ media) w q2 p3 place
    (omega (arith, place)) in
    let b = shb media (message_of w) in
    let size : length w ≡ 4 + length (drop 4 w) = omega (arith, length-drop 4 w) in
    let text : s0 ++ vector_octets h.vector ++ media ++ w ≡ encoding (with_body h b) h.hops.left =
    ap (λ (n : ℕ). heads h 32 80 n ++ vector_octets h.vector ++ media ++ w) size
    ∙ ap (λ (t : List ℕ). heads h 32 80 (4 + length (drop 4 w)) ++ vector_octets h.vector ++ media
    ++ t) (sym (message_back w low fits)) in
    written_from (with_body h b) h.hops.left old new (s0 ++ vector_octets h.vector ++ media ++ w)
    (40 + length w) q3 text (packet_fits h b f v (fm, message_fits w low high fits))
    (omega (arith, place, length-append (s0 ++ vector_octets h.vector ++ media) w))

-- packets for an area are laid out alike, and have the same ranges
laid_out : (kind : AreaKind) (h : Header) (number : ℕ) (a : GeoArea) (m : Message)
    → heads h 32 (header_type (area_body kind number a m)) (4 + length m.payload)
    ++ big_bytes 2 number ++ big_bytes 2 0 ++ vector_octets h.vector ++ area_octets a
    ++ big_bytes 2 0
    ++ message_octets m ≡ encoding (with_body h (area_body kind number a m)) h.hops.left
laid_out geobroadcast h number a m = refl
laid_out geoanycast h number a m = refl

body_fits : (kind : AreaKind) (number : ℕ) (a : GeoArea) (m : Message) → number < 2 ^ 16 → IsArea a
    → IsMessage m → IsBody (area_body kind number a m)
body_fits geobroadcast number a m fn fa fm = (fn, fa, fm)
body_fits geoanycast number a m fn fa fm = (fn, fa, fm)

-- what is written of a packet for an area, once its type octet is that of its kind and shape
area_packet_text : (kind : AreaKind) (h : Header) (type number : ℕ) (a : GeoArea) (w : List ℕ)
    → type ≡ header_type (area_body kind number a (message_of w)) → 4 ≤ length w → IsBytes w
    → heads h 32 type (length w) ++ big_bytes 2 number ++ big_bytes 2 0 ++ vector_octets h.vector
    ++ area_octets a ++ big_bytes 2 0
    ++ w ≡ encoding (with_body h (area_body kind number a (message_of w))) h.hops.left
area_packet_text kind h type number a w typed low fits =
    let size : length w ≡ 4 + length (drop 4 w) = omega (arith, length-drop 4 w) in
    let back = sym (message_back w low fits) in
    let same : heads h 32 type (length w) ++ big_bytes 2 number ++ big_bytes 2 0
    ++ vector_octets h.vector ++ area_octets a ++ big_bytes 2 0 ++ w
    ≡ heads h 32 (header_type (area_body kind number a (message_of w))) (4 + length (drop 4 w))
    ++ big_bytes 2 number ++ big_bytes 2 0 ++ vector_octets h.vector ++ area_octets a
    ++ big_bytes 2 0 ++ message_octets (message_of w) =
    ap (λ (k : ℕ). heads h 32 k (length w) ++ big_bytes 2 number ++ big_bytes 2 0
    ++ vector_octets h.vector ++ area_octets a ++ big_bytes 2 0 ++ w) typed
    ∙ ap (λ (n : ℕ). heads h 32 (header_type (area_body kind number a (message_of w))) n
    ++ big_bytes 2 number ++ big_bytes 2 0 ++ vector_octets h.vector ++ area_octets a
    ++ big_bytes 2 0 ++ w) size
    ∙ ap (λ (t : List ℕ).
    heads h 32 (header_type (area_body kind number a (message_of w))) (4 + length (drop 4 w))
    ++ big_bytes 2 number ++ big_bytes 2 0 ++ vector_octets h.vector ++ area_octets a
    ++ big_bytes 2 0 ++ t) back in
    same ∙ laid_out kind h number a (message_of w)

pub area_packet_written : (kind : AreaKind) (h : Header) (type number : ℕ) (a : GeoArea)
    (w old m0 m1 m2 m3 m4 m5 new : List ℕ)
    → type ≡ header_type (area_body kind number a (message_of w))
    → Puts old m0 0 (heads h 32 type (length w)) → Puts m0 m1 12 (big_bytes 2 number)
    → Puts m1 m2 14 (big_bytes 2 0) → Puts m2 m3 16 (vector_octets h.vector)
    → Puts m3 m4 40 (area_octets a) → Puts m4 m5 54 (big_bytes 2 0) → Puts m5 new 56 w
    → 56 + length w ≤ length old → HeaderFits h → IsVector h.vector → IsArea a → number < 2 ^ 16
    → 4 ≤ length w → length w ≤ 1398 → IsBytes w
    → WritesEncoding (with_body h (area_body kind number a (message_of w))) h.hops.left old new
    (56 + length w)
area_packet_written kind h type number a w old m0 m1 m2 m3 m4 m5 new typed p0 p1 p2 p3 p4 p5 p6 room
    f v fa fn low high fits =
    let s0 = heads h 32 type (length w) in
    let q1 = Puts-then old m0 m1 0 12 s0 (big_bytes 2 number) p0 p1 refl (omega arith) in
    let q2 = Puts-then old m1 m2 0 14 (s0 ++ big_bytes 2 number) (big_bytes 2 0) q1 p2 refl
    (omega arith) in
    let q3 = Puts-then old m2 m3 0 16 (s0 ++ big_bytes 2 number ++ big_bytes 2 0)
    (vector_octets h.vector) q2 p3 refl (omega arith) in
    let q4 = Puts-then old m3 m4 0 40 (s0 ++ big_bytes 2 number ++ big_bytes 2 0
    ++ vector_octets h.vector) (area_octets a) q3 p4 refl (omega arith) in
    let q5 = Puts-then old m4 m5 0 54 (s0 ++ big_bytes 2 number ++ big_bytes 2 0
    ++ vector_octets h.vector ++ area_octets a) (big_bytes 2 0) q4 p5 refl (omega arith) in
    let q6 = Puts-then old m5 new 0 56 (s0 ++ big_bytes 2 number ++ big_bytes 2 0
    ++ vector_octets h.vector ++ area_octets a ++ big_bytes 2 0) w q5 p6 refl (omega arith) in
    let b = area_body kind number a (message_of w) in
    let text = area_packet_text kind h type number a w typed low fits in
    written_from (with_body h b) h.hops.left old new (s0 ++ big_bytes 2 number ++ big_bytes 2 0
    ++ vector_octets h.vector ++ area_octets a ++ big_bytes 2 0 ++ w) (56 + length w) q6 text
    (packet_fits h b f v
    (body_fits kind number a (message_of w) fn fa (message_fits w low high fits))) (omega arith)

-- one hop fewer
pub relay_written : (p : Pdu) (left : ℕ) (old m w : List ℕ) → Encodes p left w → Puts old m 0 w
    → 2 ≤ left → WritesEncoding p (left - 1) old (set m 3 (get_or w 3 0 - 1)) (length w)
relay_written p left old m w e put more =
    let r = drop (0 + length w) old in
    let whole : m ≡ encoding p left ++ r = put.is ∙ ap (λ (t : List ℕ). t ++ r) e.octets in
    let here : get_or w 3 0 ≡ left = ap (λ (t : List ℕ). get_or t 3 0) e.octets in
    let new_is : set m 3 (get_or w 3 0 - 1) ≡ encoding p (left - 1) ++ r =
    ap (λ (t : List ℕ). set t 3 (get_or w 3 0 - 1)) whole
    ∙ ap (λ (t : ℕ). encoding p (t - 1) ++ r) here in
    let size : length w ≡ length (encoding p (left - 1)) = ap length e.octets in
    let f = e.fields in
    let fits : IsPacket p (left - 1) =
    record {
      lifetime = f.lifetime;
      class = f.class;
      some_left = omega arith;
      left_below = omega (arith, f.left_below);
      max_hops = f.max_hops;
      vector = f.vector;
      body = f.body;
    } in
    let n : drop (length w) old ≡ r = ap (λ (t : ℕ). drop t old) (omega arith) in
    record {
      inside = let l = ap length new_is in
          omega (arith, l, length-append (encoding p (left - 1)) r, size);
      encodes = subst (Encodes p (left - 1))
          (sym (ap (take (length w)) new_is
          ∙ take_at (encoding p (left - 1)) r (length w) (sym size)))
          (record { fields = fits; octets = refl });
      rest = ap (drop (length w)) new_is ∙ drop_at (encoding p (left - 1)) r (length w) (sym size)
          ∙ sym n;
    }
