-- Octets that begin as a packet for an area does name no other source.
use Rattle.std.proofs.Common.{◌≡◌, ◌≢◌, ℕ, zero, suc, ◌+◌, ◌/◌, ◌%◌, ◌^◌, ◌≤◌, ◌<◌, Bool, true}
use Rattle.std.proofs.Common.{false, cond, List, [], ◌∷◌, ◌++◌, length, drop, Option, Some, None}
use Rattle.std.proofs.Common.{eqb, refl, sym, ap, ◌∙◌, arith}
use Rattle.std.specs.Prelude.{nat_le, slice_get}
use Rattle.std.proofs.lemmas.Bool.{ne_eqb, le-leb, cond-true, cond-false}
use Rattle.std.proofs.lemmas.Bool.Decides.{nat_tests}
use Rattle.std.proofs.lemmas.List.{drop-append-le, length-append, length-drop}
use Rattle.byteorder.specs.Endian.{big_number}
use Rattle.byteorder.specs.Numbers.{big_number-reads_back, big_from-append}
use Rattle.its_geometry.specs.declared.area.Shape.{Shape}
use Rattle.its_geometry.specs.declared.area.Shape.TheVariants.{Circle, Rectangle, Ellipse}
use Rattle.its_geometry.specs.Area.{GeoArea}
use Rattle.its_headers.specs.Encoding.{shape_code, encoding}
use Rattle.its_linkframe.specs.Frames.{link_header, frame_octets}
use Rattle.its_model.specs.Packet.{Message, Body, Transmission}
use Rattle.its_model.specs.Packet.Body.{gbc}
use Rattle.its_duties.specs.Seen.{Seen, Carries, sent_to, number_at, is_number, source_place}
use Rattle.its_duties.specs.Seen.{address_there, address_by, named_source}
use Rattle.its_duties.proofs.Received.{begins}

-- ---- the front of octets

number_front : (w x : List ℕ) (place size : ℕ) → place + size ≤ length w
    → number_at place size (w ++ x) ≡ number_at place size w
number_front w x place size le =
    cond-true (nat_le (place + size) (length (w ++ x))) _ _
    (le-leb _ _ (omega (arith, length-append w x, le)))
    ∙ ap (λ (n : ℕ). Some n)
    (ap (big_number size) (drop-append-le place w x (omega (arith, le)))
    ∙ big_from-append size (drop place w) x (omega (arith, length-drop place w, le)))
    ∙ sym (cond-true (nat_le (place + size) (length w)) _ _ (le-leb _ _ le))

octet_front : (w x : List ℕ) (n y : ℕ) → slice_get w n ≡ Some y → slice_get (w ++ x) n ≡ Some y
octet_front [] x n y e = cc
octet_front (a ∷ w) x zero y e = e
octet_front (a ∷ w) x (suc n) y e = octet_front w x n y e

is_at_most : (a b : ℕ) → nat_le a b ≡ true → a ≤ b
is_at_most a b e = grind (arith, nat_tests)

address_front : (place : Option ℕ) (a : ℕ) (w x : List ℕ)
    → is_number a (address_there place (w ++ x)) ≡ false
    → is_number a (address_there place w) ≡ false
address_front None a w x h = refl
address_front (Some place) a w x h = by (nat_le (place + 8) (length w)) refl
  where
    by : (b : Bool) → nat_le (place + 8) (length w) ≡ b → is_number a (number_at place 8 w) ≡ false
    by true e = ap (is_number a) (sym (number_front w x place 8 (is_at_most _ _ e))) ∙ h
    by false e = ap (is_number a) (ap (λ (b : Bool). cond b (Some (big_number 8 (drop place w))) None) e)

address_by_front : (first types : Option ℕ) (a : ℕ) (p x : List ℕ) → slice_get p 0 ≡ first
    → slice_get p 5 ≡ types
    → is_number a (address_by (slice_get (p ++ x) 0) (slice_get (p ++ x) 5) (p ++ x)) ≡ false
    → is_number a (address_by first types p) ≡ false
address_by_front None types a p x one two h = refl
address_by_front (Some first) None a p x one two h = refl
address_by_front (Some first) (Some types) a p x one two h =
    by (eqb (first % 16) 1)
    (ap (λ (o : Option ℕ). is_number a (address_by o (Some types) (p ++ x)))
    (sym (octet_front p x 0 first one))
    ∙ ap (λ (o : Option ℕ). is_number a (address_by (slice_get (p ++ x) 0) o (p ++ x)))
    (sym (octet_front p x 5 types two)) ∙ h)
  where
    place : Option ℕ
    place = source_place (types / 16) (types % 16)

    by : (b : Bool) → is_number a (cond b (address_there place (p ++ x)) None) ≡ false
        → is_number a (cond b (address_there place p) None) ≡ false
    by true e = address_front place a p x e
    by false e = refl

short_drop : (n : ℕ) (w : List ℕ) → length w ≤ n → drop n w ≡ []
short_drop zero [] h = refl
short_drop zero (a ∷ w) h = absurd (omega arith)
short_drop (suc n) [] h = refl
short_drop (suc n) (a ∷ w) h = short_drop n w (omega arith)

named_front : (a : ℕ) (w x : List ℕ) → is_number a (named_source (w ++ x)) ≡ false
    → is_number a (named_source w) ≡ false
unfolding named_source
named_front a w x h = by (nat_le 14 (length w)) refl
  where
    by : (b : Bool) → nat_le 14 (length w) ≡ b → is_number a (named_source w) ≡ false
    by true e =
        address_by_front (slice_get (drop 14 w) 0) (slice_get (drop 14 w) 5) a (drop 14 w) x refl refl
        (ap (λ (p : List ℕ). is_number a (address_by (slice_get p 0) (slice_get p 5) p))
        (sym (drop-append-le 14 w x (is_at_most 14 (length w) e))) ∙ h)
    by false e =
        ap (λ (p : List ℕ). is_number a (address_by (slice_get p 0) (slice_get p 5) p))
        (short_drop 14 w (below 14 (length w) e))
      where
        below : (m n : ℕ) → nat_le m n ≡ false → n ≤ m
        below m n e = grind (arith, nat_tests)

-- ---- a packet for an area

place_of : (s : Shape) → source_place ((64 + shape_code s) / 16) ((64 + shape_code s) % 16) ≡ Some 16
place_of Circle = refl
place_of Rectangle = refl
place_of Ellipse = refl

with_body : Transmission → Body → Transmission
with_body u body = record u { pdu = record u.pdu { body = body } }

named_broadcast : (u : Transmission) (rest : List ℕ) (number : ℕ) (area : GeoArea)
    (message : Message) → u.pdu.vector.address < 2 ^ 64
    → named_source (frame_octets (with_body u (gbc number area message)) ++ rest)
    ≡ Some u.pdu.vector.address
unfolding named_source link_header with_body
named_broadcast u rest number area message small =
    let packet = encoding (with_body u (gbc number area message)).pdu u.hops_left ++ rest in
    ap (λ (place : Option ℕ). address_there place packet) (place_of area.shape)
    ∙ cond-true (nat_le 24 (length packet)) _ _ (le-leb 24 (length packet) (omega arith))
    ∙ ap (λ (n : ℕ). Some n) (big_number-reads_back 8 u.pdu.vector.address [] small)

named_whole : (u : Transmission) (rest : List ℕ) (number : ℕ) (area : GeoArea)
    (message : Message) → u.pdu.body ≡ gbc number area message
    → u.pdu.vector.address < 2 ^ 64
    → named_source (frame_octets u ++ rest) ≡ Some u.pdu.vector.address
unfolding with_body
named_whole u rest number area message is small =
    ap (λ (b : Body). named_source (frame_octets (with_body u b) ++ rest)) is
    ∙ named_broadcast u rest number area message small

-- a record of it doesn't name another address
pub other_named : (r : Seen) (u : Transmission) (a number : ℕ) (area : GeoArea)
    (message : Message) → Carries r u → u.pdu.body ≡ gbc number area message
    → u.pdu.vector.address < 2 ^ 64 → u.pdu.vector.address ≢ a
    → is_number a (named_source r.octets) ≡ false
other_named r u a number area message c is small other =
    let b = begins r.cut r.octets (frame_octets (sent_to c.target u)) c.rest c.octets in
    named_front a r.octets b.after
    (ap (λ (w : List ℕ). is_number a (named_source w)) b.is
    ∙ ap (is_number a) (named_whole (sent_to c.target u) b.rest number area message is small)
    ∙ ne_eqb u.pdu.vector.address a other)
