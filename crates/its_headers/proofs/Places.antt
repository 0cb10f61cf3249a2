-- Where the fields of an encoding stand, and that they are read there.
use Rattle.std.proofs.Common.{◌≡◌, ℕ, ◌+◌, ◌≤◌, List, [], ◌++◌, length, take, drop, Result, Ok}
use Rattle.std.proofs.Common.{refl, sym, ap, subst, ◌∙◌, arith, length-append, length-drop, ◌⊎◌}
use Rattle.std.proofs.Common.{inl, inr}
use Rattle.std.proofs.lemmas.List.{drop_at, take_at}
use Rattle.std.specs.Prelude.{Option, Some}
use Rattle.byteorder.specs.Endian.{big_bytes, big_number}
use Rattle.its_gnvalue.specs.Values.{PositionVector}
use Rattle.its_geometry.specs.declared.area.Shape.{Shape}
use Rattle.its_geometry.specs.Area.{GeoArea}
use Rattle.its_faults.specs.declared.packet.Fault.{Fault}
use Rattle.its_model.specs.Packet.{Pdu, Body, Message, beacon, shb, gbc, gac, AreaKind}
use Rattle.its_model.specs.Packet.{geobroadcast, geoanycast, area_body, number_in}
use Rattle.its_headers.specs.declared.kind.Kind.{Kind}
use Rattle.its_headers.specs.declared.kind.Kind.TheVariants.{Shb, Gbc, Gac}
use Rattle.its_headers.specs.Encoding.{Encodes, IsBody, IsArea, IsVector, encoding, payload_of}
use Rattle.its_headers.specs.Encoding.{vector_octets, area_octets, message_octets}
use Rattle.its_headers.specs.Fields.{vector_place, kind_of_body, shape_of_body, message_of}
use Rattle.its_headers.specs.Fields.{IsLength, media_in, area_in, SaysMessage, IsForArea}
use Rattle.its_headers.specs.declared.packet.Header.{Header}
use Rattle.its_headers.specs.declared.packet.AreaPacket.{AreaPacket}
use Rattle.its_headers.specs.Packets.{with_body, pdu_for_area, IsHeaderOf, IsAreaPacketOf}
use Rattle.its_headers.specs.Format.{Format, walk}
use Rattle.its_headers.specs.Layout.{vector_format, vector_at, area_format, area_at, is_individual}
use Rattle.its_headers.specs.Layout.{is_latitude, is_longitude, is_second, is_angle}
use Rattle.its_headers.specs.Seen.{Seen, seen_of, IsEncoding}
use Rattle.its_formats.specs.Spells.{Spells}
use Rattle.its_headers.proofs.Spelled.{spells_vector, spells_area}
use Rattle.its_formats.proofs.Found.{again, ok_is, judged_ok, number_read}
use Rattle.its_headers.proofs.Judged.{same_vector}
use Rattle.its_headers.proofs.Packets.{message_again}
use Rattle.its_headers.specs.Format.{packet_faults}

-- the encoding of a packet with a body
abbrev text_of : ℕ → Pdu → Body → List ℕ
text_of left p b = encoding (record p { body = b }) left

-- what a format reads where its text stands
read_at : {A : Type 0} (f : Format A) (x : A) (at end : ℕ) (w s rest : List ℕ) → Spells f x s
    → drop at w ≡ s ++ rest → end ≡ at + length s → 0 + 1 ≤ length s → walk f at w ≡ Ok (x, end)
read_at {A = A} f x at end w s rest h is size some =
    let l = ap length is in
    let reads : A → ℕ → Result (A × ℕ) Fault = λ y n. Ok (y, n) in
    again packet_faults f x at w s rest h is (omega (arith, l, length-append s rest, length-drop at w))
    ∙ ap (reads x) (sym size)

-- ---- the vector

vector_text : (left : ℕ) (p : Pdu) (b : Body) → p.body ≡ b
    → (rest : List ℕ) × (drop (vector_place b) (encoding p left) ≡ vector_octets p.vector ++ rest)
vector_text left p beacon is = ([], ap (λ (b : Body). drop 12 (text_of left p b)) is)
vector_text left p (shb media message) is =
    (media ++ message_octets message, ap (λ (b : Body). drop 12 (text_of left p b)) is)
vector_text left p (gbc number area message) is = (
  area_octets area ++ big_bytes 2 0 ++ message_octets message,
  ap (λ (b : Body). drop 16 (text_of left p b)) is,
)
vector_text left p (gac number area message) is = (
  area_octets area ++ big_bytes 2 0 ++ message_octets message,
  ap (λ (b : Body). drop 16 (text_of left p b)) is,
)

pub vector_read : (p : Pdu) (left at : ℕ) (w : List ℕ) → Encodes p left w → at ≡ vector_place p.body
    → walk vector_format at w ≡ Ok (p.vector, at + 24)
vector_read p left at w e is =
    let t = vector_text left p p.body refl in
    let text : drop at w ≡ vector_octets p.vector ++ t.0 =
    ap (λ (n : ℕ). drop n w) is ∙ ap (drop (vector_place p.body)) e.octets ∙ t.1 in
    read_at vector_format p.vector at (at + 24) w (vector_octets p.vector) t.0
    (spells_vector p.vector e.fields.vector) text refl (omega arith)

-- the vector that a walk gives is that of the octets
vector_walked : (at : ℕ) (w : List ℕ) (v : PositionVector) (n : ℕ)
    → walk vector_format at w ≡ Ok (v, n) → vector_at at w ≡ v
unfolding vector_format
vector_walked at w v n h =
    let a0 = number_read packet_faults 8 at w _ (v, n) h in
    let t0 = judged_ok (is_individual (big_number 8 (drop at w))) _ _ _ a0.1 in
    let a1 = number_read packet_faults 4 (at + 8) w _ (v, n) t0.1 in
    let a2 = number_read packet_faults 4 (at + 8 + 4) w _ (v, n) a1.1 in
    let t2 = judged_ok (is_latitude (big_number 4 (drop (at + 8 + 4) w))) _ _ _ a2.1 in
    let a3 = number_read packet_faults 4 (at + 8 + 4 + 4) w _ (v, n) t2.1 in
    let t3 = judged_ok (is_longitude (big_number 4 (drop (at + 8 + 4 + 4) w))) _ _ _ a3.1 in
    let a4 = number_read packet_faults 2 (at + 8 + 4 + 4 + 4) w _ (v, n) t3.1 in
    let a5 = number_read packet_faults 2 (at + 8 + 4 + 4 + 4 + 2) w _ (v, n) a4.1 in
    same_vector w (big_number 8 (drop at w)) (big_number 4 (drop (at + 8) w)) _ _ _ _ _ _ _ _
    (omega arith) (omega arith) (omega arith) (omega arith)
    ∙ ap (λ (t : PositionVector × ℕ). t.0) (ok_is _ (v, n) a5.1)

-- the vector that begins at a place
pub record VectorThere (at : ℕ) (w : List ℕ) (v : PositionVector) : Type 0 where
  pub here : at + 24 ≤ length w
  pub fits : IsVector (vector_at at w)
  pub is : vector_at at w ≡ v

vector_there : (p : Pdu) (left at : ℕ) (w : List ℕ) → Encodes p left w → at ≡ vector_place p.body
    → VectorThere at w p.vector
vector_there p left at w e is =
    let t = vector_text left p p.body refl in
    let text : drop at w ≡ vector_octets p.vector ++ t.0 =
    ap (λ (n : ℕ). drop n w) is ∙ ap (drop (vector_place p.body)) e.octets ∙ t.1 in
    let same = vector_walked at w p.vector (at + 24) (vector_read p left at w e is) in
    let l = ap length text in
    record {
      here = omega (arith, l, length-append (vector_octets p.vector) t.0, length-drop at w);
      fits = subst IsVector (sym same) e.fields.vector;
      is = same;
    }

-- ---- the area

-- the area that a walk gives is that of the octets
area_walked : (shape : Shape) (w : List ℕ) (x : GeoArea) (n : ℕ)
    → walk (area_format shape) 40 w ≡ Ok (x, n) → area_at shape w ≡ x
unfolding area_format
area_walked shape w x n h =
    let a0 = number_read packet_faults 4 40 w _ (x, n) h in
    let t0 = judged_ok (is_latitude (big_number 4 (drop 40 w))) _ _ _ a0.1 in
    let a1 = number_read packet_faults 4 44 w _ (x, n) t0.1 in
    let t1 = judged_ok (is_longitude (big_number 4 (drop 44 w))) _ _ _ a1.1 in
    let a2 = number_read packet_faults 2 48 w _ (x, n) t1.1 in
    let t2 = judged_ok _ _ _ _ a2.1 in
    let a3 = number_read packet_faults 2 50 w _ (x, n) t2.1 in
    let t3 = judged_ok (is_second shape (big_number 2 (drop 50 w))) _ _ _ a3.1 in
    let a4 = number_read packet_faults 2 52 w _ (x, n) t3.1 in
    let t4 = judged_ok (is_angle shape (big_number 2 (drop 52 w))) _ _ _ a4.1 in
    ap (λ (t : GeoArea × ℕ). t.0) (ok_is _ (x, n) t4.1)

-- the area of a packet for an area
pub record AreaThere (shape : Shape) (w : List ℕ) (b : Body) : Type 0 where
  pub here : 54 ≤ length w
  pub fits : IsArea (area_at shape w)
  pub is : area_in b ≡ Some (area_at shape w)

area_there_from : (w : List ℕ) (shape : Shape) (area : GeoArea) (message : Message)
    → drop 40 w ≡ area_octets area ++ (big_bytes 2 0 ++ message_octets message) → IsArea area
    → shape ≡ area.shape → (54 ≤ length w) × (area_at shape w ≡ area)
area_there_from w shape area message here fits same =
    let spelled : Spells (area_format shape) area (area_octets area) =
    subst (λ (s : Shape). Spells (area_format s) area (area_octets area)) (sym same)
    (spells_area area fits) in
    let l = ap length here in (
      omega (
        arith,
        l,
        length-append (area_octets area) (big_bytes 2 0 ++ message_octets message),
        length-drop 40 w,
      ),
      area_walked shape w area 54
          (read_at (area_format shape) area 40 54 w (area_octets area) (big_bytes 2 0
          ++ message_octets message) spelled here refl (omega arith)),
    )

some_area : (shape : Shape) (w : List ℕ) (b : Body) (area : GeoArea) → IsArea area
    → area_in b ≡ Some area → (54 ≤ length w) × (area_at shape w ≡ area) → AreaThere shape w b
some_area shape w b area fits is there =
    record {
      here = there.0;
      fits = subst IsArea (sym there.1) fits;
      is = is ∙ ap (λ (a : GeoArea). Some a) (sym there.1);
    }

area_there_in : (left : ℕ) (p : Pdu) (b : Body) (w : List ℕ) (shape : Shape) → p.body ≡ b → IsBody b
    → w ≡ encoding p left → IsForArea b → shape ≡ shape_of_body b → AreaThere shape w b
area_there_in left p beacon w shape is fits text for_area same = absurd for_area
area_there_in left p (shb media message) w shape is fits text for_area same = absurd for_area
area_there_in left p (gbc number area message) w shape is fits text for_area same =
    some_area shape w (gbc number area message) area fits.1 refl
    (area_there_from w shape area message (ap (drop 40) text
    ∙ ap (λ (b : Body). drop 40 (text_of left p b)) is) fits.1 same)
area_there_in left p (gac number area message) w shape is fits text for_area same =
    some_area shape w (gac number area message) area fits.1 refl
    (area_there_from w shape area message (ap (drop 40) text
    ∙ ap (λ (b : Body). drop 40 (text_of left p b)) is) fits.1 same)

-- the kinds of packet for an area
pub is_for_area : (b : Body) (kind : Kind) → kind ≡ kind_of_body b → (kind ≡ Gbc) ⊎ (kind ≡ Gac)
    → IsForArea b
is_for_area beacon kind is either = elim either [ inl a ↦ absurd cc | inr a ↦ absurd cc ]
is_for_area (shb media message) kind is either =
    elim either [ inl a ↦ absurd cc | inr a ↦ absurd cc ]
is_for_area (gbc number area message) kind is either = tt
is_for_area (gac number area message) kind is either = tt

-- ---- the payload

shb_payload_in : (left : ℕ) (p : Pdu) (b : Body) → p.body ≡ b → IsBody b → kind_of_body b ≡ Shb
    → drop 40 (encoding p left) ≡ payload_of b
shb_payload_in left p beacon is fits kind = absurd cc
shb_payload_in left p (gbc number area message) is fits kind = absurd cc
shb_payload_in left p (gac number area message) is fits kind = absurd cc
shb_payload_in left p (shb media message) is fits kind =
    ap (λ (b : Body). drop 40 (text_of left p b)) is
    ∙ drop_at media (message_octets message) 4 fits.0.size

pub shb_payload : (p : Pdu) (left : ℕ) (w : List ℕ) → Encodes p left w → kind_of_body p.body ≡ Shb
    → drop 40 w ≡ payload_of p.body
shb_payload p left w e kind =
    ap (drop 40) e.octets ∙ shb_payload_in left p p.body refl e.fields.body kind

shb_media_in : (left : ℕ) (p : Pdu) (b : Body) → p.body ≡ b → IsBody b → kind_of_body b ≡ Shb
    → media_in b ≡ Some (take 4 (drop 36 (encoding p left)))
shb_media_in left p beacon is fits kind = absurd cc
shb_media_in left p (gbc number area message) is fits kind = absurd cc
shb_media_in left p (gac number area message) is fits kind = absurd cc
shb_media_in left p (shb media message) is fits kind =
    ap (λ (m : List ℕ). Some m)
    (sym (ap (λ (b : Body). take 4 (drop 36 (text_of left p b))) is
    ∙ take_at media (message_octets message) 4 fits.0.size))

payload_fits_in : (b : Body) → IsBody b → IsLength (kind_of_body b) (length (payload_of b))
payload_fits_in beacon fits = refl
payload_fits_in (shb media message) fits = (omega arith, omega (arith, fits.1.size))
payload_fits_in (gbc number area message) fits = (omega arith, omega (arith, fits.2.size))
payload_fits_in (gac number area message) fits = (omega arith, omega (arith, fits.2.size))

-- a payload has a length that its kind may have
pub payload_fits : (p : Pdu) (left : ℕ) (w x : List ℕ) → Encodes p left w → x ≡ payload_of p.body
    → IsLength (kind_of_body p.body) (length x)
payload_fits p left w x e is =
    subst (λ (t : List ℕ). IsLength (kind_of_body p.body) (length t)) (sym is)
    (payload_fits_in p.body e.fields.body)

-- ---- through a view

pub view_vector : (w : List ℕ) (s : Seen) (at : ℕ) → IsEncoding w → seen_of w ≡ s
    → at ≡ vector_place s.pdu.body → VectorThere at w s.pdu.vector
view_vector w s at e is place =
    subst (λ (t : Seen). VectorThere at w t.pdu.vector) is
    (vector_there (seen_of w).pdu (seen_of w).left at w e (place
    ∙ ap (λ (t : Seen). vector_place t.pdu.body) (sym is)))

pub view_area : (w : List ℕ) (s : Seen) (shape : Shape) → IsEncoding w → seen_of w ≡ s
    → IsForArea s.pdu.body → shape ≡ shape_of_body s.pdu.body → AreaThere shape w s.pdu.body
view_area w s shape e is for_area same =
    subst (λ (t : Seen). AreaThere shape w t.pdu.body) is
    (area_there_in (seen_of w).left (seen_of w).pdu
    (seen_of w).pdu.body w shape refl e.fields.body e.octets
    (subst (λ (t : Seen). IsForArea t.pdu.body) (sym is) for_area) (same
    ∙ ap (λ (t : Seen). shape_of_body t.pdu.body) (sym is)))

pub view_media : (w : List ℕ) (s : Seen) (kind : Kind) → IsEncoding w → seen_of w ≡ s
    → kind ≡ kind_of_body s.pdu.body → kind ≡ Shb → media_in s.pdu.body ≡ Some (take 4 (drop 36 w))
view_media w s kind e is of shb_is =
    subst (λ (t : Seen). media_in t.pdu.body ≡ Some (take 4 (drop 36 w))) is
    (shb_media_in (seen_of w).left (seen_of w).pdu (seen_of w).pdu.body refl e.fields.body
    (ap (λ (t : Seen). kind_of_body t.pdu.body) is ∙ sym of ∙ shb_is)
    ∙ ap (λ (t : List ℕ). Some (take 4 (drop 36 t))) (sym e.octets))

pub view_shb_payload : (w : List ℕ) (s : Seen) (kind : Kind) → IsEncoding w → seen_of w ≡ s
    → kind ≡ kind_of_body s.pdu.body → kind ≡ Shb → drop 40 w ≡ payload_of s.pdu.body
view_shb_payload w s kind e is of shb_is =
    shb_payload (seen_of w).pdu (seen_of w).left w e (ap (λ (t : Seen). kind_of_body t.pdu.body) is
    ∙ sym of ∙ shb_is) ∙ ap (λ (t : Seen). payload_of t.pdu.body) is

pub view_payload_fits : (w x : List ℕ) (s : Seen) → IsEncoding w → seen_of w ≡ s
    → x ≡ payload_of s.pdu.body → IsLength (kind_of_body s.pdu.body) (length x)
view_payload_fits w x s e is same =
    subst (λ (t : Seen). IsLength (kind_of_body t.pdu.body) (length x)) is
    (payload_fits (seen_of w).pdu (seen_of w).left w x e (same
    ∙ ap (λ (t : Seen). payload_of t.pdu.body) (sym is)))

says_message_in : (b : Body) (w : List ℕ) → IsBody b → w ≡ payload_of b → SaysMessage b w
says_message_in beacon w fits is = is
says_message_in (shb media message) w fits is = ap message_of is ∙ message_again message fits.1
says_message_in (gbc number area message) w fits is =
    ap message_of is ∙ message_again message fits.2
says_message_in (gac number area message) w fits is =
    ap message_of is ∙ message_again message fits.2

pub view_says_message : (w x : List ℕ) (s : Seen) → IsEncoding w → seen_of w ≡ s
    → x ≡ payload_of s.pdu.body → SaysMessage s.pdu.body x
view_says_message w x s e is same =
    subst (λ (t : Seen). SaysMessage t.pdu.body x) is
    (says_message_in (seen_of w).pdu.body x e.fields.body (same
    ∙ ap (λ (t : Seen). payload_of t.pdu.body) (sym is)))

-- ---- the packet of a view

with_body_of : (h : Header) (s : Seen) (b : Body) → IsHeaderOf h s → b ≡ s.pdu.body
    → with_body h b ≡ s.pdu
with_body_of h s b fits is =
    rw (fits.max, fits.lifetime, fits.class, fits.mobile, fits.vector, is) refl

abbrev some_octets : List ℕ → Option (List ℕ)
some_octets m = Some m

same_media : (m n : List ℕ) → some_octets m ≡ some_octets n → m ≡ n
same_media m n e = cc

shb_body : (b : Body) (media w : List ℕ) → media_in b ≡ Some media → SaysMessage b w
    → shb media (message_of w) ≡ b
shb_body beacon media w is says = absurd cc
shb_body (shb m message) media w is says = let e : media ≡ m = sym (same_media m media is) in
    rw (e, says) refl
shb_body (gbc number area message) media w is says = absurd cc
shb_body (gac number area message) media w is says = absurd cc

abbrev pub kind_for_area : AreaKind → Kind
kind_for_area geobroadcast = Gbc
kind_for_area geoanycast = Gac

area_packet_body : (kind : AreaKind) (b : Body) (number : ℕ) (area : GeoArea) (w : List ℕ)
    → kind_for_area kind ≡ kind_of_body b → number_in b ≡ Some number → area_in b ≡ Some area
    → SaysMessage b w → area_body kind number area (message_of w) ≡ b
area_packet_body kind beacon number area w is n a says = absurd cc
area_packet_body kind (shb media message) number area w is n a says = absurd cc
area_packet_body geobroadcast (gbc m r message) number area w is n a says = let e : number ≡ m =
    cc in let f : area ≡ r = cc in rw (e, f, says) refl
area_packet_body geobroadcast (gac m r message) number area w is n a says = absurd cc
area_packet_body geoanycast (gbc m r message) number area w is n a says = absurd cc
area_packet_body geoanycast (gac m r message) number area w is n a says = let e : number ≡ m = cc in
    let f : area ≡ r = cc in rw (e, f, says) refl

pub shb_packet : (h : Header) (s : Seen) (media w : List ℕ) → IsHeaderOf h s
    → media_in s.pdu.body ≡ Some media → SaysMessage s.pdu.body w
    → (with_body h (shb media (message_of w)) ≡ s.pdu) × (h.hops.left ≡ s.left)
shb_packet h s media w fits is says =
    (with_body_of h s _ fits (shb_body s.pdu.body media w is says), fits.left)

pub area_packet : (kind : AreaKind) (a : AreaPacket) (s : Seen)
    → kind_for_area kind ≡ kind_of_body s.pdu.body → IsAreaPacketOf a s
    → (pdu_for_area kind a ≡ s.pdu) × (a.header.hops.left ≡ s.left)
area_packet kind a s is of = (
  with_body_of a.header s _ of.header
      (area_packet_body kind s.pdu.body a.number a.area a.payload is of.number of.area of.message),
  of.header.left,
)
