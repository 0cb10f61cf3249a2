-- The fault that the reading of a packet meets is the first one.
use Rattle.std.proofs.Common.{◌≡◌, ℕ, ◌/◌, ◌^◌, ◌<◌, List, ◌++◌, take, drop}
use Rattle.std.proofs.Common.{Bool, true, false, cond, eqb, Result, Ok, Err, refl, sym, ap, subst}
use Rattle.std.proofs.Common.{arith}
use Rattle.std.proofs.lemmas.List.{take-append-drop}
use Rattle.byteorder.specs.Endian.{big_number}
use Rattle.its_gnvalue.specs.Values.{PositionVector}
use Rattle.its_faults.specs.declared.packet.Fault.{Fault}
use Rattle.its_geometry.specs.declared.area.Shape.{Shape}
use Rattle.its_geometry.specs.declared.area.Shape.TheVariants.{Circle, Rectangle, Ellipse}
use Rattle.its_headers.specs.declared.kind.Kind.{Kind}
use Rattle.its_headers.specs.declared.kind.Kind.TheVariants.{Beacon, Shb, Gbc, Gac}
use Rattle.its_model.specs.Packet.{Pdu, Body, AreaKind, geobroadcast, geoanycast}
use Rattle.its_headers.specs.Encoding.{IsBytes, Encodes}
use Rattle.its_formats.specs.Format.{ends, after}
use Rattle.its_headers.specs.Format.{walk}
use Rattle.its_headers.specs.Layout.{basic_format, basic_format_of, type_format, common_format}
use Rattle.its_headers.specs.Layout.{vector_format}
use Rattle.its_headers.specs.Layout.{area_format, area_packet_format, body_format, packet_format}
use Rattle.its_headers.specs.Layout.{is_type, is_subtype, is_length, is_next, is_second, is_angle}
use Rattle.its_headers.specs.FirstFault.{Row, EncodesSeen, common_rows, vector_rows, shb_rows, area_packet_rows}
use Rattle.its_headers.specs.FirstFault.{rows_of, FaultAmong, FirstFault}
use Rattle.its_headers.proofs.Packets.{basic_spelled}
use Rattle.its_headers.proofs.Encodings.{read_front, encoding_read}
use Rattle.its_formats.proofs.FirstFaults.{IsInhabited, inhabited_after, Rules, Path, rows_in, faults, faultless}
use Rattle.its_formats.proofs.FirstFaults.{one_fault}
use Rattle.its_faults.specs.declared.packet.FaultKind.TheVariants.{Truncated}
use Rattle.its_headers.specs.Format.{packet_faults}

rules : Rules packet_faults EncodesSeen packet_format
rules = record { sound = λ x s rest e. encoding_read x.0 x.1 s rest e; full = λ w x n fits e. (read_front w x n fits e).encodes }

basic_inhabited : IsInhabited basic_format
unfolding basic_format_of
basic_inhabited = (
  (1, omega arith, refl),
  λ _ _ _. (
    (1, omega arith, refl),
    λ _ _ _. (
      (0, omega arith, refl),
      λ _ _ _. ((0, omega arith, refl), λ _ _ _. ((1, omega arith, refl), λ _ _ _. tt)),
    ),
  ),
)

a_type : (n : ℕ) → is_next n ≡ true → (t : ℕ) × (t < 16) × (is_type n t ≡ true)
a_type n h = (cond (eqb n 0) 1 4, grind arith, grind arith)

a_subtype : (t : ℕ) → is_subtype t 0 ≡ true
a_subtype t = grind arith

a_length : (t : ℕ) → (n : ℕ) × (n < 256 ^ 2) × (is_length t n ≡ true)
a_length t = (cond (eqb t 1) 0 4, grind arith, grind arith)

common_inhabited : (left : ℕ) → left < 256 → IsInhabited (common_format left)
unfolding type_format common_format
common_inhabited left lt = (
  (0, omega arith, refl),
  λ n _ rn. (
    (0, omega arith, refl),
    λ _ _ _. (
      a_type n rn,
      λ t _ _. (
        (0, omega arith, a_subtype t),
        λ _ _ _. (
          (0, omega arith, refl),
          λ _ _ _. (
            (0, omega arith, refl),
            λ _ _ _. (
              a_length t,
              λ _ _ _. (
                (255, omega arith, grind arith),
                λ _ _ _. ((0, omega arith, refl), λ _ _ _. tt),
              ),
            ),
          ),
        ),
      ),
    ),
  ),
)

vector_inhabited : IsInhabited vector_format
unfolding vector_format
vector_inhabited = (
  (0, omega arith, refl),
  λ _ _ _. (
    (0, omega arith, refl),
    λ _ _ _. (
      (0, omega arith, refl),
      λ _ _ _. (
        (0, omega arith, refl),
        λ _ _ _. ((0, omega arith, refl), λ _ _ _. ((0, omega arith, refl), λ _ _ _. tt)),
      ),
    ),
  ),
)

a_second : (shape : Shape) → (n : ℕ) × (n < 256 ^ 2) × (is_second shape n ≡ true)
a_second Circle = (0, omega arith, refl)
a_second Rectangle = (1, omega arith, refl)
a_second Ellipse = (1, omega arith, refl)

an_angle : (shape : Shape) → is_angle shape 0 ≡ true
an_angle Circle = refl
an_angle Rectangle = refl
an_angle Ellipse = refl

area_inhabited : (shape : Shape) → IsInhabited (area_format shape)
unfolding area_format
area_inhabited shape = (
  (0, omega arith, refl),
  λ _ _ _. (
    (0, omega arith, refl),
    λ _ _ _. (
      (1, omega arith, refl),
      λ _ _ _. (a_second shape, λ _ _ _. ((0, omega arith, an_angle shape), λ _ _ _. tt)),
    ),
  ),
)

area_packet_inhabited : (kind : AreaKind) (shape : Shape) (n : ℕ)
    → IsInhabited (area_packet_format kind shape n)
area_packet_inhabited kind shape n = (
  (0, omega arith, refl),
  λ _ _ _. (
    (0, omega arith, refl),
    λ _ _ _. inhabited_after vector_format _ vector_inhabited
        (λ _ _ _. inhabited_after (area_format shape) _ (area_inhabited shape)
        (λ _ _ _. ((0, omega arith, refl), λ _ _ _. λ _ _ _. tt))),
  ),
)

body_inhabited : (k : Kind) (shape : Shape) (n : ℕ) → IsInhabited (body_format k shape n)
body_inhabited Beacon shape n = inhabited_after vector_format _ vector_inhabited (λ _ _ _. tt)
body_inhabited Shb shape n =
    inhabited_after vector_format _ vector_inhabited (λ _ _ _. λ _ _ _. λ _ _ _. tt)
body_inhabited Gbc shape n = area_packet_inhabited geobroadcast shape n
body_inhabited Gac shape n = area_packet_inhabited geoanycast shape n

inhabited : IsInhabited packet_format
inhabited =
    inhabited_after basic_format _ basic_inhabited
    (λ b s h. inhabited_after (common_format b.1) _
    (common_inhabited b.1 (basic_spelled 1 b s h).left)
    (λ c _ _. inhabited_after (body_format c.kind c.shape c.length) _
    (body_inhabited c.kind c.shape c.length) (λ _ _ _. tt)))

-- ---- the rows

rows_of_kind : {B : Type 0} (one five three : Bool) (shape : Shape) (n : ℕ) (g : PositionVector
    × Body → B) (w : List ℕ)
    → rows_in Truncated (after (body_format (cond one Beacon (cond five Shb (cond three Gac Gbc))) shape n)
    (λ x. ends (g x))) 12 w ≡ cond one vector_rows (cond five (shb_rows n) (area_packet_rows n))
unfolding vector_format area_format
rows_of_kind true five three shape n g w = refl
rows_of_kind false true three shape n g w = refl
rows_of_kind false false true shape n g w = refl
rows_of_kind false false false shape n g w = refl

rows_are : (w : List ℕ) → rows_in Truncated packet_format 0 w ≡ rows_of w
unfolding basic_format_of type_format common_format
rows_are w =
    ap (λ (t : List Row). common_rows ++ t)
    (rows_of_kind (eqb (big_number 1 (drop 5 w) / 16) 1) (eqb (big_number 1 (drop 5 w) / 16) 5)
    (eqb (big_number 1 (drop 5 w) / 16) 3) _ (big_number 2 (drop 8 w)) _ w)

from_start : (w : List ℕ) → Path packet_faults packet_format packet_format 0 w
from_start w = record { goes = λ v same le. refl }

pub fault_is_first : (w : List ℕ) (e : Fault) → IsBytes w → walk packet_format 0 w ≡ Err e
    → FirstFault w e
unfolding FirstFault
fault_is_first w e fits h =
    subst (λ (t : List Row). FaultAmong t 0 w e) (rows_are w)
    (faults packet_faults Truncated packet_format packet_format 0 0 w e rules (from_start w) inhabited fits (omega arith)
    (omega arith) h)

pub no_first_fault : (w : List ℕ) (x : Pdu × ℕ) (n : ℕ) (e : Fault) → IsBytes w
    → walk packet_format 0 w ≡ Ok (x, n) → FirstFault w e → ⊥
unfolding FirstFault
no_first_fault w x n e fits h f =
    faultless packet_faults Truncated packet_format packet_format 0 0 w x n e rules (from_start w) inhabited fits
    (omega arith) (omega arith) h
    (subst (λ (t : List Row). FaultAmong t 0 w e) (sym (rows_are w)) f)

pub same_first_fault : (w : List ℕ) (e d : Fault) → FirstFault w e → FirstFault w d → e ≡ d
unfolding FirstFault
same_first_fault w e d he hd = one_fault packet_faults EncodesSeen (rows_of w) 0 w e d he hd

by_reading : (w : List ℕ) (r : Result ((Pdu × ℕ) × ℕ) Fault) → walk packet_format 0 w ≡ r
    → IsBytes w → ((p : Pdu) (left : ℕ) (s rest : List ℕ) → Encodes p left s → w ≡ s ++ rest → ⊥)
    → (e : Fault) × FirstFault w e
by_reading w (Ok (x, n)) h fits no_front =
    absurd (no_front x.0 x.1 (take n w) (drop n w) (read_front w x n fits h).encodes
    (sym (take-append-drop n w)))
by_reading w (Err e) h fits no_front = (e, fault_is_first w e fits h)

pub some_first_fault : (w : List ℕ) → IsBytes w
    → ((p : Pdu) (left : ℕ) (s rest : List ℕ) → Encodes p left s → w ≡ s ++ rest → ⊥)
    → (e : Fault) × FirstFault w e
some_first_fault w fits no_front = by_reading w (walk packet_format 0 w) refl fits no_front
