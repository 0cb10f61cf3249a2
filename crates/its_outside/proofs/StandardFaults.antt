-- The fault that the reading of a packet meets is the first one.
use Rattle.std.proofs.Common.{◌≡◌, ℕ, ◌+◌, ◌*◌, ◌/◌, ◌%◌, ◌^◌, ◌<◌, List, [], ◌∷◌, ◌++◌, take, drop}
use Rattle.std.proofs.Common.{Bool, true, false, cond, eqb, Result, Ok, Err, refl, sym, ap, subst}
use Rattle.std.proofs.Common.{arith}
use Rattle.std.proofs.lemmas.List.{take-append-drop}
use Rattle.byteorder.specs.Endian.{big_number, big_bytes}
use Rattle.its_faults.specs.declared.packet.Fault.{Fault}
use Rattle.its_faults.specs.declared.packet.FaultKind.TheVariants.{Truncated}
use Rattle.its_geometry.specs.declared.area.Shape.{Shape}
use Rattle.its_formats.specs.Bytes.{IsBytes}
use Rattle.its_formats.specs.FirstFault.{whole}
use Rattle.its_headers.specs.FirstFault.{Row}
use Rattle.its_formats.specs.Format.{ends, number, halves, octets, after}
use Rattle.its_headers.specs.Format.{Format, packet_faults, walk}
use Rattle.its_headers.specs.Layout.{any}
use Rattle.its_formats.specs.Spells.{Spells}
use Rattle.its_outside.specs.declared.kind.StandardKind.{StandardKind}
use Rattle.its_outside.specs.declared.kind.StandardKind.TheVariants as kinds
use Rattle.its_outside.specs.declared.fields.LongVector.{LongVector}
use Rattle.its_outside.specs.declared.fields.Sequence.{Sequence}
use Rattle.its_outside.specs.declared.fields.ExtendedFields.{ExtendedFields}
use Rattle.its_outside.specs.declared.fields.ExtendedFields.TheVariants as extended
use Rattle.its_outside.specs.Encoding.{Standard, Encodes}
use Rattle.its_outside.specs.Layout.{basic_format, types_format, common_format, long_format}
use Rattle.its_outside.specs.Layout.{short_format, sequence_format, area_format, address_format}
use Rattle.its_outside.specs.Layout.{numbered_format, extended_format, standard_format}
use Rattle.its_outside.specs.Layout.{is_subtype, is_length}
use Rattle.its_outside.specs.StandardFault.{common_rows, long_rows, short_rows, area_rows}
use Rattle.its_outside.specs.StandardFault.{numbered_rows, standard_rows}
use Rattle.its_outside.specs.StandardFault.{FaultAmong, StandardFault}
use Rattle.its_outside.proofs.Encodings.{read_front, encoding_read}
use Rattle.its_formats.proofs.FirstFaults.{IsInhabited, inhabited_after, Rules, Path, rows_in}
use Rattle.its_formats.proofs.FirstFaults.{faults, faultless, one_fault}
use Rattle.its_outside.proofs.Spelled.{basic_spelled}

rules : Rules packet_faults Encodes standard_format
rules = record { sound = encoding_read; full = λ w x n fits e. (read_front w x n fits e).encodes }

-- a number that is never wrong is 0
zero_fits : (n : ℕ) → 0 < 256 ^ n → (v : ℕ) × (v < 256 ^ n) × (any v ≡ true)
zero_fits n h = (0, h, refl)

basic_inhabited : IsInhabited basic_format
unfolding basic_format
basic_inhabited = (
  (1, omega arith, refl),
  λ _ _ _. (
    (1, omega arith, refl),
    λ _ _ _. (
      (0, omega arith, refl),
      λ _ _ _. ((0, omega arith, refl), λ _ _ _. ((0, omega arith, refl), λ _ _ _. tt)),
    ),
  ),
)

a_subtype : (t : ℕ) → is_subtype t 0 ≡ true
a_subtype t = grind arith

a_length : (t : ℕ) → is_length t 0 ≡ true
a_length t = grind arith

common_inhabited : (left : ℕ) → left < 256 → IsInhabited (common_format left)
unfolding types_format
common_inhabited left lt = (
  (0, omega arith, refl),
  λ n _ _. (
    (0, omega arith, refl),
    λ _ _ _. (
      (1, omega arith, refl),
      λ t _ _. (
        (0, omega arith, a_subtype t),
        λ _ _ _. (
          (0, omega arith, refl),
          λ _ _ _. (
            (0, omega arith, refl),
            λ _ _ _. (
              (0, omega arith, a_length t),
              λ _ _ _. (
                (255, omega arith, grind arith),
                λ _ _ _. ((0, omega arith, refl), λ _ _ _. tt),
              ),
            ),
          ),
        ),
      ),
    ),
  ),
)

long_inhabited : IsInhabited long_format
unfolding long_format
long_inhabited = (
  (0, omega arith, refl),
  λ _ _ _. (
    (0, omega arith, refl),
    λ _ _ _. (
      (0, omega arith, refl),
      λ _ _ _. (
        (0, omega arith, refl),
        λ _ _ _. ((0, omega arith, refl), λ _ _ _. ((0, omega arith, refl), λ _ _ _. tt)),
      ),
    ),
  ),
)

short_inhabited : IsInhabited short_format
unfolding short_format
short_inhabited = (
  (0, omega arith, refl),
  λ _ _ _. (
    (0, omega arith, refl),
    λ _ _ _. ((0, omega arith, refl), λ _ _ _. ((0, omega arith, refl), λ _ _ _. tt)),
  ),
)

sequence_inhabited : IsInhabited sequence_format
unfolding sequence_format
sequence_inhabited = ((0, omega arith, refl), λ _ _ _. ((0, omega arith, refl), λ _ _ _. tt))

area_inhabited : (shape : Shape) → IsInhabited (area_format shape)
unfolding area_format
area_inhabited shape = (
  (0, omega arith, refl),
  λ _ _ _. (
    (0, omega arith, refl),
    λ _ _ _. (
      (0, omega arith, refl),
      λ _ _ _. (
        (0, omega arith, refl),
        λ _ _ _. ((0, omega arith, refl), λ _ _ _. ((0, omega arith, refl), λ _ _ _. tt)),
      ),
    ),
  ),
)

address_inhabited : IsInhabited address_format
address_inhabited = ((0, omega arith, refl), λ _ _ _. tt)

numbered_inhabited : {A : Type 0} (rest : Format A) (made : Sequence → A → ExtendedFields)
    → IsInhabited rest → IsInhabited (numbered_format rest made)
numbered_inhabited rest made h =
    inhabited_after sequence_format _ sequence_inhabited
    (λ _ _ _. inhabited_after long_format _ long_inhabited
    (λ _ _ _. inhabited_after rest _ h (λ _ _ _. tt)))

extended_inhabited : (k : StandardKind) (shape : Shape) → IsInhabited (extended_format k shape)
extended_inhabited kinds.Beacon shape =
    inhabited_after long_format _ long_inhabited (λ _ _ _. tt)
extended_inhabited kinds.Guc shape = numbered_inhabited short_format extended.Guc short_inhabited
extended_inhabited kinds.Gac shape =
    numbered_inhabited (area_format shape) extended.Gac (area_inhabited shape)
extended_inhabited kinds.Gbc shape =
    numbered_inhabited (area_format shape) extended.Gbc (area_inhabited shape)
extended_inhabited kinds.Shb shape =
    inhabited_after long_format _ long_inhabited
    (λ _ _ _. ((0, omega arith, refl), λ _ _ _. tt))
extended_inhabited kinds.Tsb shape =
    inhabited_after sequence_format _ sequence_inhabited
    (λ _ _ _. inhabited_after long_format _ long_inhabited (λ _ _ _. tt))
extended_inhabited kinds.LsRequest shape =
    numbered_inhabited address_format extended.LsRequest address_inhabited
extended_inhabited kinds.LsReply shape =
    numbered_inhabited short_format extended.LsReply short_inhabited

inhabited : IsInhabited standard_format
inhabited =
    inhabited_after basic_format _ basic_inhabited
    (λ b s h. inhabited_after (common_format b.left) _
    (common_inhabited b.left (basic_spelled b s h).0.left)
    (λ c _ _. inhabited_after (extended_format c.kind c.shape) _
    (extended_inhabited c.kind c.shape) (λ _ _ _. λ _ _ _. tt)))

-- ---- the rows

rows_of_kind : (one two three four five none : Bool) (shape : Shape) (n : ℕ) (g : LongVector
    × ExtendedFields → List ℕ → Standard) (w : List ℕ)
    → rows_in Truncated (after (extended_format (cond one kinds.Beacon
    (cond two kinds.Guc (cond three kinds.Gac
    (cond four kinds.Gbc (cond five (cond none kinds.Shb kinds.Tsb)
    (cond none kinds.LsRequest kinds.LsReply)))))) shape)
    (λ x. octets n λ payload. ends (g x payload))) 12 w
    ≡ cond one long_rows
    (cond two (numbered_rows ++ short_rows) (cond three (numbered_rows ++ area_rows)
    (cond four (numbered_rows ++ area_rows)
    (cond five (cond none (long_rows ++ whole 4 Truncated ∷ []) numbered_rows)
    (cond none (numbered_rows ++ whole 8 Truncated ∷ []) (numbered_rows ++ short_rows))))))
    ++ whole n Truncated ∷ []
unfolding long_format short_format sequence_format area_format
rows_of_kind true two three four five none shape n g w = refl
rows_of_kind false true three four five none shape n g w = refl
rows_of_kind false false true four five none shape n g w = refl
rows_of_kind false false false true five none shape n g w = refl
rows_of_kind false false false false true true shape n g w = refl
rows_of_kind false false false false true false shape n g w = refl
rows_of_kind false false false false false true shape n g w = refl
rows_of_kind false false false false false false shape n g w = refl

rows_are : (w : List ℕ) → rows_in Truncated standard_format 0 w ≡ standard_rows w
unfolding basic_format types_format
rows_are w =
    let t = big_number 1 (drop 5 w) / 16 in
    ap (λ (x : List Row). common_rows ++ x)
    (rows_of_kind (eqb t 1) (eqb t 2) (eqb t 3) (eqb t 4) (eqb t 5)
    (eqb (big_number 1 (drop 5 w) % 16) 0) _ (big_number 2 (drop 8 w)) _ w)

from_start : (w : List ℕ) → Path packet_faults standard_format standard_format 0 w
from_start w = record { goes = λ v same le. refl }

pub fault_is_first : (w : List ℕ) (e : Fault) → IsBytes w → walk standard_format 0 w ≡ Err e
    → StandardFault w e
unfolding StandardFault
fault_is_first w e fits h =
    subst (λ (t : List Row). FaultAmong t 0 w e) (rows_are w)
    (faults packet_faults Truncated standard_format standard_format 0 0 w e rules (from_start w) inhabited fits
    (omega arith) (omega arith) h)

pub no_first_fault : (w : List ℕ) (x : Standard) (n : ℕ) (e : Fault) → IsBytes w
    → walk standard_format 0 w ≡ Ok (x, n) → StandardFault w e → ⊥
unfolding StandardFault
no_first_fault w x n e fits h f =
    faultless packet_faults Truncated standard_format standard_format 0 0 w x n e rules (from_start w) inhabited fits
    (omega arith) (omega arith) h
    (subst (λ (t : List Row). FaultAmong t 0 w e) (sym (rows_are w)) f)

pub same_first_fault : (w : List ℕ) (e d : Fault) → StandardFault w e → StandardFault w d → e ≡ d
unfolding StandardFault
same_first_fault w e d he hd = one_fault packet_faults Encodes (standard_rows w) 0 w e d he hd

by_reading : (w : List ℕ) (r : Result (Standard × ℕ) Fault) → walk standard_format 0 w ≡ r
    → IsBytes w → ((p : Standard) (s rest : List ℕ) → Encodes p s → w ≡ s ++ rest → ⊥)
    → (e : Fault) × StandardFault w e
by_reading w (Ok (x, n)) h fits no_front =
    absurd (no_front x (take n w) (drop n w) (read_front w x n fits h).encodes
    (sym (take-append-drop n w)))
by_reading w (Err e) h fits no_front = (e, fault_is_first w e fits h)

pub some_first_fault : (w : List ℕ) → IsBytes w
    → ((p : Standard) (s rest : List ℕ) → Encodes p s → w ≡ s ++ rest → ⊥)
    → (e : Fault) × StandardFault w e
some_first_fault w fits no_front = by_reading w (walk standard_format 0 w) refl fits no_front
