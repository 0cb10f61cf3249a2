-- Frames and their faults: octets are one frame or have one fault.
use Rattle.std.proofs.Common.{◌≡◌, ◌≢◌, ℕ, ◌≤◌, ◌⊎◌, inl, inr, List, [], ◌∷◌, ◌++◌, length, drop}
use Rattle.std.proofs.Common.{get_or, Result, Ok, Err, refl, sym, ap, subst, ◌∙◌, arith, append-nil}
use Rattle.std.proofs.Common.{length-append}
use Rattle.std.proofs.lemmas.Bool.{cases_eq, cases_lt}
use Rattle.its_model.specs.Packet.{Pdu, Transmission}
use Rattle.its_faults.specs.declared.packet.Fault.{Fault}
use Rattle.its_faults.specs.declared.frame.FrameFault.{FrameFault}
use Rattle.its_faults.specs.declared.frame.FrameFault.TheVariants as faults
use Rattle.its_headers.specs.Encoding.{IsBytes, Encodes}
use Rattle.its_headers.specs.FirstFault.{FirstFault}
use Rattle.its_headers.specs.Format.{walk}
use Rattle.its_headers.specs.Layout.{packet_format}
use Rattle.its_formats.proofs.Numbers.{IsBytes-drop}
use Rattle.its_headers.proofs.Encodings.{read_front, encoding_read, one_encoding}
use Rattle.its_headers.proofs.PacketFaults.{fault_is_first, no_first_fault, same_first_fault}
use Rattle.its_linkframe.specs.Frames.{EncodesFrame, link_header}
use Rattle.its_linkframe.specs.FrameFaults.{IsFrameFault, ether_type}
use Rattle.its_linkframe.proofs.Fronts.{big_bytes-first_six, big_bytes-next_six, EncodesFrame-parts}
use Rattle.its_linkframe.proofs.Fronts.{packet_of_frame, target_of_frame, source_of_frame}
use Rattle.its_linkframe.proofs.Fronts.{frame_bounds, same_transmission, Encodes-whole, Trails-of}

pub one_frame_lem : (t u : Transmission) (w : List ℕ) → EncodesFrame t w → EncodesFrame u w → t ≡ u
one_frame_lem t u w a b =
    let packet =
    one_encoding t.pdu u.pdu t.hops_left u.hops_left (drop 14 w) (drop 14 w) [] []
    (packet_of_frame t w a) (packet_of_frame u w b) refl in
    same_transmission (record { pdu = t.pdu; left = t.hops_left }) t.link_target t.link_source u
    (ap (λ (p : Pdu). record { pdu = p; left = t.hops_left }) packet.0
    ∙ ap (λ (n : ℕ). record { pdu = u.pdu; left = n }) packet.1)
    (sym (target_of_frame t w a) ∙ target_of_frame u w b)
    (sym (source_of_frame t w a) ∙ source_of_frame u w b)

ether_type-get_or : (w : List ℕ) → 14 ≤ length w → ether_type w ≡ get_or w 12 0 ∷ get_or w 13 0 ∷ []
ether_type-get_or (a ∷ b ∷ c ∷ d ∷ e ∷ f ∷ g ∷ h ∷ i ∷ j ∷ k ∷ l ∷ m ∷ n ∷ w) le = refl
ether_type-get_or _ le = absurd (omega arith)

pub ether_type-is : (w : List ℕ) → 14 ≤ length w → get_or w 12 0 ≡ 137 → get_or w 13 0 ≡ 71
    → ether_type w ≡ 137 ∷ 71 ∷ []
ether_type-is w le high low = ether_type-get_or w le ∙ rw (high, low) refl

ether_type-frame : (t : Transmission) (w : List ℕ) → EncodesFrame t w → ether_type w ≡ 137 ∷ 71 ∷ []
unfolding link_header
ether_type-frame t w enc = ap ether_type enc.octets

-- where a packet begins, octets have no first fault
no_fault_of_packet : (w v : List ℕ) (p : Pdu) (left : ℕ) (rest : List ℕ) (f : Fault) → IsBytes w
    → Encodes p left v → w ≡ v ++ rest → FirstFault w f → ⊥
no_fault_of_packet w v p left rest f fits enc is fault =
    no_first_fault (v ++ rest) _ _ f (subst IsBytes is fits) (encoding_read p left v rest enc)
    (subst (λ (t : List ℕ). FirstFault t f) is fault)

pub no_frame_fault : (t : Transmission) (w : List ℕ) (f : FrameFault) → IsBytes w → EncodesFrame t w
    → IsFrameFault w f → ⊥
no_frame_fault t w faults.Short fits enc fault = let bounds = frame_bounds t w enc in omega arith
no_frame_fault t w faults.EtherType fits enc fault = fault.1 (ether_type-frame t w enc)
no_frame_fault t w faults.TooLong fits enc fault = let bounds = frame_bounds t w enc in omega arith
no_frame_fault t w (faults.Packet f) fits enc fault =
    no_fault_of_packet (drop 14 w) (drop 14 w) t.pdu t.hops_left [] f (IsBytes-drop 14 w fits)
    (packet_of_frame t w enc) (sym (append-nil (drop 14 w))) fault.1
no_frame_fault t w faults.Trailing fits enc fault =
    let trails = fault.1 in
    let one = one_encoding t.pdu trails.pdu t.hops_left trails.left
    (drop 14 w) trails.text [] trails.rest (packet_of_frame t w enc) trails.encodes
    (append-nil (drop 14 w) ∙ trails.is) in
    omega (
      arith,
      trails.more,
      ap length trails.is,
      ap length one.2,
      length-append trails.text trails.rest,
    )

pub one_frame_fault_lem : (w : List ℕ) (f g : FrameFault) → IsBytes w → IsFrameFault w f
    → IsFrameFault w g → f ≡ g
one_frame_fault_lem w faults.Short faults.Short fits a b = refl
one_frame_fault_lem w faults.Short faults.EtherType fits a b = absurd (omega arith)
one_frame_fault_lem w faults.Short faults.TooLong fits a b = absurd (omega arith)
one_frame_fault_lem w faults.Short (faults.Packet g) fits a b = absurd (omega arith)
one_frame_fault_lem w faults.Short faults.Trailing fits a b = absurd (omega arith)
one_frame_fault_lem w faults.EtherType faults.Short fits a b = absurd (omega arith)
one_frame_fault_lem w faults.EtherType faults.EtherType fits a b = refl
one_frame_fault_lem w faults.EtherType faults.TooLong fits a b = absurd (a.1 b.0.1)
one_frame_fault_lem w faults.EtherType (faults.Packet g) fits a b = absurd (a.1 b.0.0.1)
one_frame_fault_lem w faults.EtherType faults.Trailing fits a b = absurd (a.1 b.0.0.1)
one_frame_fault_lem w faults.TooLong faults.Short fits a b = absurd (omega arith)
one_frame_fault_lem w faults.TooLong faults.EtherType fits a b = absurd (b.1 a.0.1)
one_frame_fault_lem w faults.TooLong faults.TooLong fits a b = refl
one_frame_fault_lem w faults.TooLong (faults.Packet g) fits a b = absurd (omega arith)
one_frame_fault_lem w faults.TooLong faults.Trailing fits a b = absurd (omega arith)
one_frame_fault_lem w (faults.Packet f) faults.Short fits a b = absurd (omega arith)
one_frame_fault_lem w (faults.Packet f) faults.EtherType fits a b = absurd (b.1 a.0.0.1)
one_frame_fault_lem w (faults.Packet f) faults.TooLong fits a b = absurd (omega arith)
one_frame_fault_lem w (faults.Packet f) (faults.Packet g) fits a b =
    ap faults.Packet (same_first_fault (drop 14 w) f g a.1 b.1)
one_frame_fault_lem w (faults.Packet f) faults.Trailing fits a b =
    absurd (no_fault_of_packet (drop 14 w) b.1.text b.1.pdu b.1.left b.1.rest f
    (IsBytes-drop 14 w fits) b.1.encodes b.1.is a.1)
one_frame_fault_lem w faults.Trailing faults.Short fits a b = absurd (omega arith)
one_frame_fault_lem w faults.Trailing faults.EtherType fits a b = absurd (b.1 a.0.0.1)
one_frame_fault_lem w faults.Trailing faults.TooLong fits a b = absurd (omega arith)
one_frame_fault_lem w faults.Trailing (faults.Packet g) fits a b =
    absurd (no_fault_of_packet (drop 14 w) a.1.text a.1.pdu a.1.left a.1.rest g
    (IsBytes-drop 14 w fits) a.1.encodes a.1.is b.1)
one_frame_fault_lem w faults.Trailing faults.Trailing fits a b = refl

-- octets that are judged by their packet
by_packet : (w : List ℕ) (r : Result ((Pdu × ℕ) × ℕ) Fault) → walk packet_format 0 (drop 14 w) ≡ r
    → IsBytes w → 14 ≤ length w → get_or w 12 0 ≡ 137 → get_or w 13 0 ≡ 71 → length w ≤ 1468
    → ((t : Transmission) → EncodesFrame t w → ⊥) → (f : FrameFault) × IsFrameFault w f
by_packet w (Err e) read fits long e12 e13 short none = (
  faults.Packet e,
  (
    ((long, ether_type-get_or w long ∙ cc), short),
    fault_is_first (drop 14 w) e (IsBytes-drop 14 w fits) read,
  ),
)
by_packet w (Ok (x, n)) read fits long e12 e13 short none =
    let front = read_front (drop 14 w) x n (IsBytes-drop 14 w fits) read in
    elim (cases_lt n (length (drop 14 w))) [
      | inl more ↦ (
        faults.Trailing,
        (
          ((long, ether_type-get_or w long ∙ cc), short),
          Trails-of (drop 14 w) (record { pdu = x.0; left = x.1 }) n front.encodes more,
        ),
      )
      | inr all ↦ absurd
          (none _ (EncodesFrame-parts w (record {
            pdu = x.0;
            left = x.1;
          }) _ _ long fits e12 e13
          (Encodes-whole (drop 14 w) (drop 14 w) (record {
            pdu = x.0;
            left = x.1;
          }) n refl front.encodes all) refl (big_bytes-first_six w long fits) refl
          (big_bytes-next_six w long fits)))
    ]

-- octets of another type
other_type : (w : List ℕ) → 14 ≤ length w → (get_or w 12 0 ≢ 137) ⊎ (get_or w 13 0 ≢ 71)
    → ether_type w ≢ 137 ∷ 71 ∷ []
other_type w long other is =
    let pair : get_or w 12 0 ∷ get_or w 13 0 ∷ [] ≡ 137 ∷ 71 ∷ [] =
    sym (ether_type-get_or w long) ∙ is in
    elim other [ inl high ↦ high cc | inr low ↦ low cc ]

by_type : (w : List ℕ) → (get_or w 12 0 ≡ 137) ⊎ (get_or w 12 0 ≢ 137)
    → (get_or w 13 0 ≡ 71) ⊎ (get_or w 13 0 ≢ 71) → IsBytes w → 14 ≤ length w
    → ((t : Transmission) → EncodesFrame t w → ⊥) → (f : FrameFault) × IsFrameFault w f
by_type w (inr other) low fits long none = (faults.EtherType, (long, other_type w long (inl other)))
by_type w (inl e12) (inr other) fits long none =
    (faults.EtherType, (long, other_type w long (inr other)))
by_type w (inl e12) (inl e13) fits long none =
    elim (cases_lt 1468 (length w)) [
      | inl longer ↦ (faults.TooLong, ((long, ether_type-get_or w long ∙ cc), longer))
      | inr short ↦ by_packet w (walk packet_format 0 (drop 14 w)) refl fits long e12 e13 short none
    ]

pub some_frame_fault : (w : List ℕ) → IsBytes w → ((t : Transmission) → EncodesFrame t w → ⊥)
    → (f : FrameFault) × IsFrameFault w f
some_frame_fault w fits none =
    elim (cases_lt (length w) 14) [
      | inl short ↦ (faults.Short, short)
      | inr long ↦ by_type w (cases_eq (get_or w 12 0) 137)
          (cases_eq (get_or w 13 0) 71) fits long none
    ]
