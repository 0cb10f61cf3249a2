-- What a view of octets says.
use Rattle.std.proofs.Common.{◌≡◌, ℕ, List, [], ◌++◌, length, take, drop, Result, Ok, Err, sym, ap}
use Rattle.std.proofs.Common.{subst, ◌∙◌}
use Rattle.std.proofs.lemmas.List.{append-nil, take-append-drop}
use Rattle.its_faults.specs.declared.packet.Fault.{Fault}
use Rattle.std.specs.Prelude.{OnErr}
use Rattle.its_model.specs.Packet.{Pdu}
use Rattle.its_headers.specs.Encoding.{IsBytes, Encodes}
use Rattle.its_headers.specs.Decoding.{HasPayload, BeginsWithPayload}
use Rattle.its_formats.specs.Format.{end_of}
use Rattle.its_headers.specs.Format.{walk}
use Rattle.its_headers.specs.Layout.{packet_format}
use Rattle.its_headers.specs.Seen.{Seen, seen, seen_of, IsEncoding}
use Rattle.its_formats.proofs.Found.{ok_is}
use Rattle.its_headers.proofs.Encodings.{read_front, encoding_read}

-- ---- what ends somewhere was read, and what doesn't has the fault

abbrev ends_at : ℕ → Result ℕ Fault
ends_at n = Ok n

abbrev ends_by : Fault → Result ℕ Fault
ends_by e = Err e

same_end : (n m : ℕ) → ends_at n ≡ ends_at m → n ≡ m
same_end n m h = cc

same_fault : (e d : Fault) → ends_by e ≡ ends_by d → e ≡ d
same_fault e d h = cc

abbrev ended : {A : Type 0} → A → ℕ → Result (A × ℕ) Fault
ended x n = Ok (x, n)

pub read_to : {A : Type 0} (r : Result (A × ℕ) Fault) (n : ℕ) → ends_at n ≡ end_of r
    → (x : A) × (r ≡ Ok (x, n))
read_to (Ok (x, m)) n h = (x, ap (λ (t : ℕ). ended x t) (sym (same_end n m h)))
read_to (Err e) n h = absurd cc

pub not_read_by : {A : Type 0} (r : Result (A × ℕ) Fault) (e : Fault) → ends_by e ≡ end_of r
    → r ≡ Err e
not_read_by (Ok (x, m)) e h = absurd cc
not_read_by {A = A} (Err d) e h = let fails : Fault → Result (A × ℕ) Fault = λ f. Err f in
    ap fails (sym (same_fault e d h))

-- ---- views

pub seen-encoding : (p : Pdu) (left : ℕ) (w : List ℕ) → Encodes p left w
    → seen_of w ≡ record { pdu = p; left = left }
unfolding seen_of
seen-encoding p left w e =
    ap seen (sym (ap (walk packet_format 0) (append-nil w)) ∙ encoding_read p left w [] e)

pub is_encoding : (p : Pdu) (left : ℕ) (w : List ℕ) → Encodes p left w → IsEncoding w
is_encoding p left w e =
    subst (λ (s : Seen). Encodes s.pdu s.left w) (sym (seen-encoding p left w e)) e

-- octets are an encoding of one packet
pub only_seen : (s : Seen) (p : Pdu) (left : ℕ) (w : List ℕ) → Encodes s.pdu s.left w
    → Encodes p left w → s ≡ record { pdu = p; left = left }
only_seen s p left w e enc = sym (seen-encoding s.pdu s.left w e) ∙ seen-encoding p left w enc

-- what was read at the front
pub front_is : (w : List ℕ) (x : Pdu × ℕ) (n : ℕ) → IsBytes w → walk packet_format 0 w ≡ Ok (x, n)
    → IsEncoding (take n w)
front_is w x n fits e = is_encoding x.0 x.1 (take n w) (read_front w x n fits e).encodes

pub only_reading : (w : List ℕ) (x : Pdu × ℕ) (n : ℕ) (p : Pdu) (left : ℕ) (s rest : List ℕ)
    → walk packet_format 0 w ≡ Ok (x, n) → Encodes p left s → w ≡ s ++ rest
    → ((p, left) ≡ x) × (length s ≡ n)
only_reading w x n p left s rest e enc is =
    let both = ok_is ((p, left), length s) (
      x,
      n,
    ) (sym (encoding_read p left s rest enc) ∙ ap (walk packet_format 0) (sym is) ∙ e) in
    (ap (λ (t : (Pdu × ℕ) × ℕ). t.0) both, ap (λ (t : (Pdu × ℕ) × ℕ). t.1) both)

pub only_view : (w : List ℕ) (x : Pdu × ℕ) (n : ℕ) (p : Pdu) (left : ℕ) (s rest : List ℕ)
    → IsBytes w → walk packet_format 0 w ≡ Ok (x, n) → Encodes p left s → w ≡ s ++ rest
    → (seen_of (take n w) ≡ record { pdu = p; left = left }) × (n ≡ length s)
only_view w x n p left s rest fits e enc is =
    let o = only_reading w x n p left s rest e enc is in (
      seen-encoding x.0 x.1 (take n w) (read_front w x n fits e).encodes
          ∙ ap (λ (t : Pdu × ℕ). let z : Seen = record { pdu = t.0; left = t.1 } in z) (sym o.0),
      sym o.1,
    )

abbrev no_reading : Fault → Result ((Pdu × ℕ) × ℕ) Fault
no_reading e = Err e

not_read : (e : Fault) (x : (Pdu × ℕ) × ℕ) → no_reading e ≡ Ok x → ⊥
not_read e x h = cc

pub no_packet : (w : List ℕ) (e : Fault) (p : Pdu) (left : ℕ) (s rest : List ℕ)
    → walk packet_format 0 w ≡ Err e → Encodes p left s → w ≡ s ++ rest → ⊥
no_packet w e p left s rest h enc is =
    not_read e (
      (p, left),
      length s,
    ) (sym h ∙ ap (walk packet_format 0) is ∙ encoding_read p left s rest enc)

pub encoding_walk : (w : List ℕ) → IsEncoding w
    → walk packet_format 0 w ≡ Ok (((seen_of w).pdu, (seen_of w).left), length w)
encoding_walk w e =
    sym (ap (walk packet_format 0) (append-nil w))
    ∙ encoding_read (seen_of w).pdu (seen_of w).left w [] e

pub same_reading : (w : List ℕ) (x : Pdu × ℕ) (n : ℕ) → IsEncoding w
    → walk packet_format 0 w ≡ Ok (x, n) → (x.0 ≡ (seen_of w).pdu) × (x.1 ≡ (seen_of w).left)
same_reading w x n e h =
    let both = ok_is (x, n) (
      ((seen_of w).pdu, (seen_of w).left),
      length w,
    ) (sym h ∙ encoding_walk w e) in
    (ap (λ (t : (Pdu × ℕ) × ℕ). t.0.0) both, ap (λ (t : (Pdu × ℕ) × ℕ). t.0.1) both)

pub always_read : (w : List ℕ) (e : Fault) → IsEncoding w → walk packet_format 0 w ≡ Err e → ⊥
always_read w e enc h =
    not_read e (((seen_of w).pdu, (seen_of w).left), length w) (sym h ∙ encoding_walk w enc)

pub begins_with_payload : (s : Seen) (n : ℕ) (w : List ℕ) → Encodes s.pdu s.left (take n w)
    → HasPayload s.pdu.body → BeginsWithPayload w
begins_with_payload s n w e h =
    record {
      pdu = s.pdu;
      left = s.left;
      encoded = take n w;
      rest = drop n w;
      encodes = e;
      is = sym (take-append-drop n w);
      has = h;
    }

pub on_err : {T E P : Type 0} (r : Result T E) → P → OnErr r P
on_err (Ok x) h = tt
on_err (Err e) h = h
