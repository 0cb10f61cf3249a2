-- The laws of encodings and of their reading.
use Rattle.std.proofs.Common.{◌≡◌, ℕ, ◌≤◌, List, ◌++◌, length, take, drop, Result, Ok, refl, sym}
use Rattle.std.proofs.Common.{ap, subst, ◌∙◌, arith, zero-add}
use Rattle.std.proofs.lemmas.List.{take_at}
use Rattle.its_faults.specs.declared.packet.Fault.{Fault}
use Rattle.its_model.specs.Packet.{Pdu}
use Rattle.its_headers.specs.Encoding.{IsBytes, Encodes}
use Rattle.its_headers.specs.Format.{walk}
use Rattle.its_headers.specs.Layout.{packet_format}
use Rattle.its_formats.specs.Spells.{Spells}
use Rattle.its_formats.proofs.Found.{found, again, ok_is}
use Rattle.its_headers.proofs.Packets.{packet_spelled, spells_packet}
use Rattle.its_headers.specs.Format.{packet_faults}

-- what is read is the encoding
pub record Front (p : Pdu) (left n : ℕ) (w : List ℕ) : Type 0 where
  pub inside : n ≤ length w
  pub encodes : Encodes p left (take n w)

pub read_front : (w : List ℕ) (x : Pdu × ℕ) (n : ℕ) → IsBytes w → walk packet_format 0 w ≡ Ok (x, n)
    → Front x.0 x.1 n w
read_front w x n fits e =
    let f = found packet_faults packet_format x 0 w n fits e in
    let size : length f.text ≡ n = omega (arith, f.size) in
    let front : take n w ≡ f.text = ap (take n) f.parts ∙ take_at f.text (drop n w) n size in
    record {
      inside = f.inside (omega arith);
      encodes = subst (Encodes x.0 x.1) (sym front) (packet_spelled x f.text f.spells);
    }

abbrev readings : Pdu × ℕ → ℕ → Result ((Pdu × ℕ) × ℕ) Fault
readings x n = Ok (x, n)

-- what is the encoding of a packet is read, whatever follows
pub encoding_read : (p : Pdu) (left : ℕ) (s rest : List ℕ) → Encodes p left s
    → walk packet_format 0 (s ++ rest) ≡ Ok ((p, left), length s)
encoding_read p left s rest e =
    let h = subst (λ (t : List ℕ). Spells packet_format (p, left) t) (sym e.octets)
    (spells_packet p left e.fields) in
    again packet_faults packet_format (p, left) 0 (s ++ rest) s rest h refl (omega arith)
    ∙ ap (λ (t : ℕ). readings (p, left) t) (zero-add (length s))

-- no encoding begins another, and each is of one packet with one number of hops left
pub one_encoding : (p q : Pdu) (l m : ℕ) (a b x y : List ℕ) → Encodes p l a → Encodes q m b
    → a ++ x ≡ b ++ y → (p ≡ q) × (l ≡ m) × (a ≡ b)
one_encoding p q l m a b x y ha hb e =
    let ra = encoding_read p l a x ha in
    let rb = encoding_read q m b y hb in
    let both = ok_is ((p, l), length a) (
      (q, m),
      length b,
    ) (sym ra ∙ ap (walk packet_format 0) e ∙ rb) in
    let size : length a ≡ length b = ap (λ (t : (Pdu × ℕ) × ℕ). t.1) both in
    let same : a ≡ b =
    sym (take_at a x (length a) refl) ∙ ap (take (length a)) e
    ∙ take_at b y (length a) (sym size) in
    (ap (λ (t : (Pdu × ℕ) × ℕ). t.0.0) both, ap (λ (t : (Pdu × ℕ) × ℕ). t.0.1) both, same)
