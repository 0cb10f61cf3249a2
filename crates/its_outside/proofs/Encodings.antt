-- The laws of encodings and of their reading.
use Rattle.std.proofs.Common.{◌≡◌, ℕ, ◌≤◌, List, ◌++◌, length, take, drop, Result, Ok, Err, refl}
use Rattle.std.proofs.Common.{sym, ap, subst, ◌∙◌, arith, zero-add}
use Rattle.std.proofs.lemmas.List.{take_at}
use Rattle.its_faults.specs.declared.packet.Fault.{Fault}
use Rattle.its_formats.specs.Bytes.{IsBytes}
use Rattle.its_headers.specs.Format.{packet_faults, walk}
use Rattle.its_formats.specs.Spells.{Spells}
use Rattle.its_formats.proofs.Found.{found, again, ok_is}
use Rattle.its_outside.specs.Encoding.{Standard, Encodes}
use Rattle.its_outside.specs.Layout.{standard_format}
use Rattle.its_outside.proofs.Packets.{packet_spelled, spells_packet}

-- what is read is the encoding
pub record Front (p : Standard) (n : ℕ) (w : List ℕ) : Type 0 where
  pub inside : n ≤ length w
  pub encodes : Encodes p (take n w)

pub read_front : (w : List ℕ) (x : Standard) (n : ℕ) → IsBytes w
    → walk standard_format 0 w ≡ Ok (x, n) → Front x n w
read_front w x n fits e =
    let f = found packet_faults standard_format x 0 w n fits e in
    let size : length f.text ≡ n = omega (arith, f.size) in
    let front : take n w ≡ f.text = ap (take n) f.parts ∙ take_at f.text (drop n w) n size in
    record {
      inside = f.inside (omega arith);
      encodes = subst (Encodes x) (sym front) (packet_spelled x f.text f.spells);
    }

abbrev readings : Standard → ℕ → Result (Standard × ℕ) Fault
readings x n = Ok (x, n)

-- what is the encoding of a packet is read, whatever follows
pub encoding_read : (p : Standard) (s rest : List ℕ) → Encodes p s
    → walk standard_format 0 (s ++ rest) ≡ Ok (p, length s)
encoding_read p s rest e =
    let h = subst (λ (t : List ℕ). Spells standard_format p t) (sym e.octets)
    (spells_packet p e.fields) in
    again packet_faults standard_format p 0 (s ++ rest) s rest h refl (omega arith)
    ∙ ap (λ (t : ℕ). readings p t) (zero-add (length s))

-- no encoding begins another, and each is of one packet
pub one_encoding : (p q : Standard) (a b x y : List ℕ) → Encodes p a → Encodes q b → a ++ x ≡ b ++ y
    → (p ≡ q) × (a ≡ b)
one_encoding p q a b x y ha hb e =
    let ra = encoding_read p a x ha in
    let rb = encoding_read q b y hb in
    let both = ok_is (p, length a) (q, length b) (sym ra ∙ ap (walk standard_format 0) e ∙ rb) in
    let size : length a ≡ length b = ap (λ (t : Standard × ℕ). t.1) both in
    let same : a ≡ b =
    sym (take_at a x (length a) refl) ∙ ap (take (length a)) e
    ∙ take_at b y (length a) (sym size) in
    (ap (λ (t : Standard × ℕ). t.0) both, same)

abbrev no_reading : Fault → Result (Standard × ℕ) Fault
no_reading e = Err e

not_read : (e : Fault) (x : Standard × ℕ) → no_reading e ≡ Ok x → ⊥
not_read e x h = cc

pub no_packet : (w : List ℕ) (e : Fault) (p : Standard) (s rest : List ℕ)
    → walk standard_format 0 w ≡ Err e → Encodes p s → w ≡ s ++ rest → ⊥
no_packet w e p s rest h enc is =
    not_read e (p, length s) (sym h ∙ ap (walk standard_format 0) is ∙ encoding_read p s rest enc)

pub only_reading : (w : List ℕ) (x : Standard) (n : ℕ) (p : Standard) (s rest : List ℕ)
    → walk standard_format 0 w ≡ Ok (x, n) → Encodes p s → w ≡ s ++ rest
    → (x ≡ p) × (n ≡ length s)
only_reading w x n p s rest e enc is =
    let both = ok_is (x, n) (
      p,
      length s,
    ) (sym e ∙ ap (walk standard_format 0) is ∙ encoding_read p s rest enc) in
    (ap (λ (t : Standard × ℕ). t.0) both, ap (λ (t : Standard × ℕ). t.1) both)
