-- The moment and length in front of a frame.
use Rattle.std.proofs.Common.{◌≡◌, ℕ, ◌+◌, ◌^◌, ◌<◌, ◌≤◌, inr, List, ◌++◌, length, take, drop}
use Rattle.std.proofs.Common.{Option, None, Some, IfSome, refl, sym, ap, subst, ◌∙◌, arith}
use Rattle.std.proofs.Common.{length-append, length-drop, take-append-drop, append-nil}
use Rattle.std.proofs.lemmas.List.{take_all}
use Rattle.std.specs.Io.KnownBytes.{Consumes}
use Rattle.byteorder.specs.Endian.{big_bytes, big_number}
use Rattle.byteorder.specs.Numbers.{big_number-reads_back}
use Rattle.its_headers.specs.Encoding.{IsBytes}
use Rattle.its_linkframe.specs.Captures.{head_octets, announced_length, AnnouncesFrame}
use Rattle.its_linkframe.specs.Captures.{AnnouncesNoFrame, EndsInRecord, IsFrameLength}
use Rattle.its_linkframe.specs.Reading.{ConsumesHead, IsReadFault, IsCutShort}
use Rattle.its_linkframe.specs.declared.record.CaptureFault.{CaptureFault}
use Rattle.its_linkframe.specs.declared.record.CaptureFault.TheVariants as faults
use Rattle.std.proofs.KnownBytes.{Consumes-trans}
use Rattle.its_formats.proofs.Numbers.{big_bytes-big_number, IsBytes-drop}

pub length-head_octets : (m n : ℕ) → length (head_octets m n) ≡ 10
unfolding head_octets
length-head_octets m n = refl

-- ten octets are the head that the numbers in them make
pub head_octets-numbers : (w : List ℕ) (m n : ℕ) → length w ≡ 10 → IsBytes w → m ≡ big_number 8 w
    → n ≡ big_number 2 (take 2 (drop 8 w)) → w ≡ head_octets m n
unfolding head_octets
head_octets-numbers w m n ten fits em en =
    let short : take 2 (drop 8 w) ≡ drop 8 w =
    take_all 2 (drop 8 w) (omega (arith, length-drop 8 w)) in
    let first : big_bytes 8 (big_number 8 w) ≡ take 8 w =
    big_bytes-big_number 8 w (omega arith) fits in
    let last : big_bytes 2 (big_number 2 (drop 8 w)) ≡ drop 8 w =
    big_bytes-big_number 2 (drop 8 w) (omega (arith, length-drop 8 w)) (IsBytes-drop 8 w fits)
    ∙ short in
    let size : n ≡ big_number 2 (drop 8 w) = en ∙ ap (big_number 2) short in
    sym (take-append-drop 8 w)
    ∙ ap (λ (t : List ℕ). t ++ drop 8 w) (sym first)
    ∙ ap (λ (t : List ℕ). big_bytes 8 (big_number 8 w) ++ t) (sym last)
    ∙ ap (λ (t : ℕ). big_bytes 8 t ++ big_bytes 2 (big_number 2 (drop 8 w))) (sym em)
    ∙ ap (λ (t : ℕ). big_bytes 8 m ++ big_bytes 2 t) (sym size)

-- a record announces the length that its head was made of
pub announced_length-head_octets : (m n : ℕ) (w : List ℕ) → n < 2 ^ 16
    → announced_length (head_octets m n ++ w) ≡ n
unfolding head_octets
announced_length-head_octets m n w lt = big_number-reads_back 2 n w lt

-- a fault of a length that stands there whole takes the head and nothing after it
pub ConsumesHead-head_octets : (old new : Option (List ℕ)) (m n : ℕ)
    → Consumes old new (head_octets m n) → ConsumesHead old new
ConsumesHead-head_octets old new m n gone = (head_octets m n, length-head_octets m n, gone)

pub AnnouncesNoFrame-head_octets : (old new : Option (List ℕ)) (m n : ℕ) → n < 2 ^ 16
    → ¬ IsFrameLength n → Consumes old new (head_octets m n) → IfSome old AnnouncesNoFrame
AnnouncesNoFrame-head_octets None new m n lt wrong gone = tt
AnnouncesNoFrame-head_octets (Some w) None m n lt wrong gone = absurd gone
AnnouncesNoFrame-head_octets (Some w) (Some v) m n lt wrong gone =
    let long : 10 ≤ length (head_octets m n ++ v) =
    omega (arith, length-append (head_octets m n) v, length-head_octets m n) in
    subst AnnouncesNoFrame (sym gone) (
      long,
      λ is. wrong (subst IsFrameLength (announced_length-head_octets m n v lt) is),
    )

pub AnnouncesFrame-head_octets : (old new : Option (List ℕ)) (m n : ℕ) → IsFrameLength n
    → Consumes old new (head_octets m n) → IfSome old AnnouncesFrame
AnnouncesFrame-head_octets None new m n is gone = tt
AnnouncesFrame-head_octets (Some w) None m n is gone = absurd gone
AnnouncesFrame-head_octets (Some w) (Some v) m n is gone =
    let long : 10 ≤ length (head_octets m n ++ v) =
    omega (arith, length-append (head_octets m n) v, length-head_octets m n) in
    subst AnnouncesFrame (sym gone) (
      long,
      subst IsFrameLength (sym (announced_length-head_octets m n v (omega arith))) is,
    )

-- the octets end in a frame whose head was read
EndsInRecord-head_octets : (old mid : Option (List ℕ)) (m n : ℕ) → IsFrameLength n
    → Consumes old mid (head_octets m n) → IfSome mid (λ w. length w < n) → IfSome old EndsInRecord
EndsInRecord-head_octets None mid m n is gone short = tt
EndsInRecord-head_octets (Some w) None m n is gone short = absurd gone
EndsInRecord-head_octets (Some w) (Some v) m n is gone short =
    let long : length (head_octets m n ++ v) ≡ 10 + length v =
    length-append (head_octets m n) v ∙ ap (λ (t : ℕ). t + length v) (length-head_octets m n) in
    let size = announced_length-head_octets m n v (omega arith) in
    subst EndsInRecord (sym gone) (
      omega arith,
      inr ((omega arith, subst IsFrameLength (sym size) is), omega (arith, size)),
    )

-- a fault in a frame, after its head, is a fault of the record
pub IsReadFault-after_head : (old mid new : Option (List ℕ)) (m n : ℕ) (fault : CaptureFault)
    → IsFrameLength n → Consumes old mid (head_octets m n) → IsCutShort n mid new fault
    → IsReadFault old new fault
IsReadFault-after_head old mid new m n faults.CutRecord is gone cut = (
  EndsInRecord-head_octets old mid m n is gone cut.0,
  (head_octets m n ++ cut.1.0, Consumes-trans old mid new _ _ gone cut.1.1),
  cut.2,
)
IsReadFault-after_head old mid new m n faults.Length is gone cut = absurd cut
IsReadFault-after_head old mid new m n faults.Io is gone cut =
    (head_octets m n ++ cut.0, Consumes-trans old mid new _ _ gone cut.1)
IsReadFault-after_head old mid new m n faults.NoMemory is gone cut =
    let same = subst (Consumes old new) (append-nil (head_octets m n))
    (Consumes-trans old mid new _ _ gone cut) in
    (AnnouncesFrame-head_octets old new m n is same, ConsumesHead-head_octets old new m n same)
IsReadFault-after_head old mid new m n faults.Failed is gone cut = absurd cut

-- ten octets that were read are the head that they are made of
pub Consumes-head_octets : (old new : Option (List ℕ)) (k m n : ℕ) (buf : List ℕ)
    → buf ≡ head_octets m n → 10 ≤ k → Consumes old new (take k buf)
    → Consumes old new (head_octets m n)
Consumes-head_octets old new k m n buf is long gone =
    let size : length buf ≤ k = omega (arith, ap length is, length-head_octets m n) in
    subst (Consumes old new) (take_all k buf size ∙ is) gone
