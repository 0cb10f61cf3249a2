-- A record of a pcap file, part by part.
use Rattle.std.proofs.Common.{◌≡◌, ℕ, ◌+◌, ◌<◌, ◌≤◌, inl, inr, List, ◌++◌}
use Rattle.std.proofs.Common.{length, take, drop}
use Rattle.std.proofs.Common.{min, Option, None, Some, sym, ap, subst, ◌∙◌, arith}
use Rattle.std.proofs.Common.{append_assoc, append-nil, length-append}
use Rattle.std.proofs.lemmas.List.{take_all, take-append-le}
use Rattle.std.proofs.Math.Seq.{drop-append_seam}
use Rattle.std.proofs.KnownBytes.{Consumes-trans}
use Rattle.std.specs.Io.KnownBytes.{Consumes, IsAtEnd}
use Rattle.its_linkframe.specs.declared.record.CaptureFault.TheVariants as captures
use Rattle.cap_pcap.specs.declared.fault.SourceFault.{SourceFault}
use Rattle.cap_pcap.specs.declared.fault.SourceFault.TheVariants as faults
use Rattle.cap_pcap.specs.declared.pcap.FileHeader.{FileHeader}
use Rattle.cap_pcap.specs.declared.pcap.Magic.{Magic}
use Rattle.cap_pcap.specs.declared.pcap.TheConstants.{LONGEST_CAPTURED}
use Rattle.cap_pcap.specs.declared.record.RecordHeader.{RecordHeader}
use Rattle.cap_pcap.specs.Octets.{number_in}
use Rattle.cap_pcap.specs.Reading.{IsCutShort, IsFrameFault, EndsWhere}
use Rattle.cap_pcap.specs.Pcap.{captured_of, moment_of, fine_of, AnnouncesRecord, EndsInRecord}
use Rattle.cap_pcap.specs.Pcap.{IsRecordFault, HasRecord}
use Rattle.cap_pcap.proofs.Cuts.{ConsumesPrefix-after}
use Rattle.cap_pcap.proofs.Parts.{IfSome-of, EndsWhere-after, number_in-front, number_in-behind}

-- a whole buffer that was filled
pub Consumes-filled : (a b : Option (List ℕ)) (n : ℕ) (buf : List ℕ) → length buf ≤ n
    → Consumes a b (take n buf) → Consumes a b buf
Consumes-filled a b n buf le gone = subst (Consumes a b) (take_all n buf le) gone

-- fewer octets than a head came, and the end
pub EndsInRecord-short : (m : Magic) (a b : Option (List ℕ)) (p : List ℕ) → 0 < length p
    → length p < 12 → Consumes a b p → IsAtEnd b → EndsWhere (EndsInRecord m) a b
EndsInRecord-short m None b p some few gone end = (tt, (p, gone), end)
EndsInRecord-short m (Some u) None p some few gone end = absurd gone
EndsInRecord-short m (Some u) (Some v) p some few gone end =
    let whole : u ≡ p = gone ∙ ap (λ (t : List ℕ). p ++ t) end ∙ append-nil p in (
      subst (EndsInRecord m) (sym whole) (some, inl few),
      (p, gone),
      end,
    )

pub captured_of-head : (m : Magic) (p v : List ℕ) → length p ≡ 12
    → captured_of m (p ++ v) ≡ number_in m.order 4 (drop 8 p)
captured_of-head m p v size = number_in-front m.order 4 8 p v (omega (arith, size))

pub captured_of-parts : (m : Magic) (p q v : List ℕ) → length p ≡ 12
    → captured_of m ((p ++ q) ++ v) ≡ number_in m.order 4 (drop 8 p)
captured_of-parts m p q v size =
    ap (captured_of m) (append_assoc p q v) ∙ captured_of-head m p (q ++ v) size

-- a cut in the later part of a record
pub IsRecordFault-cut : (m : Magic) (a b c : Option (List ℕ)) (p : List ℕ) (n : ℕ) (f : SourceFault)
    → Consumes a b p → ((v : List ℕ) → length v < n → EndsInRecord m (p ++ v))
    → IsCutShort n b c f
    → IsRecordFault m a c f
IsRecordFault-cut m a b c p n faults.CutFile gone all cut =
    EndsWhere-after (EndsInRecord m) a b c p n gone cut all
IsRecordFault-cut m a b c p n faults.Malformed gone all cut = absurd cut
IsRecordFault-cut m a b c p n faults.LinkType gone all cut = absurd cut
IsRecordFault-cut m a b c p n (faults.Capture captures.CutRecord) gone all cut = absurd cut
IsRecordFault-cut m a b c p n (faults.Capture captures.Length) gone all cut = absurd cut
IsRecordFault-cut m a b c p n (faults.Capture captures.Io) gone all cut =
    ConsumesPrefix-after a b c p gone cut
IsRecordFault-cut m a b c p n (faults.Capture captures.NoMemory) gone all cut = absurd cut
IsRecordFault-cut m a b c p n (faults.Capture captures.Failed) gone all cut = absurd cut

-- a fault in its frame
pub IsRecordFault-frame : (m : Magic) (a b c : Option (List ℕ)) (p : List ℕ) (n : ℕ)
    (f : SourceFault) → Consumes a b p → length p ≡ 16
    → ((v : List ℕ) → AnnouncesRecord m (p ++ v))
    → ((v : List ℕ) → length v < n → EndsInRecord m (p ++ v))
    → IsFrameFault n b c f
    → IsRecordFault m a c f
IsRecordFault-frame m a b c p n faults.CutFile gone size is all cut =
    EndsWhere-after (EndsInRecord m) a b c p n gone cut all
IsRecordFault-frame m a b c p n faults.Malformed gone size is all cut = absurd cut
IsRecordFault-frame m a b c p n faults.LinkType gone size is all cut = absurd cut
IsRecordFault-frame m a b c p n (faults.Capture captures.CutRecord) gone size is all cut =
    absurd cut
IsRecordFault-frame m a b c p n (faults.Capture captures.Length) gone size is all cut = absurd cut
IsRecordFault-frame m a b c p n (faults.Capture captures.Io) gone size is all cut =
    ConsumesPrefix-after a b c p gone cut
IsRecordFault-frame m a b c p n (faults.Capture captures.NoMemory) gone size is all cut =
    let same = subst (Consumes a c) (append-nil p) (Consumes-trans a b c _ _ gone cut) in (
      IfSome-of (AnnouncesRecord m) a c p same is,
      record {
        gone = p;
        size = size;
        consumes = same;
      },
    )
IsRecordFault-frame m a b c p n (faults.Capture captures.Failed) gone size is all cut = absurd cut

pub AnnouncesRecord-parts : (m : Magic) (p q v : List ℕ) (n : ℕ) → length p ≡ 12
    → n ≡ number_in m.order 4 (drop 8 p) → n ≤ LONGEST_CAPTURED
    → AnnouncesRecord m ((p ++ q) ++ v)
AnnouncesRecord-parts m p q v n size is fits = (
  omega (arith, size, length-append p q, length-append (p ++ q) v),
  omega (arith, is, fits, captured_of-parts m p q v size),
)

pub EndsInRecord-parts : (m : Magic) (p q v : List ℕ) (n : ℕ) → length p ≡ 12 → length q ≡ 4
    → n ≡ number_in m.order 4 (drop 8 p) → n ≤ LONGEST_CAPTURED → length v < n
    → EndsInRecord m ((p ++ q) ++ v)
EndsInRecord-parts m p q v n twelve four is fits few =
    let size : length ((p ++ q) ++ v) ≡ 16 + length v =
    omega (arith, twelve, four, length-append p q, length-append (p ++ q) v) in (
      omega (arith, size),
      inr (
        AnnouncesRecord-parts m p q v n twelve is fits,
        omega (arith, size, few, is, captured_of-parts m p q v twelve),
      ),
    )

pub EndsInRecord-head : (m : Magic) (p v : List ℕ) (n : ℕ) → length p ≡ 12
    → n ≡ number_in m.order 4 (drop 8 p) → n ≤ LONGEST_CAPTURED → length v < 4
    → EndsInRecord m (p ++ v)
EndsInRecord-head m p v n twelve is fits few = (
  omega (arith, twelve, length-append p v),
  inr (
    (
      omega (arith, twelve, length-append p v),
      omega (arith, is, fits, captured_of-head m p v twelve),
    ),
    omega (arith, twelve, few, length-append p v),
  ),
)

-- what is told of a record that was read
pub HasRecord-parts : (f : FileHeader) (keep : ℕ) (h : RecordHeader) (frame p q r v : List ℕ) → length p ≡ 12
    → length q ≡ 4 → length r ≡ h.captured → h.captured ≡ number_in f.magic.order 4 (drop 8 p)
    → h.captured ≤ LONGEST_CAPTURED
    → h.moment ≡ moment_of f.magic.unit (number_in f.magic.order 4 (drop 0 p)) (number_in f.magic.order 4 (drop 4 p))
    → h.fine ≡ fine_of f.magic.unit (number_in f.magic.order 4 (drop 0 p)) (number_in f.magic.order 4 (drop 4 p))
    → h.interface ≡ 0 → h.wire ≡ number_in f.magic.order 4 (drop 0 q) → h.layer ≡ Some f.layer
    → frame ≡ take (min h.captured keep) r
    → HasRecord f keep h frame (((p ++ q) ++ r) ++ v)
HasRecord-parts f keep h frame p q r v twelve four size captured fits moment fine interface wire layer kept =
    let w = (p ++ q) ++ (r ++ v) in
    let same : ((p ++ q) ++ r) ++ v ≡ w = append_assoc (p ++ q) r v in
    let sixteen : length (p ++ q) ≡ 16 = omega (arith, twelve, four, length-append p q) in
    let long : length w ≡ 16 + length r + length v =
    omega (arith, sixteen, length-append (p ++ q) (r ++ v), length-append r v) in
    let at : (k : ℕ) → k + 4 ≤ 12 → number_in f.magic.order 4 (drop k w)
    ≡ number_in f.magic.order 4 (drop k p) = λ k le.
    number_in-front f.magic.order 4 k (p ++ q) (r ++ v) (omega (arith, le, sixteen))
    ∙ number_in-front f.magic.order 4 k p q (omega (arith, le, twelve)) in
    let last : number_in f.magic.order 4 (drop 12 w) ≡ number_in f.magic.order 4 (drop 0 q) =
    number_in-front f.magic.order 4 12 (p ++ q) (r ++ v) (omega (arith, sixteen))
    ∙ number_in-behind f.magic.order 4 12 0 p q (omega (arith, twelve)) in
    let tail : drop 16 w ≡ r ++ v =
    ap (λ (n : ℕ). drop n w) (sym sixteen) ∙ drop-append_seam (p ++ q) (r ++ v) in
    let has : HasRecord f keep h frame w = record {
      announces = AnnouncesRecord-parts f.magic p q (r ++ v) h.captured twelve captured fits;
      head = record {
        moment = moment
            ∙ ap (λ (n : ℕ). moment_of f.magic.unit n (number_in f.magic.order 4 (drop 4 p)))
            (sym (at 0 (omega arith)))
            ∙ ap (moment_of f.magic.unit (number_in f.magic.order 4 w)) (sym (at 4 (omega arith)));
        fine = fine
            ∙ ap (λ (n : ℕ). fine_of f.magic.unit n (number_in f.magic.order 4 (drop 4 p)))
            (sym (at 0 (omega arith)))
            ∙ ap (fine_of f.magic.unit (number_in f.magic.order 4 w)) (sym (at 4 (omega arith)));
        interface = interface;
        captured = captured ∙ sym (at 8 (omega arith));
        wire = wire ∙ sym last;
        layer = layer;
      };
      whole = omega (arith, long, size);
      kept = kept ∙ sym (ap (take (min h.captured keep)) tail
          ∙ take-append-le (min h.captured keep) r v (omega (arith, size)));
    } in
    subst (HasRecord f keep h frame) (sym same) has
