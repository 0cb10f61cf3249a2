-- What a capture's octets say: its records can be read from them in one way only.
use Rattle.std.proofs.Common.{◌≡◌, ℕ, ◌+◌, ◌^◌, ◌<◌, inl, inr, List, [], ◌∷◌, ◌++◌, length, take}
use Rattle.std.proofs.Common.{drop, Option, None, Some, Result, Ok, Err, IfSome, IfNone, IfOk}
use Rattle.std.proofs.Common.{IfErr, refl, sym, ap, subst, ◌∙◌, arith, append_assoc, length-append}
use Rattle.std.proofs.Math.Seq.{take-append_seam, drop-append_seam}
use Rattle.std.proofs.lemmas.List.Elements.{All-head, All-tail}
use Rattle.std.specs.Io.KnownBytes.{Consumes, IsAtEnd}
use Rattle.std.proofs.KnownBytes.{Consumes-nil}
use Rattle.byteorder.specs.Endian.{big_bytes, big_number}
use Rattle.byteorder.specs.Numbers.{big_number-reads_back}
use Rattle.its_linkframe.specs.declared.record.Record.{Record}
use Rattle.its_linkframe.specs.declared.record.CaptureFault.{CaptureFault}
use Rattle.its_linkframe.specs.declared.record.CaptureFault.TheVariants as faults
use Rattle.its_linkframe.specs.Captures.{Captured, IsCaptured, head_octets, record_octets}
use Rattle.its_linkframe.specs.Captures.{capture_octets, EncodesCapture, captured, captured_at}
use Rattle.its_linkframe.specs.Captures.{announced_length, AnnouncesNoFrame, EndsInRecord}
use Rattle.its_linkframe.specs.Captures.{IsFrameLength}
use Rattle.its_linkframe.specs.Reading.{MeetsEnd, IsReadFault, ReadsFirst, ReadsFirstInto}
use Rattle.its_linkframe.proofs.Heads.{length-head_octets, announced_length-head_octets}

moment-head_octets : (m n : ℕ) (w : List ℕ) → m < 2 ^ 64 → big_number 8 (head_octets m n ++ w) ≡ m
unfolding head_octets
moment-head_octets m n w lt = big_number-reads_back 8 m (big_bytes 2 n ++ w) lt

-- the octets after a head
drop-head_octets : (m n : ℕ) (w : List ℕ) → drop 10 (head_octets m n ++ w) ≡ w
drop-head_octets m n w =
    ap (λ (t : ℕ). drop t (head_octets m n ++ w)) (sym (length-head_octets m n))
    ∙ drop-append_seam (head_octets m n) w

-- two records at the front of the same octets are the same, and so is what follows them
pub one_record : (r s : Captured) (v w : List ℕ) → IsCaptured r → IsCaptured s
    → record_octets r ++ v ≡ record_octets s ++ w → (r ≡ s) × (v ≡ w)
one_record r s v w ir is e =
    let f : head_octets r.moment (length r.frame)
    ++ (r.frame ++ v) ≡ head_octets s.moment (length s.frame) ++ (s.frame ++ w) =
    sym (append_assoc (head_octets r.moment (length r.frame)) r.frame v) ∙ e
    ∙ append_assoc (head_octets s.moment (length s.frame)) s.frame w in
    let moment : r.moment ≡ s.moment =
    sym (moment-head_octets r.moment (length r.frame) (r.frame ++ v) ir.moment)
    ∙ ap (big_number 8) f ∙ moment-head_octets s.moment (length s.frame) (s.frame ++ w) is.moment in
    let size : length r.frame ≡ length s.frame =
    sym (announced_length-head_octets r.moment (length r.frame) (r.frame ++ v)
    (omega (arith, ir.frame))) ∙ ap announced_length f
    ∙ announced_length-head_octets s.moment (length s.frame) (s.frame ++ w)
    (omega (arith, is.frame)) in
    let rest : r.frame ++ v ≡ s.frame ++ w =
    sym (drop-head_octets r.moment (length r.frame) (r.frame ++ v)) ∙ ap (drop 10) f
    ∙ drop-head_octets s.moment (length s.frame) (s.frame ++ w) in
    let taken : take (length r.frame) (r.frame ++ v) ≡ take (length s.frame) (s.frame ++ w) =
    ap (λ (t : ℕ). take t (r.frame ++ v)) size ∙ ap (take (length s.frame)) rest in
    let left : drop (length r.frame) (r.frame ++ v) ≡ drop (length s.frame) (s.frame ++ w) =
    ap (λ (t : ℕ). drop t (r.frame ++ v)) size ∙ ap (drop (length s.frame)) rest in
    let mine : take (length r.frame) (r.frame ++ v) ≡ r.frame = take-append_seam r.frame v in
    let theirs : take (length s.frame) (s.frame ++ w) ≡ s.frame = take-append_seam s.frame w in
    let frame : r.frame ≡ s.frame = cc (taken, mine, theirs) in
    let same : captured_at r.moment r.frame ≡ captured_at s.moment s.frame =
    ap (λ (t : ℕ). captured_at t r.frame) moment ∙ ap (captured_at s.moment) frame in
    (same, sym (drop-append_seam r.frame v) ∙ left ∙ drop-append_seam s.frame w)

length-record_octets : (r : Captured) (w : List ℕ)
    → length (record_octets r ++ w) ≡ 10 + length r.frame + length w
length-record_octets r w =
    omega (
      arith,
      length-append (record_octets r) w,
      length-append (head_octets r.moment (length r.frame)) r.frame,
      length-head_octets r.moment (length r.frame),
    )

-- a whole record announces its frame
announced_length-record_octets : (r : Captured) (w : List ℕ) → IsCaptured r
    → announced_length (record_octets r ++ w) ≡ length r.frame
announced_length-record_octets r w is =
    ap announced_length (append_assoc (head_octets r.moment (length r.frame)) r.frame w)
    ∙ announced_length-head_octets r.moment (length r.frame) (r.frame ++ w)
    (omega (arith, is.frame))

-- octets that begin with a whole record don't end in it, and announce a frame
whole_record : (r : Captured) (w : List ℕ) → IsCaptured r
    → (EndsInRecord (record_octets r ++ w) → ⊥) × (AnnouncesNoFrame (record_octets r ++ w) → ⊥)
whole_record r w is =
    let size = announced_length-record_octets r w is in
    let long = length-record_octets r w in (
      λ cut. elim cut.1 [
        | inl short ↦ absurd (omega arith)
        | inr short ↦ absurd
            (omega (arith, short.1))
      ],
      λ wrong. wrong.1 (subst IsFrameLength (sym size) is.frame),
    )

-- what was read of the octets of a capture, from what each answer says of any octets
pub ReadsFirst-of : (old new : Option (List ℕ)) (result : Result (Option Record) CaptureFault)
    → IfOk result
    (λ found. IfSome found (λ r. IsCaptured (captured r)
    × Consumes old new (record_octets (captured r))))
    → IfOk result (λ found. IfNone found (MeetsEnd old new))
    → IfErr result (IsReadFault old new)
    → (result ≡ Err faults.Failed → ⊥)
    → (records : List Captured) (w : List ℕ) → old ≡ Some w → EncodesCapture records w
    → ReadsFirst records new result
ReadsFirst-of None new result given ends fault good records w is enc = absurd cc
ReadsFirst-of (Some u) None (Ok None) given ends fault good records w is enc = absurd ends.2
ReadsFirst-of (Some u) (Some v) (Ok None) given ends fault good [] w is enc =
    ap Some (sym ends.2 ∙ ends.0)
ReadsFirst-of (Some u) (Some v) (Ok None) given ends fault good (first ∷ others) w is enc =
    let same : u ≡ w = cc in
    absurd (omega (
      arith,
      ap length (sym ends.0 ∙ same ∙ enc.octets),
      length-record_octets first (capture_octets others),
    ))
ReadsFirst-of (Some u) None (Ok (Some r)) given ends fault good records w is enc = absurd given.1
ReadsFirst-of (Some u) (Some v) (Ok (Some r)) given ends fault good [] w is enc =
    let same : u ≡ w = cc in
    absurd (omega (
      arith,
      ap length (sym given.1 ∙ same ∙ enc.octets),
      length-record_octets (captured r) v,
    ))
ReadsFirst-of (Some u) (Some v) (Ok (Some r)) given ends fault good (first ∷ others) w is enc =
    let same : u ≡ w = cc in
    let one = one_record (captured r) first v (capture_octets others) given.0
    (All-head IsCaptured first others enc.fields) (sym given.1 ∙ same ∙ enc.octets) in
    (one.0, record { fields = All-tail IsCaptured first others enc.fields; octets = one.1 })
ReadsFirst-of (Some u) new (Err faults.CutRecord) given ends fault good [] w is enc =
    let same : u ≡ w = cc in absurd (omega (arith, fault.0.0, ap length (same ∙ enc.octets)))
ReadsFirst-of (Some u) new (Err faults.CutRecord) given ends fault good (first ∷ others) w is enc =
    let same : u ≡ w = cc in
    absurd ((whole_record first (capture_octets others)
    (All-head IsCaptured first others enc.fields)).0
    (subst EndsInRecord (same ∙ enc.octets) fault.0))
ReadsFirst-of (Some u) new (Err faults.Length) given ends fault good [] w is enc =
    let same : u ≡ w = cc in absurd (omega (arith, fault.0.0, ap length (same ∙ enc.octets)))
ReadsFirst-of (Some u) new (Err faults.Length) given ends fault good (first ∷ others) w is enc =
    let same : u ≡ w = cc in
    absurd ((whole_record first (capture_octets others)
    (All-head IsCaptured first others enc.fields)).1
    (subst AnnouncesNoFrame (same ∙ enc.octets) fault.0))
ReadsFirst-of (Some u) new (Err faults.Io) given ends fault good [] w is enc = refl
ReadsFirst-of (Some u) new (Err faults.Io) given ends fault good (first ∷ others) w is enc =
    inl refl
ReadsFirst-of (Some u) new (Err faults.NoMemory) given ends fault good [] w is enc =
    let same : u ≡ w = cc in absurd (omega (arith, fault.0.0, ap length (same ∙ enc.octets)))
ReadsFirst-of (Some u) new (Err faults.NoMemory) given ends fault good (first ∷ others) w is enc =
    inr refl
ReadsFirst-of (Some u) new (Err faults.Failed) given ends fault good records w is enc =
    absurd (good refl)

abbrev no_record : CaptureFault → Result (Option Record) CaptureFault
no_record e = Err e

abbrev no_moment : CaptureFault → Result (Option ℕ) CaptureFault
no_moment e = Err e

failed_as : (e : CaptureFault) → (no_moment e ≡ Err faults.Failed → ⊥)
    → no_record e ≡ Err faults.Failed → ⊥
failed_as e good is = let same : e ≡ faults.Failed = cc in good (ap no_moment same)

-- the same of a moment and a frame in a buffer
pub ReadsFirst-into : (old new : Option (List ℕ)) (frame : List ℕ)
    (result : Result (Option ℕ) CaptureFault)
    → IfOk result
    (λ found. IfSome found (λ moment. IsCaptured (captured_at moment frame)
    × Consumes old new (record_octets (captured_at moment frame))))
    → IfOk result (λ found. IfNone found (MeetsEnd old new))
    → IfErr result (IsReadFault old new)
    → (result ≡ Err faults.Failed → ⊥)
    → (records : List Captured) (w : List ℕ) → old ≡ Some w → EncodesCapture records w
    → ReadsFirstInto records new frame result
ReadsFirst-into None new frame result given ends fault good records w is enc = absurd cc
ReadsFirst-into (Some u) None frame (Ok None) given ends fault good records w is enc = absurd ends.2
ReadsFirst-into (Some u) (Some v) frame (Ok None) given ends fault good [] w is enc =
    ap Some (sym ends.2 ∙ ends.0)
ReadsFirst-into (Some u) (Some v) frame (Ok None) given ends fault good (first ∷ others) w is enc =
    let same : u ≡ w = cc in
    absurd (omega (
      arith,
      ap length (sym ends.0 ∙ same ∙ enc.octets),
      length-record_octets first (capture_octets others),
    ))
ReadsFirst-into (Some u) None frame (Ok (Some m)) given ends fault good records w is enc =
    absurd given.1
ReadsFirst-into (Some u) (Some v) frame (Ok (Some m)) given ends fault good [] w is enc =
    let same : u ≡ w = cc in
    absurd (omega (
      arith,
      ap length (sym given.1 ∙ same ∙ enc.octets),
      length-record_octets (captured_at m frame) v,
    ))
ReadsFirst-into (Some u) (Some v) frame (Ok (Some m)) given ends fault good (first
    ∷ others) w is enc =
    let same : u ≡ w = cc in
    let one = one_record (captured_at m frame) first v (capture_octets others) given.0
    (All-head IsCaptured first others enc.fields) (sym given.1 ∙ same ∙ enc.octets) in
    (one.0, record { fields = All-tail IsCaptured first others enc.fields; octets = one.1 })
ReadsFirst-into (Some u) new frame (Err e) given ends fault good [] w is enc =
    ReadsFirst-of (Some u) new (Err e) tt tt fault (failed_as e good) [] w is enc
ReadsFirst-into (Some u) new frame (Err e) given ends fault good (first ∷ others) w is enc =
    ReadsFirst-of (Some u) new (Err e) tt tt fault (failed_as e good) (first ∷ others) w is enc

-- at the end of a source nothing but the capture of no record is left
pub ReadsFirst-at_end : (rest : Option (List ℕ)) → IsAtEnd rest
    → (records : List Captured) (w : List ℕ) → rest ≡ Some w → EncodesCapture records w
    → ReadsFirst records rest (Ok None)
ReadsFirst-at_end rest end =
    ReadsFirst-of rest rest (Ok None) tt (end, end, Consumes-nil rest) tt (λ e. cc)

-- a record of a moment and a buffer
pub ReadsFirst-record : (records : List Captured) (new : Option (List ℕ)) (r : Record)
    → ReadsFirstInto records new r.frame.items (Ok (Some r.moment))
    → ReadsFirst records new (Ok (Some r))
ReadsFirst-record [] new r h = h
ReadsFirst-record (first ∷ others) new r h = h

pub ReadsFirst-none : (records : List Captured) (new : Option (List ℕ)) (frame : List ℕ)
    → ReadsFirstInto records new frame (Ok None) → ReadsFirst records new (Ok None)
ReadsFirst-none [] new frame h = h
ReadsFirst-none (first ∷ others) new frame h = h

pub ReadsFirst-fault : (records : List Captured) (new : Option (List ℕ)) (frame : List ℕ)
    (e : CaptureFault) → ReadsFirstInto records new frame (Err e) → ReadsFirst records new (Err e)
ReadsFirst-fault [] new frame e h = h
ReadsFirst-fault (first ∷ others) new frame e h = h

pub ReadsFirst-into_end : (rest : Option (List ℕ)) (frame : List ℕ) → IsAtEnd rest
    → (records : List Captured) (w : List ℕ) → rest ≡ Some w → EncodesCapture records w
    → ReadsFirstInto records rest frame (Ok None)
ReadsFirst-into_end rest frame end =
    ReadsFirst-into rest rest frame (Ok None) tt (end, end, Consumes-nil rest) tt (λ e. cc)

-- octets are a capture of one list of records at most
pub one_capture_lem : (records others : List Captured) (w : List ℕ) → EncodesCapture records w
    → EncodesCapture others w → records ≡ others
one_capture_lem [] [] w a b = refl
one_capture_lem [] (s ∷ ss) w a b =
    absurd (omega (
      arith,
      ap length (sym a.octets ∙ b.octets),
      length-record_octets s (capture_octets ss),
    ))
one_capture_lem (r ∷ rs) [] w a b =
    absurd (omega (
      arith,
      ap length (sym b.octets ∙ a.octets),
      length-record_octets r (capture_octets rs),
    ))
one_capture_lem (r ∷ rs) (s ∷ ss) w a b =
    let one = one_record r s (capture_octets rs) (capture_octets ss)
    (All-head IsCaptured r rs a.fields) (All-head IsCaptured s ss b.fields) (sym a.octets
    ∙ b.octets) in
    let rest = one_capture_lem rs ss (capture_octets rs) (record {
      fields = All-tail IsCaptured r rs a.fields;
      octets = refl;
    }) (record {
      fields = All-tail IsCaptured s ss b.fields;
      octets = one.1;
    }) in
    ap (λ (t : Captured). t ∷ rs) one.0 ∙ ap (λ (t : List Captured). s ∷ t) rest
