-- The inner frame of a secured one.
use Rattle.std.proofs.Common.{◌≡◌, ◌∙◌, ℕ, ◌+◌, ◌-◌, ◌≤◌, List, ◌++◌, length, take, drop, sym, ap}
use Rattle.std.proofs.Common.{arith, length-drop, slice_set}
use Rattle.std.proofs.lemmas.List.{length-set, length-take-le, drop-set-add, set-append_left, drop_at}
use Rattle.std.proofs.lemmas.List.{append_assoc, drop-drop}
use Rattle.std.proofs.Math.Seq.{take-append-add}
use Rattle.std.proofs.Common.{Bool, true, false, None, Some, Result, Ok, Err, IfOk, IfErr, rules}
use Rattle.std.proofs.Common.{subst}
use lib.Seq.{paste}
use Rattle.cap_pcap.specs.Records.{fault_of}
use Rattle.cap_pcap.specs.declared.record.RecordHeader.{RecordHeader}
use Rattle.cap_linklayers.specs.LinkLayers.{IsFrameIn}
use Rattle.cap_linklayers.specs.declared.link.LinkLayer.{LinkLayer}
use Rattle.cap_records.specs.SignedFrames.{begins_secured, IsSignedIn}
use Rattle.cap_records.specs.SignedFrames.{IsSignedFaultIn, IsSignedFault, HasSignedFrame}
use Rattle.cap_records.specs.SignedFrames.{HasNoSignedFrame}
use Rattle.cap_records.specs.declared.refusal.RecordFault.{RecordFault}
use Rattle.cap_records.specs.declared.refusal.RecordFault.TheVariants as faults
use Rattle.cap_records.specs.FoundFrames.{IsPlaced}
use Rattle.cap_records.specs.declared.found.FoundFrame.{FoundFrame}
use Rattle.its_linkframe.specs.Frames.{EncodesFrame, link_header}
use Rattle.its_model.specs.Packet.{Transmission}
use Rattle.its_linkframe.specs.Secured.{Secured, secured_octets, EncodesSecured, Verified, EncodesVerified}
use Rattle.cap_records.specs.SignedFrames.{inner_frame, plain_octets}
use Rattle.cap_records.specs.declared.signed.PlainPart.{PlainPart}

-- 18 octets come before the message
pub secured_length : (s : Secured) (w : List ℕ) → EncodesSecured s w
    → length w ≡ 18 + length s.message
unfolding link_header
secured_length s w enc =
    let size : length w ≡ length (secured_octets s) = ap length enc.octets in
    omega (arith, size)

-- what is pasted, and what is behind it
behind_paste : (o s : List ℕ) (b : ℕ) → b ≤ length o
    → drop b (paste o b s 18) ≡ take 18 s ++ drop (b + 18) o
behind_paste o s b le =
    ap (drop b) (append_assoc (take b o) (take 18 s) (drop (b + 18) o))
    ∙ drop_at (take b o) (take 18 s ++ drop (b + 18) o) b (length-take-le b o le)

-- an octet of a list of 18 octets is written, and so many of what follows are taken
front_and_rest : (x y : List ℕ) (len : ℕ) → length x ≡ 18
    → take (18 + len) (slice_set (x ++ y) 14 17) ≡ slice_set x 14 17 ++ take len y
front_and_rest x y len is =
    let size : length (slice_set x 14 17) ≡ 18 = length-set x 14 17 ∙ is in
    ap (take (18 + len)) (set-append_left x y 14 17 (omega (arith, is)))
    ∙ ap (λ (n : ℕ). take (n + len) (slice_set x 14 17 ++ y)) (sym size)
    ∙ take-append-add (slice_set x 14 17) y len

-- the inner frame, among octets in which the headers were copied in front of the plain part
pub inner_of : (o : List ℕ) (start : ℕ) (part : PlainPart) (new : List ℕ) → 18 ≤ part.start
    → start + part.start + part.length ≤ length o
    → new ≡ paste o (start + part.start - 18) (drop start o) (start + 18 - start)
    → take (start + part.start - 18 + 18 + part.length - (start + part.start - 18))
    (drop (start + part.start - 18) (slice_set new (start + part.start - 18 + 14) 17))
    ≡ inner_frame (drop start o) part
inner_of o start part new behind inside is =
    let b : ℕ = start + part.start - 18 in
    let s : List ℕ = drop start o in
    let len : ℕ = part.length in
    let many : b + 18 + len - b ≡ 18 + len = omega arith in
    let eighteen : start + 18 - start ≡ 18 = omega arith in
    let pasted : new ≡ paste o b s 18 = is ∙ ap (paste o b s) eighteen in
    let there : b ≤ length o = omega (arith, inside, behind) in
    let long : 18 ≤ length s = omega (arith, inside, behind, length-drop start o) in
    let end : b + 18 ≡ start + part.start = omega (arith, behind) in
    ap (λ (n : ℕ). take n (drop b (slice_set new (b + 14) 17))) many
    ∙ ap (take (18 + len)) (drop-set-add b new 14 17)
    ∙ ap (λ (v : List ℕ). take (18 + len) (slice_set v 14 17))
    (ap (drop b) pasted ∙ behind_paste o s b there)
    ∙ front_and_rest (take 18 s) (drop (b + 18) o) len (length-take-le 18 s long)
    ∙ ap (λ (v : List ℕ). slice_set (take 18 s) 14 17 ++ take len v)
    (ap (λ (n : ℕ). drop n o) end ∙ sym (drop-drop part.start start o))

-- the inner frame of a secured one whose plain part is a packet is that packet's
pub inner_encodes : (v : Verified) (w : List ℕ) (part : PlainPart)
    → EncodesVerified v w (plain_octets w part) → EncodesFrame v.frame (inner_frame w part)
unfolding link_header
inner_encodes v w part enc =
    record {
      fields = record {
        target = enc.secured.fields.target;
        source = enc.secured.fields.source;
        packet = enc.packet.fields;
      };
      octets = ap (λ (x : List ℕ). slice_set (take 18 x) 14 17 ++ plain_octets w part)
          enc.secured.octets
          ∙ ap (λ (x : List ℕ). link_header v.frame.link_target v.frame.link_source ++ x)
          enc.packet.octets;
    }

-- what a record has, by what its link layer carries
pub signed_has : (h : RecordHeader) (layer : LinkLayer) (w carried new : List ℕ)
    (is_secured : Bool) (found : Result FoundFrame RecordFault) → fault_of h ≡ None
    → h.layer ≡ Some layer → IsFrameIn layer w carried → begins_secured carried ≡ is_secured
    → IfOk found (λ f. (t : Transmission) × IsSignedIn layer carried is_secured t f.secured
    × IsPlaced new t f.place)
    → IfOk found (λ f. (t : Transmission) × HasSignedFrame h w t f.secured × IsPlaced new t f.place)
signed_has h layer w carried new b (Ok f) whole of carries is has =
    let signed : HasSignedFrame h w has.0 f.secured = record {
      whole = whole;
      layer = layer;
      is_layer = of;
      carried = carried;
      carries = carries;
      has = subst (λ (x : Bool). IsSignedIn layer carried x has.0 f.secured) (sym is) has.1;
    } in (has.0, signed, has.2)
signed_has h layer w carried new b (Err fault) whole of carries is has = tt

-- a fault of what is carried is one of the record
no_frame : (h : RecordHeader) (layer : LinkLayer) (w carried : List ℕ) (is_secured : Bool)
    (fault : RecordFault) → fault_of h ≡ None → h.layer ≡ Some layer → IsFrameIn layer w carried
    → begins_secured carried ≡ is_secured → IsSignedFaultIn layer carried is_secured fault
    → HasNoSignedFrame h w fault
no_frame h layer w carried b fault whole of carries is none = record {
  whole = whole;
  layer = layer;
  is_layer = of;
  carried = carried;
  carries = carries;
  has_none = subst (λ (x : Bool). IsSignedFaultIn layer carried x fault) (sym is) none;
}

-- why it has none
pub signed_none : (h : RecordHeader) (layer : LinkLayer) (w carried : List ℕ) (is_secured : Bool)
    (read : Result FoundFrame RecordFault) → fault_of h ≡ None → h.layer ≡ Some layer
    → IsFrameIn layer w carried → begins_secured carried ≡ is_secured
    → IfErr read (IsSignedFaultIn layer carried is_secured) → IfErr read (IsSignedFault h w)
signed_none h layer w carried b (Ok f) whole of carries is fault = search rules
signed_none h layer w carried true (Err (faults.Record f)) whole of carries is fault = absurd fault
signed_none h layer w carried false (Err (faults.Record f)) whole of carries is fault =
    absurd fault.2
signed_none h layer w carried true (Err (faults.Link f)) whole of carries is fault = absurd fault
signed_none h layer w carried false (Err (faults.Link f)) whole of carries is fault = absurd fault.2
signed_none h layer w carried b (Err (faults.Frame f)) whole of carries is fault =
    no_frame h layer w carried b (faults.Frame f) whole of carries is fault
signed_none h layer w carried b (Err (faults.Secured f)) whole of carries is fault =
    no_frame h layer w carried b (faults.Secured f) whole of carries is fault
signed_none h layer w carried b (Err (faults.Signed f)) whole of carries is fault =
    no_frame h layer w carried b (faults.Signed f) whole of carries is fault
signed_none h layer w carried b (Err (faults.Message f)) whole of carries is fault =
    no_frame h layer w carried b (faults.Message f) whole of carries is fault
