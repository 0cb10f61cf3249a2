-- What is found of a record whose frame may be of the profile or outside of it.
use Rattle.std.proofs.Common.{◌≡◌, ℕ, List, Bool, true, false, Some, None, Result, Ok, Err}
use Rattle.std.proofs.Common.{◌≤◌, IfErr, IfOk, inl, inr, length, refl, subst, sym}
use Rattle.cap_linklayers.specs.LinkLayers.{IsFrameIn}
use Rattle.cap_linklayers.specs.declared.link.LinkLayer.{LinkLayer}
use Rattle.cap_pcap.specs.Records.{fault_of}
use Rattle.cap_pcap.specs.declared.record.RecordHeader.{RecordHeader}
use Rattle.its_faults.specs.declared.secured.SecuredFault.{SecuredFault}
use Rattle.cap_records.specs.AnyFrames.{IsAnyFound, IsAnyIn, IsAnyInner}
use Rattle.its_linkframe.specs.Frames.{EncodesFrame}
use Rattle.its_linkframe.specs.Secured.{EncodesVerified, IsVerifiedFault, Verified}
use Rattle.cap_records.proofs.Inner.{inner_encodes}
use Rattle.cap_records.proofs.OutsideFronts.{whole_outside}
use Rattle.cap_records.specs.FoundFrames.{IsFoundOf, IsPlaced, IsPlacedOutside, octets_at}
use Rattle.cap_records.specs.OutsideFrames.{Carries, HasOtherPlain, IsFaultOfAll, IsFaultOfAny}
use Rattle.cap_records.specs.OutsideFrames.{IsInnerFaultOfAny, IsNotOutside, IsOutsideAt}
use Rattle.cap_records.specs.OutsideFrames.{StandardFrame}
use Rattle.cap_records.specs.SignedFrames.{HasPlain, inner_frame, plain_octets, reads_secured}
use Rattle.cap_records.specs.declared.found.FramePlace.{FramePlace}
use Rattle.cap_records.specs.declared.signed.PlainPart.{PlainPart}
use Rattle.cap_records.specs.declared.found.Found.{Found}
use Rattle.cap_records.specs.declared.found.Found.TheVariants as found
use Rattle.cap_records.specs.declared.refusal.RecordFault.{RecordFault}
use Rattle.cap_records.specs.declared.refusal.RecordFault.TheVariants as faults
use Rattle.cap_pcap.specs.declared.record.RecordFault.{RecordFault as Cut}
use Rattle.cap_linklayers.specs.declared.link.LinkFault.{LinkFault}

-- ---- by what its link layer carries

pub any_carried : (signed : Bool) (h : RecordHeader) (layer : LinkLayer) (w carried after : List ℕ)
    (b : Bool) (result : Result Found RecordFault) → fault_of h ≡ None → h.layer ≡ Some layer
    → IsFrameIn layer w carried → reads_secured signed carried ≡ b
    → IfOk result (IsAnyIn layer carried b after) → IfOk result (IsAnyFound signed h w after)
any_carried signed h layer w carried after b (Ok f) whole of carries is has = record {
  whole = whole;
  layer = layer;
  is_layer = of;
  carried = carried;
  carries = carries;
  has = subst (λ (x : Bool). IsAnyIn layer carried x after f) (sym is) has;
}
any_carried signed h layer w carried after b (Err fault) whole of carries is has = tt

pub inner_carried : (layer : LinkLayer) (carried after : List ℕ) (result : Result Found RecordFault)
    → IfOk result (IsAnyInner carried after) → IfOk result (IsAnyIn layer carried true after)
inner_carried layer carried after (Ok (found.Profile f)) has = has
inner_carried layer carried after (Ok (found.Outside o)) has = has
inner_carried layer carried after (Err fault) has = tt

record_not_signed : (f : Cut) (g : SecuredFault) (r : RecordFault) → r ≡ faults.Record f
    → r ≡ faults.Signed g → ⊥
record_not_signed f g r a b = cc

link_not_signed : (f : LinkFault) (g : SecuredFault) (r : RecordFault) → r ≡ faults.Link f
    → r ≡ faults.Signed g → ⊥
link_not_signed f g r a b = cc

-- a fault of what is carried
no_carried : (signed : Bool) (h : RecordHeader) (layer : LinkLayer) (w carried : List ℕ) (b : Bool)
    (fault : RecordFault) → fault_of h ≡ None → h.layer ≡ Some layer → IsFrameIn layer w carried
    → reads_secured signed carried ≡ b → IsFaultOfAny layer carried b fault
    → Carries h w
    (λ layer carried. IsFaultOfAny layer carried (reads_secured signed carried) fault)
no_carried signed h layer w carried b fault whole of carries is none = record {
  whole = whole;
  layer = layer;
  is_layer = of;
  carried = carried;
  carries = carries;
  has = subst (λ (x : Bool). IsFaultOfAny layer carried x fault) (sym is) none;
}

inner_not_record : (carried : List ℕ) (f : Cut) → IsInnerFaultOfAny carried (faults.Record f) → ⊥
inner_not_record carried f none =
    elim none [
      | inl unread ↦ unread
      | inr other ↦ record_not_signed f other.1.why (faults.Record f) refl other.1.fault_is
    ]

inner_not_link : (carried : List ℕ) (f : LinkFault) → IsInnerFaultOfAny carried (faults.Link f) → ⊥
inner_not_link carried f none =
    elim none [
      | inl unread ↦ unread
      | inr other ↦ link_not_signed f other.1.why (faults.Link f) refl other.1.fault_is
    ]

pub any_fault : (signed : Bool) (h : RecordHeader) (layer : LinkLayer) (w carried : List ℕ)
    (b : Bool) (result : Result Found RecordFault) → fault_of h ≡ None → h.layer ≡ Some layer
    → IsFrameIn layer w carried → reads_secured signed carried ≡ b
    → IfErr result (IsFaultOfAny layer carried b) → IfErr result (IsFaultOfAll signed h w)
any_fault signed h layer w carried b (Ok f) whole of carries is none = tt
any_fault signed h layer w carried true (Err (faults.Record f)) whole of carries is none =
    absurd (inner_not_record carried f none)
any_fault signed h layer w carried false (Err (faults.Record f)) whole of carries is none =
    absurd none.0.2
any_fault signed h layer w carried true (Err (faults.Link f)) whole of carries is none =
    absurd (inner_not_link carried f none)
any_fault signed h layer w carried false (Err (faults.Link f)) whole of carries is none =
    absurd none.0.2
any_fault signed h layer w carried b (Err (faults.Frame f)) whole of carries is none =
    no_carried signed h layer w carried b (faults.Frame f) whole of carries is none
any_fault signed h layer w carried b (Err (faults.Secured f)) whole of carries is none =
    no_carried signed h layer w carried b (faults.Secured f) whole of carries is none
any_fault signed h layer w carried b (Err (faults.Signed f)) whole of carries is none =
    no_carried signed h layer w carried b (faults.Signed f) whole of carries is none
any_fault signed h layer w carried b (Err (faults.Message f)) whole of carries is none =
    no_carried signed h layer w carried b (faults.Message f) whole of carries is none

-- ---- by its record

pub found_any : (all signed : Bool) (h : RecordHeader) (w after : List ℕ)
    (result : Result Found RecordFault) → all ≡ true → IfOk result (IsAnyFound signed h w after)
    → IfErr result (IsFaultOfAll signed h w) → IsFoundOf all signed h w after result
found_any all signed h w after (Ok (found.Profile f)) is has none =
    let (t, signed_in, placed) = has.has in
    subst (λ (x : Bool). IsFoundOf x signed h w after (Ok (found.Profile f))) (sym is) (
      t,
      inl (
        t,
        f.secured,
        record {
          whole = has.whole;
          layer = has.layer;
          is_layer = has.is_layer;
          carried = has.carried;
          carries = has.carries;
          has = signed_in;
        },
        refl,
        refl,
      ),
      placed,
    )
found_any all signed h w after (Ok (found.Outside o)) is has none =
    let (s, outside, placed) = has.has in
    subst (λ (x : Bool). IsFoundOf x signed h w after (Ok (found.Outside o))) (sym is) (
      s,
      inr (
        s,
        o.fault,
        o.secured,
        record {
          whole = has.whole;
          layer = has.layer;
          is_layer = has.is_layer;
          carried = has.carried;
          carries = has.carries;
          has = outside;
        },
        refl,
        refl,
      ),
      placed,
    )
found_any all signed h w after (Err fault) is has none =
    subst (λ (x : Bool). IsFoundOf x signed h w after (Err fault)) (sym is) (fault, none, refl)

-- ---- the inner frame

pub inner_profile : (w : List ℕ) (part : PlainPart) (v : Verified) (after : List ℕ)
    (place : FramePlace) → HasPlain w part → EncodesVerified v w (plain_octets w part)
    → place.start ≤ place.end → place.end ≤ length after
    → octets_at place after ≡ inner_frame w part
    → IsAnyInner w after (found.Profile (record {
      place = place;
      secured = Some (record { length = length w; info = part.info });
    }))
inner_profile w part v after place plain verified order inside is =
    let encodes = inner_encodes v w part verified in
    let placed : IsPlaced after v.frame place = record {
      order = order;
      inside = inside;
      encodes = subst (EncodesFrame v.frame) (sym is) encodes;
    } in (v.frame, (part, plain, encodes, refl), placed)

pub inner_outside : (w : List ℕ) (part : PlainPart) (f : SecuredFault) (after : List ℕ)
    (place : FramePlace) (n : ℕ) (s : StandardFrame) → HasPlain w part
    → IsVerifiedFault w (plain_octets w part) f
    → place.start ≤ place.end → place.end ≤ length after
    → octets_at place after ≡ inner_frame w part
    → IsOutsideAt false (octets_at place after) n s
    → IsAnyInner w after (found.Outside (record {
      place = place;
      fault = faults.Signed f;
      secured = Some (record { length = length w; info = part.info });
    }))
inner_outside w part f after place n s plain no_packet order inside is at =
    let other : HasOtherPlain w part (faults.Signed f) = record {
      plain = plain;
      why = f;
      fault_is = refl;
      no_packet = no_packet;
    } in
    let placed : IsPlacedOutside after s place = record {
      order = order;
      inside = inside;
      frame = whole_outside (octets_at place after) n s at;
    } in
    let inner = subst (λ (v : List ℕ). IsOutsideAt false v n s) is at in
    (s, (part, other, refl, (n, inner)), placed)

pub inner_none : (w : List ℕ) (part : PlainPart) (f : SecuredFault) (after : List ℕ)
    (place : FramePlace) → HasPlain w part → IsVerifiedFault w (plain_octets w part) f
    → octets_at place after ≡ inner_frame w part → IsNotOutside false (octets_at place after)
    → IsInnerFaultOfAny w (faults.Signed f)
inner_none w part f after place plain no_packet is none =
    let other : HasOtherPlain w part (faults.Signed f) = record {
      plain = plain;
      why = f;
      fault_is = refl;
      no_packet = no_packet;
    } in
    inr (part, other, subst (λ (v : List ℕ). IsNotOutside false v) is none)
