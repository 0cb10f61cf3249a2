use Rattle.std.proofs.Common.{◌∙◌, ap, drop, false, inl, length, List, Some, subst, sym, ℕ}
use Rattle.its_linkframe.specs.Secured.{EncodesVerified, IsVerifiedFault, Verified}
use Rattle.cap_records.proofs.AnyFrames.{inner_none, inner_outside, inner_profile}
use Rattle.cap_records.specs.AnyFrames.{IsAnyInner}
use Rattle.cap_records.specs.FoundFrames.{octets_at}
use Rattle.cap_records.specs.OutsideFrames.{IsNotOutside, IsOutsideAt}
use Rattle.cap_records.specs.SignedFrames.{HasPlain, IsUnread, plain_octets}
use Rattle.cap_records.specs.declared.found.Found.TheVariants as founds
use Rattle.cap_records.specs.declared.refusal.RecordFault.TheVariants as faults
use Rattle.cap_records.proofs.any_kind.any_inside.Goals as goal

pub returns-in-Err-clause-fault : goal.returns-in-Err-clause-fault
returns-in-Err-clause-fault c =
    inl (subst (λ (v : List ℕ). IsUnread v c.in-Err.fault) c.rest.ensures c.in-Err.ensures.fault)

pub returns-in-None-clause-found : goal.returns-in-None-clause-found
returns-in-None-clause-found c =
    let part = c.in-Ok.plain in
    let w : List ℕ = drop c.args.start c.args.octets.now.items in
    let after = c.bring_inner-place.new.octets.items in
    let place = c.bring_inner-place.result in
    let brought = c.bring_inner-place.ensures in
    let plain = subst (λ (v : List ℕ). HasPlain v part) c.rest.ensures
    c.in-Ok.ensures.found in
    let (v, verified) = subst
    (λ (x : List ℕ). (v : Verified) × EncodesVerified v x (plain_octets x part))
    c.rest-2.ensures (rw c.in-None.is at c.fault_inside-fault.ensures.none) in
    let size = ap length c.rest-length.ensures in
    subst (λ (n : ℕ). IsAnyInner w after (founds.Profile (record {
      place = place;
      secured = Some (record { length = n; info = part.info });
    }))) (sym size)
    (inner_profile w part v after place plain verified brought.order brought.inside brought.inner)

pub returns-in-Some-outside_length-clause-found : goal.returns-in-Some-outside_length-clause-found
returns-in-Some-outside_length-clause-found c =
    let part = c.in-Ok.plain in
    let w : List ℕ = drop c.args.start c.args.octets.now.items in
    let after = c.bring_inner-place.new.octets.items in
    let place = c.bring_inner-place.result in
    let brought = c.bring_inner-place.ensures in
    let plain = subst (λ (v : List ℕ). HasPlain v part) c.rest.ensures
    c.in-Ok.ensures.found in
    let no_packet = subst (λ (v : List ℕ). IsVerifiedFault v (plain_octets v part) c.in-Some.fault)
    c.rest-2.ensures (rw c.in-Some.is at c.fault_inside-fault.ensures.some) in
    let (s, found) = c.in-Some-outside_length.ensures.found in
    let text = c.octets.ensures ∙ ap (octets_at place) c.as_slice.ensures.value in
    let at = subst (λ (v : List ℕ). IsOutsideAt false v c.in-Some-outside_length.field-0 s) text
    found in
    let size = ap length c.rest-length.ensures in
    subst (λ (n : ℕ). IsAnyInner w after (founds.Outside (record {
      place = place;
      fault = faults.Signed c.in-Some.fault;
      secured = Some (record { length = n; info = part.info });
    }))) (sym size)
    (inner_outside w part c.in-Some.fault after place _ s plain no_packet brought.order
    brought.inside brought.inner at)

pub returns-in-None-outside_length-clause-fault : goal.returns-in-None-outside_length-clause-fault
returns-in-None-outside_length-clause-fault c =
    let part = c.in-Ok.plain in
    let w : List ℕ = drop c.args.start c.args.octets.now.items in
    let after = c.bring_inner-place.new.octets.items in
    let place = c.bring_inner-place.result in
    let plain = subst (λ (v : List ℕ). HasPlain v part) c.rest.ensures
    c.in-Ok.ensures.found in
    let no_packet = subst (λ (v : List ℕ). IsVerifiedFault v (plain_octets v part) c.in-Some.fault)
    c.rest-2.ensures (rw c.in-Some.is at c.fault_inside-fault.ensures.some) in
    let text = c.octets.ensures ∙ ap (octets_at place) c.as_slice.ensures.value in
    let none = subst (λ (v : List ℕ). IsNotOutside false v) text
    c.in-None-outside_length.ensures.none in
    inner_none w part c.in-Some.fault after place plain no_packet c.bring_inner-place.ensures.inner
    none
