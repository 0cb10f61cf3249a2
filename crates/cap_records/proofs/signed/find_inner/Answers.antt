use Rattle.std.proofs.Common.{ap, drop, length, List, ℕ, subst, sym}
use Rattle.its_linkframe.specs.Frames.{EncodesFrame}
use Rattle.its_linkframe.specs.Secured.{EncodesVerified, Verified}
use Rattle.cap_records.proofs.Inner.{inner_encodes}
use Rattle.cap_records.specs.FoundFrames.{IsPlaced}
use Rattle.cap_records.specs.SignedFrames.{HasPlain, plain_octets}
use Rattle.cap_records.specs.declared.signed.SecuredFacts.{SecuredFacts}
use Rattle.cap_records.proofs.signed.find_inner.Goals as goal

pub returns-clause-frame : goal.returns-clause-frame
returns-clause-frame c =
    let part = c.in_ok-plain.plain in
    let w : List ℕ = drop c.args.start c.args.octets.now.items in
    let brought = c.bring_inner-place.ensures in
    let (v, verified) = subst
    (λ (x : List ℕ). (v : Verified) × EncodesVerified v x (plain_octets x part))
    c.rest.ensures c.in_ok-plain.ensures.packet in
    let plain = subst (λ (x : List ℕ). HasPlain x part) c.rest.ensures
    c.in_ok-plain.ensures.found in
    let encodes = inner_encodes v w part verified in
    let facts = ap
    (λ (x : List ℕ). (let f : SecuredFacts = record {
      length = length x;
      info = part.info;
    } in f)) c.rest-length.ensures in
    let placed : IsPlaced c.bring_inner-place.new.octets.items v.frame c.bring_inner-place.result =
    record {
      order = brought.order;
      inside = brought.inside;
      encodes = subst (EncodesFrame v.frame) (sym brought.inner) encodes;
    } in (v.frame, (part, plain, encodes, facts), placed)
