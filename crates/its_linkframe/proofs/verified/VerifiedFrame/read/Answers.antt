use Rattle.std.proofs.Common.{◌≡◌, ◌∙◌, [], ap, sym, subst, arith, append-nil, inr, take}
use Rattle.its_headers.specs.Encoding.{Encodes}
use Rattle.its_headers.specs.Inner.{Basic, inner_octets}
use Rattle.its_linkframe.specs.Secured.{Secured, sealed, basic_on_air}
use Rattle.its_linkframe.proofs.Fronts.{Trails-of}
use Rattle.its_linkframe.proofs.SecuredFrames.{same_verified}
use Rattle.its_linkframe.proofs.verified.VerifiedFrame.read.Goals as goal

pub returns-in_err-secured-clause-only : goal.returns-in_err-secured-clause-only
returns-in_err-secured-clause-only c = λ v enc.
    absurd (c.in_err-secured.ensures.only (sealed v.frame v.message) enc.secured)

pub returns-in-Ok-clause-only : goal.returns-in-Ok-clause-only
returns-in-Ok-clause-only c = λ v enc.
    let plain = c.args.plain.now in
    let same = c.in_ok-secured.ensures.only (sealed v.frame v.message) enc.secured in
    let basic : c.basic.result ≡ basic_on_air v.frame =
    c.basic.ensures ∙ ap (λ (s : Secured). s.basic) same in
    let read = c.in-Ok.ensures.only v.frame.pdu v.frame.hops_left _ [] enc.packet
    (ap (λ (b : Basic). inner_octets b plain) basic ∙ sym (append-nil _)) in
    omega (arith, read.1, c.if-length-plain.true)

pub returns-in-Ok-clause-fault : goal.returns-in-Ok-clause-fault
returns-in-Ok-clause-fault c =
    let s = c.in-Ok.field-0-0 in
    let w = inner_octets c.in_ok-secured.secured.basic c.args.plain.now in
    let enc = subst (λ (b : Basic).
    Encodes s.pdu s.left (take c.in-Ok.length (inner_octets b c.args.plain.now))) c.basic.ensures
    c.in-Ok.ensures.found.1 in
    inr (
      c.in_ok-secured.secured,
      c.in_ok-secured.ensures.found,
      Trails-of w s c.in-Ok.length enc (omega (arith, c.if-length-plain.true)),
    )

pub returns-in-Ok-2-clause-only : goal.returns-in-Ok-2-clause-only
returns-in-Ok-2-clause-only c = λ v enc.
    let plain = c.args.plain.now in
    let same = c.in_ok-secured.ensures.only (sealed v.frame v.message) enc.secured in
    let basic : c.basic.result ≡ basic_on_air v.frame =
    c.basic.ensures ∙ ap (λ (s : Secured). s.basic) same in
    let read = c.in-Ok.ensures.only v.frame.pdu v.frame.hops_left _ [] enc.packet
    (ap (λ (b : Basic). inner_octets b plain) basic ∙ sym (append-nil _)) in
    same_verified c.in_ok-secured.secured _ v same read.0

pub returns-in-Err-clause-only : goal.returns-in-Err-clause-only
returns-in-Err-clause-only c = λ v enc.
    let plain = c.args.plain.now in
    let same = c.in_ok-secured.ensures.only (sealed v.frame v.message) enc.secured in
    let basic : c.basic.result ≡ basic_on_air v.frame =
    c.basic.ensures ∙ ap (λ (s : Secured). s.basic) same in
    absurd (c.in-Err.ensures.only v.frame.pdu v.frame.hops_left _ [] enc.packet
    (ap (λ (b : Basic). inner_octets b plain) basic ∙ sym (append-nil _)))
