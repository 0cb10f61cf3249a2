use Rattle.std.proofs.Common.{◌≡◌, ◌∙◌, ap, drop, false, List, ℕ, sym, true}
use Rattle.cap_records.proofs.Inner.{signed_has, signed_none}
use Rattle.cap_records.specs.SignedFrames.{begins_secured}
use Rattle.cap_records.proofs.signed.signed_frame_of.Goals as goal

pub returns-then-is_secured-clause-frame : goal.returns-then-is_secured-clause-frame
returns-then-is_secured-clause-frame c =
    let h = c.args.head.now in
    let w = c.args.octets.now.items in
    let carried : List ℕ = drop c.in_ok-start.start c.frame_start.new.octets.items in
    let yes : begins_secured carried ≡ true =
    sym (c.is_secured.ensures ∙ ap begins_secured c.rest.ensures) ∙ c.if-is_secured.true in
    signed_has h c.in_ok-layer.layer w carried c.find_inner.new.octets.items true c.find_inner.result
    c.in_ok-layer.ensures.whole c.in_ok-layer.ensures.layer c.in_ok-start.ensures.frame yes
    c.find_inner.ensures.frame

pub returns-then-is_secured-clause-fault : goal.returns-then-is_secured-clause-fault
returns-then-is_secured-clause-fault c =
    let h = c.args.head.now in
    let w = c.args.octets.now.items in
    let carried : List ℕ = drop c.in_ok-start.start c.frame_start.new.octets.items in
    let yes : begins_secured carried ≡ true =
    sym (c.is_secured.ensures ∙ ap begins_secured c.rest.ensures) ∙ c.if-is_secured.true in
    signed_none h c.in_ok-layer.layer w carried true c.find_inner.result
    c.in_ok-layer.ensures.whole c.in_ok-layer.ensures.layer c.in_ok-start.ensures.frame yes
    c.find_inner.ensures.fault

pub returns-else-is_secured-clause-frame : goal.returns-else-is_secured-clause-frame
returns-else-is_secured-clause-frame c =
    let h = c.args.head.now in
    let w = c.args.octets.now.items in
    let brought : List ℕ = c.frame_start.new.octets.items in
    let carried : List ℕ = drop c.in_ok-start.start brought in
    let no : begins_secured carried ≡ false =
    sym (c.is_secured.ensures ∙ ap begins_secured c.rest.ensures) ∙ c.if-is_secured.false in
    signed_has h c.in_ok-layer.layer w carried brought false c.find_unsecured.result
    c.in_ok-layer.ensures.whole c.in_ok-layer.ensures.layer c.in_ok-start.ensures.frame no
    c.find_unsecured.ensures.frame

pub returns-else-is_secured-clause-fault : goal.returns-else-is_secured-clause-fault
returns-else-is_secured-clause-fault c =
    let h = c.args.head.now in
    let w = c.args.octets.now.items in
    let carried : List ℕ = drop c.in_ok-start.start c.frame_start.new.octets.items in
    let no : begins_secured carried ≡ false =
    sym (c.is_secured.ensures ∙ ap begins_secured c.rest.ensures) ∙ c.if-is_secured.false in
    signed_none h c.in_ok-layer.layer w carried false c.find_unsecured.result
    c.in_ok-layer.ensures.whole c.in_ok-layer.ensures.layer c.in_ok-start.ensures.frame no
    c.find_unsecured.ensures.fault
