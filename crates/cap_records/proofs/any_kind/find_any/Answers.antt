use Rattle.std.proofs.Common.{◌≡◌, ◌∙◌, ap, drop, false, List, ℕ, sym, true}
use Rattle.cap_records.proofs.AnyFrames.{any_carried, any_fault, inner_carried}
use Rattle.cap_records.specs.SignedFrames.{reads_secured}
use Rattle.cap_records.proofs.any_kind.find_any.Goals as goal

pub returns-then-reads_secured-clause-found : goal.returns-then-reads_secured-clause-found
returns-then-reads_secured-clause-found c =
    let signed = c.args.signed in
    let layer = c.in_ok-layer.layer in
    let carried : List ℕ = drop c.in_ok-start.start c.frame_start.new.octets.items in
    let after = c.any_inside.new.octets.items in
    let yes : reads_secured signed carried ≡ true =
    sym (c.reads_secured.ensures ∙ ap (reads_secured signed) c.rest.ensures)
    ∙ c.if-reads_secured.true in
    any_carried signed c.args.head.now layer c.args.octets.now.items carried after true
    c.any_inside.result c.in_ok-layer.ensures.whole c.in_ok-layer.ensures.layer
    c.in_ok-start.ensures.frame yes
    (inner_carried layer carried after c.any_inside.result c.any_inside.ensures.found)

pub returns-then-reads_secured-clause-fault : goal.returns-then-reads_secured-clause-fault
returns-then-reads_secured-clause-fault c =
    let signed = c.args.signed in
    let layer = c.in_ok-layer.layer in
    let carried : List ℕ = drop c.in_ok-start.start c.frame_start.new.octets.items in
    let yes : reads_secured signed carried ≡ true =
    sym (c.reads_secured.ensures ∙ ap (reads_secured signed) c.rest.ensures)
    ∙ c.if-reads_secured.true in
    any_fault signed c.args.head.now layer c.args.octets.now.items carried true
    c.any_inside.result c.in_ok-layer.ensures.whole c.in_ok-layer.ensures.layer
    c.in_ok-start.ensures.frame yes c.any_inside.ensures.fault

pub returns-else-reads_secured-clause-found : goal.returns-else-reads_secured-clause-found
returns-else-reads_secured-clause-found c =
    let signed = c.args.signed in
    let layer = c.in_ok-layer.layer in
    let after : List ℕ = c.frame_start.new.octets.items in
    let carried : List ℕ = drop c.in_ok-start.start after in
    let no : reads_secured signed carried ≡ false =
    sym (c.reads_secured.ensures ∙ ap (reads_secured signed) c.rest.ensures)
    ∙ c.if-reads_secured.false in
    any_carried signed c.args.head.now layer c.args.octets.now.items carried after false
    c.any_unsecured.result c.in_ok-layer.ensures.whole c.in_ok-layer.ensures.layer
    c.in_ok-start.ensures.frame no c.any_unsecured.ensures.found

pub returns-else-reads_secured-clause-fault : goal.returns-else-reads_secured-clause-fault
returns-else-reads_secured-clause-fault c =
    let signed = c.args.signed in
    let layer = c.in_ok-layer.layer in
    let carried : List ℕ = drop c.in_ok-start.start c.frame_start.new.octets.items in
    let no : reads_secured signed carried ≡ false =
    sym (c.reads_secured.ensures ∙ ap (reads_secured signed) c.rest.ensures)
    ∙ c.if-reads_secured.false in
    any_fault signed c.args.head.now layer c.args.octets.now.items carried false
    c.any_unsecured.result c.in_ok-layer.ensures.whole c.in_ok-layer.ensures.layer
    c.in_ok-start.ensures.frame no c.any_unsecured.ensures.fault
