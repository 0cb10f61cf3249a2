use Rattle.std.proofs.Common.{◌≡◌, Option, None, Some, Ok, refl, ◌∙◌, unwrap_or}
use Rattle.std.proofs.lemmas.Result.{err_from_is_err_and}
use Rattle.cap_pcap.specs.Pcapng.{next_block, order_in}
use Rattle.cap_pcap.specs.declared.octets.Endianness.{Endianness}
use Rattle.cap_pcap.specs.declared.octets.Endianness.TheVariants as orders
use Rattle.cap_pcap.proofs.Layouts.{behind-fault, behind-answer, first-fault}
use Rattle.cap_pcap.proofs.pcapng.read_next.Goals as goal

order_is : (o : Option Endianness) → unwrap_or o orders.Big ≡ order_in o
order_is None = refl
order_is (Some o) = refl

pub returns-in_err-kind-clause-answer : goal.returns-in_err-kind-clause-answer
unfolding next_block
returns-in_err-kind-clause-answer g c =
    let p = err_from_is_err_and c.from_residual.result c.from_residual.ensures.1 in
    rw (p.1, p.2)
    (first-fault _ _ _ _ _ c.in_err-kind.ensures.answer)

pub returns-in_err-block-clause-answer : goal.returns-in_err-block-clause-answer
unfolding next_block
returns-in_err-block-clause-answer g c =
    let p = err_from_is_err_and c.from_residual-in_err-block.result
    c.from_residual-in_err-block.ensures.1 in
    let kind = rw c.in-Some.is at c.in_ok-kind.ensures.answer in
    let order = c.unwrap_or-in_order.ensures ∙ order_is c.args.order in
    rw (p.1, p.2)
    (behind-fault _ _ c.in-Some.kind _ _ _ _ kind
    (rw order at c.in_err-block.ensures.answer))

pub returns-clause-answer : goal.returns-clause-answer
unfolding next_block
returns-clause-answer g c =
    let kind = rw c.in-Some.is at c.in_ok-kind.ensures.answer in
    let order = c.unwrap_or-in_order.ensures ∙ order_is c.args.order in
    behind-answer _ _ c.in-Some.kind (Ok _) _ _ _ kind
    (rw order at c.in_ok-block.ensures.answer)
