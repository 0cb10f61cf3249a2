use Rattle.std.proofs.Common.{arith, length-take}
use Rattle.std.proofs.lemmas.Result.{err_from_is_err_and}
use Rattle.its_headers.proofs.Encodings.{read_front}
use Rattle.its_headers.proofs.Views.{front_is, only_view, no_packet, read_to, not_read_by}
use Rattle.its_headers.proofs.PacketFaults.{fault_is_first}
use Rattle.its_headers.proofs.view.PacketView.read.Goals as goal

pub returns-in_err-length-clause-only : goal.returns-in_err-length-clause-only
returns-in_err-length-clause-only c =
    λ p left w rest e is.
    absurd (no_packet _ _ p left w rest (not_read_by _ _ c.in_err-length.ensures) e is)

pub returns-in_err-length-clause-fault : goal.returns-in_err-length-clause-fault
returns-in_err-length-clause-fault c =
    let p = err_from_is_err_and c.from_residual.result c.from_residual.ensures.1 in
    rw (p.1, p.2)
    (fault_is_first _ _ (λ i. omega (arith, c.type_inv.octets i))
    (not_read_by _ _ c.in_err-length.ensures))

pub slice_bounds-view-end : goal.slice_bounds-view-end
slice_bounds-view-end c =
    let r = read_to _ _ c.in_ok-length.ensures in
    let f = read_front _ _ _ (λ i. omega (arith, c.type_inv.octets i)) r.1 in
    omega (arith, f.inside, length-take c.in_ok-length.length c.args.octets.now)

pub invariant_of-view : goal.invariant_of-view
invariant_of-view c =
    front_is _ _ _ (λ i. omega (arith, c.type_inv.octets i)) (read_to _ _ c.in_ok-length.ensures).1

pub returns-clause-found : goal.returns-clause-found
returns-clause-found c =
    let r = read_to _ _ c.in_ok-length.ensures in
    let f = read_front _ _ _ (λ i. omega (arith, c.type_inv.octets i)) r.1 in
    (f.inside, front_is _ _ _ (λ i. omega (arith, c.type_inv.octets i)) r.1)

pub returns-clause-only : goal.returns-clause-only
returns-clause-only c =
    λ p left w rest e is.
    only_view _ _ _ p left w rest (λ i. omega (arith, c.type_inv.octets i))
    (read_to _ _ c.in_ok-length.ensures).1 e is
