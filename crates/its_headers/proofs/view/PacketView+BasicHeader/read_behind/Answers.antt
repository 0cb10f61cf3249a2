use Rattle.std.proofs.Common.{ℕ, ◌-◌, List, take, length-take, ap, sym, subst, ◌∙◌, arith}
use Rattle.std.proofs.lemmas.Result.{err_from_is_err_and}
use Rattle.its_headers.specs.Encoding.{Encodes}
use Rattle.its_headers.specs.Inner.{inner_octets}
use Rattle.its_headers.specs.Seen.{seen_of, IsEncoding}
use Rattle.its_headers.proofs.Encodings.{read_front}
use Rattle.its_headers.proofs.InnerPackets.{inner_bytes, inner_end, inner_long, inner_take}
use Rattle.its_headers.proofs.PacketFaults.{fault_is_first}
use Rattle.its_headers.proofs.Views.{front_is, only_view, no_packet, read_to, not_read_by}
use Rattle.its_headers.proofs.view.PacketView+BasicHeader.read_behind.Goals as goal

pub returns-in_err-end-clause-only : goal.returns-in_err-end-clause-only
returns-in_err-end-clause-only c = λ p left w rest e is.
    let ended = inner_end c.args.basic c.args.plain.now c.left.result _ c.left.ensures.value
    c.left.ensures.range c.in_err-end.ensures in
    absurd (no_packet _ _ p left w rest (not_read_by _ _ ended) e is)

pub returns-in_err-end-clause-fault : goal.returns-in_err-end-clause-fault
returns-in_err-end-clause-fault c =
    let range = c.left.ensures.range in
    let ended = inner_end c.args.basic c.args.plain.now c.left.result _ c.left.ensures.value range
    c.in_err-end.ensures in
    let p = err_from_is_err_and c.from_residual.result c.from_residual.ensures.1 in
    rw (p.1, p.2)
    (fault_is_first _ _
    (inner_bytes c.args.basic c.args.plain.now range.0 range.2
    (λ i. omega (arith, c.type_inv.plain i)))
    (not_read_by _ _ ended))

pub slice_bounds-view-count : goal.slice_bounds-view-count
slice_bounds-view-count c =
    let range = c.left.ensures.range in
    let fits = inner_bytes c.args.basic c.args.plain.now range.0 range.2
    (λ i. omega (arith, c.type_inv.plain i)) in
    let r = read_to _ _ (inner_end c.args.basic c.args.plain.now c.left.result _
    c.left.ensures.value range c.in_ok-end.ensures) in
    let f = read_front _ _ _ fits r.1 in
    omega (arith, inner_long _ _ _ _ f.encodes)

pub slice_bounds-view-length : goal.slice_bounds-view-length
slice_bounds-view-length c =
    let range = c.left.ensures.range in
    let fits = inner_bytes c.args.basic c.args.plain.now range.0 range.2
    (λ i. omega (arith, c.type_inv.plain i)) in
    let r = read_to _ _ (inner_end c.args.basic c.args.plain.now c.left.result _
    c.left.ensures.value range c.in_ok-end.ensures) in
    let f = read_front _ _ _ fits r.1 in
    omega (
      arith,
      f.inside,
      inner_long _ _ _ _ f.encodes,
      length-take (c.in_ok-end.end - 4) c.args.plain.now,
    )

pub invariant_of-view : goal.invariant_of-view
invariant_of-view c =
    let b = c.args.basic in
    let p = c.args.plain.now in
    let range = c.left.ensures.range in
    let fits = inner_bytes b p range.0 range.2 (λ i. omega (arith, c.type_inv.plain i)) in
    let r = read_to _ _ (inner_end b p c.left.result _ c.left.ensures.value range
    c.in_ok-end.ensures) in
    let f = read_front _ _ _ fits r.1 in
    subst IsEncoding (inner_take b p c.in_ok-end.end (inner_long _ _ _ _ f.encodes))
    (front_is _ _ _ fits r.1)

pub returns-clause-found : goal.returns-clause-found
returns-clause-found c =
    let b = c.args.basic in
    let p = c.args.plain.now in
    let range = c.left.ensures.range in
    let fits = inner_bytes b p range.0 range.2 (λ i. omega (arith, c.type_inv.plain i)) in
    let r = read_to _ _ (inner_end b p c.left.result _ c.left.ensures.value range
    c.in_ok-end.ensures) in
    let f = read_front _ _ _ fits r.1 in
    let front = inner_take b p c.in_ok-end.end (inner_long _ _ _ _ f.encodes) in (
      omega (arith, f.inside),
      subst
          (λ (w : List ℕ). Encodes (seen_of w).pdu (seen_of w).left
          (take c.in_ok-end.end (inner_octets b p)))
          front (front_is _ _ _ fits r.1),
    )

pub returns-clause-only : goal.returns-clause-only
returns-clause-only c = λ p left w rest e is.
    let b = c.args.basic in
    let plain = c.args.plain.now in
    let range = c.left.ensures.range in
    let fits = inner_bytes b plain range.0 range.2 (λ i. omega (arith, c.type_inv.plain i)) in
    let r = read_to _ _ (inner_end b plain c.left.result _ c.left.ensures.value range
    c.in_ok-end.ensures) in
    let f = read_front _ _ _ fits r.1 in
    let front = inner_take b plain c.in_ok-end.end (inner_long _ _ _ _ f.encodes) in
    let only = only_view _ _ _ p left w rest fits r.1 e is in
    (ap seen_of (sym front) ∙ only.0, only.1)
