use Rattle.std.proofs.Common.{arith, rules, ◌∙◌}
use Rattle.std.proofs.lemmas.Result.{err_from_is_err_and}
use Rattle.its_formats.proofs.Found.{number_at-ok}
use Rattle.its_headers.proofs.Judged.{types_then, common_judged}
use Rattle.its_headers.proofs.wire.common.check_common.Goals as goal
use Rattle.its_headers.specs.Format.{packet_faults}

pub returns-then-branch-left-clause-reading : goal.returns-then-branch-left-clause-reading
returns-then-branch-left-clause-reading g c =
    types_then _ _ _ c.in_ok-header_type.ensures ∙ search rules

pub returns-then-branch-ne0-2-clause-reading : goal.returns-then-branch-ne0-2-clause-reading
returns-then-branch-ne0-2-clause-reading g c =
    types_then _ _ _ c.in_ok-header_type.ensures ∙ search rules

pub returns-in_err-octet_at-3-clause-reading : goal.returns-in_err-octet_at-3-clause-reading
returns-in_err-octet_at-3-clause-reading g c =
    let p = err_from_is_err_and c.from_residual-in_err-octet_at-3.result
    c.from_residual-in_err-octet_at-3.ensures.1 in
    rw (p.1, p.2) (types_then _ _ _ c.in_ok-header_type.ensures ∙ search rules)

pub returns-clause-reading : goal.returns-clause-reading
returns-clause-reading g c =
    let last = number_at-ok packet_faults 1 _ _ _ c.in_ok-octet_at-3.ensures.reading in
    let judged =
    common_judged c.args.left c.args.octets.now (
      c.in_ok-header_type.header_type,
      c.in_ok-header_type.sub_type,
    ) c.in_ok-header_type.ensures (omega (arith, last.0))
    (omega (arith, c.in_ok-octet_at.ensures.value, c.if-branch-ne0.false)) (search rules)
    (omega (arith, c.in_ok-octet_at-2.ensures.value, c.if-branch-left.false))
    (omega (arith, c.in_ok-octet_at-3.ensures.value, c.if-branch-ne0-2.false)) in
    rw (c.kind_of.ensures, c.shape_of.ensures, c.in_ok-length.ensures.value) judged
