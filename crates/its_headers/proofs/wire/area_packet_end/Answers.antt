use Rattle.std.proofs.Common.{ℕ, Result, ap, sym, arith, rules, ◌∙◌}
use Rattle.std.proofs.lemmas.Result.{err_from_is_err_and}
use Rattle.its_faults.specs.declared.packet.Fault.{Fault}
use Rattle.its_gnvalue.specs.Values.{PositionVector}
use Rattle.its_model.specs.Packet.{Body, geobroadcast, geoanycast}
use Rattle.its_formats.specs.Format.{end_of}
use Rattle.its_headers.proofs.Judged.{area_packet_then}
use Rattle.its_headers.proofs.wire.area_packet_end.Goals as goal

abbrev end_at : Result ((PositionVector × Body) × ℕ) Fault → Result ℕ Fault
end_at r = end_of r

pub returns-then-branch-ne0-2-clause-gbc : goal.returns-then-branch-ne0-2-clause-gbc
returns-then-branch-ne0-2-clause-gbc g c =
    sym (ap end_at
    (area_packet_then geobroadcast c.args.shape c.args.size c.args.octets.now
    _ _ _ _ c.in_ok-pass_number.ensures c.in_ok-u16_at.ensures.reading
    (omega (arith, c.if-branch-ne0.false)) c.in_ok-check_vector.ensures c.in_ok-check_area.ensures)
    ∙ search rules)

pub returns-in_err-check_payload-clause-gbc : goal.returns-in_err-check_payload-clause-gbc
returns-in_err-check_payload-clause-gbc g c =
    let p = err_from_is_err_and c.from_residual-in_err-check_payload.result
    c.from_residual-in_err-check_payload.ensures.1 in
    sym (ap end_at
    (area_packet_then geobroadcast c.args.shape c.args.size c.args.octets.now
    _ _ _ _ c.in_ok-pass_number.ensures c.in_ok-u16_at.ensures.reading
    (omega (arith, c.if-branch-ne0.false)) c.in_ok-check_vector.ensures c.in_ok-check_area.ensures)
    ∙ rw (p.1, p.2) (search rules))

pub returns-then-branch-ne0-2-clause-gac : goal.returns-then-branch-ne0-2-clause-gac
returns-then-branch-ne0-2-clause-gac g c =
    sym (ap end_at
    (area_packet_then geoanycast c.args.shape c.args.size c.args.octets.now
    _ _ _ _ c.in_ok-pass_number.ensures c.in_ok-u16_at.ensures.reading
    (omega (arith, c.if-branch-ne0.false)) c.in_ok-check_vector.ensures c.in_ok-check_area.ensures)
    ∙ search rules)

pub returns-in_err-check_payload-clause-gac : goal.returns-in_err-check_payload-clause-gac
returns-in_err-check_payload-clause-gac g c =
    let p = err_from_is_err_and c.from_residual-in_err-check_payload.result
    c.from_residual-in_err-check_payload.ensures.1 in
    sym (ap end_at
    (area_packet_then geoanycast c.args.shape c.args.size c.args.octets.now
    _ _ _ _ c.in_ok-pass_number.ensures c.in_ok-u16_at.ensures.reading
    (omega (arith, c.if-branch-ne0.false)) c.in_ok-check_vector.ensures c.in_ok-check_area.ensures)
    ∙ rw (p.1, p.2) (search rules))

pub returns-in_err-u16_at-2-clause-gbc : goal.returns-in_err-u16_at-2-clause-gbc
returns-in_err-u16_at-2-clause-gbc g c =
    let p = err_from_is_err_and c.from_residual-in_err-u16_at-2.result
    c.from_residual-in_err-u16_at-2.ensures.1 in
    sym (ap end_at
    (area_packet_then geobroadcast c.args.shape c.args.size c.args.octets.now
    _ _ _ _ c.in_ok-pass_number.ensures c.in_ok-u16_at.ensures.reading
    (omega (arith, c.if-branch-ne0.false)) c.in_ok-check_vector.ensures c.in_ok-check_area.ensures)
    ∙ rw (p.1, p.2) (search rules))

pub returns-in_err-u16_at-2-clause-gac : goal.returns-in_err-u16_at-2-clause-gac
returns-in_err-u16_at-2-clause-gac g c =
    let p = err_from_is_err_and c.from_residual-in_err-u16_at-2.result
    c.from_residual-in_err-u16_at-2.ensures.1 in
    sym (ap end_at
    (area_packet_then geoanycast c.args.shape c.args.size c.args.octets.now
    _ _ _ _ c.in_ok-pass_number.ensures c.in_ok-u16_at.ensures.reading
    (omega (arith, c.if-branch-ne0.false)) c.in_ok-check_vector.ensures c.in_ok-check_area.ensures)
    ∙ rw (p.1, p.2) (search rules))
