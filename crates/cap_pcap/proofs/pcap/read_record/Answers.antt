use Rattle.std.proofs.Common.{◌≡◌, ◌++◌, length, refl, arith, length-append}
use Rattle.std.proofs.KnownBytes.{Consumes-trans}
use Rattle.std.proofs.lemmas.Result.{err_from_is_err_and}
use Rattle.cap_pcap.specs.Pcap.{HasRecord}
use Rattle.cap_pcap.proofs.Parts.{IfSome-of}
use Rattle.cap_pcap.proofs.PcapRecords.{Consumes-filled, AnnouncesRecord-parts, EndsInRecord-parts}
use Rattle.cap_pcap.proofs.PcapRecords.{EndsInRecord-head, IsRecordFault-cut, IsRecordFault-frame}
use Rattle.cap_pcap.proofs.PcapRecords.{HasRecord-parts}
use Rattle.cap_pcap.proofs.pcap.read_record.Goals as goal

pub returns-in_err-read_exact-clause-fault : goal.returns-in_err-read_exact-clause-fault
returns-in_err-read_exact-clause-fault g c =
    let p = err_from_is_err_and c.from_residual.result c.from_residual.ensures.1 in
    let head = c.fill.new.buf in
    let twelve : length head ≡ 12 = omega arith in
    let gone = Consumes-filled _ _ c.in-Some.n head (omega arith) c.in-Some.ensures.bytes in
    rw (p.1, p.2)
    (IsRecordFault-cut c.args.file.magic _ _ _ head 4 _ gone
    (λ v few. EndsInRecord-head c.args.file.magic head v c.u32_at-captured.result twelve
    c.u32_at-captured.ensures (omega arith) few)
    c.in_err-read_exact.ensures.fault)

pub returns-in_err-read_record_octets-clause-fault : goal.returns-in_err-read_record_octets-clause-fault
returns-in_err-read_record_octets-clause-fault g c =
    let p = err_from_is_err_and c.from_residual-in_err-read_record_octets.result
    c.from_residual-in_err-read_record_octets.ensures.1 in
    let head = c.fill.new.buf in
    let wire = c.read_exact.new.buf in
    let twelve : length head ≡ 12 = omega arith in
    let four : length wire ≡ 4 = omega arith in
    let gone = Consumes-trans _ _ _ _ _
    (Consumes-filled _ _ c.in-Some.n head (omega arith) c.in-Some.ensures.bytes)
    c.in_ok-read_exact.ensures.octets in
    rw (p.1, p.2)
    (IsRecordFault-frame c.args.file.magic _ _ _ (head ++ wire) c.u32_at-captured.result _ gone
    (omega (arith, twelve, four, length-append head wire))
    (λ v. AnnouncesRecord-parts c.args.file.magic head wire v c.u32_at-captured.result twelve
    c.u32_at-captured.ensures (omega arith))
    (λ v few. EndsInRecord-parts c.args.file.magic head wire v c.u32_at-captured.result twelve four
    c.u32_at-captured.ensures (omega arith) few)
    c.in_err-read_record_octets.ensures.fault)

pub returns-clause-step : goal.returns-clause-step
returns-clause-step g c =
    let f = c.args.file in
    let head = c.fill.new.buf in
    let wire = c.read_exact.new.buf in
    let frame = c.in_ok-read_record_octets.ensures.frame in
    let twelve : length head ≡ 12 = omega arith in
    let four : length wire ≡ 4 = omega arith in
    let gone = Consumes-trans _ _ _ _ _ (Consumes-trans _ _ _ _ _
    (Consumes-filled _ _ c.in-Some.n head (omega arith) c.in-Some.ensures.bytes)
    c.in_ok-read_exact.ensures.octets) frame.passes.consumes in
    record {
      is = IfSome-of (HasRecord f c.args.keep _ c.read_record_octets.new.frame.items) _ _ _ gone
          (λ v. HasRecord-parts f c.args.keep _ c.read_record_octets.new.frame.items head wire
          frame.passes.gone v twelve four frame.passes.size c.u32_at-captured.ensures
          (omega arith)
          (rw (c.moment_at.ensures, c.u32_at-seconds.ensures, c.u32_at-fraction.ensures) refl)
          (rw (c.fine_time_at.ensures, c.u32_at-seconds.ensures, c.u32_at-fraction.ensures) refl)
          refl
          c.u32_at.ensures refl frame.kept);
      passes = record {
        gone = (head ++ wire) ++ frame.passes.gone;
        size = omega (
          arith,
          twelve,
          four,
          frame.passes.size,
          length-append head wire,
          length-append (head ++ wire) frame.passes.gone,
        );
        consumes = gone;
      };
    }
