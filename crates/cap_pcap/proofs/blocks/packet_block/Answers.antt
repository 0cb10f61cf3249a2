use Rattle.std.proofs.Common.{Ok}
use Rattle.std.proofs.lemmas.Result.{err_from_is_err_and}
use Rattle.cap_pcap.proofs.Layouts.{behind-fault, behind-answer, first-fault}
use Rattle.cap_pcap.proofs.Layouts.{gives-value}
use Rattle.cap_pcap.proofs.Layouts.{frame-read, frame-cut}
use Rattle.cap_pcap.specs.Blocks.{packet}
use Rattle.cap_pcap.specs.declared.blocks.Block.{Block}
use Rattle.cap_pcap.specs.declared.blocks.Block.TheVariants as blocks
use Rattle.cap_pcap.proofs.blocks.packet_block.Goals as goal

pub returns-in_err-length-clause-answer : goal.returns-in_err-length-clause-answer
unfolding packet
returns-in_err-length-clause-answer g c =
    let p = err_from_is_err_and c.from_residual.result c.from_residual.ensures.1 in
    rw (p.1, p.2)
    (first-fault _ _ _ _ _ c.in_err-length.ensures.answer)

pub returns-in_err-interface-clause-answer : goal.returns-in_err-interface-clause-answer
unfolding packet
returns-in_err-interface-clause-answer g c =
    let p = err_from_is_err_and c.from_residual-in_err-interface.result c.from_residual-in_err-interface.ensures.1 in
    rw (p.1, p.2)
    (behind-fault _ _ c.in_ok-length.length _ _ _ _ c.in_ok-length.ensures.answer
    (first-fault _ _ _ _ _ c.in_err-interface.ensures.answer))

pub returns-in_err-moment-clause-answer : goal.returns-in_err-moment-clause-answer
unfolding packet
returns-in_err-moment-clause-answer g c =
    let p = err_from_is_err_and c.from_residual-in_err-moment.result c.from_residual-in_err-moment.ensures.1 in
    rw (p.1, p.2)
    (behind-fault _ _ c.in_ok-length.length _ _ _ _ c.in_ok-length.ensures.answer
    (behind-fault _ _ c.in_ok-interface.interface _ _ _ _ c.in_ok-interface.ensures.answer
    (first-fault _ _ _ _ _ c.in_err-moment.ensures.answer)))

pub returns-in_err-captured-clause-answer : goal.returns-in_err-captured-clause-answer
unfolding packet
returns-in_err-captured-clause-answer g c =
    let p = err_from_is_err_and c.from_residual-in_err-captured.result c.from_residual-in_err-captured.ensures.1 in
    rw (p.1, p.2)
    (behind-fault _ _ c.in_ok-length.length _ _ _ _ c.in_ok-length.ensures.answer
    (behind-fault _ _ c.in_ok-interface.interface _ _ _ _ c.in_ok-interface.ensures.answer
    (behind-fault _ _ (c.in_ok-moment.moment, c.in_ok-moment.fine) _ _ _ _ c.in_ok-moment.ensures.answer
    (first-fault _ _ _ _ _ c.in_err-captured.ensures.answer))))

pub returns-in_err-wire-clause-answer : goal.returns-in_err-wire-clause-answer
unfolding packet
returns-in_err-wire-clause-answer g c =
    let p = err_from_is_err_and c.from_residual-in_err-wire.result c.from_residual-in_err-wire.ensures.1 in
    rw (p.1, p.2)
    (behind-fault _ _ c.in_ok-length.length _ _ _ _ c.in_ok-length.ensures.answer
    (behind-fault _ _ c.in_ok-interface.interface _ _ _ _ c.in_ok-interface.ensures.answer
    (behind-fault _ _ (c.in_ok-moment.moment, c.in_ok-moment.fine) _ _ _ _ c.in_ok-moment.ensures.answer
    (behind-fault _ _ c.in_ok-captured.captured _ _ _ _ c.in_ok-captured.ensures.answer
    (first-fault _ _ _ _ _ c.in_err-wire.ensures.answer)))))

pub returns-in_err-read_record_octets-clause-answer : goal.returns-in_err-read_record_octets-clause-answer
unfolding packet
returns-in_err-read_record_octets-clause-answer g c =
    let p = err_from_is_err_and c.from_residual-in_err-read_record_octets.result c.from_residual-in_err-read_record_octets.ensures.1 in
    rw (p.1, p.2)
    (behind-fault _ _ c.in_ok-length.length _ _ _ _ c.in_ok-length.ensures.answer
    (behind-fault _ _ c.in_ok-interface.interface _ _ _ _ c.in_ok-interface.ensures.answer
    (behind-fault _ _ (c.in_ok-moment.moment, c.in_ok-moment.fine) _ _ _ _ c.in_ok-moment.ensures.answer
    (behind-fault _ _ c.in_ok-captured.captured _ _ _ _ c.in_ok-captured.ensures.answer
    (behind-fault _ _ c.in_ok-wire.wire _ _ _ _ c.in_ok-wire.ensures.answer
    (first-fault _ _ _ _ _ (frame-cut c.in_ok-captured.captured c.args.keep c.read_record_octets.new.frame.items _ _ _ c.in_err-read_record_octets.ensures.fault)))))))

pub returns-in_err-end_block-clause-answer : goal.returns-in_err-end_block-clause-answer
unfolding packet
returns-in_err-end_block-clause-answer g c =
    let p = err_from_is_err_and c.from_residual-in_err-end_block.result c.from_residual-in_err-end_block.ensures.1 in
    rw (p.1, p.2)
    (behind-fault _ _ c.in_ok-length.length _ _ _ _ c.in_ok-length.ensures.answer
    (behind-fault _ _ c.in_ok-interface.interface _ _ _ _ c.in_ok-interface.ensures.answer
    (behind-fault _ _ (c.in_ok-moment.moment, c.in_ok-moment.fine) _ _ _ _ c.in_ok-moment.ensures.answer
    (behind-fault _ _ c.in_ok-captured.captured _ _ _ _ c.in_ok-captured.ensures.answer
    (behind-fault _ _ c.in_ok-wire.wire _ _ _ _ c.in_ok-wire.ensures.answer
    (behind-fault _ _ tt _ _ _ _ (frame-read _ _ _ _ _ c.in_ok-read_record_octets.ensures.frame)
    (first-fault _ _ _ _ _ c.in_err-end_block.ensures.answer)))))))

pub returns-clause-answer : goal.returns-clause-answer
unfolding packet
returns-clause-answer g c =
    (behind-answer _ _ c.in_ok-length.length (Ok _) _ _ _ c.in_ok-length.ensures.answer
    (behind-answer _ _ c.in_ok-interface.interface (Ok _) _ _ _ c.in_ok-interface.ensures.answer
    (behind-answer _ _ (c.in_ok-moment.moment, c.in_ok-moment.fine) (Ok _) _ _ _ c.in_ok-moment.ensures.answer
    (behind-answer _ _ c.in_ok-captured.captured (Ok _) _ _ _ c.in_ok-captured.ensures.answer
    (behind-answer _ _ c.in_ok-wire.wire (Ok _) _ _ _ c.in_ok-wire.ensures.answer
    (behind-answer _ _ tt (Ok _) _ _ _ (frame-read _ _ _ _ _ c.in_ok-read_record_octets.ensures.frame)
    (behind-answer _ _ tt (Ok _) _ _ _ c.in_ok-end_block.ensures.answer
    (gives-value {A = Block} (blocks.Record (record {
      moment = c.in_ok-moment.moment;
      fine = c.in_ok-moment.fine;
      interface = c.in_ok-interface.interface.number;
      captured = c.in_ok-captured.captured;
      wire = c.in_ok-wire.wire;
      layer = c.in_ok-interface.interface.info.layer;
    })) _))))))))
