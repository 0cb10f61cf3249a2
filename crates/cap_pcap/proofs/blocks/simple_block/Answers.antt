use Rattle.std.proofs.Common.{Ok, false}
use Rattle.std.proofs.lemmas.Result.{err_from_is_err_and}
use Rattle.cap_pcap.proofs.Layouts.{behind-fault, behind-answer, first-fault}
use Rattle.cap_pcap.proofs.Layouts.{gives-value}
use Rattle.cap_pcap.proofs.Layouts.{frame-read, frame-cut}
use Rattle.cap_pcap.proofs.Firsts.{first-read, first-wrong}
use Rattle.cap_pcap.specs.Blocks.{simple, ticks_of_zero}
use Rattle.cap_pcap.specs.declared.blocks.Block.{Block}
use Rattle.cap_pcap.specs.declared.blocks.Block.TheVariants as blocks
use Rattle.cap_pcap.proofs.blocks.simple_block.Goals as goal

pub returns-in_err-length-clause-answer : goal.returns-in_err-length-clause-answer
unfolding simple
returns-in_err-length-clause-answer g c =
    let p = err_from_is_err_and c.from_residual.result c.from_residual.ensures.1 in
    rw (p.1, p.2)
    (first-fault _ _ _ _ _ c.in_err-length.ensures.answer)

pub returns-in_err-interface-clause-answer : goal.returns-in_err-interface-clause-answer
unfolding simple
returns-in_err-interface-clause-answer g c =
    let p = err_from_is_err_and c.from_residual-in_err-interface.result c.from_residual-in_err-interface.ensures.1 in
    rw (p.1, p.2)
    (behind-fault _ _ c.in_ok-length.length _ _ _ _ c.in_ok-length.ensures.answer
    (first-fault _ _ _ _ _ (first-wrong _ _ _ c.in_err-interface.ensures)))

pub returns-in_err-wire-clause-answer : goal.returns-in_err-wire-clause-answer
unfolding simple
returns-in_err-wire-clause-answer g c =
    let p = err_from_is_err_and c.from_residual-in_err-wire.result c.from_residual-in_err-wire.ensures.1 in
    rw (p.1, p.2)
    (behind-fault _ _ c.in_ok-length.length _ _ _ _ c.in_ok-length.ensures.answer
    (behind-fault _ _ c.in_ok-interface.interface _ _ _ _ (first-read _ _ _ c.in_ok-interface.ensures)
    (first-fault _ _ _ _ _ c.in_err-wire.ensures.answer)))

pub returns-in_err-read_record_octets-clause-answer : goal.returns-in_err-read_record_octets-clause-answer
unfolding simple
returns-in_err-read_record_octets-clause-answer g c =
    let p = err_from_is_err_and c.from_residual-in_err-read_record_octets.result c.from_residual-in_err-read_record_octets.ensures.1 in
    rw (p.1, p.2)
    (behind-fault _ _ c.in_ok-length.length _ _ _ _ c.in_ok-length.ensures.answer
    (behind-fault _ _ c.in_ok-interface.interface _ _ _ _ (first-read _ _ _ c.in_ok-interface.ensures)
    (behind-fault _ _ (c.in_ok-wire.wire, c.in_ok-wire.captured) _ _ _ _ c.in_ok-wire.ensures.answer
    (first-fault _ _ _ _ _ (frame-cut c.in_ok-wire.captured c.args.keep c.read_record_octets.new.frame.items _ _ _ c.in_err-read_record_octets.ensures.fault)))))

pub returns-in_err-end_block-clause-answer : goal.returns-in_err-end_block-clause-answer
unfolding simple
returns-in_err-end_block-clause-answer g c =
    let p = err_from_is_err_and c.from_residual-in_err-end_block.result c.from_residual-in_err-end_block.ensures.1 in
    rw (p.1, p.2)
    (behind-fault _ _ c.in_ok-length.length _ _ _ _ c.in_ok-length.ensures.answer
    (behind-fault _ _ c.in_ok-interface.interface _ _ _ _ (first-read _ _ _ c.in_ok-interface.ensures)
    (behind-fault _ _ (c.in_ok-wire.wire, c.in_ok-wire.captured) _ _ _ _ c.in_ok-wire.ensures.answer
    (behind-fault _ _ tt _ _ _ _ (frame-read _ _ _ _ _ c.in_ok-read_record_octets.ensures.frame)
    (first-fault _ _ _ _ _ c.in_err-end_block.ensures.answer)))))

pub returns-clause-answer : goal.returns-clause-answer
unfolding simple
returns-clause-answer g c =
    rw c.ticks_of_zero.ensures
    (behind-answer _ _ c.in_ok-length.length (Ok _) _ _ _ c.in_ok-length.ensures.answer
    (behind-answer _ _ c.in_ok-interface.interface (Ok _) _ _ _ (first-read _ _ _ c.in_ok-interface.ensures)
    (behind-answer _ _ (c.in_ok-wire.wire, c.in_ok-wire.captured) (Ok _) _ _ _ c.in_ok-wire.ensures.answer
    (behind-answer _ _ tt (Ok _) _ _ _ (frame-read _ _ _ _ _ c.in_ok-read_record_octets.ensures.frame)
    (behind-answer _ _ tt (Ok _) _ _ _ c.in_ok-end_block.ensures.answer
    (gives-value {A = Block} (blocks.Record (record {
      moment = 0;
      fine = record {
        nanos = 0;
        finer = false;
        ticks = ticks_of_zero c.in_ok-interface.interface.info.head.offset;
      };
      interface = c.in_ok-interface.interface.number;
      captured = c.in_ok-wire.captured;
      wire = c.in_ok-wire.wire;
      layer = c.in_ok-interface.interface.info.layer;
    })) _))))))
