use Rattle.std.proofs.Common.{arith, suc}
use Rattle.std.proofs.lemmas.Result.{err_from_is_err_and}
use Rattle.cap_pcap.proofs.OptionChains.{no-options, more-options, last-option, no-more-options}
use Rattle.cap_pcap.proofs.OptionChains.{option-fault}
use Rattle.cap_pcap.proofs.options.read_options.Goals as goal

pub loop-left-init : goal.loop-left-init
loop-left-init g c = ((cc), 0, no-options c.args.order c.args.room c.args.interface _)

pub loop-left-preserved : goal.loop-left-preserved
loop-left-preserved g c =
    let before = c.loop-left.invariant in (
      omega (arith, before.0, c.in_ok-turn.ensures.counts),
      suc before.1,
      more-options _ _ _ before.1 _ _ _ _ _ _ before.2 (omega arith)
          c.in_ok-turn.ensures.answer c.if-turn.false,
    )

pub returns-in_err-turn-clause-answer : goal.returns-in_err-turn-clause-answer
returns-in_err-turn-clause-answer g c =
    let before = c.loop-left.invariant in
    let p = err_from_is_err_and c.from_residual.result c.from_residual.ensures.1 in
    rw (p.1, p.2)
    (option-fault _ _ _ before.1 _ _ _ _ _ _ before.2 (omega arith) c.in_err-turn.ensures.answer)

pub returns-then-turn-clause-answer : goal.returns-then-turn-clause-answer
returns-then-turn-clause-answer g c =
    let before = c.loop-left.invariant in
    last-option _ _ _ before.1 _ _ _ _ _ _ before.2 (omega arith) c.in_ok-turn.ensures.answer
    c.if-turn.true

pub returns-clause-answer : goal.returns-clause-answer
returns-clause-answer g c =
    let before = c.loop-left.invariant in
    no-more-options _ _ _ before.1 _ _ _ _ before.2 (omega arith)
