use Rattle.std.proofs.Common.{refl, Ok}
use Rattle.std.proofs.lemmas.Result.{err_from_is_err_and}
use Rattle.cap_pcap.proofs.Layouts.{behind-fault, behind-answer, first-fault}
use Rattle.cap_pcap.proofs.OptionChains.{is-turn}
use Rattle.cap_pcap.specs.Interfaces.{one_option}
use Rattle.cap_pcap.proofs.options.read_option.Goals as goal

pub returns-in_err-kind-clause-answer : goal.returns-in_err-kind-clause-answer
unfolding one_option
returns-in_err-kind-clause-answer g c =
    let p = err_from_is_err_and c.from_residual.result c.from_residual.ensures.1 in
    rw (p.1, p.2)
    (first-fault _ _ _ _ _ c.in_err-kind.ensures.answer)

pub returns-in_err-known-clause-answer : goal.returns-in_err-known-clause-answer
unfolding one_option
returns-in_err-known-clause-answer g c =
    let p = err_from_is_err_and c.from_residual-in_err-known.result c.from_residual-in_err-known.ensures.1 in
    rw (p.1, p.2)
    (behind-fault _ _ (c.in_ok-kind.kind, c.in_ok-kind.room) _ _ _ _ c.in_ok-kind.ensures.answer
    (first-fault _ _ _ _ _ c.in_err-known.ensures.answer))

pub returns-clause-answer : goal.returns-clause-answer
unfolding one_option
returns-clause-answer g c =
    (behind-answer _ _ (c.in_ok-kind.kind, c.in_ok-kind.room) (Ok _) _ _ _ c.in_ok-kind.ensures.answer
    (behind-answer _ _ c.in_ok-known.known (Ok _) _ _ _ c.in_ok-known.ensures.answer
    (is-turn c.args.left _ _ _ _ refl refl c.ends.ensures)))
