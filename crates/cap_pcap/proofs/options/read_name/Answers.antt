use Rattle.std.proofs.Common.{◌≡◌, refl, Ok, arith, take, length, length-take, ◌-◌, ◌%◌}
use Rattle.std.proofs.lemmas.Result.{err_from_is_err_and}
use Rattle.cap_pcap.proofs.Layouts.{behind-fault, behind-answer, first-fault}
use Rattle.cap_pcap.proofs.Layouts.{reads, part-cut, octets-read}
use Rattle.cap_pcap.proofs.OptionChains.{has-name}
use Rattle.cap_pcap.specs.Interfaces.{name, text}
use Rattle.cap_pcap.specs.Layouts.{octets}
use Rattle.cap_pcap.proofs.options.read_name.Goals as goal

pub returns-in_err-fill_front-clause-answer : goal.returns-in_err-fill_front-clause-answer
unfolding name
returns-in_err-fill_front-clause-answer g c =
    let p = err_from_is_err_and c.from_residual.result c.from_residual.ensures.1 in
    rw (p.1, p.2)
    (first-fault _ _ _ _ _ (part-cut (text c.args.size) c.args.size _ _ _ (λ w few. few)
    c.in_err-fill_front.ensures.fault))

pub returns-in_err-skip-clause-answer : goal.returns-in_err-skip-clause-answer
unfolding name
returns-in_err-skip-clause-answer g c =
    let p = err_from_is_err_and c.from_residual-in_err-skip.result
    c.from_residual-in_err-skip.ensures.1 in
    let w = take c.args.size c.fill_front.new.buf in
    let size : length w ≡ c.args.size =
    omega (arith, length-take c.args.size c.fill_front.new.buf) in
    let rest = (4 - c.args.size % 4) % 4 in
    rw (p.1, p.2)
    (behind-fault _ _ w _ _ _ _
    (reads ((text c.args.size).Is w) _ _ w (size, refl) c.in_ok-fill_front.ensures.front)
    (first-fault _ _ _ _ _ (part-cut (octets rest) rest _ _ _ (λ v few. few)
    c.in_err-skip.ensures.fault)))

pub returns-clause-answer : goal.returns-clause-answer
unfolding name
returns-clause-answer g c =
    let w = take c.args.size c.fill_front.new.buf in
    let size : length w ≡ c.args.size =
    omega (arith, length-take c.args.size c.fill_front.new.buf) in
    let rest = (4 - c.args.size % 4) % 4 in
    behind-answer _ _ w (Ok _) _ _ _
    (reads ((text c.args.size).Is w) _ _ w (size, refl) c.in_ok-fill_front.ensures.front)
    (behind-answer _ _ tt (Ok _) _ _ _ (octets-read rest _ _ c.in_ok-skip.ensures.octets)
    (has-name c.args.interface w _ _ c.named.ensures refl refl refl))
