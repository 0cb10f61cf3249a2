use Rattle.std.proofs.lemmas.Result.{err_from_is_err_and}
use Rattle.its_linkframe.proofs.Heads.{IsReadFault-after_head}
use Rattle.its_linkframe.proofs.reader.read_record.Goals as goal

pub returns-in_err-read_octets-clause-fault : goal.returns-in_err-read_octets-clause-fault
returns-in_err-read_octets-clause-fault g c =
    let head = rw c.in-Some.is at c.in_ok-moment.ensures.head in
    let p = err_from_is_err_and c.from_residual-in_err-read_octets.result
    c.from_residual-in_err-read_octets.ensures.1 in
    rw (p.1, p.2)
    (IsReadFault-after_head _ _ _ c.in-Some.moment c.in-Some.size c.in_err-read_octets.field-0.0
    head.1 head.2 c.in_err-read_octets.ensures.fault)
