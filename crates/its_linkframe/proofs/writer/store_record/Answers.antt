use Rattle.its_linkframe.specs.Captures.{head_octets}
use Rattle.its_linkframe.proofs.CapturesWritten.{AppendsPrefix-longer}
use Rattle.its_linkframe.proofs.writer.store_record.Goals as goal

pub returns-in_err-store-clause-octets : goal.returns-in_err-store-clause-octets
returns-in_err-store-clause-octets g c =
    rw c.from_residual.ensures
    (AppendsPrefix-longer _ _ (head_octets c.args.moment _) c.args.frame.now
    (rw c.head_for.ensures at c.in_err-store.ensures.bytes))
