use Rattle.std.proofs.Common.{subst, inr, List, ℕ}
use Rattle.its_linkframe.specs.Secured.{EncodesVerified, IsVerifiedFault}
use Rattle.cap_records.proofs.signed.find_packet.Goals as goal

pub returns-in-Ok-clause-packet : goal.returns-in-Ok-clause-packet
returns-in-Ok-clause-packet c =
    (c.in-Ok.field-0, subst (EncodesVerified c.in-Ok.field-0 c.args.frame.now) c.octets.ensures c.in-Ok.ensures.found)

pub returns-in-Err-clause-fault : goal.returns-in-Err-clause-fault
returns-in-Err-clause-fault c =
    inr (
      c.in_ok-found.found,
      c.in_ok-found.ensures.found,
      subst (λ (plain : List ℕ). IsVerifiedFault c.args.frame.now plain c.in-Err.fault) c.octets.ensures c.in-Err.ensures.fault,
    )
