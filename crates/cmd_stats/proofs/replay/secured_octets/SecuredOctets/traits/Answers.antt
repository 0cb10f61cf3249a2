use Rattle.std.proofs.Common.{IfOk, List, ℕ, Result, subst, sym}
use Rattle.its_faults.specs.declared.secured.SecuredFault.{SecuredFault}
use Rattle.its_linkframe.specs.Secured.{IsVerifiedFault}
use Rattle.cap_records.specs.SignedFrames.{plain_octets}
use Rattle.cap_records.specs.declared.refusal.RecordFault.{RecordFault}
use Rattle.cap_records.specs.declared.signed.PlainPart.{PlainPart}
use Rattle.cmd_stats.proofs.replay.secured_octets.SecuredOctets.traits.Goals as goal

pub returns-in-Err : goal.returns-in-Err
returns-in-Err c =
    let fault = c.in-Err.field-0 in
    let found = subst (λ (p : List ℕ). IsVerifiedFault c.as_slice-frame.result.now p fault)
    c.octets.ensures c.in-Err.ensures.fault in
    let inside = subst
    (λ (w : List ℕ). IsVerifiedFault w (plain_octets w c.in-Ok.plain) fault)
    c.as_slice-frame.ensures.value found in
    subst
    (λ (r : Result PlainPart RecordFault). IfOk r (λ part. (f : SecuredFault)
    × IsVerifiedFault c.args.self.now.frame.items
    (plain_octets c.args.self.now.frame.items part) f))
    (sym c.in-Ok.is) (fault, inside)
