use Rattle.std.proofs.Common.{◌∙◌}
use Rattle.its_duties.proofs.RoleLaws.{relay_maybe}
use Rattle.its_duties.proofs.role.may_be_relay.Goals as goal

pub returns-clause-role : goal.returns-clause-role
returns-clause-role c = λ r longer is same.
    c.may_be_relay_of.ensures
    ∙ relay_maybe c.args.claims.now c.args.role c.args.octets.now r longer is same
