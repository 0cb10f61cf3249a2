use Rattle.std.proofs.Common.{◌∙◌}
use Rattle.its_duties.proofs.RoleLaws.{role_proof, unread_proof}
use Rattle.its_duties.proofs.role.role_of.Goals as goal

pub returns-clause-role : goal.returns-clause-role
returns-clause-role c = λ r is.
    c.role_by.ensures ∙ role_proof c.args.claims.now c.args.facts.now c.args.octets.now r is

pub returns-clause-unread : goal.returns-clause-unread
returns-clause-unread c = λ r is read u.
    unread_proof c.args.claims.now c.args.facts.now c.args.octets.now r _ c.role_by.ensures is read u
