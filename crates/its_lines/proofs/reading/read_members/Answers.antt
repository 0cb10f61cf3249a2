use Rattle.std.proofs.Common.{subst, sym, ap, ◌∙◌}
use Rattle.serde_json.specs.View.{view}
use Rattle.its_lines.specs.Requests.{IsIdFault}
use Rattle.its_lines.specs.declared.reading.ReadFault.{ReadFault}
use Rattle.its_lines.specs.declared.reading.ReadFault.TheVariants as read_faults
use Rattle.its_lines.proofs.Read.{asks_no_id}
use Rattle.its_lines.proofs.reading.read_members.Goals as goal

pub returns-in-Err-Bad-clause-asks : goal.returns-in-Err-Bad-clause-asks
returns-in-Err-Bad-clause-asks c =
    let members = view c.args.members.now.0.now in
    asks_no_id c.args.now members _
    (subst (λ (e : ReadFault). IsIdFault members e)
    (c.in-Err-Bad.field-0-is ∙ ap read_faults.Bad (sym c.in-Err-Bad.fault-is))
    c.in-Err-Bad.ensures.fault)
