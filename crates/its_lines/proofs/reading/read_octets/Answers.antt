use Rattle.std.proofs.Common.{ap, sym, ◌∙◌}
use Rattle.serde_json.specs.View.{view}
use Rattle.its_lines.specs.declared.reading.OctetsFault.TheVariants as octets_faults
use Rattle.its_lines.proofs.Secured.{of_key}
use Rattle.its_lines.proofs.reading.read_octets.Goals as goal

pub returns-in-Err-Bad-clause-fault : goal.returns-in-Err-Bad-clause-fault
returns-in-Err-Bad-clause-fault c =
    of_key c.args.key c.word.result.now (view c.args.members.now.0.now) c.in-Err-Bad.field-0
    c.in-Err-Bad.wrong c.bad.result c.word.ensures
    (c.in-Err-Bad.field-0-is ∙ ap octets_faults.Bad (sym c.in-Err-Bad.wrong-is))
    c.in-Err-Bad.ensures.fault c.bad.ensures
