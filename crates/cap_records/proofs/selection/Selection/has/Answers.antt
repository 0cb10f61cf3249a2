use Rattle.std.proofs.Common.{◌∙◌, Bool, IfOk, None, Result, ap, subst, sym}
use Rattle.cap_records.proofs.FoundRecords.{any_chosen}
use Rattle.cap_records.specs.Choosing.{selects}
use Rattle.cap_records.specs.FoundFrames.{IsChosenBy, IsThere}
use Rattle.cap_records.specs.declared.found.Found.{Found}
use Rattle.cap_records.specs.declared.refusal.RecordFault.{RecordFault}
use Rattle.cap_records.proofs.selection.Selection.has.Goals as goal

pub has_found-requires : goal.has_found-requires
has_found-requires c =
    subst (λ (x : Result Found RecordFault). IfOk x (IsThere c.args.octets.now)) c.in-Ok.is
    c.requires

pub returns-then-has_any : goal.returns-then-has_any
returns-then-has_any c =
    any_chosen c.args.self.now.choice c.args.moment c.args.octets.now c.args.found.now
    (c.has_any.ensures c.if-has_any.true)

pub returns-in-Ok : goal.returns-in-Ok
returns-in-Ok c =
    subst (λ (x : Result Found RecordFault). IsChosenBy c.args.self.now.choice c.args.moment
    c.args.octets.now x c.has_found.result) (sym c.in-Ok.is) c.has_found.ensures

pub returns-in-Err : goal.returns-in-Err
returns-in-Err c =
    subst (λ (x : Result Found RecordFault). IsChosenBy c.args.self.now.choice c.args.moment
    c.args.octets.now x c.selects.result) (sym c.in-Err.is)
    (c.selects.ensures
    ∙ ap (λ (other : Bool). selects c.args.self.now.choice c.args.moment None other)
    c.is_other.ensures)
