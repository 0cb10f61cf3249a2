use Rattle.cap_records.proofs.AnyFrames.{found_any}
use Rattle.cap_records.proofs.selection.Selection.find.Goals as goal

pub returns-then-self : goal.returns-then-self
returns-then-self c =
    found_any c.args.self.now.choice.all_kinds c.args.self.now.signed c.args.head.now
    c.args.octets.now.items c.find_any.new.octets.items c.find_any.result c.if-self.true
    c.find_any.ensures.found c.find_any.ensures.fault
