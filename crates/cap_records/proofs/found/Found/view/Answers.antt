use Rattle.std.proofs.Common.{subst}
use Rattle.cap_records.specs.FoundFrames.{IsThere}
use Rattle.cap_records.proofs.found.Found.view.Goals as goal

pub view-requires : goal.view-requires
view-requires c = subst (IsThere c.args.octets.now) c.in-Profile.is c.requires

pub view-requires-in-Outside : goal.view-requires-in-Outside
view-requires-in-Outside c = subst (IsThere c.args.octets.now) c.in-Outside.is c.requires
