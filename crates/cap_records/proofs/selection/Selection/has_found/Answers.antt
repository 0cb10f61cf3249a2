use Rattle.std.proofs.Common.{subst, sym}
use Rattle.cap_records.specs.FoundFrames.{IsFoundChosen, IsThere}
use Rattle.cap_records.specs.declared.found.Found.{Found}
use Rattle.cap_records.proofs.selection.Selection.has_found.Goals as goal

pub has_frame-requires : goal.has_frame-requires
has_frame-requires c = subst (IsThere c.args.octets.now) c.in-Profile.is c.requires

pub has_outside-requires : goal.has_outside-requires
has_outside-requires c = subst (IsThere c.args.octets.now) c.in-Outside.is c.requires

pub returns-in-Profile : goal.returns-in-Profile
returns-in-Profile c =
    subst (λ (x : Found). IsFoundChosen c.args.self.now.choice c.args.moment c.args.octets.now x
    c.has_frame.result) (sym c.in-Profile.is) c.has_frame.ensures

pub returns-in-Outside : goal.returns-in-Outside
returns-in-Outside c =
    subst (λ (x : Found). IsFoundChosen c.args.self.now.choice c.args.moment c.args.octets.now x
    c.has_outside.result) (sym c.in-Outside.is) c.has_outside.ensures
