use Rattle.std.proofs.Common.{◌∙◌}
use Rattle.its_linkframe.proofs.Makings.{EncodesFrame-retarget}
use Rattle.its_linkframe.proofs.building.retarget.Goals as goal

pub returns-clause-target : goal.returns-clause-target
returns-clause-target c =
    λ t enc. EncodesFrame-retarget t c.args.to _ _ (c.copy_from_slice.ensures.after
    ∙ c.octets-target.ensures.octets) c.octets-target.ensures.fits enc
