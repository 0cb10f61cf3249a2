use Rattle.std.proofs.Common.{◌∙◌, arith, length-take}
use Rattle.its_linkframe.proofs.SecuredFrames.{secured_bounds, EncodesSecured-retarget}
use Rattle.its_linkframe.proofs.sealing.retarget_secured.Goals as goal

pub slice_bounds-copy_from_slice-end : goal.slice_bounds-copy_from_slice-end
slice_bounds-copy_from_slice-end c =
    omega (arith, (secured_bounds _ _ c.requires.encodes).0)

pub slice_bounds-copy_from_slice-end-2 : goal.slice_bounds-copy_from_slice-end-2
slice_bounds-copy_from_slice-end-2 c =
    omega (
      arith,
      (secured_bounds _ _ c.requires.encodes).0,
      length-take 6 c.args.frame.now,
    )

pub copy_from_slice-requires : goal.copy_from_slice-requires
copy_from_slice-requires c =
    omega (
      arith,
      (secured_bounds _ _ c.requires.encodes).0,
      length-take 6 c.args.frame.now,
    )

pub returns : goal.returns
returns c = λ s enc.
    EncodesSecured-retarget s c.args.to _ _ (c.copy_from_slice.ensures.after
    ∙ c.octets-target.ensures.octets) c.octets-target.ensures.fits enc
