use Rattle.std.proofs.Common.{ap, length, length-drop, length-take, arith}
use Rattle.its_headers.proofs.wire.media.media_in.Goals as goal

pub slice_bounds-copy_from_slice-end-2 : goal.slice_bounds-copy_from_slice-end-2
slice_bounds-copy_from_slice-end-2 g c =
    omega (
      arith,
      c.requires,
      ap length c.behind.ensures,
      length-drop 36 c.args.octets.now,
      length-take 4 c.behind.result.now,
    )

pub copy_from_slice-requires : goal.copy_from_slice-requires
copy_from_slice-requires g c =
    omega (
      arith,
      c.requires,
      ap length c.behind.ensures,
      length-drop 36 c.args.octets.now,
      length-take 4 c.behind.result.now,
    )
