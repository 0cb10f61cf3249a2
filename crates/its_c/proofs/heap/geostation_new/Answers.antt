use Rattle.std.proofs.Common.{ℤ, ap, subst, arith}
use Rattle.std.proofs.Math.Facts.{to_z-of_z}
use mir.Syntax.{w32}
use mir.Val.{to_z, of_z}
use Rattle.its_gnvalue.specs.Values.{IsLatitude, IsLongitude}
use Rattle.its_c.proofs.heap.geostation_new.Goals as goal

pub returns-clause-taken : goal.returns-clause-taken
returns-clause-taken c = λ other.
    let taken = c.geostation_new_from_config.ensures.taken
    (λ is. other (ap (λ (z : ℤ). to_z w32 (of_z w32 z)) is)) in (
      taken.1,
      subst IsLatitude (to_z-of_z {w = w32} c.ranges.latitude) taken.2,
      subst IsLongitude (to_z-of_z {w = w32} c.ranges.longitude) taken.3,
      taken.0.1,
      taken.0.2,
      omega (arith, taken.0.3, c.from.ensures),
      omega (arith, taken.0.4, c.from.ensures),
    )
