use Rattle.std.proofs.Common.{◌≡◌, ℤ, subst, sym, ap, ◌∙◌, arith}
use mir.Val.{to_z, of_z}
use mir.Syntax.{w32, w128}
use Rattle.std.proofs.lemmas.Int.{to_z-of_z}
use Rattle.its_gnvalue.specs.Values.{IsLatitude, IsLongitude, Position}
use Rattle.sim_moves.specs.Rows.{IsNumber}
use Rattle.sim_moves.specs.declared.columns.Column.TheVariants as columns
use Rattle.sim_moves.proofs.row.place_of.Goals as goal

-- a coordinate is one of 32 bits
latitude_same : (z : ℤ) → IsLatitude z → to_z w32 (of_z w32 (to_z w128 (of_z w128 z))) ≡ z
latitude_same z h =
    ap (λ (x : ℤ). to_z w32 (of_z w32 x)) (to_z-of_z w128 z (grind (arith, h)))
    ∙ to_z-of_z w32 z (grind (arith, h))

longitude_same : (z : ℤ) → IsLongitude z → to_z w32 (of_z w32 (to_z w128 (of_z w128 z))) ≡ z
longitude_same z h =
    ap (λ (x : ℤ). to_z w32 (of_z w32 x)) (to_z-of_z w128 z (grind (arith, h)))
    ∙ to_z-of_z w32 z (grind (arith, h))

pub returns-clause-ok : goal.returns-clause-ok
returns-clause-ok c =
    let notation = c.args.columns.now.notation in
    let lat = c.in_ok-lat.ensures.ok in
    let lon = c.in_ok-lon.ensures.ok in (
      subst (λ (z : ℤ). IsNumber notation columns.Lat c.args.lat.now z)
          (sym (ap (λ (p : Position). p.latitude) c.within.ensures
          ∙ latitude_same c.in_ok-lat.lat (lat.least, lat.most))) lat,
      subst (λ (z : ℤ). IsNumber notation columns.Lon c.args.lon.now z)
          (sym (ap (λ (p : Position). p.longitude) c.within.ensures
          ∙ longitude_same c.in_ok-lon.lon (lon.least, lon.most))) lon,
    )
