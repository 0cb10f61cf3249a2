use Rattle.std.proofs.Common.{◌≡◌, ◌≤◌, ap, ◌∙◌, arith, w32, w64}
use Rattle.std.specs.Prelude.{pos, ◌-ℤ◌, ◌*ℤ◌, int_div, unsigned_abs}
use mir.Val.{to_z, of_z}
use Rattle.std.proofs.lemmas.Int.{ints}
use Rattle.its_geometry.specs.Offsets.{longitude_scale, wrap_longitude}
use Rattle.its_geometry.proofs.SignedLemmas.{same}
use Rattle.its_duties.proofs.places.eastward.Goals as goal

pub centimetres_east-requires-clause-difference : goal.centimetres_east-requires-clause-difference
centimetres_east-requires-clause-difference c =
    let short : unsigned_abs c.longitude_from.result ≤ 1800000000 =
    c.longitude_from.ensures.short (omega (arith, ints, c.requires)) in
    omega (arith, ints, short)

pub returns-clause-value : goal.returns-clause-value
returns-clause-value c =
    let from : c.longitude_from.result ≡ wrap_longitude (c.args.longitude -ℤ c.args.centre.longitude) =
    c.longitude_from.ensures.value
    ∙ ap (λ z. wrap_longitude (z -ℤ c.args.centre.longitude))
    (same c.args.longitude (omega (arith, c.requires))) in
    let west : to_z w64 (of_z w64 c.longitude_from.result)
    ≡ wrap_longitude (c.args.longitude -ℤ c.args.centre.longitude) =
    same c.longitude_from.result (omega (arith, c.longitude_from.ensures.bound)) ∙ from in
    let latitude : to_z w32 (of_z w32 c.lat.result) ≡ c.args.centre.latitude =
    omega (arith, ints, c.lat.ensures.value, c.lat.ensures.range.0, c.lat.ensures.range.1) in
    let scale : c.longitude_scale.result ≡ longitude_scale c.args.centre.latitude =
    c.longitude_scale.ensures.value ∙ ap longitude_scale latitude in
    same c.centimetres_east.result (omega (arith, c.centimetres_east.ensures.bound))
    ∙ c.centimetres_east.ensures.value
    ∙ (λ i. int_div (west i *ℤ pos 11132 *ℤ pos (scale i)) (pos 100000000))
