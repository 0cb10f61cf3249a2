use Rattle.std.proofs.Common.{◌≡◌, ◌<◌, Bool, ◌&&◌, sym, ap, subst, ◌∙◌, ℕ, arith, w32}
use mir.Val.{to_z, of_z}
use Rattle.std.proofs.lemmas.Bool.{lt-ltb}
use Rattle.std.proofs.lemmas.Int.{ints}
use Rattle.its_geometry.specs.Offsets.{longitude_scale}
use Rattle.its_duties.specs.Places.{is_plain_box}
use Rattle.its_duties.proofs.places.is_plain.Goals as goal

pub returns-clause-value : goal.returns-clause-value
returns-clause-value c =
    let latitude : to_z w32 (of_z w32 c.lat.result) ≡ c.args.place.latitude =
    omega (arith, ints, c.lat.ensures.value, c.lat.ensures.range.0, c.lat.ensures.range.1) in
    let scale : c.longitude_scale.result ≡ longitude_scale c.args.place.latitude =
    c.longitude_scale.ensures.value ∙ ap longitude_scale latitude in
    let some : 0 < c.longitude_scale.result = omega (arith, c.if-longitude_scale-eq0.false) in
    let more : 0 < longitude_scale c.args.place.latitude = subst (λ (n : ℕ). 0 < n) scale some in
    c.is_plain_box.ensures.value
    ∙ sym (ap (λ (b : Bool). b && is_plain_box c.args.centre c.args.around)
    (lt-ltb 0 (longitude_scale c.args.place.latitude) more))
