use Rattle.std.proofs.Common.{◌≡◌, ◌≤◌, sym, ap, subst, ◌∙◌, arith, w64}
use Rattle.std.specs.Prelude.{ℤ, ◌-ℤ◌, unsigned_abs}
use mir.Val.{to_z, of_z}
use Rattle.std.proofs.lemmas.Int.{ints}
use Rattle.its_geometry.specs.Offsets.{wrap_longitude}
use Rattle.its_geometry.proofs.SignedLemmas.{same}
use Rattle.its_duties.proofs.places.longitude_from.Goals as goal

pub returns-clause-value : goal.returns-clause-value
returns-clause-value c =
    let apart : to_z w64 (of_z w64 c.difference.result) ≡ c.args.longitude -ℤ c.args.centre.longitude =
    omega (
      arith,
      ints,
      c.difference.ensures.value,
      c.requires,
      c.lon.ensures.value,
      c.lon.ensures.range.0,
      c.lon.ensures.range.1,
    ) in
    same c.short_way.result (omega (arith, c.short_way.ensures.bound)) ∙ c.short_way.ensures.value
    ∙ ap wrap_longitude apart

pub returns-clause-short : goal.returns-clause-short
returns-clause-short c = λ h.
    let short : unsigned_abs c.short_way.result ≤ 1800000000 =
    c.short_way.ensures.short (omega (
      arith,
      ints,
      h,
      c.difference.ensures.bound,
      c.lon.ensures.value,
      c.lon.ensures.range.0,
      c.lon.ensures.range.1,
    )) in
    subst (λ (z : ℤ). unsigned_abs z ≤ 1800000000)
    (sym (same c.short_way.result (omega (arith, c.short_way.ensures.bound)))) short
