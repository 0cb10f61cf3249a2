use Rattle.std.proofs.Common.{◌≡◌, ap, ◌∙◌, arith, w64}
use mir.Val.{to_z, of_z}
use Rattle.its_geometry.specs.Table.{sine, cosine}
use Rattle.its_geometry.proofs.SignedLemmas.{same}
use Rattle.its_duties.specs.Places.{minus, times, ten_thousandths}
use Rattle.its_duties.proofs.places.across_axis.Goals as goal

pub returns-clause-value : goal.returns-clause-value
returns-clause-value c =
    let cos : to_z w64 (of_z w64 c.cosine.result) ≡ cosine c.args.angle =
    same c.cosine.result (omega (arith, c.cosine.ensures.bound)) ∙ c.cosine.ensures.value in
    let sin : to_z w64 (of_z w64 c.sine.result) ≡ sine c.args.angle =
    same c.sine.result (omega (arith, c.sine.ensures.bound)) ∙ c.sine.ensures.value in
    let north : c.times-north.result ≡ times c.args.offsets.north (sine c.args.angle) =
    c.times-north.ensures.value ∙ ap (times c.args.offsets.north) sin in
    let east : c.times-east.result ≡ times c.args.offsets.east (cosine c.args.angle) =
    c.times-east.ensures.value ∙ ap (times c.args.offsets.east) cos in
    c.ten_thousandths.ensures.value
    ∙ ap ten_thousandths (c.minus.ensures.value ∙ (λ i. minus (east i) (north i)))
