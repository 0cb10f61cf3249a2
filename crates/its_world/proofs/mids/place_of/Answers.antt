use Rattle.std.proofs.Common.{◌≡◌, ◌≢◌, slice_index, arith, below_more, sym, ◌∙◌}
use Rattle.its_world.specs.Mids.{mids}
use Rattle.its_world.proofs.Walks.{mid_here, told_apart}
use Rattle.its_world.proofs.mids.place_of.Goals as goal

pub loop-place-preserved : goal.loop-place-preserved
loop-place-preserved c =
    let configs = c.args.configs.now in
    let place = c.loop-place.place in
    let here : slice_index (mids configs) place ≡ c.mid.result =
    mid_here configs place c.index-configs-place.result c.mid.result
    (omega (arith, c.loop-place-test.true)) c.index-configs-place.is c.mid.ensures.value in
    below_more (λ k. slice_index (mids configs) k ≢ c.args.mid) place c.loop-place.invariant
    (λ same. told_apart c.mid.result c.args.mid (sym c.eq.ensures ∙ c.if-eq.false) (sym here
    ∙ same))
