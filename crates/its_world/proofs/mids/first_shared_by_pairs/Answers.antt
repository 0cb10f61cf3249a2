use Rattle.std.proofs.Common.{◌≡◌, ◌≢◌, ◌<◌, length, take, slice_index, arith, below_more, sym}
use Rattle.std.proofs.Common.{◌∙◌}
use Rattle.std.proofs.lemmas.List.{length-take-le}
use Rattle.its_world.specs.Mids.{mids}
use Rattle.its_world.proofs.Walks.{mid_here, mids_take}
use Rattle.its_world.proofs.mids.first_shared_by_pairs.Goals as goal

pub returns-in-Some-clause-shared : goal.returns-in-Some-clause-shared
returns-in-Some-clause-shared c =
    let configs = c.args.configs.now in
    let n = c.loop-number.number in
    let within : n < length configs = omega (arith, c.loop-number-test.true) in
    let here : slice_index (mids configs) n ≡ c.mid.result =
    mid_here configs n c.index-configs-number.result c.mid.result within
    c.index-configs-number.is c.mid.ensures.value in
    let size : length (take n configs) ≡ n = length-take-le n configs (omega (arith, within)) in
    let order : c.in-Some.earlier < n = omega (arith, c.in-Some.ensures.found.0, size) in
    record {
      order = order;
      within = within;
      same = sym (mids_take configs n c.in-Some.earlier order) ∙ c.in-Some.ensures.found.1
          ∙ sym here;
      earlier = c.loop-number.invariant;
    }

pub loop-number-preserved : goal.loop-number-preserved
loop-number-preserved c = λ i j before within.
    let configs = c.args.configs.now in
    let n = c.loop-number.number in
    let inside : n < length configs = omega (arith, c.loop-number-test.true) in
    let here : slice_index (mids configs) n ≡ c.mid.result =
    mid_here configs n c.index-configs-number.result c.mid.result inside
    c.index-configs-number.is c.mid.ensures.value in
    let size : length (take n configs) ≡ n = length-take-le n configs (omega (arith, inside)) in
    below_more (λ k. i < k → slice_index (mids configs) i ≢ slice_index (mids configs) k) n
    (λ k below. λ lower. c.loop-number.invariant i k lower below)
    (λ lower same.
    c.in_default.ensures.absent i (omega (arith, lower, size)) (mids_take configs n i lower
    ∙ same ∙ here))
    j within before
