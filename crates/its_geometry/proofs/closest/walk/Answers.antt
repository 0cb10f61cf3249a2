use Rattle.std.proofs.Common.{◌≡◌, ℕ, List, ◌+◌, ◌-◌, ◌<◌, ◌≤◌, ◌^◌, length, take, drop, get_or}
use Rattle.std.proofs.Common.{min, sym, ap, ◌∙◌, subst, arith}
use Rattle.std.proofs.lemmas.List.{length-map, get_or-map, length-take, length-drop}
use Rattle.its_geometry.specs.declared.closest.Found.{Found}
use Rattle.its_geometry.specs.Offsets.{squared_distance}
use Rattle.its_geometry.specs.Nearest.{least_of, distances, AllAbove}
use Rattle.its_geometry.proofs.NearestLemmas.{least_of-le, least_of-more, least_of-eight}
use Rattle.its_geometry.proofs.NearestLemmas.{least_of-zip2, least_of-no_nearer, least_of-small}
use Rattle.its_geometry.proofs.NearestLemmas.{met_more, distances-eight}
use Rattle.its_geometry.proofs.closest.walk.Goals as goal
use Rattle.its_geometry.proofs.closest.walk.Goals.{then-meets, else-meets}

pub loop-at-preserved : goal.loop-at-preserved
loop-at-preserved c =
    let places = c.args.places.now in
    let here = c.args.centre.place in
    let ds = distances here places in
    let at = c.loop-at.at in
    let low = c.loop-at.found.reach.least in
    let v = c.loop-at.invariant in
    let room : at + 8 ≤ length places = omega arith in
    let in_ds : at ≤ length ds = omega (arith, length-map places (squared_distance here)) in
    let block = take 8 (drop at ds) in
    let long : length block ≡ 8 =
    omega (
      arith,
      length-take 8 (drop at ds),
      length-drop at ds,
      length-map places (squared_distance here),
      room,
    ) in
    let eight : at + 8 - at ≡ 8 = omega arith in
    let more : least_of (take (at + 8) ds) ≡ min low (least_of block) =
    least_of-eight ds at ∙ ap (λ n. min n (least_of block)) (sym v.least) in
    elim c.if-meets.branch [
      | then-meets w ↦
          let b : w.squared_distances.result ≡ block =
          w.squared_distances.ensures.lanes
          ∙ distances-eight here places at (at + 8 - at) eight in
          let d = w.least_lane.result in
          let both : d ≡ min low (least_of block) =
          w.least_lane.ensures ∙ ap least_of w.lesser-lanes.ensures.lanes
          ∙ least_of-zip2 c.loop-at.lanes w.squared_distances.result (v.count
          ∙ sym w.squared_distances.ensures.count)
          ∙ (λ i. min (v.lanes i) (least_of (b i))) in
          let small : least_of w.squared_distances.result < 2 ^ 63 =
          least_of-small w.squared_distances.result
          (omega (
            arith,
            w.squared_distances.ensures.count,
          )) w.squared_distances.ensures.bound in
          let new : w.with-found.result.reach.least ≡ d =
          w.with-found.ensures.least ∙ omega (arith, both) in
          let is : c.if-meets.found.reach.least ≡ d =
          ap (λ (f : Found). f.reach.least) w.found-is ∙ new in
          record {
            count = ap length w.lanes-is ∙ w.lesser-lanes.ensures.count;
            within = room;
            centre = ap (λ (f : Found). f.reach.centre) w.found-is ∙ w.with-found.ensures.centre
                ∙ v.centre;
            lanes = ap least_of w.lanes-is ∙ sym w.least_lane.ensures ∙ sym is;
            least = is ∙ both ∙ sym more;
            above = subst (λ (f : Found). AllAbove f.reach.least f.from ds) (sym w.found-is)
                (met_more ds at low d w.with-found.result.reach.least c.loop-at.found.from
                w.with-found.result.from in_ds v.least v.above w.with-found.ensures.least
                w.with-found.ensures.from);
            small = λ _. let same = ap least_of b in omega (arith, is, both, small, same);
          }
      | else-meets w ↦
          let far = subst (λ (xs : List ℕ). (k e : ℕ) → k < length xs
          → (low ≤ get_or xs k e) × (get_or xs k e < 2 ^ 63))
          (ap (λ p. distances p.place (take (at + 8 - at) (drop at places))) v.centre
          ∙ distances-eight here places at (at + 8 - at) eight)
          (c.meets.ensures w.if-meets.false) in
          let le : low ≤ 18446744073709551615 = omega (arith, v.least, least_of-le (take at ds)) in
          let beyond : low ≤ least_of block =
          least_of-no_nearer low block le (λ k h. (far k 0 h).0) in
          let first = far 0 0 (omega (arith, long)) in
          let is : c.if-meets.found.reach.least ≡ low =
          ap (λ (f : Found). f.reach.least) w.found-is in
          record {
            count = ap length w.lanes-is ∙ v.count;
            within = room;
            centre = ap (λ (f : Found). f.reach.centre) w.found-is ∙ v.centre;
            lanes = ap least_of w.lanes-is ∙ v.lanes ∙ sym is;
            least = is ∙ omega (arith, more, beyond);
            above = subst (λ (f : Found). AllAbove f.reach.least f.from ds)
                (sym w.found-is) v.above;
            small = λ _. omega (arith, is, first.0, first.1);
          }
    ]

pub loop-i-preserved : goal.loop-i-preserved
loop-i-preserved c =
    let places = c.args.places.now in
    let here = c.args.centre.place in
    let ds = distances here places in
    let i = c.loop-i.i in
    let v = c.loop-i.invariant in
    let found = c.with-found-in-loop-i in
    let in_ds : i < length ds = omega (arith, length-map places (squared_distance here)) in
    let d : get_or ds i 0 ≡ c.squared_distance.result =
    get_or-map (squared_distance here) places i c.index-places-i.result 0 c.loop-i-test.true
    ∙ ap (squared_distance here) (sym c.index-places-i.is)
    ∙ sym c.squared_distance.ensures.value in
    record {
      least = found.ensures.least ∙ ap (λ n. min n c.squared_distance.result) v.least
          ∙ sym (least_of-more ds i c.squared_distance.result in_ds d);
      above = met_more ds i c.loop-i.found.reach.least c.squared_distance.result
          found.result.reach.least c.loop-i.found.from found.result.from
          (omega arith) v.least v.above found.ensures.least found.ensures.from;
      small = λ _. omega (arith, found.ensures.least, c.squared_distance.ensures.bound);
    }
