use Rattle.std.proofs.Common.{◌≡◌, ◌<◌, ◌≤◌, ◌^◌, ℕ, length, get_or, refl, sym, ap, ◌∙◌, subst}
use Rattle.std.proofs.Common.{⊎_elim, arith}
use Rattle.std.proofs.lemmas.List.{length-map, get_or-map}
use Rattle.std.proofs.lemmas.Bool.{cases_lt}
use Rattle.its_geometry.specs.Offsets.{squared_distance}
use Rattle.its_geometry.specs.Nearest.{distances, IsFirstLeast}
use Rattle.its_geometry.proofs.NearestLemmas.{first_least, least_of-reached}
use Rattle.its_geometry.proofs.closest.nearest.Goals as goal

pub returns-then-squared_distance-least-clause-nearest :
    goal.returns-then-squared_distance-least-clause-nearest
returns-then-squared_distance-least-clause-nearest c =
    let places = c.args.places.now in
    let here = c.new-centre.result.place in
    let ds = distances here places in
    let i = c.loop-i.i in
    let in_ds : i < length ds = omega (arith, length-map places (squared_distance here)) in
    let d : get_or ds i 0 ≡ c.squared_distance.result =
    get_or-map (squared_distance here) places i c.index-places-i.result 0 c.loop-i-test.true
    ∙ ap (squared_distance here) (sym c.index-places-i.is)
    ∙ sym c.squared_distance.ensures.value in
    let least : c.walk-found.result.reach.least ≡ c.least-least.result =
    sym c.least-least.ensures in
    subst (λ p. IsFirstLeast (distances p places) i) c.new-centre.ensures
    (first_least ds i c.walk-found.result.reach.least c.walk-found.result.from in_ds (d
    ∙ c.if-squared_distance-least.true
    ∙ sym least) c.walk-found.ensures.least c.walk-found.ensures.from c.loop-i.auto.i
    (λ k start before e. c.loop-i.invariant k start before (e ∙ least)))

pub loop-i-preserved : goal.loop-i-preserved
loop-i-preserved c =
    let places = c.args.places.now in
    let here = c.new-centre.result.place in
    let ds = distances here places in
    let i = c.loop-i.i in
    let d : get_or ds i 0 ≡ c.squared_distance.result =
    get_or-map (squared_distance here) places i c.index-places-i.result 0 c.loop-i-test.true
    ∙ ap (squared_distance here) (sym c.index-places-i.is)
    ∙ sym c.squared_distance.ensures.value in
    λ k start before e.
    ⊎_elim {C = ⊥} (λ (lt : k < i). c.loop-i.invariant k start lt e)
    (λ (le : i ≤ k). let same : k ≡ i = omega (arith, before, le) in
    c.if-squared_distance-least.false (sym d ∙ ap (λ n. get_or ds n 0) (sym same) ∙ e))
    (cases_lt k i)

pub returns-clause-empty : goal.returns-clause-empty
returns-clause-empty c =
    let places = c.args.places.now in
    let here = c.new-centre.result.place in
    let ds = distances here places in
    let least : c.walk-found.result.reach.least ≡ c.least-least.result =
    sym c.least-least.ensures in
    let none : 0 < length places → ⊥ = λ some.
    let reached =
    least_of-reached ds
    (subst (λ (n : ℕ). n < 2 ^ 63) c.walk-found.ensures.least
    (c.walk-found.ensures.bound some)) in
    let k = reached.0 in
    let is : get_or ds k 0 ≡ c.walk-found.result.reach.least =
    reached.2 ∙ sym c.walk-found.ensures.least in
    ⊎_elim {C = ⊥}
    (λ (front : k < c.walk-found.result.from). let above = c.walk-found.ensures.from k front in
    absurd (omega (arith, above, is)))
    (λ (rest : c.walk-found.result.from ≤ k).
    c.loop-i.invariant k rest
    (omega (arith, reached.1, length-map places (squared_distance here))) (is ∙ least))
    (cases_lt k c.walk-found.result.from) in
    (λ _. omega (arith, none), λ _. refl)
