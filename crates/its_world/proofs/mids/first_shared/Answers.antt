use Rattle.std.proofs.Common.{rules, arith, ◌≡◌, ℕ, ◌<◌, length, Some, None, nat_eq, slice_index}
use Rattle.std.proofs.Common.{sym, ◌∙◌, ap}
use Rattle.std.proofs.lemmas.Bool.{eqb-true}
use Rattle.std.proofs.lemmas.List.{get_or-map}
use Rattle.std.specs.HashMap.{get}
use Rattle.its_gnvalue.specs.Values.{mid_of}
use Rattle.its_world.specs.Mids.{mids}
use Rattle.its_world.specs.declared.config.Config.{Config}
use Rattle.its_world.proofs.Walks.{differ_more, knows_more, places_more}
use Rattle.its_world.proofs.mids.first_shared.Goals as goal

pub loop-number-preserved : goal.loop-number-preserved
loop-number-preserved c =
    let configs = c.args.configs.now in
    let config = c.index-configs-number.result in
    let n = c.loop-number.number in
    let known = get nat_eq c.loop-number.known in
    let mid_at : Config → ℕ = λ config. mid_of config.address in
    let within : n < length configs = omega (arith, c.loop-number-test.true) in
    let here : slice_index (mids configs) n ≡ c.mid.result =
    get_or-map mid_at configs n config 0 within
    ∙ sym (ap mid_at c.index-configs-number.is) ∙ sym c.mid.ensures.value in
    let absent : known (slice_index (mids configs) n) ≡ None =
    ap known here ∙ sym c.in_ok-earlier.ensures.old ∙ c.in_default.is in (
      differ_more known (mids configs) n
          c.loop-number.invariant.0 c.loop-number.invariant.1 absent,
      knows_more known (get nat_eq c.insert.new.self) nat_eq (mids configs) n n
          (search rules) c.loop-number.invariant.1 (λ q. search rules),
      places_more known (get nat_eq c.insert.new.self) nat_eq (mids configs) n
          eqb-true c.loop-number.invariant.2 (λ q. search rules),
    )

pub returns-in-Some-clause-shared : goal.returns-in-Some-clause-shared
returns-in-Some-clause-shared c =
    let configs = c.args.configs.now in
    let config = c.index-configs-number.result in
    let n = c.loop-number.number in
    let known = get nat_eq c.loop-number.known in
    let mid_at : Config → ℕ = λ config. mid_of config.address in
    let within : n < length configs = omega (arith, c.loop-number-test.true) in
    let here : slice_index (mids configs) n ≡ c.mid.result =
    get_or-map mid_at configs n config 0 within
    ∙ sym (ap mid_at c.index-configs-number.is) ∙ sym c.mid.ensures.value in
    let met : known (slice_index (mids configs) n) ≡ Some c.in-Some.earlier =
    ap known here ∙ sym c.in_ok-earlier.ensures.old ∙ c.in-Some.is in
    let place = c.loop-number.invariant.2 (slice_index (mids configs) n) c.in-Some.earlier met in
    record {
      order = place.0;
      within = within;
      same = place.1;
      earlier = c.loop-number.invariant.0;
    }
