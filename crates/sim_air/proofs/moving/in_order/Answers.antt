use Rattle.std.proofs.Common.{rules, ◌∙◌, take_all}
use denote.Ref.{Bor}
use Rattle.std.proofs.lemmas.Fn.{always_returns_same}
use Rattle.std.proofs.lemmas.List.Sorted.{All-permutation, IsNonDecreasingBy-from_sort_by_key}
use Rattle.sim_scenario.specs.Events.{FitsAddressed}
use Rattle.sim_scenario.specs.declared.events.event.AddressedEvent.{AddressedEvent}
use Rattle.sim_air.proofs.Outside.{by_moment}
use Rattle.sim_air.proofs.moving.in_order.Goals as goal

pub returns : goal.returns
returns c =
    let rises = IsNonDecreasingBy-from_sort_by_key
    (λ (a : Bor AddressedEvent). a.now.moment) _ c.in_ok-sort_by_key.ensures.sorted
    (λ a r q k. search rules) in
    record {
      ranges =
          All-permutation (λ (a : Bor AddressedEvent). FitsAddressed a.now)
          c.loop-event.events.items c.sort_by_key.new.self.items c.sort_by_key.ensures.permutation
          c.loop-event.invariant.ranges;
      sorted = rises;
      each =
          by_moment c.loop-event.events.items c.sort_by_key.new.self.items c.args.addressed.now
          (c.loop-event.invariant.each
          ∙ take_all c.loop-event.event-index c.args.addressed.now c.loop-event-test.false)
          rises
          (c.sort_by_key.ensures.stable (λ (a : Bor AddressedEvent). a.now.moment)
          (always_returns_same _ _ _ (λ a r q k. search rules)));
    }
