use Rattle.std.specs.Prelude.{◌≡◌, All, map, take}
use denote.Ref.{Bor}
use Rattle.sim_scenario.specs.Events.{FitsAddressed}
use Rattle.sim_scenario.specs.declared.events.event.AddressedEvent.{AddressedEvent}
use Rattle.sim_air.proofs.moving.in_order.Given as goal

-- those so far, with their numbers in their ranges
abbrev pub invariant-loop-event : goal.invariant-loop-event
invariant-loop-event l =
    record {
      ranges : All (λ (a : Bor AddressedEvent). FitsAddressed a.now) l.events.items;
      each : map (λ (a : Bor AddressedEvent). a.now) l.events.items
          ≡ take l.event-index l.addressed;
    }
