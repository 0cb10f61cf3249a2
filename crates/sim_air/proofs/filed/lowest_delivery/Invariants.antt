use Rattle.std.proofs.Common.{All, take}
use denote.Ref.{Bor}
use Rattle.sim_air.specs.Delivered.{KeepsFrom}
use Rattle.sim_scenario.specs.declared.events.event.FileEvent.{FileEvent}
use Rattle.sim_air.proofs.filed.lowest_delivery.Given as goal

-- none of those so far delivers a lower frame
abbrev pub invariant-loop-filed : goal.invariant-loop-filed
invariant-loop-filed l =
    All (λ (e : Bor FileEvent). KeepsFrom l.lowest e.now) (take l.filed-index l.due)
