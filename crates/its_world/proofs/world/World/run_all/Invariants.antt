use Rattle.std.proofs.Common.{◌≡◌, All, map, take, length}
use Rattle.its_model.specs.World.{WorldModel}
use Rattle.its_world.specs.State.{RepresentsWorld}
use Rattle.its_world.specs.Events.{event_of, what_of}
use Rattle.its_world.specs.Steps.{IsKept}
use Rattle.its_world.specs.Runs.{IsRunOf}
use Rattle.its_world.proofs.world.World.run_all.Given as goal

-- what was done so far
abbrev pub invariant-loop-event : goal.invariant-loop-event
invariant-loop-event l = record {
  count : length l.log.items ≡ l.event-index;
  released : l.self.released ≡ l.fn.self.released;
  run : (w : WorldModel) → RepresentsWorld l.fn.self w
      → All (λ event. IsKept l.fn.self.released (what_of event.what)) l.events
      → IsRunOf w (map event_of (take l.event-index l.events)) l.log.items l.self;
}
