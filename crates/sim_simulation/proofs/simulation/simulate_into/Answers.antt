use Rattle.std.proofs.Common.{◌≡◌, ℕ, ◌+◌, ◌<◌, List, [], ◌∷◌, ◌++◌, length, map, take, get_or}
use Rattle.std.proofs.Common.{ap, sym, subst, ◌∙◌, arith}
use Rattle.std.proofs.lemmas.List.{map-append, take_all, take_more}
use Rattle.its_model.specs.World.{Event as Happening}
use Rattle.its_world.specs.Events.{config_of, event_of}
use Rattle.its_world.specs.declared.event.Event.{Event}
use Rattle.sim_simulation.specs.Simulated.{IsSimulated}
use Rattle.sim_simulation.proofs.simulation.simulate_into.Goals as goal

pub loop-number-init : goal.loop-number-init
loop-number-init g c =
    record {
      kept = c.in_ok-world.ensures.kept;
      told = λ took.
          record {
            stands = c.in_ok-world.ensures.opens;
            laws = c.every_schedule.ensures (map config_of c.args.stations.now) [];
            log = [];
            told = tt;
            took = took;
          };
    }

-- one event more of a list
one_more : (all : List Event) (n : ℕ) (x : Event) → n < length all → x ≡ get_or all n x
    → map event_of (take (n + 1) all) ≡ map event_of (take n all) ++ event_of x ∷ []
one_more all n x lt is =
    ap (map event_of) (take_more all n x lt
    ∙ ap (λ (y : Event). take n all ++ y ∷ []) (sym is))
    ∙ map-append event_of (take n all) (x ∷ [])

pub loop-number-preserved : goal.loop-number-preserved
loop-number-preserved g c =
    let all : List Event = c.args.events.now in
    let n : ℕ = c.loop-number.number in
    let x : Event = c.index-events-number.result in
    let lt : n < length all = omega arith in
    record {
      kept = c.do_event.ensures.released ∙ c.loop-number.invariant.kept;
      told = λ took.
          subst (λ (l : List Happening).
          IsSimulated (map config_of c.args.stations.now) l c.do_event.new.world
          (g.S.EventSink.Took c.do_event.new.sink))
          (sym (one_more all n x lt c.index-events-number.is))
          (c.in_ok-do_event.ensures.run (map config_of c.args.stations.now)
          (map event_of (take n all)) (c.loop-number.invariant.told took));
    }

pub returns : goal.returns
returns g c = λ took.
    let all : List Event = c.args.events.now in
    subst (λ (l : List Event).
    IsSimulated (map config_of c.args.stations.now) (map event_of l)
    c.loop-number.world (g.S.EventSink.Took c.loop-number.sink))
    (take_all c.loop-number.number all (omega arith))
    (c.loop-number.invariant.told took)
