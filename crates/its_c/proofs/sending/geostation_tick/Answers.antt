use Rattle.std.proofs.Common.{rules}
use Rattle.its_model.specs.Calls.OwnCall.{Tick}
use Rattle.its_station.specs.Counting.{counted_tick}
use Rattle.its_station.specs.Requests.{TellsTick}
use Rattle.its_unit.specs.Unit.{unit_step, Own}
use Rattle.its_unit.specs.Steps.{SaysPassed}
use Rattle.its_c.proofs.Opens.{counts_held, held_unit, stays_open}
use Rattle.its_c.proofs.sending.geostation_tick.Goals as goal

pub invariant_of-s : goal.invariant_of-s
invariant_of-s c =
    record {
      represents = stays_open (SaysPassed TellsTick) c.tick-said.result c.deref_mut.result.now
          c.tick-said.new.self
          (λ u. unit_step u c.args.now (Own (Tick c.args.jitter))) c.args.s.now.held.unit
          c.put.new.self.unit c.tick-said.ensures.step c.tick-said.ensures.unchanged
          (search rules) (search rules) c.args.s.now.represents;
    }

pub returns-clause-step : goal.returns-clause-step
returns-clause-step c =
    record {
      short = search rules;
      enough = λ long. record {
        step = λ u holds.
            let rep = held_unit c.args.s.now.held.unit c.deref_mut.result.now u (search rules) holds in
            record {
              said = c.tick-said.result;
              after = c.tick-said.new.self;
              held = search rules;
              done = c.tick-said.ensures.step u rep;
              code = search rules;
              shown = c.told_beacon.ensures.shown;
              counts = counts_held counted_tick c.tick-said.result c.args.s.now.held.unit
                  c.put.new.self.unit c.deref_mut.result.now c.tick-said.new.self (search rules)
                  (search rules) c.tick-said.ensures.counts;
            };
        memory = search rules;
      };
    }
