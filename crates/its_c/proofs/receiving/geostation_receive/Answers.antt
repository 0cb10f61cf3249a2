use Rattle.std.proofs.Common.{rules, Err}
use Rattle.its_linkframe.specs.Frames.{frame_octets, transmission_of}
use Rattle.its_model.specs.Calls.Call.{Receive as IsReceived, Junk}
use Rattle.its_station.specs.Receiving.{Tells}
use Rattle.its_unit.specs.Unit.{unit_step, Receive}
use Rattle.its_unit.specs.Steps.{counted_received}
use Rattle.its_unit.proofs.Passing.{passed_end}
use Rattle.its_c.proofs.Opens.{counts_held, held_unit, reacts_open, same_open}
use Rattle.its_c.proofs.receiving.geostation_receive.Goals as goal

pub invariant_of-s : goal.invariant_of-s
invariant_of-s c =
    record {
      represents = reacts_open Tells c.receive_frame-said.result c.deref_mut.result.now
          c.receive_frame-said.new.self
          (λ u. unit_step u c.args.now (Receive (IsReceived (transmission_of c.in-Ok.view))))
          c.args.s.now.held.unit c.put.new.self.unit
          (c.receive_frame-said.ensures.step frame_octets (λ t w encodes. encodes.octets)
          (rw c.in-Ok.is at c.read_unpadded-frame.ensures.found).octets)
          c.receive_frame-said.ensures.unchanged (search rules) (search rules)
          c.args.s.now.represents;
    }

pub told_received-requires-clause-end : goal.told_received-requires-clause-end
told_received-requires-clause-end c =
    passed_end (transmission_of c.in-Ok.view) c.read_unpadded-frame.result.octets.now
    (rw c.in-Ok.is at c.read_unpadded-frame.ensures.found) c.receive_frame-said.result
    c.receive_frame-said.ensures.payload

pub returns-in-Ok-clause-step : goal.returns-in-Ok-clause-step
returns-in-Ok-clause-step c =
    let w = c.read_unpadded-frame.result.octets.now in
    let said = c.receive_frame-said.result in
    record {
      short = search rules;
      enough = λ long. (
        w,
        c.read_unpadded-frame.ensures.octets,
        IsReceived (transmission_of c.in-Ok.view),
        (rw c.in-Ok.is at c.read_unpadded-frame.ensures.found),
        record {
          step = λ u holds.
              let rep = held_unit c.args.s.now.held.unit c.deref_mut.result.now u (search rules)
              holds in
              record {
                said = said;
                after = c.receive_frame-said.new.self;
                held = search rules;
                done = c.receive_frame-said.ensures.step frame_octets
                    (λ t w encodes. encodes.octets)
                    (rw c.in-Ok.is at c.read_unpadded-frame.ensures.found).octets u rep;
                code = search rules;
                shown = c.told_received.ensures.shown;
                counts = counts_held counted_received said c.args.s.now.held.unit
                    c.put.new.self.unit c.deref_mut.result.now c.receive_frame-said.new.self
                    (search rules) (search rules) c.receive_frame-said.ensures.counts;
              };
          memory = search rules;
        },
      );
    }

pub returns-in-Ok-clause-memory : goal.returns-in-Ok-clause-memory
returns-in-Ok-clause-memory c = λ is. (
  c.read_unpadded-frame.result.octets.now,
  c.read_unpadded-frame.ensures.octets,
  transmission_of c.in-Ok.view,
  (rw c.in-Ok.is at c.read_unpadded-frame.ensures.found),
  λ u holds.
      let rep = held_unit c.args.s.now.held.unit c.deref_mut.result.now u (search rules) holds in
      c.receive_frame-said.ensures.memory u.station rep.station (c.told_received.ensures.memory
      (search rules)),
)

pub invariant_of-s-in-Err : goal.invariant_of-s-in-Err
invariant_of-s-in-Err c =
    record {
      represents = same_open c.deref_mut-in-Err.result.now c.refuse_frame-refused.new.self
          c.args.s.now.held.unit c.put-in-Err.new.self.unit c.refuse_frame-refused.ensures.unchanged
          (search rules) (search rules) c.args.s.now.represents;
    }

pub returns-in-Err-clause-step : goal.returns-in-Err-clause-step
returns-in-Err-clause-step c =
    let refused = c.refuse_frame-refused.result in
    record {
      short = search rules;
      enough = λ long. (
        c.read_unpadded-frame.result.octets.now,
        c.read_unpadded-frame.ensures.octets,
        Junk c.in-Err.fault,
        (rw c.in-Err.is at c.read_unpadded-frame.ensures.fault),
        record {
          step = λ u holds.
              let rep = held_unit c.args.s.now.held.unit c.deref_mut-in-Err.result.now u
              (search rules) holds in
              record {
                said = Err refused;
                after = c.refuse_frame-refused.new.self;
                held = search rules;
                done = c.refuse_frame-refused.ensures.step u rep;
                code = search rules;
                shown = c.told_refused.ensures.shown;
                counts = counts_held counted_received (Err refused) c.args.s.now.held.unit
                    c.put-in-Err.new.self.unit c.deref_mut-in-Err.result.now
                    c.refuse_frame-refused.new.self (search rules) (search rules)
                    c.refuse_frame-refused.ensures.counts;
              };
          memory = search rules;
        },
      );
    }
