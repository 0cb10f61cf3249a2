use Rattle.std.proofs.Common.{rules, subst, ap, Err}
use Rattle.its_model.specs.Calls.Call.{Receive as IsReceived}
use Rattle.its_station.specs.Receiving.{EncodesSealed, TellsBy}
use Rattle.its_station.specs.Receiving.VerifiedCall.{Came, Faulty}
use Rattle.its_unit.specs.Contending.{verified_octets}
use Rattle.its_unit.specs.Unit.{unit_step, ReceiveVerified}
use Rattle.its_unit.specs.Steps.{counted_received}
use Rattle.its_unit.proofs.Passing.{verified_passed_end}
use Rattle.its_c.specs.Told.{ShowsReceived, reception_of}
use Rattle.its_c.specs.declared.layout.Reception.{Reception}
use Rattle.its_c.proofs.Opens.{counts_held, held_unit, reacts_open, same_open}
use Rattle.its_c.proofs.receiving.geostation_receive_verified.Goals as goal

pub invariant_of-s : goal.invariant_of-s
invariant_of-s c =
    let v = c.in-Ok.verified in
    record {
      represents = reacts_open (TellsBy (EncodesSealed v.message))
          c.receive_frame-said.result c.deref_mut.result.now c.receive_frame-said.new.self
          (λ u. unit_step u c.args.now (ReceiveVerified (Came v))) c.args.s.now.held.unit
          c.put.new.self.unit
          (c.receive_frame-said.ensures.step (verified_octets (Came v))
          (λ t w encodes. encodes.octets) c.in-Ok.ensures.found.secured.octets)
          c.receive_frame-said.ensures.unchanged (search rules) (search rules)
          c.args.s.now.represents;
    }

pub told_received-requires-clause-end : goal.told_received-requires-clause-end
told_received-requires-clause-end c =
    verified_passed_end c.in-Ok.verified c.args.frame.now c.args.plain.now c.in-Ok.ensures.found
    c.receive_frame-said.result c.receive_frame-said.ensures.payload

pub returns-in-Ok-clause-step : goal.returns-in-Ok-clause-step
returns-in-Ok-clause-step c =
    let v = c.in-Ok.verified in
    let said = c.receive_frame-said.result in
    record {
      short = search rules;
      enough = λ long. (
        Came v,
        c.in-Ok.ensures.found,
        record {
          step = λ u holds.
              let rep = held_unit c.args.s.now.held.unit c.deref_mut.result.now u (search rules)
              holds in
              record {
                said = said;
                after = c.receive_frame-said.new.self;
                held = search rules;
                done = c.receive_frame-said.ensures.step (verified_octets (Came v))
                    (λ t w encodes. encodes.octets) c.in-Ok.ensures.found.secured.octets u rep;
                code = search rules;
                shown = subst (λ (r : Reception). ShowsReceived c.args.plain.now r
                    c.told_received.new.reception c.told_received.new.relay said)
                    (ap reception_of c.packet.ensures) c.told_received.ensures.shown;
                counts = counts_held counted_received said c.args.s.now.held.unit
                    c.put.new.self.unit c.deref_mut.result.now c.receive_frame-said.new.self
                    (search rules) (search rules) c.receive_frame-said.ensures.counts;
              };
          memory = search rules;
        },
      );
    }

pub returns-in-Ok-clause-memory : goal.returns-in-Ok-clause-memory
returns-in-Ok-clause-memory c = λ is. (
  c.in-Ok.verified,
  c.in-Ok.ensures.found,
  λ u holds.
      let rep = held_unit c.args.s.now.held.unit c.deref_mut.result.now u (search rules) holds in
      c.receive_frame-said.ensures.memory u.station rep.station (c.told_received.ensures.memory
      (search rules)),
)

pub invariant_of-s-in-Err : goal.invariant_of-s-in-Err
invariant_of-s-in-Err c =
    record {
      represents = same_open c.deref_mut-in-Err.result.now c.refuse_secured-refused.new.self
          c.args.s.now.held.unit c.put-in-Err.new.self.unit
          c.refuse_secured-refused.ensures.unchanged (search rules) (search rules)
          c.args.s.now.represents;
    }

pub returns-in-Err-clause-step : goal.returns-in-Err-clause-step
returns-in-Err-clause-step c =
    let refused = c.refuse_secured-refused.result in
    record {
      short = search rules;
      enough = λ long. (
        Faulty c.in-Err.fault,
        c.in-Err.ensures.fault,
        record {
          step = λ u holds.
              let rep = held_unit c.args.s.now.held.unit c.deref_mut-in-Err.result.now u
              (search rules) holds in
              record {
                said = Err refused;
                after = c.refuse_secured-refused.new.self;
                held = search rules;
                done = c.refuse_secured-refused.ensures.step u rep;
                code = search rules;
                shown = c.told_refused.ensures.shown;
                counts = counts_held counted_received (Err refused) c.args.s.now.held.unit
                    c.put-in-Err.new.self.unit c.deref_mut-in-Err.result.now
                    c.refuse_secured-refused.new.self (search rules) (search rules)
                    c.refuse_secured-refused.ensures.counts;
              };
          memory = search rules;
        },
      );
    }
