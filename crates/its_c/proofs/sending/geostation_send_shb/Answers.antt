use Rattle.std.proofs.Common.{rules, subst}
use Rattle.its_headers.specs.declared.kind.Kind.TheVariants as kinds
use Rattle.its_model.specs.Calls.{ShbRequest}
use Rattle.its_model.specs.Calls.OwnCall.{SendShb}
use Rattle.its_station.specs.Requests.{shb_request}
use Rattle.its_unit.specs.Unit.{unit_step, Own}
use Rattle.its_unit.specs.Steps.{IsSendOf, counted_request}
use Rattle.its_c.proofs.Opens.{counts_held, held_unit, sends_open}
use Rattle.its_c.proofs.sending.geostation_send_shb.Goals as goal

pub invariant_of-s : goal.invariant_of-s
invariant_of-s c =
    record {
      represents = sends_open c.send_shb-said.result c.deref_mut.result.now c.send_shb-said.new.self
          (λ u. unit_step u c.args.now (Own (SendShb (shb_request c.single_hop_request-r.result))))
          c.args.s.now.held.unit c.put.new.self.unit c.send_shb-said.ensures.step
          c.send_shb-said.ensures.unchanged (search rules) (search rules) c.args.s.now.represents;
    }

pub returns-clause-step : goal.returns-clause-step
returns-clause-step c =
    record {
      short = search rules;
      enough = λ long. record {
        step = λ u holds.
            let rep = held_unit c.args.s.now.held.unit c.deref_mut.result.now u (search rules) holds in
            record {
              said = c.send_shb-said.result;
              after = c.send_shb-said.new.self;
              held = search rules;
              done = subst (λ (asked : ShbRequest). IsSendOf c.send_shb-said.result
                  c.send_shb-said.new.self (unit_step u c.args.now (Own (SendShb asked))))
                  c.single_hop_request-r.ensures (c.send_shb-said.ensures.step u rep);
              code = search rules;
              shown = c.told_frame.ensures.shown;
              counts = counts_held (counted_request kinds.Shb) c.send_shb-said.result
                  c.args.s.now.held.unit c.put.new.self.unit c.deref_mut.result.now
                  c.send_shb-said.new.self (search rules) (search rules)
                  c.send_shb-said.ensures.counts;
            };
        memory = search rules;
      };
    }
