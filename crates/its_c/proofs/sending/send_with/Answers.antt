use Rattle.std.proofs.Common.{rules, subst}
use Rattle.its_headers.specs.declared.kind.Kind.TheVariants as kinds
use Rattle.its_model.specs.Calls.{ShbRequest}
use Rattle.its_station.specs.Requests.{shb_request}
use Rattle.its_station.specs.declared.requests.ShbOptions.{ShbOptions}
use Rattle.its_unit.specs.Unit.{unit_step, SendShbFor}
use Rattle.its_unit.specs.Steps.{IsSendOf, counted_request}
use Rattle.its_c.specs.Arguments.{shb_options}
use Rattle.its_c.proofs.Opens.{counts_held, held_unit, sends_open}
use Rattle.its_c.proofs.sending.send_with.Goals as goal

pub invariant_of-s : goal.invariant_of-s
invariant_of-s c =
    let asked = shb_request c.single_hop_request-r.result in
    record {
      represents = sends_open c.send_shb_for-said.result c.deref_mut.result.now
          c.send_shb_for-said.new.self
          (λ u. unit_step u c.args.now (SendShbFor c.single_hop_options-options.result asked))
          c.args.s.now.held.unit c.put.new.self.unit c.send_shb_for-said.ensures.step
          c.send_shb_for-said.ensures.unchanged (search rules) (search rules)
          c.args.s.now.represents;
    }

pub returns-clause-step : goal.returns-clause-step
returns-clause-step c =
    let said = c.send_shb_for-said.result in
    let after = c.send_shb_for-said.new.self in
    record {
      short = search rules;
      enough = λ long. record {
        step = λ u holds.
            let rep = held_unit c.args.s.now.held.unit c.deref_mut.result.now u (search rules) holds in
            record {
              said = said;
              after = after;
              held = search rules;
              done = subst (λ (asked : ShbRequest). IsSendOf said after
                  (unit_step u c.args.now (SendShbFor (shb_options c.args.options.now) asked)))
                  c.single_hop_request-r.ensures
                  (subst (λ (o : ShbOptions). IsSendOf said after (unit_step u c.args.now
                  (SendShbFor o (shb_request c.single_hop_request-r.result))))
                  c.single_hop_options-options.ensures
                  (c.send_shb_for-said.ensures.step u rep));
              code = search rules;
              shown = c.told_frame.ensures.shown;
              counts = counts_held (counted_request kinds.Shb) said c.args.s.now.held.unit
                  c.put.new.self.unit c.deref_mut.result.now after (search rules)
                  (search rules) c.send_shb_for-said.ensures.counts;
            };
        memory = search rules;
      };
    }
