use Rattle.std.proofs.Common.{rules, subst}
use Rattle.its_model.specs.Calls.{GbcRequest, area_call}
use Rattle.its_station.specs.Requests.{gbc_request, kind_cast, kind_of_cast}
use Rattle.its_unit.specs.Unit.{unit_step, Own}
use Rattle.its_unit.specs.Steps.{IsSendOf, counted_request}
use Rattle.its_c.specs.Arguments.{IsAreaOf}
use Rattle.its_c.proofs.Opens.{counts_held, held_unit, sends_open}
use Rattle.its_c.proofs.to_area.send_to_area.Goals as goal

pub invariant_of-s : goal.invariant_of-s
invariant_of-s c =
    record {
      represents = sends_open c.send_to_area-said.result c.deref_mut.result.now
          c.send_to_area-said.new.self
          (λ u. unit_step u c.args.now (Own (area_call (kind_of_cast c.args.cast)
          (gbc_request c.area_request-r.result))))
          c.args.s.now.held.unit c.put.new.self.unit c.send_to_area-said.ensures.step
          c.send_to_area-said.ensures.unchanged (search rules) (search rules)
          c.args.s.now.represents;
    }

pub returns-clause-step : goal.returns-clause-step
returns-clause-step c =
    let made : IsAreaOf c.args.request.now c.in-Some.area = search rules in
    record {
      short = search rules;
      enough = λ long. record {
        refused = search rules;
        outside = search rules;
        taken = λ fine. (c.in-Some.area, made);
        inside = λ fine. (
          c.in-Some.area,
          made,
          record {
            step = λ u holds.
                let rep = held_unit c.args.s.now.held.unit c.deref_mut.result.now u (search rules)
                holds in
                record {
                  said = c.send_to_area-said.result;
                  after = c.send_to_area-said.new.self;
                  held = search rules;
                  done = subst (λ (k : GbcRequest). IsSendOf c.send_to_area-said.result
                      c.send_to_area-said.new.self
                      (unit_step u c.args.now (Own (area_call (kind_of_cast c.args.cast) k))))
                      c.area_request-r.ensures (c.send_to_area-said.ensures.step u rep);
                  code = search rules;
                  shown = c.told_frame.ensures.shown;
                  counts = counts_held (counted_request (kind_cast c.args.cast))
                      c.send_to_area-said.result c.args.s.now.held.unit c.put.new.self.unit
                      c.deref_mut.result.now c.send_to_area-said.new.self (search rules)
                      (search rules) c.send_to_area-said.ensures.counts;
                };
            memory = search rules;
          },
        );
      };
    }
