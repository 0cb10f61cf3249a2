use Rattle.std.proofs.Common.{Some, None, cond, refl, sym, ◌∙◌}
use Rattle.std.proofs.lemmas.Bool.{lt-ltb, le-ltb}
use Rattle.its_model.specs.Calls as model
use Rattle.its_model.specs.Calls.{Own}
use Rattle.its_model.specs.Calls.OwnCall.{Tick}
use Rattle.its_model.specs.Station.{Step, after_sending, beacon_of}
use Rattle.its_station.specs.State.{model_of}
use Rattle.its_station.specs.Requests.{TellsTick}
use Rattle.its_station.specs.declared.refused.Refused.TheVariants as refused
use Rattle.its_station.proofs.Hearing.{moment_exit}
use Rattle.its_station.proofs.Stations.{Represents-later, own_done_step, own_refused_later}
use Rattle.its_station.proofs.station.Station.tick.Goals as goal

pub returns-in_err-check_moment-clause-step : goal.returns-in_err-check_moment-clause-step
returns-in_err-check_moment-clause-step g c =
    moment_exit TellsTick c.args.self.now c.args.now
    (Own (Tick c.args.jitter)) _
    c.from_residual.result c.from_residual.ensures.1 c.in_err-check_moment.ensures.refusal

pub returns-then-jitter-gt-MAX_JITTER-clause-step :
    goal.returns-then-jitter-gt-MAX_JITTER-clause-step
returns-then-jitter-gt-MAX_JITTER-clause-step g c =
    own_refused_later TellsTick c.args.self.now c.args.now
    (Tick c.args.jitter) refused.JitterRange c.in_ok-check_moment.ensures.refusal
    (λ ports history. λ i.
    cond (sym (lt-ltb 750 c.args.jitter c.if-jitter-gt-MAX_JITTER.true) i)
    (Some model.Refusal.JitterRange) None)

pub returns-then-not-is_beacon_due-clause-step : goal.returns-then-not-is_beacon_due-clause-step
returns-then-not-is_beacon_due-clause-step g c =
    let now = c.args.now in
    let due = sym c.is_beacon_due.ensures ∙ c.if-not-is_beacon_due.true in
    own_done_step TellsTick None c.args.self.now c.set_clock.new.self _ now (Tick c.args.jitter)
    (λ ports history. model.Answer.Quiet) (λ ports. ports)
    (λ history. history) c.set_clock.ensures c.in_ok-check_moment.ensures.refusal
    (λ ports history past. λ i.
    cond (le-ltb 750 c.args.jitter c.if-jitter-gt-MAX_JITTER.false i)
    (Some model.Refusal.JitterRange) None)
    (λ ports history. let m = model_of c.args.self.now ports history in
    λ i. cond {A = Step} (due i) (record {
      answer = model.Answer.Sent (beacon_of m);
      station = after_sending m now;
    }) (record {
      answer = model.Answer.Quiet;
      station = record m { clock = now };
    }))
    (λ ports history past. record {
      ports = past.ports;
      table =
          Represents-later _ _ _ _ _ c.in_ok-check_moment.ensures.time.0 past.table;
    })
    (λ ports history past. refl)

pub returns-clause-step : goal.returns-clause-step
returns-clause-step g c =
    let now = c.args.now in
    let due = sym c.is_beacon_due.ensures ∙ c.if-not-is_beacon_due.false in
    own_done_step TellsTick (Some c.in_ok-frame.frame) c.args.self.now c.mark_sent.new.self _ now
    (Tick c.args.jitter)
    (λ ports history. model.Answer.Sent (beacon_of (model_of c.args.self.now ports history)))
    (λ ports. ports) (λ history. history) c.mark_sent.ensures c.in_ok-check_moment.ensures.refusal
    (λ ports history past. λ i.
    cond (le-ltb 750 c.args.jitter c.if-jitter-gt-MAX_JITTER.false i)
    (Some model.Refusal.JitterRange) None)
    (λ ports history. let m = model_of c.args.self.now ports history in
    λ i. cond {A = Step} (due i) (record {
      answer = model.Answer.Sent (beacon_of m);
      station = after_sending m now;
    }) (record {
      answer = model.Answer.Quiet;
      station = record m { clock = now };
    }))
    (λ ports history past. record {
      ports = past.ports;
      table =
          Represents-later _ _ _ _ _ c.in_ok-check_moment.ensures.time.0 past.table;
    })
    (λ ports history past. record {
      sent = beacon_of (model_of c.args.self.now ports history);
      is = refl;
      frame =
          c.in_ok-frame.ensures.octets ports history;
    })
