use Rattle.std.proofs.Common.{Some, None, cond, length, refl, sym}
use Rattle.std.proofs.lemmas.Bool.{lt-ltb, le-ltb}
use Rattle.its_model.specs.Calls as model
use Rattle.its_model.specs.Calls.{Refusal}
use Rattle.its_model.specs.Station.{first, after_sending}
use Rattle.its_station.specs.State.{model_of}
use Rattle.its_station.specs.Requests.{TellsSent, shb_request}
use Rattle.its_station.specs.Beside.{shb_for, shb_refusal}
use Rattle.its_station.specs.declared.refused.Refused.TheVariants as refused
use Rattle.its_station.proofs.Beside.{refused_step, done_step, moment_first}
use Rattle.its_station.proofs.Stations.{Represents-later, represents}
use Rattle.its_station.proofs.station.Station.send_shb_for.Goals as goal

pub returns-in_err-check_moment-clause-step : goal.returns-in_err-check_moment-clause-step
returns-in_err-check_moment-clause-step g c =
    let r = shb_request c.args.r.now in
    moment_first TellsSent c.args.self.now c.args.now _ c.from_residual.result
    (λ m. record {
      answer = model.Answer.Sent (shb_for m c.args.options r);
      station = after_sending m c.args.now;
    }) r c.from_residual.ensures.1 c.in_err-check_moment.ensures.refusal

pub returns-then-r-gt-MAX_PAYLOAD-clause-step : goal.returns-then-r-gt-MAX_PAYLOAD-clause-step
returns-then-r-gt-MAX_PAYLOAD-clause-step g c =
    let r = shb_request c.args.r.now in
    refused_step TellsSent c.args.self.now refused.PayloadTooLong
    (λ m. shb_refusal m c.args.now r)
    (λ m. record {
      answer = model.Answer.Sent (shb_for m c.args.options r);
      station = after_sending m c.args.now;
    })
    (λ ports history. λ i. first (c.in_ok-check_moment.ensures.refusal ports history i)
    (cond (sym (lt-ltb 1394 (length c.args.r.now.payload.now) c.if-r-gt-MAX_PAYLOAD.true) i)
    (Some model.Refusal.PayloadTooLong) None))

pub returns-clause-step : goal.returns-clause-step
returns-clause-step g c =
    let r = shb_request c.args.r.now in
    done_step TellsSent c.in_ok-frame.frame c.args.self.now c.mark_sent.new.self _
    (λ m. shb_refusal m c.args.now r)
    (λ m. record {
      answer = model.Answer.Sent (shb_for m c.args.options r);
      station = after_sending m c.args.now;
    }) c.mark_sent.ensures
    (λ ports history. λ i. first (c.in_ok-check_moment.ensures.refusal ports history i)
    (cond (sym (le-ltb 1394 (length c.args.r.now.payload.now) c.if-r-gt-MAX_PAYLOAD.false) i)
    (Some model.Refusal.PayloadTooLong) None))
    (λ ports history past. record {
      sent = shb_for (model_of c.args.self.now ports history) c.args.options r;
      is = refl;
      frame =
          c.in_ok-frame.ensures.octets ports history;
    })
    (λ ports history past. represents _ ports history (record {
      ports = past.ports;
      table =
          Represents-later _ _ _ _ _ c.in_ok-check_moment.ensures.time.0 past.table;
    }))
