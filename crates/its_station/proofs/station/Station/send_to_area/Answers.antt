use Rattle.std.proofs.Common.{◌≡◌, ◌≤◌, ℕ, Some, None, true, false, cond, eqb, length, refl, sym}
use Rattle.std.proofs.Common.{◌∙◌, tests, arith}
use Rattle.std.proofs.lemmas.Bool.{lt-ltb, le-ltb}
use Rattle.its_model.specs.Packet.{area_body}
use Rattle.its_model.specs.Calls as model
use Rattle.its_model.specs.Calls.{Own, GbcRequest, area_call}
use Rattle.its_model.specs.Station.{area_packet, area_refusal, first}
use Rattle.its_station.specs.State.{model_of}
use Rattle.its_station.specs.Requests.{TellsSent, gbc_request, kind_of_cast}
use Rattle.its_station.specs.declared.refused.Refused.TheVariants as refused
use Rattle.its_station.proofs.AreaCalls.{performed_area, refusal_area}
use Rattle.its_station.proofs.Hearing.{moment_exit}
use Rattle.its_station.proofs.Stations.{Represents-later, own_done_step, own_refused_later}
use Rattle.its_station.proofs.station.Station.send_to_area.Goals as goal

some_hops : (n : ℕ) → (n ≡ 0 → ⊥) → eqb n 0 ≡ false
some_hops n h = grind (arith, tests)

no_hops : (n : ℕ) → n ≡ 0 → eqb n 0 ≡ true
no_hops n h = grind (arith, tests)

-- a request that is short and has hops is allowed
allowed : (r : GbcRequest) → length r.message.payload ≤ 1394 → (r.max_hops ≡ 0 → ⊥)
    → area_refusal r ≡ None
allowed r short some =
    λ i. first (cond (le-ltb 1394 (length r.message.payload) short i)
    (Some model.Refusal.PayloadTooLong) None)
    (cond (some_hops r.max_hops some i) (Some model.Refusal.HopLimitZero) None)

pub returns-in_err-check_moment-clause-step : goal.returns-in_err-check_moment-clause-step
returns-in_err-check_moment-clause-step g c =
    moment_exit TellsSent c.args.self.now c.args.now
    (Own (area_call (kind_of_cast c.args.cast)
    (gbc_request c.args.r.now))) _
    c.from_residual.result c.from_residual.ensures.1 c.in_err-check_moment.ensures.refusal

pub returns-then-r-gt-MAX_PAYLOAD-clause-step : goal.returns-then-r-gt-MAX_PAYLOAD-clause-step
returns-then-r-gt-MAX_PAYLOAD-clause-step g c =
    let r = gbc_request c.args.r.now in
    own_refused_later TellsSent c.args.self.now c.args.now
    (area_call (kind_of_cast c.args.cast) r) refused.PayloadTooLong
    c.in_ok-check_moment.ensures.refusal
    (λ ports history.
    (λ i. first
    (cond (sym (lt-ltb 1394 (length c.args.r.now.payload.now) c.if-r-gt-MAX_PAYLOAD.true) i)
    (Some model.Refusal.PayloadTooLong) None)
    (cond (eqb r.max_hops 0) (Some model.Refusal.HopLimitZero) None))
    ∙ sym (refusal_area (kind_of_cast c.args.cast) (model_of c.args.self.now ports history) r))

pub returns-then-r-eq0-clause-step : goal.returns-then-r-eq0-clause-step
returns-then-r-eq0-clause-step g c =
    let r = gbc_request c.args.r.now in
    own_refused_later TellsSent c.args.self.now c.args.now
    (area_call (kind_of_cast c.args.cast) r) refused.HopLimitZero
    c.in_ok-check_moment.ensures.refusal
    (λ ports history.
    sym (λ i. first
    (cond (le-ltb 1394 (length c.args.r.now.payload.now) c.if-r-gt-MAX_PAYLOAD.false i)
    (Some model.Refusal.PayloadTooLong) None)
    (cond (no_hops r.max_hops c.if-r-eq0.true i) (Some model.Refusal.HopLimitZero) None))
    ∙ sym (refusal_area (kind_of_cast c.args.cast) (model_of c.args.self.now ports history) r))

pub returns-clause-step : goal.returns-clause-step
returns-clause-step g c =
    let r = gbc_request c.args.r.now in
    let kind = kind_of_cast c.args.cast in
    let st = c.args.self.now in
    let body = area_body kind st.next_number r.area r.message in
    own_done_step TellsSent c.in_ok-frame.frame st c.mark_area_sent.new.self _ c.args.now
    (area_call kind r)
    (λ ports history. model.Answer.Sent (area_packet (model_of st ports history) c.args.now r body))
    (λ ports. ports) (λ history. history) c.mark_area_sent.ensures
    c.in_ok-check_moment.ensures.refusal
    (λ ports history past. refusal_area kind (model_of st ports history) r
    ∙ allowed r c.if-r-gt-MAX_PAYLOAD.false c.if-r-eq0.false)
    (λ ports history. performed_area kind (model_of st ports history) c.args.now r)
    (λ ports history past. record {
      ports = past.ports;
      table =
          Represents-later _ _ _ _ _ c.in_ok-check_moment.ensures.time.0 past.table;
    })
    (λ ports history past. record {
      sent = area_packet (model_of st ports history) c.args.now r body;
      is = refl;
      frame = c.in_ok-frame.ensures.octets ports history
          (Represents-later _ _ _ _ _ c.in_ok-check_moment.ensures.time.0 past.table);
    })
