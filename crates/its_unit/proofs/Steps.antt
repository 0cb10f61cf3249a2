-- Steps of a unit, by those of its station.
use Rattle.std.proofs.Common.{◌≡◌, ℕ, ◌&&◌, Bool, true, false, cond, Option, Some, None}
use Rattle.std.proofs.Common.{refl, sym, ap, ◌∙◌, subst}
use Rattle.std.specs.Prelude.{Result, Ok, Err, IfSome, OnErr, OnOk, Vec}
use Rattle.std.specs.declared.alloc.Global.{Global}
use Rattle.its_model.specs.Packet.{Transmission}
use Rattle.its_model.specs.Calls as model
use Rattle.its_model.specs.Calls.{Answer, GbcRequest, Refusal, area_call}
use Rattle.its_model.specs.Packet.{AreaKind, geobroadcast, geoanycast}
use Rattle.its_model.specs.Station.{StationModel, Step, station_step}
use Rattle.its_station.specs.State.{RepresentsStation}
use Rattle.its_station.specs.Steps as station
use Rattle.its_station.specs.Steps.{refusal_of}
use Rattle.its_station.specs.Requests.{TellsSent}
use Rattle.its_station.specs.declared.refused.Refused.{Refused}
use Rattle.its_governor.specs.declared.governor.Governor.{Governor}
use Rattle.its_governor.specs.declared.receiver.Receiver.{Receiver}
use Rattle.its_governor.specs.Governing.{governed, after_call, after_sent}
use Rattle.its_governor.specs.Governing.{is_repeated_in, is_over_rate}
use Rattle.its_contention.specs.Buffer.{Buffer}
use Rattle.its_contention.specs.Waiting.{Waiting}
use Rattle.its_unit.specs.Contending.{after_own_answer}
use Rattle.its_unit.specs.Unit.{UnitModel, UnitState, UnitStep, UnitCall, UnitAnswer, RepresentsUnit}
use Rattle.its_unit.specs.Unit.{answer_by, is_own_request, receiver_of, refused_step, unit_step}
use Rattle.its_unit.specs.Steps.{IsRefusedStep, IsSendOf, SaysPassed, unsent_of}

-- what passes of a step without a frame that came, by the frames that wait, the limits, and whether it
-- is a request
abbrev passing : Option (Buffer Waiting) → Governor → Receiver → ℕ → Bool → Step → UnitStep
passing o g r now request step =
    record {
      answer = answer_by (is_repeated_in g now None step.answer) (governed g r now None step.answer);
      due = None;
      cancelled = false;
      unit = record {
        station = step.station;
        contention = after_own_answer o step.answer;
        governor = after_call g r now request None step.answer;
      };
    }

-- a refusal passes as it is, and leaves the frames that wait and the limits
refused_by : (h : Option (Buffer Waiting)) (g : Governor) (r : Receiver) (now : ℕ) (request : Bool)
    (o : Option Refusal) (new : UnitState) (step : Step) → h ≡ new.contention → g ≡ new.governor
    → IfSome o (λ refusal. (step.answer ≡ model.Answer.Refused refusal)
    × RepresentsStation new.station step.station)
    → IfSome o (λ refusal. ((passing h g r now request step).answer
    ≡ UnitAnswer.Passed (model.Answer.Refused refusal))
    × RepresentsUnit new (passing h g r now request step).unit)
refused_by h g r now request None new step held same is = tt
refused_by h g r now request (Some refusal) new step held same is = (
  ap (λ (a : Answer Transmission). answer_by (is_repeated_in g now None a) (governed g r now None a)) is.0,
  record {
    station = is.1;
    contention = ap (λ (a : Answer Transmission). after_own_answer h a) is.0 ∙ held;
    governor = ap (λ (a : Answer Transmission). after_call g r now request None a) is.0 ∙ same;
  },
)

refused : (h : Option (Buffer Waiting)) (g : Governor) (r : Receiver) (now : ℕ) (request : Bool)
    (e : Refused) (new : UnitState) (step : Step) → h ≡ new.contention → g ≡ new.governor
    → station.IsRefusedStep e new.station step
    → IsRefusedStep e new (passing h g r now request step)
refused h g r now request e new step held same is =
    refused_by h g r now request (refusal_of e) new step held same is

-- ---- requests

-- what is sent passes, and takes a frame out of the bucket of own packets
sent_passes : (g : Governor) (r : Receiver) (now : ℕ) (a : Answer Transmission) (t : Transmission)
    → a ≡ model.Answer.Sent t
    → answer_by (is_repeated_in g now None a) (governed g r now None a) ≡ UnitAnswer.Passed a
sent_passes g r now a t is =
    subst (λ (b : Answer Transmission). answer_by (is_repeated_in g now None b) (governed g r now None b)
    ≡ UnitAnswer.Passed b) (sym is) refl

-- the limits after a request: a frame is taken out if one is sent
abbrev pub IfSent : Result (Vec ℕ Global) Refused → Governor → ℕ → UnitState → Type 0
IfSent (Ok w) g now new = after_sent g now ≡ new.governor
IfSent (Err e) g now new = g ≡ new.governor

request_passed : (said : Result (Vec ℕ Global) Refused) (h : Option (Buffer Waiting)) (g : Governor)
    (r : Receiver) (now : ℕ) (new : UnitState) (step : Step) → h ≡ new.contention
    → station.IsStepOf TellsSent said new.station step
    → IfSent said g now new
    → IsSendOf (unsent_of said) new (passing h g r now true step)
request_passed (Ok w) h g r now new step held is same = (
  subst (λ (a : UnitAnswer). SaysPassed TellsSent w a)
      (sym (sent_passes g r now step.answer is.0.sent is.0.is)) is.0,
  record {
    station = is.1;
    contention = ap (λ (a : Answer Transmission). after_own_answer h a) is.0.is ∙ held;
    governor = ap (λ (a : Answer Transmission). after_call g r now true None a) is.0.is ∙ same;
  },
)
request_passed (Err e) h g r now new step held is same = refused h g r now true e new step held same is

-- a request that is not over its rate
request_step : (said : Result (Vec ℕ Global) Refused) (u : UnitModel) (r : Receiver) (now : ℕ)
    (new : UnitState) (step : Step) → is_over_rate u.governor u.station.clock now ≡ false
    → u.contention ≡ new.contention
    → station.IsStepOf TellsSent said new.station step
    → IfSent said u.governor now new
    → IsSendOf (unsent_of said) new (cond (is_over_rate u.governor u.station.clock now)
    (refused_step u) (passing u.contention u.governor r now true step))
request_step said u r now new step within held is same =
    subst (λ (b : Bool). IsSendOf (unsent_of said) new
    (cond b (refused_step u) (passing u.contention u.governor r now true step))) (sym within)
    (request_passed said u.contention u.governor r now new step held is same)

-- whether requests are over their rate is seen of the unit
rate_seen : (st : UnitState) (u : UnitModel) (now : ℕ) → RepresentsUnit st u
    → is_over_rate u.governor u.station.clock now ≡ is_over_rate st.governor st.station.clock now
rate_seen st u now rep =
    ap (λ (g : Governor). is_over_rate g u.station.clock now) rep.governor
    ∙ ap (λ (m : StationModel). is_over_rate st.governor m.clock now) rep.station.fields

-- ---- packets for an area

area_request : (kind : AreaKind) (r : GbcRequest) → is_own_request (area_call kind r) ≡ true
area_request geobroadcast r = refl
area_request geoanycast r = refl

if_sent : (said : Result (Vec ℕ Global) Refused) (g : Governor) (now : ℕ) (old new : UnitState)
    → OnOk (unsent_of said) (new.governor ≡ after_sent old.governor now)
    → OnErr (unsent_of said) (new.governor ≡ old.governor) → g ≡ old.governor
    → IfSent said g now new
if_sent (Ok w) g now old new sent failed same =
    ap (λ (x : Governor). after_sent x now) same ∙ sym sent
if_sent (Err e) g now old new sent failed same = same ∙ sym failed

pub area_step : (said : Result (Vec ℕ Global) Refused) (u : UnitModel) (now : ℕ)
    (old new : UnitState) (kind : AreaKind) (r : GbcRequest) → RepresentsUnit old u
    → is_over_rate old.governor old.station.clock now ≡ false
    → new.contention ≡ old.contention
    → station.IsStepOf TellsSent said new.station
    (station_step u.station now (model.Call.Own (area_call kind r)))
    → OnOk (unsent_of said) (new.governor ≡ after_sent old.governor now)
    → OnErr (unsent_of said) (new.governor ≡ old.governor)
    → IsSendOf (unsent_of said) new (unit_step u now (UnitCall.Own (area_call kind r)))
area_step said u now old new kind r rep within held is sent failed =
    let step = station_step u.station now (model.Call.Own (area_call kind r)) in
    subst (λ (b : Bool). IsSendOf (unsent_of said) new
    (cond (b && is_over_rate u.governor u.station.clock now) (refused_step u)
    (passing u.contention u.governor (receiver_of u.station now None) now b step)))
    (sym (area_request kind r))
    (request_step said u (receiver_of u.station now None) now new step (rate_seen old u now rep ∙ within)
    (rep.contention ∙ sym held) is
    (if_sent said u.governor now old new sent failed rep.governor))
