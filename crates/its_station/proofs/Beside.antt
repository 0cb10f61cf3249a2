-- Steps beside those of the model's calls.
use Rattle.std.proofs.Common.{◌≡◌, ℕ, List, Option, Some, None, refl, sym, ap, subst, ◌∙◌}
use Rattle.std.specs.Prelude.{Result, Ok, Err, IfSome, IsErrAnd}
use Rattle.its_model.specs.Packet.{Transmission}
use Rattle.its_model.specs.History.{Reception}
use Rattle.its_model.specs.Calls as model
use Rattle.its_model.specs.Calls.{Answer, Refusal, ShbRequest}
use Rattle.its_model.specs.Calls.OwnCall.{SendShb}
use Rattle.its_model.specs.Station.{StationModel, Step, first, own_step, own_step_by}
use Rattle.its_model.specs.Station.{moment_refusal, payload_refusal}
use Rattle.its_model.specs.Station.{shb_of, after_sending}
use Rattle.its_station.specs.declared.refused.Refused.{Refused}
use Rattle.its_station.specs.State.{StationState, IsPast, RepresentsStation, model_of}
use Rattle.its_station.specs.Steps.{IsStepOf, refusal_of}
use Rattle.its_station.specs.Beside.{default_options, step_by, send_shb_for_step, shb_refusal}
use Rattle.its_station.proofs.Stations.{at_model, represents}

-- a step that is refused, by the refusal that is owed
pub refused_step : {T : Type 0} (says : T → Answer Transmission → Type 0) (st : StationState)
    (e : Refused) (o : StationModel → Option Refusal) (done : StationModel → Step)
    → ((ports : List ℕ) (history : List Reception) → refusal_of e ≡ o (model_of st ports history))
    → (s : StationModel) → RepresentsStation st s
    → IsStepOf says (Err e) st (step_by s (o s) (done s))
refused_step says st e o done owed =
    at_model st (λ s. IsStepOf says (Err e) st (step_by s (o s) (done s)))
    (λ ports history past. by ports history past (refusal_of e) (owed ports history))
  where
    by : (ports : List ℕ) (history : List Reception) → IsPast st ports history
        → (r : Option Refusal) → r ≡ o (model_of st ports history)
        → IfSome r (λ refusal.
        ((step_by (model_of st ports history) (o (model_of st ports history))
        (done (model_of st ports history))).answer ≡ model.Answer.Refused refusal)
        × RepresentsStation st (step_by (model_of st ports history)
        (o (model_of st ports history)) (done (model_of st ports history))).station)
    by ports history past None is = tt
    by ports history past (Some r) is =
        let m = model_of st ports history in
        subst (λ (x : Option Refusal).
        ((step_by m x (done m)).answer ≡ model.Answer.Refused r)
        × RepresentsStation st (step_by m x (done m)).station) is (
          refl,
          represents st ports history past,
        )

-- the same of an answer that is this refusal
pub refused_exit : {T : Type 0} (says : T → Answer Transmission → Type 0) (st : StationState)
    (e : Refused) (r : Result T Refused) (o : StationModel → Option Refusal)
    (done : StationModel → Step) → IsErrAnd r (λ y. y ≡ e)
    → ((ports : List ℕ) (history : List Reception) → refusal_of e ≡ o (model_of st ports history))
    → (s : StationModel) → RepresentsStation st s
    → IsStepOf says r st (step_by s (o s) (done s))
refused_exit says st e (Ok x) o done is owed = absurd is
refused_exit says st e (Err y) o done is owed =
    refused_step says st y o done (λ ports history. ap refusal_of is ∙ owed ports history)

-- a single-hop broadcast that is refused for its moment
pub moment_first : {T : Type 0} (says : T → Answer Transmission → Type 0) (st : StationState)
    (now : ℕ) (e : Refused) (r : Result T Refused) (done : StationModel → Step) (asked : ShbRequest)
    → IsErrAnd r (λ y. y ≡ e)
    → ((ports : List ℕ) (history : List Reception)
    → refusal_of e ≡ moment_refusal (model_of st ports history) now)
    → (s : StationModel) → RepresentsStation st s
    → IsStepOf says r st (step_by s (shb_refusal s now asked) (done s))
moment_first says st now e (Ok x) done asked is owed = absurd is
moment_first says st now e (Err y) done asked is owed =
    at_model st (λ s. IsStepOf says (Err y) st (step_by s (shb_refusal s now asked) (done s)))
    (λ ports history past.
    by ports history past (refusal_of y) (ap refusal_of is ∙ owed ports history))
  where
    by : (ports : List ℕ) (history : List Reception) → IsPast st ports history
        → (o : Option Refusal) → o ≡ moment_refusal (model_of st ports history) now
        → IfSome o (λ refusal.
        ((step_by (model_of st ports history) (shb_refusal (model_of st ports history) now asked)
        (done (model_of st ports history))).answer ≡ model.Answer.Refused refusal)
        × RepresentsStation st (step_by (model_of st ports history)
        (shb_refusal (model_of st ports history) now asked)
        (done (model_of st ports history))).station)
    by ports history past None at = tt
    by ports history past (Some refusal) at =
        let m = model_of st ports history in
        subst (λ (x : Option Refusal).
        ((step_by m (first x (payload_refusal asked.message)) (done m)).answer
        ≡ model.Answer.Refused refusal)
        × RepresentsStation st
        (step_by m (first x (payload_refusal asked.message)) (done m)).station) at (
          refl,
          represents st ports history past,
        )

-- a step that is done: it is allowed, and the station afterwards represents that of the step
pub done_step : {T : Type 0} (says : T → Answer Transmission → Type 0) (x : T)
    (st new after : StationState) (o : StationModel → Option Refusal) (done : StationModel → Step)
    → new ≡ after
    → ((ports : List ℕ) (history : List Reception) → None ≡ o (model_of st ports history))
    → ((ports : List ℕ) (history : List Reception) → IsPast st ports history
    → says x (done (model_of st ports history)).answer)
    → ((ports : List ℕ) (history : List Reception) → IsPast st ports history
    → RepresentsStation after (done (model_of st ports history)).station)
    → (s : StationModel) → RepresentsStation st s
    → IsStepOf says (Ok x) new (step_by s (o s) (done s))
done_step says x st new after o done fields allowed told is =
    at_model st (λ s. IsStepOf says (Ok x) new (step_by s (o s) (done s)))
    (λ ports history past.
    let m = model_of st ports history in
    subst (λ (r : Option Refusal). IsStepOf says (Ok x) new (step_by m r (done m)))
    (allowed ports history) (
      told ports history past,
      subst (λ (z : StationState). RepresentsStation z (done m).station) (sym fields)
          (is ports history past),
    ))

-- with the default options a single-hop broadcast is the model's
pub usual_shb : (s : StationModel) (now : ℕ) (r : ShbRequest)
    → send_shb_for_step s now default_options r ≡ own_step s now (SendShb r)
unfolding own_step
usual_shb s now r = by (shb_refusal s now r)
  where
    by : (o : Option Refusal)
        → step_by s o (record {
          answer = model.Answer.Sent (shb_of s r);
          station = after_sending s now;
        }) ≡ own_step_by s now (SendShb r) o
    by None = refl
    by (Some refusal) = refl
