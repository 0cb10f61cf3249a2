-- A station and the stations of the model that it represents.
use Rattle.std.proofs.Common.{◌≡◌, ℕ, ◌≤◌, List, ◌∷◌, Option, Some, None, refl, sym, ap, subst, ◌∙◌}
use Rattle.std.proofs.Common.{arith}
use Rattle.std.specs.Prelude.{Ok, Err, IfSome}
use Rattle.its_model.specs.Packet.{Transmission}
use Rattle.its_model.specs.History.{Reception}
use Rattle.its_model.specs.Calls as model
use Rattle.its_model.specs.Calls.{OwnCall, Answer, Refusal}
use Rattle.its_model.specs.Station.{StationModel, Step, first, moment_refusal, own_refusal}
use Rattle.its_model.specs.Station.{own_step, own_step_by, performed}
use Rattle.its_loctable.specs.Content.{Entry, Represents}
use Rattle.its_station.specs.declared.refused.Refused.{Refused}
use Rattle.its_station.specs.State.{StationState, HasPast, IsPast, RepresentsStation}
use Rattle.its_station.specs.State.{model_of}
use Rattle.its_station.specs.Steps.{IsStepOf, refusal_of}

-- what holds of the model station with each past holds of each one that is represented
pub at_model : (st : StationState) (P : StationModel → Type 0)
    → ((ports : List ℕ) (history : List Reception) → IsPast st ports history
    → P (model_of st ports history))
    → (s : StationModel) → RepresentsStation st s → P s
at_model st P f s rep = subst P (sym rep.fields) (f s.ports s.history rep.past)

pub represents : (st : StationState) (ports : List ℕ) (history : List Reception)
    → IsPast st ports history → RepresentsStation st (model_of st ports history)
represents st ports history past = record { fields = refl; past = past }

pub Represents-later : (remember : ℕ) (content : List Entry) (history : List Reception)
    (from to : ℕ) → from ≤ to → Represents remember content history from
    → Represents remember content history to
Represents-later remember content history from to le rep =
    record { live = λ t source at. rep.live t source (omega arith) }

-- a station that has a past has it later too
pub later : (remember : ℕ) (content : List Entry) (from to : ℕ) → from ≤ to
    → HasPast remember content from → HasPast remember content to
later remember content from to le past = record {
  history = past.history;
  table = Represents-later remember content past.history from to le past.table;
}

-- with the same table
pub same_past : (n m : ℕ) (old new : List Entry) (clock : ℕ) → m ≡ n → new ≡ old
    → HasPast n old clock → HasPast m new clock
same_past n m old new clock e f past =
    subst (λ r. HasPast r new clock) (sym e) (subst (λ c. HasPast n c clock) (sym f) past)

-- and with a table that represents each history with one more reception
pub past_with : (n m : ℕ) (old new : List Entry) (from to : ℕ) (r : Reception) → from ≤ to
    → ((history : List Reception) → Represents n old history to
    → Represents m new (r ∷ history) to)
    → HasPast n old from → HasPast m new to
past_with n m old new from to r le hears past =
    let now = later n old from to le past in
    record { history = r ∷ now.history; table = hears now.history now.table }

pub own_refused : (s : StationModel) (t : ℕ) (call : OwnCall) (r : Refusal)
    → first (moment_refusal s t) (own_refusal s call) ≡ Some r
    → own_step s t call ≡ record { answer = model.Answer.Refused r; station = s }
unfolding own_step
own_refused s t call r e = ap (own_step_by s t call) e

pub own_done : (s : StationModel) (t : ℕ) (call : OwnCall)
    → first (moment_refusal s t) (own_refusal s call) ≡ None
    → own_step s t call ≡ performed s t call
unfolding own_step
own_done s t call e = ap (own_step_by s t call) e

-- a call of its own that is refused, by the refusal that is owed
pub own_refused_step : {T : Type 0} (says : T → Answer Transmission
    → Type 0) (st : StationState) (t : ℕ) (call : OwnCall) (e : Refused)
    → ((ports : List ℕ) (history : List Reception) → IsPast st ports history
    → refusal_of e
    ≡ first (moment_refusal (model_of st ports history) t)
    (own_refusal (model_of st ports history) call))
    → (s : StationModel) → RepresentsStation st s → IsStepOf says (Err e) st (own_step s t call)
own_refused_step says st t call e owed =
    at_model st (λ s. IsStepOf says (Err e) st (own_step s t call))
    (λ ports history past. by ports history past (refusal_of e) (owed ports history past))
  where
    by : (ports : List ℕ) (history : List Reception) → IsPast st ports history
        → (o : Option Refusal)
        → o ≡ first (moment_refusal (model_of st ports history) t)
        (own_refusal (model_of st ports history) call)
        → IfSome o (λ refusal.
        ((own_step (model_of st ports history) t call).answer ≡ model.Answer.Refused refusal)
        × RepresentsStation st (own_step (model_of st ports history) t call).station)
    by ports history past None is = tt
    by ports history past (Some r) is =
        let step = own_refused (model_of st ports history) t call r (sym is) in (
          ap (λ (x : Step). x.answer) step,
          subst (λ (x : Step). RepresentsStation st x.station) (sym step)
              (represents st ports history past),
        )

-- A call of its own that is done: it is allowed, the model's step has this answer and this station,
-- and the station afterwards represents that one.
pub own_done_step : {T : Type 0} (says : T → Answer Transmission
    → Type 0) (x : T) (st new after : StationState) (t : ℕ) (call : OwnCall)
    (answer : List ℕ → List Reception → Answer Transmission) (theirs : List ℕ
    → List ℕ) (heard : List Reception → List Reception)
    → new ≡ after
    → ((ports : List ℕ) (history : List Reception)
    → None ≡ moment_refusal (model_of st ports history) t)
    → ((ports : List ℕ) (history : List Reception) → IsPast st ports history
    → own_refusal (model_of st ports history) call ≡ None)
    → ((ports : List ℕ) (history : List Reception)
    → performed (model_of st ports history) t call ≡ record {
      answer = answer ports history;
      station = model_of after (theirs ports) (heard history);
    })
    → ((ports : List ℕ) (history : List Reception) → IsPast st ports history
    → IsPast after (theirs ports) (heard history))
    → ((ports : List ℕ) (history : List Reception) → IsPast st ports history
    → says x (answer ports history))
    → (s : StationModel) → RepresentsStation st s → IsStepOf says (Ok x) new (own_step s t call)
own_done_step says x st new after t call answer theirs heard fields timely allowed is past told =
    at_model st (λ s. IsStepOf says (Ok x) new (own_step s t call)) (λ ports history before.
    let m = model_of st ports history in
    let step : own_step m t call ≡ record {
      answer = answer ports history;
      station = model_of after (theirs ports) (heard history);
    } =
    own_done m t call (λ i. first (sym (timely ports history) i) (allowed ports history before i))
    ∙ is ports history in
    subst (λ (y : Step). IsStepOf says (Ok x) new y) (sym step) (
      told ports history before,
      subst (λ (z : StationState).
          RepresentsStation z (model_of after (theirs ports) (heard history))) (sym fields)
          (represents after (theirs ports) (heard history) (past ports history before)),
    ))

-- a call of its own that is refused after its moment was judged
pub own_refused_later : {T : Type 0} (says : T → Answer Transmission
    → Type 0) (st : StationState) (t : ℕ) (call : OwnCall) (e : Refused)
    → ((ports : List ℕ) (history : List Reception)
    → None ≡ moment_refusal (model_of st ports history) t)
    → ((ports : List ℕ) (history : List Reception)
    → refusal_of e ≡ own_refusal (model_of st ports history) call)
    → (s : StationModel) → RepresentsStation st s → IsStepOf says (Err e) st (own_step s t call)
own_refused_later says st t call e timely owed =
    own_refused_step says st t call e (λ ports history past. owed ports history
    ∙ ap (λ o. first o (own_refusal (model_of st ports history) call)) (timely ports history))

-- where an allocation failed, the call wasn't refused otherwise
pub nothing_refused : (st : StationState) (t : ℕ) (call : OwnCall)
    → ((ports : List ℕ) (history : List Reception)
    → None ≡ moment_refusal (model_of st ports history) t)
    → ((ports : List ℕ) (history : List Reception)
    → own_refusal (model_of st ports history) call ≡ None)
    → (s : StationModel) → RepresentsStation st s
    → first (moment_refusal s t) (own_refusal s call) ≡ None
nothing_refused st t call timely allowed =
    at_model st (λ s. first (moment_refusal s t) (own_refusal s call) ≡ None)
    (λ ports history past. λ i. first (sym (timely ports history) i) (allowed ports history i))
