-- One more call after others.
use Rattle.std.proofs.Common.{◌≡◌, ℕ, List, [], ◌∷◌, ◌++◌, refl, sym, subst, Ok, Err}
use Rattle.its_model.specs.Packet.{Transmission}
use Rattle.its_model.specs.Calls.{Answer, Call as ModelCall}
use Rattle.its_model.specs.Station.{StationModel, Step, station_step}
use Rattle.its_model.specs.Isolation.{TimedCall, answers_of, station_run}
use Rattle.its_station.specs.declared.answer.Answer.TheVariants as answers
use Rattle.its_station.specs.declared.call.Call.{Call}
use Rattle.its_station.specs.declared.call.Call.TheVariants as calls
use Rattle.its_station.specs.declared.call.OwnCall.{OwnCall}
use Rattle.its_station.specs.declared.run.Reply.{Reply}
use Rattle.its_station.specs.State.{StationState, RepresentsStation}
use Rattle.std.specs.Prelude.{Result, MatchResult, IfOk, IfSome, IsSome}
use Rattle.its_gnvalue.specs.declared.fault.NoMemory.{NoMemory}
use Rattle.its_model.specs.Calls as model
use Rattle.its_model.specs.Calls.{Refusal}
use Rattle.its_station.specs.declared.refused.Refused.{Refused}
use Rattle.its_station.specs.declared.refused.Refused.TheVariants as refused
use Rattle.its_station.specs.Steps.{refusal_of}
use Rattle.its_station.proofs.Replies.{refused_step}
use Rattle.its_station.specs.Answers.{IsAnswerTo, StationAnswer}
use Rattle.its_station.specs.Runs.{IsCall, AreCalls, AreReplies, IsRunOf, TellsReply}
use Rattle.its_station.specs.Runs.{own_of, reply_of}

calls_last : (xs : List (ℕ × Call)) (cs : List TimedCall) (x : ℕ × Call) (c : TimedCall)
    → AreCalls xs cs → c.moment ≡ x.0 → IsCall x.1 c.call → AreCalls (xs ++ x ∷ []) (cs ++ c ∷ [])
calls_last [] [] x c are m is = (m, is, tt)
calls_last [] (d ∷ cs) x c are m is = absurd are
calls_last (y ∷ xs) [] x c are m is = absurd are
calls_last (y ∷ xs) (d ∷ cs) x c are m is = (are.0, are.1, calls_last xs cs x c are.2 m is)

replies_last : (rs : List Reply) (bs : List (Answer Transmission)) (r : Reply)
    (a : Answer Transmission) → AreReplies rs bs → TellsReply r a
    → AreReplies (rs ++ r ∷ []) (bs ++ a ∷ [])
replies_last [] [] r a are is = (is, tt)
replies_last [] (b ∷ bs) r a are is = absurd are
replies_last (q ∷ rs) [] r a are is = absurd are
replies_last (q ∷ rs) (b ∷ bs) r a are is = (are.0, replies_last rs bs r a are.1 is)

pub run_none : (s : StationModel) (new : StationState) → RepresentsStation new s
    → IsRunOf s [] [] new
run_none s new rep = record { done = []; are = tt; answers = tt; station = rep }

pub run_more : (s : StationModel) (calls : List (ℕ × Call)) (replies : List Reply)
    (mid new : StationState) (x : ℕ × Call) (r : Reply) (answer : StationAnswer)
    → r ≡ reply_of answer
    → ((s : StationModel) (first next : List TimedCall)
    → station_run s (first ++ next) ≡ station_run (station_run s first) next)
    → ((s : StationModel) (first next : List TimedCall)
    → answers_of s (first ++ next) ≡ answers_of s first
    ++ answers_of (station_run s first) next)
    → IsRunOf s calls replies mid
    → (c : ModelCall) × IsCall x.1 c
    × ((s : StationModel) → RepresentsStation mid s → IsAnswerTo answer new (station_step s x.0 c))
    → IsRunOf s (calls ++ x ∷ []) (replies ++ r ∷ []) new
run_more s calls replies mid new x r answer is goes answers run step =
    let c : TimedCall = record { moment = x.0; call = step.0 } in
    let told = step.2 (station_run s run.done) run.station in
    record {
      done = run.done ++ c ∷ [];
      are = calls_last calls run.done x c run.are refl step.1;
      answers = subst (AreReplies (replies ++ r ∷ [])) (sym (answers s run.done (c ∷ [])))
          (replies_last replies (answers_of s run.done) r
          (station_step (station_run s run.done) x.0 step.0).answer run.answers
          (answer, is, told.0));
      station = subst (RepresentsStation new) (sym (goes s run.done (c ∷ []))) told.1;
    }

-- a refusal, as an answer, is that of the step
pub refused_answer : (r : Result StationAnswer NoMemory) (e : Refused) (new : StationState)
    (step : Step)
    → MatchResult r (λ answer. (answer ≡ answers.Refused e) × IsSome (refusal_of e))
    (λ _. e ≡ refused.NoMemory)
    → IfSome (refusal_of e) (λ refusal. (step.answer ≡ model.Answer.Refused refusal)
    × RepresentsStation new step.station)
    → IfOk r (λ answer. IsAnswerTo answer new step)
refused_answer (Err n) e new step refusal told = tt
refused_answer (Ok answer) e new step refusal told =
    subst (λ (y : StationAnswer). IsAnswerTo y new step) (sym refusal.0)
    (refused_step (refusal_of e) new step refusal.1 told)

-- the answer to a call of the applications is that of the call that it is in the model
pub own_answer : (r : Result StationAnswer NoMemory) (call : OwnCall) (own : model.OwnCall)
    (old new : StationState) (moment : ℕ) → own_of call ≡ own
    → ((s : StationModel) → RepresentsStation old s
    → IfOk r (λ answer. IsAnswerTo answer new (station_step s moment (model.Call.Own own))))
    → IfOk r (λ answer. (s : StationModel) → RepresentsStation old s
    → IsAnswerTo answer new (station_step s moment (model.Call.Own (own_of call))))
own_answer (Err n) call own old new moment is f = tt
own_answer (Ok answer) call own old new moment is f = λ s rep.
    subst (λ (x : model.OwnCall). IsAnswerTo answer new (station_step s moment (model.Call.Own x)))
    (sym is) (f s rep)

-- and it is the answer to the call
pub call_answer : (r : Result StationAnswer NoMemory) (call : Call) (own : OwnCall)
    (old new : StationState) (moment : ℕ) → call ≡ calls.Own own
    → IfOk r (λ answer. (s : StationModel) → RepresentsStation old s
    → IsAnswerTo answer new (station_step s moment (model.Call.Own (own_of own))))
    → IfOk r (λ answer. (c : ModelCall) × IsCall call c
    × ((s : StationModel) → RepresentsStation old s
    → IsAnswerTo answer new (station_step s moment c)))
call_answer (Err n) call own old new moment is f = tt
call_answer (Ok answer) call own old new moment is f =
    let c = model.Call.Own (own_of own) in
    (c, subst (λ (x : Call). IsCall x c) (sym is) refl, f)
