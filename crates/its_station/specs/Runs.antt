-- What many calls of a station are in the model.
use Rattle.std.specs.Prelude.{◌≡◌, ℕ, ◌++◌, List, [], ◌∷◌, Bool, true, false}
use Rattle.its_gnvalue.specs.Values.{Position, IsSpeed}
use Rattle.its_model.specs.Packet.{Transmission}
use Rattle.its_model.specs.Calls as model
use Rattle.its_model.specs.Calls.{Answer, Call as ModelCall, OwnCall as ModelOwnCall}
use Rattle.its_model.specs.Station.{StationModel, new_station}
use Rattle.its_model.specs.Isolation.{TimedCall, answers_of, station_run, calls_for, answers_for}
use Rattle.its_model.specs.Isolation.{NeverFalls, IsNeverFull}
use Rattle.its_station.specs.declared.answer.Answer.TheVariants as answers
use Rattle.its_station.specs.declared.call.Call.{Call}
use Rattle.its_station.specs.declared.call.Call.TheVariants as calls
use Rattle.its_station.specs.declared.call.OwnCall.{OwnCall}
use Rattle.its_station.specs.declared.call.OwnCall.TheVariants as own_calls
use Rattle.its_station.specs.declared.run.Reply.{Reply}
use Rattle.its_station.specs.declared.run.Reply.TheVariants as replies
use Rattle.its_station.specs.State.{StationState, RepresentsStation}
use Rattle.its_station.specs.Requests.{owned_gbc, owned_shb}
use Rattle.its_station.specs.Receiving.{IsFrameCall}
use Rattle.its_station.specs.Answers.{StationAnswer, TellsAnswer}

-- a call of a station's own applications, in the model
abbrev pub own_of : OwnCall → ModelOwnCall
own_of (own_calls.MoveTo place pai speed heading) = model.OwnCall.Move place pai speed heading
own_of (own_calls.Open port) = model.OwnCall.Open port
own_of (own_calls.Close port) = model.OwnCall.Close port
own_of (own_calls.Tick jitter) = model.OwnCall.Tick jitter
own_of (own_calls.SendShb r) = model.OwnCall.SendShb (owned_shb r)
own_of (own_calls.SendGeobroadcast r) = model.OwnCall.SendGbc (owned_gbc r)
own_of (own_calls.SendGeoanycast r) = model.OwnCall.SendGac (owned_gbc r)
own_of (own_calls.Restart number) = model.OwnCall.Restart number

-- a call in the model: octets are the frame that they encode, or junk with their first fault
abbrev pub IsCall : Call → ModelCall → Type 0
IsCall (calls.Own own) c = c ≡ model.Call.Own (own_of own)
IsCall (calls.Receive frame) c = IsFrameCall frame.items c

-- what a call asks for is in its range
abbrev pub IsOwnInRange : OwnCall → Type 0
IsOwnInRange (own_calls.MoveTo place pai speed heading) = IsSpeed speed
IsOwnInRange call = Unit {0}

abbrev pub IsInRange : Call → Type 0
IsInRange (calls.Own own) = IsOwnInRange own
IsInRange (calls.Receive frame) = Unit {0}

-- these calls in the model, one for one
abbrev pub AreCalls : List (ℕ × Call) → List TimedCall → Type 0
AreCalls [] [] = Unit {0}
AreCalls [] (c ∷ cs) = ⊥
AreCalls (x ∷ xs) [] = ⊥
AreCalls (x ∷ xs) (c ∷ cs) = (c.moment ≡ x.0) × IsCall x.1 c.call × AreCalls xs cs

-- the reply that an answer makes: of a call that tells nothing it says only that it was done
abbrev pub reply_of : StationAnswer → Reply
reply_of answers.Moved = replies.Done
reply_of answers.Opened = replies.Done
reply_of answers.Closed = replies.Done
reply_of answers.Restarted = replies.Done
reply_of answers.Quiet = replies.Quiet
reply_of (answers.Sent frame) = replies.Sent frame
reply_of (answers.Ignored why) = replies.Ignored why
reply_of (answers.Accepted handed sent) = replies.Accepted handed sent
reply_of (answers.Refused refused) = replies.Refused refused

-- the reply is made of an answer that is this one of the model
abbrev pub TellsReply : Reply → Answer Transmission → Type 0
TellsReply reply told =
    (answer : StationAnswer) × (reply ≡ reply_of answer) × TellsAnswer answer told

-- whether the call was refused
abbrev pub is_refusal : Reply → Bool
is_refusal (replies.Refused refused) = true
is_refusal reply = false

-- these answers, one for one
abbrev pub AreReplies : List Reply → List (Answer Transmission) → Type 0
AreReplies [] [] = Unit {0}
AreReplies [] (a ∷ answers) = ⊥
AreReplies (r ∷ replies) [] = ⊥
AreReplies (r ∷ replies) (a ∷ answers) = TellsReply r a × AreReplies replies answers

-- The calls were done as the model does them: the replies are its answers, and the station
-- represents the one after them.
pub record IsRunOf (s : StationModel) (calls : List (ℕ × Call)) (replies : List Reply)
    (new : StationState) : Type 0 where
  pub done : List TimedCall
  pub are : AreCalls calls done
  pub answers : AreReplies replies (answers_of s done)
  pub station : RepresentsStation new (station_run s done)

-- Of a station that was new before some past, mobile or not: what a source and the applications see
-- of the answers to what was done is what they see where all frames of others were left out, before
-- and now.
abbrev pub AreIsolated : StationModel → List TimedCall → Type 0
AreIsolated s done =
    (address : ℕ) (place : Position) (capacity remember : ℕ) (mobile : Bool)
    (past : List TimedCall) (source : ℕ)
    → let new = record (new_station address place capacity remember) { mobile = mobile } in
    s ≡ station_run new past → NeverFalls 0 (past ++ done)
    → IsNeverFull (answers_of new (past ++ done))
    → answers_for source done (answers_of s done)
    ≡ answers_for source (calls_for source done)
    (answers_of (station_run new (calls_for source past)) (calls_for source done))

-- the same calls, answers and station, and of just these that sources are isolated
pub record IsIsolatedRunOf (s : StationModel) (calls : List (ℕ × Call)) (replies : List Reply)
    (new : StationState) : Type 0 where
  pub run : IsRunOf s calls replies new
  pub isolated : AreIsolated s run.done
