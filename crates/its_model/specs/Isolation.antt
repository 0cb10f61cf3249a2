-- What a station's own applications and one source see of it doesn't depend on the frames of other
-- sources.
use Rattle.std.specs.Prelude.{◌≡◌, ◌≢◌, ℕ, ◌≤◌, List, [], ◌∷◌, ◌++◌, filter, Bool, true, false}
use Rattle.std.specs.Prelude.{None, if◌then◌else◌, ◌==◌}
use Rattle.its_gnvalue.specs.Values.{Position}
use Rattle.its_model.specs.Packet.{Transmission}
use Rattle.its_model.specs.Calls.{Call, Answer}
use Rattle.its_model.specs.Calls.OwnCall.{SendGbc, SendGac}
use Rattle.its_model.specs.Calls.Call.{Own, Receive, Junk}
use Rattle.its_model.specs.Calls.Answer.{Sent, Accepted, Refused}
use Rattle.its_model.specs.Calls.Refusal.{TableFull}
use Rattle.its_model.specs.Station.{StationModel, station_step, new_station}

-- a call, and when it comes
pub record TimedCall : Type 0 where
  pub moment : ℕ
  pub call : Call

-- the answers to calls, one after the other
abbrev pub answers_of : StationModel → List TimedCall → List (Answer Transmission)
answers_of s [] = []
answers_of s (c ∷ calls) = (station_step s c.moment c.call).answer
    ∷ answers_of (station_step s c.moment c.call).station calls

-- the station after these calls
abbrev pub station_run : StationModel → List TimedCall → StationModel
station_run s [] = s
station_run s (c ∷ calls) = station_run (station_step s c.moment c.call).station calls

-- a call of the station's own, or a frame with a packet of the source
abbrev pub concerns : ℕ → Call → Bool
concerns source (Own call) = true
concerns source (Receive t) = t.pdu.vector.address == source
concerns source (Junk fault) = false

-- without the frames of others, and without what is no frame
abbrev pub calls_for : ℕ → List TimedCall → List TimedCall
calls_for source calls = filter (λ c. concerns source c.call) calls

-- the frame, to nobody
abbrev pub without_target : Transmission → Transmission
without_target t =
    record { pdu = t.pdu; hops_left = t.hops_left; link_source = t.link_source; link_target = 0 }

-- An answer, but for what depends on where others are: to whom a packet of the station's own for an
-- area is sent, and what is relayed.
abbrev pub seen : Answer Transmission → Call → Answer Transmission
seen (Sent t) (Own (SendGbc request)) = Sent (without_target t)
seen (Sent t) (Own (SendGac request)) = Sent (without_target t)
seen (Accepted handed relayed) (Receive t) = Accepted handed None
seen answer call = answer

-- of the answers to these calls, what is seen of those to the station's own and to the frames of
-- the source
abbrev pub answers_for : ℕ → List TimedCall → List (Answer Transmission)
    → List (Answer Transmission)
answers_for source [] answers = []
answers_for source (c ∷ calls) [] = []
answers_for source (c ∷ calls) (answer ∷ answers) =
    if concerns source c.call then seen answer c.call ∷ answers_for source calls answers
    else answers_for source calls answers

-- from a moment on the moments don't fall
abbrev pub NeverFalls : ℕ → List TimedCall → Type 0
NeverFalls moment [] = Unit {0}
NeverFalls moment (c ∷ calls) = (moment ≤ c.moment) × NeverFalls c.moment calls

-- no answer is that the table is full
abbrev pub IsNeverFull : List (Answer Transmission) → Type 0
IsNeverFull [] = Unit {0}
IsNeverFull (answer ∷ answers) = (answer ≢ Refused TableFull) × IsNeverFull answers

-- What a source and the applications see of the calls that are done, after others that were, is
-- what they see where all frames of others were left out, before and now. The station was new, and
-- is mobile or not.
abbrev pub SourcesAreIsolated : Type 0
SourcesAreIsolated =
    (address : ℕ) (place : Position) (capacity remember : ℕ) (mobile : Bool)
    (past done : List TimedCall) (source : ℕ)
    → let new = record (new_station address place capacity remember) { mobile = mobile } in
    NeverFalls 0 (past ++ done) → IsNeverFull (answers_of new (past ++ done))
    → answers_for source done (answers_of (station_run new past) done)
    ≡ answers_for source (calls_for source done)
    (answers_of (station_run new (calls_for source past)) (calls_for source done))
