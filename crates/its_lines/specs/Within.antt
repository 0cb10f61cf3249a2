-- What is answered to a line within the limits of a unit, where only some calls are allowed.
use Rattle.std.specs.Prelude.{◌≡◌, ◌≢◌, ◌∷◌, [], List, ℕ, Bool, false, Option, Some, None, Result}
use Rattle.std.specs.Prelude.{Ok, Err, IsSome, Vec}
use Rattle.std.specs.declared.alloc.Global.{Global}
use Rattle.its_headers.specs.Fields.{media_in}
use Rattle.its_headers.specs.Seen.{Seen}
use Rattle.its_headers.specs.declared.kind.Kind.{Kind}
use Rattle.its_headers.specs.declared.kind.Kind.TheVariants as kinds
use Rattle.its_linkframe.specs.Frames.{EncodesFrame}
use Rattle.its_model.specs.Calls as model
use Rattle.its_model.specs.Packet.{Transmission}
use Rattle.its_station.specs.Answers.{Owns, StationAnswer, TellsAnswer, delivered}
use Rattle.its_station.specs.Beside.{default_options}
use Rattle.its_station.specs.Counting.{counted_accepted, counted_answer, one_more, own_kind}
use Rattle.its_station.specs.Receiving.{Encoded, IsFrameCall, IsVerifiedCall, TellsAcceptedBy}
use Rattle.its_station.specs.Receiving.{VerifiedCall, sealed_by, why_of}
use Rattle.its_station.specs.Requests.{owned_shb}
use Rattle.its_station.specs.Runs.{own_of}
use Rattle.its_station.specs.Steps.{refusal_of}
use Rattle.its_station.specs.declared.answer.Answer.TheVariants as answers
use Rattle.its_station.specs.declared.call.Call.TheVariants as calls
use Rattle.its_station.specs.declared.counts.Counts.{Counts}
use Rattle.its_station.specs.declared.refused.Refused.{Refused}
use Rattle.its_station.specs.declared.requests.ShbOptions.{ShbOptions}
use Rattle.its_station.specs.declared.refused.Refused.TheVariants as refused
use Rattle.its_unit.specs.Releases.{IsReleaseOf, counted_release, releases_by}
use Rattle.its_unit.specs.Steps.{SaysPassed}
use Rattle.std.specs.Prelude.{IsSomeAnd}
use Rattle.std.specs.Option.{option_map}
use Rattle.its_unit.specs.Unit.{RepresentsUnit, UnitAnswer, UnitModel, UnitState, UnitStep, step_by}
use Rattle.its_unit.specs.Unit.UnitCall.{Own, Receive, ReceiveVerified, SendShbFor}
use Rattle.its_unit.specs.declared.limiting.Limiting.{Limiting}
use Rattle.its_unit.specs.declared.outcome.Reaction.{Reaction}
use Rattle.its_unit.specs.declared.outcome.UnitOutcome.{UnitOutcome}
use Rattle.its_unit.specs.declared.outcome.UnitOutcome.TheVariants as units
use Rattle.its_lines.specs.Asked.{IsAllowed, asked_of}
use Rattle.its_lines.specs.Knowing.{TellsQuery}
use Rattle.its_lines.specs.Lines.{LineText}
use Rattle.its_lines.specs.Requests.{Asks}
use Rattle.its_lines.specs.declared.asked.Rights.{Rights}
use Rattle.its_words.specs.declared.keys.key.Key.TheVariants as keys
use Rattle.its_words.specs.declared.keys.wrong.Wrong.TheVariants as wrongs
use Rattle.its_lines.specs.declared.making.Made.{Made}
use Rattle.its_lines.specs.declared.making.MadeOfFrame.{MadeOfFrame}
use Rattle.its_lines.specs.declared.making.Made.TheVariants as mades
use Rattle.its_lines.specs.declared.request.Id.{Id}
use Rattle.its_lines.specs.declared.request.LineFault.TheVariants as faults
use Rattle.its_lines.specs.declared.request.Request.{Request}
use Rattle.its_lines.specs.declared.request.Request.TheVariants as asks
use Rattle.its_lines.specs.declared.response.AcceptedPacket.{AcceptedPacket}
use Rattle.its_lines.specs.declared.response.Known.{Known}
use Rattle.its_lines.specs.declared.response.Response.{Response}
use Rattle.its_lines.specs.declared.response.Response.TheVariants as responses
use Rattle.its_lines.specs.declared.serving.LineAnswer.{LineAnswer}

-- the reply to a frame that came is this answer, and what goes on is encoded so
abbrev pub TellsHeard : Encoded → StationAnswer → model.Answer Transmission → Type 0
TellsHeard Encodes (answers.Ignored why) answer = answer ≡ model.Answer.Ignored (why_of why)
TellsHeard Encodes (answers.Accepted handed sent) answer =
    TellsAcceptedBy Encodes (option_map delivered handed) sent answer
TellsHeard Encodes (answers.Refused refused) answer =
    IsSomeAnd (refusal_of refused) (λ refusal. answer ≡ model.Answer.Refused refusal)
TellsHeard Encodes reply answer = ⊥

-- the answer is this one of a unit, of whose station's answer it tells this
abbrev pub TellsMade : (StationAnswer → model.Answer Transmission → Type 0) → Made → UnitAnswer
    → Type 0
TellsMade tells (mades.Passed reply) answer = SaysPassed tells reply answer
TellsMade tells mades.Repeated answer = answer ≡ UnitAnswer.Repeated
TellsMade tells mades.OverRate answer = answer ≡ UnitAnswer.OverRate

-- the answer and the unit afterwards are those of the step
abbrev pub IsMadeBy : (StationAnswer → model.Answer Transmission → Type 0) → Made → UnitState
    → UnitStep → Type 0
IsMadeBy tells made new step =
    TellsMade tells made step.answer × RepresentsUnit new step.unit

-- the counts after the answer to a call that sends packets of this kind; a request over its rate is
-- not among them
abbrev pub counted_made : Option Kind → Made → Counts → Counts
counted_made kind (mades.Passed reply) c = counted_answer kind (Ok reply) c
counted_made kind mades.Repeated c = counted_accepted false false c
counted_made kind mades.OverRate c = c

-- so after the answer to a frame that was received
abbrev pub counted_frame : Made → Counts → Counts
counted_frame made c = counted_made None made (record c { received = one_more c.received })

-- the answer has what the outcome has, with octets of its own
abbrev pub IsMadeOfOutcome : Made → UnitOutcome → Type 0
IsMadeOfOutcome (mades.Passed reply) (units.Passed outcome) = Owns reply outcome
IsMadeOfOutcome (mades.Passed reply) units.Repeated = ⊥
IsMadeOfOutcome mades.Repeated (units.Passed outcome) = ⊥
IsMadeOfOutcome mades.Repeated units.Repeated = Unit {0}
IsMadeOfOutcome mades.OverRate outcome = ⊥

-- what came of a frame is what the unit answered
abbrev pub IsMadeOf : MadeOfFrame → Result Reaction Refused → Type 0
IsMadeOf f (Ok r) =
    IsMadeOfOutcome f.made r.outcome × (f.due ≡ r.due) × (f.cancelled ≡ r.cancelled)
IsMadeOf f (Err refused) =
    (f.made ≡ mades.Passed (answers.Refused refused)) × (f.due ≡ None) × (f.cancelled ≡ false)
    × IsSome (refusal_of refused)

-- When a frame is due that waits, and whether one is cancelled, is what the step says. By a refusal none
-- waits and none is cancelled.
abbrev pub TellsReaction : Made → Option ℕ → Bool → UnitStep → Type 0
TellsReaction (mades.Passed (answers.Refused refused)) due cancelled step =
    (due ≡ None) × (cancelled ≡ false)
TellsReaction made due cancelled step = (due ≡ step.due) × (cancelled ≡ step.cancelled)

-- what came of a frame is what the step says, and the unit is the one after it
abbrev pub IsMadeOfFrame : Encoded → MadeOfFrame → UnitState → UnitStep → Type 0
IsMadeOfFrame Encodes f new step =
    IsMadeBy (TellsHeard Encodes) f.made new step × TellsReaction f.made f.due f.cancelled step

-- the media-dependent data of a single-hop broadcast, or zeros
abbrev pub media_or_zeros : Option (List ℕ) → List ℕ
media_or_zeros None = 0 ∷ 0 ∷ 0 ∷ 0 ∷ []
media_or_zeros (Some media) = media

-- what the answer to a frame says of its packet
abbrev pub accepted_packet : Seen → AcceptedPacket
accepted_packet p = record {
  source = p.pdu.vector.address;
  media = media_or_zeros (media_in p.pdu.body);
}

-- the answer to a line that asked for a call
abbrev pub response_of : Option Id → ℕ → Option AcceptedPacket → Option ℕ → Bool → Made
    → Response
response_of id at packet due cancelled (mades.Passed reply) =
    responses.Reply id at packet due cancelled reply
response_of id at packet due cancelled mades.Repeated = responses.Repeated id at
response_of id at packet due cancelled mades.OverRate = responses.OverRate id at

-- the answer to a line that asked for a release
abbrev pub response_of_release : Option Id → ℕ → Result (Option (Vec ℕ Global)) Refused → Response
response_of_release id at (Ok (Some frame)) = responses.Released id at frame
response_of_release id at (Ok None) = responses.Reply id at None None false answers.Quiet
response_of_release id at (Err refused) =
    responses.Reply id at None None false (answers.Refused refused)

-- the `id` of an answer
abbrev pub id_in : Response → Option Id
id_in (responses.Reply id at packet due cancelled reply) = id
id_in (responses.Released id at frame) = id
id_in (responses.Repeated id at) = id
id_in (responses.OverRate id at) = id
id_in (responses.NotAllowed id at) = id
id_in (responses.Known id at known) = id
id_in (responses.Fault id line fault) = id

-- the options of a single-hop broadcast with this media-dependent data
abbrev pub options_of : List ℕ → ShbOptions
options_of media = record default_options { media = media }

-- The call that a line asks for is made of a unit, within its limits or past them: the answer is that of
-- the very step of the model, the unit is the one after it, and it is counted.
abbrev pub Makes : Limiting → UnitModel → Request → UnitState → Made → Option ℕ → Bool → UnitState
    → Type 0
Makes l u (asks.Call at (calls.Own call)) old made due cancelled new =
    IsMadeBy TellsAnswer made new (step_by l u at (Own (own_of call)))
    × (due ≡ None) × (cancelled ≡ false)
    × (new.counts ≡ counted_made (own_kind call) made old.counts)
Makes l u (asks.Call at (calls.Receive frame)) old made due cancelled new =
    ((call : model.Call) × IsFrameCall frame.items call
    × IsMadeBy (TellsHeard EncodesFrame) made new (step_by l u at (Receive call))
    × TellsReaction made due cancelled (step_by l u at (Receive call)))
    × (new.counts ≡ counted_frame made old.counts)
Makes l u (asks.Verified at octets) old made due cancelled new =
    ((call : VerifiedCall) × IsVerifiedCall octets.frame.items octets.plain.items call
    × IsMadeBy (TellsHeard (sealed_by call)) made new (step_by l u at (ReceiveVerified call))
    × TellsReaction made due cancelled (step_by l u at (ReceiveVerified call)))
    × (new.counts ≡ counted_frame made old.counts)
Makes l u (asks.Shb at shb) old made due cancelled new =
    IsMadeBy TellsAnswer made new
    (step_by l u at (SendShbFor (options_of shb.media) (owned_shb shb.request)))
    × (due ≡ None) × (cancelled ≡ false)
    × (new.counts ≡ counted_made (Some kinds.Shb) made old.counts)
Makes l u asked old made due cancelled new = ⊥

-- the answer to a line that asked for a call, which was made
abbrev pub AnswersMade : Limiting → UnitModel → Option Id → ℕ → Request → UnitState → Option Response
    → UnitState → Type 0
AnswersMade l u id at asked old told new =
    (packet : Option AcceptedPacket) × (due : Option ℕ) × (cancelled : Bool) × (made : Made)
    × (told ≡ Some (response_of id at packet due cancelled made))
    × Makes l u asked old made due cancelled new

-- what is answered to line n that asks for this, and the unit afterwards, which only a call and a release
-- change
abbrev pub AnswersIn : Limiting → UnitModel → ℕ → Option Id → Request → UnitState → Option Response
    → UnitState → Type 0
AnswersIn l u n id asks.Nothing old told new = (told ≡ None) × (new ≡ old)
AnswersIn l u n id (asks.Call at call) old told new =
    AnswersMade l u id at (asks.Call at call) old told new
AnswersIn l u n id (asks.Verified at octets) old told new =
    AnswersMade l u id at (asks.Verified at octets) old told new
AnswersIn l u n id (asks.Shb at shb) old told new =
    AnswersMade l u id at (asks.Shb at shb) old told new
AnswersIn l u n id (asks.Release at) old told new =
    (said : Result (Option (Vec ℕ Global)) Refused)
    × (told ≡ Some (response_of_release id at said))
    × IsReleaseOf said new (releases_by l u at)
    × (said ≢ Err refused.NoMemory)
    × (new.counts ≡ counted_release said old.counts)
AnswersIn l u n id (asks.Query at query) old told new =
    ((known : Known)
    × TellsQuery (record {
      station = u.station;
      contention = u.contention;
      counts = old.counts;
    }) at query known
    × (told ≡ Some (responses.Known id at known)))
    × (new ≡ old)
AnswersIn l u n id (asks.Bad fault) old told new =
    (told ≡ Some (responses.Fault id n fault)) × (new ≡ old)

-- What is answered to line n, past the limits, and the unit afterwards. If `now` is given, it is the time
-- of the line.
pub record TellsLine (now : Option ℕ) (u : UnitModel) (n : ℕ) (line : LineText) (old : UnitState)
    (told : Option Response) (new : UnitState) : Type 0 where
  pub id : Option Id
  pub asked : Request
  pub asks : Asks now line id asked
  pub tells : AnswersIn Limiting.Past u n id asked old told new

-- What a line within the limits asks for: its caller sends the frames that are released, so `release` is
-- no word there.
abbrev pub barred : Request → Request
barred (asks.Release at) = asks.Bad (faults.Key keys.Do wrongs.Value)
barred asks.Nothing = asks.Nothing
barred (asks.Call at call) = asks.Call at call
barred (asks.Verified at octets) = asks.Verified at octets
barred (asks.Shb at shb) = asks.Shb at shb
barred (asks.Query at query) = asks.Query at query
barred (asks.Bad fault) = asks.Bad fault

-- What is answered to line n within the limits: what it asked for in short, and if it is allowed, what was
-- done. Otherwise nothing changes.
pub record AnswersLine (now : ℕ) (rights : Rights) (u : UnitModel) (n : ℕ) (line : LineText)
    (old : UnitState) (told : LineAnswer) (new : UnitState) : Type 0 where
  pub id : Option Id
  pub asked : Request
  pub asks : Asks (Some now) line id asked
  pub in_short : told.asked ≡ asked_of (barred asked)
  pub done : IsAllowed rights (barred asked)
      → AnswersIn Limiting.Within u n id (barred asked) old told.response new
  pub refused : (¬ IsAllowed rights (barred asked))
      → (told.response ≡ Some (responses.NotAllowed id now)) × (new ≡ old)
