-- What a unit answers to a frame, with octets of its own.
use Rattle.std.specs.Prelude.{◌≡◌, IsSome, Result, Ok, Err}
use Rattle.its_station.specs.Answers.{Owns, TellsAnswer}
use Rattle.its_station.specs.Steps.{refusal_of}
use Rattle.its_station.specs.declared.answer.Answer.TheVariants as answers
use Rattle.its_station.specs.declared.refused.Refused.{Refused}
use Rattle.its_unit.specs.Steps.{SaysPassed}
use Rattle.its_unit.specs.Unit.{RepresentsUnit, UnitAnswer, UnitState, UnitStep}
use Rattle.its_unit.specs.declared.outcome.Reaction.{Reaction}
use Rattle.its_unit.specs.declared.outcome.UnitOutcome.{UnitOutcome}
use Rattle.its_unit.specs.declared.outcome.UnitOutcome.TheVariants as units
use Rattle.cmd_stats.specs.declared.replay.reply.UnitReply.{UnitReply}
use Rattle.cmd_stats.specs.declared.replay.reply.UnitReply.TheVariants as replies

-- the reply is this answer of the model
abbrev pub TellsReply : UnitReply → UnitAnswer → Type 0
TellsReply (replies.Passed reply) answer = SaysPassed TellsAnswer reply answer
TellsReply replies.Repeated answer = answer ≡ UnitAnswer.Repeated

-- the reply is that of the step, and the unit is the one after the step
abbrev pub IsReplyBy : UnitReply → UnitState → UnitStep → Type 0
IsReplyBy reply new step = TellsReply reply step.answer × RepresentsUnit new step.unit

-- ---- words of private functions

-- the reply has what the outcome has, with octets of its own
abbrev pub OwnsOutcome : UnitReply → UnitOutcome → Type 0
OwnsOutcome (replies.Passed reply) (units.Passed outcome) = Owns reply outcome
OwnsOutcome (replies.Passed reply) units.Repeated = ⊥
OwnsOutcome replies.Repeated (units.Passed outcome) = ⊥
OwnsOutcome replies.Repeated units.Repeated = Unit {0}

-- so of the reaction of a unit to a frame
abbrev pub OwnsReaction : UnitReply → Result Reaction Refused → Type 0
OwnsReaction reply (Ok r) = OwnsOutcome reply r.outcome
OwnsReaction reply (Err refused) =
    (reply ≡ replies.Passed (answers.Refused refused)) × IsSome (refusal_of refused)
