-- What an entry tells.
use Rattle.std.specs.Prelude.{◌≡◌, ℕ, Bool, true, false, List, [], ◌∷◌, IsSomeAnd}
use Rattle.std.specs.Option.{option_map}
use Rattle.its_model.specs.Calls as model
use Rattle.its_model.specs.Calls.{Answer}
use Rattle.its_station.specs.Steps.{refusal_of}
use Rattle.its_station.specs.Receiving.{why_of}
use Rattle.its_station.specs.Answers.{delivered}
use Rattle.its_station.specs.declared.answer.Answer.{Answer as Answered}
use Rattle.its_station.specs.declared.answer.Answer.TheVariants as entries
use Rattle.its_world.specs.declared.entry.EntryFault.{EntryFault}
use Rattle.its_world.specs.declared.entry.EntryFault.TheVariants as faults

-- an entry: an answer with the number of the frame that is sent
abbrev pub Entry : Type 0
Entry = Answered ℕ EntryFault

-- a refusal is this answer
abbrev pub TellsFault : {F : Type 0} → EntryFault → Answer F → Type 0
TellsFault (faults.Station refused) answer =
    IsSomeAnd (refusal_of refused) (λ refusal. answer ≡ model.Answer.Refused refusal)
TellsFault faults.NoSuchFrame answer = answer ≡ model.Answer.Refused model.Refusal.NoSuchFrame
TellsFault faults.NoSuchStation answer = answer ≡ model.Answer.Refused model.Refusal.NoSuchStation

-- an entry is this one of the model
abbrev pub TellsEntry : Answered ℕ EntryFault → Answer ℕ → Type 0
TellsEntry entries.Moved answer = answer ≡ model.Answer.Moved
TellsEntry entries.Opened answer = answer ≡ model.Answer.Opened
TellsEntry entries.Closed answer = answer ≡ model.Answer.Closed
TellsEntry entries.Restarted answer = answer ≡ model.Answer.Restarted
TellsEntry entries.Quiet answer = answer ≡ model.Answer.Quiet
TellsEntry (entries.Sent k) answer = answer ≡ model.Answer.Sent k
TellsEntry (entries.Ignored why) answer = answer ≡ model.Answer.Ignored (why_of why)
TellsEntry (entries.Accepted handed sent) answer =
    answer ≡ model.Answer.Accepted (option_map delivered handed) sent
TellsEntry (entries.Refused fault) answer = TellsFault fault answer

-- whether the event was done: it was not refused
abbrev pub was_done : Answered ℕ EntryFault → Bool
was_done (entries.Refused fault) = false
was_done entry = true

-- these are the model's, one for one
abbrev pub AreEntries : List Entry → List (Answer ℕ) → Type 0
AreEntries [] [] = Unit {0}
AreEntries [] (a ∷ answers) = ⊥
AreEntries (e ∷ log) [] = ⊥
AreEntries (e ∷ log) (a ∷ answers) = TellsEntry e a × AreEntries log answers
