-- What C is told in a struct of a line of JSON, which is done within the limits.
use Rattle.std.specs.Prelude.{◌≡◌, ℕ, ℤ, pos, List, Bool, true, false, ◌&&◌, if◌then◌else◌}
use Rattle.std.specs.Prelude.{Option, Some, None}
use Rattle.its_station.specs.Answers.{StationAnswer}
use Rattle.its_station.specs.declared.answer.Answer.TheVariants as answers
use Rattle.its_unit.specs.Unit.{UnitModel, UnitState}
use Rattle.its_words.specs.declared.keys.key.Key.TheVariants as keys
use Rattle.its_words.specs.declared.keys.verb.Verb.TheVariants as verbs
use Rattle.its_lines.specs.Lines.{whole_line}
use Rattle.its_lines.specs.Within.{AnswersLine}
use Rattle.its_lines.specs.declared.request.LineFault.{LineFault}
use Rattle.its_lines.specs.declared.request.LineFault.TheVariants as faults
use Rattle.its_lines.specs.declared.response.Known.{Known}
use Rattle.its_lines.specs.declared.response.Known.TheVariants as knowns
use Rattle.its_lines.specs.declared.response.Response.{Response}
use Rattle.its_lines.specs.declared.response.Response.TheVariants as responses
use Rattle.its_lines.specs.declared.serving.LineAnswer.{LineAnswer}
use Rattle.its_lines.specs.declared.word.LineWord.{LineWord}
use Rattle.its_lines.specs.declared.word.LineWord.TheVariants as line_words
use Rattle.its_c.specs.Lookups.{no_vector, shown_vector}
use Rattle.its_c.specs.Served.{ShowsAnswer, ShowsFitting, frame_in}
use Rattle.its_c.specs.Status.{status_of}
use Rattle.its_c.specs.declared.handle.Geostation.{Geostation}
use Rattle.its_c.specs.declared.layout.LineResult.{LineResult}

-- the number of a command
abbrev pub command_of : Option LineWord → ℕ
command_of None = 0
command_of (Some (line_words.Own verbs.Move)) = 1
command_of (Some (line_words.Own verbs.Open)) = 2
command_of (Some (line_words.Own verbs.Close)) = 3
command_of (Some (line_words.Own verbs.Tick)) = 4
command_of (Some (line_words.Own verbs.Shb)) = 5
command_of (Some (line_words.Own verbs.Gbc)) = 6
command_of (Some (line_words.Own verbs.Gac)) = 7
command_of (Some (line_words.Own verbs.Restart)) = 8
command_of (Some (line_words.Own verbs.Deliver)) = 0
command_of (Some (line_words.Own verbs.Leave)) = 0
command_of (Some line_words.Receive) = 9
command_of (Some line_words.NextBeacon) = 10
command_of (Some line_words.Neighbours) = 11
command_of (Some line_words.LookUp) = 12
command_of (Some line_words.ReadFrame) = 13
command_of (Some line_words.Counts) = 14
command_of (Some line_words.Seal) = 15
command_of (Some line_words.Release) = 16
command_of (Some line_words.NextDue) = 17

-- the number of what came of a call, a query, or a line that can't be read
abbrev pub outcome_of_reply : StationAnswer → ℕ
outcome_of_reply (answers.Refused refused) = 3
outcome_of_reply reply = 1

abbrev pub outcome_of_known : Known → ℕ
outcome_of_known (knowns.Refused refused) = 3
outcome_of_known (knowns.NoFrame fault) = 3
outcome_of_known (knowns.NotSealed fault) = 3
outcome_of_known known = 1

abbrev pub outcome_of_fault : LineFault → ℕ
outcome_of_fault (faults.Key keys.Do wrong) = 4
outcome_of_fault (faults.Word meant) = 4
outcome_of_fault fault = 5

-- the number of what came of a line: 0 of a blank one, 1 if it was done, 2 if it lacks the right, 3
-- if it was refused, 4 if its command is missing or unknown, 5 if it can't be read otherwise
abbrev pub outcome_of : Option Response → ℕ
outcome_of None = 0
outcome_of (Some (responses.Reply id at source due cancelled reply)) = outcome_of_reply reply
outcome_of (Some (responses.Released id at frame)) = 1
outcome_of (Some (responses.Repeated id at)) = 1
outcome_of (Some (responses.NotAllowed id at)) = 2
outcome_of (Some (responses.OverRate id at)) = 3
outcome_of (Some (responses.Known id at known)) = outcome_of_known known
outcome_of (Some (responses.Fault id line fault)) = outcome_of_fault fault

-- why a call, or a query, was refused
abbrev pub status_of_reply : StationAnswer → ℤ
status_of_reply (answers.Refused refused) = status_of refused
status_of_reply reply = pos 0

abbrev pub status_of_known : Known → ℤ
status_of_known (knowns.Refused refused) = status_of refused
status_of_known (knowns.NoFrame fault) = pos 3
status_of_known (knowns.NotSealed fault) = pos 20
status_of_known known = pos 0

-- why a line was refused, as the status of the call of C that it asks for
abbrev pub status_told : Option Response → ℤ
status_told (Some (responses.Reply id at source due cancelled reply)) = status_of_reply reply
status_told (Some (responses.OverRate id at)) = pos 22
status_told (Some (responses.Known id at known)) = status_of_known known
status_told response = pos 0

-- whether a command sends a packet with a sequence number
abbrev pub is_to_area : Option LineWord → Bool
is_to_area (Some (line_words.Own verbs.Gbc)) = true
is_to_area (Some (line_words.Own verbs.Gac)) = true
is_to_area word = false

-- whether a packet was sent
abbrev pub is_sent : Option Response → Bool
is_sent (Some (responses.Reply id at source due cancelled (answers.Sent frame))) = true
is_sent response = false

-- the sequence number of the packet that is sent, if it has one
abbrev pub number_used : ℕ → LineAnswer → ℕ
number_used next said =
    if is_to_area said.asked.word && is_sent said.response then next else 0

-- the port, or 0
abbrev pub or_zero : Option ℕ → ℕ
or_zero None = 0
or_zero (Some port) = port

-- Each member of the struct but the length of the `id`, of what was answered to a line.
pub record ShowsResult (before : UnitState) (said : LineAnswer) (after : UnitState)
    (answer room : List ℕ) (told : LineResult) : Type 0 where
  pub command : told.command ≡ command_of said.asked.word
  pub outcome : told.outcome ≡ outcome_of said.response
  pub status : told.status ≡ status_told said.response
  pub port : told.port ≡ or_zero said.asked.port
  pub number : told.number ≡ number_used before.station.next_number said
  pub payload : told.payload_length ≡ said.asked.payload_length
  pub text : ShowsAnswer told.answer_length answer said.response
  pub frame : ShowsFitting told.frame_length room (frame_in said.response)
  pub vector : told.vector ≡ shown_vector after.station.vector

-- The line of this number was served within the limits and with these rights: what was answered, the
-- unit afterwards, and what C is told of it.
pub record IsServedWithin (now number : ℕ) (line : List ℕ) (rights : ℕ) (u : UnitModel)
    (old new : Geostation) (answer frame : List ℕ) (told : LineResult) : Type 0 where
  pub before : UnitState
  pub was : old.held.unit ≡ Some before
  pub after : UnitState
  pub held : new.held.unit ≡ Some after
  pub said : LineAnswer
  pub answers : AnswersLine now (record { bits = rights }) u number (whole_line line) before said
      after
  pub shows : ShowsResult before said after answer frame told

-- what is written if the status isn't 0
abbrev pub no_line : LineResult
no_line =
    record {
      command = 0;
      outcome = 0;
      status = pos 0;
      port = 0;
      number = 0;
      payload_length = 0;
      answer_length = 0;
      id_length = 0;
      frame_length = 0;
      vector = no_vector;
    }
