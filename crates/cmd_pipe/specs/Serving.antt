-- What is answered to the lines of the input, and the station afterwards.
use Rattle.std.specs.Prelude.{◌≡◌, ◌++◌, ◌∷◌, ◌+◌, [], ℕ, List, Option, Some, None, false}
use Rattle.std.specs.Option.{option_map}
use Rattle.cmd_reporting.specs.declared.status.Status.{Status}
use Rattle.cmd_reporting.specs.declared.status.Status.TheVariants as statuses
use Rattle.cmd_pipe.specs.Lines.{AreLines}
use Rattle.its_lines.specs.Lines.{LineText}
use Rattle.its_lines.specs.Within.{TellsLine}
use Rattle.its_lines.specs.declared.response.Response.{Response}
use Rattle.its_lines.specs.declared.response.Response.TheVariants as responses
use Rattle.its_model.specs.Station.{new_station}
use Rattle.its_station.specs.Counting.{nothing}
use Rattle.its_model.specs.Contention.{ContentionRule}
use Rattle.its_contention.specs.Buffer.{empty}
use Rattle.its_governor.specs.Governing.{IsNewGovernor}
use Rattle.its_governor.specs.declared.governor.Governor.{Governor}
use Rattle.its_governor.specs.declared.rate.Limits.{Limits}
use Rattle.its_unit.specs.Unit.{RepresentsUnit, UnitModel, UnitState}
use Rattle.its_station.specs.declared.counts.Counts.{Counts}
use Rattle.its_world.specs.declared.config.Config.{Config}

-- a unit, and what is counted of it
pub record CountedUnit : Type 0 where
  pub unit : UnitModel
  pub counts : Counts

-- the unit represents that of the model, and its counts are these
abbrev pub IsCounted : UnitState → CountedUnit → Type 0
IsCounted st s = RepresentsUnit st s.unit × (st.counts ≡ s.counts)

-- what is answered to one line: one answer at most
abbrev pub told_in : Option Response → List Response
told_in None = []
told_in (Some told) = told ∷ []

-- what is answered to line n by a unit that was this one, and the unit afterwards
pub record TellsOne (s : CountedUnit) (n : ℕ) (line : LineText) (told : List Response)
    (next : CountedUnit) : Type 0 where
  pub before : UnitState
  pub was : IsCounted before s
  pub answer : Option Response
  pub told_is : told ≡ told_in answer
  pub after : UnitState
  pub tells : TellsLine None s.unit n line before answer after
  pub stands : IsCounted after next

-- what is answered to these lines, the first of which is line n, one after the other
abbrev pub TellsLines : CountedUnit → ℕ → List LineText → List Response → CountedUnit → Type 0
TellsLines s n [] told end = (told ≡ []) × (end ≡ s)
TellsLines s n (line ∷ lines) told end =
    (first : List Response) × (rest : List Response) × (mid : CountedUnit) × (told ≡ first ++ rest)
    × TellsOne s n line first mid × TellsLines mid (n + 1) lines rest end

-- refused where a line could not be read
abbrev pub ended_of : List Response → Status
ended_of [] = statuses.Done
ended_of (responses.Reply id at source due cancelled reply ∷ told) = ended_of told
ended_of (responses.Released id at frame ∷ told) = ended_of told
ended_of (responses.Repeated id at ∷ told) = ended_of told
ended_of (responses.OverRate id at ∷ told) = ended_of told
ended_of (responses.NotAllowed id at ∷ told) = ended_of told
ended_of (responses.Known id at known ∷ told) = ended_of told
ended_of (responses.Fault id line fault ∷ told) = statuses.Refused

-- the same after one more
abbrev pub then_ended : Status → Response → Status
then_ended ended (responses.Reply id at source due cancelled reply) = ended
then_ended ended (responses.Released id at frame) = ended
then_ended ended (responses.Repeated id at) = ended
then_ended ended (responses.OverRate id at) = ended
then_ended ended (responses.NotAllowed id at) = ended
then_ended ended (responses.Known id at known) = ended
then_ended ended (responses.Fault id line fault) = statuses.Refused

-- Line n was served by a station that was this one, after others to which this was answered.
pub record IsServedLine (s : CountedUnit) (n : ℕ) (line : LineText) (log : List Response)
    (st : UnitState) (ended : Status) (Took : List Response → Type 0)
    : Type 0 where
  pub told : List Response
  pub after : CountedUnit
  pub tells : TellsOne s n line told after
  pub took : Took (log ++ told)
  pub ended_is : ended ≡ ended_of (log ++ told)
  pub stands : IsCounted st after

-- A station that was this one has served the lines of the input: what was answered to them, in
-- order, was taken, and it represents the station of the model after the calls of these lines.
pub record IsServed (s : CountedUnit) (st : UnitState) (ended : Status)
    (Took : List Response → Type 0) (input : Option (List ℕ)) : Type 0 where
  pub lines : List LineText
  pub lines_are : AreLines input lines
  pub told : List Response
  pub after : CountedUnit
  pub tells : TellsLines s 1 lines told after
  pub took : Took told
  pub ended_is : ended ≡ ended_of told
  pub stands : IsCounted st after

-- no limits
abbrev pub no_limits : Limits
no_limits =
    record { forward = None; source = None; own = None; hop_cap = 255; delivers_once = false }

-- a unit that begins as the config says and contends by this rule, or doesn't, of which nothing is counted
-- yet
abbrev pub beginning : Config → Option ContentionRule → Governor → CountedUnit
beginning config rule governor =
    record {
      unit = record {
        station = new_station config.address config.place config.capacity config.remember;
        contention = option_map empty rule;
        governor = governor;
      };
      counts = nothing;
    }

-- A unit without limits that began as the config says has served the lines of the input, and ended by what
-- was answered to them, in order.
pub record ServesInput (config : Config) (rule : Option ContentionRule) (ended : Status)
    (input : Option (List ℕ)) : Type 0 where
  pub governor : Governor
  pub limits_are : IsNewGovernor no_limits governor
  pub lines : List LineText
  pub lines_are : AreLines input lines
  pub told : List Response
  pub after : CountedUnit
  pub tells : TellsLines (beginning config rule governor) 1 lines told after
  pub ended_is : ended ≡ ended_of told
