-- What C is told of a line that asks for a call, or for what the station knows.
use Rattle.std.specs.Prelude.{◌≡◌, ◌≤◌, ◌<◌, ◌⊎◌, ℕ, List, length, Vec, Option, Some, None}
use Rattle.std.specs.declared.alloc.Global.{Global}
use Rattle.its_words.specs.JsonLines.{IsCompact}
use Rattle.its_unit.specs.Unit.{UnitModel, UnitState}
use Rattle.its_station.specs.declared.answer.Answer.TheVariants as answers
use Rattle.its_lines.specs.Lines.{whole_line}
use Rattle.its_lines.specs.Within.{TellsLine}
use Rattle.its_lines.specs.declared.response.Known.TheVariants as knowns
use Rattle.its_lines.specs.declared.response.Response.{Response}
use Rattle.its_lines.specs.declared.response.Response.TheVariants as responses
use Rattle.its_c.specs.Told.{Holds}
use Rattle.its_c.specs.declared.handle.Geostation.{Geostation}

-- the frame that is to be sent after what was answered, if one is
abbrev pub frame_in : Option Response → Option (Vec ℕ Global)
frame_in None = None
frame_in (Some (responses.Reply id at source due cancelled (answers.Sent frame))) = Some frame
frame_in (Some (responses.Reply id at source due cancelled (answers.Accepted handed sent))) = sent
frame_in (Some (responses.Released id at frame)) = Some frame
frame_in (Some (responses.Known id at (knowns.Sealed frame))) = Some frame
frame_in (Some response) = None

-- The buffer has an answer, a JSON value in compact form without a line feed; or none, where none
-- could be printed.
abbrev pub ShowsLine : ℕ → List ℕ → Type 0
ShowsLine n room = (n ≡ 0) ⊎ ((octets : List ℕ) × IsCompact octets × Holds n room octets)

-- the buffer has what was answered: nothing to a blank line
abbrev pub ShowsAnswer : ℕ → List ℕ → Option Response → Type 0
ShowsAnswer n room None = n ≡ 0
ShowsAnswer n room (Some response) = ShowsLine n room

-- the buffer has this frame, if any, where it fits; nothing is written of one that doesn't
abbrev pub ShowsFitting : ℕ → List ℕ → Option (Vec ℕ Global) → Type 0
ShowsFitting n room None = n ≡ 0
ShowsFitting n room (Some w) =
    (length w.items ≤ length room → Holds n room w.items)
    × (length room < length w.items → n ≡ 0)

-- The line of this number was served: what was answered to it is what the unit answers at this time past
-- its limits, and the handle holds the unit after it.
pub record IsServedLine (now number : ℕ) (line : List ℕ) (u : UnitModel) (old new : Geostation)
    (told : Option Response) : Type 0 where
  pub before : UnitState
  pub was : old.held.unit ≡ Some before
  pub after : UnitState
  pub held : new.held.unit ≡ Some after
  pub tells : TellsLine (Some now) u number (whole_line line) before told after
