-- A unit that receives the records of a capture, and the moves that it is still to make.
use Rattle.std.specs.Prelude.{◌≡◌, ℕ, [], ◌∷◌, List, nat_le, if◌then◌else◌, true, Option, Some, None}
use Rattle.its_model.specs.Calls.OwnCall.{Move as MoveTo}
use Rattle.its_unit.specs.Unit.{RepresentsUnit, UnitModel, unit_step}
use Rattle.its_unit.specs.Unit.UnitCall.{Own}
use Rattle.cmd_reporting.specs.declared.status.Status.{Status}
use Rattle.cmd_reporting.specs.declared.status.Status.TheVariants.{Refused, Failed}
use Rattle.cmd_stats.specs.declared.replay.listener.Listener.{Listener}
use Rattle.cmd_stats.specs.declared.replay.moves.Move.{Move}
use Rattle.cmd_stats.specs.declared.replay.moves_fault.MoveRowsFault.{MoveRowsFault}
use Rattle.cmd_stats.specs.declared.replay.moves_fault.MoveRowsFault.TheVariants as rows

-- the one of the model
pub record Listening : Type 0 where
  pub unit : UnitModel
  pub moves : List Move

-- The unit represents the one of the model, and is to make the same moves.
pub record Represents (l : Listener) (m : Listening) : Type 0 where
  pub unit : RepresentsUnit l.unit m.unit
  pub moves : m.moves ≡ l.moves.now

-- the unit after a move at its time
abbrev pub after_move : Move → UnitModel → UnitModel
after_move next u =
    (unit_step u next.moment (Own (MoveTo next.place true next.speed next.heading))).unit

-- The moves up to a moment are made, in order: each at its time. The first that is later stays with
-- those after it.
abbrev pub moved_by : ℕ → List Move → UnitModel → Listening
moved_by moment [] u = record { unit = u; moves = [] }
moved_by moment (next ∷ more) u =
    if nat_le next.moment moment then moved_by moment more (after_move next u)
    else record { unit = u; moves = next ∷ more }

abbrev pub moved : ℕ → Listening → Listening
moved moment m = moved_by moment m.moves m.unit

-- the status of what kept moves from being read: a bad row is refused, all else failed
abbrev pub rows_fault_status : MoveRowsFault → Status
rows_fault_status (rows.Row file line word) = Refused
rows_fault_status (rows.Stopped fault) = Failed

-- ---- words of private functions

-- the first move, if its time is no later than the moment
abbrev pub first_due : ℕ → List Move → Option Move
first_due moment [] = None
first_due moment (next ∷ more) = if nat_le next.moment moment then Some next else None
