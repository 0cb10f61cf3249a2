-- The events and leaves of a file up to a moment, in the order in which they wait.
use Rattle.std.specs.Prelude.{◌≡◌, ℕ, ◌≤◌, ◌==◌, List, All}
use Rattle.std.specs.List.{filter}
use Rattle.std.specs.List.Sorted.{IsNonDecreasingBy}
use Rattle.sim_air_model.specs.Timetable.{Filed, moment_in}

-- the events and leaves of one moment
abbrev pub of_moment : ℕ → List Filed → List Filed
of_moment moment file = filter (λ filed. moment_in filed == moment) file

-- These are the file's events and leaves up to a moment in the order in which they wait: by their
-- moments, those of one moment as in the file.
pub record AreDue (file : List Filed) (until : ℕ) (due : List Filed) : Type 0 where
  pub until_then : All (λ filed. moment_in filed ≤ until) due
  pub by_moment : IsNonDecreasingBy moment_in due
  pub as_in_file : (moment : ℕ) → moment ≤ until → of_moment moment due ≡ of_moment moment file
