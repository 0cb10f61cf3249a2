-- A queue and a generator keep a timetable.
use Rattle.std.specs.Prelude.{◌≡◌, ℕ, List}
use Rattle.sim_air_model.specs.Draws.{draws_at}
use Rattle.sim_air_model.specs.Timetable.{Timetable}
use Rattle.sim_queue.specs.Waits.{Waits}
use Rattle.sim_queue.specs.declared.queue.Queue.{Queue}

-- what waits in the queue, and what a generator with these words will draw, are the timetable's
pub record Keeps (queue : Queue) (words : List ℕ) (t : Timetable) : Type 0 where
  pub waits : Waits queue.own queue.pushed t.waiting
  pub draws : t.draws ≡ draws_at words
