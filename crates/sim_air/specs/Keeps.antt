-- A run keeps the timetable of the model's air.
use Rattle.std.specs.Prelude.{◌≡◌, ℕ, List, Bool, Option, None, cond, not, ◌&&◌}
use Rattle.its_model.specs.Calls.{Answer}
use Rattle.its_model.specs.Station.{StationModel}
use Rattle.its_model.specs.World.{Config, Event, WorldModel, frame_of}
use Rattle.its_world.specs.Entries.{Entry, TellsEntry}
use Rattle.sim_simulation.specs.Simulated.{IsSimulated}
use Rattle.sim_air.specs.AirTimed.{rules_of}
use Rattle.sim_queue.specs.Keeps.{Keeps}
use Rattle.its_model.specs.Reach.{is_moved}
use Rattle.sim_air_model.specs.Timetable.{Rules, Timetable, AirModel, was_moved}
use Rattle.sim_queue.specs.Waiting.{happening_of, own_of}
use Rattle.sim_air_model.specs.Timetable.{given, was_refused, is_refusal, is_tick, tick_again}
use Rattle.sim_air_model.specs.Timetable.{send_again}
use Rattle.sim_queue.specs.Traffics.{all_traffic, traffic_in}
use Rattle.sim_air.specs.declared.run.Run.{Run}
use Rattle.sim_queue.specs.declared.scheduled.Scheduled.{Scheduled}

-- what follows an event of the air's own, which was refused or not
abbrev pub follow_own : Scheduled → Bool → Option StationModel → Timetable → Timetable
follow_own w refused s t =
    send_again (happening_of w) (traffic_in w.own)
    (cond (is_tick (own_of w.own) && not refused) (tick_again (happening_of w) s t) t)

-- the entry is the one that was logged last
pub record IsAnswered (entry : Entry) (after : WorldModel) : Type 0 where
  pub answer : Answer ℕ
  pub tells : TellsEntry entry answer
  pub gave : given after.log ≡ frame_of answer
  pub refused : was_refused after.log ≡ is_refusal answer
  pub moved : was_moved after.log ≡ is_moved answer

-- the radio model of a run goes by these rules, except that a run has no end of its own
abbrev pub GoesBy : Rules → Run → Type 0
GoesBy rules run =
    rules_of run.air (all_traffic run.every.now) rules.until rules.present ≡ rules

-- a run that is under way, in which no station contends, stands as the air of the model does
pub record IsTimed (rules : Rules) (configs : List Config) (a : AirModel) (run : Run)
    (Took : List Event → List Entry → Type 0) : Type 0 where
  pub goes_by : GoesBy rules run
  pub present : run.present.items ≡ a.present
  pub told : IsSimulated configs a.done run.world Took
  pub keeps : Keeps run.queue run.draws a.timetable
  pub steady : run.contentions ≡ None
