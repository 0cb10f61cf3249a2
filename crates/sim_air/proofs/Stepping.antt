-- One step of an air, as a queue takes it.
use Rattle.std.proofs.Common.{◌≡◌, ℕ, List, [], ◌∷◌, ◌++◌, sym, ap, refl}
use Rattle.std.proofs.Common.{subst, cond, Bool, true, false, None}
use Rattle.std.specs.Prelude.{slice_get}
use Rattle.its_model.specs.World.{Config, Event, WorldModel, opening, world_run}
use Rattle.its_world.specs.Entries.{Entry}
use Rattle.sim_simulation.specs.Simulated.{IsSimulated}
use Rattle.sim_queue.specs.declared.scheduled.Scheduled.{Scheduled}
use Rattle.sim_queue.specs.declared.queue.Queue.{Queue}
use Rattle.sim_air.specs.declared.run.Run.{Run}
use Rattle.sim_air_model.specs.Draws.{draws_at, draws_of}
use Rattle.sim_queue.specs.Keeps.{Keeps}
use Rattle.sim_air.specs.Keeps.{IsTimed, GoesBy, follow_own}
use Rattle.sim_queue.specs.Waiting.{happening_of}
use Rattle.sim_air_model.specs.Timetable.{Rules, Timetable, AirModel, of_file}
use Rattle.sim_air_model.specs.Timetable.{do_one, take_one, follow_tick}
use Rattle.sim_air_model.specs.Timetable.{after_one}
use Rattle.sim_air_model.specs.Timetable.{send_again, was_refused, by_file, present_after}
use Rattle.sim_air_model.specs.Timetable.{is_passed_over}
use Rattle.sim_air_model.specs.Timetable.Filed.{Happens}
use Rattle.sim_queue.specs.Traffics.{traffic_in}
use Rattle.sim_queue.specs.Waits.{Waits, planned_of, pending_of}

-- what follows an event of the air's own
pub follows : (w : Scheduled) (after : WorldModel) (t : Timetable) (b : Bool)
    → was_refused after.log ≡ b
    → follow_own w b (slice_get after.stations w.station) t
    ≡ send_again (happening_of w) (traffic_in w.own) (follow_tick (planned_of w) after t)
follows w after t b refused =
    sym (ap (λ (x : Bool). follow_own w x (slice_get after.stations w.station) t) refused)

-- nothing was put yet
pub keeps_opening : (queue : Queue) (words : List ℕ) (seed : ℕ) → queue.own ≡ []
    → queue.pushed ≡ 0 → draws_at words ≡ draws_of seed
    → Keeps queue words (record { waiting = []; draws = draws_of seed })
keeps_opening queue words seed heap pushed drawn =
    record {
      waits = subst (λ (hs : List Scheduled). Waits hs queue.pushed []) (sym heap)
          (subst (λ n. Waits [] n []) (sym pushed) nothing);
      draws = sym drawn;
    }
  where
    nothing : Waits [] 0 []
    nothing = record { own = []; same = λ f. refl; rise = tt; below = tt; is = refl }

-- ---- what was taken is done

-- an event of the file was done, and its station came if it does
pub filed_event : (rules : Rules) (configs : List Config) (a : AirModel) (e : Event) (new : Run)
    (After : List Event → List Entry → Type 0) → GoesBy rules new → new.contentions ≡ None
    → IsSimulated configs (a.done ++ e ∷ []) new.world After
    → Keeps new.queue new.draws
    (after_one rules a.present (by_file e) (world_run (opening configs) (a.done ++ e ∷ []))
    a.timetable)
    → new.present.items ≡ present_after a.present e (world_run (opening configs) (a.done ++ e ∷ []))
    → IsTimed rules configs (take_one rules configs a (of_file (Happens e)) a.timetable) new After
filed_event rules configs a e new After goes steady told keeps present =
    record { goes_by = goes; told = told; keeps = keeps; present = present; steady = steady }

-- one of the air's own was done
pub own_done : (rules : Rules) (configs : List Config) (a : AirModel) (w : Scheduled) (new : Run)
    (After : List Event → List Entry → Type 0) → is_passed_over a.present (planned_of w) ≡ false
    → GoesBy rules new → new.contentions ≡ None
    → IsSimulated configs (a.done ++ happening_of w ∷ []) new.world After
    → Keeps new.queue new.draws
    (after_one rules a.present (planned_of w)
    (world_run (opening configs) (a.done ++ happening_of w ∷ [])) a.timetable)
    → new.present.items
    ≡ present_after a.present (happening_of w)
    (world_run (opening configs) (a.done ++ happening_of w ∷ []))
    → IsTimed rules configs (take_one rules configs a (pending_of w) a.timetable) new After
own_done rules configs a w new After run goes steady told keeps present =
    subst (λ (b : Bool). IsTimed rules configs (cond b
    (record { done = a.done; timetable = a.timetable; present = a.present })
    (do_one rules configs a (planned_of w) a.timetable)) new After) (sym run)
    (record { goes_by = goes; told = told; keeps = keeps; present = present; steady = steady })

-- one of the air's own was passed over
pub own_passed_over : (rules : Rules) (configs : List Config) (a : AirModel) (w : Scheduled)
    (run : Run) (Took : List Event → List Entry → Type 0)
    → is_passed_over a.present (planned_of w) ≡ true → IsTimed rules configs a run Took
    → IsTimed rules configs (take_one rules configs a (pending_of w) a.timetable) run Took
own_passed_over rules configs a w run Took over h =
    subst (λ (b : Bool). IsTimed rules configs (cond b
    (record { done = a.done; timetable = a.timetable; present = a.present })
    (do_one rules configs a (planned_of w) a.timetable)) run Took) (sym over)
    (record {
      goes_by = h.goes_by;
      told = h.told;
      keeps = h.keeps;
      present = h.present;
      steady = h.steady;
    })
