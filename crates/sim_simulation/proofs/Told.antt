-- One event more of a run that was told.
use Rattle.std.proofs.Common.{◌≡◌, ℕ, List, [], ◌∷◌, ◌++◌, sym, ap, subst, ◌∙◌}
use Rattle.its_model.specs.Calls.{Answer}
use Rattle.its_model.specs.EverySchedule.{HoldsOfSchedules}
use Rattle.its_model.specs.World.{Config, Event, WorldModel, opening, world_run, world_step, entries}
use Rattle.its_world.specs.State.{WorldState, RepresentsWorld}
use Rattle.its_world.specs.Entries.{AreEntries, Entry, TellsEntry}
use Rattle.sim_simulation.specs.Simulated.{IsSimulated}

-- one entry more
entries_push : (log : List Entry) (answers : List (Answer ℕ)) (e : Entry) (a : Answer ℕ)
    → AreEntries log answers → TellsEntry e a → AreEntries (log ++ e ∷ []) (answers ++ a ∷ [])
entries_push [] [] e a h t = (t, tt)
entries_push [] (b ∷ answers) e a h t = absurd h
entries_push (d ∷ log) [] e a h t = absurd h
entries_push (d ∷ log) (b ∷ answers) e a h t = (h.0, entries_push log answers e a h.1 t)

-- one event more
pub told_more : (configs : List Config) (events : List Event) (e : Event) (old new : WorldState)
    (entry : Entry) (Before After : List Event → List Entry → Type 0)
    → ((w : WorldModel) → RepresentsWorld old w → RepresentsWorld new (world_step w e)
    × (answer : Answer ℕ) × TellsEntry entry answer
    × (entries (world_step w e).log ≡ entries w.log ++ answer ∷ []))
    → ((w : WorldModel) (past more : List Event)
    → world_run w (past ++ more) ≡ world_run (world_run w past) more)
    → HoldsOfSchedules configs (world_run (opening configs) (events ++ e ∷ []))
    → ((log : List Entry) → Before events log → After (events ++ e ∷ []) (log ++ entry ∷ []))
    → IsSimulated configs events old Before → IsSimulated configs (events ++ e ∷ []) new After
told_more configs events e old new entry Before After step on laws took h =
    let w = world_run (opening configs) events in
    let done = step w h.stands in
    let same = on (opening configs) events (e ∷ []) in
    record {
      stands = subst (RepresentsWorld new) (sym same) done.0;
      laws = laws;
      log = h.log ++ entry ∷ [];
      told =
          subst (λ (l : List (Answer ℕ)). AreEntries (h.log ++ entry ∷ []) l)
          (sym (ap (λ (v : WorldModel). entries v.log) same ∙ done.3))
          (entries_push h.log (entries w.log) entry done.1 h.told done.2);
      took = took h.log h.took;
    }
