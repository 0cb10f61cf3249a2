-- What keeps a run under way.
use Rattle.std.proofs.Common.{◌≡◌, ℕ, zero, suc, List, [], ◌∷◌, ◌++◌, Some, sym, ap}
use Rattle.std.proofs.Common.{subst, ◌∙◌, take, refl}
use Rattle.std.specs.Prelude.{slice_get}
use denote.Ref.{Bor}
use Rattle.its_model.specs.World.{Config, Event}
use Rattle.its_world.specs.Entries.{Entry}
use Rattle.sim_scenario.specs.declared.events.event.FileEvent.{FileEvent}
use Rattle.its_world.specs.State.{WorldState}
use Rattle.sim_simulation.specs.Simulated.{IsSimulated}
use Rattle.sim_air.specs.AirRun.{AreAmong, events_in}
use Rattle.sim_air.specs.FileEvents.{filed_in, filed_of}
use Rattle.sim_air_model.specs.Timetable.{Filed}
use Rattle.sim_air_model.specs.Timetable.Filed.{Happens, Leaves}
use Rattle.sim_air.specs.Runs.{SaysAsBefore}
use Rattle.sim_air.proofs.Among.{among_both}
use Rattle.std.proofs.lemmas.List.{append-nil}

-- one more event of the file was taken
pub front_more : (due : List (Bor FileEvent)) (n : ℕ) (e : Bor FileEvent) → slice_get due n ≡ Some e
    → take (suc n) (filed_in due) ≡ take n (filed_in due) ++ filed_of e.now ∷ []
front_more [] n e is = cc
front_more (x ∷ due) zero e is =
    let same : x ≡ e = cc in
    ap (λ (y : Bor FileEvent). filed_of y.now ∷ []) same
front_more (x ∷ due) (suc n) e is =
    ap (λ (l : List Filed). filed_of x.now ∷ l) (front_more due n e is)

-- the events of one line more
events_more : (xs : List Filed) (e : Filed)
    → events_in (xs ++ e ∷ []) ≡ events_in xs ++ events_in (e ∷ [])
events_more [] e = refl
events_more (Happens x ∷ xs) e = ap (λ (l : List Event). x ∷ l) (events_more xs e)
events_more (Leaves station moment ∷ xs) e = events_more xs e

pub among_line : (xs : List Filed) (events : List Event) (e : Filed)
    → AreAmong (events_in xs) events → AreAmong (events_in (xs ++ e ∷ [])) (events ++ events_in (e
    ∷ []))
among_line xs events (Happens e) h =
    subst (λ (l : List Event). AreAmong l (events ++ e ∷ [])) (sym (events_more xs (Happens e)))
    (among_both (events_in xs) events e h)
among_line xs events (Leaves station moment) h =
    subst (λ (l : List Event). AreAmong l (events ++ []))
    (sym (events_more xs (Leaves station moment) ∙ append-nil (events_in xs)))
    (subst (AreAmong (events_in xs)) (sym (append-nil events)) h)

-- what was done is still told where a sink says what it said before
pub told_on : (configs : List Config) (events : List Event) (world : WorldState)
    (Before After : List Event → List Entry → Type 0) → SaysAsBefore Before After
    → IsSimulated configs events world Before → IsSimulated configs events world After
told_on configs events world Before After says h =
    record {
      stands = h.stands;
      laws = h.laws;
      log = h.log;
      told = h.told;
      took = says events h.log h.took;
    }
