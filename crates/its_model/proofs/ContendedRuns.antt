-- Contention is a schedule: a run of stations that contend is a run of the world with the same
-- events. So what holds of every run of the world holds of it.
use Rattle.std.proofs.Common.{◌≡◌, ℕ, List, [], ◌∷◌, Option, Some, None, refl, sym, ap, subst, ◌∙◌}
use Rattle.std.specs.Prelude.{slice_get}
use Rattle.its_model.specs.Calls.{Refusal}
use Rattle.its_model.specs.Station.{StationModel, moment_refusal}
use Rattle.its_model.specs.Contention.{ContentionRule}
use Rattle.its_model.specs.World.{Config, Event, WorldModel, opening, world_run}
use Rattle.its_model.specs.Contended.{CopyTest, ContendedWorld, Happening, opening_with}
use Rattle.its_model.specs.Contended.{rule_at, released, released_by, contended_step}
use Rattle.its_model.specs.Contended.{contended_run, erased}
use Rattle.its_model.specs.Contended.Happening.{Happens, Releases}
use Rattle.its_model.specs.EverySchedule.{HoldsOfSchedules}
use Rattle.its_model.proofs.SoundRuns.{run_sound}
use Rattle.its_model.proofs.Theorems.{handed_as_sent, relays_are_faithful, anycast_stops_inside}
use Rattle.its_model.proofs.Theorems.{frames_have_number_and_hops, frames_name_their_source}
use Rattle.its_model.proofs.Acceptances.{accepted_again_was_forgotten, duplicate_was_accepted}
use Rattle.its_model.proofs.Counts.{frames_are_few}
use Rattle.its_model.proofs.OneEach.{one_frame_a_station}
use Rattle.its_model.proofs.Ways.{accepted, reaches}

-- a release leaves the world
released_by_leaves : (o : Option Refusal) (cw : ContendedWorld) (j now : ℕ)
    → (released_by cw j now o).world ≡ cw.world
released_by_leaves (Some refusal) cw j now = refl
released_by_leaves None cw j now = refl

release_leaves : (rule : Option ContentionRule) (station : Option StationModel)
    (cw : ContendedWorld) (j now : ℕ) → (released cw j now rule station).world ≡ cw.world
release_leaves None station cw j now = refl
release_leaves (Some r) None cw j now = refl
release_leaves (Some r) (Some s) cw j now = released_by_leaves (moment_refusal s now) cw j now

-- the world after a run is the world after its events
pub contention_is_a_schedule : (happenings : List Happening) (test : CopyTest)
    (cw : ContendedWorld)
    → (contended_run test cw happenings).world ≡ world_run cw.world (erased happenings)
contention_is_a_schedule [] test cw = refl
contention_is_a_schedule (Happens e ∷ happenings) test cw =
    contention_is_a_schedule happenings test (contended_step test cw (Happens e))
contention_is_a_schedule (Releases j now ∷ happenings) test cw =
    contention_is_a_schedule happenings test (contended_step test cw (Releases j now))
    ∙ ap (λ (w : WorldModel). world_run w (erased happenings))
    (release_leaves (rule_at cw j) (slice_get cw.world.stations j) cw j now)

-- all that holds of every run of the world
holds_of_every_run : (configs : List Config) (events : List Event)
    → HoldsOfSchedules configs (world_run (opening configs) events)
holds_of_every_run configs events =
    let w = world_run (opening configs) events in
    let sound = run_sound configs events in
    record {
      handed_as_sent = handed_as_sent configs w sound;
      relays_are_faithful = relays_are_faithful configs w sound;
      at_most_once = record {
        again = accepted_again_was_forgotten configs w sound;
        duplicate = duplicate_was_accepted configs w sound;
      };
      flooding_is_bounded = record {
        few = frames_are_few configs w sound;
        one_a_station = one_frame_a_station configs w sound;
        number_and_hops = frames_have_number_and_hops configs w sound;
      };
      anycast_stops_inside = anycast_stops_inside configs w sound;
      frames_name_their_source = frames_name_their_source configs w sound;
      accepted_where_it_comes = accepted configs events;
      reaches_where_delivered = reaches configs events;
    }

-- So it holds of stations that contend, with any rules and any number of stations without one.
pub contended_runs_hold : (test : CopyTest) (configs : List Config)
    (rules : List (Option ContentionRule)) (happenings : List Happening)
    → HoldsOfSchedules configs
    (contended_run test (opening_with configs rules) happenings).world
contended_runs_hold test configs rules happenings =
    subst (λ (w : WorldModel). HoldsOfSchedules configs w)
    (sym (contention_is_a_schedule happenings test (opening_with configs rules)))
    (holds_of_every_run configs (erased happenings))
