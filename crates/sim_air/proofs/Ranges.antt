-- The numbers of a scenario's file are in the ranges that a run asks for.
use Rattle.std.proofs.Common.{List, ◌<◌, ◌^◌}
use Rattle.std.specs.Prelude.{All}
use Rattle.its_gnvalue.specs.Values.{IsSpeed}
use Rattle.its_station.specs.declared.call.OwnCall.{OwnCall}
use Rattle.its_station.specs.declared.call.OwnCall.TheVariants as own_calls
use Rattle.its_station.specs.Runs.{IsOwnInRange}
use Rattle.its_world.specs.declared.event.What.{What}
use Rattle.its_world.specs.declared.event.What.TheVariants as whats
use Rattle.its_world.specs.Events.{IsInRange}
use Rattle.sim_scenario.specs.Airs.{moment_of}
use Rattle.its_words.specs.Calls.{own_speed}
use Rattle.sim_scenario.specs.Events.{FitsFileEvent, speed_of}
use Rattle.sim_scenario.specs.declared.events.event.FileEvent.{FileEvent}
use Rattle.sim_scenario.specs.declared.events.event.FileEvent.TheVariants as files
use Rattle.sim_air.specs.FileEvents.{IsFiledInRange}

call_in_range : (call : OwnCall) → IsSpeed (own_speed call) → IsOwnInRange call
call_in_range (own_calls.MoveTo place pai speed heading) h = h
call_in_range (own_calls.Open port) h = tt
call_in_range (own_calls.Close port) h = tt
call_in_range (own_calls.Tick jitter) h = tt
call_in_range (own_calls.SendShb request) h = tt
call_in_range (own_calls.SendGeobroadcast request) h = tt
call_in_range (own_calls.SendGeoanycast request) h = tt
call_in_range (own_calls.Restart number) h = tt

what_in_range : (what : What) → IsSpeed (speed_of what) → IsInRange what
what_in_range (whats.Call call) h = call_in_range call h
what_in_range (whats.Deliver frame) h = tt

one_in_range : (f : FileEvent) → FitsFileEvent f → IsFiledInRange f
one_in_range (files.Happens e) h = what_in_range e.what h.2
one_in_range (files.Leaves station moment) h = tt

pub all_in_range : (file : List FileEvent) → All FitsFileEvent file → All IsFiledInRange file
all_in_range file h = λ k d lt. one_in_range _ (h k d lt)

pub all_moments : (file : List FileEvent) → All FitsFileEvent file
    → All (λ f. moment_of f < 2 ^ 63) file
all_moments file h = λ k d lt. (h k d lt).1
