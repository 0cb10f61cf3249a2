-- What is told of an event.
use Rattle.std.specs.Prelude.{◌≡◌, ℕ, List, Vec, Option, Some, None}
use Rattle.std.specs.Option.{option_map}
use Rattle.std.specs.declared.alloc.Global.{Global}
use Rattle.its_model.specs.Calls.{Answer}
use Rattle.its_model.specs.World.{Event, frame_of}
use Rattle.its_world.specs.Entries.{TellsEntry}
use Rattle.its_world.specs.Events.{what_of}
use Rattle.its_world.specs.Frames.{frame_in}
use Rattle.its_world.specs.State.{WorldState}
use Rattle.sim_simulation.specs.declared.record.EventRecord.{EventRecord}

-- the event that a record is of
abbrev pub happening_in : EventRecord → Event
happening_in r = record { station = r.station; moment = r.moment; what = what_of r.what.now }

-- the octets of a frame of a world, if one is named and there is such a one that is kept
abbrev pub octets_of : WorldState → Option ℕ → Option (List ℕ)
octets_of world None = None
octets_of world (Some k) =
    option_map (λ (w : Vec ℕ Global). w.items) (frame_in world.released world.frames k)

-- A record of an event that was done in this world: it has the octets of the frame that its entry
-- names, where one is named and the world keeps it.
abbrev pub IsRecordOf : WorldState → EventRecord → Type 0
IsRecordOf world r =
    (answer : Answer ℕ) → TellsEntry r.entry.now answer
    → option_map (λ octets. octets.now) r.octets ≡ octets_of world (frame_of answer)
