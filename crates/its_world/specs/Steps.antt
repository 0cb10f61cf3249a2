-- What an event asks of its station.
use Rattle.std.specs.Prelude.{◌≡◌, ◌≢◌, ℕ, ◌<◌, ◌≤◌, List, [], ◌∷◌, ◌++◌, Option, IsSome, Vec}
use Rattle.std.specs.Prelude.{slice_get, length}
use Rattle.std.specs.Option.{option_map}
use Rattle.std.specs.declared.alloc.Global.{Global}
use Rattle.its_model.specs.Calls as model
use Rattle.its_model.specs.Calls.{Call}
use Rattle.its_model.specs.Calls.{Answer}
use Rattle.its_model.specs.World.{Event, What, WorldModel, entries, world_step}
use Rattle.its_model.specs.World.What.{Calls, Deliver}
use Rattle.its_station.specs.State.{StationState}
use Rattle.its_station.specs.Receiving.{IsFrameCall}
use Rattle.its_world.specs.Frames.{frame_in}
use Rattle.its_world.specs.State.{RepresentsWorld, WorldState}
use Rattle.its_world.specs.Entries.{Entry, TellsEntry}

-- a call of its own, or the frame that these octets are
abbrev pub IsAskedBy : What → List ℕ → Call → Type 0
IsAskedBy (Calls call) w asked = asked ≡ model.Call.Own call
IsAskedBy (Deliver k) w asked = IsFrameCall w asked

-- what happens delivers none of the frames that were let go, so many of them
abbrev pub IsKept : ℕ → What → Type 0
IsKept released (Calls call) = Unit {0}
IsKept released (Deliver k) = released ≤ k

-- what happens delivers one of the frames that were let go, so many of them
abbrev pub IsGone : ℕ → What → Type 0
IsGone released (Calls call) = ⊥
IsGone released (Deliver k) = k < released

-- the octets that an event delivers, if there are such ones; those of an own call are of no account
abbrev pub IsDelivered : ℕ → List (Vec ℕ Global) → What → Option (List ℕ) → Type 0
IsDelivered released frames (Calls call) octets = IsSome octets
IsDelivered released frames (Deliver k) octets =
    octets ≡ option_map (λ (w : Vec ℕ Global). w.items) (frame_in released frames k)

-- the same stations, but perhaps that of this number
abbrev pub AreSameBut : ℕ → List StationState → List StationState → Type 0
AreSameBut number old new = (length new ≡ length old)
    × ((n : ℕ) → n ≢ number → slice_get new n ≡ slice_get old n)

-- where an event delivers no frame that was released, the world goes one step of the model, and the
-- entry is what that logs
abbrev pub IsDoneBy : WorldState → WorldState → Event → Entry → Type 0
IsDoneBy old new e entry = (w : WorldModel) → RepresentsWorld old w → IsKept old.released e.what
    → RepresentsWorld new (world_step w e) × (answer : Answer ℕ) × TellsEntry entry answer
    × (entries (world_step w e).log ≡ entries w.log ++ answer ∷ [])
