-- A call of one of the stations of a mesh.
use Rattle.std.specs.Prelude.{◌≡◌, ◌⊎◌, ℕ, Bool, true, ◌||◌, List, [], ◌∷◌, Option, Some}
use Rattle.std.specs.Prelude.{None, slice_set}
use Rattle.its_model.specs.Station.{StationModel}
use Rattle.its_station.specs.declared.call.Call.{Call}
use Rattle.its_station.specs.declared.run.Reply.{Reply}
use Rattle.its_station.specs.Runs.{IsIsolatedRunOf, is_refusal}
use Rattle.its_station.specs.State.{StationState}
use Rattle.its_world.specs.State.{RepresentStations}

-- Station j, which represents this one of the model, made this call at this moment, and that is all
-- that it did; no other station changed. The call was refused, or it was not. Where there is no
-- station j, none changed, and the call was refused.
abbrev pub IsCalled : List StationState → Option StationModel → ℕ → ℕ → Call → Bool
    → List StationState → Type 0
IsCalled old None j moment call refused new = (new ≡ old) × (refused ≡ true)
IsCalled old (Some s) j moment call refused new =
    (reply : Reply) × (state : StationState)
    × IsIsolatedRunOf s ((moment, call) ∷ []) (reply ∷ []) state
    × (refused ≡ is_refusal reply) × (new ≡ slice_set old j state)

-- The call was made so, and a mesh that noted a refusal before, or none, has noted this one too.
abbrev pub IsNoted : List StationState → Option StationModel → ℕ → ℕ → Call → Bool
    → List StationState → Bool → Type 0
IsNoted old found j moment call noted new notes =
    (refused : Bool) × IsCalled old found j moment call refused new
    × (notes ≡ (noted || refused))

-- Where a call is cut short, it was made and noted; or it was not made, and the stations still
-- stand for these of the model.
abbrev pub IsCutShort : List StationState → List StationModel → Option StationModel → ℕ → ℕ → Call
    → Bool → List StationState → Bool → Type 0
IsCutShort old models found j moment call noted new notes =
    (RepresentStations new models × (notes ≡ noted))
    ⊎ IsNoted old found j moment call noted new notes
