-- The calls that a mesh makes, in the model: those of a file's events, and what comes by sockets.
use Rattle.std.specs.Prelude.{◌≡◌, ℕ, ◌<◌, max, Bool, true, false, ◌||◌, ◌&&◌, IsFalse}
use Rattle.std.specs.Prelude.{List, [], ◌∷◌, ◌++◌, length, Option, Some, None}
use Rattle.std.specs.Prelude.{slice_get, slice_set}
use Rattle.std.specs.List.{filter}
use Rattle.its_model.specs.Packet.{Transmission}
use Rattle.its_model.specs.Calls.{Call, Answer}
use Rattle.its_model.specs.Calls.Call.{Own, Receive, Junk}
use Rattle.its_model.specs.Calls.Answer.{Refused}
use Rattle.its_model.specs.Calls.Refusal.{NoSuchStation}
use Rattle.its_model.specs.Station.{StationModel, station_step}
use Rattle.its_model.specs.World.{Config, Event, What, opening}
use Rattle.its_model.specs.World.What.{Calls, Deliver}
use Rattle.its_station.specs.State.{StationState}
use Rattle.its_world.specs.State.{RepresentStations}
use Rattle.cmd_reporting.specs.declared.status.Status.{Status}
use Rattle.cmd_mesh.specs.Statuses.{mesh_status}

-- a call: of the station of this number, at this moment
pub record MeshCall : Type 0 where
  pub station : ℕ
  pub moment : ℕ
  pub call : Call

-- whether the station's own applications ask for the call; any other came by a socket
abbrev pub is_own : Call → Bool
is_own (Own call) = true
is_own (Receive t) = false
is_own (Junk fault) = false

-- the calls without what came by sockets
abbrev pub own_calls : List MeshCall → List MeshCall
own_calls calls = filter (λ c. is_own c.call) calls

-- the call that an event asks for; one that delivers a frame asks for none, since sockets do that
abbrev pub calls_in : Event → What → List MeshCall
calls_in e (Calls call) =
    record { station = e.station; moment = e.moment; call = Own call } ∷ []
calls_in e (Deliver frame) = []

-- the calls of a file: those of its events, in their order
abbrev pub file_calls : List Event → List MeshCall
file_calls [] = []
file_calls (e ∷ events) = calls_in e e.what ++ file_calls events

-- whether an answer is a refusal
abbrev pub is_refused : Answer Transmission → Bool
is_refused (Refused refusal) = true
is_refused answer = false

-- what a station answers to a call; where there is no such station the call is refused
abbrev pub answer_at : Option StationModel → MeshCall → Answer Transmission
answer_at None c = Refused NoSuchStation
answer_at (Some s) c = (station_step s c.moment c.call).answer

-- the stations after a call, which changes none but the one that is called
abbrev pub called_at : List StationModel → Option StationModel → MeshCall → List StationModel
called_at models None c = models
called_at models (Some s) c =
    slice_set models c.station (station_step s c.moment c.call).station

abbrev pub mesh_step : List StationModel → MeshCall → List StationModel
mesh_step models c = called_at models (slice_get models c.station) c

-- the stations after these calls, made one after the other
abbrev pub mesh_run : List StationModel → List MeshCall → List StationModel
mesh_run models [] = models
mesh_run models (c ∷ calls) = mesh_run (mesh_step models c) calls

-- whether one of these calls is refused
abbrev pub any_refused : List StationModel → List MeshCall → Bool
any_refused models [] = false
any_refused models (c ∷ calls) =
    is_refused (answer_at (slice_get models c.station) c)
    || any_refused (mesh_step models c) calls

-- the greatest of this moment and those of the calls
abbrev pub greatest : ℕ → List MeshCall → ℕ
greatest moment [] = moment
greatest moment (c ∷ calls) = greatest (max moment c.moment) calls

-- what comes by a socket comes to one of so many stations, at this moment
abbrev pub IsInTime : ℕ → ℕ → MeshCall → Type 0
IsInTime count moment c =
    IsFalse (is_own c.call) → (c.station < count) × (c.moment ≡ moment)

-- What comes by sockets comes to stations that are there, each time at the greatest moment of the
-- calls before it.
abbrev pub AreInTime : ℕ → ℕ → List MeshCall → Type 0
AreInTime count moment [] = Unit {0}
AreInTime count moment (c ∷ calls) =
    IsInTime count moment c × AreInTime count (max moment c.moment) calls

-- these came by the socket of this station, at this moment
abbrev pub AreReceived : ℕ → ℕ → List MeshCall → Type 0
AreReceived station moment [] = Unit {0}
AreReceived station moment (c ∷ calls) =
    (c.station ≡ station) × (c.moment ≡ moment) × IsFalse (is_own c.call)
    × AreReceived station moment calls

-- From stations that stand for these models on, a mesh made these calls and no others, one after
-- the other. The greatest moment before them was this one, and a call was refused before them or
-- not; now the mesh has these stations, and a call was refused or not.
pub record HasMade (models : List StationModel) (moment : ℕ) (was_refused : Bool)
    (calls : List MeshCall) (stations : List StationState) (has_refused : Bool) : Type 0 where
  pub stand : RepresentStations stations (mesh_run models calls)
  pub refused : has_refused ≡ (was_refused || any_refused models calls)
  pub in_time : AreInTime (length models) moment calls

-- from such stations on a mesh made so many calls, of what came by the socket of this station alone
pub record HasReceivedAt (models : List StationModel) (station moment : ℕ) (was_refused : Bool)
    (stations : List StationState) (has_refused : Bool) (count : ℕ) : Type 0 where
  pub calls : List MeshCall
  pub received : AreReceived station moment calls
  pub made : HasMade models moment was_refused calls stations has_refused
  pub as_many : length calls ≡ count

-- a mesh made no calls but of what came by sockets
abbrev pub HasReceived : List StationModel → ℕ → Bool → List StationState → Bool → Type 0
HasReceived models moment was_refused stations has_refused =
    (calls : List MeshCall) × (own_calls calls ≡ [])
    × HasMade models moment was_refused calls stations has_refused

-- A mesh made each call of these events once, in their order; before, between and behind them it
-- made no others but of what came by sockets.
abbrev pub HasRun : List Event → List StationModel → ℕ → Bool → List StationState → Bool → Type 0
HasRun events models moment was_refused stations has_refused =
    (calls : List MeshCall) × (own_calls calls ≡ file_calls events)
    × HasMade models moment was_refused calls stations has_refused

-- the same of some first calls of these events, and no further ones
abbrev pub HasBegun : List Event → List StationModel → ℕ → Bool → List StationState → Bool
    → Type 0
HasBegun events models moment was_refused stations has_refused =
    (calls rest : List MeshCall) × (own_calls calls ++ rest ≡ file_calls events)
    × HasMade models moment was_refused calls stations has_refused

-- So ends a mesh that begins with stations of these configs and made just the calls of these
-- events, each once and in their order, and what came by sockets between them: as failed; or else
-- as refused where it is strict and one of the calls was refused, and as done where not.
pub record IsMeshRun (configs : List Config) (events : List Event) (strict : Bool)
    (status : Status) : Type 0 where
  pub calls : List MeshCall
  pub of_file : own_calls calls ≡ file_calls events
  pub in_time : AreInTime (length configs) 0 calls
  pub failed : Bool
  pub ends : status
      ≡ mesh_status failed (strict && any_refused (opening configs).stations calls)
