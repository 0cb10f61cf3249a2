-- A handle's life: what C calls between `geostation_new_from_config` and `geostation_free`, and what it
-- finds. A line of JSON is not among these calls: see the clause `served` of its exports.
use Rattle.std.specs.Prelude.{◌≡◌, ◌≢◌, ◌<◌, ◌≤◌, ℕ, ℤ, pos, negsuc, nat_eq, not, List, [], ◌∷◌}
use Rattle.std.specs.Prelude.{◌++◌, length, max, Bool, false, if◌then◌else◌, Option, Some, None}
use Rattle.std.specs.Prelude.{Result, Err, Vec}
use Rattle.std.specs.Option.{option_map}
use Rattle.std.specs.declared.alloc.Global.{Global}
use Rattle.its_geometry.specs.Area.{GeoArea}
use Rattle.its_headers.specs.declared.kind.Kind.TheVariants as kinds
use Rattle.its_linkframe.specs.Padding.{IsUnpadded}
use Rattle.its_model.specs.Packet.{Transmission}
use Rattle.its_model.specs.Calls as model
use Rattle.its_model.specs.Calls.{Answer, Call, area_call}
use Rattle.its_model.specs.Contention.{ContentionRule}
use Rattle.its_model.specs.Station.{StationModel}
use Rattle.its_contention.specs.Buffer.{empty}
use Rattle.its_governor.specs.declared.governor.Governor.{Governor}
use Rattle.its_governor.specs.declared.rate.Limits.{Limits}
use Rattle.its_governor.specs.Governing.{IsNewGovernor}
use Rattle.its_station.specs.Counting.{counted_done, counted_tick, nothing}
use Rattle.its_station.specs.Receiving.{IsFrameCall, IsVerifiedCall, Tells, TellsBy, VerifiedCall}
use Rattle.its_station.specs.Receiving.{sealed_by}
use Rattle.its_station.specs.Requests.{TellsTick, kind_cast, kind_of_cast}
use Rattle.its_station.specs.Steps.{Says}
use Rattle.its_station.specs.declared.counts.Counts.{Counts}
use Rattle.its_station.specs.declared.refused.Refused.{Refused}
use Rattle.its_station.specs.declared.refused.Refused.TheVariants as refused
use Rattle.its_station.specs.declared.sending.AreaCast.{AreaCast}
use Rattle.its_unit.specs.Unit.{UnitCall, UnitModel, UnitState, UnitStep, unit_step}
use Rattle.its_unit.specs.Releases.{IsReleaseOf, UnitRelease, counted_release, longest_in}
use Rattle.its_unit.specs.Releases.{release_step}
use Rattle.its_unit.specs.Lawful.{IsLawful}
use Rattle.its_unit.specs.Runs.{UnitAct, UnitCallAt, unit_acts}
use Rattle.its_unit.specs.Steps.{IsReactionOf, IsStepOf, IsSendOf, SaysPassed, counted_request}
use Rattle.its_unit.specs.Steps.{counted_received}
use Rattle.its_unit.specs.declared.outcome.Reaction.{Reaction}
use Rattle.its_unit.specs.declared.unsent.Unsent.{Unsent}
use Rattle.its_c.specs.Arguments.{AreForMove, IsAreaOf, gbc_asked, place_of, shb_asked, shb_options}
use Rattle.its_c.specs.Held.{IsSame, counts_in}
use Rattle.its_c.specs.Open.{HoldsUnit}
use Rattle.its_c.specs.Status.{status_in, status_sent}
use Rattle.its_c.specs.Told.{IsTold, ShowsNothing, ShowsBeacon, ShowsFrame, ShowsReceived}
use Rattle.its_c.specs.Told.{nothing_received, reception_in, verified_reception_in}
use Rattle.its_c.specs.declared.handle.Geostation.{Geostation}
use Rattle.its_c.specs.declared.layout.AreaRequest.{AreaRequest}
use Rattle.its_c.specs.declared.layout.Reception.{Reception}
use Rattle.its_c.specs.declared.layout.ShbOptions.{ShbOptions}
use Rattle.its_c.specs.declared.layout.ShbRequest.{ShbRequest}

-- A call of C, with its arguments: `room` is the caller's buffer as it was. After them stands what C
-- finds: the status, and what was written. `Read` is each call that only reads.
pub data HandleCall : Type 0 where
  Move : (now : ℕ) (latitude longitude : ℤ) (accurate : ℕ) (speed : ℤ) (heading : ℕ) (status : ℤ)
      → HandleCall
  MoveAt : (now timestamp : ℕ) (latitude longitude : ℤ) (accurate : ℕ) (speed : ℤ) (heading : ℕ)
      (status : ℤ) → HandleCall
  OpenPort : (now port : ℕ) (status : ℤ) → HandleCall
  ClosePort : (now port : ℕ) (status : ℤ) → HandleCall
  Restart : (now number : ℕ) (status : ℤ) → HandleCall
  Tick : (now jitter : ℕ) (room : List ℕ) (status : ℤ) (written : ℕ) (frame : List ℕ) → HandleCall
  SendShb : (now : ℕ) (request : ShbRequest) (payload room : List ℕ) (status : ℤ) (written : ℕ)
      (frame : List ℕ) → HandleCall
  SendShbWith : (now : ℕ) (request : ShbRequest) (options : ShbOptions) (payload room : List ℕ)
      (status : ℤ) (written : ℕ) (frame : List ℕ) → HandleCall
  SendToArea : (now : ℕ) (cast : AreaCast) (request : AreaRequest) (payload room : List ℕ)
      (status : ℤ) (written : ℕ) (frame : List ℕ) → HandleCall
  Receive : (now : ℕ) (octets room : List ℕ) (status : ℤ) (reception : Reception)
      (relay : List ℕ) → HandleCall
  ReceiveVerified : (now : ℕ) (octets plain room : List ℕ) (status : ℤ) (reception : Reception)
      (relay : List ℕ) → HandleCall
  Release : (now : ℕ) (room : List ℕ) (status : ℤ) (written : ℕ) (frame : List ℕ) → HandleCall
  Read : HandleCall

-- ---- what each call is

-- A call of the unit: how the library's answer `said` tells its step, what C is shown of the answer, how
-- it is counted, its status, and the call.
abbrev pub UnitRelation : Type 1
UnitRelation =
    (X E : Type 0) → (Result X E → UnitState → UnitStep → Type 0) → (Result X E → Type 0)
    → (Result X E → Counts → Counts) → (Result X E → ℤ) → ℤ → UnitCallAt → Type 0

-- A release at this time, into a buffer: its status, and what was written.
abbrev pub ReleaseRelation : Type 1
ReleaseRelation = ℕ → List ℕ → ℤ → ℕ → List ℕ → Type 0

-- how long a buffer has to be for a release: room for each frame of a plain packet, and for those that are
-- held
abbrev pub room_for : UnitModel → ℕ
room_for u = max (longest_in u.contention) 1468

-- a call with a buffer of at least this many octets: a shorter one is refused
pub record HasRoom (least : ℕ) (room : List ℕ) (status : ℤ) (Refuses Calls : Type 0) : Type 0 where
  pub short : length room < least → (status ≡ pos 21) × Refuses
  pub enough : least ≤ length room → Calls

-- a call whose arguments have ranges: it is refused if and only if they aren't in range
pub record HasRanges (AreInRange : Type 0) (status : ℤ) (Refuses Calls : Type 0) : Type 0 where
  pub refused : status ≡ pos 20 → ¬ AreInRange
  pub outside : status ≡ pos 20 → Refuses
  pub taken : status ≢ pos 20 → AreInRange
  pub inside : status ≢ pos 20 → Calls

-- a call of the unit at this time
abbrev pub at_time : ℕ → UnitCall → UnitCallAt
at_time now call = record { now = now; call = call }

-- a call that tells nothing but its status
abbrev pub DoesCall : UnitRelation → Answer Transmission → ℤ → UnitCallAt → Type 0
DoesCall Calls answer status call =
    Calls (Unit {0}) Refused (IsStepOf (SaysPassed (Says answer))) ShowsNothing counted_done
    status_in status call

-- a call that asks for a frame of its own
abbrev pub SendsCall : UnitRelation → (Result (Vec ℕ Global) Unsent → Counts → Counts) → ℤ → ℕ
    → List ℕ → UnitCallAt → Type 0
SendsCall Calls count status written frame call =
    Calls (Vec ℕ Global) Unsent IsSendOf (ShowsFrame written frame) count status_sent status call

-- What a call of C is: refused for its arguments or its buffer, one that only reads, a call of the unit,
-- or a release of it.
abbrev pub Means : HandleCall → Type 0 → Type 0 → UnitRelation → ReleaseRelation → Type 0
Means (HandleCall.Move now latitude longitude accurate speed heading status) Refuses Reads Calls Releases =
    HasRanges (AreForMove latitude longitude speed) status Refuses
    (DoesCall Calls model.Answer.Moved status (at_time now
    (UnitCall.Own (model.OwnCall.Move (place_of latitude longitude) (not (nat_eq accurate 0)) speed
    heading))))
Means (HandleCall.MoveAt now timestamp latitude longitude accurate speed heading status) Refuses
    Reads Calls Releases =
    HasRanges (AreForMove latitude longitude speed) status Refuses
    (DoesCall Calls model.Answer.Moved status (at_time now
    (UnitCall.MoveAt timestamp (place_of latitude longitude) (not (nat_eq accurate 0)) speed
    heading)))
Means (HandleCall.OpenPort now port status) Refuses Reads Calls Releases =
    DoesCall Calls model.Answer.Opened status (at_time now
    (UnitCall.Own (model.OwnCall.Open port)))
Means (HandleCall.ClosePort now port status) Refuses Reads Calls Releases =
    DoesCall Calls model.Answer.Closed status (at_time now
    (UnitCall.Own (model.OwnCall.Close port)))
Means (HandleCall.Restart now number status) Refuses Reads Calls Releases =
    DoesCall Calls model.Answer.Restarted status (at_time now
    (UnitCall.Own (model.OwnCall.Restart number)))
Means (HandleCall.Tick now jitter room status written frame) Refuses Reads Calls Releases =
    HasRoom 1468 room status (Refuses × (written ≡ 0))
    (Calls (Option (Vec ℕ Global)) Refused (IsStepOf (SaysPassed TellsTick))
    (ShowsBeacon written frame) counted_tick status_in status (at_time now
    (UnitCall.Own (model.OwnCall.Tick jitter))))
Means (HandleCall.SendShb now request payload room status written frame) Refuses Reads Calls Releases =
    HasRoom 1468 room status (Refuses × (written ≡ 0))
    (SendsCall Calls (counted_request kinds.Shb) status written frame (at_time now
    (UnitCall.Own (model.OwnCall.SendShb (shb_asked request payload)))))
Means (HandleCall.SendShbWith now request options payload room status written frame) Refuses Reads
    Calls Releases =
    HasRoom 1468 room status (Refuses × (written ≡ 0))
    (SendsCall Calls (counted_request kinds.Shb) status written frame (at_time now
    (UnitCall.SendShbFor (shb_options options) (shb_asked request payload))))
Means (HandleCall.SendToArea now cast request payload room status written frame) Refuses Reads
    Calls Releases =
    HasRoom 1468 room status (Refuses × (written ≡ 0))
    (HasRanges ((area : GeoArea) × IsAreaOf request area) status (Refuses × (written ≡ 0))
    ((area : GeoArea) × IsAreaOf request area ×
    SendsCall Calls (counted_request (kind_cast cast)) status written frame (at_time now
    (UnitCall.Own (area_call (kind_of_cast cast) (gbc_asked request area payload))))))
Means (HandleCall.Receive now octets room status reception relay) Refuses Reads Calls Releases =
    HasRoom 1468 room status (Refuses × (reception ≡ nothing_received))
    ((w : List ℕ) × IsUnpadded octets w × (call : Call) × IsFrameCall w call ×
    Calls Reaction Refused (IsReactionOf Tells)
    (ShowsReceived w (reception_in call) reception relay) counted_received status_in status
    (at_time now (UnitCall.Receive call)))
Means (HandleCall.ReceiveVerified now octets plain room status reception relay) Refuses Reads
    Calls Releases =
    HasRoom 2310 room status (Refuses × (reception ≡ nothing_received))
    ((call : VerifiedCall) × IsVerifiedCall octets plain call ×
    Calls Reaction Refused (IsReactionOf (TellsBy (sealed_by call)))
    (ShowsReceived plain (verified_reception_in call) reception relay) counted_received status_in
    status (at_time now (UnitCall.ReceiveVerified call)))
Means (HandleCall.Release now room status written frame) Refuses Reads Calls Releases =
    Releases now room status written frame
Means HandleCall.Read Refuses Reads Calls Releases = Reads

-- ---- what each export promises

-- The unit of the handle made this call, and C is told its step. Without memory nothing changes.
pub record UnitCalled (old new : Geostation) (X E : Type 0)
    (IsDone : Result X E → UnitState → UnitStep → Type 0) (Shows : Result X E → Type 0)
    (count : Result X E → Counts → Counts) (status_by : Result X E → ℤ) (status : ℤ)
    (call : UnitCallAt) : Type 0 where
  pub step : (u : UnitModel) → HoldsUnit old.held.unit u
      → IsTold IsDone Shows count status_by status old new (unit_step u call.now call.call)
  pub memory : status ≡ pos 5 → IsSame old new

-- The unit of the handle released a frame, if one was due: C is told the release, and the unit is the one
-- after it.
pub record IsToldRelease (status : ℤ) (written : ℕ) (frame : List ℕ) (old new : Geostation)
    (release : UnitRelease) : Type 0 where
  pub said : Result (Option (Vec ℕ Global)) Refused
  pub after : UnitState
  pub held : new.held.unit ≡ Some after
  pub done : IsReleaseOf said after release
  pub memory : said ≢ Err refused.NoMemory
  pub code : status ≡ status_in said
  pub shown : ShowsBeacon written frame said
  pub counts : counts_in new ≡ option_map (counted_release said) (counts_in old)

-- A release is refused for a buffer that is too short, and then nothing is done.
pub record UnitReleased (old new : Geostation) (now : ℕ) (room : List ℕ) (status : ℤ) (written : ℕ)
    (frame : List ℕ) : Type 0 where
  pub short : (u : UnitModel) → HoldsUnit old.held.unit u → length room < room_for u
      → (status ≡ pos 21) × (written ≡ 0) × (new.held.unit ≡ old.held.unit)
  pub enough : (u : UnitModel) → HoldsUnit old.held.unit u → room_for u ≤ length room
      → IsToldRelease status written frame old new (release_step u now)

-- What an export promises of this call, between two states of the handle. Each cites it (`step`).
abbrev pub CallStep : HandleCall → Geostation → Geostation → Type 0
CallStep c old new =
    Means c (new ≡ old) (new.held.unit ≡ old.held.unit) (UnitCalled old new) (UnitReleased old new)

-- these calls, one after the other, lead from one state of a handle to another
abbrev pub Leads : Geostation → List HandleCall → Geostation → Type 0
Leads old [] new = new ≡ old
Leads old (c ∷ calls) new =
    (between : Geostation) × CallStep c old between × Leads between calls new

-- ---- a run of the unit

-- a handle of the model: its unit, and its counts
pub record HandleModel : Type 0 where
  pub unit : UnitModel
  pub counts : Counts

-- the handle stands for this one of the model
pub record HoldsHandle (h : Geostation) (m : HandleModel) : Type 0 where
  pub unit : HoldsUnit h.held.unit m.unit
  pub counts : counts_in h ≡ Some m.counts

abbrev pub is_status : ℕ → ℤ → Bool
is_status code (pos n) = nat_eq n code
is_status code (negsuc n) = false

-- a call that the unit makes, if there was memory
abbrev pub made_if : ℤ → UnitCallAt → List UnitAct
made_if status call = if is_status 5 status then [] else UnitAct.Calls call ∷ []

-- C finds what this step of the unit says, and the answer is counted: `said` is the answer as the
-- library has it.
pub record UnitSteps (m : HandleModel) (made : List UnitAct) (counts : Counts) (X E : Type 0)
    (IsDone : Result X E → UnitState → UnitStep → Type 0) (Shows : Result X E → Type 0)
    (count : Result X E → Counts → Counts) (status_by : Result X E → ℤ) (status : ℤ)
    (call : UnitCallAt) : Type 0 where
  pub said : Result X E
  pub after : UnitState
  pub done : IsDone said after (unit_step m.unit call.now call.call)
  pub code : status ≡ status_by said
  pub shown : Shows said
  pub counted : counts ≡ count said m.counts
  pub makes : made ≡ made_if status call

-- C finds what this release of the unit says, and it is counted: `said` is the answer as the library has
-- it.
pub record ReleasesOnce (m : HandleModel) (made : List UnitAct) (counts : Counts) (now : ℕ)
    (status : ℤ) (written : ℕ) (frame : List ℕ) : Type 0 where
  pub said : Result (Option (Vec ℕ Global)) Refused
  pub after : UnitState
  pub done : IsReleaseOf said after (release_step m.unit now)
  pub code : status ≡ status_in said
  pub shown : ShowsBeacon written frame said
  pub counted : counts ≡ counted_release said m.counts
  pub makes : made ≡ UnitAct.Releases now ∷ []

-- the unit does nothing, and nothing is counted
abbrev pub MakesNone : HandleModel → List UnitAct → Counts → Type 0
MakesNone m made counts = (made ≡ []) × (counts ≡ m.counts)

-- a release, or none if the buffer is too short
pub record UnitReleases (m : HandleModel) (made : List UnitAct) (counts : Counts) (now : ℕ)
    (room : List ℕ) (status : ℤ) (written : ℕ) (frame : List ℕ) : Type 0 where
  pub short : length room < room_for m.unit
      → (status ≡ pos 21) × (written ≡ 0) × MakesNone m made counts
  pub enough : room_for m.unit ≤ length room
      → ReleasesOnce m made counts now status written frame

-- what C finds after a call of this handle of the model, the calls and releases that its unit makes, and
-- the counts afterwards
abbrev pub ModelStep : HandleModel → HandleCall → List UnitAct → Counts → Type 0
ModelStep m c made counts =
    Means c (MakesNone m made counts) (MakesNone m made counts) (UnitSteps m made counts)
    (UnitReleases m made counts)

-- Each call of C is a step of the unit after what the unit did before. These are all calls and releases
-- that the unit makes, and these the counts in the end.
abbrev pub IsRun : HandleModel → List HandleCall → List UnitAct → Counts → Type 0
IsRun m [] made counts = MakesNone m made counts
IsRun m (c ∷ calls) made counts =
    (first : List UnitAct) × (rest : List UnitAct) × (between : Counts)
    × ModelStep m c first between × (made ≡ first ++ rest)
    × IsRun (record { unit = unit_acts m.unit first; counts = between }) calls rest counts

-- In a handle's life each status, struct and buffer is the one of a run of the unit, and the handle
-- stands for the unit after that run.
pub record IsLife (m : HandleModel) (calls : List HandleCall) (new : Geostation) : Type 0 where
  pub made : List UnitAct
  pub counts : Counts
  pub run : IsRun m calls made counts
  pub holds : HoldsHandle new (record { unit = unit_acts m.unit made; counts = counts })

-- a unit of this station with these limits, which contends by this rule, or doesn't; no frame waits
abbrev pub new_unit : StationModel → Option ContentionRule → Governor → UnitModel
new_unit m rule governor =
    record { station = m; contention = option_map empty rule; governor = governor }

-- A new handle stands for a unit of this station with new limits, which contends by this rule, or doesn't;
-- no frame is held, and nothing is counted. All laws of a unit hold of that unit, and each life of the
-- handle is a run of it.
pub record HoldsNew (h : Geostation) (m : StationModel) (rule : Option ContentionRule)
    (limits : Limits) : Type 0 where
  pub governor : Governor
  pub limits_are : IsNewGovernor limits governor
  pub holds : HoldsHandle h (record { unit = new_unit m rule governor; counts = nothing })
  pub lawful : IsLawful limits (new_unit m rule governor)
  pub lives : (calls : List HandleCall) (new : Geostation) → Leads h calls new
      → IsLife (record { unit = new_unit m rule governor; counts = nothing }) calls new
