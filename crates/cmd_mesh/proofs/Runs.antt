-- Events of a mesh, run one after the other.
use Rattle.std.proofs.Common.{◌≡◌, ℕ, Bool, false, ◌||◌, ◌&&◌, List, [], ◌∷◌, ◌++◌, map, Option}
use Rattle.std.proofs.Common.{None, Some}
use Rattle.std.proofs.Common.{length, refl, sym, ap, subst, ◌∙◌, inl, inr, append_assoc}
use Rattle.std.specs.Prelude.{max, slice_get, IsSomeAnd, Result, Ok, Err, OnErr}
use Rattle.std.proofs.lemmas.List.{append-nil, map-append, length-map}
use Rattle.its_model.specs.Calls as model
use Rattle.its_model.specs.Calls.{OwnCall}
use Rattle.its_model.specs.Station.{StationModel}
use Rattle.its_model.specs.World as world
use Rattle.its_station.specs.declared.call.Call.{Call}
use Rattle.its_station.specs.declared.call.Call.TheVariants as calls
use Rattle.its_station.specs.declared.call.OwnCall.{OwnCall as CodeOwnCall}
use Rattle.its_station.specs.Runs.{IsCall, own_of}
use Rattle.its_station.specs.State.{StationState}
use Rattle.its_world.specs.declared.event.Event.{Event}
use Rattle.its_world.specs.declared.event.What.{What}
use Rattle.its_world.specs.declared.event.What.TheVariants as whats
use Rattle.its_world.specs.Events.{event_of, what_of}
use Rattle.its_world.specs.State.{RepresentStations}
use Rattle.cmd_mesh.specs.Calls.{MeshCall, HasMade, HasReceived, HasRun, HasBegun, own_calls}
use Rattle.cmd_mesh.specs.Calls.{file_calls, calls_in, mesh_run, greatest, AreInTime, any_refused}
use Rattle.cmd_mesh.specs.Calls.{IsMeshRun}
use Rattle.cmd_mesh.specs.Statuses.{mesh_status}
use Rattle.cmd_reporting.specs.declared.status.Status.{Status}
use Rattle.cmd_mesh.specs.Stations.{IsNoted, IsCutShort}
use Rattle.cmd_mesh.proofs.Calls.{own-append, greatest-append, greatest_came}
use Rattle.cmd_mesh.proofs.Calls.{file-append, file_more}
use Rattle.cmd_mesh.proofs.Stations.{none_made, more_made, own_made, at_station}

-- the calls of these events were made, and this is the greatest moment now
pub record RunsTo (models : List StationModel) (moment : ℕ) (was : Bool) (events : List Event)
    (stations : List StationState) (has : Bool) (now : ℕ) : Type 0 where
  pub calls : List MeshCall
  pub of_file : own_calls calls ≡ file_calls (map event_of events)
  pub made : HasMade models moment was calls stations has
  pub at : now ≡ greatest moment calls

-- no event
pub run_none : (models : List StationModel) (moment : ℕ) (was : Bool)
    (stations : List StationState) → RepresentStations stations models
    → RunsTo models moment was [] stations was moment
run_none models moment was stations represent =
    record {
      calls = [];
      of_file = refl;
      made = none_made models moment was was stations represent refl;
      at = refl;
    }

-- the calls of the events so far, and of one more
more_calls : (events : List Event) (e : Event)
    → file_calls (map event_of (events ++ e ∷ []))
    ≡ file_calls (map event_of events) ++ calls_in (event_of e) (what_of e.what)
more_calls events e =
    ap file_calls (map-append event_of events (e ∷ []))
    ∙ file_more (map event_of events) (event_of e)

-- what an event asks for
pub record IsAsked (e : Event) (call : Call) : Type 0 where
  pub own : OwnCall
  pub what : what_of e.what ≡ world.What.Calls own
  pub is : IsCall call (model.Call.Own own)

-- an event with a call
pub one_asked : (e : Event) (own : CodeOwnCall) → e.what ≡ whats.Call own
    → IsAsked e (calls.Own own)
one_asked e own is = record { own = own_of own; what = ap what_of is; is = refl }

-- an event without one
pub none_asked : (e : Event) (frame : ℕ) → e.what ≡ whats.Deliver frame
    → calls_in (event_of e) (what_of e.what) ≡ []
none_asked e frame is = ap (λ (what : What). calls_in (event_of e) (what_of what)) is

-- one that delivers a frame is passed over
pub run_passed : (models : List StationModel) (moment : ℕ) (was : Bool) (events : List Event)
    (stations : List StationState) (has : Bool) (now : ℕ) (e : Event)
    → calls_in (event_of e) (what_of e.what) ≡ []
    → RunsTo models moment was events stations has now
    → RunsTo models moment was (events ++ e ∷ []) stations has now
run_passed models moment was events stations has now e none run =
    record {
      calls = run.calls;
      of_file = run.of_file ∙ sym (more_calls events e
          ∙ ap (λ (l : List MeshCall). file_calls (map event_of events) ++ l) none
          ∙ append-nil (file_calls (map event_of events)));
      made = run.made;
      at = run.at;
    }

-- the call of one more was made
pub run_called : (models : List StationModel) (moment : ℕ) (was : Bool) (events : List Event)
    (middle new : List StationState) (between has : Bool) (now : ℕ) (e : Event) (call : Call)
    (run : RunsTo models moment was events middle between now) → IsAsked e call
    → IsNoted middle (slice_get (mesh_run models run.calls) e.station) e.station e.moment call
    between new has
    → RunsTo models moment was (events ++ e ∷ []) new has (max now e.moment)
run_called models moment was events middle new between has now e call run asked noted =
    let c = at_station e.station e.moment (model.Call.Own asked.own) in
    let one = own_made middle new (mesh_run models run.calls) e.station e.moment call asked.own
    (greatest moment run.calls) between has run.made.stand asked.is noted in
    record {
      calls = run.calls ++ c ∷ [];
      of_file = own-append run.calls (c ∷ [])
          ∙ ap (λ (l : List MeshCall). l ++ c ∷ []) run.of_file
          ∙ sym (more_calls events e
          ∙ ap (λ (what : world.What). file_calls (map event_of events)
          ++ calls_in (event_of e) what) asked.what);
      made = more_made models moment was between has run.calls (c ∷ []) middle new run.made one;
      at = ap (λ (n : ℕ). max n e.moment) run.at ∙ sym (greatest-append moment run.calls (c ∷ []));
    }

-- and then came what came by sockets
pub run_came : (models : List StationModel) (moment : ℕ) (was : Bool) (events : List Event)
    (middle new : List StationState) (between has : Bool) (now : ℕ)
    → RunsTo models moment was events middle between now
    → ((ms : List StationModel) → RepresentStations middle ms
    → HasReceived ms now between new has)
    → RunsTo models moment was events new has now
run_came models moment was events middle new between has now run came =
    let all = mesh_run models run.calls in
    let more = came all run.made.stand in
    let high = greatest moment run.calls in
    let later : HasMade all high between more.0 new has =
    subst (λ (n : ℕ). HasMade all n between more.0 new has) run.at more.2 in
    record {
      calls = run.calls ++ more.0;
      of_file = own-append run.calls more.0
          ∙ ap (λ (l : List MeshCall). own_calls run.calls ++ l) more.1
          ∙ append-nil (own_calls run.calls) ∙ run.of_file;
      made = more_made models moment was between has run.calls more.0 middle new run.made later;
      at = run.at ∙ sym (greatest-append moment run.calls more.0
          ∙ greatest_came (length all) high more.0 more.1 later.in_time);
    }

-- all of them were run
pub run_whole : (models : List StationModel) (moment : ℕ) (was : Bool) (events all : List Event)
    (stations : List StationState) (has : Bool) (now : ℕ) → events ≡ all
    → RunsTo models moment was events stations has now
    → HasRun (map event_of all) models moment was stations has
run_whole models moment was events all stations has now same run =
    (run.calls, run.of_file ∙ ap (λ (l : List Event). file_calls (map event_of l)) same, run.made)

-- some first ones were
pub run_begun : (models : List StationModel) (moment : ℕ) (was : Bool)
    (events left all : List Event) (stations : List StationState) (has : Bool) (now : ℕ)
    → events ++ left ≡ all → RunsTo models moment was events stations has now
    → HasBegun (map event_of all) models moment was stations has
run_begun models moment was events left all stations has now same run =
    let rest = file_calls (map event_of left) in (
      run.calls,
      rest,
      ap (λ (l : List MeshCall). l ++ rest) run.of_file
          ∙ sym (file-append (map event_of events) (map event_of left))
          ∙ ap file_calls (sym (map-append event_of events left))
          ∙ ap (λ (l : List Event). file_calls (map event_of l)) same,
      run.made,
    )

-- the call of one more was cut short
pub run_cut : (models : List StationModel) (moment : ℕ) (was : Bool)
    (events left all : List Event) (middle new : List StationState) (between has : Bool) (now : ℕ)
    (e : Event) (call : Call) → events ++ e ∷ left ≡ all
    → (run : RunsTo models moment was events middle between now) → IsAsked e call
    → IsCutShort middle (mesh_run models run.calls)
    (slice_get (mesh_run models run.calls) e.station) e.station e.moment call between new has
    → HasBegun (map event_of all) models moment was new has
run_cut models moment was events left all middle new between has now e call same run asked cut =
    elim cut [
      | inl unmade ↦ run_begun models moment was events (e ∷ left) all new has now same
          (record {
            calls = run.calls;
            of_file = run.of_file;
            made = record {
              stand = unmade.0;
              refused = unmade.1 ∙ run.made.refused;
              in_time = run.made.in_time;
            };
            at = run.at;
          })
      | inr noted ↦ run_begun models moment was (events ++ e ∷ []) left all new has
          (max now e.moment) (append_assoc events (e ∷ []) left ∙ same)
          (run_called models moment was events middle new between has now e call run asked noted)
    ]

-- what holds whatever was answered holds where it is an `Err`
pub on_err : {T E P : Type 0} (result : Result T E) → P → OnErr result P
on_err (Ok x) h = tt
on_err (Err e) h = h

-- how a mesh of these configs ends that ran these events
pub run_ends : (configs : List world.Config) (events : List world.Event)
    (strict failed was has : Bool) (moment : ℕ) (stations : List StationState) (status : Status)
    → HasRun events (world.opening configs).stations moment was stations has → moment ≡ 0
    → was ≡ false → status ≡ mesh_status failed (strict && has)
    → IsMeshRun configs events strict status
run_ends configs events strict failed was has moment stations status run start none is =
    let models = (world.opening configs).stations in
    let refused : has ≡ any_refused models run.0 =
    run.2.refused ∙ ap (λ (b : Bool). b || any_refused models run.0) none in
    record {
      calls = run.0;
      of_file = run.1;
      in_time = subst (λ (n : ℕ). AreInTime n 0 run.0) (length-map configs world.station_of)
          (subst (λ (n : ℕ). AreInTime (length models) n run.0) start run.2.in_time);
      failed = failed;
      ends = is ∙ ap (λ (b : Bool). mesh_status failed (strict && b)) refused;
    }
