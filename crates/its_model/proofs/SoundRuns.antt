-- Every run leaves a sound world.
use Rattle.std.proofs.Common.{◌≡◌, ℕ, zero, suc, List, [], ◌∷◌, map, length, Option, Some, None}
use Rattle.std.proofs.Common.{refl, sym, ap, subst}
use Rattle.std.specs.Prelude.{slice_get}
use Rattle.its_model.specs.Packet.{Transmission}
use Rattle.its_model.specs.Calls.Refusal.{NoSuchFrame, NoSuchStation}
use Rattle.its_model.specs.Station.{StationModel, own_step, receive_step}
use Rattle.its_model.specs.World.{Config, Event, What, WorldModel, asked, at_station, delivery}
use Rattle.its_model.specs.World.{opening, station_of, world_run, world_step}
use Rattle.its_model.specs.World.What.{Calls, Deliver}
use Rattle.its_model.specs.Log.{origins}
use Rattle.its_model.proofs.Sound.{StationSound, Fits, Sound}
use Rattle.its_model.proofs.Keeps.{answered_keeps, passed_keeps}
use Rattle.its_model.proofs.Fits.{own_fits, receive_fits}

-- a delivery
delivery_keeps : (o : Option Transmission) (configs : List Config) (w : WorldModel) (e : Event)
    (k : ℕ) (s : StationModel)
    → slice_get w.stations e.station ≡ Some s → e.what ≡ Deliver k → slice_get w.air k ≡ o
    → Sound configs w → Sound configs (delivery w e s o)
delivery_keeps None configs w e k s at is atk h = passed_keeps configs w e NoSuchFrame h
delivery_keeps (Some t) configs w e k s at is atk h =
    let step = receive_step s e.moment t in
    answered_keeps configs w e s (Some t) step at
    (subst (λ (x : What). Fits configs w e x s (Some t) step) (sym is)
    (receive_fits configs w e k s t h (h.each e.station s at) atk is)) h

-- a call or a delivery
asked_keeps : (what : What) (configs : List Config) (w : WorldModel) (e : Event) (s : StationModel)
    → slice_get w.stations e.station ≡ Some s → e.what ≡ what → Sound configs w
    → Sound configs (asked w e s what)
asked_keeps (Calls call) configs w e s at is h =
    let step = own_step s e.moment call in
    answered_keeps configs w e s None step at
    (subst (λ (x : What). Fits configs w e x s None step) (sym is)
    (own_fits call configs w e s h (h.each e.station s at) is)) h
asked_keeps (Deliver k) configs w e s at is h =
    delivery_keeps (slice_get w.air k) configs w e k s at is refl h

-- an event at a station, if there is such a one
at_station_keeps : (o : Option StationModel) (configs : List Config) (w : WorldModel) (e : Event)
    → slice_get w.stations e.station ≡ o → Sound configs w → Sound configs (at_station w e o)
at_station_keeps None configs w e at h = passed_keeps configs w e NoSuchStation h
at_station_keeps (Some s) configs w e at h = asked_keeps e.what configs w e s at refl h

-- an event
pub step_keeps : (configs : List Config) (w : WorldModel) (e : Event) → Sound configs w
    → Sound configs (world_step w e)
step_keeps configs w e h = at_station_keeps (slice_get w.stations e.station) configs w e refl h

-- a run
pub run_keeps : (configs : List Config) (es : List Event) (w : WorldModel) → Sound configs w
    → Sound configs (world_run w es)
run_keeps configs [] w h = h
run_keeps configs (e ∷ es) w h = run_keeps configs es (world_step w e) (step_keeps configs w e h)

-- there are as many stations as configs
length_opening : (cs : List Config) → length (map station_of cs) ≡ length cs
length_opening [] = refl
length_opening (c ∷ cs) = ap suc (length_opening cs)

-- each station is that of its config
get_opening : (cs : List Config) (j : ℕ) (s : StationModel)
    → slice_get (map station_of cs) j ≡ Some s
    → (c : Config) × (slice_get cs j ≡ Some c) × (station_of c ≡ s)
get_opening [] j s h = cc
get_opening (c ∷ cs) zero s h = (c, refl, cc)
get_opening (c ∷ cs) (suc j) s h = get_opening cs j s h

-- the opening world
pub opening_sound : (configs : List Config) → Sound configs (opening configs)
unfolding origins
opening_sound configs =
    record {
      count = length_opening configs;
      each = λ j s at. (let g = get_opening configs j s at in
          subst (λ (x : StationModel). StationSound configs [] j x) g.2
          (record {
            config = g.0;
            is_config = g.1;
            address = refl;
            capacity = refl;
            remember = refl;
            mobile = refl;
            source = refl;
            place = refl;
            number = refl;
            history = refl;
          }));
      frames = record { even = refl; each = λ k t at. cc; same = λ k m t u o p a b c d e. cc };
      lines = tt;
      names = tt;
    }

-- every run
pub run_sound : (configs : List Config) (es : List Event)
    → Sound configs (world_run (opening configs) es)
run_sound configs es = run_keeps configs es (opening configs) (opening_sound configs)
