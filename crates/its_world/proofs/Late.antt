-- A station that is added late was there from the beginning.
use Rattle.std.proofs.Common.{◌≡◌, ℕ, zero, suc, ◌<◌, List, [], ◌∷◌, ◌++◌, length, set, Option}
use Rattle.std.proofs.Common.{Some, None, All, refl, sym, ap, subst, ◌∙◌, arith, slice_get}
use Rattle.std.proofs.lemmas.List.{map-append, length-map}
use Rattle.std.proofs.lemmas.List.Elements.{All-head, All-tail}
use Rattle.its_model.specs.Packet.{Transmission}
use Rattle.its_model.specs.Station.{StationModel, Step, station_step}
use Rattle.its_model.specs.Calls.Call.{Own, Receive}
use Rattle.its_model.specs.World.{Config, Event, What, WorldModel, station_of, opening}
use Rattle.its_model.specs.World.{answered, delivery, asked, at_station, world_step, world_run}
use Rattle.its_model.specs.World.What.{Calls, Deliver}
use Rattle.its_model.proofs.Lists.{length_set}
use Rattle.its_world.specs.Late.{with_station}

-- what is at a place of a list is there in a longer one
pub get_before : {X : Type 0} (xs ys : List X) (k : ℕ) → k < length xs
    → slice_get (xs ++ ys) k ≡ slice_get xs k
get_before [] ys k lt = absurd (omega arith)
get_before (x ∷ xs) ys zero lt = refl
get_before (x ∷ xs) ys (suc k) lt = get_before xs ys k (omega arith)

-- a write at a place of a list is one in a longer one
pub set_before : {X : Type 0} (xs ys : List X) (k : ℕ) (y : X) → k < length xs
    → set (xs ++ ys) k y ≡ set xs k y ++ ys
set_before [] ys k y lt = absurd (omega arith)
set_before (x ∷ xs) ys zero y lt = refl
set_before (x ∷ xs) ys (suc k) y lt = ap (λ zs. x ∷ zs) (set_before xs ys k y (omega arith))

answered_late : (w : WorldModel) (c : Config) (e : Event) (given : Option Transmission) (step : Step)
    → e.station < length w.stations
    → answered (with_station w c) e given step ≡ with_station (answered w e given step) c
answered_late w c e given step lt =
    ap (λ (stations : List StationModel). record {
      stations = stations;
      air = (answered w e given step).air;
      log = (answered w e given step).log;
    }) (set_before w.stations (station_of c ∷ []) e.station step.station lt)

delivery_late : (w : WorldModel) (c : Config) (e : Event) (s : StationModel)
    (given : Option Transmission) → e.station < length w.stations
    → delivery (with_station w c) e s given ≡ with_station (delivery w e s given) c
delivery_late w c e s None lt = refl
delivery_late w c e s (Some t) lt =
    answered_late w c e (Some t) (station_step s e.moment (Receive t)) lt

asked_late : (w : WorldModel) (c : Config) (e : Event) (s : StationModel) (what : What)
    → e.station < length w.stations
    → asked (with_station w c) e s what ≡ with_station (asked w e s what) c
asked_late w c e s (Calls call) lt =
    answered_late w c e None (station_step s e.moment (Own call)) lt
asked_late w c e s (Deliver k) lt = delivery_late w c e s (slice_get w.air k) lt

at_late : (w : WorldModel) (c : Config) (e : Event) (s : Option StationModel)
    → e.station < length w.stations
    → at_station (with_station w c) e s ≡ with_station (at_station w e s) c
at_late w c e None lt = refl
at_late w c e (Some s) lt = asked_late w c e s e.what lt

-- one event of another station
pub step_late : (w : WorldModel) (c : Config) (e : Event) → e.station < length w.stations
    → world_step (with_station w c) e ≡ with_station (world_step w e) c
step_late w c e lt =
    ap (at_station (with_station w c) e) (get_before w.stations (station_of c ∷ []) e.station lt)
    ∙ at_late w c e (slice_get w.stations e.station) lt

length_delivery : (w : WorldModel) (e : Event) (s : StationModel) (given : Option Transmission)
    → length (delivery w e s given).stations ≡ length w.stations
length_delivery w e s None = refl
length_delivery w e s (Some t) =
    length_set w.stations e.station (station_step s e.moment (Receive t)).station

length_asked : (w : WorldModel) (e : Event) (s : StationModel) (what : What)
    → length (asked w e s what).stations ≡ length w.stations
length_asked w e s (Calls call) =
    length_set w.stations e.station (station_step s e.moment (Own call)).station
length_asked w e s (Deliver k) = length_delivery w e s (slice_get w.air k)

length_at : (w : WorldModel) (e : Event) (s : Option StationModel)
    → length (at_station w e s).stations ≡ length w.stations
length_at w e None = refl
length_at w e (Some s) = length_asked w e s e.what

-- an event adds no station
pub length_step : (w : WorldModel) (e : Event)
    → length (world_step w e).stations ≡ length w.stations
length_step w e = length_at w e (slice_get w.stations e.station)

-- events of other stations
pub run_late : (w : WorldModel) (c : Config) (events : List Event)
    → All (λ (e : Event). e.station < length w.stations) events
    → world_run (with_station w c) events ≡ with_station (world_run w events) c
run_late w c [] h = refl
run_late w c (e ∷ events) h =
    let here = All-head (λ (x : Event). x.station < length w.stations) e events h in
    let later = All-tail (λ (x : Event). x.station < length w.stations) e events h in
    ap (λ (x : WorldModel). world_run x events) (step_late w c e here)
    ∙ run_late (world_step w e) c events
    (subst (λ (n : ℕ). All (λ (x : Event). x.station < n) events) (sym (length_step w e)) later)

-- a world begins so
opening_late : (configs : List Config) (late : Config)
    → opening (configs ++ late ∷ []) ≡ with_station (opening configs) late
opening_late configs late =
    ap (λ (stations : List StationModel). record { stations = stations; air = []; log = [] })
    (map-append station_of configs (late ∷ []))

pub were_there : (configs : List Config) (late : Config) (events : List Event)
    → All (λ (e : Event). e.station < length configs) events
    → world_run (opening (configs ++ late ∷ [])) events
    ≡ with_station (world_run (opening configs) events) late
were_there configs late events h =
    ap (λ (x : WorldModel). world_run x events) (opening_late configs late)
    ∙ run_late (opening configs) late events
    (subst (λ (n : ℕ). All (λ (x : Event). x.station < n) events)
    (sym (length-map configs station_of)) h)
