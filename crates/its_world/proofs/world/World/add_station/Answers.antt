use Rattle.std.proofs.Common.{◌≡◌, ◌<◌, List, [], ◌∷◌, ◌++◌, length, slice_get}
use Rattle.std.proofs.Common.{sym, ap, subst, ◌∙◌}
use Rattle.its_model.specs.World.{station_of}
use Rattle.its_station.specs.State.{StationState}
use Rattle.its_world.specs.State.{WorldState, RepresentsWorld, RepresentStations}
use Rattle.its_world.specs.Events.{config_of}
use Rattle.its_world.proofs.Late.{get_before}
use Rattle.its_world.proofs.Worlds.{station_last}
use Rattle.its_world.proofs.world.World.add_station.Goals as goal

pub returns-clause-added : goal.returns-clause-added
returns-clause-added c = λ w h. (
    let here = subst (λ (x : WorldState). RepresentsWorld x w) (sym c.self.view_is) h in
    let late = station_of (config_of c.args.config.now) in
    record {
      stations = subst (λ (xs : List StationState). RepresentStations xs (w.stations ++ late ∷ []))
          (sym c.in_ok-push.ensures.items)
          (station_last c.self.inside.stations.items w.stations c.in_ok-station.station late
          here.stations c.in_ok-station.ensures);
      released = here.released;
      frames = here.frames;
    })

pub returns-clause-others : goal.returns-clause-others
returns-clause-others c = λ number lt. (
    let before = c.self.inside.stations.items in
    let same : before ≡ c.args.self.now.stations =
    ap (λ (st : WorldState). st.stations) c.self.view_is in
    let within : number < length before =
    subst (λ (xs : List StationState). number < length xs) (sym same) lt in
    subst
    (λ (xs : List StationState). slice_get xs number ≡ slice_get c.args.self.now.stations number)
    (sym c.in_ok-push.ensures.items)
    (get_before before (c.in_ok-station.station ∷ []) number within
    ∙ ap (λ (xs : List StationState). slice_get xs number) same))
