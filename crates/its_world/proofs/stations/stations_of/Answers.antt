use Rattle.std.proofs.Common.{◌≡◌, ◌+◌, List, map, take, ◌++◌, ◌∷◌, [], sym, ap, subst, ◌∙◌}
use Rattle.std.proofs.lemmas.List.{take_more, map-append}
use Rattle.its_model.specs.Station.{StationModel}
use Rattle.its_model.specs.World.{station_of}
use Rattle.its_station.specs.State.{StationState}
use Rattle.its_world.specs.declared.config.Config.{Config}
use Rattle.its_world.specs.State.{RepresentStations}
use Rattle.its_world.specs.Events.{config_of}
use Rattle.its_world.proofs.Worlds.{station_last}
use Rattle.its_world.proofs.stations.stations_of.Goals as goal

pub loop-config-preserved : goal.loop-config-preserved
loop-config-preserved c =
    let i = c.loop-config.config-index in
    let configs = c.args.configs.now in
    let x = c.config-item.result in
    let front : map station_of (map config_of (take (i + 1) configs))
    ≡ map station_of (map config_of (take i configs)) ++ station_of (config_of x) ∷ [] =
    ap (λ (l : List Config). map station_of (map config_of l))
    (take_more configs i x c.loop-config-test.true
    ∙ ap (λ (y : Config). take i configs ++ y ∷ []) (sym c.config-item.is))
    ∙ ap (map station_of) (map-append config_of (take i configs) (x ∷ []))
    ∙ map-append station_of (map config_of (take i configs)) (config_of x ∷ []) in
    subst (λ (l : List StationModel). RepresentStations c.push.new.self.items l) (sym front)
    (subst (λ (l : List StationState).
    RepresentStations l (map station_of (map config_of (take i configs))
    ++ station_of (config_of x) ∷ [])) (sym c.in_ok-push.ensures.items)
    (station_last c.loop-config.stations.items
    (map station_of (map config_of (take i configs))) c.in_ok-station.station
    (station_of (config_of x)) c.loop-config.invariant c.in_ok-station.ensures))
