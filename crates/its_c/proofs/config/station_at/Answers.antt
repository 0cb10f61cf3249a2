use Rattle.std.proofs.Common.{rules}
use Rattle.std.specs.Prelude.{not, nat_eq}
use Rattle.its_model.specs.Calls.{Own, Restarted}
use Rattle.its_model.specs.Calls.OwnCall.{Restart}
use Rattle.its_model.specs.Station.{StationModel, new_station, own_step, station_step}
use Rattle.its_station.specs.State.{RepresentsStation}
use Rattle.its_station.specs.Steps.{Says}
use Rattle.its_c.proofs.Restarts.{station_after}
use Rattle.its_c.proofs.config.station_at.Goals as goal

pub returns : goal.returns
unfolding own_step
returns c =
    let config = c.args.config.now in
    let fresh : StationModel =
    new_station c.args.address c.args.place config.capacity config.remember in
    let mobile : StationModel = record fresh { mobile = not (nat_eq config.mobile 0) } in
    let made : RepresentsStation c.in_ok-station.station fresh = search rules in
    let told : RepresentsStation c.set_mobile.new.self mobile =
    c.set_mobile.ensures.represents fresh made in
    station_after (Says Restarted) c.restart-done.result c.restart-done.new.self
    (station_step mobile 0 (Own (Restart config.number))) c.restart-done.ensures.memory
    (c.restart-done.ensures.step mobile told)
