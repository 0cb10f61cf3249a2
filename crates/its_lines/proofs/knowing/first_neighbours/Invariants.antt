use Rattle.std.proofs.Common.{◌≡◌, ◌-◌}
use Rattle.its_model.specs.Station.{StationModel}
use Rattle.its_model.specs.Stations.{stations_at}
use Rattle.its_station.specs.State.{RepresentsStation}
use Rattle.its_lines.specs.Knowing.{told_to}
use Rattle.its_lines.proofs.Neighbours.{LeadsTo}
use Rattle.its_lines.proofs.knowing.first_neighbours.Given as goal

abbrev pub invariant-loop : goal.invariant-loop
invariant-loop l = record {
  leads : (m : StationModel) → RepresentsStation l.station m
      → LeadsTo l.fn.after (stations_at m.remember l.now m.history) (32 - l.counter) l.last
      l.vectors.items;
  last : told_to l.fn.after l.vectors.items ≡ l.last;
}
