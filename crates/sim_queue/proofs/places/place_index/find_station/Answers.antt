use Rattle.std.proofs.Common.{sym}
use Rattle.sim_queue.proofs.Counts.{found_anywhere}
use Rattle.sim_queue.proofs.places.place_index.find_station.Goals as goal

pub returns-clause-found : goal.returns-clause-found
returns-clause-found c =
    found_anywhere c.args.order.now c.args.number c.place_in.result (sym c.place_in.ensures)
