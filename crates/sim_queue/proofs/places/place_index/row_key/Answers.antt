use Rattle.sim_queue.specs.PlaceIndexes.{row_key}
use Rattle.std.proofs.Common.{rules}
use Rattle.sim_queue.proofs.places.place_index.row_key.Goals as goal

pub returns-clause-value : goal.returns-clause-value
unfolding row_key
returns-clause-value c = search rules
