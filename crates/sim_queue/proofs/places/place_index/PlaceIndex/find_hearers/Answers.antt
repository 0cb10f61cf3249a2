use Rattle.std.proofs.lemmas.List.Sorted.{IsNonDecreasingBy-from_sort}
use Rattle.sim_queue.proofs.Counts.{gathered}
use Rattle.sim_queue.proofs.places.place_index.PlaceIndex.find_hearers.Goals as goal

pub returns : goal.returns
returns c =
    gathered c.args.range c.args.giver c.args.place c.args.stations.now
    c.args.self.now.order.items c.gather_rows.new.found.items c.sort_unstable.new.self.items
    c.requires c.in_ok-gather_rows.ensures c.sort_unstable.ensures.permutation
    (IsNonDecreasingBy-from_sort (λ x. x) _ c.sort_unstable.ensures.sorted)
