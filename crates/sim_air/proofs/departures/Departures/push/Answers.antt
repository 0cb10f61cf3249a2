use Rattle.std.proofs.Common.{◌≤◌, ◌∷◌}
use Rattle.std.specs.BinaryHeap.{heap_items}
use Rattle.std.proofs.lemmas.List.Elements.{All-cons}
use Rattle.std.proofs.lemmas.List.Sorted.{All-permutation}
use Rattle.sim_air.specs.declared.departures.Departure.{Departure}
use Rattle.sim_air.proofs.departures.Departures.push.Goals as goal

pub returns : goal.returns
returns c =
    record {
      from = λ from le all.
          let item : Departure = record { moment = c.args.moment; station = c.args.station } in
          All-permutation (λ (d : Departure). from ≤ d.moment)
          (item ∷ heap_items c.args.self.now.waiting) (heap_items c.push.new.self)
          c.in_ok-push.ensures.permutation
          (All-cons (λ (d : Departure). from ≤ d.moment) item
          (heap_items c.args.self.now.waiting) le all);
    }
