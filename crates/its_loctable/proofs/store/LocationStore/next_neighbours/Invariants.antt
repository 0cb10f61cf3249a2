use Rattle.std.proofs.Common.{◌≡◌, ◌-◌, ◌++◌, ℕ, List, map, take, length, true}
use Rattle.its_model.specs.History.{Reception, Known}
use Rattle.its_model.specs.Stations.{stations_at, is_above}
use Rattle.its_loctable.specs.Content.{Represents}
use Rattle.its_loctable.specs.Pieces.{neighbours_above, AreAllAbove}
use Rattle.its_loctable.proofs.store.LocationStore.next_neighbours.Given as goal

abbrev pub invariant-loop : goal.invariant-loop
invariant-loop g l = record {
  addresses_count : length l.piece.addresses ≡ l.counter;
  places_count : length l.piece.places ≡ l.counter;
  addresses : (history : List Reception)
      → Represents (g.Self.LocationStore.remember l.self)
      (g.Self.LocationStore.content l.self) history l.now
      → l.piece.addresses ++ map (λ (k : Known). k.vector.address)
      (take (32 - l.counter)
      (neighbours_above l.after (stations_at (g.Self.LocationStore.remember l.self) l.now history)))
      ≡ map (λ (k : Known). k.vector.address)
      (take 32 (neighbours_above l.fn.after
      (stations_at (g.Self.LocationStore.remember l.self) l.now history)));
  places : (history : List Reception)
      → Represents (g.Self.LocationStore.remember l.self)
      (g.Self.LocationStore.content l.self) history l.now
      → l.piece.places ++ map (λ (k : Known). k.vector.place)
      (take (32 - l.counter)
      (neighbours_above l.after (stations_at (g.Self.LocationStore.remember l.self) l.now history)))
      ≡ map (λ (k : Known). k.vector.place)
      (take 32 (neighbours_above l.fn.after
      (stations_at (g.Self.LocationStore.remember l.self) l.now history)));
  above : AreAllAbove l.fn.after l.piece.addresses;
  higher : (n : ℕ) → is_above l.after n ≡ true → is_above l.fn.after n ≡ true;
}
