use Rattle.std.proofs.Common.{◌≡◌, ◌<◌, ◌+◌, ◌-◌, ◌++◌, ◌∷◌, [], ℕ, List, Some, true, map, take}
use Rattle.std.proofs.Common.{length, sym, ap, ◌∙◌, subst, arith}
use Rattle.std.proofs.lemmas.List.{length-append}
use Rattle.std.proofs.lemmas.Bool.{ltb-true}
use Rattle.std.proofs.lemmas.List.Elements.{All-append, All-cons, All-nil}
use Rattle.its_model.specs.History.{Known}
use Rattle.its_model.specs.Stations.{stations_at, is_above}
use Rattle.its_model.proofs.StationLemmas.{stations_at-Rises}
use Rattle.its_loctable.specs.Pieces.{first_piece, neighbours_above, AreAllAbove}
use Rattle.its_loctable.proofs.NeighbourLemmas.{is_first, is_last, is_above-up}
use Rattle.its_loctable.proofs.PieceLemmas.{one_pushed, none_left}
use Rattle.its_loctable.proofs.store.LocationStore.next_neighbours.Goals as goal

pub returns-in_default-clause-next : goal.returns-in_default-clause-next
returns-in_default-clause-next g c = λ history rep.
    let all = stations_at (g.Self.LocationStore.remember c.args.self.now) c.args.now history in
    let v = c.loop.invariant in
    let none = is_last c.loop.after all (c.in_default.ensures.next history rep) in
    let a : c.loop.piece.addresses ≡ (first_piece (neighbours_above c.args.after all)).addresses =
    none_left (λ (k : Known). k.vector.address) c.loop.piece.addresses
    (first_piece (neighbours_above c.args.after all)).addresses (32 - c.loop.counter)
    (neighbours_above c.loop.after all) none (v.addresses history rep) in
    let p : c.loop.piece.places ≡ (first_piece (neighbours_above c.args.after all)).places =
    none_left (λ (k : Known). k.vector.place) c.loop.piece.places
    (first_piece (neighbours_above c.args.after all)).places (32 - c.loop.counter)
    (neighbours_above c.loop.after all) none (v.places history rep) in
    λ i. record { addresses = a i; places = p i }

pub loop-preserved : goal.loop-preserved
loop-preserved g c =
    let v = c.loop.invariant in
    let vector = c.in-Some.vector in
    let n = c.loop.counter in
    let room : n < 32 = c.loop-test.true in
    let same : c.address.result ≡ vector.address = c.address.ensures in
    let passes = λ (n : ℕ). is_above c.args.after n ≡ true in
    let here : is_above c.loop.after c.address-in-loop.result ≡ true =
    subst (λ (n : ℕ). is_above c.loop.after n ≡ true) (sym c.address-in-loop.ensures)
    c.in-Some.ensures.above in
    record {
      addresses_count = omega (
        arith,
        v.addresses_count,
        ap length c.push.ensures.addresses,
        length-append c.loop.piece.addresses (c.address-in-loop.result ∷ []),
      );
      places_count = omega (
        arith,
        v.places_count,
        ap length c.push.ensures.places,
        length-append c.loop.piece.places (c.place.result ∷ []),
      );
      addresses = λ history rep.
          let all = stations_at (g.Self.LocationStore.remember c.args.self.now) c.args.now history
          in
          let f = is_first c.loop.after all vector
          (stations_at-Rises (g.Self.LocationStore.remember c.args.self.now) c.args.now history)
          (c.in-Some.ensures.next history rep) in
          (λ i. c.push.ensures.addresses i ++ map (λ (k : Known). k.vector.address)
          (take (32 - (n + 1)) (neighbours_above (Some (same i)) all)))
          ∙ one_pushed (λ (k : Known). k.vector.address) c.loop.piece.addresses n
          c.address-in-loop.result f.k (neighbours_above (Some vector.address) all) room
          (c.address-in-loop.ensures ∙ sym (ap (λ w. w.address) f.vector))
          ∙ ap (λ l. c.loop.piece.addresses ++ map (λ (k : Known). k.vector.address)
          (take (32 - n) l)) (sym f.ahead)
          ∙ v.addresses history rep;
      places = λ history rep.
          let all = stations_at (g.Self.LocationStore.remember c.args.self.now) c.args.now history
          in
          let f = is_first c.loop.after all vector
          (stations_at-Rises (g.Self.LocationStore.remember c.args.self.now) c.args.now history)
          (c.in-Some.ensures.next history rep) in
          (λ i. c.push.ensures.places i ++ map (λ (k : Known). k.vector.place)
          (take (32 - (n + 1)) (neighbours_above (Some (same i)) all)))
          ∙ one_pushed (λ (k : Known). k.vector.place) c.loop.piece.places n
          c.place.result f.k (neighbours_above (Some vector.address) all) room
          (c.place.ensures ∙ sym (ap (λ w. w.place) f.vector))
          ∙ ap (λ l. c.loop.piece.places ++ map (λ (k : Known). k.vector.place)
          (take (32 - n) l)) (sym f.ahead)
          ∙ v.places history rep;
      above = subst (λ (l : List ℕ). AreAllAbove c.args.after l) (sym c.push.ensures.addresses)
          (All-append passes c.loop.piece.addresses (c.address-in-loop.result ∷ []) v.above
          (All-cons passes c.address-in-loop.result [] (v.higher c.address-in-loop.result here)
          (All-nil passes)));
      higher = λ m h.
          let lt : c.address.result < m = ltb-true _ _ h in
          v.higher m (is_above-up c.loop.after vector.address m c.in-Some.ensures.above
          (omega (arith, lt, same)));
    }
