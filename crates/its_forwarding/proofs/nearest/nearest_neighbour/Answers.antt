use Rattle.std.proofs.Common.{◌≡◌, ℕ, ◌<◌, List, Some, None, true, map, take, drop, length, get_or}
use Rattle.std.proofs.Common.{slice_get, ap, sym, subst, ◌∙◌, arith}
use Rattle.its_gnvalue.specs.Values.{Position}
use Rattle.its_geometry.specs.Nearest.{distances, IsMet}
use Rattle.its_model.specs.Stations.{stations_at, is_above}
use Rattle.its_model.proofs.StationLemmas.{stations_at-Rises}
use Rattle.its_loctable.specs.Pieces.{neighbours_above, Listed}
use Rattle.its_forwarding.proofs.Walk.{walk, walk-next_hop}
use Rattle.its_forwarding.proofs.Steps.{spot, piece-none, piece-some, left_behind, none_behind}
use Rattle.its_forwarding.proofs.Steps.{room-less, get_at}
use Rattle.its_forwarding.proofs.nearest.nearest_neighbour.Goals as goal
use Rattle.its_forwarding.proofs.nearest.nearest_neighbour.Goals.{in-Some, in_default}

pub walk-preserved : goal.walk-preserved
walk-preserved g c =
    record {
      centre = c.take_nearest.ensures.centre ∙ c.walk.invariant.centre;
      walked = λ history rep.
          let all = stations_at (g.S.LocationStore.remember c.args.store.now) c.args.now history in
          let ns = neighbours_above c.walk.after all in
          let here = c.args.centre.place in
          let low = c.walk.nearer.least in
          let next = c.take_nearest.new.self.least in
          let piece = c.next_neighbours.ensures.next history rep in
          let seen : c.places.result.now ≡ map spot (take 32 ns) =
          c.places.ensures.places ∙ ap (λ (p : Listed). p.places) piece in
          let step : walk here low c.walk.best ns
          ≡ walk here next c.match-take_nearest.best (drop 32 ns) =
          elim c.match-take_nearest.branch [
            | in-Some w ↦
                piece-some here low next c.walk.best ns w.in-Some.i w.index-addresses-i.result
                (subst (λ (l : List Position).
                IsMet low next (distances here l) (length l) (Some w.in-Some.i)) seen
                (subst (λ (p : Position).
                IsMet low next (distances p c.places.result.now) (length c.places.result.now)
                (Some w.in-Some.i)) c.walk.invariant.centre w.in-Some.ensures.nearest))
                (w.index-addresses-i.is
                ∙ ap (λ (l : List ℕ). get_or l w.in-Some.i w.index-addresses-i.result)
                (w.addresses.ensures ∙ ap (λ (p : Listed). p.addresses) piece))
                ∙ ap (λ o. walk here next o (drop 32 ns)) (sym w.best-is)
            | in_default w ↦
                piece-none here low next c.walk.best ns
                (subst (λ (l : List Position).
                IsMet low next (distances here l) (length l) None) seen
                (subst (λ (p : Position).
                IsMet low next (distances p c.places.result.now) (length c.places.result.now) None)
                c.walk.invariant.centre w.in_default.ensures.nearest))
                ∙ ap (λ o. walk here next o (drop 32 ns)) (sym w.best-is)
          ] in
          ap (walk here next c.match-take_nearest.best)
          (sym (left_behind c.walk.after all 31 c.in-Some-last.last
          (stations_at-Rises (g.S.LocationStore.remember c.args.store.now) c.args.now history)
          (ap (λ (p : Listed). slice_get p.addresses 31) (sym piece) ∙ c.in-Some-last.ensures.1)))
          ∙ sym step
          ∙ c.walk.invariant.walked history rep;
    }

pub walk-smaller : goal.walk-smaller
walk-smaller g c =
    let last = c.in-Some-last.last in
    room-less c.walk.after last
    (subst (λ (n : ℕ). is_above c.walk.after n ≡ true)
    (get_at c.next_neighbours.new.piece.addresses 31 last c.in-Some-last.ensures.1)
    (c.next_neighbours.ensures.above 31 last (omega (arith, c.in-Some-last.ensures.0))))
    c.as_u64-bits.ensures.fits

pub returns-in_default-last : goal.returns-in_default-last
returns-in_default-last g c = λ history rep.
    let all = stations_at (g.S.LocationStore.remember c.args.store.now) c.args.now history in
    let ns = neighbours_above c.walk.after all in
    let here = c.args.centre.place in
    let low = c.walk.nearer.least in
    let next = c.take_nearest.new.self.least in
    let piece = c.next_neighbours.ensures.next history rep in
    let seen : c.places.result.now ≡ map spot (take 32 ns) =
    c.places.ensures.places ∙ ap (λ (p : Listed). p.places) piece in
    let step : walk here low c.walk.best ns
    ≡ walk here next c.match-take_nearest.best (drop 32 ns) =
    elim c.match-take_nearest.branch [
      | in-Some w ↦
          piece-some here low next c.walk.best ns w.in-Some.i w.index-addresses-i.result
          (subst (λ (l : List Position).
          IsMet low next (distances here l) (length l) (Some w.in-Some.i)) seen
          (subst (λ (p : Position).
          IsMet low next (distances p c.places.result.now) (length c.places.result.now)
          (Some w.in-Some.i)) c.walk.invariant.centre w.in-Some.ensures.nearest))
          (w.index-addresses-i.is
          ∙ ap (λ (l : List ℕ). get_or l w.in-Some.i w.index-addresses-i.result)
          (w.addresses.ensures ∙ ap (λ (p : Listed). p.addresses) piece))
          ∙ ap (λ o. walk here next o (drop 32 ns)) (sym w.best-is)
      | in_default w ↦
          piece-none here low next c.walk.best ns
          (subst (λ (l : List Position).
          IsMet low next (distances here l) (length l) None) seen
          (subst (λ (p : Position).
          IsMet low next (distances p c.places.result.now) (length c.places.result.now) None)
          c.walk.invariant.centre w.in_default.ensures.nearest))
          ∙ ap (λ o. walk here next o (drop 32 ns)) (sym w.best-is)
    ] in
    sym (ap (walk here next c.match-take_nearest.best)
    (none_behind ns
    (subst (λ (p : Listed). length p.addresses < 32) piece c.in_default-last.ensures)))
    ∙ sym step
    ∙ c.walk.invariant.walked history rep
    ∙ walk-next_hop here c.args.limit all
