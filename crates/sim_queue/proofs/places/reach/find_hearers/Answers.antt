use Rattle.std.proofs.Common.{◌≡◌, ◌+◌, ◌∷◌, [], ◌++◌, ℕ, List, Bool, cond, take, arith, sym}
use Rattle.std.proofs.Common.{ap, ◌∙◌, length-take}
use Rattle.std.proofs.lemmas.List.{take_more, append-nil}
use Rattle.its_gnvalue.specs.Values.{Position}
use Rattle.its_station.specs.State.{StationState}
use Rattle.sim_queue.specs.Reach.{hearers, hears}
use Rattle.sim_queue.proofs.Hearing.{numbers_more}
use Rattle.sim_queue.proofs.places.reach.find_hearers.Goals.{then-hears+in_ok-push, else-hears}
use Rattle.sim_queue.proofs.places.reach.find_hearers.Goals as goal

pub loop-number-preserved : goal.loop-number-preserved
loop-number-preserved c =
    let stations = c.args.stations.now in
    let n = c.loop-number.number in
    let st = c.index-stations-number.result in
    let range = c.args.range in
    let giver = c.args.giver in
    let place = c.args.place in
    let before = hearers range (take n stations) giver place in
    let heard : hears range giver place n st ≡ c.hears.result =
    ap (λ (p : Position). hears range giver p n st) (sym c.new-centre.ensures)
    ∙ sym c.hears.ensures in
    let more : hearers range (take (n + 1) stations) giver place
    ≡ before ++ cond (hears range giver place n st) (n ∷ []) [] =
    ap (λ (l : List StationState). hearers range l giver place)
    (take_more stations n st c.loop-number-test.true
    ∙ ap (λ (y : StationState). take n stations ++ y ∷ []) (sym c.index-stations-number.is))
    ∙ numbers_more (hears range giver place) 0 (take n stations) st n
    (omega (arith, length-take n stations, c.loop-number-test.true)) in
    let old = c.loop-number.invariant.found in
    elim c.if-hears.branch [
      | then-hears+in_ok-push w ↦ rw w.found-is (record {
        found = w.in_ok-push.ensures.items ∙ ap (λ (l : List ℕ). l ++ n ∷ []) old
            ∙ sym (more ∙ ap (λ (b : Bool). before ++ cond b (n ∷ []) [])
            (heard ∙ w.if-hears.true));
        centre = c.new-centre.ensures;
      })
      | else-hears w ↦ rw w.found-is (record {
        found = old ∙ sym (more ∙ ap (λ (b : Bool). before ++ cond b (n ∷ []) [])
            (heard ∙ w.if-hears.false) ∙ append-nil before);
        centre = c.new-centre.ensures;
      })
    ]
