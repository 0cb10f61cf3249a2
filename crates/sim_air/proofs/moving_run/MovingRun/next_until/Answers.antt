use Rattle.sim_air.proofs.Outside.{from_turn, next_is, next_turn}
use Rattle.sim_air.proofs.moving_run.MovingRun.next_until.Goals as goal

pub returns-then-next-end-clause-next : goal.returns-then-next-end-clause-next
returns-then-next-end-clause-next c =
    let m = c.args.self.now in
    let R = c.next_row in
    let D = c.next_departure in
    let E = c.next_event in
    let one = c.first_of in
    let two = c.first_of-2 in
    let next = c.in_ok-next.next in
    let turn = next_turn m R.result D.result one.result E.result two.result next c.in_ok-next.was
    R.ensures.some R.ensures.none R.ensures.class D.ensures.some D.ensures.none D.ensures.class
    E.ensures.some E.ensures.none E.ensures.class one.ensures.former_turn one.ensures.latter_turn
    one.ensures.none two.ensures.former_turn two.ensures.latter_turn in
    record {
      is = next_is m R.result D.result one.result E.result two.result next c.in_ok-next.was
          R.ensures.some D.ensures.some E.ensures.some one.ensures.one two.ensures.one;
      first = from_turn m next turn;
      turn = turn;
    }
