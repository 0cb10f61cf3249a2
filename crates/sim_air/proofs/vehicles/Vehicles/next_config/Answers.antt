use Rattle.sim_air.proofs.vehicles.Vehicles.next_config.Goals as goal

pub returns : goal.returns
returns c =
    let moves = c.args.self.now.moves.now in
    (moves.room, moves.most_room, moves.remembers, moves.most_remembered)
