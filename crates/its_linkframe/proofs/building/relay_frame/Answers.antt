use Rattle.its_linkframe.proofs.building.relay_frame.Goals as goal

pub returns : goal.returns
returns c = c.write_relayed.ensures
