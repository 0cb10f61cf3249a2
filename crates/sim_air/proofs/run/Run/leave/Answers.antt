use Rattle.sim_air.proofs.run.Run.leave.Goals as goal

pub returns-clause-told : goal.returns-clause-told
returns-clause-told g c = λ events log took. c.in_ok-note.ensures events log took
