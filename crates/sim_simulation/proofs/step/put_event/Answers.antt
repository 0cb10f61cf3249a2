use Rattle.std.proofs.Common.{[], ◌∷◌, ◌++◌, subst}
use Rattle.std.specs.Prelude.{OnOk}
use Rattle.its_model.specs.World.{Event}
use Rattle.its_world.specs.Entries.{Entry}
use Rattle.sim_simulation.specs.Records.{happening_in}
use Rattle.sim_simulation.proofs.step.put_event.Goals as goal

-- the record is of this event and of this entry
pub returns : goal.returns
returns g c = λ events log took.
    let done = c.of.result in
    let sink = c.put.new.self in
    subst (λ (x : Event). OnOk c.put.result (g.S.EventSink.Took sink (events ++ x ∷ [])
    (log ++ c.args.entry.now ∷ [])))
    c.of.ensures.event
    (subst (λ (x : Entry). OnOk c.put.result (g.S.EventSink.Took sink
    (events ++ happening_in done ∷ []) (log ++ x ∷ [])))
    c.of.ensures.entry (c.put.ensures events log took))
