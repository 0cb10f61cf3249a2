use Rattle.std.proofs.Common.{ap, sym, ◌∙◌, Some}
use Rattle.its_model.specs.Calls.{GbcRequest}
use Rattle.its_model.specs.Calls.OwnCall.{SendGbc, SendGac}
use Rattle.its_model.specs.World.{What}
use Rattle.its_model.specs.World.What.{Calls}
use Rattle.sim_scenario.specs.Actions.{what_at}
use Rattle.sim_scenario.specs.declared.events.action.Action.{Action}
use Rattle.sim_scenario.proofs.events.action.Action.copy.Goals.{
  in-Happens+in_ok-copy_of-in-Happens,
  in-GeobroadcastAround+in_ok-copy-in-GeobroadcastAround,
  in-GeoanycastAround+in_ok-copy-in-GeoanycastAround,
  in-Leaves,
}
use Rattle.sim_scenario.proofs.events.action.Action.copy.Goals as goal

pub returns-clause-same : goal.returns-clause-same
returns-clause-same c = λ place.
    elim c.match-self.branch [
      | in-Happens+in_ok-copy_of-in-Happens w ↦
          ap (λ (a : Action). what_at a place) w.result-is
          ∙ ap (λ (x : What). Some x) w.in_ok-copy_of-in-Happens.ensures.what
          ∙ sym (ap (λ (a : Action). what_at a place) w.in-Happens.is)
      | in-GeobroadcastAround+in_ok-copy-in-GeobroadcastAround w ↦
          ap (λ (a : Action). what_at a place) w.result-is
          ∙ ap (λ (r : GbcRequest). Some (Calls (SendGbc r)))
          (w.in_ok-copy-in-GeobroadcastAround.ensures place)
          ∙ sym (ap (λ (a : Action). what_at a place) w.in-GeobroadcastAround.is)
      | in-GeoanycastAround+in_ok-copy-in-GeoanycastAround w ↦
          ap (λ (a : Action). what_at a place) w.result-is
          ∙ ap (λ (r : GbcRequest). Some (Calls (SendGac r)))
          (w.in_ok-copy-in-GeoanycastAround.ensures place)
          ∙ sym (ap (λ (a : Action). what_at a place) w.in-GeoanycastAround.is)
      | in-Leaves w ↦
          ap (λ (a : Action). what_at a place) w.result-is
          ∙ sym (ap (λ (a : Action). what_at a place) w.in-Leaves.is)
    ]
