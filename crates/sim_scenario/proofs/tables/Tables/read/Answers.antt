use Rattle.std.proofs.Common.{◌≡◌, Bool, is_some, subst, ◌∙◌}
use Rattle.sim_scenario.proofs.Contending.{contend_said, is_some_air}
use Rattle.sim_scenario.specs.Scenarios.{SaysPresence, air_in, parts_in}
use Rattle.sim_settings.specs.Items.{SayItems}
use Rattle.toml.specs.View.{items_view}
use Rattle.sim_scenario.proofs.tables.Tables.read.Goals as goal

-- each part of the scenario is as its tables say
pub returns-clause-says : goal.returns-clause-says
returns-clause-says c =
    let items = items_view c.args.self.stations.now in
    let read = c.in_ok-stations.field-0 in
    let there : c.is_some.result ≡ is_some (air_in c.args.self.air) =
    c.is_some.ensures ∙ is_some_air c.args.self.air in
    record {
      stations = c.in_ok-stations.ensures.says;
      present =
          subst (λ (has : Bool). SayItems (SaysPresence has) items read.present.items) there
          c.in_ok-stations.ensures.presence;
      contend =
          contend_said (parts_in c.args.self) c.in_ok-timeline.timeline c.is_some.result
          c.usual_contention.result c.as_slice-2.result.now read.contend.items
          c.in_ok-contend.contend.items there c.in_ok-timeline.ensures.says
          c.usual_contention.ensures c.in_ok-stations.ensures.contention
          c.as_slice-2.ensures.value c.in_ok-contend.ensures.all;
      timeline = c.in_ok-timeline.ensures.says;
      expectations = c.in_ok-expectations.ensures.says;
    }
