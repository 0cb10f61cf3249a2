use Rattle.std.proofs.Common.{◌+◌, ◌<◌, ℕ, List, rules, arith, All, length, take, sym, subst}
use Rattle.std.proofs.lemmas.List.Elements.{All-push}
use Rattle.its_words.specs.Fields.{FieldValues}
use Rattle.sim_settings.specs.Tables.{table_values}
use Rattle.sim_settings.proofs.Items.{say_more}
use Rattle.sim_scenario.specs.Saying.{SaysStation}
use Rattle.sim_settings.specs.Items.{SayItems}
use Rattle.sim_scenario.specs.Scenarios.{SaysOwnContention, SaysPresence}
use Rattle.sim_scenario.proofs.stations.read_stations.Goals as goal
use Rattle.its_world.specs.Events.{IsConfig}
use Rattle.its_world.specs.declared.config.Config.{Config}
use Rattle.toml.specs.Data.{Members}
use Rattle.toml.specs.View.{items_view, table_view}
use Rattle.toml.specs.declared.value.Value.{Value}

pub loop-number-preserved : goal.loop-number-preserved
loop-number-preserved c =
    let items : List Value = c.args.items.now in
    let i : ℕ = c.loop-number.number in
    let item : Value = c.index-items-number.result in
    let members : Members = table_view c.in-Some.table.now in
    let values : FieldValues = table_values members in
    let lt : i < length items = omega arith in
    let station : Config = c.in_ok-read_numbered_station.field-0 in
    let says : SaysStation values station = c.in_ok-read_numbered_station.ensures.says in
    let ranges : IsConfig station = c.in_ok-read_numbered_station.ensures.ranges in
    let more = take (i + 1) items in
    record {
      count = search rules;
      present = search rules;
      says =
          subst (λ l. SayItems SaysStation (items_view more) l) (sym c.in_ok-push.ensures.items)
          (say_more SaysStation items i item c.loop-number.stations.items station lt
          c.index-items-number.is c.loop-number.invariant.says
          (members, sym c.in-Some.ensures, says));
      presence =
          subst (λ l. SayItems (SaysPresence c.args.has_air) (items_view more) l)
          (sym c.in_ok-push-2.ensures.items)
          (say_more (SaysPresence c.args.has_air) items i item c.loop-number.present.items
          c.in_ok-read_presence.field-0 lt c.index-items-number.is
          c.loop-number.invariant.presence
          (members, sym c.in-Some.ensures, c.in_ok-read_presence.ensures.says));
      contention =
          subst (λ l. SayItems (SaysOwnContention c.args.has_air) (items_view more) l)
          (sym c.in_ok-push-3.ensures.items)
          (say_more (SaysOwnContention c.args.has_air) items i item c.loop-number.contend.items
          c.in_ok-read_contention.field-0 lt c.index-items-number.is
          c.loop-number.invariant.contention
          (members, sym c.in-Some.ensures, c.in_ok-read_contention.ensures.says));
      ranges =
          subst (All IsConfig) (sym c.in_ok-push.ensures.items)
          (All-push IsConfig c.loop-number.stations.items station
          c.loop-number.invariant.ranges ranges);
    }
