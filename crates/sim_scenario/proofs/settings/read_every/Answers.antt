use Rattle.std.proofs.Common.{◌+◌, ◌<◌, ℕ, List, arith, length, take, sym, subst}
use Rattle.sim_settings.proofs.Items.{say_more}
use Rattle.sim_settings.specs.Items.{SayItems}
use Rattle.sim_settings.specs.Saying.{SaysTraffic}
use Rattle.sim_settings.specs.declared.traffic.Traffic.{Traffic}
use Rattle.sim_scenario.proofs.settings.read_every.Goals as goal
use Rattle.toml.specs.Data.{Members}
use Rattle.toml.specs.View.{items_view, table_view}
use Rattle.toml.specs.declared.value.Value.{Value}

pub loop-number-preserved : goal.loop-number-preserved
loop-number-preserved c =
    let items : List Value = c.args.items.now in
    let i : ℕ = c.loop-number.number in
    let members : Members = table_view c.in-Some.table.now in
    let lt : i < length items = omega arith in
    let traffic : Traffic = c.in_ok-read_known_traffic.field-0 in
    subst (λ (l : List Traffic). SayItems SaysTraffic (items_view (take (i + 1) items)) l)
    (sym c.in_ok-push.ensures.items)
    (say_more SaysTraffic items i c.index-items-number.result c.loop-number.every.items traffic lt
    c.index-items-number.is c.loop-number.invariant (
      members,
      sym c.in-Some.ensures,
      c.in_ok-read_known_traffic.ensures.says,
    ))
