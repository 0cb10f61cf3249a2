use Rattle.std.proofs.Common.{◌+◌, ◌<◌, ℕ, List, rules, arith, All, length, take, sym, subst}
use Rattle.std.proofs.lemmas.List.Elements.{All-push}
use Rattle.sim_settings.proofs.Items.{say_more}
use Rattle.sim_settings.specs.Items.{SayItems}
use Rattle.sim_scenario.proofs.event_tables.read_events.Goals as goal
use Rattle.toml.specs.Data.{Members}
use Rattle.toml.specs.View.{items_view, table_view}
use Rattle.toml.specs.declared.value.Value.{Value}

pub loop-number-preserved : goal.loop-number-preserved
loop-number-preserved g c =
    let items : List Value = c.args.items.now in
    let i : ℕ = c.loop-number.number in
    let members : Members = table_view c.in-Some.table.now in
    let lt : i < length items = omega arith in
    let event = c.in_ok-read_numbered_event.field-0 in
    let says = c.in_ok-read_numbered_event.ensures.says in
    let fits = c.in_ok-read_numbered_event.ensures.ranges in
    record {
      count = search rules;
      says =
          subst (λ l. SayItems g.E.TableEvent.Says (items_view (take (i + 1) items)) l)
          (sym c.in_ok-push.ensures.items)
          (say_more g.E.TableEvent.Says items i c.index-items-number.result c.loop-number.events.items
          event lt c.index-items-number.is c.loop-number.invariant.says
          (members, sym c.in-Some.ensures, says));
      ranges =
          subst (All g.E.TableEvent.Fits) (sym c.in_ok-push.ensures.items)
          (All-push g.E.TableEvent.Fits c.loop-number.events.items event
          c.loop-number.invariant.ranges fits);
    }
