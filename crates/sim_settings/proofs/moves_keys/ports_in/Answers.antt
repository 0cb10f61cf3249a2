use Rattle.std.proofs.Common.{◌+◌, ◌<◌, ℕ, List, arith, length, take, sym, subst}
use Rattle.sim_settings.proofs.Items.{each_more}
use Rattle.sim_settings.specs.Moves.{ArePorts, IsPort}
use Rattle.sim_settings.proofs.moves_keys.ports_in.Goals as goal
use Rattle.toml.specs.View.{items_view}
use Rattle.toml.specs.declared.value.Value.{Value}

pub loop-item-preserved : goal.loop-item-preserved
loop-item-preserved c =
    let items : List Value = c.args.items.now in
    let i : ℕ = c.loop-item.item-index in
    let lt : i < length items = omega arith in
    subst (λ (l : List ℕ). ArePorts (items_view (take (i + 1) items)) l)
    (sym c.in-Ok.ensures.items)
    (each_more IsPort items i c.item-item.result c.loop-item.ports.items c.in_ok-port.port lt
    c.item-item.is c.loop-item.invariant c.in_ok-port.ensures)
