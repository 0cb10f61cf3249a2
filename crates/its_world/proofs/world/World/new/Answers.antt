use Rattle.std.proofs.Common.{ℕ, map}
use Rattle.its_model.specs.Reach.{HasOwnAddress}
use Rattle.its_world.specs.Events.{config_of}
use Rattle.its_world.proofs.Apart.{on_ok, own_mids}
use Rattle.its_world.proofs.world.World.new.Goals as goal

pub returns-clause-own : goal.returns-clause-own
returns-clause-own c =
    let configs = c.args.configs.now in
    on_ok c.map_err.result ((station : ℕ) → HasOwnAddress (map config_of configs) station)
    (c.addresses_are_own.ensures (map config_of configs)
    (own_mids configs c.in_ok-refuse_shared.ensures.apart))
