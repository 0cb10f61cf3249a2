use Rattle.std.proofs.Common.{sym, ap, ◌∙◌}
use Rattle.std.specs.Option.{option_map}
use Rattle.its_world.proofs.Worlds.{read_there}
use Rattle.its_world.proofs.world.World.read_frame.Goals as goal

pub invariant_of-self : goal.invariant_of-self
invariant_of-self c =
    let air = c.self.inside.air in
    read_there air.released air.kept.items c.args.number c.in_ok-octets.octets.now
    c.in_ok-contents.contents
    (sym (ap (option_map (λ octets. octets.now)) (sym c.in_ok-octets.was) ∙ c.get.ensures))
    c.in_ok-contents.ensures
