use Rattle.std.proofs.Common.{ℕ, List, inr, refl, sym, subst}
use Rattle.sim_settings.specs.Moves.{ArePorts}
use Rattle.sim_settings.proofs.moves.Moves.usual.Goals as goal
use Rattle.toml.specs.Data.{no_items}

pub returns : goal.returns
returns c =
    let none : ArePorts no_items c.new.result.items =
    subst (λ (l : List ℕ). ArePorts no_items l) (sym c.new.ensures.items) tt in (
      refl,
      refl,
      inr (refl, c.from_octets.ensures.octets),
      refl,
      refl,
      (no_items, refl, none),
      refl,
    )
