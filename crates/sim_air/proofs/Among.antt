-- Events among others.
use Rattle.std.proofs.Common.{List, [], ◌∷◌, ◌++◌, refl, ap, ◌∙◌, append_assoc}
use Rattle.its_model.specs.World.{Event}
use Rattle.sim_air.specs.AirRun.{AreAmong}

-- among more
pub among_longer : (xs ys more : List Event) → AreAmong xs ys → AreAmong xs (ys ++ more)
among_longer [] ys more h = tt
among_longer (x ∷ xs) ys more h = (
  h.0,
  h.1 ++ more,
  ap (λ (l : List Event). l ++ more) h.2 ∙ append_assoc h.0 (x ∷ h.1) more,
  among_longer xs h.1 more h.3,
)

-- one more of both
pub among_both : (xs ys : List Event) (e : Event) → AreAmong xs ys
    → AreAmong (xs ++ e ∷ []) (ys ++ e ∷ [])
among_both [] ys e h = (ys, [], refl, tt)
among_both (x ∷ xs) ys e h = (
  h.0,
  h.1 ++ e ∷ [],
  ap (λ (l : List Event). l ++ e ∷ []) h.2 ∙ append_assoc h.0 (x ∷ h.1) (e ∷ []),
  among_both xs h.1 e h.3,
)
