-- The codes of refusals, as ASCII text: the letter T, and the number of the refusal.
use Rattle.std.specs.Prelude.{ℕ, List, [], ◌∷◌}
use Rattle.its_loctable.specs.declared.refused.StoreRefused.{StoreRefused}
use Rattle.its_loctable.specs.declared.refused.StoreRefused.TheVariants.{Full, NoMemory}

-- T1 and T2
abbrev pub code_of : StoreRefused → List ℕ
code_of Full = 84 ∷ 49 ∷ []
code_of NoMemory = 84 ∷ 50 ∷ []
