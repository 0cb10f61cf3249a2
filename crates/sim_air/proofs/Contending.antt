-- Runs in which no station contends.
use Rattle.std.proofs.Common.{◌≡◌, ◌∷◌, [], List, Bool, true, false, refl, suc, arith}
use Rattle.std.proofs.Common.{true≢false}
use Rattle.std.specs.Bool.{beq}
use Rattle.std.specs.List.{list_any}
use Rattle.sim_air.specs.Contenders.{NoneContends}

-- none of them is found
pub none_found : (contend : List Bool) → NoneContends contend
    → list_any (λ y. beq y true) contend ≡ false
none_found [] none = refl
none_found (true ∷ contend) none = absurd (true≢false (none 0 true (omega arith)))
none_found (false ∷ contend) none =
    none_found contend (λ i d lt. none (suc i) d (omega (arith, lt)))
