use Rattle.std.proofs.Common.{◌≡◌, ℕ, take}
use Rattle.std.specs.Prelude.{nat_eq}
use Rattle.std.specs.HashSet.{contains}
use Rattle.sim_simulation.specs.Presences.{starts_absent}
use Rattle.sim_simulation.proofs.tally.presence.Presence.at_start.Given as goal

-- of the first stations those are absent that aren't present at the start
abbrev pub invariant-loop-station : goal.invariant-loop-station
invariant-loop-station l =
    (station : ℕ) → contains nat_eq l.absent station
    ≡ starts_absent (take l.station l.present) station
