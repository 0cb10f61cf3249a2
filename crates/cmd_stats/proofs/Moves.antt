-- One move after another.
use Rattle.std.proofs.Common.{◌≡◌, ◌≢◌, ℕ, ◌-◌, List, [], ◌∷◌, arith, drop, length, refl, subst, sym, take_all, true, false}
use Rattle.std.proofs.lemmas.Option.{none-some}
use Rattle.std.specs.Prelude.{Bool, Option, None, Result, Ok, Err, Some, if◌then◌else◌, nat_le, slice_range}
use Rattle.its_station.specs.declared.refused.Refused.{Refused}
use Rattle.its_station.specs.declared.refused.Refused.TheVariants as refused
use Rattle.its_unit.specs.Steps.{IsStepOf}
use Rattle.its_unit.specs.Unit.{RepresentsUnit, UnitAnswer, UnitModel, UnitState, UnitStep}
use Rattle.cmd_stats.specs.Listening.{after_move, first_due, moved_by}
use Rattle.cmd_stats.specs.declared.replay.moves.Move.{Move}

-- whatever is answered but want of memory, the unit is that after the step
pub stands_by : {T : Type 0} (says : T → UnitAnswer → Type 0) (answer : Result T Refused)
    (new : UnitState) (step : UnitStep) → IsStepOf says answer new step
    → answer ≢ Err refused.NoMemory → RepresentsUnit new step.unit
stands_by says (Ok x) new step is not = is.1
stands_by says (Err refused.MomentEarlier) new step is not = is.1
stands_by says (Err refused.MomentTooLate) new step is not = is.1
stands_by says (Err refused.JitterRange) new step is not = is.1
stands_by says (Err (refused.Frame fault)) new step is not = is.1
stands_by says (Err (refused.Secured fault)) new step is not = is.1
stands_by says (Err (refused.Port fault)) new step is not = is.1
stands_by says (Err refused.PayloadTooLong) new step is not = is.1
stands_by says (Err refused.HopLimitZero) new step is not = is.1
stands_by says (Err refused.TableFull) new step is not = is.1
stands_by says (Err refused.NoMemory) new step is not = absurd (not refl)

-- the first move is made, if its time has come
due_by : (due : Bool) (moment : ℕ) (first next : Move) (more : List Move) (u : UnitModel)
    → nat_le first.moment moment ≡ due → (if due then Some first else None) ≡ Some next
    → moved_by moment (first ∷ more) u ≡ moved_by moment more (after_move next u)
due_by true moment first next more u at is =
    let same : first ≡ next = cc in
    subst (λ (x : Move). moved_by moment (first ∷ more) u ≡ moved_by moment more (after_move x u))
    same (rw at refl)
due_by false moment first next more u at is = absurd (none-some next is)

pub moved_next : (moment : ℕ) (moves : List Move) (next : Move) (u : UnitModel)
    → first_due moment moves ≡ Some next
    → moved_by moment moves u ≡ moved_by moment (drop 1 moves) (after_move next u)
moved_next moment [] next u is = absurd (none-some next is)
moved_next moment (first ∷ more) next u is =
    due_by (nat_le first.moment moment) moment first next more u refl is

-- none is made, if there is none whose time has come
stays_by : (due : Bool) (moment : ℕ) (first : Move) (more : List Move) (u : UnitModel)
    → nat_le first.moment moment ≡ due → (if due then Some first else None) ≡ None
    → moved_by moment (first ∷ more) u ≡ record { unit = u; moves = first ∷ more }
stays_by true moment first more u at is = absurd (none-some first (sym is))
stays_by false moment first more u at is = rw at refl

pub moved_stays : (moment : ℕ) (moves : List Move) (u : UnitModel)
    → first_due moment moves ≡ None
    → moved_by moment moves u ≡ record { unit = u; moves = moves }
moved_stays moment [] u is = refl
moved_stays moment (first ∷ more) u is =
    stays_by (nat_le first.moment moment) moment first more u refl is

-- a slice from its second element on
pub all_after : (moves : List Move) → slice_range moves 1 (length moves) ≡ drop 1 moves
all_after [] = refl
all_after (first ∷ more) =
    take_all (length (first ∷ more) - 1) more (omega arith)
