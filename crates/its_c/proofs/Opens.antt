-- A handle's unit still represents one of the model after a call.
use Rattle.std.proofs.Common.{◌≡◌, ℕ, Some, None, Option, refl, sym, subst, ap, ◌∙◌}
use mathlib.Core.Bool.{Bool-set}
use Rattle.std.proofs.Math.Logic.{∥∥₁_map, ∥∥₁_elim}
use Rattle.std.proofs.lemmas.Grind.{merely}
use Rattle.std.specs.Prelude.{Result, Ok, Err, IsSome, IfOk, OnErr, Vec}
use Rattle.its_model.specs.Calls.{Answer}
use Rattle.its_model.specs.Packet.{Transmission}
use Rattle.its_station.specs.declared.outcome.Outcome.{Outcome}
use Rattle.its_unit.specs.Releases.{IsReleaseOf, UnitRelease}
use Rattle.its_unit.specs.declared.outcome.Reaction.{Reaction}
use Rattle.std.specs.Option.{option_map}
use Rattle.std.specs.declared.alloc.Global.{Global}
use Rattle.its_station.specs.State.{StationState, RepresentsStation}
use Rattle.its_station.specs.declared.counts.Counts.{Counts}
use Rattle.its_station.specs.declared.refused.Refused.{Refused}
use Rattle.its_unit.specs.Unit.{UnitModel, UnitState, UnitStep, UnitAnswer, RepresentsUnit}
use Rattle.its_unit.specs.Steps.{IsReactionOf, IsStepOf, IsSendOf, IsSameUnit}
use Rattle.its_unit.specs.declared.unsent.Unsent.{Unsent}
use Rattle.its_unit.specs.declared.unsent.Unsent.TheVariants as unsent
use Rattle.its_model.specs.Station.{StationModel}
use Rattle.its_c.specs.Open.{HoldsUnit, IsOpen}

-- of a unit that is held
pub held_unit : (held : Option UnitState) (st : UnitState) (u : UnitModel)
    → held ≡ Some st → HoldsUnit held u → RepresentsUnit st u
held_unit held st u is holds = subst (λ (h : Option UnitState). HoldsUnit h u) is holds

pub unit_held : (held : Option UnitState) (st : UnitState) (u : UnitModel)
    → held ≡ Some st → RepresentsUnit st u → HoldsUnit held u
unit_held held st u is rep = subst (λ (h : Option UnitState). HoldsUnit h u) (sym is) rep

is_held : (held : Option UnitState) → ((u : UnitModel) × HoldsUnit held u) → IsSome held
is_held None found = absurd found.1
is_held (Some st) found = refl

-- what is open holds a unit
pub open_some : (held : Option UnitState) → IsOpen held → IsSome held
open_some held opened = ∥∥₁_elim opened (Bool-set _ _) (is_held held)

-- and what holds a unit that represents one of the model is open
pub is_open : (held : Option UnitState) (u : UnitModel) → HoldsUnit held u → IsOpen held
is_open held u holds = merely (u, holds)

-- the same unit represents the same one
pub same_rep : (old new : UnitState) (u : UnitModel) → IsSameUnit old new → RepresentsUnit old u
    → RepresentsUnit new u
same_rep old new u same rep = record {
  station = subst (λ (st : StationState). RepresentsStation st u.station) (sym same.station) rep.station;
  contention = rep.contention ∙ sym same.contention;
  governor = rep.governor ∙ sym same.governor;
}

step_keeps : {T : Type 0} (Tells : T → UnitAnswer → Type 0) (said : Result T Refused)
    (old new : UnitState) (step : UnitModel → UnitStep)
    → ((u : UnitModel) → RepresentsUnit old u → IsStepOf Tells said new (step u))
    → OnErr said (IsSameUnit old new) → ((u : UnitModel) × RepresentsUnit old u)
    → (u : UnitModel) × RepresentsUnit new u
step_keeps Tells (Ok x) old new step is same found =
    ((step found.0).unit, (is found.0 found.1).1)
step_keeps Tells (Err e) old new step is same found =
    (found.0, same_rep old new found.0 same found.1)

send_keeps : (said : Result (Vec ℕ Global) Unsent) (old new : UnitState) (step : UnitModel → UnitStep)
    → ((u : UnitModel) → RepresentsUnit old u → IsSendOf said new (step u))
    → ((e : Refused) → said ≡ Err (unsent.Refused e) → IsSameUnit old new)
    → ((u : UnitModel) × RepresentsUnit old u) → (u : UnitModel) × RepresentsUnit new u
send_keeps (Ok w) old new step is same found =
    ((step found.0).unit, (is found.0 found.1).1)
send_keeps (Err (unsent.Refused e)) old new step is same found =
    (found.0, same_rep old new found.0 (same e refl) found.1)
send_keeps (Err unsent.OverRate) old new step is same found =
    ((step found.0).unit, (is found.0 found.1).1)

reaction_keeps : (Tells : Outcome → Answer Transmission → Type 0) (said : Result Reaction Refused)
    (old new : UnitState) (step : UnitModel → UnitStep)
    → ((u : UnitModel) → RepresentsUnit old u → IsReactionOf Tells said new (step u))
    → OnErr said (IsSameUnit old new) → ((u : UnitModel) × RepresentsUnit old u)
    → (u : UnitModel) × RepresentsUnit new u
reaction_keeps Tells (Ok r) old new step is same found =
    ((step found.0).unit, (is found.0 found.1).3)
reaction_keeps Tells (Err e) old new step is same found =
    (found.0, same_rep old new found.0 same found.1)

release_keeps : (said : Result (Option (Vec ℕ Global)) Refused) (old new : UnitState)
    (release : UnitModel → UnitRelease)
    → ((u : UnitModel) → RepresentsUnit old u → IsReleaseOf said new (release u))
    → OnErr said (IsSameUnit old new) → ((u : UnitModel) × RepresentsUnit old u)
    → (u : UnitModel) × RepresentsUnit new u
release_keeps (Ok sent) old new release is same found =
    ((release found.0).unit, (is found.0 found.1).2)
release_keeps (Err e) old new release is same found =
    (found.0, same_rep old new found.0 same found.1)

-- what keeps a unit keeps its handle open
kept_open : (old new : UnitState) (held after : Option UnitState)
    → (((u : UnitModel) × RepresentsUnit old u) → (u : UnitModel) × RepresentsUnit new u)
    → held ≡ Some old → after ≡ Some new → IsOpen held → IsOpen after
kept_open old new held after keeps was now opened =
    ∥∥₁_map opened (λ found. let kept = keeps (found.0, held_unit held old found.0 was found.1) in
    (kept.0, unit_held after new kept.0 now kept.1))

pub stays_open : {T : Type 0} (Tells : T → UnitAnswer → Type 0) (said : Result T Refused)
    (old new : UnitState) (step : UnitModel → UnitStep) (held after : Option UnitState)
    → ((u : UnitModel) → RepresentsUnit old u → IsStepOf Tells said new (step u))
    → OnErr said (IsSameUnit old new) → held ≡ Some old → after ≡ Some new → IsOpen held
    → IsOpen after
stays_open Tells said old new step held after is same =
    kept_open old new held after (step_keeps Tells said old new step is same)

pub reacts_open : (Tells : Outcome → Answer Transmission → Type 0) (said : Result Reaction Refused)
    (old new : UnitState) (step : UnitModel → UnitStep) (held after : Option UnitState)
    → ((u : UnitModel) → RepresentsUnit old u → IsReactionOf Tells said new (step u))
    → OnErr said (IsSameUnit old new) → held ≡ Some old → after ≡ Some new → IsOpen held
    → IsOpen after
reacts_open Tells said old new step held after is same =
    kept_open old new held after (reaction_keeps Tells said old new step is same)

pub releases_open : (said : Result (Option (Vec ℕ Global)) Refused) (old new : UnitState)
    (release : UnitModel → UnitRelease) (held after : Option UnitState)
    → ((u : UnitModel) → RepresentsUnit old u → IsReleaseOf said new (release u))
    → OnErr said (IsSameUnit old new) → held ≡ Some old → after ≡ Some new → IsOpen held
    → IsOpen after
releases_open said old new release held after is same =
    kept_open old new held after (release_keeps said old new release is same)

pub sends_open : (said : Result (Vec ℕ Global) Unsent) (old new : UnitState)
    (step : UnitModel → UnitStep) (held after : Option UnitState)
    → ((u : UnitModel) → RepresentsUnit old u → IsSendOf said new (step u))
    → ((e : Refused) → said ≡ Err (unsent.Refused e) → IsSameUnit old new)
    → held ≡ Some old → after ≡ Some new → IsOpen held → IsOpen after
sends_open said old new step held after is same =
    kept_open old new held after (send_keeps said old new step is same)

-- a unit that is taken out and put back, with no more than its counts changed
pub same_open : (old new : UnitState) (held after : Option UnitState) → IsSameUnit old new
    → held ≡ Some old → after ≡ Some new → IsOpen held → IsOpen after
same_open old new held after same =
    kept_open old new held after (λ found. (found.0, same_rep old new found.0 same found.1))

-- and as it was
pub still_open : (held after : Option UnitState) (st : UnitState)
    → held ≡ Some st → after ≡ Some st → IsOpen held → IsOpen after
still_open held after st was now opened =
    subst (λ (h : Option UnitState). IsOpen h) (was ∙ sym now) opened

-- a unit that does what a line asks for stays open
within_keeps : {T E : Type 0} (said : Result T E) (old new : UnitState)
    → ((u : UnitModel) → RepresentsUnit old u
    → IfOk said (λ told. (next : UnitModel) × RepresentsUnit new next))
    → OnErr said (IsSameUnit old new) → ((u : UnitModel) × RepresentsUnit old u)
    → (u : UnitModel) × RepresentsUnit new u
within_keeps (Ok told) old new is same found = is found.0 found.1
within_keeps (Err e) old new is same found =
    (found.0, same_rep old new found.0 same found.1)

pub stays_within : {T E : Type 0} (said : Result T E) (old new : UnitState)
    (held after : Option UnitState)
    → ((u : UnitModel) → RepresentsUnit old u
    → IfOk said (λ told. (next : UnitModel) × RepresentsUnit new next))
    → OnErr said (IsSameUnit old new) → held ≡ Some old → after ≡ Some new → IsOpen held
    → IsOpen after
stays_within said old new held after is same =
    kept_open old new held after (within_keeps said old new is same)

-- the counts of the unit that is held
pub counts_held : {X E : Type 0} (count : Result X E → Counts → Counts) (said : Result X E)
    (held after : Option UnitState) (old new : UnitState) → held ≡ Some old → after ≡ Some new
    → new.counts ≡ count said old.counts
    → option_map (λ (st : UnitState). st.counts) after
    ≡ option_map (count said) (option_map (λ (st : UnitState). st.counts) held)
counts_held count said held after old new was now is =
    ap (option_map (λ (st : UnitState). st.counts)) now
    ∙ ap (λ (c : Counts). Some c) is
    ∙ sym (ap (λ (h : Option UnitState).
    option_map (count said) (option_map (λ (st : UnitState). st.counts) h)) was)

-- a new unit that is held
pub new_open : (held : Option UnitState) (st : UnitState) (m : StationModel) → held ≡ Some st
    → RepresentsStation st.station m → IsOpen held
new_open held st m is rep =
    let u : UnitModel = record {
      station = m;
      contention = st.contention;
      governor = st.governor;
    } in
    is_open held u
    (unit_held held st u is (record { station = rep; contention = refl; governor = refl }))
