use Rattle.std.proofs.Common.{Bool, drop, List, refl, subst, ℕ}
use Rattle.cap_records.proofs.OutsideFronts.{placed_outside}
use Rattle.cap_records.specs.OutsideFrames.{IsNotOutside, IsOutsideAt}
use Rattle.cap_records.proofs.any_kind.any_unsecured.Goals as goal

pub returns-in-Ok-clause-found : goal.returns-in-Ok-clause-found
returns-in-Ok-clause-found c = c.in-Ok.ensures.frame

pub returns-in-Some-clause-found : goal.returns-in-Some-clause-found
returns-in-Some-clause-found c =
    let w = c.args.octets.now.items in
    let start = c.args.start in
    let carried : List ℕ = drop start w in
    let n = c.in-Some.length in
    let (s, found) = c.in-Some.ensures.found in
    let moved = subst (λ (v : List ℕ). IsOutsideAt c.is_filled.result v n s) c.rest.ensures
    found in
    let at = subst (λ (b : Bool). IsOutsideAt b carried n s) c.is_filled.ensures moved in (
      s,
      (refl, c.in-Err.ensures.fault, (n, at)),
      placed_outside start w n s c.requires at.within at.frame,
    )

pub returns-in-None-clause-fault : goal.returns-in-None-clause-fault
returns-in-None-clause-fault c =
    let moved = subst (λ (v : List ℕ). IsNotOutside c.is_filled.result v) c.rest.ensures
    c.in-None.ensures.none in (
      c.in-Err.ensures.fault,
      subst (λ (b : Bool). IsNotOutside b (drop c.args.start c.args.octets.now.items))
          c.is_filled.ensures moved,
    )
