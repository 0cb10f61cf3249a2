-- Stations that are apart have MIDs of their own, also in the model.
use Rattle.std.proofs.Common.{◌≡◌, ◌⊎◌, ℕ, zero, suc, ◌<◌, List, [], ◌∷◌, length, map, Some}
use Rattle.std.proofs.Common.{sym, ap, ◌∙◌, inl, inr, arith}
use Rattle.std.specs.Prelude.{slice_get, slice_index, OnOk, Result, Ok, Err}
use Rattle.its_gnvalue.specs.Values.{mid_of}
use Rattle.its_model.specs.World as model
use Rattle.its_model.specs.Chain.{HaveOwnMids}
use Rattle.its_world.specs.declared.config.Config.{Config}
use Rattle.its_world.specs.Events.{config_of}
use Rattle.its_world.specs.Mids.{AreApart, mids}

-- a station's MID is the one at its place
mid_at : (configs : List Config) (i : ℕ) (one : model.Config)
    → slice_get (map config_of configs) i ≡ Some one
    → (i < length configs) × (slice_index (mids configs) i ≡ mid_of one.address)
mid_at [] i one h = cc
mid_at (c ∷ configs) zero one h =
    (omega arith, ap (λ (x : model.Config). mid_of x.address) (same (config_of c) one h))
  where
    same : (a b : model.Config) → Some a ≡ Some b → a ≡ b
    same a b e = cc
mid_at (c ∷ configs) (suc i) one h =
    let r = mid_at configs i one h in (omega (arith, r.0), r.1)

-- one of two numbers is less, or they are the same
less_or_same : (i j : ℕ) → (i ≡ j) ⊎ ((i < j) ⊎ (j < i))
less_or_same i j = grind arith

pub own_mids : (configs : List Config) → AreApart configs → HaveOwnMids (map config_of configs)
own_mids configs apart i j one other at_i at_j same =
    let a = mid_at configs i one at_i in
    let b = mid_at configs j other at_j in
    elim (less_or_same i j) [
      | inl e ↦ e
      | inr other_way ↦ elim other_way [
        | inl lt ↦ absurd (apart i j lt b.0 (a.1 ∙ same ∙ sym b.1))
        | inr lt ↦ absurd (apart j i lt a.0 (b.1 ∙ sym same ∙ sym a.1))
      ]
    ]

-- what holds in any case holds of what went well
pub on_ok : {T E : Type 0} (r : Result T E) (P : Type 0) → P → OnOk r P
on_ok (Ok x) P h = h
on_ok (Err e) P h = tt
