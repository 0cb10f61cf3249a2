-- What a handle holds: a unit that represents one of the model.
use Rattle.std.specs.Prelude.{Option, Some, None}
use Rattle.its_unit.specs.Unit.{UnitModel, UnitState, RepresentsUnit}

-- there is a unit, and it represents this one of the model
abbrev pub HoldsUnit : Option UnitState → UnitModel → Type 0
HoldsUnit None u = ⊥
HoldsUnit (Some st) u = RepresentsUnit st u

-- there is a unit, and it represents some unit of the model
abbrev pub IsOpen : Option UnitState → Type 0
IsOpen held = ∥ ((u : UnitModel) × HoldsUnit held u) ∥₁
