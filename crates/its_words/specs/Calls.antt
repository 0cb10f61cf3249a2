-- A number of a call that its type doesn't bound.
use Rattle.std.specs.Prelude.{ℤ, pos}
use Rattle.its_station.specs.declared.call.OwnCall.{OwnCall}
use Rattle.its_station.specs.declared.call.OwnCall.TheVariants as own_calls

-- the speed of a move; 0 where none is given
abbrev pub own_speed : OwnCall → ℤ
own_speed (own_calls.MoveTo place pai speed heading) = speed
own_speed call = pos 0
