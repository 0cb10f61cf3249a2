use Rattle.std.proofs.Common.{take}
use Rattle.std.specs.Str.Parse.{AllDigits}
use Rattle.sim_moves.proofs.decimal.are_digits.Given as goal

-- digits so far
abbrev pub invariant-loop-octet : goal.invariant-loop-octet
invariant-loop-octet l = AllDigits 10 (take l.octet-index l.octets)
