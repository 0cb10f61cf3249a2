use Rattle.std.proofs.Common.{◌≡◌, take}
use Rattle.std.specs.Str.Parse.{AllDigits, digits_value}
use Rattle.sim_moves.proofs.decimal.value_of.Given as goal

-- digits so far, and what they write
abbrev pub invariant-loop-octet : goal.invariant-loop-octet
invariant-loop-octet l = record {
  digits : AllDigits 10 (take l.octet-index l.octets);
  value : l.value ≡ digits_value 10 (take l.octet-index l.octets);
}
