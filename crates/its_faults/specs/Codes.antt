-- The codes of faults, as ASCII text: the letter G, and the number of the kind.
use Rattle.std.specs.Prelude.{ℕ, List, [], ◌∷◌}
use Rattle.its_faults.specs.declared.packet.FaultKind.{FaultKind}
use Rattle.its_faults.specs.declared.packet.FaultKind.TheVariants.{Truncated, Version, BasicNext}
use Rattle.its_faults.specs.declared.packet.FaultKind.TheVariants.{Reserved, HopZero, CommonNext}
use Rattle.its_faults.specs.declared.packet.FaultKind.TheVariants.{HeaderType, SubType, HopAboveMax}
use Rattle.its_faults.specs.declared.packet.FaultKind.TheVariants.{PayloadLength, Position, Area}

-- G1 to G12
abbrev pub code_of : FaultKind → List ℕ
code_of Truncated = 71 ∷ 49 ∷ []
code_of Version = 71 ∷ 50 ∷ []
code_of BasicNext = 71 ∷ 51 ∷ []
code_of Reserved = 71 ∷ 52 ∷ []
code_of HopZero = 71 ∷ 53 ∷ []
code_of CommonNext = 71 ∷ 54 ∷ []
code_of HeaderType = 71 ∷ 55 ∷ []
code_of SubType = 71 ∷ 56 ∷ []
code_of HopAboveMax = 71 ∷ 57 ∷ []
code_of PayloadLength = 71 ∷ 49 ∷ 48 ∷ []
code_of Position = 71 ∷ 49 ∷ 49 ∷ []
code_of Area = 71 ∷ 49 ∷ 50 ∷ []
