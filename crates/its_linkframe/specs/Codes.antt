-- The codes of a capture's faults, as ASCII text: the letter C, and a number.
use Rattle.std.specs.Prelude.{ℕ, List, [], ◌∷◌}
use Rattle.its_linkframe.specs.declared.record.CaptureFault.{CaptureFault}
use Rattle.its_linkframe.specs.declared.record.CaptureFault.TheVariants as faults

-- C1 to C5
abbrev pub code_of : CaptureFault → List ℕ
code_of faults.CutRecord = 67 ∷ 49 ∷ []
code_of faults.Length = 67 ∷ 50 ∷ []
code_of faults.Io = 67 ∷ 51 ∷ []
code_of faults.NoMemory = 67 ∷ 52 ∷ []
code_of faults.Failed = 67 ∷ 53 ∷ []
