-- The codes of a file's faults, as ASCII text: a letter, and a number.
use Rattle.std.specs.Prelude.{ℕ, List, [], ◌∷◌}
use Rattle.its_linkframe.specs.Codes as captures
use Rattle.cap_pcap.specs.declared.fault.SourceFault.{SourceFault}
use Rattle.cap_pcap.specs.declared.fault.SourceFault.TheVariants as faults

-- P1 to P3, and those of a capture
abbrev pub code_of : SourceFault → List ℕ
code_of faults.CutFile = 80 ∷ 49 ∷ []
code_of faults.Malformed = 80 ∷ 50 ∷ []
code_of faults.LinkType = 80 ∷ 51 ∷ []
code_of (faults.Capture f) = captures.code_of f
