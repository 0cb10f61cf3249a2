-- Formats of packets, with the faults of packets.
use Rattle.std.specs.Prelude.{ℕ, List, Result}
use Rattle.its_faults.specs.declared.packet.Fault.{Fault}
use Rattle.its_faults.specs.declared.packet.FaultKind.{FaultKind}
use Rattle.its_faults.specs.declared.packet.FaultKind.TheVariants.{Truncated}
use Rattle.its_formats.specs.Format as formats
use Rattle.its_formats.specs.Format.{Faults}

abbrev pub Format : Type 0 → Type 0
Format A = formats.Format FaultKind A

-- a fault has a position and a kind: where the octets end, or where the wrong field begins
abbrev pub packet_faults : Faults FaultKind Fault
packet_faults = record {
  truncated = λ length. record { at = length; kind = Truncated };
  wrong = λ at kind. record { at = at; kind = kind };
}

-- what the octets from a place on say, and where that ends, or the first fault
abbrev pub walk : {A : Type 0} → Format A → ℕ → List ℕ → Result (A × ℕ) Fault
walk f at w = formats.walk packet_faults f at w

-- the number of so many octets at a place
abbrev pub number_at : ℕ → ℕ → List ℕ → Result ℕ Fault
number_at n at w = formats.number_at packet_faults n at w

-- so many octets at a place
abbrev pub octets_at : ℕ → ℕ → List ℕ → Result (List ℕ) Fault
octets_at n at w = formats.octets_at packet_faults n at w
