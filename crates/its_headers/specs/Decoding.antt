-- What decoding answers.
use Rattle.std.specs.Prelude.{◌≡◌, ℕ, List, ◌++◌}
use Rattle.its_headers.specs.declared.decoding.DecodeFault.{DecodeFault}
use Rattle.its_headers.specs.declared.decoding.DecodeFault.TheVariants as faults
use Rattle.its_model.specs.Packet.{Pdu, Body, beacon, shb, gbc, gac}
use Rattle.its_headers.specs.Encoding.{Encodes}
use Rattle.its_headers.specs.FirstFault.{FirstFault}

-- only a beacon has no payload, and so needs no memory
abbrev pub HasPayload : Body → Type 0
HasPayload beacon = ⊥
HasPayload (shb media message) = Unit {0}
HasPayload (gbc number area message) = Unit {0}
HasPayload (gac number area message) = Unit {0}

-- a packet with a payload begins the octets
pub record BeginsWithPayload (w : List ℕ) : Type 0 where
  pub pdu : Pdu
  pub left : ℕ
  pub encoded : List ℕ
  pub rest : List ℕ
  pub encodes : Encodes pdu left encoded
  pub is : w ≡ encoded ++ rest
  pub has : HasPayload pdu.body

-- why the octets were not decoded
abbrev pub IsReason : List ℕ → DecodeFault → Type 0
IsReason w (faults.Fault f) = FirstFault w f
IsReason w faults.NoMemory = BeginsWithPayload w
