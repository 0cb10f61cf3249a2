-- What a fault says of the ports that are open.
use Rattle.std.specs.Prelude.{◌≡◌, ℕ, ◌≤◌, List, length, codes, true, false}
use Rattle.its_model.specs.History.{is_among}
use Rattle.its_btp.specs.declared.ports.PortFault.{PortFault}
use Rattle.its_btp.specs.declared.ports.PortFault.TheVariants as faults

-- why a port isn't opened: it is open, or else as many others are as may be
abbrev pub IsOpenFault : ℕ → List ℕ → PortFault → Type 0
IsOpenFault port ports faults.AlreadyOpen = is_among port ports ≡ true
IsOpenFault port ports faults.Full = (is_among port ports ≡ false) × (64 ≤ length ports)
IsOpenFault port ports faults.NotOpen = ⊥

-- the code that logs show
abbrev pub port_code : PortFault → List ℕ
port_code faults.AlreadyOpen = codes "B2"
port_code faults.Full = codes "B3"
port_code faults.NotOpen = codes "B4"
