-- Writing an encoding at the beginning of a slice.
use Rattle.std.specs.Prelude.{◌≡◌, ◌≤◌, ℕ, List, length, take, drop}
use Rattle.its_model.specs.Packet.{Pdu}
use Rattle.its_headers.specs.Encoding.{Encodes}

-- the first n octets are the encoding, and the others stay
pub record WritesEncoding (p : Pdu) (left : ℕ) (old new : List ℕ) (n : ℕ) : Type 0 where
  pub inside : n ≤ length new
  pub encodes : Encodes p left (take n new)
  pub rest : drop n new ≡ drop n old
