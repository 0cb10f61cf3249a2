-- What a packet says of its source.
use Rattle.std.specs.Prelude.{ℕ, Option}
use Rattle.its_gnvalue.specs.Values.{PositionVector}

-- the source's position vector, and the packet's sequence number if it has one
pub record SourceReport : Type 0 where
  pub vector : PositionVector
  pub number : Option ℕ
