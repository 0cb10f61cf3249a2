use Rattle.std.proofs.Common.{arith}
use Rattle.std.proofs.lemmas.Int.{ints}
use Rattle.its_duties.proofs.places.north_of.Goals as goal

pub centimetres_north-requires-2 : goal.centimetres_north-requires-2
centimetres_north-requires-2 c =
    omega (
      arith,
      ints,
      c.difference-2.ensures.bound,
      c.requires.high,
      c.lat-2.ensures.value,
      c.lat-2.ensures.range.0,
      c.lat-2.ensures.range.1,
    )
