use Rattle.std.proofs.Common.{ap, arith}
use Rattle.std.proofs.lemmas.Int.{ints}
use Rattle.its_duties.specs.declared.interval.Interval.{Interval}
use Rattle.its_duties.proofs.places.box_around.Goals as goal

pub returns-clause-north : goal.returns-clause-north
returns-clause-north c =
    let low = ap (λ (s : Interval). s.low) c.widened.ensures in
    let high = ap (λ (s : Interval). s.high) c.widened.ensures in
    record {
      low = omega (
        arith,
        ints,
        low,
        c.metres_north.ensures.bound,
        c.lat-latitude.ensures.value,
        c.lat-latitude.ensures.range.0,
        c.lat-latitude.ensures.range.1,
      );
      high = omega (
        arith,
        ints,
        high,
        c.metres_north.ensures.bound,
        c.lat-latitude.ensures.value,
        c.lat-latitude.ensures.range.0,
        c.lat-latitude.ensures.range.1,
      );
    }

pub returns-clause-east : goal.returns-clause-east
returns-clause-east c =
    let low = ap (λ (s : Interval). s.low) c.widened-2.ensures in
    let high = ap (λ (s : Interval). s.high) c.widened-2.ensures in
    record {
      low = omega (
        arith,
        ints,
        low,
        c.metres_east.ensures.bound,
        c.lon-longitude.ensures.value,
        c.lon-longitude.ensures.range.0,
        c.lon-longitude.ensures.range.1,
      );
      high = omega (
        arith,
        ints,
        high,
        c.metres_east.ensures.bound,
        c.lon-longitude.ensures.value,
        c.lon-longitude.ensures.range.0,
        c.lon-longitude.ensures.range.1,
      );
    }

pub returns-clause-order : goal.returns-clause-order
returns-clause-order c =
    let low = ap (λ (s : Interval). s.low) c.widened-2.ensures in
    let high = ap (λ (s : Interval). s.high) c.widened-2.ensures in
    omega (
      arith,
      ints,
      low,
      high,
      c.metres_east.ensures.bound,
      c.lon-longitude.ensures.value,
      c.lon-longitude.ensures.range.0,
      c.lon-longitude.ensures.range.1,
    )
