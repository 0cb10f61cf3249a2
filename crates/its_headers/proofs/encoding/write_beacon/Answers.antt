use Rattle.std.proofs.Common.{arith}
use Rattle.its_headers.proofs.Writing.{beacon_written, heads_put, HeaderFits}
use Rattle.its_headers.proofs.encoding.write_beacon.Goals as goal

pub returns : goal.returns
returns c =
    let h = c.args.header.now in
    let heads =
    heads_put h 0 16 0 _ _ _ c.write_basic.ensures.puts c.write_common.ensures.puts
    (omega (arith, c.requires)) in
    let fits : HeaderFits h =
    record {
      octets = (
        c.write_basic.ensures.lifetime,
        c.write_common.ensures.class,
        c.write_common.ensures.hops.1,
      );
      hops = (c.write_basic.ensures.some_left, c.write_common.ensures.hops.0);
    } in
    beacon_written h _ _ _ heads c.write_vector.ensures.puts
    (omega (arith, c.requires)) fits c.write_vector.ensures.fits
