use Rattle.std.proofs.Common.{arith, length, ap, length-append, length-drop, ◌+◌, ◌≤◌}
use Rattle.its_headers.specs.Encoding.{message_octets}
use Rattle.its_headers.specs.Fields.{message_of}
use Rattle.its_headers.proofs.Writing.{shb_written, heads_put, HeaderFits}
use Rattle.its_headers.proofs.encoding.write_shb.Goals as goal

pub returns : goal.returns
returns c =
    let p = c.args.packet.now in
    let w = c.write_payload.ensures in
    let room : 40 + length p.payload ≤ length c.args.out.now =
    omega (
      arith,
      c.requires,
      w.low,
      c.write_media.ensures.fits.size,
      length-append p.media (message_octets (message_of p.payload)),
      length-drop 4 p.payload,
    ) in
    let heads =
    heads_put p.header 32 80 (length p.payload) _ _ _ c.write_basic.ensures.puts
    (rw (ap length c.octets.ensures.value) at c.write_common.ensures.puts) (omega (arith, room)) in
    let fits : HeaderFits p.header =
    record {
      octets = (
        c.write_basic.ensures.lifetime,
        c.write_common.ensures.class,
        c.write_common.ensures.hops.1,
      );
      hops = (c.write_basic.ensures.some_left, c.write_common.ensures.hops.0);
    } in
    rw w.end (shb_written p.header p.media p.payload _ _ _ _ _ heads c.write_vector.ensures.puts
    c.write_media.ensures.puts w.puts room fits c.write_vector.ensures.fits
    c.write_media.ensures.fits w.low w.high w.bytes)
