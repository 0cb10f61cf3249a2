use Rattle.std.proofs.Common.{arith, length, ap, refl, rules, ◌+◌}
use Rattle.its_model.specs.Packet.{geobroadcast, geoanycast}
use Rattle.its_headers.specs.Encoding.{shape_code}
use Rattle.its_headers.proofs.Writing.{area_packet_written, heads_put, HeaderFits}
use Rattle.its_headers.proofs.encoding.write_area_packet.Goals as goal

pub returns-clause-gbc : goal.returns-clause-gbc
returns-clause-gbc c = λ is.
    let p = c.args.packet.now in
    let w = c.write_payload.ensures in
    let heads =
    heads_put p.header 32 (64 + shape_code p.area.shape)
    (length p.payload) _ _ _ c.write_basic.ensures.puts
    (rw (ap length c.octets.ensures.value, c.shape.ensures, is) at c.write_common.ensures.puts)
    (omega (arith, c.requires)) in
    let fits : HeaderFits p.header =
    record {
      octets = (
        c.write_basic.ensures.lifetime,
        c.write_common.ensures.class,
        c.write_common.ensures.hops.1,
      );
      hops = (c.write_basic.ensures.some_left, c.write_common.ensures.hops.0);
    } in
    rw w.end (area_packet_written geobroadcast p.header _ p.number p.area p.payload _ _ _ _ _ _ _ _
    refl heads c.write_u16.ensures c.write_u16-2.ensures c.write_vector.ensures.puts
    c.write_area.ensures.puts c.write_u16-3.ensures w.puts
    (omega (arith, c.requires)) fits c.write_vector.ensures.fits c.write_area.ensures.fits
    (search rules) w.low w.high w.bytes)

pub returns-clause-gac : goal.returns-clause-gac
returns-clause-gac c = λ is.
    let p = c.args.packet.now in
    let w = c.write_payload.ensures in
    let heads =
    heads_put p.header 32 (48 + shape_code p.area.shape)
    (length p.payload) _ _ _ c.write_basic.ensures.puts
    (rw (ap length c.octets.ensures.value, c.shape.ensures, is) at c.write_common.ensures.puts)
    (omega (arith, c.requires)) in
    let fits : HeaderFits p.header =
    record {
      octets = (
        c.write_basic.ensures.lifetime,
        c.write_common.ensures.class,
        c.write_common.ensures.hops.1,
      );
      hops = (c.write_basic.ensures.some_left, c.write_common.ensures.hops.0);
    } in
    rw w.end (area_packet_written geoanycast p.header _ p.number p.area p.payload _ _ _ _ _ _ _ _
    refl heads c.write_u16.ensures c.write_u16-2.ensures c.write_vector.ensures.puts
    c.write_area.ensures.puts c.write_u16-3.ensures w.puts
    (omega (arith, c.requires)) fits c.write_vector.ensures.fits c.write_area.ensures.fits
    (search rules) w.low w.high w.bytes)
