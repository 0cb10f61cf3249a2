use Rattle.std.proofs.Common.{refl}
use Rattle.its_headers.proofs.encoding.encode_into.Goals as goal

pub returns-in-Beacon-clause-written : goal.returns-in-Beacon-clause-written
returns-in-Beacon-clause-written c = rw c.in-Beacon.is c.write_beacon.ensures

pub returns-in-Shb-clause-written : goal.returns-in-Shb-clause-written
returns-in-Shb-clause-written c = rw c.in-Shb.is c.write_shb.ensures

pub returns-in-Gbc-clause-written : goal.returns-in-Gbc-clause-written
returns-in-Gbc-clause-written c = rw c.in-Gbc.is (c.write_area_packet.ensures.gbc refl)

pub returns-in-Gac-clause-written : goal.returns-in-Gac-clause-written
returns-in-Gac-clause-written c = rw c.in-Gac.is (c.write_area_packet-in-Gac.ensures.gac refl)
