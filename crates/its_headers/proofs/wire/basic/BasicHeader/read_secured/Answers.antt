use Rattle.std.proofs.Common.{arith}
use Rattle.its_headers.proofs.InnerPackets.{secured_found, secured_long, secured_range}
use Rattle.its_headers.proofs.InnerPackets.{secured_only, secured_fault}
use Rattle.its_headers.proofs.wire.basic.BasicHeader.read_secured.Goals as goal

pub returns-clause-found : goal.returns-clause-found
returns-clause-found c =
    secured_found _ c.args.octets.now (λ i. omega (arith, c.type_inv.octets i))
    c.check_secured.ensures

pub returns-clause-long : goal.returns-clause-long
returns-clause-long c =
    secured_long _ c.args.octets.now (λ i. omega (arith, c.type_inv.octets i))
    c.check_secured.ensures

pub returns-clause-range : goal.returns-clause-range
returns-clause-range c =
    secured_range _ c.args.octets.now (λ i. omega (arith, c.type_inv.octets i))
    c.check_secured.ensures

pub returns-clause-only : goal.returns-clause-only
returns-clause-only c = secured_only _ c.args.octets.now c.check_secured.ensures

pub returns-clause-fault : goal.returns-clause-fault
returns-clause-fault c = secured_fault _ c.args.octets.now c.check_secured.ensures
