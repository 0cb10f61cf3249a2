use Rattle.std.proofs.Common.{arith}
use Rattle.its_outside.proofs.Answering.{not_none}
use Rattle.its_outside.proofs.Encodings.{read_front, only_reading, no_packet}
use Rattle.its_outside.proofs.StandardFaults.{fault_is_first}
use Rattle.its_outside.proofs.outside.OutsidePacket.read.Goals as goal

pub returns-in-Ok-clause-found : goal.returns-in-Ok-clause-found
returns-in-Ok-clause-found c =
    let f = read_front _ _ _ (λ i. omega (arith, c.type_inv.octets i)) c.in-Ok.ensures in
    (f.inside, f.encodes)

pub returns-in-Ok-clause-only : goal.returns-in-Ok-clause-only
returns-in-Ok-clause-only c =
    λ p w rest enc is. only_reading _ _ _ p w rest c.in-Ok.ensures enc is

pub returns-in-Ok-clause-profile : goal.returns-in-Ok-clause-profile
returns-in-Ok-clause-profile c =
    λ p left w rest enc is. absurd (not_none _ (c.in-Some.ensures.only p left w rest enc is))

pub returns-in-Err-clause-only : goal.returns-in-Err-clause-only
returns-in-Err-clause-only c =
    λ p w rest enc is. absurd (no_packet _ _ p w rest c.in-Err.ensures enc is)

pub returns-in-Err-clause-profile : goal.returns-in-Err-clause-profile
returns-in-Err-clause-profile c =
    λ p left w rest enc is. absurd (not_none _ (c.in-Some.ensures.only p left w rest enc is))

pub returns-in-Err-clause-reason : goal.returns-in-Err-clause-reason
returns-in-Err-clause-reason c =
    fault_is_first _ _ (λ i. omega (arith, c.type_inv.octets i)) c.in-Err.ensures
