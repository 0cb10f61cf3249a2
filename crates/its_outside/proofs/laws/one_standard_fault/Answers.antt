use Rattle.its_outside.proofs.Encodings.{encoding_read}
use Rattle.its_outside.proofs.StandardFaults.{no_first_fault, some_first_fault, same_first_fault}
use Rattle.its_outside.proofs.laws.one_standard_fault.Goals as goal

pub returns-clause-none : goal.returns-clause-none
returns-clause-none c =
    λ p w rest e fits enc f. no_first_fault _ _ _ e fits (encoding_read p w rest enc) f

pub returns-clause-some : goal.returns-clause-some
returns-clause-some c = some_first_fault

pub returns-clause-one : goal.returns-clause-one
returns-clause-one c = same_first_fault
