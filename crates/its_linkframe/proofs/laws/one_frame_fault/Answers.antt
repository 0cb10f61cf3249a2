use Rattle.its_linkframe.proofs.FrameLaws.{no_frame_fault, some_frame_fault, one_frame_fault_lem}
use Rattle.its_linkframe.proofs.laws.one_frame_fault.Goals as goal

pub returns-clause-none : goal.returns-clause-none
returns-clause-none c = no_frame_fault

pub returns-clause-some : goal.returns-clause-some
returns-clause-some c = some_frame_fault

pub returns-clause-one : goal.returns-clause-one
returns-clause-one c = one_frame_fault_lem
