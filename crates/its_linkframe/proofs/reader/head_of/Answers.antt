use Rattle.its_linkframe.proofs.Heads.{head_octets-numbers}
use Rattle.its_linkframe.proofs.reader.head_of.Goals as goal

pub returns : goal.returns
returns c = head_octets-numbers _ _ _ c.told-head c.fits-head c.read_u64.ensures c.read_u16.ensures
