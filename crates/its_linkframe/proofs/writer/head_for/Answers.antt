use Rattle.its_linkframe.specs.Captures.{head_octets}
use Rattle.its_linkframe.proofs.writer.head_for.Goals as goal

pub returns : goal.returns
unfolding head_octets
returns c = rw (c.write_u16.ensures, c.write_u64.ensures)
