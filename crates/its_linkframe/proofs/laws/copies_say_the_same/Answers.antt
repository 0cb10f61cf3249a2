use Rattle.its_linkframe.proofs.Copying.{is_copy-same}
use Rattle.its_linkframe.proofs.laws.copies_say_the_same.Goals as goal

pub returns : goal.returns
returns c = is_copy-same
