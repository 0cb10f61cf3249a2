use Rattle.its_linkframe.proofs.Copying.{is_copy-sent_again}
use Rattle.its_linkframe.proofs.laws.copies_are_sent_again.Goals as goal

pub returns : goal.returns
returns c = is_copy-sent_again
