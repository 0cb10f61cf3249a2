use Rattle.cap_records.proofs.Inner.{inner_of}
use Rattle.cap_records.proofs.signed.bring_inner.Goals as goal

pub returns-clause-inner : goal.returns-clause-inner
returns-clause-inner c =
    inner_of c.args.octets.now.items c.args.start c.args.plain.now c.copy_within.new.self.items
    c.requires.behind c.requires.inside c.copy_within.ensures.items
