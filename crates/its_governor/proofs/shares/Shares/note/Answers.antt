use Rattle.std.proofs.Common.{ap}
use Rattle.circular_buffer.specs.Buffer.{Buffer}
use Rattle.its_governor.specs.declared.shares.SharedFrame.{SharedFrame}
use Rattle.its_governor.proofs.Tallies.{count_fits, tally_by}
use Rattle.its_governor.proofs.shares.Shares.note.Goals as goal

pub count_with-count-requires : goal.count_with-count-requires
count_with-count-requires c =
    count_fits c.self.inside.frames.items c.self.inside.frames.capacity c.self.inside.count
    c.self.invariant

pub invariant_of-self : goal.invariant_of-self
invariant_of-self c =
    tally_by c.self.inside.frames.items c.self.inside.frames.capacity c.self.inside.count
    c.args.frame c.self.invariant c.push_front-oldest.new.self.items
    c.push_front-oldest.new.self.capacity c.count_with-count.result
    c.count_without-self-inside.result c.push_front-oldest.result
    (ap (λ (b : Buffer SharedFrame). b.items) c.push_front-oldest.ensures.items)
    (ap (λ (b : Buffer SharedFrame). b.capacity) c.push_front-oldest.ensures.items)
    c.count_with-count.ensures c.push_front-oldest.ensures.value
    c.count_without-self-inside.ensures
