use Rattle.std.proofs.Common.{◌≤◌, ◌+◌, ℕ, List, length, sym, subst, rules}
use Rattle.sim_queue.specs.Counted.{AreCounted}
use Rattle.sim_queue.proofs.Counted.{counted_grown}
use Rattle.sim_queue.proofs.kinds.Counts.grow.Goals as goal

pub returns-in_err-resize-clause-same : goal.returns-in_err-resize-clause-same
returns-in_err-resize-clause-same c = λ own all.
    subst (λ (l : List ℕ). AreCounted c.args.self.now.kinds l own)
    (sym c.in_err-resize.ensures.items) all

pub returns-in_ok-resize-clause-same : goal.returns-in_ok-resize-clause-same
returns-in_ok-resize-clause-same c = λ own all.
    let short : length c.args.self.now.each.items ≤ c.args.at + 1 = search rules in
    counted_grown c.args.self.now.kinds c.args.self.now.each.items c.resize.new.self.items own
    (c.args.at + 1) _ short c.in_ok-resize.ensures.items all
