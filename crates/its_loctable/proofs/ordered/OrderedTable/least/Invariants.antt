use Rattle.std.proofs.Common.{◌≡◌, fold, take, None}
use Rattle.std.specs.Option.{option_map}
use Rattle.its_loctable.specs.Heard.{shown}
use Rattle.its_loctable.specs.Ordered.{contained}
use Rattle.its_loctable.specs.Wanted.{is_wanted, better}
use Rattle.its_loctable.proofs.ordered.OrderedTable.least.Given as goal

abbrev pub invariant-loop-i : goal.invariant-loop-i
invariant-loop-i l = l.best
    ≡ option_map shown
    (fold (better (is_wanted l.wanted) l.now) None (contained (take l.i l.self.slots.entries)))
