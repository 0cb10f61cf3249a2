use Rattle.std.proofs.Common.{◌∙◌, ◌<◌, ◌≤◌, length, sym, rules}
use Rattle.std.proofs.lemmas.List.{get_or_read, get_or_past}
use Rattle.sim_queue.proofs.kinds.Counts.get.Goals as goal

pub returns-then-at-len : goal.returns-then-at-len
returns-then-at-len c = λ own all.
    let counts = c.args.self.now.each.items in
    let within : c.in_ok-at.at < length counts = search rules in
    get_or_read counts c.in_ok-at.at c.index.result.now within c.index.ensures 0
    ∙ all c.args.kind c.args.station c.in_ok-at.at c.in_ok-at.ensures.place

pub returns-else-at-len : goal.returns-else-at-len
returns-else-at-len c = λ own all.
    let counts = c.args.self.now.each.items in
    let past : length counts ≤ c.in_ok-at.at = search rules in
    sym (get_or_past counts c.in_ok-at.at 0 past)
    ∙ all c.args.kind c.args.station c.in_ok-at.at c.in_ok-at.ensures.place
