use Rattle.std.proofs.Common.{◌≡◌, ◌∙◌, ◌-◌, ◌<◌, ◌≤◌, ℕ, set, length, ap, sym, subst, rules}
use Rattle.std.proofs.lemmas.List.{get_or_read}
use Rattle.sim_queue.specs.Counted.{AreCounted}
use Rattle.sim_queue.proofs.Counted.{counted_less, counted_within, uncounted_less}
use Rattle.sim_queue.proofs.kinds.Counts.remove.Goals as goal

pub returns-in_default : goal.returns-in_default
returns-in_default c = λ own new all less.
    uncounted_less c.args.self.now.kinds c.args.self.now.each.items own new c.args.waiting.now
    c.in_default.ensures.uncounted all less

pub returns-then-at-len : goal.returns-then-at-len
returns-then-at-len c = λ own new all less.
    let counts = c.args.self.now.each.items in
    let kinds = c.args.self.now.kinds in
    let at = c.in-Some.at in
    let within : at < length counts = search rules in
    let read = get_or_read counts at c.index.result.now within c.index.ensures 0 in
    let less-is : c.saturating_sub.result ≡ c.index.result.now - 1 = search rules in
    subst (λ (n : ℕ). AreCounted kinds (set counts at n) new)
    (sym (less-is ∙ ap (λ n. n - 1) read))
    (counted_less kinds counts own new c.args.waiting.now at c.in-Some.ensures.counted within all
    less)

pub returns-else-at-len : goal.returns-else-at-len
returns-else-at-len c = λ own new all less.
    let counts = c.args.self.now.each.items in
    let past : length counts ≤ c.in-Some.at = search rules in
    absurd (counted_within c.args.self.now.kinds counts own new c.args.waiting.now c.in-Some.at
    c.in-Some.ensures.counted past all less)
