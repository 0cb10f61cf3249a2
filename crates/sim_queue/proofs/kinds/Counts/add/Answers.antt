use Rattle.std.proofs.Common.{◌≡◌, ◌∙◌, ◌+◌, ◌<◌, ℕ, Result, Ok, Err, OnErr, get_or, set, length}
use Rattle.std.proofs.Common.{ap, sym, subst, rules}
use Rattle.std.proofs.lemmas.List.{get_or_read}
use Rattle.sim_queue.specs.Counted.{AreCounted, IsCountedAt}
use Rattle.sim_queue.proofs.Counted.{counted_more, uncounted_more}
use Rattle.sim_queue.proofs.kinds.Counts.add.Goals as goal

pub returns-in_default-clause-added : goal.returns-in_default-clause-added
returns-in_default-clause-added c = λ own new all more.
    uncounted_more c.args.self.now.kinds c.args.self.now.each.items own new c.args.waiting.now
    c.in_default.ensures.uncounted all more

on_err : {T E : Type 0} (r : Result T E) {P : Type 0} → P → OnErr r P
on_err (Ok x) p = tt
on_err (Err e) p = p

pub returns-in_err-grow-clause-failed : goal.returns-in_err-grow-clause-failed
returns-in_err-grow-clause-failed c = λ own all.
    on_err c.from_residual.result (c.grow.ensures.same own all)

pub returns-clause-added : goal.returns-clause-added
returns-clause-added c = λ own new all more.
    let counts = c.grow.new.self.each.items in
    let kinds = c.grow.new.self.kinds in
    let at = c.in-Some.at in
    let within : at < length counts = search rules in
    let read = get_or_read counts at c.index.result.now within c.index.ensures 0 in
    let more-is : c.in-Some-checked_add.more ≡ c.index.result.now + 1 = search rules in
    let next : c.in-Some-checked_add.more ≡ get_or counts at 0 + 1 =
    more-is ∙ ap (λ n. n + 1) read in
    subst (λ (n : ℕ). AreCounted kinds (set counts at n) new) (sym next)
    (counted_more kinds counts own new c.args.waiting.now at
    (subst (λ (k : ℕ). IsCountedAt k c.args.waiting.now at) (sym c.grow.ensures.kinds)
    c.in-Some.ensures.counted)
    within (c.grow.ensures.same own all) more)
