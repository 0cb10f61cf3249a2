use Rattle.std.proofs.Common.{rules, sym, ◌+◌, List, ◌≤◌, ◌<◌, subst}
use denote.Ref.{Bor}
use Rattle.std.proofs.lemmas.List.Sorted.{All-permutation, IsNonDecreasingBy-from_sort_by_key}
use Rattle.std.proofs.lemmas.Fn.{always_returns_same}
use Rattle.sim_scenario.specs.Airs.{moment_of}
use Rattle.sim_scenario.specs.declared.events.event.FileEvent.{FileEvent}
use Rattle.sim_air.specs.FileEvents.{IsFiledInRange}
use Rattle.sim_air.proofs.FileEvents.{Kept, kept_push, kept_skip, due_in_order}
use Rattle.sim_air.proofs.filed.due_until.Goals.{then-moment-end+in_ok-push}
use Rattle.sim_air.proofs.filed.due_until.Goals.{else-moment-end}
use Rattle.sim_air.proofs.filed.due_until.Goals as goal

pub loop-filed-preserved : goal.loop-filed-preserved
loop-filed-preserved c =
    let events = c.args.file.now in
    let i = c.loop-filed.filed-index in
    let e = c.filed-item.result in
    let lt = c.loop-filed-test.true in
    let range : IsFiledInRange e =
    subst IsFiledInRange (sym c.filed-item.is) (c.requires.ranges i e lt) in
    elim c.if-moment-end.branch [
      | then-moment-end+in_ok-push w ↦ rw w.due-is (
          subst (λ (xs : List (Bor FileEvent)). Kept c.args.end xs events (i + 1))
          (sym w.in_ok-push.ensures.items)
          (kept_push c.args.end c.loop-filed.due.items events i _ c.loop-filed.invariant lt
          c.filed-item.is
          (subst (λ n. n ≤ c.args.end) c.moment.ensures w.if-moment-end.true) range))
      | else-moment-end w ↦ rw w.due-is (
          kept_skip c.args.end c.loop-filed.due.items events i e c.loop-filed.invariant lt
          c.filed-item.is (subst (λ n. c.args.end < n) c.moment.ensures w.if-moment-end.false))
    ]

pub returns : goal.returns
returns c =
    let sorted = c.sort_by_key.new.self.items in
    let moves = c.sort_by_key.ensures.permutation in
    let rises = IsNonDecreasingBy-from_sort_by_key (λ (e : Bor FileEvent). moment_of e.now) _
    c.in_ok-sort_by_key.ensures.sorted (λ a r q k. search rules) in
    record {
      due = due_in_order c.args.end c.loop-filed.due.items sorted c.args.file.now
          c.loop-filed.filed-index c.loop-filed-test.false c.loop-filed.invariant moves rises
          (c.sort_by_key.ensures.stable (λ (e : Bor FileEvent). moment_of e.now)
          (always_returns_same _ _ _ (λ a r q k. search rules)));
      ranges =
          All-permutation (λ (e : Bor FileEvent). IsFiledInRange e.now) c.loop-filed.due.items
          sorted moves c.loop-filed.invariant.ranges;
      within =
          All-permutation (λ (e : Bor FileEvent). moment_of e.now ≤ c.args.end)
          c.loop-filed.due.items sorted moves c.loop-filed.invariant.within;
      sorted = rises;
    }
