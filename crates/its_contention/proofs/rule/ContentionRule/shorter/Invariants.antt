use Rattle.std.proofs.Common.{◌≡◌, ◌<◌, ◌≤◌, ◌+◌, ◌-◌, ◌*◌, ◌⊎◌}
use Rattle.its_contention.proofs.rule.ContentionRule.shorter.Given as goal

abbrev pub invariant-loop-over : goal.invariant-loop-over
invariant-loop-over l = record {
  order : l.fits < l.over;
  bound : l.over ≤ l.span + 1;
  below : l.fits * l.reach * (l.fits * l.reach) ≤ l.whole;
  above : (l.over ≡ l.span + 1) ⊎ (l.whole < l.over * l.reach * (l.over * l.reach));
}

abbrev pub decreases-loop-over : goal.decreases-loop-over
decreases-loop-over l = l.over - l.fits
