use Rattle.test_support.proofs.shortage.Shortage.with_most.Given as goal

-- each size is below the last one
abbrev pub decreases-loop-size : goal.decreases-loop-size
decreases-loop-size l = l.size
