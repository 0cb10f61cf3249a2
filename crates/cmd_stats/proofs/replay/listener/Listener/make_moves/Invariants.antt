use Rattle.std.proofs.Common.{◌≡◌, length}
use Rattle.cmd_stats.specs.Listening.{Listening, Represents, moved}
use Rattle.cmd_stats.proofs.replay.listener.Listener.make_moves.Given as goal

-- the moves so far are made: those up to the moment lead to the same from here on
abbrev pub invariant-loop-next : goal.invariant-loop-next
invariant-loop-next l = (m : Listening) → Represents l.fn.self m
    → (now : Listening) × Represents l.self now × (moved l.moment m ≡ moved l.moment now)

abbrev pub decreases-loop-next : goal.decreases-loop-next
decreases-loop-next l = length l.self.moves.now
