use Rattle.std.proofs.Common.{◌≡◌, ◌<◌, ◌≤◌, ◌-◌, ℕ, true}
use Rattle.cap_linklayers.specs.Radiotap.{next_at}
use Rattle.cap_linklayers.proofs.radiotap.last_word.Given as goal

-- each word before this one says that another follows
abbrev pub invariant-loop-word : goal.invariant-loop-word
invariant-loop-word l =
    (l.word ≤ l.fn.size) × ((k : ℕ) → k < l.word → next_at l.fn.octets k ≡ true)

abbrev pub decreases-loop-word : goal.decreases-loop-word
decreases-loop-word l = l.fn.size - l.word
