use Rattle.std.proofs.Common.{◌≡◌, ℕ, ltb, take, count_by}
use Rattle.its_loctable.specs.declared.slot.Slot.{Slot}
use Rattle.its_loctable.proofs.ordered.OrderedTable.first_expired.Given as goal

abbrev pub invariant-loop-i : goal.invariant-loop-i
invariant-loop-i l = count_by (λ (e : ℕ × Slot). ltb l.now e.1.until)
    (take l.i l.self.slots.entries) ≡ l.i
