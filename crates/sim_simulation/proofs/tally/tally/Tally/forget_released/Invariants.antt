use Rattle.std.proofs.Common.{◌≡◌, ◌+◌, drop}
use Rattle.std.specs.VecDeque.{deque_len}
use Rattle.sim_simulation.proofs.tally.tally.Tally.forget_released.Given as goal

-- so many more were let go, and nothing else changed
abbrev pub invariant-loop-gone : goal.invariant-loop-gone
invariant-loop-gone l = record {
  totals : l.self.totals ≡ l.fn.self.totals;
  sends : l.self.sends ≡ l.fn.self.sends;
  delivered : l.self.delivered ≡ l.fn.self.delivered;
  late : l.self.late ≡ l.fn.self.late;
  released : l.self.released ≡ l.fn.self.released + l._gone;
  carried : l.self.carried.items ≡ drop l._gone l.fn.self.carried.items;
  count : deque_len l.self.carried + l._gone ≡ deque_len l.fn.self.carried;
}
