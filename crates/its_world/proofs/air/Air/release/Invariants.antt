use Rattle.std.proofs.Common.{◌≡◌, ◌+◌, drop}
use Rattle.std.specs.VecDeque.{deque_len}
use Rattle.its_world.proofs.air.Air.release.Given as goal

-- so many more were let go
abbrev pub invariant-loop-gone : goal.invariant-loop-gone
invariant-loop-gone l = record {
  released : l.self.released ≡ l.fn.self.released + l._gone;
  kept : l.self.kept.items ≡ drop l._gone l.fn.self.kept.items;
  count : deque_len l.self.kept + l._gone ≡ deque_len l.fn.self.kept;
}
