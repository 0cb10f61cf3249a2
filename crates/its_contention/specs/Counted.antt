-- The counts of the frames that wait, in every list of calls.
use Rattle.std.specs.Prelude.{◌≡◌, ◌<◌, ◌+◌, ◌-◌, ◌^◌, ℕ, Bool, List, [], ◌∷◌, length}
use Rattle.its_contention.specs.Buffer.{Buffer, with_frame, after_hearing, after_late}
use Rattle.its_contention.specs.Buffer.{after_release, after_drop, cleared, with_full}

-- A call on the frames that wait: a frame is put, one that may be a copy of some is heard, late ones
-- are dropped, the one that is due is released or dropped, all are dropped, or a frame finds no place.
pub data BufferCall (F : Type 0) : Type 0 where
  Hold : (frame : F) (due : ℕ) → BufferCall F
  Hear : (is_copy : F → Bool) (sender : ℕ) → BufferCall F
  DropLate : (now : ℕ) → BufferCall F
  TakeDue : (now : ℕ) → BufferCall F
  DropDue : (now : ℕ) → BufferCall F
  Clear : BufferCall F
  NoteFull : BufferCall F

-- the frames that wait after a call, and after many
abbrev pub after_call : {F : Type 0} → Buffer F → BufferCall F → Buffer F
after_call b (BufferCall.Hold frame due) = with_frame b frame due
after_call b (BufferCall.Hear is_copy sender) = after_hearing b is_copy sender
after_call b (BufferCall.DropLate now) = after_late b now
after_call b (BufferCall.TakeDue now) = after_release b now
after_call b (BufferCall.DropDue now) = after_drop b now
after_call b BufferCall.Clear = cleared b
after_call b BufferCall.NoteFull = with_full b

abbrev pub after_calls : {F : Type 0} → Buffer F → List (BufferCall F) → Buffer F
after_calls b [] = b
after_calls b (call ∷ calls) = after_calls (after_call b call) calls

-- Each frame that began to wait was released, cancelled or dropped, or still waits, as long as the
-- first of these counts is below the greatest number.
abbrev pub AreCounted : {F : Type 0} → Buffer F → Type 0
AreCounted b =
    b.counts.held < 2 ^ 64 - 1
    → b.counts.released + b.counts.cancelled + b.counts.dropped + length b.held ≡ b.counts.held
