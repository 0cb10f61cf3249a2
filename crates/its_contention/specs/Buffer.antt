-- The frames that wait, with their rule and counts, and each call on them.
use Rattle.std.specs.Prelude.{◌≡◌, ℕ, ◌+◌, ◌-◌, ◌^◌, min, Bool, true, List, [], ◌∷◌, ◌++◌, length}
use Rattle.std.specs.Prelude.{map}
use Rattle.std.specs.Prelude.{Option, Some, None, is_some, if◌then◌else◌, All}
use Rattle.its_contention.specs.declared.counts.ContentionCounts.{ContentionCounts}
use Rattle.its_model.specs.Contention.{ContentionRule, HeldFrame, newly_held, stays}
use Rattle.its_model.specs.Contention.{after_copy, cancelled_by, kept_at, after_due, first_due}

-- A rule, the frames that wait by it, those that were cancelled or dropped last and are not
-- fetched, and how often each thing happened.
pub record Buffer (F : Type 0) : Type 0 where
  pub rule : ContentionRule
  pub held : List (HeldFrame F)
  pub left : List F
  pub counts : ContentionCounts

-- so many more, up to the greatest number
abbrev pub more : ℕ → ℕ → ℕ
more count n = min (count + n) (2 ^ 64 - 1)

-- all counts at 0
abbrev pub no_counts : ContentionCounts
no_counts = record { held = 0; released = 0; cancelled = 0; dropped = 0; full = 0 }

-- a new buffer
abbrev pub empty : {F : Type 0} → ContentionRule → Buffer F
empty rule = record { rule = rule; held = []; left = []; counts = no_counts }

-- after a frame was put
abbrev pub with_frame : {F : Type 0} → Buffer F → F → ℕ → Buffer F
with_frame b frame due =
    record b {
      held = b.held ++ newly_held frame due ∷ [];
      counts = record b.counts { held = more b.counts.held 1 };
    }

-- after a frame from this sender that may be a copy
abbrev pub after_hearing : {F : Type 0} → Buffer F → (F → Bool) → ℕ → Buffer F
after_hearing b is_copy sender =
    record b {
      held = after_copy b.rule.copies is_copy sender b.held;
      left = cancelled_by b.rule.copies is_copy sender b.held;
      counts = record b.counts {
        cancelled = more b.counts.cancelled
            (length (cancelled_by b.rule.copies is_copy sender b.held));
      };
    }

-- after the late frames were dropped
abbrev pub after_late : {F : Type 0} → Buffer F → ℕ → Buffer F
after_late b now =
    record b {
      held = kept_at now b.held;
      counts = record b.counts {
        dropped = more b.counts.dropped (length b.held - length (kept_at now b.held));
      };
    }

-- after the frame that is due was released, if one is
abbrev pub after_release : {F : Type 0} → Buffer F → ℕ → Buffer F
after_release b now =
    if is_some (first_due now b.held)
    then record b {
      held = after_due now b.held;
      counts = record b.counts { released = more b.counts.released 1 };
    }
    else b

-- after the frame that is due was dropped, if one is
abbrev pub after_drop : {F : Type 0} → Buffer F → ℕ → Buffer F
after_drop b now =
    if is_some (first_due now b.held)
    then record b {
      held = after_due now b.held;
      counts = record b.counts { dropped = more b.counts.dropped 1 };
    }
    else b

-- after all were dropped
abbrev pub cleared : {F : Type 0} → Buffer F → Buffer F
cleared b =
    record b {
      held = [];
      left = map (λ h. h.frame) b.held;
      counts = record b.counts { dropped = more b.counts.dropped (length b.held) };
    }

-- after a frame went at once since no place was free
abbrev pub with_full : {F : Type 0} → Buffer F → Buffer F
with_full b = record b { counts = record b.counts { full = more b.counts.full 1 } }

-- the first of those that left, and the others
abbrev pub first_left : {F : Type 0} → List F → Option F
first_left [] = None
first_left (frame ∷ left) = Some frame

abbrev pub rest_left : {F : Type 0} → List F → List F
rest_left [] = []
rest_left (frame ∷ left) = left

-- Too few senders were counted of each to cancel it.
abbrev pub AllStay : {F : Type 0} → ℕ → List (HeldFrame F) → Type 0
AllStay copies held = All (λ h. stays copies h ≡ true) held
