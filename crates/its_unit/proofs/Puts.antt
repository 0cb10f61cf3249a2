-- Frames that wait: what holds of each, by the frame and when it is due, stays so.
use Rattle.std.proofs.Common.{◌≡◌, ℕ, zero, suc, ◌+◌, ◌-◌, ◌*◌, ◌/◌, ◌%◌, ◌^◌, ◌≤◌, ◌<◌, List, []}
use Rattle.std.proofs.Common.{◌∷◌, length, map, Bool, true, false, cond, not, ◌&&◌}
use Rattle.std.proofs.Common.{Option, Some, None, eqb, refl, sym, ap, subst, ◌∙◌, take, drop}
use Rattle.std.proofs.Common.{inl, inr, arith, mod-lt, All, is_some}
use Rattle.std.specs.Prelude.{◌≢◌, ◌⊎◌, slice_get, slice_index_or, nat_le, nat_lt, position}
use Rattle.std.specs.List.{position_or_len, prefix_len}
use Rattle.std.specs.Option.{option_map}
use Rattle.std.proofs.lemmas.Bool.Decides.{nat_tests}
use Rattle.std.proofs.lemmas.List.Elements.{All-nil, All-cons, All-head, All-tail, All-append}
use Rattle.std.proofs.lemmas.List.Elements.{All-filter, All-take, All-drop, filter_passes}
use Rattle.its_model.specs.History.{is_among}
use Rattle.its_model.specs.Contention.{ContentionRule, shorter, wait, HeldFrame, newly_held}
use Rattle.its_model.specs.Contention.{after_due, counted, counted_as, first_due, frame_at, kept_at}
use Rattle.its_model.specs.Contention.{late_after, place_due, place_due_by, stays, without}
use Rattle.its_model.proofs.NumberTests.{eq_test}
use Rattle.its_contention.specs.Buffer.{Buffer, after_drop, after_release, more}
use Rattle.its_contention.specs.Counted.{BufferCall, after_call, after_calls}
use Rattle.its_contention.specs.Waiting.{Waiting}

-- ---- how long a frame waits

-- no more than this is taken off
at_most : (k : ℕ) (r : ContentionRule) (d2 : ℕ) → shorter r d2 k ≤ k
unfolding shorter
at_most zero r d2 = omega arith
at_most (suc k) r d2 =
    by (nat_le ((suc k * (100 * r.range)) ^ 2) ((r.max_wait - r.min_wait) ^ 2 * d2)) (at_most k r d2)
  where
    by : (b : Bool) → shorter r d2 k ≤ k → cond b (suc k) (shorter r d2 k) ≤ suc k
    by true le = omega arith
    by false le = omega (arith, le)

-- nor by the tie
tie_at_most : (tie span : ℕ) → tie % (span / 2 + 1) ≤ span
tie_at_most tie span =
    let some : 0 < span / 2 + 1 = omega arith in
    let less : tie % (span / 2 + 1) < span / 2 + 1 = mod-lt tie some in
    let half : span / 2 ≤ span = omega arith in
    omega (arith, less, half)

pub wait_least : (o : Option ℕ) (r : ContentionRule) (tie : ℕ) → r.min_wait ≤ r.max_wait
    → r.min_wait ≤ wait r tie o
unfolding wait
wait_least None r tie order =
    omega (arith, order, tie_at_most tie (r.max_wait - r.min_wait))
wait_least (Some d2) r tie order =
    omega (arith, order, at_most (r.max_wait - r.min_wait) r d2)

-- ---- a call on the frames keeps it

abbrev pub AllHeld : (Waiting → ℕ → Type 0) → List (HeldFrame Waiting) → Type 0
AllHeld P held = All (λ h. P h.frame h.due) held

-- a count of copies leaves both
counted_keeps : (b : Bool) (P : Waiting → ℕ → Type 0) (sender : ℕ) (h : HeldFrame Waiting)
    → P h.frame h.due → P (counted_as b sender h).frame (counted_as b sender h).due
counted_keeps false P sender h p = p
counted_keeps true P sender h p = by (is_among sender h.senders)
  where
    by : (b : Bool)
        → let x = cond (true && not b) (record h { senders = sender ∷ h.senders }) h in
        P x.frame x.due
    by true = p
    by false = p

all_counted : (held : List (HeldFrame Waiting)) (P : Waiting → ℕ → Type 0)
    (is_copy : Waiting → Bool) (sender : ℕ)
    → AllHeld P held → AllHeld P (map (counted is_copy sender) held)
all_counted [] P is_copy sender all = all
all_counted (h ∷ held) P is_copy sender all =
    let Q = λ (x : HeldFrame Waiting). P x.frame x.due in
    All-cons Q (counted is_copy sender h) (map (counted is_copy sender) held)
    (counted_keeps (is_copy h.frame) P sender h (All-head Q h held all))
    (all_counted held P is_copy sender (All-tail Q h held all))

all_without : (o : Option ℕ) (held : List (HeldFrame Waiting)) (P : Waiting → ℕ → Type 0)
    → AllHeld P held → AllHeld P (without held o)
all_without None held P all = all
all_without (Some i) held P all =
    let Q = λ (x : HeldFrame Waiting). P x.frame x.due in
    All-append Q (take i held) (drop (suc i) held) (All-take Q i held all)
    (All-drop Q (suc i) held all)

-- without the one that is due
pub drop_keeps : (P : Waiting → ℕ → Type 0) (b : Buffer Waiting) (now : ℕ) → AllHeld P b.held
    → AllHeld P (after_drop b now).held
drop_keeps P b now all = by (is_some (first_due now b.held))
  where
    by : (x : Bool) → AllHeld P (cond x (record b {
      held = after_due now b.held;
      counts = record b.counts { dropped = more b.counts.dropped 1 };
    }) b).held
    by true = all_without (place_due now b.held) b.held P all
    by false = all

take_keeps : (P : Waiting → ℕ → Type 0) (b : Buffer Waiting) (now : ℕ) → AllHeld P b.held
    → AllHeld P (after_release b now).held
take_keeps P b now all = by (is_some (first_due now b.held))
  where
    by : (x : Bool) → AllHeld P (cond x (record b {
      held = after_due now b.held;
      counts = record b.counts { released = more b.counts.released 1 };
    }) b).held
    by true = all_without (place_due now b.held) b.held P all
    by false = all

-- each frame that these calls put has this
abbrev pub PutsOnly : (Waiting → ℕ → Type 0) → List (BufferCall Waiting) → Type 0
PutsOnly P [] = Unit {0}
PutsOnly P (BufferCall.Hold frame due ∷ calls) = P frame due × PutsOnly P calls
PutsOnly P (BufferCall.Hear is_copy sender ∷ calls) = PutsOnly P calls
PutsOnly P (BufferCall.DropLate now ∷ calls) = PutsOnly P calls
PutsOnly P (BufferCall.TakeDue now ∷ calls) = PutsOnly P calls
PutsOnly P (BufferCall.DropDue now ∷ calls) = PutsOnly P calls
PutsOnly P (BufferCall.Clear ∷ calls) = PutsOnly P calls
PutsOnly P (BufferCall.NoteFull ∷ calls) = PutsOnly P calls

pub late_keeps : (P : Waiting → ℕ → Type 0) (now : ℕ) (held : List (HeldFrame Waiting))
    → AllHeld P held → AllHeld P (kept_at now held)
late_keeps P now held all =
    All-filter (λ h. nat_le now (h.due + late_after))
    (λ (x : HeldFrame Waiting). P x.frame x.due) held all

pub calls_keep : (calls : List (BufferCall Waiting)) (P : Waiting → ℕ → Type 0)
    (b : Buffer Waiting) → AllHeld P b.held → PutsOnly P calls
    → AllHeld P (after_calls b calls).held
calls_keep [] P b all puts = all
calls_keep (BufferCall.Hold frame due ∷ calls) P b all puts =
    let Q = λ (x : HeldFrame Waiting). P x.frame x.due in
    let one = newly_held frame due in
    calls_keep calls P _
    (All-append Q b.held (one ∷ []) all (All-cons Q one [] puts.0 (All-nil Q))) puts.1
calls_keep (BufferCall.Hear is_copy sender ∷ calls) P b all puts =
    calls_keep calls P _ (All-filter (stays b.rule.copies)
    (λ (x : HeldFrame Waiting). P x.frame x.due) (map (counted is_copy sender) b.held)
    (all_counted b.held P is_copy sender all)) puts
calls_keep (BufferCall.DropLate now ∷ calls) P b all puts =
    calls_keep calls P _ (late_keeps P now b.held all) puts
calls_keep (BufferCall.TakeDue now ∷ calls) P b all puts =
    calls_keep calls P (after_release b now) (take_keeps P b now all) puts
calls_keep (BufferCall.DropDue now ∷ calls) P b all puts =
    calls_keep calls P (after_drop b now) (drop_keeps P b now all) puts
calls_keep (BufferCall.Clear ∷ calls) P b all puts =
    calls_keep calls P _ (All-nil (λ (x : HeldFrame Waiting). P x.frame x.due)) puts
calls_keep (BufferCall.NoteFull ∷ calls) P b all puts = calls_keep calls P _ all puts

-- ---- the rule stays

release_rule : (b : Buffer Waiting) (now : ℕ) → (after_release b now).rule ≡ b.rule
release_rule b now = by (is_some (first_due now b.held))
  where
    by : (x : Bool) → (cond x (record b {
      held = after_due now b.held;
      counts = record b.counts { released = more b.counts.released 1 };
    }) b).rule ≡ b.rule
    by true = refl
    by false = refl

drop_rule : (b : Buffer Waiting) (now : ℕ) → (after_drop b now).rule ≡ b.rule
drop_rule b now = by (is_some (first_due now b.held))
  where
    by : (x : Bool) → (cond x (record b {
      held = after_due now b.held;
      counts = record b.counts { dropped = more b.counts.dropped 1 };
    }) b).rule ≡ b.rule
    by true = refl
    by false = refl

call_rule : (call : BufferCall Waiting) (b : Buffer Waiting) → (after_call b call).rule ≡ b.rule
call_rule (BufferCall.Hold frame due) b = refl
call_rule (BufferCall.Hear is_copy sender) b = refl
call_rule (BufferCall.DropLate now) b = refl
call_rule (BufferCall.TakeDue now) b = release_rule b now
call_rule (BufferCall.DropDue now) b = drop_rule b now
call_rule BufferCall.Clear b = refl
call_rule BufferCall.NoteFull b = refl

pub calls_rule : (calls : List (BufferCall Waiting)) (b : Buffer Waiting)
    → (after_calls b calls).rule ≡ b.rule
calls_rule [] b = refl
calls_rule (call ∷ calls) b = calls_rule calls (after_call b call) ∙ call_rule call b

-- ---- what is released

-- a frame that waits is due by now
pub record IsDue (P : Waiting → ℕ → Type 0) (now : ℕ) (f : Waiting) : Type 0 where
  pub due : ℕ
  pub holds : P f due
  pub not_after : due ≤ now

-- where the test first passes it passes
found_at : (held : List (HeldFrame Waiting)) (P : Waiting → ℕ → Type 0) (due now : ℕ) (f : Waiting)
    → due ≤ now → AllHeld P held
    → option_map (λ h. h.frame) (slice_get held (prefix_len (λ h. not (eqb h.due due)) held))
    ≡ Some f
    → IsDue P now f
found_at [] P due now f le all is = cc
found_at (h ∷ held) P due now f le all is =
    let Q = λ (x : HeldFrame Waiting). P x.frame x.due in
    by (eq_test h.due due) (All-head Q h held all)
    (found_at held P due now f le (All-tail Q h held all)) is
  where
    by : ((eqb h.due due ≡ true) × (h.due ≡ due)) ⊎ ((eqb h.due due ≡ false) × (h.due ≢ due))
        → P h.frame h.due
        → (option_map (λ x. x.frame)
        (slice_get held (prefix_len (λ x. not (eqb x.due due)) held)) ≡ Some f → IsDue P now f)
        → option_map (λ x. x.frame)
        (slice_get (h ∷ held)
        (cond (not (eqb h.due due)) (1 + prefix_len (λ x. not (eqb x.due due)) held) 0))
        ≡ Some f
        → IsDue P now f
    by (inl e) here rest is =
        let at : Some h.frame ≡ Some f =
        sym (ap {B = Option Waiting} (λ b. option_map (λ (x : HeldFrame Waiting). x.frame)
        (slice_get (h ∷ held)
        (cond (not b) (1 + prefix_len (λ x. not (eqb x.due due)) held) 0))) e.0) ∙ is in
        let same : h.frame ≡ f = cc in
        record {
          due = h.due;
          holds = subst (λ (x : Waiting). P x h.due) same here;
          not_after = omega (arith, e.1, le);
        }
    by (inr e) here rest is =
        let n = prefix_len (λ (x : HeldFrame Waiting). not (eqb x.due due)) held in
        let more : 1 + n ≡ suc n = omega arith in
        rest (sym (ap {B = Option Waiting} (λ b. option_map (λ (x : HeldFrame Waiting). x.frame)
        (slice_get (h ∷ held) (cond (not b) (1 + n) 0))) e.0
        ∙ ap {B = Option Waiting} (λ i. option_map (λ (x : HeldFrame Waiting). x.frame)
        (slice_get (h ∷ held) i)) more) ∙ is)

found : (b : Bool) (held : List (HeldFrame Waiting)) (P : Waiting → ℕ → Type 0) (due now : ℕ)
    (f : Waiting) → due ≤ now → AllHeld P held
    → frame_at held (cond b (Some (position_or_len (λ h. eqb h.due due) held)) None) ≡ Some f
    → IsDue P now f
found true held P due now f le all is = found_at held P due now f le all is
found false held P due now f le all is = cc

-- a test of order
in_order : (a b : ℕ) → nat_le a b ≡ true → a ≤ b
in_order a b h = grind (arith, nat_tests)

pub released_is : (o : Option ℕ) (held : List (HeldFrame Waiting)) (P : Waiting → ℕ → Type 0)
    (now : ℕ) (f : Waiting) → AllHeld P held → frame_at held (place_due_by now held o) ≡ Some f
    → IsDue P now f
released_is None held P now f all is = cc
released_is (Some due) held P now f all is = by (nat_le due now) refl is
  where
    by : (b : Bool) → nat_le due now ≡ b
        → frame_at held (cond b (position (λ h. eqb h.due due) held) None) ≡ Some f
        → IsDue P now f
    by true le at =
        found (nat_lt (position_or_len (λ h. eqb h.due due) held) (length held)) held P due now f
        (in_order due now le) all at
    by false le at = cc

-- those that are kept are not late
pub kept_in_time : (P : Waiting → ℕ → Type 0) (now : ℕ) (held : List (HeldFrame Waiting))
    → AllHeld P held
    → AllHeld (λ (f : Waiting) (due : ℕ). P f due × (now ≤ due + late_after)) (kept_at now held)
kept_in_time P now held all =
    let kept = kept_at now held in
    let test = λ (h : HeldFrame Waiting). nat_le now (h.due + late_after) in
    let puts : AllHeld P kept = late_keeps P now held all in
    λ i d lt. (
      puts i d lt,
      in_order now ((slice_index_or kept i d).due + late_after) (filter_passes test held i d lt),
    )
