-- Each frame that began to wait is counted once when it leaves.
use Rattle.std.proofs.Common.{◌≡◌, ◌<◌, ◌+◌, ◌-◌, ◌^◌, ℕ, Bool, true, false, not, cond}
use Rattle.std.proofs.Common.{List, [], ◌∷◌, ◌++◌, length, map, filter, remove, min, arith, refl}
use Rattle.std.proofs.Common.{ap, ◌∙◌, Option, Some, None, is_some}
use Rattle.std.proofs.lemmas.Bool.{false≢true}
use Rattle.std.proofs.lemmas.List.Edits.{length-remove}
use Rattle.std.proofs.lemmas.Option.{slice_get_within}
use Rattle.std.specs.Prelude.{slice_get, nat_le}
use Rattle.std.specs.Option.{option_map}
use Rattle.its_model.specs.Contention.{ContentionRule, HeldFrame, after_copy, after_due, cancelled_by}
use Rattle.its_model.specs.Contention.{counted, first_due, frame_at, place_due, stays, without}
use Rattle.its_contention.specs.Buffer.{Buffer, empty, after_hearing, after_late, with_frame}
use Rattle.its_contention.specs.Counted.{AreCounted, BufferCall, after_call, after_calls}

-- the two parts of a list
filter_parts : {A : Type 0} (p : A → Bool) (xs : List A)
    → length (filter p xs) + length (filter (λ x. not (p x)) xs) ≡ length xs
filter_parts p [] = refl
filter_parts p (x ∷ xs) = by (p x) (filter_parts p xs)
  where
    by : (b : Bool)
        → length (filter p xs) + length (filter (λ y. not (p y)) xs) ≡ length xs
        → length (cond b (x ∷ filter p xs) (filter p xs))
        + length (cond (not b) (x ∷ filter (λ y. not (p y)) xs) (filter (λ y. not (p y)) xs))
        ≡ length (x ∷ xs)
    by true rest = omega arith
    by false rest = omega arith

map_length : {A B : Type 0} (f : A → B) (xs : List A) → length (map f xs) ≡ length xs
map_length f [] = refl
map_length f (x ∷ xs) = (let rest = map_length f xs in omega arith)

append_one : {A : Type 0} (xs : List A) (x : A) → length (xs ++ x ∷ []) ≡ length xs + 1
append_one [] x = refl
append_one (y ∷ xs) x = (let rest = append_one xs x in omega arith)

-- a copy cancels what it does not leave
copy_parts : {F : Type 0} (k : ℕ) (p : F → Bool) (s : ℕ) (held : List (HeldFrame F))
    → length (after_copy k p s held) + length (cancelled_by k p s held) ≡ length held
copy_parts {F} k p s held =
    let heard = map (counted p s) held in
    ap (λ n. length (filter (stays k) heard) + n)
    (map_length (λ (h : HeldFrame F). h.frame) (filter (λ h. not (stays k h)) heard))
    ∙ filter_parts (stays k) heard
    ∙ map_length (counted p s) held

-- a frame at a place is taken out
taken_at : {F : Type 0} (held : List (HeldFrame F)) (place : Option ℕ)
    → is_some (frame_at held place) ≡ true → length (without held place) + 1 ≡ length held
taken_at held None is = absurd (false≢true is)
taken_at {F} held (Some place) is = by (slice_get held place) refl is
  where
    by : (o : Option (HeldFrame F)) → slice_get held place ≡ o
        → is_some (option_map (λ (h : HeldFrame F). h.frame) o) ≡ true
        → length (remove held place) + 1 ≡ length held
    by None e found = absurd (false≢true found)
    by (Some h) e found =
        length-remove held place (slice_get_within held place h e)

-- ---- each call

held_once : {F : Type 0} (b : Buffer F) (frame : F) (due : ℕ) → AreCounted b
    → AreCounted (with_frame b frame due)
held_once {F} b frame due counts below =
    let one = append_one b.held (record { frame = frame; due = due; senders = [] }) in
    let before = counts (omega arith) in
    omega arith

cancelled_once : {F : Type 0} (b : Buffer F) (is_copy : F → Bool) (sender : ℕ) → AreCounted b
    → AreCounted (after_hearing b is_copy sender)
cancelled_once b is_copy sender counts below =
    let parts = copy_parts b.rule.copies is_copy sender b.held in
    let before = counts below in
    omega arith

late_once : {F : Type 0} (b : Buffer F) (now : ℕ) → AreCounted b → AreCounted (after_late b now)
late_once b now counts below =
    let parts = filter_parts (λ h. nat_le now (h.due + 1000)) b.held in
    let before = counts below in
    omega arith

due_once : {F : Type 0} (b : Buffer F) (now : ℕ) (found : Bool)
    → is_some (first_due now b.held) ≡ found → AreCounted b
    → AreCounted (cond found (record b {
      held = after_due now b.held;
      counts = record b.counts { released = min (b.counts.released + 1) (2 ^ 64 - 1) };
    }) b)
due_once b now false is counts below = counts below
due_once b now true is counts below =
    let taken = taken_at b.held (place_due now b.held) is in
    let before = counts below in
    omega arith

dropped_once : {F : Type 0} (b : Buffer F) (now : ℕ) (found : Bool)
    → is_some (first_due now b.held) ≡ found → AreCounted b
    → AreCounted (cond found (record b {
      held = after_due now b.held;
      counts = record b.counts { dropped = min (b.counts.dropped + 1) (2 ^ 64 - 1) };
    }) b)
dropped_once b now false is counts below = counts below
dropped_once b now true is counts below =
    let taken = taken_at b.held (place_due now b.held) is in
    let before = counts below in
    omega arith

once : {F : Type 0} (b : Buffer F) (call : BufferCall F) → AreCounted b
    → AreCounted (after_call b call)
once b (BufferCall.Hold frame due) counts = held_once b frame due counts
once b (BufferCall.Hear is_copy sender) counts = cancelled_once b is_copy sender counts
once b (BufferCall.DropLate now) counts = late_once b now counts
once b (BufferCall.TakeDue now) counts = due_once b now (is_some (first_due now b.held)) refl counts
once b (BufferCall.DropDue now) counts =
    dropped_once b now (is_some (first_due now b.held)) refl counts
once b BufferCall.Clear counts = λ below. (let before = counts below in omega arith)
once b BufferCall.NoteFull counts = counts

each_once : {F : Type 0} (b : Buffer F) (calls : List (BufferCall F)) → AreCounted b
    → AreCounted (after_calls b calls)
each_once b [] counts = counts
each_once b (call ∷ calls) counts = each_once (after_call b call) calls (once b call counts)

pub none_is_lost : {F : Type 0} (rule : ContentionRule) (calls : List (BufferCall F))
    → AreCounted (after_calls (empty rule) calls)
none_is_lost rule calls = each_once (empty rule) calls (λ below. refl)
