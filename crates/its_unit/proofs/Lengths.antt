-- How long a frame is that is released.
use Rattle.std.proofs.Common.{◌≡◌, ◌≤◌, ℕ, zero, suc, List, [], ◌∷◌, length, Bool, true, false}
use Rattle.std.proofs.Common.{Option, Some, None, refl, sym, subst, arith}
use Rattle.std.proofs.lemmas.List.Elements.{All-nil, All-cons}
use Rattle.std.proofs.lemmas.Option.{none-some, same_Some}
use Rattle.std.specs.Prelude.{IfSome, Vec}
use Rattle.std.specs.declared.alloc.Global.{Global}
use Rattle.its_model.specs.Contention.{HeldFrame, first_due, kept_at, next_due}
use Rattle.its_contention.specs.Buffer.{Buffer, after_drop, after_late}
use Rattle.its_contention.specs.Waiting.{Waiting, longest}
use Rattle.its_governor.specs.declared.governor.Governor.{Governor}
use Rattle.its_unit.specs.Contending.{Released, after_due_frame, governed_release, has_room_for_due}
use Rattle.its_unit.specs.Contending.{release_first, released_or}
use Rattle.its_unit.specs.Releases.{octets_released, octets_sent}
use Rattle.its_unit.proofs.Puts.{AllHeld, drop_keeps, late_keeps, released_is}

-- a frame of at most so many octets
abbrev IsShort : ℕ → Waiting → ℕ → Type 0
IsShort n f due = length f.octets ≤ n

all_short : (held : List (HeldFrame Waiting)) (n : ℕ) → longest held ≤ n → AllHeld (IsShort n) held
all_short [] n le = All-nil (λ (h : HeldFrame Waiting). IsShort n h.frame h.due)
all_short (h ∷ held) n le =
    let first : length h.frame.octets ≤ n = omega (arith, le) in
    let rest : longest held ≤ n = omega (arith, le) in
    All-cons (λ (x : HeldFrame Waiting). IsShort n x.frame x.due) h held first (all_short held n rest)

first_short : (most address now : ℕ) (b : Buffer Waiting) (g : Governor) (n : ℕ)
    → AllHeld (IsShort n) b.held
    → IfSome (release_first most address now b g).frame (λ f. length f.octets ≤ n)
first_short zero address now b g n all = tt
first_short (suc most) address now b g n all =
    by (first_due now b.held) refl (has_room_for_due g address now (first_due now b.held))
    (release_first most address now (after_drop b now)
    (after_due_frame g now (first_due now b.held) false))
    (first_short most address now (after_drop b now)
    (after_due_frame g now (first_due now b.held) false) n (drop_keeps (IsShort n) b now all))
  where
    by : (first : Option Waiting) → first_due now b.held ≡ first → (room : Bool) (rest : Released)
        → IfSome rest.frame (λ f. length f.octets ≤ n)
        → IfSome (released_or b g now first room rest).frame (λ f. length f.octets ≤ n)
    by None is room rest next = tt
    by (Some f) is true rest next =
        (released_is (next_due b.held) b.held (IsShort n) now f all is).holds
    by (Some f) is false rest next = next

short_sent : (sent : Option (Vec ℕ Global)) (o : Option Waiting) (n : ℕ)
    → octets_sent sent ≡ octets_released o → IfSome o (λ f. length f.octets ≤ n)
    → IfSome sent (λ w. length w.items ≤ n)
short_sent None o n same short = tt
short_sent (Some w) None n same short = absurd (none-some w.items (sym same))
short_sent (Some w) (Some f) n same short =
    subst (λ (xs : List ℕ). length xs ≤ n) (sym (same_Some w.items f.octets same)) short

-- what is released was among those that waited
pub released_short : (sent : Option (Vec ℕ Global)) (address now : ℕ) (b : Buffer Waiting)
    (g : Governor) → octets_sent sent ≡ octets_released (governed_release address now b g).frame
    → IfSome sent (λ w. length w.items ≤ longest b.held)
released_short sent address now b g same =
    let n = longest b.held in
    short_sent sent (governed_release address now b g).frame n same
    (first_short (length (kept_at now b.held)) address now (after_late b now) g n
    (late_keeps (IsShort n) now b.held (all_short b.held n (omega arith))))
