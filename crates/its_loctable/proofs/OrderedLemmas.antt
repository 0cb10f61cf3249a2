-- What a table in the order of insertion has of a source.
use Rattle.std.proofs.Common.{◌≡◌, ℕ, Bool, true, false, cond, List, [], ◌∷◌, Option, Some, None}
use Rattle.std.proofs.Common.{refl, sym, ap, ◌∙◌, ◌+◌, ◌||◌, eqb, ltb, count_by, is_some}
use Rattle.std.proofs.Common.{true≢false, ◌≤◌, ◌^◌, Ok, Err, All, length, unwrap_or, Result, arith}
use Rattle.std.specs.Prelude.{OnOk, OnErr}
use Rattle.std.proofs.lemmas.List.{length-reverse}
use Rattle.std.proofs.lemmas.List.Elements.{All-cons}
use Rattle.std.specs.Map.{lookup, keys_of}
use Rattle.std.specs.List.{list_any, IsDistinct, AllByRecursion}
use Rattle.std.proofs.lemmas.List.Sums.{sum_by-cons}
use Rattle.std.proofs.lemmas.Bool.{eqb-true, eq-eqb, le-ltb, cond-true, cond-false}
use Rattle.its_loctable.specs.declared.slot.Slot.{Slot}
use Rattle.its_model.specs.History.{Reception, Known, entry_life, renewed}
use Rattle.its_loctable.specs.SourceReport.{SourceReport}
use Rattle.its_loctable.specs.declared.store.Verdict.TheVariants.{Accepted}
use Rattle.its_loctable.specs.declared.refused.StoreRefused.TheVariants.{Full}
use Rattle.its_loctable.specs.Content.{Entry, entry_at, Represents, Hears}
use Rattle.its_loctable.specs.Heard.{is_noted, verdict_at}
use Rattle.its_loctable.specs.Slots.{slot_known}
use Rattle.its_loctable.specs.Ordered.{slot_entry, contained, IsExpired, HaveLimit}
use Rattle.its_loctable.proofs.ContentLemmas.{AreApart}
use Rattle.its_loctable.proofs.VerdictLemmas.{verdict-full, verdict-room}

-- the live part of a slot that may be there
abbrev pub slot_part : ℕ → Option Slot → Option Known
slot_part t None = None
slot_part t (Some slot) = cond (ltb t slot.until) (Some (slot_known slot)) None

slot_part-cond : (t : ℕ) (b : Bool) (slot : Slot) (rest : Option Slot)
    → slot_part t (cond b (Some slot) rest) ≡ cond b (slot_part t (Some slot)) (slot_part t rest)
slot_part-cond t true slot rest = refl
slot_part-cond t false slot rest = refl

pub entry_at-contained : (es : List (ℕ × Slot)) (source t : ℕ) → entry_at (contained es) source t
    ≡ slot_part t (lookup (eqb source) es)
entry_at-contained [] source t = refl
entry_at-contained (e ∷ es) source t =
    ap (cond (eqb source e.0) (slot_part t (Some e.1))) (entry_at-contained es source t)
    ∙ sym (slot_part-cond t (eqb source e.0) e.1 (lookup (eqb source) es))

-- a look-up that changes at one source alone
pub Hears-slots : (remember : ℕ) (old new : List (ℕ × Slot)) (r : Reception) (slot : Slot)
    → ((s : ℕ) → lookup (eqb s) new ≡ cond (eqb r.vector.address s) (Some slot)
    (lookup (eqb s) old))
    → slot_known slot ≡ renewed remember (entry_at (contained old) r.vector.address r.moment) r
    → slot.until ≡ r.moment + entry_life → Hears remember (contained old) (contained new) r
Hears-slots remember old new r slot updated is until = record {
  live = λ t s from.
      entry_at-contained new s t ∙ ap (slot_part t) (updated s)
      ∙ slot_part-cond t (eqb r.vector.address s) slot (lookup (eqb s) old)
      ∙ by t s (eqb r.vector.address s) refl;
}
  where
    by : (t s : ℕ) (b : Bool) → eqb r.vector.address s ≡ b → cond b (slot_part t (Some slot))
        (slot_part t (lookup (eqb s) old))
        ≡ cond b (cond (ltb t (r.moment + entry_life))
        (Some (renewed remember (entry_at (contained old) s r.moment) r)) None)
        (entry_at (contained old) s t)
    by t s true e = (λ i. cond (ltb t (until i)) (Some (is i)) None)
        ∙ ap (λ n. cond (ltb t (r.moment + entry_life))
        (Some (renewed remember (entry_at (contained old) n r.moment) r)) None)
        (eqb-true r.vector.address s e)
    by t s false e = sym (entry_at-contained old s t)

pub count-contained : (es : List (ℕ × Slot)) (t : ℕ) → count_by (λ (e : ℕ × Slot). ltb t e.1.until)
    es ≡ count_by (λ (e : Entry). ltb t e.until) (contained es)
count-contained [] t = refl
count-contained (e ∷ es) t = sum_by-cons (λ (d : ℕ × Slot). cond (ltb t d.1.until) 1 0) e es
    ∙ ap (λ n. cond (ltb t e.1.until) 1 0 + n) (count-contained es t)
    ∙ sym (sum_by-cons (λ (d : Entry). cond (ltb t d.until) 1 0) (slot_entry e) (contained es))

none_same : (n : ℕ) (es : List (ℕ × Slot)) → AllByRecursion (λ m. eqb n m ≡ false) (keys_of es)
    → list_any (λ (d : Entry). eqb n d.address) (contained es) ≡ false
none_same n [] h = refl
none_same n (e ∷ es) h = (λ i. h.0 i || none_same n es h.1 i)

-- the entries of a map are apart
pub apart-contained : (es : List (ℕ × Slot)) → IsDistinct eqb (keys_of es) → AreApart (contained es)
unfolding IsDistinct
apart-contained [] h = tt
apart-contained (e ∷ es) h = (none_same e.0 es h.0, apart-contained es h.1)

-- a live entry is what the slot that a look-up gives says
pub entry_at-live : (es : List (ℕ × Slot)) (source t : ℕ) (slot : Slot) → Some slot
    ≡ lookup (eqb source) es → true ≡ is_some (entry_at (contained es) source t)
    → entry_at (contained es) source t ≡ Some (slot_known slot)
entry_at-live es source t slot found live = by (ltb t slot.until)
    (entry_at-contained es source t ∙ ap (slot_part t) (sym found)) live
  where
    by : (b : Bool) → entry_at (contained es) source t ≡ cond b (Some (slot_known slot)) None → true
        ≡ is_some (entry_at (contained es) source t) → entry_at (contained es) source t
        ≡ Some (slot_known slot)
    by true e live = e
    by false e live = absurd (true≢false (live ∙ ap is_some e))

pub entry_at-none : (es : List (ℕ × Slot)) (source t : ℕ) → None ≡ lookup (eqb source) es → true
    ≡ is_some (entry_at (contained es) source t) → ⊥
entry_at-none es source t none live =
    true≢false (live ∙ ap is_some (entry_at-contained es source t ∙ ap (slot_part t) (sym none)))

-- a table without an expired slot
pub entry_at-evicted : (old new : List (ℕ × Slot)) (address now : ℕ) → IsExpired old address now
    → ((s : ℕ) → lookup (eqb s) new ≡ cond (eqb address s) None (lookup (eqb s) old))
    → (t source : ℕ) → now ≤ t → entry_at (contained new) source t
    ≡ entry_at (contained old) source t
entry_at-evicted old new address now gone updated t source from =
    entry_at-contained new source t ∙ ap (slot_part t) (updated source)
    ∙ by (eqb address source) refl
  where
    by : (b : Bool) → eqb address source ≡ b → slot_part t (cond b None (lookup (eqb source) old))
        ≡ entry_at (contained old) source t
    by true e =
        let is : gone.slot.until ≤ t = omega (arith, gone.expired) in
        sym (entry_at-contained old source t ∙ ap (λ n. slot_part t (lookup (eqb n) old))
        (sym (eqb-true address source e)) ∙ ap (slot_part t) gone.there
        ∙ cond-false (ltb t gone.slot.until) (Some (slot_known gone.slot)) None (le-ltb _ _ is))
    by false e = sym (entry_at-contained old source t)

-- a content that was changed before the packet in no way that shows
pub Hears-same : (remember : ℕ) (old mid new : List Entry) (r : Reception)
    → ((t source : ℕ) → r.moment ≤ t → entry_at mid source t ≡ entry_at old source t)
    → Hears remember mid new r → Hears remember old new r
Hears-same remember old mid new r same hears = record {
  live = λ t source from. hears.live t source from
      ∙ (λ i. cond (eqb r.vector.address source)
      (cond (ltb t (r.moment + entry_life))
      (Some (renewed remember (same r.moment source (omega arith) i) r)) None)
      (same t source from i));
}

-- ---- how many numbers are remembered
pub limits-updated : (n : ℕ) (old new : List (ℕ × Slot)) (address : ℕ) (o : Option Slot)
    → HaveLimit n old → ((s : ℕ) → lookup (eqb s) new ≡ cond (eqb address s) o (lookup (eqb s) old))
    → ((slot : Slot) → o ≡ Some slot → slot.recent.limit ≡ n) → HaveLimit n new
limits-updated n old new address o all updated one s slot found = by (eqb address s)
    (sym (updated s) ∙ found)
  where
    by : (b : Bool) → cond b o (lookup (eqb s) old) ≡ Some slot → slot.recent.limit ≡ n
    by true e = one slot e
    by false e = all s slot e

pub limits-put : (n : ℕ) (old new : List (ℕ × Slot)) (address : ℕ) (slot : Slot) → HaveLimit n old
    → ((s : ℕ) → lookup (eqb s) new ≡ cond (eqb address s) (Some slot) (lookup (eqb s) old))
    → slot.recent.limit ≡ n → HaveLimit n new
limits-put n old new address slot all updated is =
    limits-updated n old new address (Some slot) all updated
    (λ other e. ap (λ (o : Option Slot). (unwrap_or o other).recent.limit) (sym e) ∙ is)

-- whatever a call answered
pub on_either : {X Y : Type 0} {P Q R : Type 0} → (r : Result X Y) → OnOk r P → OnErr r Q → (P → R)
    → (Q → R) → R
on_either (Ok x) p q f g = f p
on_either (Err y) p q f g = g q

tail_limits : (n : ℕ) (e : ℕ × Slot) (es : List (ℕ × Slot))
    → AllByRecursion (λ m. eqb e.0 m ≡ false) (keys_of es) → HaveLimit n (e ∷ es) → HaveLimit n es
tail_limits n e es apart all s slot found = by (eqb s e.0) refl
  where
    absent : (l : List (ℕ × Slot)) → AllByRecursion (λ m. eqb e.0 m ≡ false) (keys_of l)
        → lookup (eqb e.0) l ≡ None
    absent [] h = refl
    absent (d ∷ l) h = cond-false (eqb e.0 d.0) (Some d.1) (lookup (eqb e.0) l) h.0 ∙ absent l h.1

    by : (b : Bool) → eqb s e.0 ≡ b → slot.recent.limit ≡ n
    by true q = absurd
        (true≢false (ap is_some (sym found ∙ ap (λ m. lookup (eqb m) es) (eqb-true s e.0 q)
        ∙ absent es apart)))
    by false q = all s slot (cond-false (eqb s e.0) (Some e.1) (lookup (eqb s) es) q ∙ found)

-- no entry has more numbers
pub few-contained : (n : ℕ) (es : List (ℕ × Slot)) → IsDistinct eqb (keys_of es) → HaveLimit n es
    → All (λ (e : Entry). length e.known.numbers ≤ n) (contained es)
unfolding IsDistinct
few-contained n [] apart all = λ k d within. absurd (omega arith)
few-contained n (e ∷ es) apart all =
    All-cons (λ (d : Entry). length d.known.numbers ≤ n) (slot_entry e) (contained es)
    (let limit : e.1.recent.limit
    ≡ n = all e.0 e.1
    (cond-true (eqb e.0 e.0) (Some e.1) (lookup (eqb e.0) es) (eq-eqb e.0 e.0 refl)) in
    omega (arith, length-reverse e.1.recent.numbers, e.1.few, limit))
    (few-contained n es apart.1 (tail_limits n e es apart.0 all))

-- ---- the answer that is owed for a source that isn't live, by the count of live slots
module _ (remember : ℕ) (es : List (ℕ × Slot)) (history : List Reception) (now capacity : ℕ)
    (heard : SourceReport) (small : now ≤ 2 ^ 62)
    (rep : Represents remember (contained es) history now)
    (unique : IsDistinct eqb (keys_of es))
    (fresh : is_noted (entry_at (contained es) heard.vector.address now) heard.number ≡ false)
    (none : entry_at (contained es) heard.vector.address now ≡ None) where
  pub owed-full : ltb (count_by (λ (e : ℕ × Slot). ltb now e.1.until) es) capacity ≡ false
      → verdict_at remember capacity now heard history ≡ Err Full
  owed-full fails = verdict-full remember (contained es) history now capacity heard small rep
      (apart-contained es unique) fresh none
      (ap (λ n. ltb n capacity) (sym (count-contained es now)) ∙ fails)

  pub owed-room : ltb (count_by (λ (e : ℕ × Slot). ltb now e.1.until) es) capacity ≡ true
      → verdict_at remember capacity now heard history ≡ Ok Accepted
  owed-room passes = verdict-room remember (contained es) history now capacity heard small rep
      (apart-contained es unique) fresh none
      (ap (λ n. ltb n capacity) (sym (count-contained es now)) ∙ passes)
