use Rattle.std.proofs.Common.{◌≡◌, ◌≢◌, ℕ, ◌+◌, ◌-◌, ◌≤◌, ◌<◌, List, [], All, Some, None, true}
use Rattle.std.proofs.Common.{false, length, cond, get_or, subst, sym, ap, ◌∙◌, arith}
use Rattle.std.specs.Prelude.{insert, vec_len, vec_capacity}
use Rattle.std.proofs.lemmas.Bool.{lt-ltb, le-ltb}
use Rattle.std.proofs.lemmas.List.{append-nil, length-map}
use Rattle.std.proofs.lemmas.List.Elements.{All-pop, All-same, All-take, All-weaker}
use Rattle.its_model.specs.History.{renewed}
use Rattle.its_loctable.specs.declared.sorted.SortedTable.{SortedTable}
use Rattle.its_loctable.specs.declared.sorted.slot.SortedSlot.{SortedSlot}
use Rattle.its_loctable.specs.Heard.{reception}
use Rattle.its_loctable.specs.Content.{entry_at}
use Rattle.its_loctable.specs.Kept.{numbers_of}
use Rattle.its_loctable.specs.Rows.{numbers_at, IsRow, HasRow, AreOwned}
use Rattle.its_loctable.specs.Sorted.{known_by, entry_by, held, bare, addresses_of}
use Rattle.its_loctable.specs.Sorted.{IsGapFor}
use Rattle.its_loctable.specs.Bound.{is_within}
use Rattle.its_loctable.specs.Eager.{swept, upsert, is_rising}
use Rattle.its_loctable.proofs.EagerLemmas.{rising-true, true-rising, IsRising-upsert}
use Rattle.its_loctable.proofs.RowLemmas.{popped, inserted}
use Rattle.its_loctable.proofs.SortedLemmas.{key, absent-entry_at, gap-absent, absent-room}
use Rattle.its_loctable.proofs.SortedLemmas.{held-insert, held-same, entry-after, All-insert}
use Rattle.its_loctable.proofs.SortedLemmas.{swept-all, length-held, column-insert}
use Rattle.its_loctable.proofs.VerdictLemmas.{eager_verdict-by, is_noted-none}
use Rattle.its_loctable.proofs.sorted.SortedTable.hear_first.Goals as goal

-- no slot has an address that has a gap
absent_of : (table : SortedTable) (a gap : ℕ) → IsGapFor (addresses_of table.slots.items) a gap
    → All (λ (s : SortedSlot). key s ≢ a) table.slots.items
absent_of table a gap is =
    gap-absent table.slots.items a gap (rising-true (bare table.slots.items) table.rising) is

pub first-slot-requires-clause-row : goal.first-slot-requires-clause-row
first-slot-requires-clause-row c =
    let table = c.sweep_for-place.new.self in
    (All-pop (IsRow table.remembered (vec_len table.numbers)) table.free.items
    c.pop.new.self.items (Some c.in-Some.row) c.in-Some.ensures.items table.free_rows).1

pub invariant_of-self : goal.invariant_of-self
invariant_of-self c =
    let table = c.sweep_for-place.new.self in
    let xs = table.slots.items in
    let slot = c.first-slot.result in
    let some = c.in-Some.ensures in
    let place = c.sweep_for-place.result in
    let len = vec_len table.numbers in
    let fewer : vec_len c.pop.new.self + 1 ≡ vec_len table.free = some.cases in
    let room : vec_len table.slots < vec_capacity table.slots =
    omega (arith, fewer, table.total, table.room) in
    let put : c.insert.new.self.items ≡ insert xs place slot =
    c.insert.ensures.items ∙ ap (λ b. cond b (insert xs place slot) xs)
    (c.insert.ensures.succeeds room) in
    let grown : vec_len c.insert.new.self ≡ vec_len table.slots + 1 = c.insert.ensures.len
    ∙ ap (λ b. cond b (vec_len table.slots + 1) (vec_len table.slots))
    (c.insert.ensures.succeeds room) in
    let column = table.addresses.items in
    let own : c.address-in-Some.result ≡ key slot = c.address-in-Some.ensures
    ∙ sym c.first-slot.ensures.address in
    let column_room : vec_len table.addresses < vec_capacity table.addresses =
    omega (
      arith,
      fewer,
      table.total,
      table.column_room,
      table.slots.ok.0,
      table.addresses.ok.0,
      ap length table.column,
      length-map xs key,
    ) in
    let grown_column = insert column place c.address-in-Some.result in
    let added : c.insert-in-Some.new.self.items ≡ grown_column =
    c.insert-in-Some.ensures.items ∙ ap (λ b. cond b grown_column column)
    (c.insert-in-Some.ensures.succeeds column_room) in
    let gap : IsGapFor (addresses_of xs) (key slot) place =
    subst (λ a. IsGapFor (addresses_of xs) a place)
    (c.address.ensures ∙ sym c.first-slot.ensures.address) c.sweep_for-place.ensures.gap in
    let here : IsRow table.remembered len c.in-Some.row =
    (All-pop (IsRow table.remembered len) table.free.items c.pop.new.self.items
    (Some c.in-Some.row) some.items table.free_rows).1 in
    let fits : IsRow table.remembered len slot.row =
    subst (IsRow table.remembered len) (sym c.first-slot.ensures.row) here in
    record {
      rising = ap is_rising (ap bare put ∙ held-insert (λ _. []) xs slot place gap)
          ∙ true-rising (upsert (bare xs) (entry_by (λ _. []) slot))
          (IsRising-upsert (bare xs) (entry_by (λ _. []) slot)
          (rising-true (bare xs) table.rising));
      total = omega (arith, grown, fewer, table.total);
      room = omega (arith, c.insert.ensures.capacity, table.room);
      column = added ∙ (λ j. insert (table.column j) place (own j)) ∙ column-insert xs place slot
          ∙ ap addresses_of (sym put);
      column_room = omega (arith, c.insert-in-Some.ensures.capacity, table.column_room);
      free_room = omega (arith, some.capacity, table.free_room);
      some = table.some;
      rows = subst (λ n. All (HasRow table.remembered n) c.insert.new.self.items)
          (sym c.first-slot.ensures.len)
          (All-same (HasRow table.remembered len) _ _ put
          (All-insert (HasRow table.remembered len) xs place slot
          (fits, c.first-slot.ensures.few) table.rows));
      free_rows = subst (λ n. All (IsRow table.remembered n) c.pop.new.self.items)
          (sym c.first-slot.ensures.len)
          (All-same (IsRow table.remembered len) _ _ some.rest
          (All-take (IsRow table.remembered len) (vec_len table.free - 1) table.free.items
          table.free_rows));
      owned = subst (λ l. AreOwned l c.pop.new.self.items) (sym put)
          (inserted xs table.free.items c.pop.new.self.items c.in-Some.row place slot some.items
          c.first-slot.ensures.row table.owned);
      ends = All-same (λ (s : SortedSlot). c.min-self.result ≤ s.until) _ _ put
          (All-insert (λ (s : SortedSlot). c.min-self.result ≤ s.until) xs place slot
          (omega (arith, c.min-self.ensures))
          (All-weaker (λ (s : SortedSlot). table.first_end ≤ s.until)
          (λ (s : SortedSlot). c.min-self.result ≤ s.until)
          (λ s le. omega (arith, c.min-self.ensures)) xs table.ends));
      bound = All-same (λ (s : SortedSlot). is_within c.note.new.nearest s ≡ true) _ _ put
          (All-insert (λ (s : SortedSlot). is_within c.note.new.nearest s ≡ true) xs place slot
          c.note.ensures.within
          (All-weaker (λ (s : SortedSlot). is_within table.nearest s ≡ true)
          (λ (s : SortedSlot). is_within c.note.new.nearest s ≡ true)
          c.note.ensures.lower xs table.bound));
    }

pub invariant_of-self-in-None : goal.invariant_of-self-in-None
invariant_of-self-in-None c =
    let table = c.sweep_for-place.new.self in
    let none = c.in-None.ensures in
    let free : c.pop.new.self.items ≡ table.free.items =
    sym (none.items ∙ append-nil c.pop.new.self.items) in
    record {
      rising = table.rising;
      total = omega (arith, none.cases, table.total);
      room = table.room;
      column = table.column;
      column_room = table.column_room;
      free_room = omega (arith, none.capacity, table.free_room);
      some = table.some;
      rows = table.rows;
      free_rows = All-same (IsRow table.remembered (vec_len table.numbers)) _ _ free
          table.free_rows;
      owned = subst (λ l. AreOwned table.slots.items l) (sym free) table.owned;
      ends = table.ends;
      bound = table.bound;
    }

-- how many slots stand there after the sweep
lengths : (of after : SortedSlot → List ℕ) (now : ℕ) (xs ys : List SortedSlot)
    → held after ys ≡ swept now (held of xs) → length (swept now (held of xs)) ≡ length ys
lengths of after now xs ys is = ap length (sym is) ∙ length-held after ys

pub returns-in-Some-clause-answer : goal.returns-in-Some-clause-answer
returns-in-Some-clause-answer c =
    let table = c.args.self.now in
    let of = numbers_of table in
    let xs = table.slots.items in
    let a = c.args.heard.now.vector.address in
    let after = c.sweep_for-place.new.self in
    let count = lengths of (numbers_of after) c.args.now xs
    after.slots.items c.sweep_for-place.ensures.content in
    let few : length (swept c.args.now (held of xs)) < table.capacity =
    omega (
      arith,
      count,
      c.in-Some.ensures.cases,
      after.total,
      after.slots.ok.0,
      c.sweep_for-place.ensures.capacity,
    ) in
    sym (eager_verdict-by table.capacity (held of xs) c.args.now c.args.heard.now false true
    (is_noted-none _ c.args.heard.now.number (absent-entry_at of xs a c.args.now
    (absent_of c.args.self.now c.args.heard.now.vector.address c.args.gap c.requires.gap)))
    (absent-room of xs a c.args.now table.capacity
    (absent_of c.args.self.now c.args.heard.now.vector.address c.args.gap c.requires.gap)
    ∙ lt-ltb _ _ few))

pub returns-in-Some-clause-accepted : goal.returns-in-Some-clause-accepted
returns-in-Some-clause-accepted c = λ _.
    let table = c.args.self.now in
    let of = numbers_of table in
    let es = held of table.slots.items in
    let a = c.args.heard.now.vector.address in
    let r = reception c.args.now c.args.heard.now in
    let after = c.sweep_for-place.new.self in
    let swept_of = numbers_of after in
    let new_of = numbers_at after.remembered c.first-slot.new.numbers.items in
    let xs = after.slots.items in
    let slot = c.first-slot.result in
    let some = c.in-Some.ensures in
    let place = c.sweep_for-place.result in
    let room : vec_len after.slots < vec_capacity after.slots =
    omega (arith, some.cases, after.total, after.room) in
    let put : c.insert.new.self.items ≡ insert xs place slot =
    c.insert.ensures.items ∙ ap (λ b. cond b (insert xs place slot) xs)
    (c.insert.ensures.succeeds room) in
    let gap : IsGapFor (addresses_of xs) (key slot) place =
    subst (λ n. IsGapFor (addresses_of xs) n place)
    (c.address.ensures ∙ sym c.first-slot.ensures.address) c.sweep_for-place.ensures.gap in
    let others = popped xs after.free.items c.pop.new.self.items c.in-Some.row some.items
    after.owned in
    let same : All (λ (s : SortedSlot). new_of s ≡ swept_of s) xs = (λ k d within.
    c.first-slot.ensures.others (get_or xs k d) (others k d within) (after.rows k d within).1) in
    let known : known_by new_of slot ≡ renewed table.remembered (entry_at es a c.args.now) r =
    c.first-slot.ensures.known ∙ ap (λ n. renewed n None r) c.sweep_for-place.ensures.remembered
    ∙ ap (λ o. renewed table.remembered o r)
    (sym (absent-entry_at of table.slots.items a c.args.now
    (absent_of c.args.self.now c.args.heard.now.vector.address c.args.gap c.requires.gap))) in
    ap (held new_of) put ∙ held-insert new_of xs slot place gap
    ∙ ap (λ l. upsert l (entry_by new_of slot))
    (held-same swept_of new_of xs same ∙ c.sweep_for-place.ensures.content)
    ∙ ap (upsert (swept c.args.now es))
    (entry-after new_of table.remembered es slot c.args.now c.args.heard.now
    c.first-slot.ensures.address known c.first-slot.ensures.until)

pub returns-in-None-clause-answer : goal.returns-in-None-clause-answer
returns-in-None-clause-answer c =
    let table = c.args.self.now in
    let of = numbers_of table in
    let xs = table.slots.items in
    let a = c.args.heard.now.vector.address in
    let after = c.sweep_for-place.new.self in
    let count = lengths of (numbers_of after) c.args.now xs
    after.slots.items c.sweep_for-place.ensures.content in
    let many : table.capacity ≤ length (swept c.args.now (held of xs)) =
    omega (
      arith,
      count,
      c.in-None.ensures.cases.0,
      after.total,
      after.slots.ok.0,
      c.sweep_for-place.ensures.capacity,
    ) in
    sym (eager_verdict-by table.capacity (held of xs) c.args.now c.args.heard.now false false
    (is_noted-none _ c.args.heard.now.number (absent-entry_at of xs a c.args.now
    (absent_of c.args.self.now c.args.heard.now.vector.address c.args.gap c.requires.gap)))
    (absent-room of xs a c.args.now table.capacity
    (absent_of c.args.self.now c.args.heard.now.vector.address c.args.gap c.requires.gap)
    ∙ le-ltb _ _ many))

pub returns-in-None-clause-unchanged : goal.returns-in-None-clause-unchanged
returns-in-None-clause-unchanged c = λ _.
    let table = c.args.self.now in
    let of = numbers_of table in
    let xs = table.slots.items in
    let after = c.sweep_for-place.new.self in
    let count = lengths of (numbers_of after) c.args.now xs
    after.slots.items c.sweep_for-place.ensures.content in
    let le : length (held of xs) ≤ length (swept c.args.now (held of xs)) =
    omega (
      arith,
      count,
      c.in-None.ensures.cases.0,
      after.total,
      after.slots.ok.0,
      c.sweep_for-place.ensures.capacity,
      table.total,
      table.slots.ok.0,
      length-held of xs,
    ) in
    c.sweep_for-place.ensures.content ∙ swept-all c.args.now (held of xs) le
