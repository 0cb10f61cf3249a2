use Rattle.std.proofs.Common.{◌≡◌, ◌≢◌, ℕ, ◌≤◌, ◌<◌, [], All, length, get_or, set, refl, subst}
use Rattle.std.proofs.Common.{sym, ap, ◌∙◌, arith, true}
use Rattle.std.specs.Prelude.{vec_len}
use Rattle.std.proofs.lemmas.List.{get_or_default}
use Rattle.std.proofs.lemmas.List.Elements.{All-set, All-weaker}
use Rattle.its_model.specs.History.{renewed}
use Rattle.its_loctable.specs.declared.sorted.slot.SortedSlot.{SortedSlot}
use Rattle.its_loctable.specs.Heard.{reception}
use Rattle.its_loctable.specs.Content.{entry_at}
use Rattle.its_loctable.specs.Kept.{numbers_of}
use Rattle.its_loctable.specs.Rows.{numbers_at, IsRow, HasRow}
use Rattle.its_loctable.specs.Sorted.{known_by, entry_by, held, bare, addresses_of}
use Rattle.its_loctable.specs.Sorted.{IsFoundAt}
use Rattle.its_loctable.specs.Bound.{is_within}
use Rattle.its_loctable.specs.Eager.{swept, upsert, is_rising}
use Rattle.its_loctable.proofs.EagerLemmas.{rising-true, true-rising, IsRising-upsert, swept-upsert}
use Rattle.its_loctable.proofs.RowLemmas.{distinct, replaced}
use Rattle.its_loctable.proofs.SortedLemmas.{key, found-part, found_key, held-set, entry-after}
use Rattle.its_loctable.proofs.SortedLemmas.{rising_by, column-set}
use Rattle.its_loctable.proofs.sorted.SortedTable.renew.Goals as goal

pub renew-requires-clause-same : goal.renew-requires-clause-same
renew-requires-clause-same c =
    ap key c.index_mut-slot.ensures.value
    ∙ found_key c.args.self.now.slots.items c.args.heard.now.vector.address c.args.place
    c.index_mut-slot.result.now c.requires.found

pub renew-requires-clause-row : goal.renew-requires-clause-row
renew-requires-clause-row c =
    let table = c.args.self.now in
    subst (HasRow table.remembered (vec_len table.numbers)) (sym c.index_mut-slot.ensures.value)
    (table.rows c.args.place c.index_mut-slot.result.now
    (omega (arith, c.requires.within, table.slots.ok.0)))

pub invariant_of-self : goal.invariant_of-self
invariant_of-self c =
    let table = c.args.self.now in
    let xs = table.slots.items in
    let old = c.index_mut-slot.result.now in
    let next = c.renew.new.self in
    let within : c.args.place < length xs = omega (arith, c.requires.within, table.slots.ok.0) in
    let found = subst (λ a. IsFoundAt (addresses_of xs) a c.args.place)
    (sym c.renew.ensures.address) c.requires.found in
    let rising = rising-true (bare xs) table.rising in
    let here : HasRow table.remembered (vec_len table.numbers) old =
    subst (HasRow table.remembered (vec_len table.numbers)) (sym c.index_mut-slot.ensures.value)
    (table.rows c.args.place old within) in
    let fits : IsRow table.remembered (vec_len table.numbers) next.row =
    subst (IsRow table.remembered (vec_len table.numbers)) (sym c.renew.ensures.row) here.0 in
    record {
      rising = ap is_rising (held-set (λ _. []) (λ _. []) xs next c.args.place rising found
          (λ k d lt other. refl))
          ∙ true-rising (upsert (bare xs) (entry_by (λ _. []) next))
          (IsRising-upsert (bare xs) (entry_by (λ _. []) next) rising);
      total = table.total;
      room = table.room;
      column = table.column ∙ sym (column-set xs next c.args.place found);
      column_room = table.column_room;
      free_room = table.free_room;
      some = table.some;
      rows = subst (λ n. All (HasRow table.remembered n) (set xs c.args.place next))
          (sym c.renew.ensures.len)
          (All-set (HasRow table.remembered (vec_len table.numbers)) xs c.args.place next
          (fits, c.renew.ensures.few) table.rows);
      free_rows = subst (λ n. All (IsRow table.remembered n) table.free.items)
          (sym c.renew.ensures.len) table.free_rows;
      owned = replaced xs table.free.items c.args.place next old within c.renew.ensures.row
          c.index_mut-slot.ensures.value table.owned;
      ends = All-set (λ (s : SortedSlot). c.min-self.result ≤ s.until) xs c.args.place next
          (omega (arith, c.min-self.ensures))
          (All-weaker (λ (s : SortedSlot). table.first_end ≤ s.until)
          (λ (s : SortedSlot). c.min-self.result ≤ s.until)
          (λ s le. omega (arith, c.min-self.ensures)) xs table.ends);
      bound = All-set (λ (s : SortedSlot). is_within c.note.new.nearest s ≡ true) xs c.args.place
          next c.note.ensures.within
          (All-weaker (λ (s : SortedSlot). is_within table.nearest s ≡ true)
          (λ (s : SortedSlot). is_within c.note.new.nearest s ≡ true)
          c.note.ensures.lower xs table.bound);
    }

pub returns-clause-content : goal.returns-clause-content
returns-clause-content c =
    let table = c.args.self.now in
    let of = numbers_of table in
    let after = numbers_at table.remembered c.renew.new.numbers.items in
    let xs = table.slots.items in
    let next = c.renew.new.self in
    let old = c.index_mut-slot.result.now in
    let r = reception c.args.now c.args.heard.now in
    let place = c.args.place in
    let within : place < length xs = omega (arith, c.requires.within, table.slots.ok.0) in
    let found = subst (λ a. IsFoundAt (addresses_of xs) a place) (sym c.renew.ensures.address)
    c.requires.found in
    let rising = rising-true (bare xs) table.rising in
    let live : c.args.now < next.until = omega (arith, c.renew.ensures.until) in
    let same : (k : ℕ) (d : SortedSlot) → k < length xs → k ≢ place
    → after (get_or xs k d) ≡ of (get_or xs k d) = (λ k d lt other.
    c.renew.ensures.others (get_or xs k d)
    (λ e. distinct xs table.free.items place k d table.owned within lt other
    (e ∙ sym (ap (λ (s : SortedSlot). s.row)
    (get_or_default xs place d old within ∙ sym c.index_mut-slot.ensures.value))))
    (table.rows k d lt).1) in
    let part = found-part of xs c.args.heard.now.vector.address place c.args.now old
    c.index_mut-slot.ensures.value rising c.requires.found in
    let known : known_by after next
    ≡ renewed table.remembered (entry_at (held of xs) c.args.heard.now.vector.address c.args.now)
    r =
    c.renew.ensures.known ∙ ap (λ o. renewed table.remembered o r) (sym part) in
    ap (swept c.args.now) (held-set of after xs next place rising found same)
    ∙ swept-upsert c.args.now (held of xs) (entry_by after next) live (rising_by of xs rising)
    ∙ ap (upsert (swept c.args.now (held of xs)))
    (entry-after after table.remembered (held of xs) next c.args.now c.args.heard.now
    c.renew.ensures.address known c.renew.ensures.until)
