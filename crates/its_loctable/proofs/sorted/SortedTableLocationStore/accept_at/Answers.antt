use Rattle.std.proofs.Common.{◌≡◌, ◌∷◌, ◌≤◌, ◌^◌, ℕ, Result, Ok, Err, subst, sym, ◌∙◌}
use Rattle.its_loctable.specs.declared.store.Verdict.{Verdict}
use Rattle.its_loctable.specs.declared.store.Verdict.TheVariants.{Accepted, Duplicate}
use Rattle.its_loctable.specs.declared.refused.StoreRefused.{StoreRefused}
use Rattle.its_loctable.specs.declared.sorted.SortedTable.{SortedTable}
use Rattle.its_loctable.specs.SourceReport.{SourceReport}
use Rattle.its_loctable.specs.Found.{Admits}
use Rattle.its_loctable.specs.Eager.{eager_verdict}
use Rattle.its_loctable.specs.Content.{Represents}
use Rattle.its_loctable.specs.Heard.{reception}
use Rattle.its_loctable.specs.Sorted.{held, bare}
use Rattle.its_loctable.proofs.EagerAccept.{accepted}
use Rattle.its_loctable.proofs.EagerLemmas.{rising-true, apart-rising}
use Rattle.its_loctable.proofs.SortedLemmas.{rising_by}
use Rattle.its_loctable.proofs.VerdictLemmas.{admitted}
use Rattle.its_loctable.specs.Kept.{kept, numbers_of}
use Rattle.its_loctable.proofs.sorted.SortedTableLocationStore.accept_at.Goals as goal

-- what `accept_by` answers to a packet that a history admits
owed : (table : SortedTable) (now : ℕ) (heard : SourceReport) (r : Result Verdict StoreRefused)
    → now ≤ 2 ^ 62 → r ≡ eager_verdict table.capacity (kept table) now heard
    → Admits table.remembered table.capacity (kept table) now heard → r ≡ Ok Accepted
owed table now heard r small answer admits = answer
    ∙ admitted table.remembered table.capacity (kept table) now heard small
    (apart-rising (kept table)
    (rising_by (numbers_of table) table.slots.items
    (rising-true (bare table.slots.items) table.rising))) admits

not_duplicate : (v : Verdict) (r : Result Verdict StoreRefused) → r ≡ Ok v → v ≡ Duplicate
    → r ≡ Ok Accepted → ⊥
not_duplicate v r found duplicate accepted = cc

not_refused : (e : StoreRefused) (r : Result Verdict StoreRefused) → r ≡ Err e → r ≡ Ok Accepted
    → ⊥
not_refused e r found accepted = cc

pub unreachable-requires : goal.unreachable-requires
unreachable-requires c =
    not_duplicate c.in-Ok-Duplicate.field-0 c.accept_by.result c.in-Ok-Duplicate.is
    c.in-Ok-Duplicate.field-0-is
    (owed c.args.self.now c.args.now c.args.h.now c.accept_by.result c.requires.moment
    c.accept_by.ensures.answer c.requires.new)

pub unreachable-requires-in-Err : goal.unreachable-requires-in-Err
unreachable-requires-in-Err c =
    not_refused c.in-Err.field-0 c.accept_by.result c.in-Err.is
    (owed c.args.self.now c.args.now c.args.h.now c.accept_by.result c.requires.moment
    c.accept_by.ensures.answer c.requires.new)

pub returns-clause-accepted : goal.returns-clause-accepted
returns-clause-accepted c = λ history rep.
    let table = c.args.self.now in
    let of = numbers_of table in
    subst (λ n. Represents n (kept c.accept_by.new.self)
    (reception c.args.now c.args.h.now ∷ history) c.args.now)
    (sym c.accept_by.ensures.remembered)
    (accepted table.remembered (held of table.slots.items) _ history c.args.now c.args.h.now
    c.requires.moment
    (rising_by of table.slots.items (rising-true (bare table.slots.items) table.rising)) rep
    (c.accept_by.ensures.accepted
    (owed table c.args.now c.args.h.now c.accept_by.result c.requires.moment
    c.accept_by.ensures.answer c.requires.new)))
