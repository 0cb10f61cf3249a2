use Rattle.std.proofs.Common.{sym, ◌∙◌, length, Ok}
use Rattle.std.proofs.lemmas.Bool.{eqb-true, ltb-true}
use Rattle.std.proofs.lemmas.List.{get_or_default}
use Rattle.its_loctable.proofs.AddressLemmas.{found_at}
use Rattle.its_loctable.proofs.SortedLemmas.{column-found}
use Rattle.its_loctable.proofs.sorted.SortedTable.place_expected.Goals as goal

pub returns-in-Some-clause-found : goal.returns-in-Some-clause-found
returns-in-Some-clause-found c =
    let table = c.args.self.now in
    let xs = c.deref.result.now in
    let i = table.expected in
    let within = ltb-true i (length xs) (sym c.in-Some.ensures.lookup.0) in
    let same = eqb-true _ _ (sym c.eq.ensures ∙ c.if-eq.true) in
    column-found table.slots.items xs c.args.address _ (Ok i)
    (c.deref.ensures.value ∙ table.column) table.slots.ok.0 (
      found_at xs c.args.address i within
          (λ d. get_or_default xs i d c.in-Some.found.now within
          ∙ sym c.in-Some.ensures.lookup.1 ∙ same),
      within,
    )
