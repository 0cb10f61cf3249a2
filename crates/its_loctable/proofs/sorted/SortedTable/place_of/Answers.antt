use Rattle.std.proofs.Common.{◌∙◌}
use Rattle.its_loctable.proofs.SortedLemmas.{column-rises, column-found, column-gap}
use Rattle.its_loctable.proofs.sorted.SortedTable.place_of.Goals as goal

pub search-requires : goal.search-requires
search-requires c =
    let table = c.args.self.now in
    column-rises table.slots.items c.deref.result.now (c.deref.ensures.value ∙ table.column)
    table.rising

pub returns-clause-found : goal.returns-clause-found
returns-clause-found c =
    let table = c.args.self.now in
    column-found table.slots.items c.deref.result.now c.args.address _ c.search.result
    (c.deref.ensures.value ∙ table.column) table.slots.ok.0 c.search.ensures.found

pub returns-clause-absent : goal.returns-clause-absent
returns-clause-absent c =
    let table = c.args.self.now in
    column-gap table.slots.items c.deref.result.now c.args.address _ c.search.result
    (c.deref.ensures.value ∙ table.column) table.slots.ok.0 c.search.ensures.absent
