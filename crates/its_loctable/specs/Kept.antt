-- What a table in ascending order of addresses keeps of its sources.
use Rattle.std.specs.Prelude.{ℕ, List}
use Rattle.its_loctable.specs.declared.sorted.SortedTable.{SortedTable}
use Rattle.its_loctable.specs.declared.sorted.slot.SortedSlot.{SortedSlot}
use Rattle.its_loctable.specs.Content.{Entry}
use Rattle.its_loctable.specs.Rows.{numbers_at}
use Rattle.its_loctable.specs.Sorted.{held}

-- the numbers of a slot of the table
abbrev pub numbers_of : SortedTable → SortedSlot → List ℕ
numbers_of table = numbers_at table.remembered table.numbers.items

abbrev pub kept : SortedTable → List Entry
kept table = held (numbers_of table) table.slots.items
