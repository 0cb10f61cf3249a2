-- What a handle's pointer to its unit owns.
use base.Fml.{Fml, ftrue}
use denote.RawPtr.{Ptr}
use Rattle.std.specs.Prelude.{Option, Some, None}
use Rattle.std.specs.Box.Ownership.{box_owns}
use Rattle.std.specs.declared.alloc.Global.{Global}
use Rattle.std.specs.contracts.impls.GlobalAllocator.TheImpl.{ghosts}
use Rattle.its_loctable.specs.contracts.sorted.SortedTable as table
use Rattle.its_loctable.specs.contracts.sorted.SortedTableLocationStore.TheImpl as store
use Rattle.its_unit.specs.Unit.{UnitState}
use Rattle.its_unit.specs.contracts.unit.Unit as unit_row

-- the pointer leads to this unit on the heap, or nothing is said of it
abbrev pub unit_ptr_owns : Global → Ptr → Option UnitState → Fml
unit_ptr_owns alloc at None = ftrue
unit_ptr_owns alloc at (Some st) =
    box_owns (ghosts.dealloc_token alloc) (unit_row.the_row table.the_row store.ghosts) at st
