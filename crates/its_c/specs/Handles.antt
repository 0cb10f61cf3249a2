-- What C's pointer to a handle owns.
use base.Fml.{Fml, ftrue}
use denote.RawPtr.{Ptr}
use Rattle.std.specs.Prelude.{Option, Some, None}
use Rattle.std.specs.Box.Ownership.{box_owns}
use Rattle.std.specs.declared.alloc.Global.{Global}
use Rattle.std.specs.contracts.impls.GlobalAllocator.TheImpl.{ghosts}
use Rattle.its_c.specs.declared.handle.Geostation.{Geostation}
use Rattle.its_c.specs.contracts.handle.Geostation as geostation

-- the pointer leads to this handle on the heap
abbrev pub handle_owns : Global → Ptr → Geostation → Fml
handle_owns alloc at handle =
    box_owns (ghosts.dealloc_token alloc) geostation.the_row at handle

-- the pointer leads to this handle on the heap, or nothing is said of it
abbrev pub handle_out_owns : Global → Ptr → Option Geostation → Fml
handle_out_owns alloc at None = ftrue
handle_out_owns alloc at (Some handle) = handle_owns alloc at handle
