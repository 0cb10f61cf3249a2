-- The frame of a world that was read last.
use Rattle.std.specs.Prelude.{◌≡◌, ℕ, ◌+◌, ◌<◌, List, Vec, Some, length}
use Rattle.std.specs.declared.alloc.Global.{Global}
use Rattle.its_station.specs.Known.{AreContentsOf}
use Rattle.its_world.specs.Frames.{frame_in}
use Rattle.its_world.specs.declared.world.ReadFrame.{ReadFrame}

-- a frame of this number was sent, and these are the contents of its octets if they are kept
abbrev pub IsReadFrom : ℕ → List (Vec ℕ Global) → ReadFrame → Type 0
IsReadFrom released frames r = (r.number < released + length frames)
    × ((w : Vec ℕ Global) → frame_in released frames r.number ≡ Some w
    → AreContentsOf w.items r.contents)
