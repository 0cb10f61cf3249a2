-- The frames of a world, in octets.
use Rattle.std.specs.Prelude.{ℕ, ◌-◌, List, [], ◌∷◌, Vec, Option, None}
use Rattle.std.specs.Prelude.{cond, nat_le, slice_get}
use Rattle.std.specs.declared.alloc.Global.{Global}
use Rattle.its_model.specs.Packet.{Transmission}
use Rattle.its_linkframe.specs.Frames.{EncodesFrame}

-- these octets are these frames, one for one
abbrev pub AreFrames : List (Vec ℕ Global) → List Transmission → Type 0
AreFrames [] [] = Unit {0}
AreFrames [] (t ∷ air) = ⊥
AreFrames (w ∷ frames) [] = ⊥
AreFrames (w ∷ frames) (t ∷ air) = EncodesFrame t w.items × AreFrames frames air

-- the frame of a number, where these are kept and so many before them were let go; none where it
-- was let go, or there is no such frame
abbrev pub frame_in : ℕ → List (Vec ℕ Global) → ℕ → Option (Vec ℕ Global)
frame_in released frames k = cond (nat_le released k) (slice_get frames (k - released)) None
