-- Frames that Ethernet filled up with octets of 0.
use Rattle.std.specs.Prelude.{◌≡◌, ℕ, ◌≤◌, ◌⊎◌, List, length, take, drop, All}
use Rattle.its_linkframe.specs.Frames.{IsFrame}

-- the first n octets are a frame
abbrev pub IsFrameEnd : List ℕ → ℕ → Type 0
IsFrameEnd w n = (n ≤ length w) × IsFrame (take n w)

-- at most 60 octets: a frame of n, and octets of 0 behind it
pub record IsPadded (w : List ℕ) (n : ℕ) : Type 0 where
  pub short : length w ≤ 60
  pub frame : IsFrameEnd w n
  pub zeros : All (λ b. b ≡ 0) (drop n w)

-- the frame without what fills it up; all octets where they are no such frame
abbrev pub IsUnpadded : List ℕ → List ℕ → Type 0
IsUnpadded w r =
    ((n : ℕ) × IsPadded w n × (r ≡ take n w)) ⊎ (((n : ℕ) → ¬ IsPadded w n) × (r ≡ w))
