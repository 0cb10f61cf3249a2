-- The frames that were forwarded last, and the shares of their sources while the bucket of all
-- forwarded frames is under pressure. All lists here have the newest first.
use Rattle.std.specs.Prelude.{◌≡◌, ℕ, ◌+◌, ◌-◌, ◌*◌, ◌≤◌, ◌==◌, ◌&&◌, not, nat_lt, max, Bool}
use Rattle.std.specs.Prelude.{if◌then◌else◌, List, [], ◌∷◌, take, length, Option}
use Rattle.std.specs.Prelude.{Some, None}
use Rattle.std.specs.List.{list_any}
use Rattle.its_governor.specs.declared.rate.Rate.{Rate}
use Rattle.its_governor.specs.declared.shares.SharedFrame.{SharedFrame}

-- the last frames, and how many are kept
pub record ShareState : Type 0 where
  pub frames : List SharedFrame
  pub limit : ℕ

-- a frame of this source that was forwarded under pressure
abbrev pub is_sharing : ℕ → SharedFrame → Bool
is_sharing source f = f.pressed && f.source == source

-- one of these is such a frame
abbrev pub has_sharer : ℕ → List SharedFrame → Bool
has_sharer source frames = list_any (is_sharing source) frames

-- how many different sources have a frame among these that was forwarded under pressure
abbrev pub sharers : List SharedFrame → ℕ
sharers [] = 0
sharers (f ∷ frames) =
    if f.pressed && not (has_sharer f.source frames) then sharers frames + 1 else sharers frames

-- a frame of this source that was forwarded less than a share ago: the share of one of so many
-- sources is a frame in each of so many frames of the rate
abbrev pub is_recent : Rate → ℕ → ℕ → ℕ → SharedFrame → Bool
is_recent rate count source now f =
    f.source == source && nat_lt (rate.per_second * (now - f.time)) (1000 * max 1 count)

-- a source is within its share: none of its frames is so recent
abbrev pub is_within_share : Rate → List SharedFrame → ℕ → ℕ → Bool
is_within_share rate frames source now =
    not (list_any (is_recent rate (sharers frames) source now) frames)

-- one more frame
abbrev pub with_frame : SharedFrame → ShareState → ShareState
with_frame f s = record s { frames = take s.limit (f ∷ s.frames) }

-- ---- words of private functions

-- the count of sharers with one more frame before these
abbrev pub counted_with : ℕ → List SharedFrame → SharedFrame → ℕ
counted_with count frames f =
    if f.pressed && not (has_sharer f.source frames) then count + 1 else count

-- no other frame of its source was forwarded under pressure, as this one was
abbrev pub is_alone : List SharedFrame → SharedFrame → Bool
is_alone frames e = e.pressed && not (has_sharer e.source frames)

-- the count of sharers without the frame that goes, if one does
abbrev pub counted_without : ℕ → Option SharedFrame → List SharedFrame → ℕ
counted_without count None frames = count
counted_without count (Some e) frames = if is_alone frames e then count - 1 else count

-- the count that is kept beside the frames is that of their sharers
pub record IsTally (frames : List SharedFrame) (limit count : ℕ) : Type 0 where
  pub few : length frames ≤ limit
  pub most : limit ≤ 256
  pub is : count ≡ sharers frames
