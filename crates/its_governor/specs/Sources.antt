-- Token buckets of sources, as a function of the frames that were forwarded last. All lists here have
-- the newest first.
use Rattle.std.specs.Prelude.{ℕ, ◌==◌, ◌≤◌, if◌then◌else◌, List, [], ◌∷◌, take, length, Option}
use Rattle.std.specs.Prelude.{Some, None, IsTrue}
use Rattle.its_governor.specs.declared.bucket.Bucket.{Bucket}
use Rattle.its_governor.specs.declared.rate.Rate.{Rate}
use Rattle.its_governor.specs.declared.sources.SourceDraw.{SourceDraw}
use Rattle.its_governor.specs.Bucket.{full, has_room, drawn, IsBounded}

-- the rate of each source, the buckets after the last frames, and how many of these are kept
pub record SourceState : Type 0 where
  pub rate : Rate
  pub draws : List SourceDraw
  pub limit : ℕ

-- the bucket of its source after a frame
abbrev pub bucket_after : Rate → SourceDraw → Bucket
bucket_after rate draw = record { rate = rate; parts = draw.parts; since = draw.since }

-- the bucket of a source after its last frame among these, or a full one
abbrev pub bucket_of : Rate → ℕ → List SourceDraw → Bucket
bucket_of rate source [] = full rate
bucket_of rate source (draw ∷ draws) =
    if draw.source == source then bucket_after rate draw else bucket_of rate source draws

-- a frame of a source that leaves its bucket so
abbrev pub draw_of : ℕ → Bucket → SourceDraw
draw_of source b = record { source = source; parts = b.parts; since = b.since }

-- one more frame of a source
abbrev pub with_draw : ℕ → ℕ → SourceState → SourceState
with_draw source now s =
    record s {
      draws = take s.limit
          (draw_of source (drawn (bucket_of s.rate source s.draws) now) ∷ s.draws);
    }

-- a frame that is forwarded: its source, and when
pub record Forwarded : Type 0 where
  pub source : ℕ
  pub time : ℕ

-- these frames may pass the buckets of their sources, one after the other
abbrev pub SourcesMayPass : SourceState → List Forwarded → Type 0
SourcesMayPass s [] = Unit {0}
SourcesMayPass s (f ∷ frames) =
    IsTrue (has_room (bucket_of s.rate f.source s.draws) f.time)
    × SourcesMayPass (with_draw f.source f.time s) frames

-- the buckets of sources after these frames
abbrev pub drawn_by : SourceState → List Forwarded → SourceState
drawn_by s [] = s
drawn_by s (f ∷ frames) = drawn_by (with_draw f.source f.time s) frames

-- when frames of a source passed
abbrev pub times_from : ℕ → List Forwarded → List ℕ
times_from source [] = []
times_from source (f ∷ frames) =
    if f.source == source then f.time ∷ times_from source frames else times_from source frames

-- Of each source the frames are bounded by the rate, if there are no more frames in all than are
-- kept.
abbrev pub SourcesAreBounded : SourceState → List Forwarded → Type 0
SourcesAreBounded s frames =
    length frames ≤ s.limit → (source : ℕ) → IsBounded s.rate (times_from source frames)

-- ---- words of private functions

-- the bucket of a source after its newest frame among these, if there is one
abbrev pub latest : Rate → ℕ → List SourceDraw → Option Bucket
latest rate source [] = None
latest rate source (draw ∷ draws) =
    if draw.source == source then Some (bucket_after rate draw) else latest rate source draws
