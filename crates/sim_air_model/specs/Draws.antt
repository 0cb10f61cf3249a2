-- What an air draws: all `next_u64` of a seeded generator, in the order in which they are asked.
use Rattle.std.specs.Prelude.{ℕ, List}
use Rattle.rand_core.specs.Steps.{stream_of, steps_u64_high}
use Rattle.rand_core.specs.Stream.{Stream}
use Rattle.rand_xoshiro.specs.SplitMix64.{splitmix_seed}
use Rattle.rand_xoshiro.specs.Xoshiro256.{plus_plus, of_seed}

-- all draws of a generator with these words
abbrev pub draws_at : List ℕ → Stream
draws_at words = stream_of (steps_u64_high plus_plus) words

-- all draws of a seed
abbrev pub draws_of : ℕ → Stream
draws_of seed = draws_at (of_seed (splitmix_seed 32 seed))
