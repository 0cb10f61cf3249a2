-- The moments of a pcapng file: ticks of an interface, and seconds that are added to each.
use Rattle.std.specs.Prelude.{◌≡◌, ℕ, ◌+◌, ◌-◌, ◌*◌, ◌/◌, ◌%◌, ◌^◌, ◌<◌, ◌≤◌, ◌⊎◌}
use Rattle.std.specs.Prelude.{nat_lt, if◌then◌else◌, Some}
use Rattle.cap_pcap.specs.declared.record.FineTime.{FineTime}

-- the ticks of a second, by the octet of `if_tsresol`: a power of 10, or of 2 where it is 128 and
-- more
abbrev pub ticks_of : ℕ → ℕ
ticks_of resolution =
    if nat_lt resolution 128 then 10 ^ resolution else 2 ^ (resolution - 128)

-- finer than 10^-19 or 2^-63
abbrev pub IsTooFine : ℕ → Type 0
IsTooFine resolution = ((19 < resolution) × (resolution < 128)) ⊎ (191 < resolution)

-- signed seconds of 64 bits: those that are added, and those that are taken
abbrev pub added_of : ℕ → ℕ
added_of offset = if nat_lt offset (2 ^ 63) then offset else 0

abbrev pub taken_of : ℕ → ℕ
taken_of offset = if nat_lt offset (2 ^ 63) then 0 else 2 ^ 64 - offset

-- milliseconds before seconds are taken: a fraction of a millisecond is cut down
abbrev pub milliseconds : ℕ → ℕ → ℕ → ℕ
milliseconds ticks offset_added timestamp = timestamp * 1000 / ticks + 1000 * offset_added

-- the moment, with the seconds that were taken, is those milliseconds
abbrev pub IsMoment : ℕ → ℕ → ℕ → ℕ → ℕ → Type 0
IsMoment ticks offset_added offset_taken timestamp moment =
    moment + 1000 * offset_taken ≡ milliseconds ticks offset_added timestamp

-- it would be below 0, or has no place in 64 bits
abbrev pub IsNoMoment : ℕ → ℕ → ℕ → ℕ → Type 0
IsNoMoment ticks offset_added offset_taken timestamp =
    (milliseconds ticks offset_added timestamp < 1000 * offset_taken)
    ⊎ (2 ^ 64 + 1000 * offset_taken ≤ milliseconds ticks offset_added timestamp)

-- The time below the millisecond: nanoseconds, whether there is a fraction of one too, and the
-- timestamp itself. Whole seconds that are added count nothing here.
abbrev pub fine_in : ℕ → ℕ → FineTime
fine_in ticks timestamp = record {
  nanos = timestamp * 1000000000 / ticks % 1000000;
  finer = nat_lt 0 (timestamp * 1000000000 % ticks);
  ticks = Some timestamp;
}
