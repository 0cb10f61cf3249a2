-- How long a frame keeps the channel busy (IEEE 802.11, OFDM, 10 MHz, 6 Mbit/s).
use Rattle.std.specs.Prelude.{ℕ, ◌+◌, ◌*◌, ◌/◌}

-- the bits of a frame of so many octets of Ethernet: 16 of the service field and 6 of the tail, and
-- its octets on the air, 26 of QoS header, 8 of LLC and SNAP and 4 of check sequence in place of 14
abbrev pub bits_on_air : ℕ → ℕ
bits_on_air length = 22 + 8 * (length + 24)

-- the symbols of so many bits: 48 in each, the last one filled up
abbrev pub symbols : ℕ → ℕ
symbols bits = (bits + 47) / 48

-- preamble and signal field take 40 microseconds, and each symbol 8
abbrev pub air_time : ℕ → ℕ
air_time length = 40 + 8 * symbols (bits_on_air length)
