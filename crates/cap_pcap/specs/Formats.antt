-- The format of a file, by the four octets at its head.
use Rattle.std.specs.Prelude.{◌≡◌, ◌≢◌, ℕ, ◌/◌, ◌<◌, ◌≤◌, ◌⊎◌, List, length}
use Rattle.byteorder.specs.Endian.{big_number}
use Rattle.cap_pcap.specs.declared.format.Format.{Format}
use Rattle.cap_pcap.specs.declared.format.Format.TheVariants as formats
use Rattle.cap_pcap.specs.declared.pcap.Magic.{Magic}
use Rattle.cap_pcap.specs.Pcap.{HasMagic, mark_number}

-- 1f8b08 is gzip, whose files have more octets than four
abbrev pub IsGzip : List ℕ → Type 0
IsGzip w = (4 ≤ length w) × (big_number 4 w / 256 ≡ 2067208)

-- 0a0d0d0a is pcapng, one of the four marks of pcap is pcap, and all else is a capture
abbrev pub IsFormat : List ℕ → Format → Type 0
IsFormat w formats.Pcapng = (4 ≤ length w) × (big_number 4 w ≡ 168627466)
IsFormat w formats.Pcap = (m : Magic) × HasMagic m w
IsFormat w formats.Capture =
    (length w < 4)
    ⊎ ((big_number 4 w ≢ 168627466) × ((m : Magic) → big_number 4 w ≢ mark_number m))
