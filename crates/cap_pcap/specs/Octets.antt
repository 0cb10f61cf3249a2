-- Numbers in either order of octets.
use Rattle.std.specs.Prelude.{ℕ, List}
use Rattle.byteorder.specs.Endian.{big_number, little_number}
use Rattle.cap_pcap.specs.declared.octets.Endianness.{Endianness}
use Rattle.cap_pcap.specs.declared.octets.Endianness.TheVariants as orders

-- the number in the first n octets
abbrev pub number_in : Endianness → ℕ → List ℕ → ℕ
number_in orders.Big n w = big_number n w
number_in orders.Little n w = little_number n w
