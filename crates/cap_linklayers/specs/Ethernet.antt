-- Ethernet: target, source, up to two tags of IEEE 802.1Q, and the type.
use Rattle.std.specs.Prelude.{ℕ, ◌%◌, ◌==◌, ◌||◌, Bool, Option, Some, None, List, length, Result}
use Rattle.std.specs.Prelude.{nat_lt, if◌then◌else◌}
use Rattle.its_formats.specs.Format.{ends, value_of}
use Rattle.cap_linklayers.specs.declared.link.LinkFault.{LinkFault}
use Rattle.cap_linklayers.specs.LinkFormats.{Format, walk, any_number, skipped}

-- the protocols of a tag: of a customer (8100), of a service (88a8), or of a service in the form
-- that was used before IEEE 802.1ad (9100)
abbrev pub is_tag : ℕ → Bool
is_tag protocol = protocol == 33024 || protocol == 34984 || protocol == 37120

-- Where the type begins in a record of so many octets: behind the addresses, or behind one tag or
-- two. A tag has its protocol and two octets more. Without a tag the record may end anywhere.
unfoldable pub ethernet_format : ℕ → Format ℕ
ethernet_format size =
    if nat_lt size 14 then ends 12 else
    skipped 12 (any_number 2 λ first.
    if is_tag first
    then skipped 2 (any_number 2 λ second.
    if is_tag second then skipped 2 (any_number 2 λ _. ends 20) else ends 16) else ends 12)

-- where the type of a frame begins, or the first fault: the record ends before the type behind a tag
abbrev pub type_in : List ℕ → Result ℕ LinkFault
type_in w = value_of (walk (ethernet_format (length w)) w)

-- the VLAN identifier of the first tag, its lowest 12 bits, if a record of so many octets has it
unfoldable pub identifier_format : ℕ → Format (Option ℕ)
identifier_format size =
    if nat_lt size 16 then ends None else
    skipped 12 (any_number 2 λ first.
    if is_tag first then any_number 2 (λ control. ends (Some (control % 4096))) else ends None)

abbrev pub identifier_in : List ℕ → Result (Option ℕ) LinkFault
identifier_in w = value_of (walk (identifier_format (length w)) w)
