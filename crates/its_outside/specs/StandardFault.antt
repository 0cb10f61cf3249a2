-- The first fault of octets that no packet of the standard begins: at the first field that no
-- packet's encoding has after the fields before it, with the kind of that field, or at the end of
-- the octets where they end before or in a field.
use Rattle.std.specs.Prelude.{◌≡◌, ◌≤◌, ◌<◌, ℕ, ◌+◌, ◌*◌, ◌/◌, ◌%◌, List, [], ◌∷◌, ◌++◌, length}
use Rattle.std.specs.Prelude.{drop, ◌⊎◌, ◌==◌, if◌then◌else◌}
use Rattle.byteorder.specs.Endian.{big_number}
use Rattle.its_faults.specs.declared.packet.Fault.{Fault}
use Rattle.its_faults.specs.declared.packet.FaultKind.TheVariants.{Truncated, Version, BasicNext}
use Rattle.its_faults.specs.declared.packet.FaultKind.TheVariants.{CommonNext, HeaderType, SubType}
use Rattle.its_faults.specs.declared.packet.FaultKind.TheVariants.{HopAboveMax, PayloadLength}
use Rattle.its_formats.specs.FirstFault as rows
use Rattle.its_formats.specs.FirstFault.{half, whole}
use Rattle.its_headers.specs.FirstFault.{Row}
use Rattle.its_headers.specs.Format.{packet_faults}
use Rattle.its_outside.specs.Encoding.{Standard, Encodes}

-- Basic Header: version, next header, reserved, lifetime, hops left. Common Header: next header,
-- reserved, header type, sub-type, traffic class, flags, payload length, greatest hops, reserved. A
-- field that is never wrong has Truncated.
abbrev pub common_rows : List Row
common_rows =
    half Version ∷ half BasicNext ∷ whole 1 Truncated ∷ whole 1 Truncated ∷ whole 1 Truncated
    ∷ half CommonNext ∷ half Truncated ∷ half HeaderType ∷ half SubType ∷ whole 1 Truncated
    ∷ whole 1 Truncated ∷ whole 2 PayloadLength ∷ whole 1 HopAboveMax ∷ whole 1 Truncated ∷ []

-- a long position vector: address, timestamp, latitude, longitude, accuracy with speed, heading
abbrev pub long_rows : List Row
long_rows = whole 8 Truncated ∷ whole 4 Truncated ∷ whole 4 Truncated ∷ whole 4 Truncated
    ∷ whole 2 Truncated ∷ whole 2 Truncated ∷ []

-- a short position vector: address, timestamp, latitude, longitude
abbrev pub short_rows : List Row
short_rows = whole 8 Truncated ∷ whole 4 Truncated ∷ whole 4 Truncated ∷ whole 4 Truncated ∷ []

-- an area: latitude, longitude, distances a and b, angle, reserved
abbrev pub area_rows : List Row
area_rows = whole 4 Truncated ∷ whole 4 Truncated ∷ whole 2 Truncated ∷ whole 2 Truncated
    ∷ whole 2 Truncated ∷ whole 2 Truncated ∷ []

-- a sequence number, two reserved octets and the source's vector
abbrev pub numbered_rows : List Row
numbered_rows = whole 2 Truncated ∷ whole 2 Truncated ∷ long_rows

-- the extended header of a header type and sub-type
abbrev pub extended_rows : ℕ → ℕ → List Row
extended_rows type subtype =
    if type == 1 then long_rows else if type == 2 then numbered_rows ++ short_rows else if type == 3
    then numbered_rows ++ area_rows else if type == 4
    then numbered_rows ++ area_rows else if type == 5
    then (if subtype == 0 then long_rows ++ whole 4 Truncated ∷ [] else numbered_rows)
    else (if subtype == 0
    then numbered_rows ++ whole 8 Truncated ∷ [] else numbered_rows ++ short_rows)

-- the fields of a packet with the type, sub-type and payload length that the octets name
abbrev pub standard_rows : List ℕ → List Row
standard_rows w =
    let types = big_number 1 (drop 5 w) in
    let payload = big_number 2 (drop 8 w) in
    common_rows ++ extended_rows (types / 16) (types % 16) ++ whole payload Truncated ∷ []

-- the fault among these fields, the first of which starts at this half octet, where the front
-- before it is sound: some packet's encoding begins with it
abbrev pub FaultAmong : List Row → ℕ → List ℕ → Fault → Type 0
FaultAmong fields start w f = rows.FaultAmong packet_faults Encodes fields start w f

-- the fault among all fields
unfoldable pub StandardFault : List ℕ → Fault → Type 0
StandardFault w f = FaultAmong (standard_rows w) 0 w f
