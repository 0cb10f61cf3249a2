-- The first fault of octets that no packet begins: at the first field that no packet's encoding has
-- after the fields before it, with the kind of that field, or at the end of the octets where they
-- end before or in a field.
use Rattle.std.specs.Prelude.{ℕ, ◌/◌, List, [], ◌∷◌, ◌++◌}
use Rattle.std.specs.Prelude.{drop, ◌==◌, if◌then◌else◌}
use Rattle.byteorder.specs.Endian.{big_number}
use Rattle.its_faults.specs.declared.packet.Fault.{Fault}
use Rattle.its_faults.specs.declared.packet.FaultKind.{FaultKind}
use Rattle.its_faults.specs.declared.packet.FaultKind.TheVariants.{Truncated, Version, BasicNext}
use Rattle.its_faults.specs.declared.packet.FaultKind.TheVariants.{Reserved, HopZero, CommonNext}
use Rattle.its_faults.specs.declared.packet.FaultKind.TheVariants.{HeaderType, SubType, HopAboveMax}
use Rattle.its_faults.specs.declared.packet.FaultKind.TheVariants.{PayloadLength, Position, Area}
use Rattle.its_model.specs.Packet.{Pdu}
use Rattle.its_formats.specs.FirstFault as rows
use Rattle.its_formats.specs.FirstFault.{half, whole}
use Rattle.its_headers.specs.Encoding.{Encodes}
use Rattle.its_headers.specs.Format.{packet_faults}

-- a field of a packet (a field that is never wrong has Truncated)
abbrev pub Row : Type 0
Row = rows.Row FaultKind

-- Basic Header: version, next header, reserved, lifetime, hops left. Common Header: next header,
-- reserved, header type, sub-type, traffic class, flags, payload length, greatest hops, reserved.
abbrev pub common_rows : List Row
common_rows =
    half Version ∷ half BasicNext ∷ whole 1 Reserved ∷ whole 1 Truncated ∷ whole 1 HopZero
    ∷ half CommonNext ∷ half Reserved ∷ half HeaderType ∷ half SubType ∷ whole 1 Truncated
    ∷ whole 1 Reserved ∷ whole 2 PayloadLength ∷ whole 1 HopAboveMax ∷ whole 1 Reserved ∷ []

-- a position vector: address, timestamp, latitude, longitude, accuracy with speed, heading
abbrev pub vector_rows : List Row
vector_rows = whole 8 Position ∷ whole 4 Truncated ∷ whole 4 Position ∷ whole 4 Position
    ∷ whole 2 Truncated ∷ whole 2 Truncated ∷ []

-- an area: latitude, longitude, distances a and b, angle
abbrev pub area_rows : List Row
area_rows = whole 4 Area ∷ whole 4 Area ∷ whole 2 Area ∷ whole 2 Area ∷ whole 2 Area ∷ []

-- a single-hop broadcast: vector, media-dependent data, payload
abbrev pub shb_rows : ℕ → List Row
shb_rows payload = vector_rows ++ whole 4 Truncated ∷ whole payload Truncated ∷ []

-- a geobroadcast or geoanycast: sequence number, reserved, vector, area, reserved, payload
abbrev pub area_packet_rows : ℕ → List Row
area_packet_rows payload =
    whole 2 Truncated ∷ whole 2 Reserved
    ∷ (vector_rows ++ area_rows ++ whole 2 Reserved ∷ whole payload Truncated ∷ [])

-- the fields of a packet with the type and the payload length that the octets name
abbrev pub rows_of : List ℕ → List Row
rows_of w =
    let type = big_number 1 (drop 5 w) / 16 in
    let payload = big_number 2 (drop 8 w) in
    common_rows ++
    (if type == 1 then vector_rows else if type == 5
    then shb_rows payload else area_packet_rows payload)

-- the octets are the encoding of this packet with so many hops left
abbrev pub EncodesSeen : Pdu × ℕ → List ℕ → Type 0
EncodesSeen x w = Encodes x.0 x.1 w

-- the fault among these fields, the first of which starts at this half octet, where the front
-- before it is sound: some packet's encoding begins with it
abbrev pub FaultAmong : List Row → ℕ → List ℕ → Fault → Type 0
FaultAmong fields start w f = rows.FaultAmong packet_faults EncodesSeen fields start w f

-- the fault among all fields
unfoldable pub FirstFault : List ℕ → Fault → Type 0
FirstFault w f = FaultAmong (rows_of w) 0 w f
