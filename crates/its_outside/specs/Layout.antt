-- The formats of packets: each field with its width, its fault and its test, in the order of the
-- wire. Contracts of private functions cite them; public clauses cite Encoding and FirstFault.
use Rattle.std.specs.Prelude.{ℕ, ◌%◌, ◌^◌, Bool, true, ◌&&◌, ◌||◌, nat_le, ◌==◌}
use Rattle.std.specs.Prelude.{if◌then◌else◌}
use Rattle.std.specs.Int.{w32, cast_signed}
use Rattle.its_faults.specs.declared.packet.FaultKind.TheVariants.{Truncated, Version, BasicNext}
use Rattle.its_faults.specs.declared.packet.FaultKind.TheVariants.{CommonNext, HeaderType, SubType}
use Rattle.its_faults.specs.declared.packet.FaultKind.TheVariants.{HopAboveMax, PayloadLength}
use Rattle.its_geometry.specs.declared.area.Shape.{Shape}
use Rattle.its_formats.specs.Format.{ends, number, halves, octets, after}
use Rattle.its_headers.specs.Format.{Format}
use Rattle.its_headers.specs.Layout.{any, speed_of, shape_of}
use Rattle.its_outside.specs.declared.fields.BasicNext.{BasicNext as BasicNextHeader}
use Rattle.its_outside.specs.declared.fields.BasicNext.TheVariants as basics
use Rattle.its_outside.specs.declared.fields.NextHeader.{NextHeader}
use Rattle.its_outside.specs.declared.fields.NextHeader.TheVariants as nexts
use Rattle.its_outside.specs.declared.fields.BasicFields.{BasicFields}
use Rattle.its_outside.specs.declared.fields.CommonFields.{CommonFields}
use Rattle.its_outside.specs.declared.fields.LongVector.{LongVector}
use Rattle.its_outside.specs.declared.fields.ShortVector.{ShortVector}
use Rattle.its_outside.specs.declared.fields.Sequence.{Sequence}
use Rattle.its_outside.specs.declared.fields.AreaFields.{AreaFields}
use Rattle.its_outside.specs.declared.fields.ExtendedFields.{ExtendedFields}
use Rattle.its_outside.specs.declared.fields.ExtendedFields.TheVariants as extended
use Rattle.its_outside.specs.declared.kind.StandardKind.{StandardKind}
use Rattle.its_outside.specs.declared.kind.StandardKind.TheVariants as kinds
use Rattle.its_outside.specs.Encoding.{Standard}

-- what follows the Basic Header
abbrev pub basic_next_of : ℕ → BasicNextHeader
basic_next_of n = if n == 0 then basics.Unspecified else basics.CommonHeader

-- the Basic Header
unfoldable pub basic_format : Format BasicFields
basic_format =
    halves Version (λ v. v == 1) BasicNext (λ _ n. nat_le n 1) λ _ next.
    number 1 Truncated any λ reserved.
    number 1 Truncated any λ lifetime.
    number 1 Truncated any λ left.
    ends (record {
      next = basic_next_of next;
      reserved = reserved;
      lifetime = lifetime;
      left = left;
    })

-- what follows the extended header
abbrev pub next_of : ℕ → NextHeader
next_of n =
    if n == 0 then nexts.Unspecified else if n == 1 then nexts.BtpA else if n == 2
    then nexts.BtpB else nexts.Ipv6

-- the header types
abbrev pub is_type : ℕ → Bool
is_type t = nat_le 1 t && nat_le t 6

-- the sub-types of a header type
abbrev pub is_subtype : ℕ → ℕ → Bool
is_subtype t s =
    if nat_le t 2 then s == 0 else if nat_le t 4 then nat_le s 2 else nat_le s 1

-- the kind that header type and sub-type name
abbrev pub kind_of : ℕ → ℕ → StandardKind
kind_of t s =
    if t == 1 then kinds.Beacon else if t == 2 then kinds.Guc else if t == 3
    then kinds.Gac else if t == 4 then kinds.Gbc else if t == 5
    then (if s == 0 then kinds.Shb else kinds.Tsb) else (if s == 0
    then kinds.LsRequest else kinds.LsReply)

-- the payload lengths of a header type: 0 of a BEACON and of the location service
abbrev pub is_length : ℕ → ℕ → Bool
is_length t n = if t == 1 || t == 6 then n == 0 else true

-- next header, reserved half octet, header type and sub-type
pub record Types : Type 0 where
  pub next : ℕ
  pub reserved : ℕ
  pub type : ℕ
  pub subtype : ℕ

-- what stands in the common header
pub record Common : Type 0 where
  pub fields : CommonFields
  pub kind : StandardKind
  pub shape : Shape
  pub length : ℕ

unfoldable pub types_format : Format Types
types_format =
    halves CommonNext (λ n. nat_le n 3) Truncated (λ _ _. true) λ next reserved.
    halves HeaderType is_type SubType is_subtype λ type subtype.
    ends (record { next = next; reserved = reserved; type = type; subtype = subtype })

-- what follows header type and sub-type in the Common Header
abbrev pub rest_format : ℕ → Types → Format Common
rest_format left types =
    number 1 Truncated any λ class.
    number 1 Truncated any λ flags.
    number 2 PayloadLength (is_length types.type) λ length.
    number 1 HopAboveMax (λ max. nat_le left max) λ max.
    number 1 Truncated any λ reserved.
    ends (record {
      fields = record {
        next = next_of types.next;
        next_reserved = types.reserved;
        class = class;
        mobile = nat_le 128 flags;
        flags_reserved = flags % 128;
        max_hops = max;
        reserved = reserved;
      };
      kind = kind_of types.type types.subtype;
      shape = shape_of types.subtype;
      length = length;
    })

-- the Common Header of a packet with so many hops left
abbrev pub common_format : ℕ → Format Common
common_format left = after types_format (rest_format left)

-- a long position vector
unfoldable pub long_format : Format LongVector
long_format =
    number 8 Truncated any λ address.
    number 4 Truncated any λ timestamp.
    number 4 Truncated any λ latitude.
    number 4 Truncated any λ longitude.
    number 2 Truncated any λ motion.
    number 2 Truncated any λ heading.
    ends (record {
      address = address;
      timestamp = timestamp;
      latitude = cast_signed w32 latitude;
      longitude = cast_signed w32 longitude;
      accurate = nat_le (2 ^ 15) motion;
      speed = speed_of (motion % 2 ^ 15);
      heading = heading;
    })

-- a short position vector
unfoldable pub short_format : Format ShortVector
short_format =
    number 8 Truncated any λ address.
    number 4 Truncated any λ timestamp.
    number 4 Truncated any λ latitude.
    number 4 Truncated any λ longitude.
    ends (record {
      address = address;
      timestamp = timestamp;
      latitude = cast_signed w32 latitude;
      longitude = cast_signed w32 longitude;
    })

-- a sequence number and two reserved octets
unfoldable pub sequence_format : Format Sequence
sequence_format =
    number 2 Truncated any λ sequence.
    number 2 Truncated any λ reserved.
    ends (record { number = sequence; reserved = reserved })

-- an area of this shape and two reserved octets
unfoldable pub area_format : Shape → Format AreaFields
area_format shape =
    number 4 Truncated any λ latitude.
    number 4 Truncated any λ longitude.
    number 2 Truncated any λ a.
    number 2 Truncated any λ b.
    number 2 Truncated any λ angle.
    number 2 Truncated any λ reserved.
    ends (record {
      shape = shape;
      latitude = cast_signed w32 latitude;
      longitude = cast_signed w32 longitude;
      a = a;
      b = b;
      angle = angle;
      reserved = reserved;
    })

-- the number of eight octets that is an address
abbrev pub address_format : Format ℕ
address_format = number 8 Truncated any λ address. ends address

-- a sequence number, the source's vector, and what follows them
abbrev pub numbered_format : {A : Type 0} → Format A → (Sequence → A → ExtendedFields)
    → Format (LongVector × ExtendedFields)
numbered_format rest made =
    after sequence_format λ s. after long_format λ v. after rest λ x. ends (v, made s x)

-- the extended header of a packet of this kind, for this shape
abbrev pub extended_format : StandardKind → Shape → Format (LongVector × ExtendedFields)
extended_format kinds.Beacon shape = after long_format λ v. ends (v, extended.Beacon)
extended_format kinds.Guc shape = numbered_format short_format extended.Guc
extended_format kinds.Gac shape = numbered_format (area_format shape) extended.Gac
extended_format kinds.Gbc shape = numbered_format (area_format shape) extended.Gbc
extended_format kinds.Shb shape =
    after long_format λ v. number 4 Truncated any λ media. ends (v, extended.Shb media)
extended_format kinds.Tsb shape =
    after sequence_format λ s. after long_format λ v. ends (v, extended.Tsb s)
extended_format kinds.LsRequest shape = numbered_format address_format extended.LsRequest
extended_format kinds.LsReply shape = numbered_format short_format extended.LsReply

-- a packet
abbrev pub standard_format : Format Standard
standard_format =
    after basic_format λ basic.
    after (common_format basic.left) λ common.
    after (extended_format common.kind common.shape) λ x.
    octets common.length λ payload.
    ends (record {
      fields = record {
        basic = basic;
        common = common.fields;
        source = x.0;
        extended = x.1;
      };
      payload = payload;
    })
