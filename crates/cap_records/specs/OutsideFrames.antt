-- Frames that the standard lays out and the profile doesn't have, and the records that have them.
use Rattle.std.specs.Prelude.{◌≡◌, ◌≤◌, ◌⊎◌, ℕ, List, length, take, drop, All}
use Rattle.std.specs.Prelude.{Bool, true, false, Option, Some, None, ◌||◌, ◌==◌, cond, nat_lt}
use Rattle.std.specs.Prelude.{ℤ, pos, negsuc, int_lt}
use Rattle.byteorder.specs.Endian.{big_number}
use Rattle.cap_linklayers.specs.LinkLayers.{IsFrameIn, IsLinkFault}
use Rattle.cap_linklayers.specs.declared.link.LinkLayer.{LinkLayer}
use Rattle.cap_linklayers.specs.declared.link.LinkLayer.TheVariants as layers
use Rattle.cap_pcap.specs.Records.{fault_of}
use Rattle.cap_pcap.specs.declared.record.RecordHeader.{RecordHeader}
use Rattle.its_faults.specs.declared.secured.SecuredFault.{SecuredFault}
use Rattle.its_geometry.specs.Area.{GeoArea}
use Rattle.its_gnvalue.specs.Values.{Position}
use Rattle.its_geometry.specs.declared.area.Shape.{Shape}
use Rattle.its_geometry.specs.declared.area.Shape.TheVariants as shapes
use Rattle.its_linkframe.specs.FrameFaults.{IsGeoNetworking}
use Rattle.its_linkframe.specs.Secured.{IsVerifiedFault}
use Rattle.its_model.specs.Packet.{Transmission}
use Rattle.its_outside.specs.Encoding.{Standard, Encodes}
use Rattle.its_outside.specs.Kinds.{kind_of_extended}
use Rattle.its_outside.specs.Outside.{BeginsInProfile, btp_of}
use Rattle.its_outside.specs.declared.fields.AreaFields.{AreaFields}
use Rattle.its_outside.specs.declared.fields.ExtendedFields.{ExtendedFields}
use Rattle.its_outside.specs.declared.fields.ExtendedFields.TheVariants as extended
use Rattle.its_outside.specs.declared.btp.BtpHeader.{BtpHeader}
use Rattle.its_outside.specs.declared.btp.BtpHeader.TheVariants as btp
use Rattle.cap_records.specs.SignedFrames.{HasPlain, IsUnread, inner_frame, plain_octets}
use Rattle.cap_records.specs.SignedFrames.{IsSignedIn, IsUnsecuredFault, reads_secured}
use Rattle.cap_records.specs.declared.choosing.Traits.{Traits}
use Rattle.cap_records.specs.declared.outside.OutsideFrame.{OutsideFrame}
use Rattle.cap_records.specs.declared.refusal.RecordFault.{RecordFault}
use Rattle.cap_records.specs.declared.refusal.RecordFault.TheVariants as faults
use Rattle.cap_records.specs.declared.signed.PlainPart.{PlainPart}
use Rattle.cap_records.specs.declared.signed.SecuredFacts.{SecuredFacts}

-- ---- the frame

-- a packet of the standard, from one link address to another
pub record StandardFrame : Type 0 where
  pub link_target : ℕ
  pub link_source : ℕ
  pub packet : Standard

-- The octets are a frame that the standard lays out: target, source, the type of GeoNetworking, and
-- one packet, which isn't of the profile.
pub record IsOutsideFrame (w : List ℕ) (s : StandardFrame) : Type 0 where
  pub header : IsGeoNetworking w
  pub target : s.link_target ≡ big_number 6 (take 6 w)
  pub source : s.link_source ≡ big_number 6 (take 6 (drop 6 w))
  pub packet : Encodes s.packet (drop 14 w)
  pub outside : ¬ BeginsInProfile (drop 14 w)

-- what a frame that was read says
abbrev pub standard_of : OutsideFrame → StandardFrame
standard_of v = record {
  link_target = v.to;
  link_source = v.from;
  packet = record { fields = v.fields; payload = v.payload.now };
}

-- the link layers whose frames Ethernet fills up
abbrev pub is_padded : LinkLayer → Bool
is_padded layers.Bare = false
is_padded layers.Ethernet = true
is_padded layers.Ieee80211 = false
is_padded layers.Radiotap = false
is_padded layers.Sll = true
is_padded layers.Sll2 = true

-- a frame of n octets ends there: with the octets, or before zeros that fill it up to at most 60
abbrev pub EndsAt : Bool → List ℕ → ℕ → Type 0
EndsAt padded w n =
    (n ≡ length w) ⊎ ((padded ≡ true) × (length w ≤ 60) × All (λ b. b ≡ 0) (drop n w))

-- The first n octets are this frame, and the others fill it up.
pub record IsOutsideAt (padded : Bool) (w : List ℕ) (n : ℕ) (s : StandardFrame) : Type 0 where
  pub within : n ≤ length w
  pub ends : EndsAt padded w n
  pub frame : IsOutsideFrame (take n w) s
  pub outside : ¬ BeginsInProfile (drop 14 w)

-- octets, which may be filled up, are this frame
abbrev pub IsOutsideIn : Bool → List ℕ → StandardFrame → Type 0
IsOutsideIn padded w s = (n : ℕ) × IsOutsideAt padded w n s

-- they are no frame outside the profile
abbrev pub IsNotOutside : Bool → List ℕ → Type 0
IsNotOutside padded w = (n : ℕ) (s : StandardFrame) → ¬ IsOutsideAt padded w n s

-- ---- what a frame is chosen by

-- the destination port of a header of BTP
abbrev pub port_of_btp : Option BtpHeader → Option ℕ
port_of_btp None = None
port_of_btp (Some (btp.A destination source)) = Some destination
port_of_btp (Some (btp.B destination info)) = Some destination

-- the sequence number of a packet that has one
abbrev pub number_of : ExtendedFields → Option ℕ
number_of extended.Beacon = None
number_of (extended.Guc s d) = Some s.number
number_of (extended.Gac s a) = Some s.number
number_of (extended.Gbc s a) = Some s.number
number_of (extended.Shb media) = None
number_of (extended.Tsb s) = Some s.number
number_of (extended.LsRequest s sought) = Some s.number
number_of (extended.LsReply s d) = Some s.number

-- the place of a latitude and a longitude, if they are in range
abbrev pub place_said : ℤ → ℤ → Option Position
place_said latitude longitude =
    cond (int_lt latitude (negsuc 899999999) || int_lt (pos 900000000) latitude) None
    (cond (int_lt longitude (negsuc 1799999999) || int_lt (pos 1800000000) longitude) None
    (Some (record { latitude = latitude; longitude = longitude })))

abbrev pub is_circle : Shape → Bool
is_circle shapes.Circle = true
is_circle shapes.Rectangle = false
is_circle shapes.Ellipse = false

-- a circle of this radius
abbrev pub circle_said : Position → ℕ → Option GeoArea
circle_said centre radius = cond (radius == 0) None
    (Some (record { shape = shapes.Circle; centre = centre; a = radius; b = 0; angle = 0 }))

-- a rectangle or an ellipse
abbrev pub turned_said : Position → AreaFields → Option GeoArea
turned_said centre f = cond ((f.a == 0) || (f.b == 0) || nat_lt 359 f.angle) None
    (Some (record { shape = f.shape; centre = centre; a = f.a; b = f.b; angle = f.angle }))

-- the area round this centre, if the distances and the angle are in range. A circle has a radius
-- alone: what its fields have for b and the angle says nothing.
abbrev pub area_round : AreaFields → Option Position → Option GeoArea
area_round f None = None
area_round f (Some centre) =
    cond (is_circle f.shape) (circle_said centre f.a) (turned_said centre f)

-- the area that these fields say, if all are in range
abbrev pub area_said : AreaFields → Option GeoArea
area_said f = area_round f (place_said f.latitude f.longitude)

-- the destination area of a packet that has one
abbrev pub area_of : ExtendedFields → Option GeoArea
area_of extended.Beacon = None
area_of (extended.Guc s d) = None
area_of (extended.Gac s a) = area_said a
area_of (extended.Gbc s a) = area_said a
area_of (extended.Shb media) = None
area_of (extended.Tsb s) = None
area_of (extended.LsRequest s sought) = None
area_of (extended.LsReply s d) = None

-- what a frame outside the profile is chosen by
abbrev pub outside_traits : StandardFrame → Traits
outside_traits s =
    record {
      kind = kind_of_extended s.packet.fields.extended;
      source = s.packet.fields.source.address;
      from = s.link_source;
      to = s.link_target;
      port = port_of_btp (btp_of s.packet.fields.common.next s.packet.payload);
      left = s.packet.fields.basic.left;
      class = s.packet.fields.common.class;
      number = number_of s.packet.fields.extended;
      area = area_of s.packet.fields.extended;
    }

-- ---- the record

-- The octets are a secured frame with this plain part, which is no packet of the profile.
pub record HasOtherPlain (w : List ℕ) (part : PlainPart) (fault : RecordFault) : Type 0 where
  pub plain : HasPlain w part
  pub why : SecuredFault
  pub fault_is : fault ≡ faults.Signed why
  pub no_packet : IsVerifiedFault w (plain_octets w part) why

-- What a link layer carried is this frame outside the profile, which a station refuses so. If it is
-- read as a secured frame, the packet is in the plain part, and this is known of it.
abbrev pub IsOutsideUnsecured : LinkLayer → List ℕ → StandardFrame → RecordFault
    → Option SecuredFacts → Type 0
IsOutsideUnsecured layer carried s fault facts =
    (facts ≡ None) × IsUnsecuredFault layer carried fault
    × IsOutsideIn (is_padded layer) carried s

abbrev pub IsOutsideInner : List ℕ → StandardFrame → RecordFault → Option SecuredFacts → Type 0
IsOutsideInner carried s fault facts =
    (part : PlainPart) × HasOtherPlain carried part fault
    × (facts ≡ Some (record { length = length carried; info = part.info }))
    × IsOutsideIn false (inner_frame carried part) s

abbrev pub IsOutsideOf : LinkLayer → List ℕ → Bool → StandardFrame → RecordFault
    → Option SecuredFacts → Type 0
IsOutsideOf layer carried false s fault facts = IsOutsideUnsecured layer carried s fault facts
IsOutsideOf layer carried true s fault facts = IsOutsideInner carried s fault facts

-- why what it carried is neither a frame of the profile nor one outside
abbrev pub IsUnsecuredFaultOfAny : LinkLayer → List ℕ → RecordFault → Type 0
IsUnsecuredFaultOfAny layer carried fault =
    IsUnsecuredFault layer carried fault
    × IsNotOutside (is_padded layer) carried

abbrev pub IsInnerFaultOfAny : List ℕ → RecordFault → Type 0
IsInnerFaultOfAny carried fault =
    IsUnread carried fault
    ⊎ ((part : PlainPart) × HasOtherPlain carried part fault
    × IsNotOutside false (inner_frame carried part))

abbrev pub IsFaultOfAny : LinkLayer → List ℕ → Bool → RecordFault → Type 0
IsFaultOfAny layer carried false fault = IsUnsecuredFaultOfAny layer carried fault
IsFaultOfAny layer carried true fault = IsInnerFaultOfAny carried fault

-- The record is whole, of a link layer that is read, and this holds of what that carries.
pub record Carries (h : RecordHeader) (w : List ℕ) (holds : LinkLayer → List ℕ → Type 0) : Type 0
  where
    pub whole : fault_of h ≡ None
    pub layer : LinkLayer
    pub is_layer : h.layer ≡ Some layer
    pub carried : List ℕ
    pub carries : IsFrameIn layer w carried
    pub has : holds layer carried

-- the record has this frame of the profile
abbrev pub HasProfileFrame : Bool → RecordHeader → List ℕ → Transmission → Option SecuredFacts
    → Type 0
HasProfileFrame signed h w t facts =
    Carries h w
    (λ layer carried. IsSignedIn layer carried (reads_secured signed carried) t facts)

-- the record has this frame outside the profile
abbrev pub HasOutside : Bool → RecordHeader → List ℕ → StandardFrame → RecordFault
    → Option SecuredFacts → Type 0
HasOutside signed h w s fault facts =
    Carries h w
    (λ layer carried. IsOutsideOf layer carried (reads_secured signed carried) s fault facts)

-- The first fault of a record that has neither: its link layer or its being cut, its link layer's
-- header, its octets.
abbrev pub IsFaultOfAll : Bool → RecordHeader → List ℕ → RecordFault → Type 0
IsFaultOfAll signed h w (faults.Record f) = fault_of h ≡ Some f
IsFaultOfAll signed h w (faults.Link f) =
    (fault_of h ≡ None) × (layer : LinkLayer) × (h.layer ≡ Some layer) × IsLinkFault layer w f
IsFaultOfAll signed h w fault =
    Carries h w (λ layer carried. IsFaultOfAny layer carried (reads_secured signed carried) fault)
