-- Secured frames (profile): target, source, the type 0x8947 of GeoNetworking, a Basic Header whose
-- next header is a secured packet, and a message, which a security entity reads.
use Rattle.std.specs.Prelude.{◌≡◌, ◌≢◌, ℕ, ◌^◌, ◌<◌, ◌≤◌, ◌+◌, ◌⊎◌, List, [], ◌∷◌, ◌++◌}
use Rattle.std.specs.Prelude.{length, drop, Err}
use Rattle.its_model.specs.Packet.{Transmission}
use Rattle.its_faults.specs.declared.secured.SecuredFault.{SecuredFault}
use Rattle.its_faults.specs.declared.secured.SecuredFault.TheVariants as faults
use Rattle.its_headers.specs.Encoding.{Encodes}
use Rattle.its_headers.specs.FirstFault.{FirstFault}
use Rattle.its_headers.specs.Format.{walk}
use Rattle.its_headers.specs.Inner.{Basic, inner_octets, secured_header}
use Rattle.its_headers.specs.Layout.{secured_format}
use Rattle.its_headers.specs.Seen.{Seen}
use Rattle.its_linkframe.specs.Frames.{link_header}
use Rattle.its_linkframe.specs.FrameFaults.{ether_type, IsLong, IsGeoNetworking, Trails}

-- what a secured frame says
pub record Secured : Type 0 where
  pub link_target : ℕ
  pub link_source : ℕ
  pub basic : Basic
  pub message : List ℕ

-- the octets of the frame
abbrev pub secured_octets : Secured → List ℕ
secured_octets s =
    link_header s.link_target s.link_source ++ (secured_header s.basic ++ s.message)

-- Fields in range, at least one octet of message, and at most 2310 octets.
pub record IsSecured (s : Secured) : Type 0 where
  pub target : s.link_target < 2 ^ 48
  pub source : s.link_source < 2 ^ 48
  pub lifetime : s.basic.lifetime < 256
  pub some_left : 0 < s.basic.left
  pub left : s.basic.left < 256
  pub some : 0 < length s.message
  pub short : 18 + length s.message ≤ 2310

-- The octets are the one frame that says this.
pub record EncodesSecured (s : Secured) (w : List ℕ) : Type 0 where
  pub fields : IsSecured s
  pub octets : w ≡ secured_octets s

-- the octets are a secured frame
pub record IsSecuredFrame (w : List ℕ) : Type 0 where
  pub secured : Secured
  pub encodes : EncodesSecured secured w

-- Checked in this order: under 14 octets; another type; over 2310 octets; no secured packet after
-- the type, whose first fault is that of its fields in the order of the wire.
abbrev pub IsSecuredFault : List ℕ → SecuredFault → Type 0
IsSecuredFault w faults.Short = length w < 14
IsSecuredFault w faults.EtherType = IsLong w × (ether_type w ≢ 137 ∷ 71 ∷ [])
IsSecuredFault w faults.TooLong = IsGeoNetworking w × (2310 < length w)
IsSecuredFault w (faults.Packet f) =
    IsGeoNetworking w × (length w ≤ 2310) × (walk secured_format 0 (drop 14 w) ≡ Err f)
IsSecuredFault w (faults.Inner f) = ⊥
IsSecuredFault w faults.Trailing = ⊥

-- what is wrong with a plain part behind this Basic Header: no packet, or octets after one
abbrev pub IsPlainFault : Basic → List ℕ → SecuredFault → Type 0
IsPlainFault b plain faults.Short = ⊥
IsPlainFault b plain faults.EtherType = ⊥
IsPlainFault b plain faults.TooLong = ⊥
IsPlainFault b plain (faults.Packet f) = ⊥
IsPlainFault b plain (faults.Inner f) = FirstFault (inner_octets b plain) f
IsPlainFault b plain faults.Trailing = Trails (inner_octets b plain)

-- the Basic Header of a packet on the air
abbrev pub basic_on_air : Transmission → Basic
basic_on_air t = record { lifetime = t.pdu.lifetime; left = t.hops_left }

-- the secured frame of a packet on the air with this message
abbrev pub sealed : Transmission → List ℕ → Secured
sealed t message =
    record {
      link_target = t.link_target;
      link_source = t.link_source;
      basic = basic_on_air t;
      message = message;
    }

-- a packet on the air that came as a secured frame, with its message
pub record Verified : Type 0 where
  pub frame : Transmission
  pub message : List ℕ

-- The octets are the secured frame with this message, and with the plain part they are this packet.
pub record EncodesVerified (v : Verified) (w plain : List ℕ) : Type 0 where
  pub secured : EncodesSecured (sealed v.frame v.message) w
  pub packet : Encodes v.frame.pdu v.frame.hops_left (inner_octets (basic_on_air v.frame) plain)

-- the octets are a secured frame, which with the plain part is a packet
pub record IsVerified (w plain : List ℕ) : Type 0 where
  pub verified : Verified
  pub encodes : EncodesVerified verified w plain

-- the first fault of octets that came with a plain part: of the secured frame, or else of the plain
-- part
abbrev pub IsVerifiedFault : List ℕ → List ℕ → SecuredFault → Type 0
IsVerifiedFault w plain f =
    IsSecuredFault w f
    ⊎ ((s : Secured) × EncodesSecured s w × IsPlainFault s.basic plain f)

-- the packet of one on the air
abbrev pub seen_on_air : Transmission → Seen
seen_on_air t = record { pdu = t.pdu; left = t.hops_left }

-- from one link address to another, with this message
abbrev pub verified_from_to : ℕ → ℕ → Seen → List ℕ → Verified
verified_from_to source target s message =
    record {
      frame = record {
        pdu = s.pdu;
        hops_left = s.left;
        link_source = source;
        link_target = target;
      };
      message = message;
    }
