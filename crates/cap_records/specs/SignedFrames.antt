-- Secured frames read by their plain part.
use Rattle.std.specs.Prelude.{◌≡◌, ◌⊎◌, ℕ, ◌+◌, ◌++◌, ◌==◌, ◌&&◌, List, length, take, drop, slice_set, nat_lt}
use Rattle.std.specs.Prelude.{slice_index, Bool, true, false, Option, Some, None, Ok, Err}
use Rattle.cap_records.specs.declared.choosing.Traits.{Traits}
use Rattle.its_linkframe.specs.Frames.{EncodesFrame}
use Rattle.its_linkframe.specs.Secured.{Secured, EncodesSecured, IsSecuredFault, IsVerifiedFault}
use Rattle.cap_linklayers.specs.LinkLayers.{IsFrameIn, IsLinkFault}
use Rattle.cap_linklayers.specs.declared.link.LinkLayer.{LinkLayer}
use Rattle.its_model.specs.Packet.{Transmission}
use Rattle.cap_pcap.specs.Records.{fault_of}
use Rattle.cap_pcap.specs.declared.record.RecordHeader.{RecordHeader}
use Rattle.cap_records.specs.RecordFrames.{IsNoFrame, IsReadAs, is_other, traits_in}
use Rattle.cap_records.specs.declared.refusal.RecordFault.{RecordFault}
use Rattle.cap_records.specs.declared.refusal.RecordFault.TheVariants as faults
use Rattle.cap_records.specs.declared.signed.PlainPart.{PlainPart}
use Rattle.cap_records.specs.declared.signed.SecuredFacts.{SecuredFacts}
use Rattle.cap_records.specs.Messages.{SaidMessage, message_in}

-- whether a frame is read as a secured one: its octets 12 to 14 are 89 47 12
abbrev pub begins_secured : List ℕ → Bool
begins_secured w =
    nat_lt 14 (length w) && (slice_index w 12 == 137) && (slice_index w 13 == 71)
    && (slice_index w 14 == 18)

-- whether it is, where `signed` says that secured frames are read by their plain part
abbrev pub reads_secured : Bool → List ℕ → Bool
reads_secured signed w = signed && begins_secured w

-- where a message says that the plain part is in its frame: 18 octets come before the message
abbrev pub part_of : SaidMessage → PlainPart
part_of m = record { start = 18 + m.start; length = length m.plain; info = m.info }

-- The octets are a secured frame, and its message says where the plain part is.
pub record HasPlain (w : List ℕ) (part : PlainPart) : Type 0 where
  pub secured : Secured
  pub said : SaidMessage
  pub encodes : EncodesSecured secured w
  pub reads : message_in secured.message ≡ Ok said
  pub part_is : part ≡ part_of said

-- Why no plain part is found: the octets are no secured frame, or its message isn't read.
abbrev pub IsUnread : List ℕ → RecordFault → Type 0
IsUnread w (faults.Record f) = ⊥
IsUnread w (faults.Link f) = ⊥
IsUnread w (faults.Frame f) = ⊥
IsUnread w (faults.Secured f) = ⊥
IsUnread w (faults.Signed f) = IsSecuredFault w f
IsUnread w (faults.Message f) =
    (s : Secured) × EncodesSecured s w × (message_in s.message ≡ Err f)

-- the octets of the plain part
abbrev pub plain_octets : List ℕ → PlainPart → List ℕ
plain_octets w part = take part.length (drop part.start w)

-- the inner frame of a secured one: its first 18 octets, with next header 1, and the plain part
abbrev pub inner_frame : List ℕ → PlainPart → List ℕ
inner_frame w part =
    slice_set (take 18 w) 14 17 ++ plain_octets w part

-- the frame that a secured one has inside, and what is known of that
abbrev pub IsInnerOf : List ℕ → Transmission → Option SecuredFacts → Type 0
IsInnerOf w t None = ⊥
IsInnerOf w t (Some facts) =
    (part : PlainPart) × HasPlain w part × EncodesFrame t (inner_frame w part)
    × (facts ≡ record { length = length w; info = part.info })

-- Why it has none: no plain part is found; or it is found, and there is no packet in it or more.
abbrev pub IsInnerFault : List ℕ → RecordFault → Type 0
IsInnerFault w (faults.Record f) = ⊥
IsInnerFault w (faults.Link f) = ⊥
IsInnerFault w (faults.Frame f) = ⊥
IsInnerFault w (faults.Secured f) = ⊥
IsInnerFault w (faults.Signed f) =
    IsSecuredFault w f
    ⊎ ((part : PlainPart) × HasPlain w part × IsVerifiedFault w (plain_octets w part) f)
IsInnerFault w (faults.Message f) = IsUnread w (faults.Message f)

-- ---- records

-- the octets that a link layer carries are an unsecured frame
abbrev pub IsUnsecuredIn : LinkLayer → List ℕ → Transmission → Option SecuredFacts → Type 0
IsUnsecuredIn layer carried t None =
    (text : List ℕ) × IsReadAs layer carried text × EncodesFrame t text
IsUnsecuredIn layer carried t (Some facts) = ⊥

-- they are none
abbrev pub IsUnsecuredFault : LinkLayer → List ℕ → RecordFault → Type 0
IsUnsecuredFault layer carried fault =
    (text : List ℕ) × IsReadAs layer carried text × IsNoFrame text fault

-- what these octets have: a frame inside a secured one, or an unsecured one
abbrev pub IsSignedIn : LinkLayer → List ℕ → Bool → Transmission → Option SecuredFacts → Type 0
IsSignedIn layer carried true t facts = IsInnerOf carried t facts
IsSignedIn layer carried false t facts = IsUnsecuredIn layer carried t facts

abbrev pub IsSignedFaultIn : LinkLayer → List ℕ → Bool → RecordFault → Type 0
IsSignedFaultIn layer carried true fault = IsInnerFault carried fault
IsSignedFaultIn layer carried false fault = IsUnsecuredFault layer carried fault

-- The record is whole, of a link layer that is read, and what that carries has this frame.
pub record HasSignedFrame (h : RecordHeader) (w : List ℕ) (t : Transmission)
    (facts : Option SecuredFacts) : Type 0 where
  pub whole : fault_of h ≡ None
  pub layer : LinkLayer
  pub is_layer : h.layer ≡ Some layer
  pub carried : List ℕ
  pub carries : IsFrameIn layer w carried
  pub has : IsSignedIn layer carried (begins_secured carried) t facts

-- The record is whole, of a link layer that is read, and what that carries has no frame.
pub record HasNoSignedFrame (h : RecordHeader) (w : List ℕ) (fault : RecordFault) : Type 0 where
  pub whole : fault_of h ≡ None
  pub layer : LinkLayer
  pub is_layer : h.layer ≡ Some layer
  pub carried : List ℕ
  pub carries : IsFrameIn layer w carried
  pub has_none : IsSignedFaultIn layer carried (begins_secured carried) fault

-- The first fault of a record: its link layer or its being cut, its link layer's header, its octets.
abbrev pub IsSignedFault : RecordHeader → List ℕ → RecordFault → Type 0
IsSignedFault h w (faults.Record f) = fault_of h ≡ Some f
IsSignedFault h w (faults.Link f) =
    (fault_of h ≡ None) × (layer : LinkLayer) × (h.layer ≡ Some layer) × IsLinkFault layer w f
IsSignedFault h w fault = HasNoSignedFrame h w fault

-- What a record is chosen by: its frame, which may be inside a secured one; or that it has none, and
-- whether it is of another protocol.
abbrev pub AreSignedTraits : RecordHeader → List ℕ → Option Traits → Bool → Type 0
AreSignedTraits h w (Some traits) other =
    (t : Transmission) × (facts : Option SecuredFacts) × HasSignedFrame h w t facts
    × (traits ≡ traits_in t) × (other ≡ false)
AreSignedTraits h w None other =
    (fault : RecordFault) × IsSignedFault h w fault × (other ≡ is_other fault)
