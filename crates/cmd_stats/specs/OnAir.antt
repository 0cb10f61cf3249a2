-- What of a record was on the air.
use Rattle.std.specs.Prelude.{◌≡◌, ◌&&◌, ℕ, Bool, true, false, nat_le, List, length, Option, Some}
use Rattle.std.specs.Prelude.{None, Result, Ok, Err, IfOk}
use Rattle.std.specs.Option.{option_map}
use Rattle.byteorder.specs.Endian.{big_bytes}
use Rattle.cap_records.specs.Choosing.{is_chosen}
use Rattle.cap_records.specs.declared.choosing.Choice.{Choice}
use Rattle.cap_records.specs.declared.choosing.Traits.{Traits}
use Rattle.its_faults.specs.declared.frame.FrameFault.{FrameFault}
use Rattle.its_linkframe.specs.FrameFaults.{IsFrameFault}
use Rattle.its_linkframe.specs.Copies.{octets_from, same_octets}
use Rattle.its_linkframe.specs.Frames.{EncodesFrame}
use Rattle.its_linkframe.specs.Padding.{IsUnpadded}
use Rattle.its_faults.specs.declared.secured.SecuredFault.{SecuredFault}
use Rattle.its_linkframe.specs.Secured.{EncodesVerified, IsVerifiedFault, Verified}
use Rattle.cap_linklayers.specs.LinkLayers.{IsFrameIn, IsLinkFault}
use Rattle.its_model.specs.Packet.{Transmission}
use Rattle.cap_pcap.specs.Records.{fault_of}
use Rattle.cap_linklayers.specs.declared.link.LinkLayer.{LinkLayer}
use Rattle.cap_linklayers.specs.declared.link.LinkLayer.TheVariants as layers
use Rattle.cap_pcap.specs.declared.record.RecordHeader.{RecordHeader}
use Rattle.cap_records.specs.RecordFrames.{traits_in}
use Rattle.cap_records.specs.declared.refusal.RecordFault.{RecordFault}
use Rattle.cap_records.specs.declared.refusal.RecordFault.TheVariants as faults
use Rattle.cap_records.specs.SignedFrames.{HasPlain, IsUnread, plain_octets, reads_secured}
use Rattle.cap_records.specs.declared.signed.PlainPart.{PlainPart}
use Rattle.cmd_stats.specs.declared.replay.on_air.OnAir.{OnAir}
use Rattle.cmd_stats.specs.declared.replay.on_air.OnAir.TheVariants as airs
use Rattle.cmd_stats.specs.declared.replay.secured_octets.SecuredOctets.{SecuredOctets}

-- the frame without what Ethernet, alone of the link layers, fills short ones up with
abbrev pub IsUnfilled : LinkLayer → List ℕ → List ℕ → Type 0
IsUnfilled layers.Bare frame octets = octets ≡ frame
IsUnfilled layers.Ethernet frame octets = IsUnpadded frame octets
IsUnfilled layers.Ieee80211 frame octets = octets ≡ frame
IsUnfilled layers.Radiotap frame octets = octets ≡ frame
IsUnfilled layers.Sll frame octets = IsUnpadded frame octets
IsUnfilled layers.Sll2 frame octets = IsUnpadded frame octets

-- the octets that a station hears of a record of this link layer
abbrev pub IsFrameOf : LinkLayer → List ℕ → List ℕ → Type 0
IsFrameOf layer w octets = (frame : List ℕ) × IsFrameIn layer w frame × IsUnfilled layer frame octets

-- the same of a record that may be of none that is read
abbrev pub AreHeard : Option LinkLayer → List ℕ → List ℕ → Type 0
AreHeard None w octets = ⊥
AreHeard (Some layer) w octets = IsFrameOf layer w octets

-- why a record of this link layer has no frame: the first rule of the layer that doesn't hold
abbrev pub IsLayerFault : Option LinkLayer → List ℕ → RecordFault → Type 0
IsLayerFault (Some layer) w (faults.Link fault) = IsLinkFault layer w fault
IsLayerFault layer w fault = ⊥

-- The station hears these octets of the record.
pub record HasOctets (head : RecordHeader) (w octets : List ℕ) : Type 0 where
  pub whole : fault_of head ≡ None
  pub heard : AreHeard head.layer w octets

-- It hears nothing: the record isn't of a link layer that is read, or was cut, or has no frame.
abbrev pub HasNothing : RecordHeader → List ℕ → RecordFault → Type 0
HasNothing head w (faults.Record fault) = fault_of head ≡ Some fault
HasNothing head w fault = (fault_of head ≡ None) × IsLayerFault head.layer w fault

-- where the plain part of a secured frame is, or why it isn't found
abbrev pub HasPlainPart : List ℕ → Result PlainPart RecordFault → Type 0
HasPlainPart w (Ok part) = HasPlain w part
HasPlainPart w (Err fault) = IsUnread w fault

-- what there is of a record to hear
abbrev pub IsOnAir : Bool → RecordHeader → List ℕ → OnAir → Type 0
IsOnAir signed head w (airs.Octets octets) =
    HasOctets head w octets.items × (reads_secured signed octets.items ≡ false)
IsOnAir signed head w (airs.Secured s) =
    HasOctets head w s.frame.items × (reads_secured signed s.frame.items ≡ true)
    × HasPlainPart s.frame.items s.plain
IsOnAir signed head w (airs.Nothing fault) = HasNothing head w fault

-- what these octets are chosen by: their frame, or that they are none
abbrev pub AreFrameTraits : List ℕ → Option Traits → Type 0
AreFrameTraits octets (Some traits) =
    (t : Transmission) × EncodesFrame t octets × (traits ≡ traits_in t)
AreFrameTraits octets None = (fault : FrameFault) × IsFrameFault octets fault

-- what a secured frame is chosen by: the packet in its plain part
abbrev pub AreInnerTraits : SecuredOctets → Option Traits → Type 0
AreInnerTraits s (Some traits) =
    (part : PlainPart) × (s.plain ≡ Ok part) × (v : Verified)
    × EncodesVerified v s.frame.items (plain_octets s.frame.items part)
    × (traits ≡ traits_in v.frame)
AreInnerTraits s None = IfOk s.plain (λ part. (fault : SecuredFault)
    × IsVerifiedFault s.frame.items (plain_octets s.frame.items part) fault)

-- what a record is chosen by; one that has nothing to hear has nothing that frames are chosen by
abbrev pub AreTraitsOf : OnAir → Option Traits → Type 0
AreTraitsOf (airs.Octets octets) traits = AreFrameTraits octets.items traits
AreTraitsOf (airs.Secured s) traits = AreInnerTraits s traits
AreTraitsOf (airs.Nothing fault) traits = traits ≡ None

-- The choice answers this of a record of this moment, by what the record is chosen by.
pub record AnswersChoice (air : OnAir) (choice : Choice) (moment : ℕ) (answer : Bool) : Type 0 where
  pub traits : Option Traits
  pub are_traits : AreTraitsOf air traits
  pub answer_is : answer ≡ is_chosen choice moment traits

-- the source of its packet, if it is a frame that is read
abbrev pub IsSource : OnAir → Option ℕ → Type 0
IsSource air source =
    (traits : Option Traits) × AreTraitsOf air traits
    × (source ≡ option_map (λ t. t.source) traits)

-- Whether these octets are a frame from this link address, if one is given.
abbrev pub is_from : Option ℕ → List ℕ → Bool
is_from None w = false
is_from (Some mac) w = nat_le 12 (length w) && same_octets (octets_from 6 6 w) (big_bytes 6 mac)

-- so of what was on the air
abbrev pub is_sent : Option ℕ → OnAir → Bool
is_sent against (airs.Octets octets) = is_from against octets.items
is_sent against (airs.Secured s) = is_from against s.frame.items
is_sent against (airs.Nothing fault) = false

-- ---- words of private functions

-- the same of octets that were heard
abbrev pub IsOf : Bool → List ℕ → OnAir → Type 0
IsOf signed w (airs.Octets octets) = (octets.items ≡ w) × (reads_secured signed w ≡ false)
IsOf signed w (airs.Secured s) =
    (s.frame.items ≡ w) × (reads_secured signed w ≡ true) × HasPlainPart w s.plain
IsOf signed w (airs.Nothing fault) = ⊥
