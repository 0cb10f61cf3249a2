-- The frame of a record, why a record has none, and what it is chosen by.
use Rattle.std.specs.Prelude.{◌≡◌, ℕ, ◌+◌, ◌%◌, List, slice_get, Bool, true, false}
use Rattle.std.specs.Prelude.{Option, Some, None}
use Rattle.cap_records.specs.Choosing.{standard_kind}
use Rattle.cap_records.specs.declared.choosing.Traits.{Traits}
use Rattle.its_faults.specs.declared.frame.FrameFault.{FrameFault}
use Rattle.its_faults.specs.declared.frame.FrameFault.TheVariants as frames
use Rattle.its_faults.specs.declared.packet.FaultKind.TheVariants.{BasicNext}
use Rattle.its_headers.specs.Fields.{area_in, kind_of_body}
use Rattle.its_linkframe.specs.FrameFaults.{IsFrameFault}
use Rattle.its_linkframe.specs.Frames.{EncodesFrame}
use Rattle.its_linkframe.specs.Padding.{IsUnpadded}
use Rattle.cap_linklayers.specs.LinkLayers.{IsFrameIn, IsLinkFault}
use Rattle.cap_linklayers.specs.declared.link.LinkFault.TheVariants as links
use Rattle.cap_linklayers.specs.declared.link.LinkLayer.{LinkLayer}
use Rattle.cap_linklayers.specs.declared.link.LinkLayer.TheVariants as layers
use Rattle.its_model.specs.Packet.{Transmission, Body, beacon, shb, gbc, gac, number_in}
use Rattle.cap_pcap.specs.Records.{fault_of}
use Rattle.cap_pcap.specs.declared.record.RecordFault.TheVariants as records
use Rattle.cap_pcap.specs.declared.record.RecordHeader.{RecordHeader}
use Rattle.cap_records.specs.declared.refusal.RecordFault.{RecordFault}
use Rattle.cap_records.specs.declared.refusal.RecordFault.TheVariants as faults

-- ---- the frame of a record

-- what is read of the octets that a link layer carries: Ethernet fills short frames up, and cooked
-- captures have them as they came
abbrev pub IsReadAs : LinkLayer → List ℕ → List ℕ → Type 0
IsReadAs layers.Bare carried text = text ≡ carried
IsReadAs layers.Ethernet carried text = IsUnpadded carried text
IsReadAs layers.Ieee80211 carried text = text ≡ carried
IsReadAs layers.Radiotap carried text = text ≡ carried
IsReadAs layers.Sll carried text = IsUnpadded carried text
IsReadAs layers.Sll2 carried text = IsUnpadded carried text

-- what is read of a record's octets: what its link layer carries
abbrev pub IsText : Option LinkLayer → List ℕ → List ℕ → Type 0
IsText (Some layer) w text =
    (carried : List ℕ) × IsFrameIn layer w carried × IsReadAs layer carried text
IsText None w text = ⊥

-- the record is whole, of a link layer that is read, and its octets are this frame
abbrev pub HasFrame : RecordHeader → List ℕ → Transmission → Type 0
HasFrame h w t =
    (fault_of h ≡ None) × (text : List ℕ) × IsText h.layer w text × EncodesFrame t text

-- ---- why a record has none

-- Octets are no frame because what follows the Basic Header is no Common Header, but, by its number,
-- a secured packet; or because they are too many, and their packet begins as a secured one.
abbrev pub IsSecured : List ℕ → FrameFault → Type 0
IsSecured text (frames.Packet f) =
    (f.kind ≡ BasicNext) × (octet : ℕ) × (slice_get text (14 + f.at) ≡ Some octet)
    × (octet % 16 ≡ 2)
IsSecured text frames.TooLong = slice_get text 14 ≡ Some 18
IsSecured text fault = ⊥

-- how it is told that these octets are no frame, with this fault
abbrev pub IsTold : FrameFault → List ℕ → RecordFault → Type 0
IsTold fault text (faults.Frame f) = (f ≡ fault) × ¬ IsSecured text fault
IsTold fault text (faults.Secured f) = (f ≡ fault) × IsSecured text fault
IsTold fault text (faults.Record f) = ⊥
IsTold fault text (faults.Link f) = ⊥
IsTold fault text (faults.Signed f) = ⊥
IsTold fault text (faults.Message f) = ⊥

-- why octets are no frame
abbrev pub IsNoFrame : List ℕ → RecordFault → Type 0
IsNoFrame text (faults.Frame f) = IsFrameFault text f × ¬ IsSecured text f
IsNoFrame text (faults.Secured f) = IsFrameFault text f × IsSecured text f
IsNoFrame text (faults.Record f) = ⊥
IsNoFrame text (faults.Link f) = ⊥
IsNoFrame text (faults.Signed f) = ⊥
IsNoFrame text (faults.Message f) = ⊥

-- The first fault of a record: its link layer or its being cut, its link layer's header, its octets.
abbrev pub IsRecordFault : RecordHeader → List ℕ → RecordFault → Type 0
IsRecordFault h w (faults.Record f) = fault_of h ≡ Some f
IsRecordFault h w (faults.Link f) =
    (fault_of h ≡ None) × (layer : LinkLayer) × (h.layer ≡ Some layer) × IsLinkFault layer w f
IsRecordFault h w (faults.Frame f) =
    (fault_of h ≡ None) × (text : List ℕ) × IsText h.layer w text × IsNoFrame text (faults.Frame f)
IsRecordFault h w (faults.Secured f) =
    (fault_of h ≡ None) × (text : List ℕ) × IsText h.layer w text
    × IsNoFrame text (faults.Secured f)
IsRecordFault h w (faults.Signed f) = ⊥
IsRecordFault h w (faults.Message f) = ⊥

-- ---- what it is chosen by

-- the destination port of a packet; a beacon has none
abbrev pub port_in : Body → Option ℕ
port_in beacon = None
port_in (shb media message) = Some message.port
port_in (gbc number area message) = Some message.port
port_in (gac number area message) = Some message.port

-- what a frame is chosen by
abbrev pub traits_in : Transmission → Traits
traits_in t =
    record {
      kind = standard_kind (kind_of_body t.pdu.body);
      source = t.pdu.vector.address;
      from = t.link_source;
      to = t.link_target;
      port = port_in t.pdu.body;
      left = t.hops_left;
      class = t.pdu.class;
      number = number_in t.pdu.body;
      area = area_in t.pdu.body;
    }

-- a record that is refused because it is of another protocol: its link layer isn't read (P3), or says
-- another kind of frame (L2), or its frame is of another type (L2)
abbrev pub is_other : RecordFault → Bool
is_other (faults.Record records.LinkType) = true
is_other (faults.Record records.CutFrame) = false
is_other (faults.Link links.Kind) = true
is_other (faults.Link links.Short) = false
is_other (faults.Frame frames.EtherType) = true
is_other (faults.Frame fault) = false
is_other (faults.Secured fault) = false
is_other (faults.Signed fault) = false
is_other (faults.Message fault) = false

-- what a record is chosen by: its frame; or that it has none, and whether it is of another protocol
abbrev pub AreTraits : RecordHeader → List ℕ → Option Traits → Bool → Type 0
AreTraits h w (Some traits) other =
    (t : Transmission) × HasFrame h w t × (traits ≡ traits_in t) × (other ≡ false)
AreTraits h w None other =
    (fault : RecordFault) × IsRecordFault h w fault × (other ≡ is_other fault)
