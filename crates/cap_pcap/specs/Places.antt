-- Whether a record has a place in a file that is written.
use Rattle.std.specs.Prelude.{◌≡◌, Bool, true, Option, None, Some, if◌then◌else◌, ◌==◌}
use Rattle.cap_linklayers.specs.LinkLayers.{layer_number}
use Rattle.cap_pcap.specs.Records.{fault_on}
use Rattle.cap_linklayers.specs.declared.link.LinkLayer.{LinkLayer}
use Rattle.cap_pcap.specs.declared.record.RecordHeader.{RecordHeader}
use Rattle.cap_pcap.specs.declared.record.RecordFault.{RecordFault}
use Rattle.cap_pcap.specs.declared.record.RecordFault.TheVariants as faults

-- whether a file of a link layer, or of any where none is given, has records of this one
abbrev pub allows_layer : Option LinkLayer → LinkLayer → Bool
allows_layer None own = true
allows_layer (Some only) own = layer_number only == layer_number own

-- why a record has no place: its link layer comes before its being cut
abbrev pub refusal_on : Option LinkLayer → Option LinkLayer → RecordHeader → Option RecordFault
refusal_on None only h = Some faults.LinkType
refusal_on (Some own) only h =
    if allows_layer only own then fault_on (Some own) h else Some faults.LinkType

abbrev pub refusal_of : RecordHeader → Option LinkLayer → Option RecordFault
refusal_of h only = refusal_on h.layer only h

-- the link layer of a record that has one
abbrev pub IsLayerFor : RecordHeader → Option LinkLayer → LinkLayer → Type 0
IsLayerFor h only own = (h.layer ≡ Some own) × (refusal_of h only ≡ None)
