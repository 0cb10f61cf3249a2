-- What a file says of an interface.
use Rattle.std.specs.Prelude.{ℕ, List, [], take, Option, Some, None}
use Rattle.cap_linklayers.specs.LinkLayers.{layer_number}
use Rattle.cap_pcap.specs.declared.info.InterfaceHead.{InterfaceHead}
use Rattle.cap_pcap.specs.declared.info.InterfaceInfo.{InterfaceInfo}
use Rattle.cap_pcap.specs.declared.name.InterfaceName.{InterfaceName}
use Rattle.cap_pcap.specs.declared.pcap.FileHeader.{FileHeader}
use Rattle.cap_pcap.specs.declared.pcap.Unit.{Unit}
use Rattle.cap_pcap.specs.declared.pcap.Unit.TheVariants as units

-- Ethernet, in milliseconds
abbrev pub millis_head : InterfaceHead
millis_head = record { link = 1; resolution = 3; offset = 0 }

-- the name, of which there may be none
abbrev pub name_in : Option InterfaceName → List ℕ
name_in None = []
name_in (Some n) = take n.size n.octets

-- the unit of a classic pcap file, as `if_tsresol` says it
abbrev pub resolution_of : Unit → ℕ
resolution_of units.Micro = 6
resolution_of units.Nano = 9

-- the one interface of a classic pcap file
abbrev pub classic_info : FileHeader → InterfaceInfo
classic_info h = record {
  head = record {
    link = layer_number h.layer;
    resolution = resolution_of h.magic.unit;
    offset = 0;
  };
  layer = Some h.layer;
  name = None;
}
