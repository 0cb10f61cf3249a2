-- What a frame has that was read once for many receivers.
use Rattle.std.specs.Prelude.{◌≡◌, ◌≤◌, ℕ, List, length, drop}
use Rattle.its_model.specs.Packet.{Transmission, number_in}
use Rattle.its_headers.specs.Encoding.{payload_of}
use Rattle.its_headers.specs.Fields.{kind_of_body, area_in, SaysMessage, IsLength}
use Rattle.its_headers.specs.Seen.{seen_of}
use Rattle.its_linkframe.specs.Frames.{EncodesFrame, sent_from_to}
use Rattle.its_station.specs.declared.known.FrameContents.{FrameContents}

-- the octets are this frame, and these are its contents
pub record HasContents (t : Transmission) (w : List ℕ) (c : FrameContents) : Type 0 where
  pub encodes : EncodesFrame t w
  pub target : c.target ≡ t.link_target
  pub sender : c.sender ≡ t.link_source
  pub kind : c.kind ≡ kind_of_body t.pdu.body
  pub hops_left : c.hops_left ≡ t.hops_left
  pub vector : c.vector ≡ t.pdu.vector
  pub number : c.number ≡ number_in t.pdu.body
  pub area : c.area ≡ area_in t.pdu.body
  pub within : c.payload ≤ length w
  pub payload : drop c.payload w ≡ payload_of t.pdu.body
  pub message : SaysMessage t.pdu.body (drop c.payload w)
  pub size : IsLength (kind_of_body t.pdu.body) (length (drop c.payload w))

-- the packet of these octets, between the link addresses of these contents
abbrev pub frame_with : List ℕ → FrameContents → Transmission
frame_with w c = sent_from_to c.sender c.target (seen_of (drop 14 w))

-- the octets are a frame, and these are its contents
abbrev pub AreContentsOf : List ℕ → FrameContents → Type 0
AreContentsOf w c = HasContents (frame_with w c) w c
