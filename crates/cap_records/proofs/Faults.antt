-- Why a record has no frame.
use Rattle.std.proofs.Common.{◌≡◌, List, ℕ, Option, Some, None, Result, Ok, Err, IfOk, IfErr}
use Rattle.std.proofs.Common.{rules, subst, sym}
use Rattle.cap_linklayers.specs.LinkLayers.{IsFrameIn}
use Rattle.its_linkframe.specs.Frames.{EncodesFrame}
use Rattle.its_model.specs.Packet.{Transmission}
use Rattle.cap_records.specs.FoundFrames.{IsPlaced}
use Rattle.cap_records.specs.declared.found.FoundFrame.{FoundFrame}
use Rattle.cap_records.specs.RecordFrames.{HasFrame}
use Rattle.cap_linklayers.specs.declared.link.LinkLayer.{LinkLayer}
use Rattle.cap_pcap.specs.Records.{fault_of}
use Rattle.cap_pcap.specs.declared.record.RecordHeader.{RecordHeader}
use Rattle.cap_records.specs.RecordFrames.{IsNoFrame, IsReadAs, IsRecordFault, IsText}
use Rattle.cap_records.specs.declared.refusal.RecordFault.{RecordFault}
use Rattle.cap_records.specs.declared.refusal.RecordFault.TheVariants as faults

-- what is read of the octets of a record of this link layer
text_of_layer : (h : RecordHeader) (layer : LinkLayer) (w carried text : List ℕ)
    → h.layer ≡ Some layer → IsFrameIn layer w carried → IsReadAs layer carried text
    → IsText h.layer w text
text_of_layer h layer w carried text is frame read =
    subst (λ (l : Option LinkLayer). IsText l w text) (sym is) (carried, frame, read)

-- the fault of what a link layer carries is that of the record
pub fault_of_carried : {T : Type 0} (h : RecordHeader) (layer : LinkLayer) (w carried : List ℕ)
    (read : Result T RecordFault) → fault_of h ≡ None → h.layer ≡ Some layer
    → IsFrameIn layer w carried
    → IfErr read (λ f. (text : List ℕ) × IsReadAs layer carried text × IsNoFrame text f)
    → IfErr read (IsRecordFault h w)
fault_of_carried h layer w carried (Ok v) whole is frame fault = search rules
fault_of_carried h layer w carried (Err (faults.Frame f)) whole is frame fault =
    (whole, fault.0, text_of_layer h layer w carried fault.0 is frame fault.1, fault.2)
fault_of_carried h layer w carried (Err (faults.Secured f)) whole is frame fault =
    (whole, fault.0, text_of_layer h layer w carried fault.0 is frame fault.1, fault.2)
fault_of_carried h layer w carried (Err (faults.Record f)) whole is frame fault = absurd fault.2
fault_of_carried h layer w carried (Err (faults.Link f)) whole is frame fault = absurd fault.2
fault_of_carried h layer w carried (Err (faults.Signed f)) whole is frame fault = absurd fault.2
fault_of_carried h layer w carried (Err (faults.Message f)) whole is frame fault = absurd fault.2

-- the frame of what a link layer carries is that of the record
pub frame_of_carried : (h : RecordHeader) (layer : LinkLayer) (w carried new : List ℕ)
    (found : Result FoundFrame RecordFault) → fault_of h ≡ None → h.layer ≡ Some layer
    → IsFrameIn layer w carried
    → IfOk found (λ f. (t : Transmission) × (text : List ℕ) × IsReadAs layer carried text
    × EncodesFrame t text × (f.secured ≡ None) × IsPlaced new t f.place)
    → IfOk found (λ f. (t : Transmission) × HasFrame h w t × (f.secured ≡ None)
    × IsPlaced new t f.place)
frame_of_carried h layer w carried new (Err fault) whole is frame has = tt
frame_of_carried h layer w carried new (Ok f) whole is frame has =
    let (t, text, read, encodes, none, placed) = has in (
      t,
      (whole, text, text_of_layer h layer w carried text is frame read, encodes),
      none,
      placed,
    )
