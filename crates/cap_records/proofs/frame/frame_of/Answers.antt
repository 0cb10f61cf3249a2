use Rattle.std.proofs.Common.{◌≡◌, IfErr, IfOk, List, None, ℕ, drop, subst}
use Rattle.its_linkframe.specs.Frames.{EncodesFrame}
use Rattle.its_model.specs.Packet.{Transmission}
use Rattle.cap_records.proofs.Faults.{fault_of_carried, frame_of_carried}
use Rattle.cap_records.specs.FoundFrames.{IsPlaced}
use Rattle.cap_records.specs.RecordFrames.{IsNoFrame, IsReadAs}
use Rattle.cap_records.proofs.frame.frame_of.Goals as goal

pub returns-clause-frame : goal.returns-clause-frame
returns-clause-frame c =
    let layer = c.in_ok-layer.layer in
    let start : ℕ = c.in_ok-start.start in
    let brought : List ℕ = c.frame_start.new.octets.items in
    let found = c.find_on.result in
    let has = subst
    (λ (v : List ℕ). IfOk found (λ f. (t : Transmission) × (text : List ℕ)
    × IsReadAs layer (drop start v) text × EncodesFrame t text × (f.secured ≡ None)
    × IsPlaced v t f.place)) c.as_slice.ensures.value c.find_on.ensures.frame in
    frame_of_carried c.args.head.now layer c.args.octets.now.items (drop start brought) brought
    found c.in_ok-layer.ensures.whole c.in_ok-layer.ensures.layer c.in_ok-start.ensures.frame has

pub returns-clause-fault : goal.returns-clause-fault
returns-clause-fault c =
    let layer = c.in_ok-layer.layer in
    let start : ℕ = c.in_ok-start.start in
    let brought : List ℕ = c.frame_start.new.octets.items in
    let found = c.find_on.result in
    let none = subst
    (λ (v : List ℕ). IfErr found (λ f. (text : List ℕ) × IsReadAs layer (drop start v) text
    × IsNoFrame text f)) c.as_slice.ensures.value c.find_on.ensures.fault in
    fault_of_carried c.args.head.now layer c.args.octets.now.items (drop start brought) found
    c.in_ok-layer.ensures.whole c.in_ok-layer.ensures.layer c.in_ok-start.ensures.frame none
