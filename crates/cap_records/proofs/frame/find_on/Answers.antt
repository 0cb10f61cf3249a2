use Rattle.std.proofs.Common.{List, ℕ, drop, refl, subst}
use Rattle.std.proofs.lemmas.List.{take_rest}
use Rattle.its_linkframe.specs.Frames.{EncodesFrame, transmission_of}
use Rattle.cap_records.specs.RecordFrames.{IsReadAs}
use Rattle.cap_records.proofs.Placed.{placed, text_begins}
use Rattle.cap_records.proofs.frame.find_on.Goals as goal

pub returns-in-Ok-clause-frame : goal.returns-in-Ok-clause-frame
returns-in-Ok-clause-frame c =
    let layer = c.args.layer in
    let w : List ℕ = c.args.octets.now in
    let start : ℕ = c.args.start in
    let text : List ℕ = c.read_from-frame.result.octets.now in
    let read : IsReadAs layer (drop start w) text = subst (λ (v : List ℕ). IsReadAs layer v text)
    (take_rest w start) c.read_from-frame.ensures.octets in
    let t = transmission_of c.in-Ok.field-0 in
    let encodes : EncodesFrame t text = rw c.in-Ok.is at c.read_from-frame.ensures.found in
    let (short, begins) = text_begins layer (drop start w) text read in (
      t,
      text,
      read,
      encodes,
      refl,
      placed start w text t c.requires short begins encodes,
    )
