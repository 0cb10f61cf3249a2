use Rattle.std.proofs.Common.{◌∙◌, ap, Some, false}
use Rattle.its_model.specs.Packet.{Transmission}
use Rattle.its_linkframe.specs.Frames.{transmission_of}
use Rattle.cap_records.specs.Choosing.{selects}
use Rattle.cap_records.specs.FoundFrames.{octets_at}
use Rattle.cap_records.specs.RecordFrames.{traits_in}
use Rattle.cap_records.proofs.selection.Selection.has_frame.Goals as goal

pub returns : goal.returns
returns c =
    λ t placed.
    let same = c.one_frame.ensures (transmission_of c.view.result) t
    (octets_at c.args.place c.args.octets.now) c.view.ensures placed.encodes in
    c.selects_frame.ensures
    ∙ ap (λ (u : Transmission). selects c.args.self.now.choice c.args.moment (Some (traits_in u))
    false) same
