use Rattle.std.proofs.Common.{List, ℕ, subst}
use Rattle.its_model.specs.Packet.{Transmission}
use Rattle.cap_records.proofs.FoundRecords.{cut_found}
use Rattle.cap_records.specs.FoundFrames.{IsPlaced}
use Rattle.cap_records.proofs.frames.FrameReader.read_cut.Goals as goal

pub returns-in-Ok-read_front : goal.returns-in-Ok-read_front
returns-in-Ok-read_front c =
    let placed = subst (λ (w : List ℕ). (t : Transmission) × IsPlaced w t c.in-Ok-read_front.cut.place)
    c.as_slice.ensures.value c.in-Ok-read_front.ensures in
    cut_found c.extend_from_slice.new.self.items c.in-Ok-read_front.cut.place c.known_part.result placed
    c.known_part.ensures
