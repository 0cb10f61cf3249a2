-- What is kept of a source, as what is known of it.
use Rattle.std.specs.Prelude.{reverse}
use Rattle.its_loctable.specs.declared.slot.Slot.{Slot}
use Rattle.its_model.specs.History.{Known}

-- what a slot says of its source: its list of numbers has the newest last
abbrev pub slot_known : Slot → Known
slot_known s =
    record { vector = s.vector; neighbour = s.neighbour; numbers = reverse s.recent.numbers }
