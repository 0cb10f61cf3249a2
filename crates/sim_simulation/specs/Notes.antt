-- Which notes of a run are told.
use Rattle.std.specs.Prelude.{Bool, true, false}
use Rattle.sim_simulation.specs.declared.note.Note.{Note}
use Rattle.sim_simulation.specs.declared.note.Note.TheVariants as notes

-- whether it has a line: that a station was made, or will hear a frame, has none
abbrev pub is_told : Note → Bool
is_told (notes.Made station id) = false
is_told (notes.Heard station frame) = false
is_told note = true
