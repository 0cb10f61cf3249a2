-- Who is absent.
use Rattle.std.specs.Prelude.{ℕ, zero, suc, List, [], ◌∷◌, Bool, true, false, not, cond, nat_eq}
use Rattle.sim_simulation.specs.declared.note.Note.{Note}
use Rattle.sim_simulation.specs.declared.note.Note.TheVariants as notes

-- the station of this number isn't present at the start; one of which nothing is said is
abbrev pub starts_absent : List Bool → ℕ → Bool
starts_absent [] station = false
starts_absent (is_present ∷ present) zero = not is_present
starts_absent (is_present ∷ present) (suc station) = starts_absent present station

-- whether a station is absent after a note, which was absent before or not
abbrev pub absent_after : Note → ℕ → Bool → Bool
absent_after (notes.Made made id) station was = cond (nat_eq made station) true was
absent_after (notes.Came came) station was = cond (nat_eq came station) false was
absent_after (notes.Left left) station was = cond (nat_eq left station) true was
absent_after (notes.Heard hearer frame) station was = was
absent_after (notes.Lost hearer frame) station was = was
absent_after (notes.Released holder frame) station was = was
absent_after (notes.Dropped holder frame) station was = was
absent_after (notes.Absent id event has_left) station was = was
