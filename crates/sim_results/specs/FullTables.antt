-- Receptions that met a full location table.
use Rattle.std.specs.Prelude.{Bool, true, false}
use Rattle.its_station.specs.declared.refused.Refused.TheVariants.{TableFull}
use Rattle.its_world.specs.Entries.{Entry}
use Rattle.its_station.specs.declared.answer.Answer.TheVariants.{Refused}
use Rattle.its_world.specs.declared.entry.EntryFault.TheVariants.{Station}

-- the event was refused because the location table was full
abbrev pub met_full_table : Entry → Bool
met_full_table (Refused (Station TableFull)) = true
met_full_table entry = false
