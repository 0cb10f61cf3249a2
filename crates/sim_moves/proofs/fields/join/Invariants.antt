use Rattle.std.proofs.Common.{◌≡◌, length, take}
use Rattle.sim_moves.specs.Columns.{texts}
use Rattle.sim_moves.specs.Fields.{cut}
use Rattle.sim_moves.proofs.Bounds.{AreWithin}
use Rattle.sim_moves.proofs.fields.join.Given as goal

-- the first fields are joined
abbrev pub invariant-loop-field : goal.invariant-loop-field
invariant-loop-field l = record {
  within : AreWithin (length l.text.items) l.bounds.items;
  joined : cut l.text.items l.bounds.items ≡ texts (take l.field-index l.fields);
}
