use Rattle.std.proofs.Common.{◌≡◌, ◌++◌, drop}
use Rattle.sim_moves.specs.Columns.{texts}
use Rattle.sim_moves.specs.Fields.{fields_of, fields_after}
use Rattle.sim_moves.proofs.fields.split.Given as goal

-- the fields that are done, and those of the rest
abbrev pub invariant-loop-octet : goal.invariant-loop-octet
invariant-loop-octet l = fields_of l.separator l.line
    ≡ texts l.fields.items
    ++ fields_after l.separator l.part l.field.items (drop l.octet-index l.line)
