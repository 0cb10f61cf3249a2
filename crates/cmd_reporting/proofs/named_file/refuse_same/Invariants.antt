use Rattle.cmd_reporting.specs.NamedFiles.{AreApartTo}
use Rattle.cmd_reporting.proofs.named_file.refuse_same.Given as goal

abbrev pub invariant-loop-place : goal.invariant-loop-place
invariant-loop-place l = record {
  apart : AreApartTo l.place l.written l.read;
}
