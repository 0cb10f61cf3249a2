-- The lines of the input.
use Rattle.std.specs.Prelude.{◌≡◌, ℕ, List, Option, IfSome, length, map, nat_lt, take}
use Rattle.cmd_text.specs.Lines.{lines_of}
use Rattle.cmd_text.specs.declared.lines.line.Line.{Line}
use Rattle.its_lines.specs.Lines.{LineText}

-- the line that was read
abbrev pub text_of : Line → LineText
text_of line = record { octets = line.start.items; longer = line.passed.any }

-- a line of these octets, as it is kept: of a longer one its first 65536
abbrev pub kept_line : List ℕ → LineText
kept_line octets = record { octets = take 65536 octets; longer = nat_lt 65536 (length octets) }

-- these are the lines of the input, all of them in order, where its octets are known
abbrev pub AreLines : Option (List ℕ) → List LineText → Type 0
AreLines input lines = IfSome input (λ octets. lines ≡ map kept_line (lines_of octets))
