-- The lines of a text, and what is read of them.
use Rattle.std.specs.Prelude.{◌≡◌, ◌<◌, ◌%◌, ◌==◌, ◌++◌, ◌∷◌, ◌↔◌, [], ℕ, List, Bool, Option}
use Rattle.std.specs.Prelude.{All, IsTrue, Some, IfSome, if◌then◌else◌, length, take, drop}
use Rattle.std.specs.Char.{IsAsciiHexdigit}
use Rattle.std.specs.Io.KnownBytes.{Consumes}
use Rattle.cmd_text.specs.declared.lines.line.Line.{Line}
use Rattle.cmd_text.specs.declared.lines.reading.Reached.{Reached}
use Rattle.cmd_text.specs.declared.lines.reading.Reached.TheVariants as reached
use Rattle.cmd_text.specs.declared.lines.passed.Passed.{Passed}

-- the octets before the first line feed, or all of them
abbrev pub first_line : List ℕ → List ℕ
first_line [] = []
first_line (x ∷ xs) = if x == 10 then [] else x ∷ first_line xs

-- the octets after the first line feed, or none
abbrev pub after_line : List ℕ → List ℕ
after_line [] = []
after_line (x ∷ xs) = if x == 10 then xs else after_line xs

-- the lines that begin with this octet and go on as these do
abbrev pub begun_with : ℕ → List (List ℕ) → List (List ℕ)
begun_with x [] = (x ∷ []) ∷ []
begun_with x (line ∷ lines) = (x ∷ line) ∷ lines

-- The lines of a text, without their line feeds: what follows the last line feed is a line where it
-- has an octet.
abbrev pub lines_of : List ℕ → List (List ℕ)
lines_of [] = []
lines_of (x ∷ xs) = if x == 10 then [] ∷ lines_of xs else begun_with x (lines_of xs)

-- this is what is known of these octets
pub record IsPassed (passed : Passed) (octets : List ℕ) : Type 0 where
  pub any : IsTrue passed.any ↔ (0 < length octets)
  pub odd : passed.odd ≡ (length octets % 2 == 1)
  pub stray : IsTrue passed.stray ↔ ¬ All IsAsciiHexdigit octets

-- this is what is kept of a line of these octets
pub record IsKept (line : Line) (octets : List ℕ) : Type 0 where
  pub start : line.start.items ≡ take line.most octets
  pub passed : IsPassed line.passed (drop line.most octets)

-- The first line of these octets was read, which has left the reader with the rest: there is none
-- exactly where there is no octet.
pub record IsLineRead (octets : List ℕ) (left : Option (List ℕ)) (line : Line) (is_there : Bool)
    : Type 0 where
  pub there : IsTrue is_there ↔ (0 < length octets)
  pub kept : IsKept line (first_line octets)
  pub rest : left ≡ Some (after_line octets)

-- what a reader gave of a line: a piece of it, and what tells its end
abbrev pub GivesPiece : Option (List ℕ) → Option (List ℕ) → List ℕ → Reached → Type 0
GivesPiece old new piece reached.Within = Consumes old new piece
GivesPiece old new piece reached.EndOfLine = Consumes old new (piece ++ 10 ∷ [])
GivesPiece old new piece reached.EndOfText =
    (piece ≡ []) × IfSome old (λ octets. (octets ≡ []) × (new ≡ Some []))

-- A piece of a line was taken from the reader and added to the line.
pub record TakesPiece (old new : Option (List ℕ)) (before after : Line) (reached : Reached)
    : Type 0 where
  pub piece : List ℕ
  pub no_end : All (λ octet. ¬ (octet ≡ 10)) piece
  pub gives : GivesPiece old new piece reached
  pub adds : (taken : List ℕ) → IsKept before taken → IsKept after (taken ++ piece)
