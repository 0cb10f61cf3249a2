-- Layouts: what octets are, one part behind another, and what is wrong first in them. A field is
-- checked as soon as it is whole, and none behind it counts before it.
use Rattle.std.specs.Prelude.{◌≡◌, ℕ, ◌<◌, ◌⊎◌, List, [], ◌++◌, length, take, min}
use Rattle.std.specs.Prelude.{Option, Some, None, Result, Ok, Err}
use Rattle.std.specs.Io.KnownBytes.{IsAtEnd}
use Rattle.its_linkframe.specs.declared.record.CaptureFault.TheVariants as captures
use Rattle.its_linkframe.specs.Devices.{ConsumesPrefix}
use Rattle.cap_pcap.specs.declared.fault.SourceFault.{SourceFault}
use Rattle.cap_pcap.specs.declared.fault.SourceFault.TheVariants as faults
use Rattle.cap_pcap.specs.declared.octets.Endianness.{Endianness}
use Rattle.cap_pcap.specs.Octets.{number_in}
use Rattle.cap_pcap.specs.Reading.{MeetsEnd}

-- A part of a file that says a value.
pub record Layout (A : Type 0) : Type 1 where
  -- these octets, and no others, are the part, and say the value
  pub Is : A → List ℕ → Type 0
  -- these are right, and the part needs more
  pub Ends : List ℕ → Type 0
  -- these are right but for the field that they end with
  pub Wrong : List ℕ → Type 0
  -- memory is taken behind these
  pub Takes : List ℕ → Type 0

-- octets of which the first are `P` and the others `Q`
pub record Joined (P Q : List ℕ → Type 0) (w : List ℕ) : Type 0 where
  pub first : List ℕ
  pub others : List ℕ
  pub parts : w ≡ first ++ others
  pub is_first : P first
  pub is_others : Q others

-- a part, and behind it the one that its value asks for
unfoldable pub behind : {A B : Type 0} → Layout A → (A → Layout B) → Layout B
behind {A} L K = record {
  Is = λ y w. (x : A) × Joined (L.Is x) ((K x).Is y) w;
  Ends = λ w. L.Ends w ⊎ ((x : A) × Joined (L.Is x) ((K x).Ends) w);
  Wrong = λ w. L.Wrong w ⊎ ((x : A) × Joined (L.Is x) ((K x).Wrong) w);
  Takes = λ w. L.Takes w ⊎ ((x : A) × Joined (L.Is x) ((K x).Takes) w);
}

-- no octet, and a value of which this holds
abbrev pub gives_that : {A : Type 0} → (A → Type 0) → Layout A
gives_that Holds = record {
  Is = λ x w. (w ≡ []) × Holds x;
  Ends = λ _. ⊥;
  Wrong = λ _. ⊥;
  Takes = λ _. ⊥;
}

-- no octet, and this value
abbrev pub gives : {A : Type 0} → A → Layout A
gives x = gives_that (λ y. y ≡ x)

-- So many octets, of which it is told what they say, and whether they may stand there.
abbrev pub field : {A : Type 0} → ℕ → (A → List ℕ → Type 0) → (List ℕ → Type 0) → Layout A
field size Says IsWrong = record {
  Is = λ x w. (length w ≡ size) × Says x w;
  Ends = λ w. length w < size;
  Wrong = λ w. (length w ≡ size) × IsWrong w;
  Takes = λ _. ⊥;
}

-- a number of which this holds
abbrev pub number_that : Endianness → ℕ → (ℕ → Type 0) → Layout ℕ
number_that o size Holds =
    field size (λ x w. (number_in o size w ≡ x) × Holds x) (λ w. ¬ Holds (number_in o size w))

-- any number
abbrev pub number : Endianness → ℕ → Layout ℕ
number o size = number_that o size (λ _. Unit {0})

-- so many octets of any kind
abbrev pub octets : ℕ → Layout (Unit {0})
octets size = field size (λ _ _. Unit {0}) (λ _. ⊥)

-- A frame of so many octets, of which the first are kept, as many as are wanted and there are.
-- Memory is taken before the first of them is read.
abbrev pub frame : ℕ → ℕ → List ℕ → Layout (Unit {0})
frame captured keep kept = record {
  Is = λ _ w. (length w ≡ captured) × (kept ≡ take (min captured keep) w);
  Ends = λ w. length w < captured;
  Wrong = λ _. ⊥;
  Takes = λ w. w ≡ [];
}

-- Of the octets that are known, those went of which this holds, and nothing after them.
abbrev pub Reads : (List ℕ → Type 0) → Option (List ℕ) → Option (List ℕ) → Type 0
Reads P None new = Unit {0}
Reads P (Some w) None = ⊥
Reads P (Some w) (Some rest) = (gone : List ℕ) × P gone × (w ≡ gone ++ rest)

-- What a fault says of a part: the file ends in it, or a field of it is wrong, and nothing behind
-- that field was read.
abbrev pub IsFaultOf : {A : Type 0} → Layout A → Option (List ℕ) → Option (List ℕ) → SourceFault
    → Type 0
IsFaultOf L old new faults.CutFile = Reads (L.Ends) old new × IsAtEnd new
IsFaultOf L old new faults.Malformed = Reads (L.Wrong) old new
IsFaultOf L old new faults.LinkType = ⊥
IsFaultOf L old new (faults.Capture captures.CutRecord) = ⊥
IsFaultOf L old new (faults.Capture captures.Length) = ⊥
IsFaultOf L old new (faults.Capture captures.Io) = ConsumesPrefix old new
IsFaultOf L old new (faults.Capture captures.NoMemory) = Reads (L.Takes) old new
IsFaultOf L old new (faults.Capture captures.Failed) = ⊥

-- What an answer says of a part: its value, and that it went, or its first fault.
abbrev pub IsAnswerOf : {A : Type 0} → Layout A → Option (List ℕ) → Option (List ℕ)
    → Result A SourceFault → Type 0
IsAnswerOf L old new (Ok x) = Reads (L.Is x) old new
IsAnswerOf L old new (Err f) = IsFaultOf L old new f

-- The same where nothing may be left: then the end is met.
abbrev pub IsAnswerOrEnd : {A : Type 0} → Layout A → Option (List ℕ) → Option (List ℕ)
    → Result (Option A) SourceFault → Type 0
IsAnswerOrEnd L old new (Ok (Some x)) = Reads (L.Is x) old new
IsAnswerOrEnd L old new (Ok None) = MeetsEnd old new
IsAnswerOrEnd L old new (Err f) = IsFaultOf L old new f
