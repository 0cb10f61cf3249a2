-- Captures: frames with the moments at which they were taken, one after the other (profile).
use Rattle.std.specs.Prelude.{◌≡◌, ℕ, ◌+◌, ◌^◌, ◌<◌, ◌≤◌, ◌⊎◌, List, [], ◌∷◌, ◌++◌, length, drop}
use Rattle.std.specs.Prelude.{All}
use Rattle.byteorder.specs.Endian.{big_bytes, big_number}
use Rattle.its_linkframe.specs.declared.record.Record.{Record}
use Rattle.its_linkframe.specs.declared.record.TheConstants.{LONGEST_FRAME}

-- a frame, and the moment at which it was taken
pub record Captured : Type 0 where
  pub moment : ℕ
  pub frame : List ℕ

-- a frame in a capture has 1 to 1468 octets
abbrev pub IsFrameLength : ℕ → Type 0
IsFrameLength n = (0 < n) × (n ≤ LONGEST_FRAME)

abbrev pub captured_at : ℕ → List ℕ → Captured
captured_at moment frame = record { moment = moment; frame = frame }

pub record IsCaptured (r : Captured) : Type 0 where
  pub moment : r.moment < 2 ^ 64
  pub frame : IsFrameLength (length r.frame)

-- what goes before a frame: its moment in 8 octets, and its length in 2
unfoldable pub head_octets : ℕ → ℕ → List ℕ
head_octets moment size = big_bytes 8 moment ++ big_bytes 2 size

-- the octets of a record: moment, length, frame
abbrev pub record_octets : Captured → List ℕ
record_octets r = head_octets r.moment (length r.frame) ++ r.frame

abbrev pub capture_octets : List Captured → List ℕ
capture_octets [] = []
capture_octets (r ∷ rs) = record_octets r ++ capture_octets rs

-- the octets are those of the records, one after the other, and of nothing else
pub record EncodesCapture (records : List Captured) (w : List ℕ) : Type 0 where
  pub fields : All IsCaptured records
  pub octets : w ≡ capture_octets records

-- the value of a record that was read
abbrev pub captured : Record → Captured
captured r = captured_at r.moment r.frame.items

-- The length that the octets of a record announce, after its moment.
abbrev pub announced_length : List ℕ → ℕ
announced_length w = big_number 2 (drop 8 w)

-- a whole length stands there, and it is one that a frame may have
abbrev pub AnnouncesFrame : List ℕ → Type 0
AnnouncesFrame w = (10 ≤ length w) × IsFrameLength (announced_length w)

-- a whole length stands there, and it is 0 or over 1468
abbrev pub AnnouncesNoFrame : List ℕ → Type 0
AnnouncesNoFrame w = (10 ≤ length w) × ¬ IsFrameLength (announced_length w)

-- the octets end in a record's moment or length, or in a frame that was announced
abbrev pub EndsInRecord : List ℕ → Type 0
EndsInRecord w =
    (0 < length w) × ((length w < 10) ⊎ (AnnouncesFrame w × (length w < 10 + announced_length w)))
