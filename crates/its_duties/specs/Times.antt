-- Times. Stamps are in nanoseconds, those of a station in whole milliseconds of its own clock.
use Rattle.std.specs.Prelude.{ℕ, ◌+◌, ◌-◌, ◌*◌, ◌≤◌, Bool, ◌&&◌, nat_le, nat_lt}
use Rattle.std.specs.Prelude.{if◌then◌else◌, List, [], ◌∷◌, Option, Some, None}
use Rattle.std.specs.List.{list_any}
use Rattle.its_duties.specs.declared.claims.Claims.{Claims}
use Rattle.its_duties.specs.Seen.{Seen, sendings}

-- milliseconds in nanoseconds
abbrev pub nanos : ℕ → ℕ
nanos ms = 1000000 * ms

-- How far a stamp may be from a moment of the station: by its skew, and by a millisecond, since a
-- station knows whole milliseconds only.
abbrev pub slack : Claims → ℕ
slack k = nanos (k.skew + 1)

-- from a reception to the frame that it causes, at most
abbrev pub wait : Claims → ℕ
wait k = nanos k.within

-- from a call to its frame, at most
abbrev pub lag : Claims → ℕ
lag k = nanos k.queue

-- how long a source counts
abbrev pub life : Claims → ℕ
life k = nanos k.life

-- how far apart two records may be that the station took to be less than a life apart
abbrev pub reach : Claims → ℕ
reach k = life k + wait k + 2 * slack k

-- how much earlier the first sending of a retried frame may have been, which isn't in the capture
abbrev pub retry_time : ℕ
retry_time = nanos 100

-- ---- the clock of the station, and that of the capture

-- The station's clock may be ahead of that of the stamps, or behind it, by any number of
-- nanoseconds.
pub record Shift : Type 0 where
  pub ahead : ℕ
  pub behind : ℕ

-- a stamp that is at most so much earlier than this moment of the station
abbrev pub IsNotEarlier : Shift → (by stamp moment : ℕ) → Type 0
IsNotEarlier shift by stamp moment =
    nanos moment + shift.behind ≤ stamp + shift.ahead + by

-- one that is at most so much later
abbrev pub IsNotLater : Shift → (by stamp moment : ℕ) → Type 0
IsNotLater shift by stamp moment = stamp + shift.ahead ≤ nanos moment + shift.behind + by

-- the stamp of what happened at this moment
pub record IsStampOf (k : Claims) (shift : Shift) (stamp moment : ℕ) : Type 0 where
  pub not_earlier : IsNotEarlier shift (slack k) stamp moment
  pub not_later : IsNotLater shift (slack k) stamp moment

-- ---- stretches of time, both ends of them within

pub record Stretch : Type 0 where
  pub from : ℕ
  pub to : ℕ

abbrev pub is_within : Stretch → ℕ → Bool
is_within stretch stamp = nat_le stretch.from stamp && nat_le stamp stretch.to

-- a record lies in a stretch if one of its sendings does
abbrev pub lies_in : Stretch → Seen → Bool
lies_in stretch r = list_any (is_within stretch) (sendings r)

-- when a forwarded frame may have been decided on that has this stamp
abbrev pub decided_in : Claims → ℕ → Stretch
decided_in k stamp = record { from = stamp - wait k - slack k; to = stamp + slack k }

-- when the call was made for a frame of the station's own that has this stamp
abbrev pub called_in : Claims → ℕ → Stretch
called_in k stamp = record { from = stamp - lag k - slack k; to = stamp + slack k }

-- which stamps a record may have that caused a frame with this stamp
abbrev pub caused_in : Claims → ℕ → Stretch
caused_in k stamp = record { from = stamp - wait k - 2 * slack k; to = stamp + 2 * slack k }

-- ---- begin and end of a tap

-- the least stamp of these, or this one
abbrev pub least : ℕ → List Seen → ℕ
least stamp [] = stamp
least stamp (r ∷ tap) = least (if nat_lt r.moment stamp then r.moment else stamp) tap

-- the greatest
abbrev pub greatest : ℕ → List Seen → ℕ
greatest stamp [] = stamp
greatest stamp (r ∷ tap) = greatest (if nat_lt stamp r.moment then r.moment else stamp) tap

-- when a tap begins: at its first record
abbrev pub begin_of : List Seen → ℕ
begin_of [] = 0
begin_of (r ∷ tap) = least r.moment tap

-- when it ends: as the claims say, or at its last record
abbrev pub end_by : Option ℕ → List Seen → ℕ
end_by (Some until) tap = nanos until
end_by None [] = 0
end_by None (r ∷ tap) = greatest r.moment tap

abbrev pub end_of : Claims → List Seen → ℕ
end_of k tap = end_by k.until tap
