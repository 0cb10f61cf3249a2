-- The sequence numbers of own packets for areas (EN 302 636-4-1, 8.3), as far as a claim bounds how
-- many a station uses in a second.
use Rattle.std.specs.Prelude.{◌≡◌, ℕ, ◌+◌, ◌-◌, ◌*◌, ◌/◌, ◌%◌, ◌<◌, ◌^◌, Bool, true, false}
use Rattle.std.specs.Prelude.{◌==◌, ◌&&◌, nat_lt, if◌then◌else◌, List, filter, reverse, take}
use Rattle.std.specs.Prelude.{Option, Some, None, is_some, slice_get}
use Rattle.its_gnvalue.specs.Values.{is_newer}
use Rattle.its_model.specs.Packet.{Transmission, number_in}
use Rattle.its_duties.specs.declared.claims.Claims.{Claims}
use Rattle.its_duties.specs.declared.claims.SequenceModulus.{SequenceModulus}
use Rattle.its_duties.specs.declared.claims.SequenceModulus.TheVariants as moduli
use Rattle.its_duties.specs.declared.numbers.NumberStep.{NumberStep}
use Rattle.its_duties.specs.declared.verdict.Verdict.{Verdict}
use Rattle.its_duties.specs.declared.verdict.Verdict.TheVariants.{Pass, Fail, Inconclusive}
use Rattle.its_duties.specs.declared.verdict.Breach.TheVariants as breaches
use Rattle.its_duties.specs.declared.verdict.Doubt.TheVariants as doubts
use Rattle.its_duties.specs.Seen.{Seen, is_own}
use Rattle.its_duties.specs.Times.{nanos}
use Rattle.its_duties.specs.Heard.{NoneSent, may_be_own}
use Rattle.its_duties.specs.Verdicts.{doubt_between}
use Rattle.its_duties.specs.Duties.{IsOwnRecord}

-- the packet of the frame has a number
abbrev pub has_any_number : Option Transmission → Bool
has_any_number None = false
has_any_number (Some t) = is_some (number_in t.pdu.body)

-- how many numbers lie between two, of so many: from 1 to all of them
abbrev pub steps_by : ℕ → ℕ → ℕ → ℕ
steps_by modulus first second =
    let ahead = (second + modulus - first) % modulus in
    if ahead == 0 then modulus else ahead

-- how many numbers there are
abbrev pub size_of : SequenceModulus → ℕ
size_of moduli.Short = 65535
size_of moduli.Full = 65536

-- where the claims say of how many, by these; otherwise the lesser number of steps
abbrev pub steps_of : Option SequenceModulus → ℕ → ℕ → ℕ
steps_of (Some modulus) first second = steps_by (size_of modulus) first second
steps_of None first second =
    let few = steps_by 65535 first second in
    let many = steps_by 65536 first second in
    if nat_lt many few then many else few

-- seconds, rounded up
abbrev pub seconds_up : ℕ → ℕ
seconds_up nanoseconds = (nanoseconds + 999999999) / 1000000000

-- how many numbers a station may have used in so many nanoseconds
abbrev pub numbers_in_time : Claims → ℕ → ℕ
numbers_in_time k nanoseconds = k.rate * (seconds_up nanoseconds + 1)

-- the greater
abbrev pub max_of : ℕ → ℕ → ℕ
max_of a b = if nat_lt a b then b else a

-- How long the station may have taken between two of its packets: by their stamps, or by their
-- timestamps, as the first may be a repetition of an older packet.
abbrev pub time_between : Claims → (since ahead age : ℕ) → ℕ
time_between k since ahead age = max_of (since + doubt_between k) (nanos (ahead + age))

-- ---- repetitions

-- an own packet for an area
abbrev pub is_own_for_area : Claims → Seen → Bool
is_own_for_area k r = is_own k r && has_any_number r.frame

-- the last 64 of these before record i
abbrev pub last_own : Claims → List Seen → ℕ → List Seen
last_own k tap i = take 64 (reverse (filter (is_own_for_area k) (take i tap)))

-- Record i is a repetition: its octets are those of one of the last 64 own packets for areas.
abbrev pub IsRepetition : Claims → List Seen → ℕ → Seen → Type 0
IsRepetition k tap i r =
    (m : ℕ) × (s : Seen) × (slice_get (last_own k tap i) m ≡ Some s) × (s.octets ≡ r.octets)

-- Record j, an own packet for an area, has a number that is too far from that of record i, the one
-- before it in the tap: more than the station can have used since.
pub record FailsNumbers (k : Claims) (tap : List Seen) (j : ℕ) : Type 0 where
  pub i : ℕ
  pub before : Seen
  pub seen : Seen
  pub packet : Transmission
  pub frame : Transmission
  pub first : ℕ
  pub second : ℕ
  pub since : ℕ
  pub age : ℕ
  pub earlier : IsOwnRecord k tap i before packet
  pub later : IsOwnRecord k tap j seen frame
  pub first_is : number_in packet.pdu.body ≡ Some first
  pub second_is : number_in frame.pdu.body ≡ Some second
  pub sure : (before.retried ≡ false) × (seen.retried ≡ false)
  pub steady : k.steady ≡ true
  pub age_is : k.age ≡ Some age
  pub since_is : before.moment + since ≡ seen.moment
  pub apart : doubt_between k < since
  pub newer : is_newer frame.pdu.vector.timestamp packet.pdu.vector.timestamp ≡ true
  -- no other packet for an area of its own lies between the two, and none that isn't read
  pub neighbours : (m : ℕ) (r : Seen) (t : Transmission) (n : ℕ) → IsOwnRecord k tap m r t
      → number_in t.pdu.body ≡ Some n → i < m → m < j → IsRepetition k tap m r
  pub no_repetition : (IsRepetition k tap i before → ⊥) × (IsRepetition k tap j seen → ⊥)
  pub all_read : NoneSent (may_be_own k) tap (record { from = before.moment; to = seen.moment })
  pub too_many : numbers_in_time k
      (time_between k since
      ((frame.pdu.vector.timestamp + 2 ^ 32 - packet.pdu.vector.timestamp) % 2 ^ 32) age)
      < steps_of k.modulus first second

-- ---- the verdict on a step from one number to the next

-- more numbers than the station can have used since
abbrev pub breaks_numbers : Claims → NumberStep → (steps : ℕ) → Option ℕ → Bool
breaks_numbers k s steps None = false
breaks_numbers k s steps (Some age) =
    k.steady && s.sure && s.newer && nat_lt (doubt_between k) s.since
    && nat_lt (numbers_in_time k (time_between k s.since s.ahead age)) steps

abbrev pub numbers_verdict_by : Claims → NumberStep → (steps : ℕ) → Verdict
numbers_verdict_by k s steps =
    if breaks_numbers k s steps k.age then Fail (breaches.Number s.second s.first)
    else if steps == 1 then Pass
    else Inconclusive (doubts.NumbersNotSeen (steps - 1))

abbrev pub numbers_verdict : Claims → NumberStep → Verdict
numbers_verdict k s = numbers_verdict_by k s (steps_of k.modulus s.first s.second)

-- Records i and j, two own packets for areas, neither of them a repetition: this is the step from
-- the number of the one to that of the other. No other one is between them, and none that isn't
-- read.
pub record IsNumberStep (k : Claims) (tap : List Seen) (i j : ℕ) (r s : Seen)
    (t u : Transmission) (step : NumberStep) : Type 0 where
  pub earlier : IsOwnRecord k tap i r t
  pub later : IsOwnRecord k tap j s u
  pub first_is : number_in t.pdu.body ≡ Some step.first
  pub second_is : number_in u.pdu.body ≡ Some step.second
  pub since_is : r.moment + step.since ≡ s.moment
  pub ahead_is : step.ahead
      ≡ (u.pdu.vector.timestamp + 2 ^ 32 - t.pdu.vector.timestamp) % 2 ^ 32
  pub is_newer : step.newer ≡ true → is_newer u.pdu.vector.timestamp t.pdu.vector.timestamp ≡ true
  pub is_sure : step.sure ≡ true → (r.retried ≡ false) × (s.retried ≡ false)
  pub neighbours : (m : ℕ) (o : Seen) (v : Transmission) (n : ℕ) → IsOwnRecord k tap m o v
      → number_in v.pdu.body ≡ Some n → i < m → m < j → IsRepetition k tap m o
  pub no_repetition : (IsRepetition k tap i r → ⊥) × (IsRepetition k tap j s → ⊥)
  pub all_read : NoneSent (may_be_own k) tap (record { from = r.moment; to = s.moment })
