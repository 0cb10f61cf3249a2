-- One way in which a capture may have come about: what the station was asked and what it received,
-- and when. And that it explains the capture: it made the frames that were recorded.
use Rattle.std.specs.Prelude.{◌≡◌, ◌≢◌, ◌⊎◌, ℕ, ◌+◌, ◌*◌, ◌≤◌, ◌<◌, ◌^◌, Bool, true, false}
use Rattle.std.specs.Prelude.{◌&&◌, nat_le, nat_lt, List, [], Option, Some, None}
use Rattle.std.specs.Prelude.{IfSome, slice_get, ℤ}
use Rattle.std.specs.List.{count_by}
use Rattle.its_gnvalue.specs.Values.{Position, IsLatitude, IsLongitude, IsSpeed}
use Rattle.its_headers.specs.Encoding.{IsVector, IsArea, IsMessage}
use Rattle.its_linkframe.specs.Frames.{IsTransmission}
use Rattle.its_model.specs.Packet.{Transmission}
use Rattle.its_model.specs.History.{NeverFell}
use Rattle.its_model.specs.Calls.{OwnCall, Call, Answer, ShbRequest, GbcRequest}
use Rattle.its_model.specs.Calls.OwnCall.{Move, Open, Close, Tick, SendShb, SendGbc, SendGac}
use Rattle.its_model.specs.Calls.OwnCall.{Restart}
use Rattle.its_model.specs.Calls.Call.{Own, Receive, Junk}
use Rattle.its_model.specs.Station.{StationModel, last_moment}
use Rattle.its_model.specs.World.{frame_of}
use Rattle.its_model.specs.Isolation.{TimedCall, answers_of, NeverFalls}
use Rattle.its_duties.specs.declared.claims.Claims.{Claims}
use Rattle.its_duties.specs.Seen.{Seen, Carries, sendings, is_sent, is_heard}
use Rattle.its_duties.specs.Times.{Shift, IsStampOf, IsNotEarlier, IsNotLater, nanos, slack, wait}
use Rattle.its_duties.specs.Times.{lag, begin_of, end_of, retry_time}
use Rattle.its_duties.specs.Places.{IsAllowed}

-- ---- values in range, as those that a station is given always are

abbrev pub IsShbRequest : ShbRequest → Type 0
IsShbRequest r = (r.class < 256) × IsMessage r.message

pub record IsAreaRequest (r : GbcRequest) : Type 0 where
  pub class : r.class < 256
  pub lifetime : r.lifetime < 256
  pub max_hops : r.max_hops < 256
  pub area : IsArea r.area
  pub message : IsMessage r.message

abbrev pub IsMove : Position → ℤ → ℕ → Type 0
IsMove place speed heading =
    IsLatitude place.latitude × IsLongitude place.longitude × IsSpeed speed × (heading < 2 ^ 16)

abbrev pub IsOwnCall : OwnCall → Type 0
IsOwnCall (Move place accurate speed heading) = IsMove place speed heading
IsOwnCall (Open port) = Unit {0}
IsOwnCall (Close port) = Unit {0}
IsOwnCall (Tick jitter) = Unit {0}
IsOwnCall (SendShb r) = IsShbRequest r
IsOwnCall (SendGbc r) = IsAreaRequest r
IsOwnCall (SendGac r) = IsAreaRequest r
IsOwnCall (Restart number) = number < 65536

abbrev pub IsCall : Call → Type 0
IsCall (Own call) = IsOwnCall call
IsCall (Receive t) = IsTransmission t
IsCall (Junk fault) = Unit {0}

-- ---- the station at the begin, and what it is asked

-- it is as the claims say
pub record IsStart (k : Claims) (s : StationModel) : Type 0 where
  pub address : s.address ≡ k.address
  pub vector : IsVector s.vector
  pub own_vector : s.vector.address ≡ k.address
  pub number : s.next_number < 65536
  pub history : NeverFell s.clock s.history
  pub remember : s.remember ≡ k.remember
  pub capacity : IfSome k.capacity (λ room. room ≤ s.capacity)
  pub mobile : IfSome k.mobile (λ mobile. s.mobile ≡ mobile)
  pub fresh : k.fresh ≡ true → s.history ≡ []

-- a call by which it restarts
abbrev pub is_restart_call : Call → Bool
is_restart_call (Own (Restart number)) = true
is_restart_call call = false

-- a call that uses a sequence number
abbrev pub is_area_send : Call → Bool
is_area_send (Own (SendGbc r)) = true
is_area_send (Own (SendGac r)) = true
is_area_send call = false

-- one in the second that begins at this moment
abbrev pub is_send_in : ℕ → TimedCall → Bool
is_send_in from c =
    is_area_send c.call && nat_le from c.moment && nat_lt c.moment (from + 1000)

-- the place to which a call moves it is one that the claims allow
abbrev pub IsMoveAllowed : Claims → Call → Type 0
IsMoveAllowed k (Own (Move place accurate speed heading)) = IsAllowed k place
IsMoveAllowed k call = Unit {0}

-- the call with this number
abbrev pub IsAsked : List TimedCall → ℕ → TimedCall → Type 0
IsAsked calls n c = slice_get calls n ≡ Some c

-- ---- where a frame comes from that it received

-- the arrival has a stamp of this record, of whichever sending
pub record ArrivesAs (k : Claims) (tap : List Seen) (shift : Shift) (t : Transmission)
    (arrival i : ℕ) : Type 0 where
  pub record_there : Seen
  pub stamp : ℕ
  pub number : ℕ
  pub at : slice_get tap i ≡ Some record_there
  pub other : is_sent k record_there ≡ false
  pub carries : Carries record_there t
  pub is_sending : slice_get (sendings record_there) number ≡ Some stamp
  pub near : IsStampOf k shift stamp arrival

-- The frame is of no record: not all that it received was recorded, or it arrived before the begin,
-- which it did not if nothing was on its way to it then.
abbrev pub IsUnrecorded : Claims → List Seen → Shift → ℕ → Type 0
IsUnrecorded k tap shift arrival =
    (k.received ≡ false) ⊎ ((k.fresh ≡ false)
    × (nanos arrival + shift.behind < begin_of tap + shift.ahead + slack k))

abbrev pub ArrivesBy : Claims → List Seen → Shift → Transmission → ℕ → Option ℕ → Type 0
ArrivesBy k tap shift t arrival None = IsUnrecorded k tap shift arrival
ArrivesBy k tap shift t arrival (Some i) = ArrivesAs k tap shift t arrival i

-- It arrives, and is processed at this moment: at most the longest wait later. No frame of another
-- station has the link address of this one.
pub record IsReceived (k : Claims) (tap : List Seen) (shift : Shift) (t : Transmission)
    (moment arrival : ℕ) (number : Option ℕ) : Type 0 where
  pub after : arrival ≤ moment
  pub soon : nanos moment ≤ nanos arrival + wait k
  pub foreign : t.link_source ≢ k.mac
  pub arrives : ArrivesBy k tap shift t arrival number

-- ---- one way in which it may have gone

pub record Scenario (k : Claims) (tap : List Seen) : Type 0 where
  pub start : StationModel
  pub calls : List TimedCall
  pub shift : Shift
  pub arrival : ℕ → ℕ  -- when the frame came that a call received, by the call's number
  pub record_of : ℕ → Option ℕ  -- the number of the record of that frame
  pub starts : IsStart k start
  pub order : NeverFalls 0 calls
  -- the station's clock is in the range that it has: a later call is refused
  pub clock_range : (n : ℕ) (c : TimedCall) → IsAsked calls n c → c.moment ≤ last_moment
  -- the station's clock is not after the begin
  pub begins : nanos start.clock + shift.behind ≤ begin_of tap + shift.ahead + slack k
  pub in_range : (n : ℕ) (c : TimedCall) → IsAsked calls n c → IsCall c.call
  pub heard : (n : ℕ) (c : TimedCall) (t : Transmission) → IsAsked calls n c
      → c.call ≡ Receive t → IsReceived k tap shift t c.moment (arrival n) (record_of n)
  -- a link gives a frame to a station once at most
  pub once : (n m i : ℕ) → record_of n ≡ Some i → record_of m ≡ Some i → n ≡ m
  pub delivered : k.delivered ≡ true → (i : ℕ) (r : Seen) → slice_get tap i ≡ Some r
      → is_heard k r ≡ true
      → (n : ℕ) × (c : TimedCall) × (t : Transmission) × IsAsked calls n c
      × (c.call ≡ Receive t) × (record_of n ≡ Some i)
  pub stood : IsAllowed k start.vector.place
  pub moves : (n : ℕ) (c : TimedCall) → IsAsked calls n c → IsMoveAllowed k c.call
  pub rate : (from : ℕ) → count_by (is_send_in from) calls ≤ k.rate
  pub steady : k.steady ≡ true → (n : ℕ) (c : TimedCall) → IsAsked calls n c
      → is_restart_call c.call ≡ false

-- ---- it made this capture

-- When a frame left: after its call, and soon. A frame that was received counts from its arrival.
abbrev pub LeftInTime : (k : Claims) → Call → (moment arrival left : ℕ) → Type 0
LeftInTime k (Own call) moment arrival left = nanos left ≤ nanos moment + lag k
LeftInTime k (Receive t) moment arrival left = nanos left ≤ nanos arrival + wait k
LeftInTime k (Junk fault) moment arrival left = ⊥

-- The stamp of a record that it sent. The first sending of a retried frame isn't in the capture.
abbrev pub IsStampOfSent : Claims → Shift → Bool → (stamp left : ℕ) → Type 0
IsStampOfSent k shift false stamp left = IsStampOf k shift stamp left
IsStampOfSent k shift true stamp left =
    IsNotEarlier shift (slack k) stamp left × IsNotLater shift (slack k + retry_time) stamp left

-- The call with this number gave the frame of this record, which left at this moment.
pub record Gave {k : Claims} {tap : List Seen} (w : Scenario k tap) (r : Seen)
    (n left : ℕ) : Type 0 where
  pub call : TimedCall
  pub answer : Answer Transmission
  pub frame : Transmission
  pub asked : IsAsked w.calls n call
  pub answered : slice_get (answers_of w.start w.calls) n ≡ Some answer
  pub given : frame_of answer ≡ Some frame
  pub carries : Carries r frame
  pub after : call.moment ≤ left
  pub soon : LeftInTime k call.call call.moment (w.arrival n) left
  pub near : IsStampOfSent k w.shift r.retried r.moment left

-- it is a call of its own
abbrev pub is_own_call : Call → Bool
is_own_call (Own call) = true
is_own_call call = false

pub record Explains (k : Claims) (tap : List Seen) (w : Scenario k tap) : Type 0 where
  pub call_of : ℕ → ℕ  -- by which call a record that it sent came about
  pub left : ℕ → ℕ  -- and when its frame left
  pub gave : (i : ℕ) (r : Seen) → slice_get tap i ≡ Some r → is_sent k r ≡ true
      → Gave w r (call_of i) (left i)
  -- no frame is recorded twice
  pub once : (i j : ℕ) (r s : Seen) → slice_get tap i ≡ Some r → slice_get tap j ≡ Some s
      → is_sent k r ≡ true → is_sent k s ≡ true → call_of i ≡ call_of j → i ≡ j
  -- each frame that it gave is recorded, unless it may have left before the begin or after the end
  pub whole : k.sent ≡ true → (n : ℕ) (call : TimedCall) (answer : Answer Transmission)
      (frame : Transmission) → IsAsked w.calls n call
      → slice_get (answers_of w.start w.calls) n ≡ Some answer → frame_of answer ≡ Some frame
      → ((i : ℕ) × (r : Seen) × (slice_get tap i ≡ Some r) × (is_sent k r ≡ true)
      × (call_of i ≡ n))
      ⊎ (nanos call.moment + w.shift.behind < begin_of tap + w.shift.ahead + slack k)
      ⊎ (end_of k tap + w.shift.ahead
      < nanos call.moment + w.shift.behind + slack k + lag k + wait k)
  -- the frames of its own calls leave in the order of these
  pub in_turn : k.gapless ≡ true → (i j : ℕ) (r s : Seen) (c d : TimedCall)
      → slice_get tap i ≡ Some r → slice_get tap j ≡ Some s
      → is_sent k r ≡ true → is_sent k s ≡ true
      → IsAsked w.calls (call_of i) c → IsAsked w.calls (call_of j) d
      → is_own_call c.call ≡ true → is_own_call d.call ≡ true → call_of i < call_of j
      → r.moment ≤ s.moment + lag k + 2 * slack k
