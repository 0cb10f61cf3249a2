-- What the limits do under pressure: while the bucket of all forwarded frames holds less than four
-- fifths of its burst, and there is a limit per source too.
use Rattle.std.specs.Prelude.{ℕ, ◌+◌, ◌*◌, ◌/◌, ◌%◌, max, Bool, true, false, not, ◌&&◌, ◌||◌}
use Rattle.std.specs.Prelude.{nat_lt, Option, Some, None}
use Rattle.std.specs.Option.{unwrap_or}
use Rattle.its_gnvalue.specs.Values.{mid_of}
use Rattle.its_model.specs.Packet.{Transmission, number_in}
use Rattle.its_governor.specs.declared.bucket.Bucket.{Bucket}
use Rattle.its_governor.specs.declared.rate.Rate.{Rate}
use Rattle.its_governor.specs.declared.receiver.Receiver.{Receiver}
use Rattle.its_governor.specs.Bucket.{parts_at, is_low}
use Rattle.its_governor.specs.Shares.{ShareState, is_within_share}

-- the common bucket is under pressure
abbrev pub is_pressed : Option Bucket → Option ShareState → ℕ → Bool
is_pressed None s now = false
is_pressed (Some b) None now = false
is_pressed (Some b) (Some s) now = is_low b now

-- how many turns there are: the whole frames of four fifths of a burst, and at least one
abbrev pub turns_of : Rate → ℕ
turns_of rate = max 1 (4 * rate.burst / 5)

-- The turn of a packet at a station, from 0. Stations in reach of each other have different turns for
-- it. Those of one maker may have addresses that follow each other, so that these are spread.
abbrev pub turn_in : ℕ → ℕ → ℕ → Option ℕ → ℕ
turn_in turns address source number =
    (31 * mid_of address + mid_of source + unwrap_or number 0) % turns

abbrev pub turn_of : Rate → ℕ → Transmission → ℕ
turn_of rate address t =
    turn_in (turns_of rate) address t.pdu.vector.address (number_in t.pdu.body)

-- its turn has come: the bucket holds more frames than that
abbrev pub is_turn_of : Bucket → ℕ → ℕ → ℕ → Option ℕ → Bool
is_turn_of b address now source number =
    nat_lt (1000 * turn_in (turns_of b.rate) address source number) (parts_at b now)

abbrev pub is_its_turn : Bucket → ℕ → ℕ → Transmission → Bool
is_its_turn b address now t =
    is_turn_of b address now t.pdu.vector.address (number_in t.pdu.body)

-- A frame of a source, with this sequence number, keeps the rules of a bucket under pressure: the
-- receiver knew its source before, the source is within its share, and the frame's turn has come.
abbrev pub may_share_of : Bucket → ShareState → Receiver → ℕ → ℕ → Option ℕ → Bool
may_share_of b s r now source number =
    r.knew_source && is_within_share b.rate s.frames source now
    && is_turn_of b r.address now source number

abbrev pub may_share : Bucket → ShareState → Receiver → ℕ → Transmission → Bool
may_share b s r now t = may_share_of b s r now t.pdu.vector.address (number_in t.pdu.body)

-- a frame keeps the rules, or there is no pressure
abbrev pub has_share_of : Option Bucket → Option ShareState → Receiver → ℕ → ℕ → Option ℕ → Bool
has_share_of None s r now source number = true
has_share_of (Some b) None r now source number = true
has_share_of (Some b) (Some s) r now source number =
    not (is_low b now) || may_share_of b s r now source number

abbrev pub has_share : Option Bucket → Option ShareState → Receiver → ℕ → Transmission → Bool
has_share b s r now t = has_share_of b s r now t.pdu.vector.address (number_in t.pdu.body)
