-- Which frames a station with limits forwards, in every list of calls. All lists of frames have the
-- oldest first.
use Rattle.std.specs.Prelude.{ℕ, ◌*◌, ◌-◌, ◌≤◌, ◌<◌, ◌++◌, ◌⊎◌, List, [], ◌∷◌}
use Rattle.std.specs.Prelude.{Bool, true, false, Option, Some, None, is_some, IsTrue, IsFalse}
use Rattle.its_model.specs.Packet.{Transmission}
use Rattle.its_model.specs.Calls as model
use Rattle.its_model.specs.Calls.{Answer}
use Rattle.its_governor.specs.declared.governor.Governor.{Governor}
use Rattle.its_governor.specs.declared.rate.Rate.{Rate}
use Rattle.its_governor.specs.declared.bucket.Bucket.{Bucket}
use Rattle.its_governor.specs.declared.receiver.Receiver.{Receiver}
use Rattle.its_governor.specs.Bucket.{IsBounded, parts_at}
use Rattle.its_governor.specs.Shares.{ShareState, is_within_share}
use Rattle.its_governor.specs.Pressure.{turn_of}
use Rattle.its_governor.specs.Sources.{Forwarded, times_from}
use Rattle.its_governor.specs.Governing.{passed_of, is_echo, room_in, source_room}
use Rattle.its_governor.specs.Deliveries.{GovernedCall, after_governed}

-- what is forwarded of a frame, in a call, and in many
abbrev pub forward_if : Bool → ℕ → Transmission → List Forwarded
forward_if true now t = record { source = t.pdu.vector.address; time = now } ∷ []
forward_if false now t = []

abbrev pub forwarded_of : Governor → Receiver → ℕ → Option Transmission → Bool → Bool
    → List Forwarded
forwarded_of g r now (Some t) handed sent =
    forward_if (passed_of g r now t handed sent).forwards now t
forwarded_of g r now None handed sent = []

abbrev pub forwarded_by : Governor → Receiver → ℕ → Option Transmission → Answer Transmission
    → List Forwarded
forwarded_by g r now frame (model.Answer.Accepted handed relayed) =
    forwarded_of g r now frame (is_some handed) (is_some relayed)
forwarded_by g r now frame answer = []

abbrev pub forwarded_in : Governor → GovernedCall → List Forwarded
forwarded_in g (GovernedCall.Answered r now request frame answer) =
    forwarded_by g r now frame answer
forwarded_in g GovernedCall.OverRate = []

abbrev pub forwarded : Governor → List GovernedCall → List Forwarded
forwarded g [] = []
forwarded g (call ∷ calls) = forwarded_in g call ++ forwarded (after_governed g call) calls

-- when frames were forwarded
abbrev pub times : List Forwarded → List ℕ
times [] = []
times (f ∷ frames) = f.time ∷ times frames

-- In every list of calls, the frames that are forwarded are bounded by this rate.
abbrev pub ForwardsAreBounded : Governor → Rate → Type 0
ForwardsAreBounded g rate = (calls : List GovernedCall) → IsBounded rate (times (forwarded g calls))

-- In every list of calls, the frames of each source that are forwarded are.
abbrev pub SourcesStayBounded : Governor → Rate → Type 0
SourcesStayBounded g rate =
    (calls : List GovernedCall) (source : ℕ)
    → IsBounded rate (times_from source (forwarded g calls))

-- With these rates the memory of 256 frames suffices: before the last frame of a source is forgotten,
-- the bucket of that source is full again. Without a common limit no memory suffices.
abbrev pub RemembersSources : Option Rate → Rate → Type 0
RemembersSources None source = ⊥
RemembersSources (Some forward) source =
    (forward.burst < 256)
    × (source.burst * forward.per_second ≤ (256 - forward.burst) * source.per_second)

-- the same of limits; without a limit per source there is nothing to remember
abbrev pub AreRemembered : Option Rate → Option Rate → Type 0
AreRemembered forward None = Unit {0}
AreRemembered forward (Some source) = RemembersSources forward source

-- Why a frame is withheld under pressure: the bucket of all forwarded frames holds less than four
-- fifths of its burst, and the receiver did not know the source before, the source is not within its
-- share, or the frame's turn has not come.
abbrev pub IsPressedOut : Option Bucket → Option ShareState → Receiver → ℕ → Transmission → Type 0
IsPressedOut None s r now t = ⊥
IsPressedOut (Some b) None r now t = ⊥
IsPressedOut (Some b) (Some s) r now t =
    (parts_at b now < 800 * b.rate.burst)
    × (IsFalse r.knew_source
    ⊎ IsFalse (is_within_share b.rate s.frames t.pdu.vector.address now)
    ⊎ (parts_at b now ≤ 1000 * turn_of b.rate r.address t))

-- Why a packet that the station would forward isn't forwarded: it was delivered before and is
-- remembered, it has more hops left than the greatest, one of the two buckets has no room, or it is
-- withheld under pressure.
abbrev pub IsWithheldFor : Governor → Receiver → ℕ → Transmission → Type 0
IsWithheldFor g r now t =
    IsTrue (is_echo g.delivered now t) ⊎ (g.hop_cap < t.hops_left)
    ⊎ IsFalse (room_in g.forward now)
    ⊎ IsFalse (source_room g.sources t.pdu.vector.address now)
    ⊎ IsPressedOut g.forward g.shares r now t

abbrev pub IsWithheld : Governor → Receiver → ℕ → Transmission → Type 0
IsWithheld g r now t =
    (handed : Bool) → IsFalse (passed_of g r now t handed true).forwards
    → IsWithheldFor g r now t
