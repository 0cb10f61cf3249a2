-- Where a geobroadcast reaches although stations contend: what a station sends the next one hears, and
-- what silences a station the next one hears too. Also what cancels a frame, and that somebody sends
-- it. The laws are proved in `proofs/ContendedLinks.antt` and `proofs/ContendedCopies.antt`, and
-- contracts of `its_contention` say them, with the test of copies of octets, which is one for frames
-- in range.
use Rattle.std.specs.Prelude.{◌≡◌, ◌≢◌, ℕ, ◌+◌, ◌≤◌, List, [], ◌∷◌, ◌++◌, true, Option}
use Rattle.std.specs.Prelude.{Some, length, slice_get}
use Rattle.its_gnvalue.specs.Values.{mid_of, broadcast}
use Rattle.its_model.specs.Packet.{Transmission}
use Rattle.its_model.specs.Stations.{AreDistinct}
use Rattle.its_model.specs.World.{LogLine, WorldModel, Config, frame_of}
use Rattle.its_model.specs.Contention.{ContentionRule}
use Rattle.its_model.specs.Contended.{CopyTest, ContendedWorld, Lot, Happening, opening_with}
use Rattle.its_model.specs.Contended.{contended_run, lot_after, rule_at, LeavesInTime}
use Rattle.its_model.specs.Contended.{IsCarried, IsServed}
use Rattle.its_model.specs.Contended.Lot.{SentAt, WaitsUntil, CancelledBy, DroppedAt}
use Rattle.its_model.specs.Reach.{Geobroadcast, IsFrameOf, HasOwnAddress, HasOwnNumber}
use Rattle.its_model.specs.Reach.{FirstAccepts, StandsInside, HasHops, IsFor, CameTo, AreReached}

-- ---- copies

-- The second packet is the first, sent to all by another station. Link sender and lifetime may
-- differ.
pub record IsSentAgain (own : ℕ) (held heard : Transmission) : Type 0 where
  pub to_all : heard.link_target ≡ broadcast
  pub by_another : heard.link_source ≢ own
  pub same : record heard {
    link_source = held.link_source;
    pdu = record heard.pdu { lifetime = held.pdu.lifetime };
  } ≡ held

-- what the test takes for a copy among these frames is one
abbrev pub TestsCopies : CopyTest → List Transmission → Type 0
TestsCopies test air =
    (own k m : ℕ) (held heard : Transmission)
    → slice_get air k ≡ Some held → slice_get air m ≡ Some heard → test own held heard ≡ true
    → IsSentAgain own held heard

-- ---- at any time of a run

-- a frame had this lot after some of these happenings
pub record HadLot (test : CopyTest) (cw : ContendedWorld) (happenings : List Happening) (k : ℕ)
    (lot : Lot) : Type 0 where
  pub early : List Happening
  pub later : List Happening
  pub split : happenings ≡ early ++ later
  pub was : lot_after test cw early k ≡ Some lot

-- station i gave frame k
pub record IsGivenFrom (w : WorldModel) (i k : ℕ) : Type 0 where
  pub later : List LogLine
  pub line : LogLine
  pub before : List LogLine
  pub split : w.log ≡ later ++ line ∷ before
  pub station : line.event.station ≡ i
  pub gives : frame_of line.entry ≡ Some k

-- ---- what cancels a frame

-- Frame m is the frame that waited, sent to all by another station than the one at which it waited,
-- which has this link address. Its link sender is this one.
pub record IsCopyFrom (air : List Transmission) (held : Transmission)
    (own m sender : ℕ) : Type 0 where
  pub heard : Transmission
  pub in_air : slice_get air m ≡ Some heard
  pub again : IsSentAgain own held heard
  pub from_sender : heard.link_source ≡ sender

-- Copies cancelled frame k: as many as the rule of the station says at which it waited, or more, each
-- from another link sender. That station is the frame's own link sender.
pub record IsCancelledBy (configs : List Config) (cw : ContendedWorld) (air : List Transmission)
    (k : ℕ) (frames : List ℕ) : Type 0 where
  pub held : Transmission
  pub in_air : slice_get air k ≡ Some held
  pub senders : List ℕ
  pub distinct : AreDistinct senders
  pub as_many : length senders ≡ length frames
  pub station : ℕ
  pub config : Config
  pub configured : slice_get configs station ≡ Some config
  pub its_own : held.link_source ≡ mid_of config.address
  pub rule : ContentionRule
  pub has_rule : rule_at cw station ≡ Some rule
  pub enough : rule.copies ≤ length frames
  pub each : (n m sender : ℕ) → slice_get frames n ≡ Some m → slice_get senders n ≡ Some sender
      → IsCopyFrom air held (mid_of config.address) m sender

-- a frame went out at some time
pub record WentOut (test : CopyTest) (cw : ContendedWorld) (happenings : List Happening)
    (m : ℕ) : Type 0 where
  pub moment : ℕ
  pub sent : HadLot test cw happenings m (SentAt moment)

-- What cancels a frame are copies of it; if each link carries what was sent, each of them went out.
pub record CancelledByTheSameFrame (test : CopyTest) (configs : List Config)
    (rules : List (Option ContentionRule)) (happenings : List Happening) : Type 0 where
  pub copies : let cw = opening_with configs rules in
      let air = (contended_run test cw happenings).world.air in
      TestsCopies test air → (k moment : ℕ) (frames : List ℕ)
      → HadLot test cw happenings k (CancelledBy frames moment) → IsCancelledBy configs cw air k frames
  pub went_out : let cw = opening_with configs rules in
      IsCarried test cw happenings → (k moment : ℕ) (frames : List ℕ) (n m : ℕ)
      → HadLot test cw happenings k (CancelledBy frames moment) → slice_get frames n ≡ Some m
      → WentOut test cw happenings m

-- ---- that somebody sends

-- a frame that is this one, link sender and lifetime aside, went out
pub record IsSentBySomebody (test : CopyTest) (cw : ContendedWorld) (happenings : List Happening)
    (k : ℕ) : Type 0 where
  pub frame : ℕ
  pub held : Transmission
  pub heard : Transmission
  pub in_air : slice_get (contended_run test cw happenings).world.air k ≡ Some held
  pub sent_is : slice_get (contended_run test cw happenings).world.air frame ≡ Some heard
  pub same : record heard {
    link_source = held.link_source;
    pdu = record heard.pdu { lifetime = held.pdu.lifetime };
  } ≡ held
  pub went_out : WentOut test cw happenings frame

-- If each link carries what was sent, each frame that waits leaves in time and none is dropped, then of
-- each frame that waits at any time the same frame goes out at some station: stations do not silence
-- each other all.
abbrev pub SomebodySends : CopyTest → List Config → List (Option ContentionRule)
    → List Happening → Type 0
SomebodySends test configs rules happenings =
    let cw = opening_with configs rules in
    (late k due : ℕ)
    → ((j : ℕ) (r : ContentionRule) → rule_at cw j ≡ Some r → 1 ≤ r.copies)
    → TestsCopies test (contended_run test cw happenings).world.air
    → IsCarried test cw happenings → IsServed test cw happenings late
    → ((m moment : ℕ) → HadLot test cw happenings m (DroppedAt moment) → ⊥)
    → HadLot test cw happenings k (WaitsUntil due)
    → IsSentBySomebody test cw happenings k

-- ---- a link

-- Station j came by the packet although the frame of another was cancelled: one of the copies came to
-- it by then, it gave one of them by then itself, or it had accepted the packet by then.
pub data IsToldAnyway (w : WorldModel) (g : Geobroadcast w) (j latest : ℕ)
    (frames : List ℕ) : Type 0 where
  by_copy : (n k : ℕ) → slice_get frames n ≡ Some k → CameTo w j k latest
      → IsToldAnyway w g j latest frames
  by_own : (n k : ℕ) → slice_get frames n ≡ Some k → (given : IsGivenFrom w j k)
      → given.line.event.moment ≤ latest → IsToldAnyway w g j latest frames
  by_then : (line : LogLine) (before : List LogLine) → FirstAccepts w g j line before
      → line.event.moment ≤ latest → IsToldAnyway w g j latest frames

-- From station i it goes on to station j, another than its sender, over a link that may be silenced:
-- - i waits so many milliseconds at most, if it contends;
-- - if i accepts it, it is inside the area then, with two hops left or more;
-- - each frame of it that i sends is for j, and comes to j within the delay;
-- - if a frame of it is cancelled at i, j comes by the packet anyway, within the delay;
-- - each frame of it that waits at i leaves in time, and none is dropped there.
pub record IsOverheard (test : CopyTest) (configs : List Config)
    (rules : List (Option ContentionRule)) (happenings : List Happening)
    (g : Geobroadcast (contended_run test (opening_with configs rules) happenings).world)
    (greatest late delay i j : ℕ) : Type 0 where
  pub receiver : Config
  pub configured : slice_get configs j ≡ Some receiver
  pub other : j ≢ g.line.event.station
  pub waits : (r : ContentionRule) → rule_at (opening_with configs rules) i ≡ Some r
      → r.max_wait ≤ greatest
  pub inside : let w = (contended_run test (opening_with configs rules) happenings).world in
      (line : LogLine) (before : List LogLine) → FirstAccepts w g i line before
      → StandsInside configs g.request.area i before
  pub hops : HasHops (contended_run test (opening_with configs rules) happenings).world g i
  pub heard : let cw = opening_with configs rules in
      let w = (contended_run test cw happenings).world in
      (k moment : ℕ) (packet : Transmission) → IsGivenFrom w i k → IsFrameOf w g k
      → HadLot test cw happenings k (SentAt moment) → slice_get w.air k ≡ Some packet
      → IsFor receiver packet × CameTo w j k (moment + delay)
  pub silenced : let cw = opening_with configs rules in
      let w = (contended_run test cw happenings).world in
      (k moment : ℕ) (frames : List ℕ) → IsGivenFrom w i k → IsFrameOf w g k
      → HadLot test cw happenings k (CancelledBy frames moment)
      → IsToldAnyway w g j (moment + delay) frames
  pub served : let cw = opening_with configs rules in
      let w = (contended_run test cw happenings).world in
      (k due : ℕ) → IsGivenFrom w i k → IsFrameOf w g k
      → HadLot test cw happenings k (WaitsUntil due)
      → LeavesInTime test cw happenings late k due
  pub kept : let cw = opening_with configs rules in
      let w = (contended_run test cw happenings).world in
      (k moment : ℕ) → IsGivenFrom w i k → IsFrameOf w g k
      → HadLot test cw happenings k (DroppedAt moment) → ⊥

-- from station i to the first of these, and from each to the next
abbrev pub AreOverheard : (test : CopyTest) (configs : List Config)
    (rules : List (Option ContentionRule)) (happenings : List Happening)
    → Geobroadcast (contended_run test (opening_with configs rules) happenings).world
    → (greatest late delay i : ℕ) → List ℕ → Type 0
AreOverheard test configs rules happenings g greatest late delay i [] = Unit {0}
AreOverheard test configs rules happenings g greatest late delay i (j ∷ path) =
    IsOverheard test configs rules happenings g greatest late delay i j
    × AreOverheard test configs rules happenings g greatest late delay j path

-- A geobroadcast reaches every station of each path of such links from its sender: the n-th station at
-- the latest n times the greatest wait, the lateness and the delay after it was sent.
abbrev pub ReachesByContention : CopyTest → List Config → List (Option ContentionRule)
    → List Happening → Type 0
ReachesByContention test configs rules happenings =
    let w = (contended_run test (opening_with configs rules) happenings).world in
    (g : Geobroadcast w) (greatest late delay : ℕ) (path : List ℕ)
    → HasOwnAddress configs g.line.event.station → HasOwnNumber w g → TestsCopies test w.air
    → AreOverheard test configs rules happenings g greatest late delay g.line.event.station path
    → AreReached configs w g (greatest + late + delay) g.line.event.moment path
