-- Worlds whose stations may contend. Each event does to the world what it does without contention. A
-- relay that waits is a frame that goes out later, and one that is cancelled or dropped is a frame
-- that goes out to nobody. What became of each frame is its lot. Any test of copies will do here. That
-- contention is a schedule is proved in `proofs/ContendedRuns.antt`, and a contract of `its_contention`
-- says it.
use Rattle.std.specs.Prelude.{◌≡◌, ◌≢◌, ℕ, ◌+◌, ◌≤◌, ◌<◌, Bool, not, ◌&&◌, if◌then◌else◌, nat_le}
use Rattle.std.specs.Prelude.{Option, Some, None, List, [], ◌∷◌, ◌++◌, length, map, filter}
use Rattle.std.specs.Prelude.{slice_get, slice_set}
use Rattle.std.specs.Option.{option_map}
use Rattle.its_gnvalue.specs.Values.{mid_of}
use Rattle.its_model.specs.Packet.{Transmission}
use Rattle.its_model.specs.History.{is_among}
use Rattle.its_model.specs.Calls.{Why, Refusal, Answer}
use Rattle.its_model.specs.Calls.Call.{Own, Receive}
use Rattle.its_model.specs.Calls.Why.{Duplicate}
use Rattle.its_model.specs.Calls.Answer.{Restarted, Ignored, Accepted}
use Rattle.its_model.specs.Station.{StationModel, moment_refusal, station_step}
use Rattle.its_model.specs.Contention.{ContentionRule, HeldFrame, Fate, fate, after_fate, stays}
use Rattle.its_model.specs.Contention.{kept_at, first_due, after_due, after_own, late_after}
use Rattle.its_model.specs.Contention.Fate.{Waits}
use Rattle.its_model.specs.World.{What, Event, WorldModel, Config, frame_of, with_one_more, opening}
use Rattle.its_model.specs.World.{world_step}
use Rattle.its_model.specs.World.What.{Calls, Deliver}

-- ---- a world whose stations contend

-- A frame that waits in a world: its number, the packet, and the frames whose deliveries added a
-- sender, the newest first.
pub record WaitingFrame : Type 0 where
  pub number : ℕ
  pub packet : Transmission
  pub copies : List ℕ

-- What became of a frame that a station gave: it went out, it waits, copies cancelled it, or it was
-- dropped.
pub data Lot : Type 0 where
  SentAt : (moment : ℕ) → Lot
  WaitsUntil : (due : ℕ) → Lot
  CancelledBy : (frames : List ℕ) (moment : ℕ) → Lot
  DroppedAt : (moment : ℕ) → Lot

-- The world, the rule of each station that contends, the frames that wait at each station, and the
-- lot of each frame at its number.
pub record ContendedWorld : Type 0 where
  pub world : WorldModel
  pub rules : List (Option ContentionRule)
  pub held : List (List (HeldFrame WaitingFrame))
  pub lots : List Lot

-- what happens: an event of the world, or a release at a station
pub data Happening : Type 0 where
  Happens : (event : Event) → Happening
  Releases : (station moment : ℕ) → Happening

-- A test of copies, by the own MID, a packet that waits and one that came.
abbrev pub CopyTest : Type 0
CopyTest = ℕ → Transmission → Transmission → Bool

-- new stations with these rules: nothing happened, and no frame waits
abbrev pub opening_with : List Config → List (Option ContentionRule) → ContendedWorld
opening_with configs rules =
    record { world = opening configs; rules = rules; held = map (λ c. []) configs; lots = [] }

-- the rule of a station, if it contends
abbrev pub rule_in : Option (Option ContentionRule) → Option ContentionRule
rule_in None = None
rule_in (Some rule) = rule

abbrev pub rule_at : ContendedWorld → ℕ → Option ContentionRule
rule_at cw j = rule_in (slice_get cw.rules j)

-- the frames that wait at a station
abbrev pub held_in : Option (List (HeldFrame WaitingFrame)) → List (HeldFrame WaitingFrame)
held_in None = []
held_in (Some held) = held

abbrev pub held_at : ContendedWorld → ℕ → List (HeldFrame WaitingFrame)
held_at cw j = held_in (slice_get cw.held j)

-- ---- a station's frames that wait, and the lots of all frames

pub record Waiting : Type 0 where
  pub held : List (HeldFrame WaitingFrame)
  pub lots : List Lot

-- the lots after these frames left their buffer
abbrev pub lots_after : (HeldFrame WaitingFrame → Lot) → List Lot → List (HeldFrame WaitingFrame)
    → List Lot
lots_after lot lots [] = lots
lots_after lot lots (h ∷ gone) = lots_after lot (slice_set lots h.frame.number (lot h)) gone

-- the lot of the frame that an answer gives, if it gives one and it is not held
abbrev pub lot_at : ℕ → Option Transmission → Option Lot
lot_at moment given = option_map (λ frame. SentAt moment) given

-- the lot of a relay, by its fate
abbrev pub lot_by : ℕ → Option Transmission → Fate → Option Lot
lot_by moment (Some relay) (Waits due) = Some (WaitsUntil due)
lot_by moment relayed its_fate = lot_at moment relayed

-- a relay that begins to wait, as the frame with this number
abbrev pub waiting_as : ℕ → Transmission → WaitingFrame
waiting_as number packet = record { number = number; packet = packet; copies = [] }

-- after an acceptance, by the number that a relay has
abbrev pub after_acceptance : ℕ → ℕ → Waiting → Option Transmission → Fate → Waiting
after_acceptance number moment q relayed its_fate =
    record {
      held = after_fate (waiting_as number) q.held relayed its_fate;
      lots = with_one_more q.lots (lot_by moment relayed its_fate);
    }

-- A frame that waits, after this frame from this sender, that is a copy of it or not. A copy counts
-- once for each sender.
abbrev pub with_copy : Bool → ℕ → ℕ → HeldFrame WaitingFrame → HeldFrame WaitingFrame
with_copy is_copy sender k h =
    if is_copy && not (is_among sender h.senders)
    then record h {
      frame = record h.frame { copies = k ∷ h.frame.copies };
      senders = sender ∷ h.senders;
    }
    else h

-- the frames that wait, with this one counted
abbrev pub with_copies : CopyTest → ℕ → ℕ → Transmission → List (HeldFrame WaitingFrame)
    → List (HeldFrame WaitingFrame)
with_copies test own k t held =
    map (λ h. with_copy (test own h.frame.packet t) t.link_source k h) held

-- after a duplicate: the frames that it cancels leave
abbrev pub after_counting : ℕ → ℕ → List Lot → List (HeldFrame WaitingFrame) → Waiting
after_counting copies moment lots counted =
    record {
      held = filter (stays copies) counted;
      lots = lots_after (λ h. CancelledBy h.frame.copies moment) lots
          (filter (λ h. not (stays copies h)) counted);
    }

-- after a frame that was ignored
abbrev pub after_ignoring : CopyTest → ContentionRule → StationModel → ℕ → ℕ → Transmission
    → Waiting → Why → Waiting
after_ignoring test r s moment k t q Duplicate =
    after_counting r.copies moment q.lots (with_copies test (mid_of s.address) k t q.held)
after_ignoring test r s moment k t q why = q

-- after the delivery of frame k, by what the station answered
abbrev pub after_delivery : CopyTest → ContentionRule → StationModel → ℕ → ℕ → ℕ → Transmission
    → Waiting → Answer Transmission → Waiting
after_delivery test r s moment number k t q (Accepted handed relayed) =
    after_acceptance number moment q relayed (fate r s moment q.held t relayed)
after_delivery test r s moment number k t q (Ignored why) =
    after_ignoring test r s moment k t q why
after_delivery test r s moment number k t q answer = q

-- the lots after a call of a station's own: a restart drops what waits there
abbrev pub lots_after_own : ℕ → Waiting → Answer Transmission → List Lot
lots_after_own moment q Restarted = lots_after (λ h. DroppedAt moment) q.lots q.held
lots_after_own moment q answer = with_one_more q.lots (lot_at moment (frame_of answer))

-- after a call of a station's own
abbrev pub after_own_call : ℕ → Waiting → Answer Transmission → Waiting
after_own_call moment q answer =
    record { held = after_own q.held answer; lots = lots_after_own moment q answer }

-- after an event that a station without a rule answered
abbrev pub after_plain : ℕ → Waiting → Answer Transmission → Waiting
after_plain moment q answer =
    record { held = q.held; lots = with_one_more q.lots (lot_at moment (frame_of answer)) }

-- ---- an event

-- after the delivery of frame k to a station, if there is such a frame
abbrev pub waiting_after_delivery : CopyTest → ContendedWorld → Event → StationModel → ℕ → Waiting
    → Option ContentionRule → Option Transmission → Waiting
waiting_after_delivery test cw e s k q rule None = q
waiting_after_delivery test cw e s k q None (Some t) =
    after_plain e.moment q (station_step s e.moment (Receive t)).answer
waiting_after_delivery test cw e s k q (Some r) (Some t) =
    after_delivery test r (station_step s e.moment (Receive t)).station e.moment
    (length cw.world.air) k t q (station_step s e.moment (Receive t)).answer

-- after a call of a station's own, by its rule
abbrev pub waiting_after_own : Event → Waiting → Option ContentionRule → Answer Transmission
    → Waiting
waiting_after_own e q None answer = after_plain e.moment q answer
waiting_after_own e q (Some r) answer = after_own_call e.moment q answer

-- after what a station was asked
abbrev pub waiting_after_asking : CopyTest → ContendedWorld → Event → StationModel → Waiting
    → Option ContentionRule → What → Waiting
waiting_after_asking test cw e s q rule (Calls call) =
    waiting_after_own e q rule (station_step s e.moment (Own call)).answer
waiting_after_asking test cw e s q rule (Deliver k) =
    waiting_after_delivery test cw e s k q rule (slice_get cw.world.air k)

-- after an event at a station, if there is such a one
abbrev pub waiting_after : CopyTest → ContendedWorld → Event → Waiting → Option StationModel
    → Waiting
waiting_after test cw e q None = q
waiting_after test cw e q (Some s) =
    waiting_after_asking test cw e s q (rule_at cw e.station) e.what

-- what waits at a station, and the lots
abbrev pub waiting_at : ContendedWorld → ℕ → Waiting
waiting_at cw j = record { held = held_at cw j; lots = cw.lots }

-- what waits after an event at its station, and the lots
abbrev pub waiting_after_event : CopyTest → ContendedWorld → Event → Waiting
waiting_after_event test cw e =
    waiting_after test cw e (waiting_at cw e.station) (slice_get cw.world.stations e.station)

-- with this world, and with this at a station
abbrev pub with_waiting : ContendedWorld → WorldModel → ℕ → Waiting → ContendedWorld
with_waiting cw world j q =
    record {
      world = world;
      rules = cw.rules;
      held = slice_set cw.held j q.held;
      lots = q.lots;
    }

-- ---- a release

-- the frames that are late
abbrev pub late_at : {F : Type 0} → ℕ → List (HeldFrame F) → List (HeldFrame F)
late_at now held = filter (λ h. not (nat_le now (h.due + late_after))) held

-- the lots after a frame was released, if one was
abbrev pub lots_after_release : ℕ → List Lot → Option WaitingFrame → List Lot
lots_after_release now lots None = lots
lots_after_release now lots (Some frame) = slice_set lots frame.number (SentAt now)

-- after a release that was not refused: the late frames are dropped, and the first of the others that
-- is due goes out
abbrev pub waiting_after_release : ℕ → Waiting → Waiting
waiting_after_release now q =
    record {
      held = after_due now (kept_at now q.held);
      lots = lots_after_release now (lots_after (λ h. DroppedAt now) q.lots (late_at now q.held))
          (first_due now (kept_at now q.held));
    }

-- a release, by why it is refused, if it is
abbrev pub released_by : ContendedWorld → ℕ → ℕ → Option Refusal → ContendedWorld
released_by cw j now (Some refusal) = cw
released_by cw j now None =
    with_waiting cw cw.world j (waiting_after_release now (waiting_at cw j))

-- a release at a station, if there is such a one and it has a rule
abbrev pub released : ContendedWorld → ℕ → ℕ → Option ContentionRule → Option StationModel
    → ContendedWorld
released cw j now (Some r) (Some s) = released_by cw j now (moment_refusal s now)
released cw j now rule station = cw

-- ---- a run

abbrev pub contended_step : CopyTest → ContendedWorld → Happening → ContendedWorld
contended_step test cw (Happens e) =
    with_waiting cw (world_step cw.world e) e.station (waiting_after_event test cw e)
contended_step test cw (Releases j now) =
    released cw j now (rule_at cw j) (slice_get cw.world.stations j)

-- what happens, one after the other
abbrev pub contended_run : CopyTest → ContendedWorld → List Happening → ContendedWorld
contended_run test cw [] = cw
contended_run test cw (h ∷ happenings) = contended_run test (contended_step test cw h) happenings

-- the events, without the releases
abbrev pub erased : List Happening → List Event
erased [] = []
erased (Happens e ∷ happenings) = e ∷ erased happenings
erased (Releases j now ∷ happenings) = erased happenings

-- ---- words of the laws

-- a link carries what was sent: the frame that is delivered went out before
abbrev pub IsCarriedBy : List Lot → ℕ → What → Type 0
IsCarriedBy lots moment (Calls call) = Unit {0}
IsCarriedBy lots moment (Deliver k) =
    (sent : ℕ) × (slice_get lots k ≡ Some (SentAt sent)) × (sent ≤ moment)

abbrev pub IsCarriedAt : ContendedWorld → Happening → Type 0
IsCarriedAt cw (Happens e) = IsCarriedBy cw.lots e.moment e.what
IsCarriedAt cw (Releases j now) = Unit {0}

-- each delivery of a run is such
abbrev pub IsCarried : CopyTest → ContendedWorld → List Happening → Type 0
IsCarried test cw [] = Unit {0}
IsCarried test cw (h ∷ happenings) =
    IsCarriedAt cw h × IsCarried test (contended_step test cw h) happenings

-- no reception of station j with a moment up to the due time
abbrev pub IsNoReceptionUpTo : ℕ → ℕ → ℕ → ℕ → What → Type 0
IsNoReceptionUpTo j due station moment (Calls call) = Unit {0}
IsNoReceptionUpTo j due station moment (Deliver k) = station ≡ j → due < moment

abbrev pub NoneReceivedUpTo : ℕ → ℕ → List Happening → Type 0
NoneReceivedUpTo j due [] = Unit {0}
NoneReceivedUpTo j due (Happens e ∷ happenings) =
    IsNoReceptionUpTo j due e.station e.moment e.what × NoneReceivedUpTo j due happenings
NoneReceivedUpTo j due (Releases station now ∷ happenings) = NoneReceivedUpTo j due happenings

-- a happening by which a frame left its buffer was in time
abbrev pub IsInTime : ℕ → ℕ → Happening → List Happening → Type 0
IsInTime due late (Happens e) later = e.moment ≤ due + late
IsInTime due late (Releases j now) later =
    (due ≤ now) × (now ≤ due + late) × NoneReceivedUpTo j due later

-- the lot of a frame after these happenings
abbrev pub lot_after : CopyTest → ContendedWorld → List Happening → ℕ → Option Lot
lot_after test cw happenings k = slice_get (contended_run test cw happenings).lots k

-- frame k, which is due at a time, leaves its buffer in time
pub record LeavesInTime (test : CopyTest) (cw : ContendedWorld) (happenings : List Happening)
    (late k due : ℕ) : Type 0 where
  pub before : List Happening
  pub happening : Happening
  pub later : List Happening
  pub split : happenings ≡ before ++ happening ∷ later
  pub waited : lot_after test cw before k ≡ Some (WaitsUntil due)
  pub left : lot_after test cw (before ++ happening ∷ []) k ≢ Some (WaitsUntil due)
  pub in_time : IsInTime due late happening later

-- each frame that waits at any time of the run leaves its buffer, at most so many milliseconds after
-- it is due
abbrev pub IsServed : CopyTest → ContendedWorld → List Happening → ℕ → Type 0
IsServed test cw happenings late =
    (early later : List Happening) (k due : ℕ)
    → happenings ≡ early ++ later → lot_after test cw early k ≡ Some (WaitsUntil due)
    → LeavesInTime test cw happenings late k due
