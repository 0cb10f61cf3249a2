-- What holds of every run of an air, said of its steps: each does one event.
use Rattle.std.specs.Prelude.{◌≡◌, ℕ, zero, suc, ◌+◌, ◌%◌, ◌≤◌, ◌<◌, List, [], ◌∷◌, ◌++◌, Some}
use Rattle.std.specs.Prelude.{true, false, slice_get, ◌⊎◌, cond, length}
use Rattle.std.specs.List.Sorted.{IsNonDecreasingBy}
use Rattle.rand_core.specs.Stream.{Stream, next_u64}
use Rattle.its_model.specs.Station.{StationModel}
use Rattle.its_model.specs.World.{Config, WorldModel, opening, world_run}
use Rattle.its_model.specs.World.What.{Deliver}
use Rattle.sim_air_model.specs.Timetable.{Rules, Planned, AirModel, air_opening, air_run, IsOver}
use Rattle.sim_air_model.specs.Timetable.{Filed}
use Rattle.sim_air_model.specs.Timetable.{delivery, given, heard_by, spread, draw, tick, is_tick}
use Rattle.sim_air_model.specs.Timetable.{was_refused, Traffic, sending, Pending, comes}
use Rattle.sim_air_model.specs.Timetable.{is_passed_over, is_present}
use Rattle.sim_air_model.specs.Timetable.Pending.{Does}

-- an air after so many steps
abbrev pub air_at : Rules → List Config → List Filed → ℕ → AirModel
air_at r configs file n = air_run r configs n (air_opening r configs file)

-- The step of this number takes p: it is the first that waits, and its moment isn't past the last.
pub record IsTaken (r : Rules) (configs : List Config) (file : List Filed) (n : ℕ)
    (p : Planned) : Type 0 where
  pub rest : List Pending
  pub first : (air_at r configs file n).timetable.waiting ≡ Does p ∷ rest
  pub in_time : p.event.moment ≤ r.until

-- A station is present when the step of this number begins.
abbrev pub IsPresent : Rules → List Config → List Filed → ℕ → ℕ → Type 0
IsPresent r configs file n station =
    is_present (air_at r configs file n).present station ≡ true

-- The step of this number does p: it takes it, and it isn't a call that the air makes for an absent
-- station.
pub record IsDone (r : Rules) (configs : List Config) (file : List Filed) (n : ℕ)
    (p : Planned) : Type 0 where
  pub rest : List Pending
  pub first : (air_at r configs file n).timetable.waiting ≡ Does p ∷ rest
  pub in_time : p.event.moment ≤ r.until
  pub is_run : is_passed_over (air_at r configs file n).present p ≡ false

-- the world once the step of this number did p
abbrev pub world_after : Rules → List Config → List Filed → ℕ → Planned → WorldModel
world_after r configs file n p =
    world_run (opening configs) ((air_at r configs file n).done ++ p.event ∷ [])

-- the draw of this number, from 0
abbrev pub draw_of : ℕ → Stream → ℕ
draw_of zero draws = (next_u64 draws).0
draw_of (suc i) draws = draw_of i (next_u64 draws).1

-- The step of this number does p, which gives frame k, and station j hears it: giver and hearer are
-- present, it is one of those in range, and the draw that is its own loses nothing.
pub record IsHeard (r : Rules) (configs : List Config) (file : List Filed) (n : ℕ) (p : Planned)
    (k j : ℕ) : Type 0 where
  pub done : IsDone r configs file n p
  pub gives : given (world_after r configs file n p).log ≡ Some k
  pub place : ℕ
  pub giver_present : IsPresent r configs file n p.event.station
  pub present : IsPresent r configs file n j
  pub in_range : slice_get (heard_by r.range (air_at r configs file n).present
      (world_after r configs file n p) p.event.station) place ≡ Some j
  pub is_kept : r.loss ≤ draw_of place (air_at r configs file n).timetable.draws % 100

-- What a step does is the next of the events done.
abbrev pub StepsDoEvents : Rules → List Config → List Filed → Type 0
StepsDoEvents r configs file =
    (n : ℕ) (p : Planned) → IsDone r configs file n p
    → (air_at r configs file (suc n)).done ≡ (air_at r configs file n).done ++ p.event ∷ []

-- The moments of the events done never fall.
abbrev pub MomentsNeverFall : Rules → List Config → List Filed → Type 0
MomentsNeverFall r configs file =
    (n : ℕ) → IsNonDecreasingBy (λ e. e.moment) (air_at r configs file n).done

-- In a run that is over, a frame that a station hears is delivered to it, by a later step, the
-- delay after it was given, where that isn't past the last moment.
abbrev pub WhatIsHeardIsDelivered : Rules → List Config → List Filed → Type 0
WhatIsHeardIsDelivered r configs file =
    (end n k j : ℕ) (p : Planned) → IsOver r (air_at r configs file end)
    → IsHeard r configs file n p k j
    → p.event.moment + r.delay ≤ r.until
    → (m : ℕ) × (n < m) × (m < end)
    × IsDone r configs file m (delivery k (p.event.moment + r.delay) j)

-- Each delivery of the air's own is of a frame that an earlier step gave, to a station that heard
-- it, the delay after.
abbrev pub DeliveriesAreHeard : Rules → List Config → List Filed → Type 0
DeliveriesAreHeard r configs file =
    (m k : ℕ) (q : Planned) → IsDone r configs file m q → q.own ≡ true → q.event.what ≡ Deliver k
    → (n : ℕ) × (p : Planned) × (n < m) × IsHeard r configs file n p k q.event.station
    × (q.event.moment ≡ p.event.moment + r.delay)

-- The air delivers each frame to a station at most once: two deliveries of its own, of one frame to
-- one station, are one.
abbrev pub DeliversOnce : Rules → List Config → List Filed → Type 0
DeliversOnce r configs file =
    (m n k : ℕ) (p q : Planned) → IsDone r configs file m p → IsDone r configs file n q
    → p.own ≡ true → q.own ≡ true → p.event.what ≡ Deliver k → q.event.what ≡ Deliver k
    → p.event.station ≡ q.event.station → m ≡ n

-- The step of this number did p, a tick of the air's own that wasn't refused, and this is its
-- station after it.
pub record IsTicked (r : Rules) (configs : List Config) (file : List Filed) (n : ℕ) (p : Planned)
    (s : StationModel) : Type 0 where
  pub done : IsDone r configs file n p
  pub own : p.own ≡ true
  pub ticks : is_tick p.event.what ≡ true
  pub answered : was_refused (world_after r configs file n p).log ≡ false
  pub station : slice_get (world_after r configs file n p).stations p.event.station ≡ Some s

-- the next tick of that station: its jitter is the draw after those for the frame that it gave
abbrev pub next_tick : (r : Rules) (configs : List Config) (file : List Filed) (n : ℕ) (p : Planned)
    (s : StationModel) → List Pending → Planned
next_tick r configs file n p s rest =
    tick p.event.station p.event.moment s.beacon_from
    (draw (spread r (air_at r configs file n).present p.event (world_after r configs file n p)
    (record {
      waiting = rest;
      draws = (air_at r configs file n).timetable.draws;
    })) % 751)

-- This is taken by a step of this number, and done where its station is present then.
abbrev pub IsTakenByStation : Rules → List Config → List Filed → ℕ → Planned → Type 0
IsTakenByStation r configs file m q =
    IsTaken r configs file m q
    × (IsPresent r configs file m q.event.station → IsDone r configs file m q)

-- In a run that is over, the next tick of a station that ticked is taken by a later step, where it
-- isn't past the last moment: it ticks again, if it is present then.
abbrev pub TicksGoOn : Rules → List Config → List Filed → Type 0
TicksGoOn r configs file =
    (end n : ℕ) (p : Planned) (s : StationModel) (h : IsTicked r configs file n p s)
    → IsOver r (air_at r configs file end)
    → (next_tick r configs file n p s h.done.rest).event.moment ≤ r.until
    → (m : ℕ) × (n < m) × (m < end)
    × IsTakenByStation r configs file m (next_tick r configs file n p s h.done.rest)

-- The step of this number does p, with which its station comes: it is absent when the step begins,
-- and p moves it.
pub record IsComing (r : Rules) (configs : List Config) (file : List Filed) (n : ℕ)
    (p : Planned) : Type 0 where
  pub done : IsDone r configs file n p
  pub comes : comes (air_at r configs file n).present p.event (world_after r configs file n p)
      ≡ true

-- one of the first ticks, where there are beacons, of a station that is present at the start: at
-- its jitter
pub record IsFirstTick (r : Rules) (configs : List Config) (q : Planned) : Type 0 where
  pub station : ℕ
  pub jitter : ℕ
  pub among : station < cond r.beacons (length configs) 0
  pub present : is_present r.present station ≡ true
  pub is : q ≡ tick station 0 0 jitter

-- it is the next one of a station that ticked by an earlier step than this
pub record IsNextTick (r : Rules) (configs : List Config) (file : List Filed) (m : ℕ)
    (q : Planned) : Type 0 where
  pub n : ℕ
  pub p : Planned
  pub s : StationModel
  pub earlier : n < m
  pub ticked : IsTicked r configs file n p s
  pub is : q ≡ next_tick r configs file n p s ticked.done.rest

-- it is that of a station that came by an earlier step than this, where there are beacons: later by
-- its jitter
pub record IsTickOfComing (r : Rules) (configs : List Config) (file : List Filed) (m : ℕ)
    (q : Planned) : Type 0 where
  pub n : ℕ
  pub p : Planned
  pub jitter : ℕ
  pub earlier : n < m
  pub coming : IsComing r configs file n p
  pub beacons : r.beacons ≡ true
  pub is : q ≡ tick p.event.station p.event.moment p.event.moment jitter

-- a tick is one of the first, the next of a station that ticked before this step, or that of one
-- that came
abbrev pub HasTickReason : Rules → List Config → List Filed → ℕ → Planned → Type 0
HasTickReason r configs file m q =
    IsFirstTick r configs q
    ⊎ (IsNextTick r configs file m q ⊎ IsTickOfComing r configs file m q)

-- Each tick of the air's own has such a reason.
abbrev pub TicksAreDue : Rules → List Config → List Filed → Type 0
TicksAreDue r configs file =
    (m : ℕ) (q : Planned) → IsDone r configs file m q → q.own ≡ true → is_tick q.event.what ≡ true
    → HasTickReason r configs file m q

-- In a run that is over, the next send of a station that sent of a traffic is taken by a later
-- step, a period after, where that isn't past the last moment: it sends again, if it is present
-- then.
abbrev pub SendsGoOn : Rules → List Config → List Filed → Type 0
SendsGoOn r configs file =
    (end n : ℕ) (p : Planned) (x : Traffic) → IsDone r configs file n p → p.traffic ≡ Some x
    → IsOver r (air_at r configs file end) → p.event.moment + x.period ≤ r.until
    → (m : ℕ) × (n < m) × (m < end)
    × IsTakenByStation r configs file m (sending x p.event.station (p.event.moment + x.period))

-- one of the first sends of a traffic of these, by a station that is present at the start: at a
-- draw modulo the period
pub record IsFirstSend (r : Rules) (configs : List Config) (q : Planned) (x : Traffic) : Type 0
  where
    pub place : ℕ
    pub traffic : slice_get r.every place ≡ Some x
    pub station : ℕ
    pub among : station < length configs
    pub present : is_present r.present station ≡ true
    pub drawn : ℕ
    pub is : q ≡ sending x station (drawn % x.period)

-- it is the next one of a station that sent the same by an earlier step than this
pub record IsNextSend (r : Rules) (configs : List Config) (file : List Filed) (m : ℕ)
    (q : Planned) (x : Traffic) : Type 0 where
  pub n : ℕ
  pub p : Planned
  pub earlier : n < m
  pub done : IsDone r configs file n p
  pub traffic : p.traffic ≡ Some x
  pub is : q ≡ sending x p.event.station (p.event.moment + x.period)

-- it is that of a station that came by an earlier step than this: later by a draw modulo the period
pub record IsSendOfComing (r : Rules) (configs : List Config) (file : List Filed) (m : ℕ)
    (q : Planned) (x : Traffic) : Type 0 where
  pub n : ℕ
  pub p : Planned
  pub earlier : n < m
  pub coming : IsComing r configs file n p
  pub place : ℕ
  pub traffic : slice_get r.every place ≡ Some x
  pub drawn : ℕ
  pub is : q ≡ sending x p.event.station (p.event.moment + drawn % x.period)

-- a send is one of the first, the next of a station that sent the same before this step, or that of
-- one that came
abbrev pub HasSendReason : Rules → List Config → List Filed → ℕ → Planned → Traffic → Type 0
HasSendReason r configs file m q x =
    IsFirstSend r configs q x
    ⊎ (IsNextSend r configs file m q x ⊎ IsSendOfComing r configs file m q x)

-- Each send of traffic has such a reason.
abbrev pub SendsAreDue : Rules → List Config → List Filed → Type 0
SendsAreDue r configs file =
    (m : ℕ) (q : Planned) (x : Traffic) → IsDone r configs file m q → q.traffic ≡ Some x
    → HasSendReason r configs file m q x
