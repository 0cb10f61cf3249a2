-- Deliveries of an air wait in the order of their frames.
use Rattle.std.proofs.Common.{◌≡◌, ◌≢◌, ℕ, zero, suc, ◌+◌, ◌≤◌, ◌<◌, List, [], ◌∷◌, ◌++◌, refl, sym}
use Rattle.std.proofs.Common.{ap, ◌∙◌, arith, Bool, true, false, cond, subst, Option, Some, None}
use Rattle.std.proofs.Common.{◌⊎◌, inl, inr, length, map}
use Rattle.std.specs.Prelude.{nat_le, nat_lt, ◌%◌, slice_get, not, ◌&&◌}
use Rattle.std.proofs.lemmas.Bool.{leb-false}
use Rattle.its_model.specs.Log.{origins}
use Rattle.its_model.specs.Station.{StationModel}
use Rattle.its_model.specs.World.{Config, Event, What, WorldModel, opening, world_run}
use Rattle.its_model.specs.World.What.{Calls, Deliver}
use Rattle.its_model.proofs.Givers.{number_is, length_at, names_at, at_least}
use Rattle.its_model.proofs.Sound.{EachNamed}
use Rattle.its_model.proofs.SoundRuns.{run_sound}
use Rattle.sim_air_model.specs.Carried.{world_at, DeliversNone, FramesComeInOrder}
use Rattle.sim_air_model.specs.Heard.{air_at, IsDone, world_after}
use Rattle.sim_air_model.specs.Timetable.{Rules, Planned, Timetable, AirModel, schedule}
use Rattle.sim_air_model.specs.Timetable.{schedule_all}
use Rattle.sim_air_model.specs.Timetable.{draw, of_file}
use Rattle.sim_air_model.specs.Timetable.{draw_alone, draw_and_schedule, delivery, send, send_all}
use Rattle.sim_air_model.specs.Timetable.{given}
use Rattle.sim_air_model.specs.Timetable.{spread, spread_frame, heard_by, tick_again, follow_tick}
use Rattle.sim_air_model.specs.Timetable.{tick, is_tick, was_refused, schedule_first_ticks}
use Rattle.sim_air_model.specs.Timetable.{schedule_tick}
use Rattle.sim_air_model.specs.Timetable.{with_file, with_ticks, schedule_traffic, schedule_send}
use Rattle.sim_air_model.specs.Timetable.{is_present}
use Rattle.sim_air_model.specs.Timetable.{Traffic, sending, send_again, schedule_first_sends}
use Rattle.sim_air_model.specs.Timetable.{after_one}
use Rattle.sim_air_model.specs.Timetable.{follow_all, comes, come, come_ticking, come_sending}
use Rattle.sim_air_model.specs.Timetable.{come_sending_all, none_waits, is_tick_of, is_send_of}
use Rattle.sim_air_model.specs.Timetable.{at, Pending, Filed}
use Rattle.sim_air_model.specs.Timetable.Pending.{Does, Departs}
use Rattle.sim_air_model.specs.Timetable.Filed.{Happens, Leaves}
use Rattle.sim_air_model.proofs.Lasting.{IsDropped, step_case, step_does, rest_of}
use Rattle.sim_air_model.proofs.Logs.{made, line_next}
use Rattle.sim_air_model.proofs.Moments.{Rises, send_rises, schedule_all_rises}
use Rattle.sim_air_model.proofs.Moments.{ticks_rise, traffic_rises, after_rises}

-- ---- one that waits

-- a delivery is of a frame from this one on and below that one, up to a last moment
abbrev FitsIn : What → (low top moment last : ℕ) → Type 0
FitsIn (Calls c) low top moment last = Unit {0}
FitsIn (Deliver k) low top moment last = (low ≤ k) × (k < top) × (moment ≤ last)

-- the least frame that may be delivered behind it
abbrev raised : What → ℕ → ℕ
raised (Calls c) low = low
raised (Deliver k) low = k

fits_wider : (what : What) (low low' top top' moment last last' : ℕ) → low' ≤ low → top ≤ top'
    → last ≤ last' → FitsIn what low top moment last → FitsIn what low' top' moment last'
fits_wider (Calls c) low low' top top' moment last last' a b d h = tt
fits_wider (Deliver k) low low' top top' moment last last' a b d h =
    (omega (arith, a, h.0), omega (arith, b, h.1), omega (arith, d, h.2))

raised_le : (what : What) (low low' : ℕ) → low' ≤ low → raised what low' ≤ raised what low
raised_le (Calls c) low low' a = a
raised_le (Deliver k) low low' a = omega arith

raised_above : (what : What) (low top moment last : ℕ) → FitsIn what low top moment last
    → low ≤ raised what low
raised_above (Calls c) low top moment last h = omega arith
raised_above (Deliver k) low top moment last h = h.0

raised_below : (what : What) (low top moment last k : ℕ) → FitsIn what low top moment last
    → top ≤ suc k → low ≤ k → raised what low ≤ k
raised_below (Calls c) low top moment last k h le a = a
raised_below (Deliver f) low top moment last k h le a = omega (arith, h.1, le)

fits_late : (what : What) (low low' top moment last : ℕ) → last < moment
    → FitsIn what low top moment last → FitsIn what low' top moment last
fits_late (Calls c) low low' top moment last lt h = tt
fits_late (Deliver k) low low' top moment last lt h = absurd (omega (arith, lt, h.2))

fits_none : (what : What) (low top moment last : ℕ) → ((k : ℕ) → what ≢ Deliver k)
    → FitsIn what low top moment last
fits_none (Calls c) low top moment last none = tt
fits_none (Deliver k) low top moment last none = absurd (none k refl)

raised_none : (what : What) (low : ℕ) → ((k : ℕ) → what ≢ Deliver k) → raised what low ≡ low
raised_none (Calls c) low none = refl
raised_none (Deliver k) low none = absurd (none k refl)

-- ---- all that wait

-- of one that waits: a departure is no delivery
abbrev FitsPending : Pending → (low top last : ℕ) → Type 0
FitsPending (Does p) low top last = FitsIn p.event.what low top p.event.moment last
FitsPending (Departs station moment) low top last = Unit {0}

abbrev lifted : Pending → ℕ → ℕ
lifted (Does p) low = raised p.event.what low
lifted (Departs station moment) low = low

abbrev InLine : (low top last : ℕ) → List Pending → Type 0
InLine low top last [] = Unit {0}
InLine low top last (p ∷ ws) = FitsPending p low top last × InLine (lifted p low) top last ws

pending_wider : (p : Pending) (low low' top top' last last' : ℕ) → low' ≤ low → top ≤ top'
    → last ≤ last' → FitsPending p low top last → FitsPending p low' top' last'
pending_wider (Does p) low low' top top' last last' a b d h =
    fits_wider p.event.what low low' top top' p.event.moment last last' a b d h
pending_wider (Departs station moment) low low' top top' last last' a b d h = tt

lifted_le : (p : Pending) (low low' : ℕ) → low' ≤ low → lifted p low' ≤ lifted p low
lifted_le (Does p) low low' a = raised_le p.event.what low low' a
lifted_le (Departs station moment) low low' a = a

lifted_above : (p : Pending) (low top last : ℕ) → FitsPending p low top last
    → low ≤ lifted p low
lifted_above (Does p) low top last h = raised_above p.event.what low top p.event.moment last h
lifted_above (Departs station moment) low top last h = omega arith

lifted_below : (p : Pending) (low top last k : ℕ) → FitsPending p low top last → top ≤ suc k
    → low ≤ k → lifted p low ≤ k
lifted_below (Does p) low top last k h le a =
    raised_below p.event.what low top p.event.moment last k h le a
lifted_below (Departs station moment) low top last k h le a = a

pending_late : (p : Pending) (low low' top last : ℕ) → last < at p → FitsPending p low top last
    → FitsPending p low' top last
pending_late (Does p) low low' top last lt h =
    fits_late p.event.what low low' top p.event.moment last lt h
pending_late (Departs station moment) low low' top last lt h = tt

-- it delivers nothing
abbrev IsNoDelivery : Pending → Type 0
IsNoDelivery (Does p) = (k : ℕ) → p.event.what ≢ Deliver k
IsNoDelivery (Departs station moment) = Unit {0}

pending_none : (p : Pending) (low top last : ℕ) → IsNoDelivery p → FitsPending p low top last
pending_none (Does p) low top last none =
    fits_none p.event.what low top p.event.moment last none
pending_none (Departs station moment) low top last none = tt

lifted_none : (p : Pending) (low : ℕ) → IsNoDelivery p → lifted p low ≡ low
lifted_none (Does p) low none = raised_none p.event.what low none
lifted_none (Departs station moment) low none = refl

wider : (low low' top top' last last' : ℕ) (ws : List Pending) → low' ≤ low → top ≤ top'
    → last ≤ last' → InLine low top last ws → InLine low' top' last' ws
wider low low' top top' last last' [] a b d h = tt
wider low low' top top' last last' (p ∷ ws) a b d h = (
  pending_wider p low low' top top' last last' a b d h.0,
  wider (lifted p low) (lifted p low') top top' last last' ws (lifted_le p low low' a) b d h.1,
)

-- past the last moment there is none
none_late : (low low' top last m : ℕ) (ws : List Pending) → last < m → Rises m ws
    → InLine low top last ws → InLine low' top last ws
none_late low low' top last m [] lt rises h = tt
none_late low low' top last m (p ∷ ws) lt rises h =
    let past : last < at p = omega (arith, lt, rises.0) in (
      pending_late p low low' top last past h.0,
      none_late (lifted p low) (lifted p low') top last (at p) ws past rises.1 h.1,
    )

schedule_other : (low top last : ℕ) (p : Pending) (ws : List Pending) → IsNoDelivery p
    → InLine low top last ws → InLine low top last (schedule p ws)
schedule_other low top last p [] none h = (pending_none p low top last none, tt)
schedule_other low top last p (q ∷ ws) none h =
    by (schedule_other (lifted q low) top last p ws none h.1) (nat_le (at q) (at p))
  where
    by : InLine (lifted q low) top last (schedule p ws) → (b : Bool)
        → InLine low top last (cond b (q ∷ schedule p ws) (p ∷ q ∷ ws))
    by on true = (h.0, on)
    by on false = (
      pending_none p low top last none,
      subst (λ (l : ℕ). InLine l top last (q ∷ ws)) (sym (lifted_none p low none)) h,
    )

schedule_delivery : (low k last j m : ℕ) (ws : List Pending) → low ≤ k → Rises m ws
    → InLine low (suc k) last ws → InLine low (suc k) last (schedule (Does (delivery k last j)) ws)
schedule_delivery low k last j m [] le rises h = ((le, omega arith, omega arith), tt)
schedule_delivery low k last j m (q ∷ ws) le rises h =
    by (schedule_delivery (lifted q low) k last j (at q) ws
    (lifted_below q low (suc k) last k h.0 (omega arith) le) rises.1 h.1) (nat_le (at q) last) refl
  where
    by : InLine (lifted q low) (suc k) last (schedule (Does (delivery k last j)) ws) → (b : Bool)
        → nat_le (at q) last ≡ b
        → InLine low (suc k) last
        (cond b (q ∷ schedule (Does (delivery k last j)) ws) (Does (delivery k last j) ∷ q ∷ ws))
    by on true is = (h.0, on)
    by on false is = (
      (le, omega arith, omega arith),
      none_late low k (suc k) last (at q) (q ∷ ws) (leb-false (at q) last is)
          (omega arith, rises.1) h,
    )

send_in_line : (low loss k last j m : ℕ) (t : Timetable) → low ≤ k → Rises m t.waiting
    → InLine low (suc k) last t.waiting → InLine low (suc k) last (send loss k last j t).waiting
send_in_line low loss k last j m t le rises h = by (nat_lt (draw t % 100) loss)
  where
    by : (b : Bool) → InLine low (suc k) last
        (cond b (draw_alone t) (draw_and_schedule (delivery k last j) t)).waiting
    by true = h
    by false = schedule_delivery low k last j m t.waiting le rises h

send_all_in_line : (low loss k last m : ℕ) (js : List ℕ) (t : Timetable) → low ≤ k → m ≤ last
    → Rises m t.waiting → InLine low (suc k) last t.waiting
    → InLine low (suc k) last (send_all loss k last js t).waiting
send_all_in_line low loss k last m [] t le early rises h = h
send_all_in_line low loss k last m (j ∷ js) t le early rises h =
    send_all_in_line low loss k last m js (send loss k last j t) le early
    (send_rises m loss k last j t rises early) (send_in_line low loss k last j m t le rises h)

-- a frame that is given is the next one
spread_in_line : (low top top' last : ℕ) (r : Rules) (present : List Bool) (e : Event)
    (after : WorldModel) (o : Option ℕ) (t : Timetable) → low ≤ top → top ≤ top'
    → last ≤ e.moment + r.delay
    → ((k : ℕ) → o ≡ Some k → (k ≡ top) × (top' ≡ suc k)) → Rises e.moment t.waiting
    → InLine low top last t.waiting
    → InLine low top' (e.moment + r.delay) (spread_frame r present e after o t).waiting
spread_in_line low top top' last r present e after None t le more late next rises h =
    wider low low top top' last (e.moment + r.delay) t.waiting (omega arith) more late h
spread_in_line low top top' last r present e after (Some k) t le more late next rises h =
    let n = next k refl in
    let is = n.0 in
    let top_is = n.1 in
    let js = heard_by r.range present after e.station in
    subst (λ (x : ℕ). InLine low x (e.moment + r.delay)
    (send_all r.loss k (e.moment + r.delay) js t).waiting) (sym top_is)
    (send_all_in_line low r.loss k (e.moment + r.delay) e.moment js t (omega (arith, le, is))
    (omega arith) rises
    (wider low low top (suc k) last (e.moment + r.delay) t.waiting (omega arith)
    (omega (arith, is)) late h))

no_tick : (n m b j : ℕ) (k : ℕ) → (tick n m b j).event.what ≢ Deliver k
no_tick n m b j k e = cc

follow_in_line : (low top last : ℕ) (p : Planned) (after : WorldModel) (t : Timetable)
    → InLine low top last t.waiting → InLine low top last (follow_tick p after t).waiting
follow_in_line low top last p after t h =
    by (p.own && (is_tick p.event.what && not (was_refused after.log)))
    (slice_get after.stations p.event.station)
  where
    by : (b : Bool) (s : Option StationModel)
        → InLine low top last (cond b (tick_again p.event s t) t).waiting
    by false s = h
    by true None = h
    by true (Some s) =
        schedule_other low top last
        (Does (tick p.event.station p.event.moment s.beacon_from (draw t % 751))) t.waiting
        (no_tick p.event.station p.event.moment s.beacon_from (draw t % 751)) h

-- one of two
either_in_line : (low top last : ℕ) (b : Bool) (t u : Timetable) → InLine low top last t.waiting
    → InLine low top last u.waiting → InLine low top last (cond b t u).waiting
either_in_line low top last true t u h g = h
either_in_line low top last false t u h g = g

tick_in_line : (low top last n m : ℕ) (t : Timetable) → InLine low top last t.waiting
    → InLine low top last (schedule_tick n m m t).waiting
tick_in_line low top last n m t h =
    schedule_other low top last (Does (tick n m m (draw t % 751))) t.waiting
    (no_tick n m m (draw t % 751)) h

ticks_in_line : (low top last : ℕ) (present : List Bool) (n : ℕ) (t : Timetable)
    → InLine low top last t.waiting → InLine low top last (schedule_first_ticks present n t).waiting
ticks_in_line low top last present zero t h = h
ticks_in_line low top last present (suc n) t h =
    let u = schedule_first_ticks present n t in
    let g = ticks_in_line low top last present n t h in
    either_in_line low top last (is_present present n) (schedule_tick n 0 0 u) u
    (tick_in_line low top last n 0 u g) g

no_send : (x : Traffic) (n m k : ℕ) → (sending x n m).event.what ≢ Deliver k
no_send x n m k e = cc

again_in_line : (low top last : ℕ) (e : Event) (o : Option Traffic) (t : Timetable)
    → InLine low top last t.waiting → InLine low top last (send_again e o t).waiting
again_in_line low top last e None t h = h
again_in_line low top last e (Some x) t h =
    schedule_other low top last (Does (sending x e.station (e.moment + x.period))) t.waiting
    (no_send x e.station (e.moment + x.period)) h

send_in_turn : (low top last : ℕ) (x : Traffic) (n m : ℕ) (t : Timetable)
    → InLine low top last t.waiting → InLine low top last (schedule_send x n m t).waiting
send_in_turn low top last x n m t h =
    schedule_other low top last (Does (sending x n (m + draw t % x.period))) t.waiting
    (no_send x n (m + draw t % x.period)) h

first_sends_in_line : (low top last : ℕ) (present : List Bool) (x : Traffic) (n : ℕ)
    (t : Timetable) → InLine low top last t.waiting
    → InLine low top last (schedule_first_sends present x n t).waiting
first_sends_in_line low top last present x zero t h = h
first_sends_in_line low top last present x (suc n) t h =
    let u = schedule_first_sends present x n t in
    let g = first_sends_in_line low top last present x n t h in
    either_in_line low top last (is_present present n) (schedule_send x n 0 u) u
    (send_in_turn low top last x n 0 u g) g

traffic_in_line : (low top last : ℕ) (present : List Bool) (every : List Traffic) (n : ℕ)
    (t : Timetable) → InLine low top last t.waiting
    → InLine low top last (schedule_traffic present every n t).waiting
traffic_in_line low top last present [] n t h = h
traffic_in_line low top last present (x ∷ every) n t h =
    traffic_in_line low top last present every n (schedule_first_sends present x n t)
    (first_sends_in_line low top last present x n t h)

coming_in_line : (low top last : ℕ) (every : List Traffic) (n m : ℕ) (t : Timetable)
    → InLine low top last t.waiting → InLine low top last (come_sending_all every n m t).waiting
coming_in_line low top last [] n m t h = h
coming_in_line low top last (x ∷ every) n m t h =
    coming_in_line low top last every n m (come_sending x n m t)
    (either_in_line low top last (none_waits (is_send_of x.number n) t) (schedule_send x n m t) t
    (send_in_turn low top last x n m t h) h)

come_in_line : (low top last : ℕ) (r : Rules) (n m : ℕ) (t : Timetable)
    → InLine low top last t.waiting → InLine low top last (come r n m t).waiting
come_in_line low top last r n m t h =
    coming_in_line low top last r.every n m (come_ticking r.beacons n m t)
    (either_in_line low top last (r.beacons && none_waits (is_tick_of n) t) (schedule_tick n m m t)
    t
    (tick_in_line low top last n m t h) h)

-- all that follows an event, once its frame was spread
after_in_line : (low top last : ℕ) (r : Rules) (present : List Bool) (p : Planned)
    (after : WorldModel) (t : Timetable)
    → InLine low top last (spread r present p.event after t).waiting
    → InLine low top last (after_one r present p after t).waiting
after_in_line low top last r present p after t h =
    let s = spread r present p.event after t in
    let u = follow_all r present p after t in
    let g : InLine low top last u.waiting = again_in_line low top last p.event p.traffic
    (follow_tick p after s) (follow_in_line low top last p after s h) in
    either_in_line low top last (comes present p.event after)
    (come r p.event.station p.event.moment u) u
    (come_in_line low top last r p.event.station p.event.moment u g) g

file_in_line : (low top last : ℕ) (es : List Filed) (ws : List Pending) → DeliversNone es
    → InLine low top last ws → InLine low top last (schedule_all (map of_file es) ws)
file_in_line low top last [] ws none h = h
file_in_line low top last (Happens e ∷ es) ws none h =
    file_in_line low top last es (schedule (of_file (Happens e)) ws) none.1
    (schedule_other low top last (of_file (Happens e)) ws none.0 h)
file_in_line low top last (Leaves station moment ∷ es) ws none h =
    file_in_line low top last es (schedule (Departs station moment) ws) none
    (schedule_other low top last (Departs station moment) ws tt h)

-- ---- steps

-- how many frames there are
abbrev pub frames_in : WorldModel → ℕ
frames_in w = length (origins w.log)

record IsInLine (r : Rules) (configs : List Config) (low : ℕ) (a : AirModel) : Type 0 where
  pub moment : ℕ
  pub rises : Rises moment a.timetable.waiting
  pub below : low ≤ frames_in (world_run (opening configs) a.done)
  pub line : InLine low (frames_in (world_run (opening configs) a.done)) (moment + r.delay)
      a.timetable.waiting

-- an event gives the next frame, or none
pub next_frame : (r : Rules) (configs : List Config) (file : List Filed) (n : ℕ) (p : Planned)
    → (frames_in (world_at r configs file n) ≤ frames_in (world_after r configs file n p))
    × ((k : ℕ) → given (world_after r configs file n p).log ≡ Some k
    → (k ≡ frames_in (world_at r configs file n))
    × (frames_in (world_after r configs file n p) ≡ suc k))
next_frame r configs file n p =
    let before = (world_at r configs file n).log in
    let after = world_after r configs file n p in
    let one = line_next r configs file n p in
    let names : EachNamed (one.0 ∷ before) =
    subst EachNamed one.1
    (run_sound configs ((air_at r configs file n).done ++ p.event ∷ [])).names in
    let more = at_least (one.0 ∷ []) before in
    let long = ap (λ xs. length (origins xs)) one.1 in (
      omega (arith, more, long),
      λ k gives. (
          let is = sym (ap given one.1) ∙ gives in (
            number_is (one.0 ∷ before) [] before one.0 k names refl is,
            long ∙ length_at one.0 before k (names_at [] one.0 before names) is,
          )),
    )

step_in_line : (r : Rules) (configs : List Config) (file : List Filed) (low n : ℕ) (p : Planned)
    → IsDone r configs file n p → IsInLine r configs low (air_at r configs file n)
    → IsInLine r configs (raised p.event.what low) (air_at r configs file (suc n))
step_in_line r configs file low n p d h =
    let a = air_at r configs file n in
    let after = world_after r configs file n p in
    let t = rest_of a d.rest in
    let top = frames_in (world_at r configs file n) in
    let rises : Rises h.moment (Does p ∷ d.rest) = subst (Rises h.moment) d.first h.rises in
    let line : InLine low top (h.moment + r.delay) (Does p ∷ d.rest) =
    subst (InLine low top (h.moment + r.delay)) d.first h.line in
    let next = next_frame r configs file n p in
    let early = rises.0 in
    let more = next.0 in
    let below = h.below in
    let lift : raised p.event.what low ≤ top =
    below_top p.event.what low top p.event.moment (h.moment + r.delay) line.0 below in
    subst (IsInLine r configs (raised p.event.what low)) (sym (step_does r configs file n p d))
    (record {
      moment = p.event.moment;
      rises = after_rises r a.present p after t rises.1;
      below = omega (arith, lift, more);
      line = after_in_line (raised p.event.what low) (frames_in after) (p.event.moment + r.delay)
          r a.present p after t
          (spread_in_line (raised p.event.what low) top (frames_in after) (h.moment + r.delay) r
          a.present p.event after (given after.log) t lift more (omega (arith, early)) next.1
          rises.1 line.1);
    })
  where
    below_top : (what : What) (low top moment last : ℕ) → FitsIn what low top moment last
        → low ≤ top → raised what low ≤ top
    below_top (Calls c) low top moment last g le = le
    below_top (Deliver k) low top moment last g le = omega (arith, g.1)

lower_line : (r : Rules) (configs : List Config) (low low' : ℕ) (a : AirModel) → low' ≤ low
    → IsInLine r configs low a → IsInLine r configs low' a
lower_line r configs low low' a le h =
    let top = frames_in (world_run (opening configs) a.done) in
    let below = h.below in
    record {
      moment = h.moment;
      rises = h.rises;
      below = omega (arith, le, below);
      line = wider low low' top top (h.moment + r.delay) (h.moment + r.delay) a.timetable.waiting
          le (omega arith) (omega arith) h.line;
    }

-- nothing is done of what was taken
drop_in_line : (r : Rules) (configs : List Config) (file : List Filed) (low n : ℕ)
    → IsDropped r configs file n → IsInLine r configs low (air_at r configs file n)
    → IsInLine r configs low (air_at r configs file (suc n))
drop_in_line r configs file low n d h =
    let top = frames_in (world_at r configs file n) in
    let top' = frames_in (world_at r configs file (suc n)) in
    let same : top' ≡ top =
    ap (λ (es : List Event). frames_in (world_run (opening configs) es)) d.done in
    let rises : Rises h.moment (d.dropped ∷ d.rest) = subst (Rises h.moment) d.first h.rises in
    let line : InLine low top (h.moment + r.delay) (d.dropped ∷ d.rest) =
    subst (InLine low top (h.moment + r.delay)) d.first h.line in
    let early = rises.0 in
    let below = h.below in
    let up = lifted_above d.dropped low top (h.moment + r.delay) line.0 in
    record {
      moment = at d.dropped;
      rises = subst (Rises (at d.dropped)) (sym d.left) rises.1;
      below = omega (arith, below, same);
      line = subst (InLine low top' (at d.dropped + r.delay)) (sym d.left)
          (wider (lifted d.dropped low) low top top' (h.moment + r.delay)
          (at d.dropped + r.delay) d.rest up (omega (arith, same)) (omega (arith, early)) line.1);
    }

one_more : (r : Rules) (configs : List Config) (file : List Filed) (low n : ℕ)
    → IsInLine r configs low (air_at r configs file n)
    → IsInLine r configs low (air_at r configs file (suc n))
one_more r configs file low n h = by (step_case r configs file n)
  where
    by : (air_at r configs file (suc n) ≡ air_at r configs file n)
        ⊎ (IsDropped r configs file n ⊎ ((p : Planned) × IsDone r configs file n p))
        → IsInLine r configs low (air_at r configs file (suc n))
    by (inl same) = subst (IsInLine r configs low) (sym same) h
    by (inr (inl d)) = drop_in_line r configs file low n d h
    by (inr (inr x)) =
        let p = x.0 in
        let line : InLine low (frames_in (world_at r configs file n)) (h.moment + r.delay)
        (Does p ∷ x.1.rest) = subst (InLine low (frames_in (world_at r configs file n))
        (h.moment + r.delay)) x.1.first h.line in
        lower_line r configs (raised p.event.what low) low (air_at r configs file (suc n))
        (raised_above p.event.what low (frames_in (world_at r configs file n)) p.event.moment
        (h.moment + r.delay) line.0) (step_in_line r configs file low n p x.1 h)

in_line_on : (r : Rules) (configs : List Config) (file : List Filed) (low n d end : ℕ)
    → end ≡ d + n → IsInLine r configs low (air_at r configs file n)
    → IsInLine r configs low (air_at r configs file end)
in_line_on r configs file low n zero end is h =
    let same : n ≡ end = omega (arith, is) in
    subst (λ (m : ℕ). IsInLine r configs low (air_at r configs file m)) same h
in_line_on r configs file low n (suc d) end is h =
    let same : suc (d + n) ≡ end = omega (arith, is) in
    subst (λ (m : ℕ). IsInLine r configs low (air_at r configs file m)) same
    (one_more r configs file low (d + n) (in_line_on r configs file low n d (d + n) refl h))

opens_in_line : (r : Rules) (configs : List Config) (file : List Filed) → DeliversNone file
    → IsInLine r configs 0 (air_at r configs file 0)
opens_in_line r configs file none =
    let t = with_file r file in
    let u = with_ticks r configs file in
    let ticking = cond r.beacons (length configs) 0 in
    let top = frames_in (opening configs) in
    record {
      moment = 0;
      rises = traffic_rises r.present r.every (length configs) u
          (ticks_rise r.present ticking t (schedule_all_rises file [] tt));
      below = omega arith;
      line = traffic_in_line 0 top (0 + r.delay) r.present r.every (length configs) u
          (ticks_in_line 0 top (0 + r.delay) r.present ticking t
          (file_in_line 0 top (0 + r.delay) file [] none tt));
    }

less_by : (a b : ℕ) → a ≤ b → (d : ℕ) × (b ≡ d + a)
less_by zero b le = (b, omega arith)
less_by (suc a) zero le = absurd (omega (arith, le))
less_by (suc a) (suc b) le =
    let d = less_by a b (omega (arith, le)) in
    let is = d.1 in (d.0, omega (arith, is))

pub frames_come_in_order : (r : Rules) (configs : List Config) (file : List Filed)
    → FramesComeInOrder r configs file
frames_come_in_order r configs file none n later between older first second k m split is_k is_m =
    let s = made r configs file n later (between ++ first ∷ older) second split in
    let f = made r configs file s.n between older first s.log in
    let start = in_line_on r configs file 0 0 f.n f.n (omega arith)
    (opens_in_line r configs file none) in
    let after = subst (λ (x : What). IsInLine r configs (raised x 0)
    (air_at r configs file (suc f.n))) (ap (λ (e : Event). e.what) (sym f.event) ∙ is_k)
    (step_in_line r configs file 0 f.n f.p f.done start) in
    let less = f.less in
    let d = less_by (suc f.n) s.n (omega (arith, less)) in
    let then = in_line_on r configs file k (suc f.n) d.0 s.n d.1 after in
    let line : InLine k (frames_in (world_at r configs file s.n)) (then.moment + r.delay)
    (Does s.p ∷ s.done.rest) = subst (InLine k (frames_in (world_at r configs file s.n))
    (then.moment + r.delay)) s.done.first then.line in
    let fits : FitsIn (Deliver m) k (frames_in (world_at r configs file s.n)) s.p.event.moment
    (then.moment + r.delay) = subst (λ (x : What). FitsIn x k
    (frames_in (world_at r configs file s.n)) s.p.event.moment (then.moment + r.delay))
    (ap (λ (e : Event). e.what) (sym s.event) ∙ is_m) line.0 in
    fits.0
