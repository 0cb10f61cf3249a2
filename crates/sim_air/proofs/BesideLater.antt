-- What the air puts doesn't hang on what comes to it later.
use Rattle.std.proofs.Common.{◌≡◌, ℕ, zero, suc, ◌+◌, ◌%◌, List, [], ◌∷◌, map, refl, sym, ap}
use Rattle.std.proofs.Common.{◌∙◌, arith, Bool, true, false, cond, Option, Some, None}
use Rattle.std.specs.Prelude.{nat_lt, not, ◌&&◌, ◌==◌, slice_get, count_by}
use Rattle.rand_core.specs.Stream.{next_u64}
use Rattle.its_model.specs.Station.{StationModel}
use Rattle.its_model.specs.World.{Event, WorldModel}
use Rattle.sim_air.specs.Beside.{InOrder}
use Rattle.sim_air_model.specs.Timetable.{Rules, Traffic, Filed, Pending, Planned, Timetable}
use Rattle.sim_air_model.specs.Timetable.{of_file}
use Rattle.sim_air_model.specs.Timetable.{schedule_all, draw, draw_and_schedule, draw_alone}
use Rattle.sim_air_model.specs.Timetable.{schedule_alone, delivery}
use Rattle.sim_air_model.specs.Timetable.{send, send_all, tick, schedule_tick, schedule_first_ticks}
use Rattle.sim_air_model.specs.Timetable.{sending}
use Rattle.sim_air_model.specs.Timetable.{schedule_send, schedule_first_sends, schedule_traffic}
use Rattle.sim_air_model.specs.Timetable.{heard_by}
use Rattle.sim_air_model.specs.Timetable.{given}
use Rattle.sim_air_model.specs.Timetable.{spread, spread_frame, is_tick, was_refused, tick_again}
use Rattle.sim_air_model.specs.Timetable.{follow_tick, send_again, is_tick_of, is_send_of}
use Rattle.sim_air_model.specs.Timetable.{none_waits}
use Rattle.sim_air_model.specs.Timetable.{come_ticking, come_sending, come_sending_all, come, comes}
use Rattle.sim_air_model.specs.Timetable.{follow_all, after_one, is_present}
use Rattle.sim_air_model.specs.Timetable.Pending.{Does}
use Rattle.sim_air.proofs.BesideOrder.{schedule_in_order, schedule_later}
use Rattle.sim_queue.proofs.Counting.{count_put_all, count_file, no_tick, no_send}

-- a timetable, and what a file has comes later
abbrev pub later : List Filed → Timetable → Timetable
later file t = record { waiting = schedule_all t.waiting (map of_file file); draws = t.draws }

-- it does the same to a timetable whatever comes later, and leaves what waits in order
pub record Slides (file : List Filed) (does : Timetable → Timetable) : Type 0 where
  pub same : (t : Timetable) → InOrder t.waiting → does (later file t) ≡ later file (does t)
  pub order : (t : Timetable) → InOrder t.waiting → InOrder (does t).waiting

-- ---- from parts

nothing : (file : List Filed) → Slides file (λ t. t)
nothing file = record { same = λ t h. refl; order = λ t h. h }

-- one after the other
then : (file : List Filed) (f g : Timetable → Timetable) → Slides file f → Slides file g
    → Slides file (λ t. g (f t))
then file f g first second =
    record {
      same = λ t h. ap g (first.same t h) ∙ second.same (f t) (first.order t h);
      order = λ t h. second.order (f t) (first.order t h);
    }

one_of : (file : List Filed) (b : Bool) (f g : Timetable → Timetable) → Slides file f
    → Slides file g → Slides file (λ t. cond b (f t) (g t))
one_of file true f g first second = first
one_of file false f g first second = second

-- one or the other, by what is the same whatever comes later
either : (file : List Filed) (test : Timetable → Bool) (f g : Timetable → Timetable)
    → ((t : Timetable) → test (later file t) ≡ test t) → Slides file f → Slides file g
    → Slides file (λ t. cond (test t) (f t) (g t))
either file test f g alike first second =
    record {
      same = λ t h. (
          ap (λ (b : Bool). cond b (f (later file t)) (g (later file t))) (alike t)
          ∙ (one_of file (test t) f g first second).same t h);
      order = λ t h. (one_of file (test t) f g first second).order t h;
    }

-- ---- what is put

drawn_and_put : (file : List Filed) (schedule_by : ℕ → Planned)
    → Slides file (λ t. draw_and_schedule (schedule_by (draw t)) t)
drawn_and_put file schedule_by =
    record {
      same = λ t h. ap (λ (ws : List Pending). record {
        waiting = ws;
        draws = (next_u64 t.draws).1;
      }) (sym (schedule_later (Does (schedule_by (draw t))) t.waiting (map of_file file) h));
      order = λ t h. schedule_in_order (Does (schedule_by (draw t))) t.waiting h;
    }

drawn_alone : (file : List Filed) → Slides file draw_alone
drawn_alone file = record { same = λ t h. refl; order = λ t h. h }

schedule_without : (file : List Filed) (p : Planned) → Slides file (schedule_alone p)
schedule_without file p =
    record {
      same = λ t h. ap (λ (ws : List Pending). record { waiting = ws; draws = t.draws })
          (sym (schedule_later (Does p) t.waiting (map of_file file) h));
      order = λ t h. schedule_in_order (Does p) t.waiting h;
    }

sent : (file : List Filed) (loss k m j : ℕ) → Slides file (send loss k m j)
sent file loss k m j =
    either file (λ t. nat_lt (draw t % 100) loss) draw_alone (draw_and_schedule (delivery k m j))
    (λ t. refl) (drawn_alone file) (drawn_and_put file (λ n. delivery k m j))

all_sent : (file : List Filed) (loss k m : ℕ) (js : List ℕ)
    → Slides file (send_all loss k m js)
all_sent file loss k m [] = nothing file
all_sent file loss k m (j ∷ js) =
    then file (send loss k m j) (send_all loss k m js) (sent file loss k m j)
    (all_sent file loss k m js)

frame_spread : (file : List Filed) (r : Rules) (present : List Bool) (e : Event)
    (after : WorldModel) (o : Option ℕ) → Slides file (spread_frame r present e after o)
frame_spread file r present e after None = nothing file
frame_spread file r present e after (Some k) =
    all_sent file r.loss k (e.moment + r.delay) (heard_by r.range present after e.station)

tick_put : (file : List Filed) (n m b : ℕ) → Slides file (schedule_tick n m b)
tick_put file n m b = drawn_and_put file (λ d. tick n m b (d % 751))

next_tick : (file : List Filed) (e : Event) (s : Option StationModel)
    → Slides file (tick_again e s)
next_tick file e None = nothing file
next_tick file e (Some s) = tick_put file e.station e.moment s.beacon_from

tick_followed : (file : List Filed) (p : Planned) (after : WorldModel)
    → Slides file (follow_tick p after)
tick_followed file p after =
    one_of file (p.own && (is_tick p.event.what && not (was_refused after.log)))
    (tick_again p.event (slice_get after.stations p.event.station)) (λ t. t)
    (next_tick file p.event (slice_get after.stations p.event.station)) (nothing file)

sent_again : (file : List Filed) (e : Event) (o : Option Traffic) → Slides file (send_again e o)
sent_again file e None = nothing file
sent_again file e (Some x) = schedule_without file (sending x e.station (e.moment + x.period))

send_put : (file : List Filed) (x : Traffic) (n m : ℕ) → Slides file (schedule_send x n m)
send_put file x n m = drawn_and_put file (λ d. sending x n (m + d % x.period))

-- ---- a station comes

-- as many of a kind wait that no file has
none_more : (file : List Filed) (kind : Pending → Bool)
    → ((f : Filed) → kind (of_file f) ≡ false) → (t : Timetable)
    → none_waits kind (later file t) ≡ none_waits kind t
none_more file kind none t =
    let a = count_put_all kind t.waiting (map of_file file) in
    let b = count_file kind none file in
    let c : count_by kind (schedule_all t.waiting (map of_file file)) ≡ count_by kind t.waiting =
    omega (arith, a, b) in
    ap (λ (n : ℕ). n == 0) c

ticking : (file : List Filed) (beacons : Bool) (n m : ℕ)
    → Slides file (come_ticking beacons n m)
ticking file beacons n m =
    either file (λ t. beacons && none_waits (is_tick_of n) t) (schedule_tick n m m) (λ t. t)
    (λ t. ap (λ (b : Bool). beacons && b) (none_more file (is_tick_of n) (no_tick n) t))
    (tick_put file n m m) (nothing file)

one_sending : (file : List Filed) (x : Traffic) (n m : ℕ) → Slides file (come_sending x n m)
one_sending file x n m =
    either file (none_waits (is_send_of x.number n)) (schedule_send x n m) (λ t. t)
    (none_more file (is_send_of x.number n) (no_send x.number n)) (send_put file x n m)
    (nothing file)

all_sending : (file : List Filed) (every : List Traffic) (n m : ℕ)
    → Slides file (come_sending_all every n m)
all_sending file [] n m = nothing file
all_sending file (x ∷ every) n m =
    then file (come_sending x n m) (come_sending_all every n m) (one_sending file x n m)
    (all_sending file every n m)

coming : (file : List Filed) (r : Rules) (n m : ℕ) → Slides file (come r n m)
coming file r n m =
    then file (come_ticking r.beacons n m) (come_sending_all r.every n m)
    (ticking file r.beacons n m) (all_sending file r.every n m)

-- ---- an event is done

all_followed : (file : List Filed) (r : Rules) (present : List Bool) (p : Planned)
    (after : WorldModel) → Slides file (follow_all r present p after)
all_followed file r present p after =
    then file (spread r present p.event after)
    (λ t. send_again p.event p.traffic (follow_tick p after t))
    (frame_spread file r present p.event after (given after.log))
    (then file (follow_tick p after) (send_again p.event p.traffic) (tick_followed file p after)
    (sent_again file p.event p.traffic))

pub one_after : (file : List Filed) (r : Rules) (present : List Bool) (p : Planned)
    (after : WorldModel) → Slides file (after_one r present p after)
one_after file r present p after =
    one_of file (comes present p.event after)
    (λ t. come r p.event.station p.event.moment (follow_all r present p after t))
    (follow_all r present p after)
    (then file (follow_all r present p after) (come r p.event.station p.event.moment)
    (all_followed file r present p after) (coming file r p.event.station p.event.moment))
    (all_followed file r present p after)

-- ---- the opening

pub first_ticks : (file : List Filed) (present : List Bool) (n : ℕ)
    → Slides file (schedule_first_ticks present n)
first_ticks file present zero = nothing file
first_ticks file present (suc n) =
    one_of file (is_present present n) (λ t. schedule_tick n 0 0 (schedule_first_ticks present n t))
    (schedule_first_ticks present n)
    (then file (schedule_first_ticks present n) (schedule_tick n 0 0) (first_ticks file present n)
    (tick_put file n 0 0))
    (first_ticks file present n)

first_sends : (file : List Filed) (present : List Bool) (x : Traffic) (n : ℕ)
    → Slides file (schedule_first_sends present x n)
first_sends file present x zero = nothing file
first_sends file present x (suc n) =
    one_of file (is_present present n)
    (λ t. schedule_send x n 0 (schedule_first_sends present x n t))
    (schedule_first_sends present x n)
    (then file (schedule_first_sends present x n) (schedule_send x n 0)
    (first_sends file present x n)
    (send_put file x n 0))
    (first_sends file present x n)

pub all_traffic : (file : List Filed) (present : List Bool) (every : List Traffic) (n : ℕ)
    → Slides file (schedule_traffic present every n)
all_traffic file present [] n = nothing file
all_traffic file present (x ∷ every) n =
    then file (schedule_first_sends present x n) (schedule_traffic present every n)
    (first_sends file present x n) (all_traffic file present every n)
