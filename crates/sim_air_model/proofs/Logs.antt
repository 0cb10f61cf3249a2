-- The lines of the log of an air's run are its steps.
use Rattle.std.proofs.Common.{◌≡◌, ℕ, zero, suc, ◌+◌, ◌<◌, List, [], ◌∷◌, ◌++◌, refl, sym, ap}
use Rattle.std.proofs.Common.{◌∙◌, arith, Option, Some, None, ◌⊎◌}
use Rattle.std.proofs.Common.{inl, inr, length, append_assoc, length-append}
use Rattle.std.specs.Prelude.{slice_get, slice_index_or}
use Rattle.its_model.specs.Packet.{Transmission}
use Rattle.its_model.specs.Station.{StationModel}
use Rattle.its_model.specs.World.{Config, Event, LogLine, What, WorldModel, opening, world_run}
use Rattle.its_model.specs.World.{world_step, at_station, asked, delivery as delivered}
use Rattle.its_model.specs.World.What.{Calls, Deliver}
use Rattle.sim_air_model.specs.Carried.{world_at, LogsNeverFall}
use Rattle.sim_air_model.specs.Heard.{air_at, IsDone, world_after}
use Rattle.sim_air_model.specs.Timetable.{Rules, Planned, AirModel, Filed}
use Rattle.sim_air_model.proofs.Lasting.{IsDropped, step_case, step_does}
use Rattle.sim_air_model.proofs.Moments.{moments_never_fall}

-- ---- one event

run_push : (es : List Event) (w : WorldModel) (e : Event)
    → world_run w (es ++ e ∷ []) ≡ world_step (world_run w es) e
run_push [] w e = refl
run_push (x ∷ es) w e = run_push es (world_step w x) e

-- an event has one line
abbrev Lined : WorldModel → Event → WorldModel → Type 0
Lined w e after = (line : LogLine) × (after.log ≡ line ∷ w.log) × (line.event ≡ e)

delivery_line : (o : Option Transmission) (w : WorldModel) (e : Event) (s : StationModel)
    → Lined w e (delivered w e s o)
delivery_line None w e s = (_, refl, refl)
delivery_line (Some t) w e s = (_, refl, refl)

asked_line : (what : What) (w : WorldModel) (e : Event) (s : StationModel)
    → Lined w e (asked w e s what)
asked_line (Calls call) w e s = (_, refl, refl)
asked_line (Deliver k) w e s = delivery_line (slice_get w.air k) w e s

station_line : (o : Option StationModel) (w : WorldModel) (e : Event)
    → Lined w e (at_station w e o)
station_line None w e = (_, refl, refl)
station_line (Some s) w e = asked_line e.what w e s

-- ---- one step

-- the world after a step is that after its event
pub world_next : (r : Rules) (configs : List Config) (file : List Filed) (n : ℕ) (p : Planned)
    → IsDone r configs file n p
    → world_at r configs file (suc n) ≡ world_after r configs file n p
world_next r configs file n p d =
    ap (λ (a : AirModel). world_run (opening configs) a.done) (step_does r configs file n p d)

-- its line
pub line_next : (r : Rules) (configs : List Config) (file : List Filed) (n : ℕ) (p : Planned)
    → (line : LogLine)
    × ((world_after r configs file n p).log ≡ line ∷ (world_at r configs file n).log)
    × (line.event ≡ p.event)
line_next r configs file n p =
    let w = world_at r configs file n in
    let one = station_line (slice_get w.stations p.event.station) w p.event in (
      one.0,
      ap (λ (x : WorldModel). x.log) (run_push (air_at r configs file n).done (opening configs)
          p.event)
          ∙ one.1,
      one.2,
    )

-- ---- the step of a line

-- an earlier step than this made the line, after these
pub record IsMade (r : Rules) (configs : List Config) (file : List Filed) (end : ℕ)
    (line : LogLine) (before : List LogLine) : Type 0 where
  pub n : ℕ
  pub p : Planned
  pub less : n < end
  pub done : IsDone r configs file n p
  pub event : line.event ≡ p.event
  pub log : (world_at r configs file n).log ≡ before
  pub after : (world_after r configs file n p).log ≡ line ∷ before
  pub more : List Event
  pub events : (air_at r configs file end).done ≡ (air_at r configs file n).done ++ p.event ∷ more

first_same : {X : Type 0} (x y : X) (xs ys : List X) → x ∷ xs ≡ y ∷ ys → x ≡ y
first_same x y xs ys e = cc

rest_same : {X : Type 0} (x y : X) (xs ys : List X) → x ∷ xs ≡ y ∷ ys → xs ≡ ys
rest_same x y xs ys e = cc

-- each line of the log was made so
pub made : (r : Rules) (configs : List Config) (file : List Filed) (end : ℕ)
    (later before : List LogLine) (line : LogLine)
    → (world_at r configs file end).log ≡ later ++ line ∷ before
    → IsMade r configs file end line before
made r configs file zero later before line split = absurd (none later split)
  where
    none : (later : List LogLine) → [] ≡ later ++ line ∷ before → ⊥
    none [] e = cc
    none (x ∷ later) e = cc
made r configs file (suc end) later before line split =
    by (step_case r configs file end) (λ l e. made r configs file end l before line e)
  where
    here : (p : Planned) → IsDone r configs file end p
        → (one : (l : LogLine)
        × ((world_after r configs file end p).log ≡ l ∷ (world_at r configs file end).log)
        × (l.event ≡ p.event))
        → ((l : List LogLine) → (world_at r configs file end).log ≡ l ++ line ∷ before
        → IsMade r configs file end line before)
        → (later : List LogLine) → one.0 ∷ (world_at r configs file end).log
        ≡ later ++ line ∷ before
        → IsMade r configs file (suc end) line before
    here p d one on [] e =
        let same = first_same one.0 line (world_at r configs file end).log before e in
        let log = rest_same one.0 line (world_at r configs file end).log before e in
        record {
          n = end;
          p = p;
          less = omega arith;
          done = d;
          event = ap (λ (x : LogLine). x.event) (sym same) ∙ one.2;
          log = log;
          after = one.1 ∙ e;
          more = [];
          events = ap (λ (a : AirModel). a.done) (step_does r configs file end p d);
        }
    here p d one on (x ∷ later) e =
        let m = on later
        (rest_same one.0 x (world_at r configs file end).log (later ++ line ∷ before) e) in
        let less = m.less in
        record {
          n = m.n;
          p = m.p;
          less = omega (arith, less);
          done = m.done;
          event = m.event;
          log = m.log;
          after = m.after;
          more = m.more ++ p.event ∷ [];
          events = ap (λ (a : AirModel). a.done) (step_does r configs file end p d)
              ∙ ap (λ (es : List Event). es ++ p.event ∷ []) m.events
              ∙ append_assoc (air_at r configs file m.n).done (m.p.event ∷ m.more) (p.event ∷ []);
        }

    same_done : (air_at r configs file (suc end)).done ≡ (air_at r configs file end).done
        → ((l : List LogLine) → (world_at r configs file end).log ≡ l ++ line ∷ before
        → IsMade r configs file end line before)
        → IsMade r configs file (suc end) line before
    same_done same on =
        let m = on later
        (ap (λ (es : List Event). (world_run (opening configs) es).log) (sym same) ∙ split) in
        let less = m.less in
        record {
          n = m.n;
          p = m.p;
          less = omega (arith, less);
          done = m.done;
          event = m.event;
          log = m.log;
          after = m.after;
          more = m.more;
          events = same ∙ m.events;
        }

    by : (air_at r configs file (suc end) ≡ air_at r configs file end)
        ⊎ (IsDropped r configs file end ⊎ ((p : Planned) × IsDone r configs file end p))
        → ((l : List LogLine) → (world_at r configs file end).log ≡ l ++ line ∷ before
        → IsMade r configs file end line before)
        → IsMade r configs file (suc end) line before
    by (inl same) on = same_done (ap (λ (a : AirModel). a.done) same) on
    by (inr (inl d)) on = same_done d.done on
    by (inr (inr d)) on =
        let one = line_next r configs file end d.0 in
        here d.0 d.1 one on later
        (sym one.1 ∙ ap (λ (x : WorldModel). x.log) (sym (world_next r configs file end d.0 d.1))
        ∙ split)

-- ---- moments

got : (xs : List Event) (x : Event) (ys : List Event) (d : Event)
    → slice_index_or (xs ++ x ∷ ys) (length xs) d ≡ x
got [] x ys d = refl
got (y ∷ xs) x ys d = got xs x ys d

pub logs_never_fall : (r : Rules) (configs : List Config) (file : List Filed)
    → LogsNeverFall r configs file
logs_never_fall r configs file n later between older first second split =
    let s = made r configs file n later (between ++ first ∷ older) second split in
    let f = made r configs file s.n between older first s.log in
    let es = (air_at r configs file f.n).done in
    let all = (air_at r configs file s.n).done in
    let one : slice_index_or (all ++ s.p.event ∷ s.more) (length es) f.p.event ≡ f.p.event =
    ap (λ (xs : List Event). slice_index_or xs (length es) f.p.event)
    (ap (λ (xs : List Event). xs ++ s.p.event ∷ s.more) f.events
    ∙ append_assoc es (f.p.event ∷ f.more) (s.p.event ∷ s.more))
    ∙ got es f.p.event (f.more ++ s.p.event ∷ s.more) f.p.event in
    let two : slice_index_or (all ++ s.p.event ∷ s.more) (length all) f.p.event ≡ s.p.event =
    got all s.p.event s.more f.p.event in
    let long : length all ≡ length es + length (f.p.event ∷ f.more) =
    ap (λ (xs : List Event). length xs) f.events ∙ length-append es (f.p.event ∷ f.more) in
    let longer : length (air_at r configs file n).done
    ≡ length all + length (s.p.event ∷ s.more) =
    ap (λ (xs : List Event). length xs) s.events ∙ length-append all (s.p.event ∷ s.more) in
    let le = moments_never_fall r configs file n (length es) (length all) f.p.event
    (omega (arith, long)) (omega (arith, longer)) in
    let here = ap (λ (xs : List Event). (slice_index_or xs (length es) f.p.event).moment) s.events
    ∙ ap (λ (x : Event). x.moment) one ∙ ap (λ (x : Event). x.moment) (sym f.event) in
    let there = ap (λ (xs : List Event). (slice_index_or xs (length all) f.p.event).moment) s.events
    ∙ ap (λ (x : Event). x.moment) two ∙ ap (λ (x : Event). x.moment) (sym s.event) in
    omega (arith, le, here, there)
