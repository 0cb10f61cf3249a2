-- In an air that loses nothing, stations that stand in range hear each other.
use Rattle.std.proofs.Common.{◌≡◌, ℕ, zero, suc, ◌+◌, ◌≤◌, ◌<◌, List, [], ◌∷◌, ◌++◌, refl, sym, ap}
use Rattle.std.proofs.Common.{◌∙◌, arith, Bool, true, false, cond, subst, Option, Some, ◌⊎◌}
use Rattle.std.proofs.Common.{inl, inr, not, ◌&&◌, eqb}
use Rattle.std.specs.Prelude.{slice_get}
use Rattle.std.specs.List.{filter}
use Rattle.its_gnvalue.specs.Values.{Position}
use Rattle.its_model.specs.Calls.{Answer}
use Rattle.its_model.specs.Calls.Answer.{Accepted, Closed, Ignored, Moved, Opened, Quiet, Refused}
use Rattle.its_model.specs.Calls.Answer.{Restarted, Sent}
use Rattle.its_model.specs.Chain.{IsDelivered, AreHeardFromInside}
use Rattle.its_model.specs.Log.{moved_by, position_after, position_at}
use Rattle.its_model.specs.Reach.{has_moved, is_moved, Geobroadcast}
use Rattle.its_model.specs.Station.{StationModel}
use Rattle.its_model.specs.World.{Config, Event, LogLine, What, WorldModel, opening, world_run}
use Rattle.its_model.proofs.Linked.{chains_reach}
use Rattle.its_model.proofs.Lists.{get_at, get_within}
use Rattle.its_model.proofs.NumberTests.{eq_test, eqb_other, or_false}
use Rattle.its_model.proofs.SoundRuns.{run_sound}
use Rattle.sim_air_model.specs.Carried.{world_at, StationsInRangeHear, AreNextInside, AreThere}
use Rattle.sim_air_model.specs.Carried.{ReachesInAir}
use Rattle.sim_air_model.specs.Heard.{air_at, IsDone, IsHeard, world_after}
use Rattle.sim_air_model.specs.Range.{is_within}
use Rattle.sim_air_model.specs.Timetable.{Rules, Planned, AirModel, Filed, IsOver, delivery, given}
use Rattle.sim_air_model.specs.Timetable.{heard_from, hear_it, in_reach_of, heard_by, is_present}
use Rattle.sim_air_model.proofs.Heard.{what_is_heard_is_delivered}
use Rattle.sim_air_model.proofs.InLine.{frames_come_in_order}
use Rattle.sim_air_model.proofs.Lasting.{IsDropped, step_case}
use Rattle.sim_air_model.proofs.Logs.{made, world_next, line_next, logs_never_fall}

-- ---- where a station stands that never moved

not_moved : (entry : Answer ℕ) (what : What) (old : Position) → is_moved entry ≡ false
    → moved_by entry what old ≡ old
not_moved Moved what old h = cc
not_moved Opened what old h = refl
not_moved Closed what old h = refl
not_moved Restarted what old h = refl
not_moved Quiet what old h = refl
not_moved (Sent k) what old h = refl
not_moved (Ignored why) what old h = refl
not_moved (Accepted handed relayed) what old h = refl
not_moved (Refused r) what old h = refl

stays_by : (j : ℕ) (line : LogLine) (old : Position)
    → (eqb line.event.station j && is_moved line.entry) ≡ false → position_after j line old ≡ old
stays_by j line old h =
    elim (eq_test line.event.station j) [
      | inl e ↦ ap (λ b. cond b (moved_by line.entry line.event.what old) old) e.0
          ∙ not_moved line.entry line.event.what old
          (ap (λ b. b && is_moved line.entry) (sym e.0) ∙ h)
      | inr e ↦ ap (λ b. cond b (moved_by line.entry line.event.what old) old) e.0
    ]

stays : (start : Position) (j : ℕ) (log : List LogLine) → has_moved j log ≡ false
    → position_at start j log ≡ start
stays start j [] h = refl
stays start j (line ∷ before) h =
    let none = or_false (eqb line.event.station j && is_moved line.entry) (has_moved j before) h in
    stays_by j line (position_at start j before) none.0 ∙ stays start j before none.1

still_before : (later rest : List LogLine) (j : ℕ) → has_moved j (later ++ rest) ≡ false
    → has_moved j rest ≡ false
still_before [] rest j h = h
still_before (line ∷ later) rest j h =
    still_before later rest j
    (or_false (eqb line.event.station j && is_moved line.entry) (has_moved j (later ++ rest)) h).1

-- a station that there is, and its place
abbrev Stood : List Config → List Event → ℕ → Config → Type 0
Stood configs es j c =
    (s : StationModel) × (slice_get (world_run (opening configs) es).stations j ≡ Some s)
    × (s.vector.place ≡ c.place)

stood : (configs : List Config) (es : List Event) (j : ℕ) (c : Config)
    → slice_get configs j ≡ Some c → has_moved j (world_run (opening configs) es).log ≡ false
    → Stood configs es j c
stood configs es j c is still =
    let sound = run_sound configs es in
    let w = world_run (opening configs) es in
    let s = get_at w.stations j (omega (arith, sound.count, get_within configs j c is)) in
    let each = sound.each j s.0 s.1 in
    let both : Some each.config ≡ Some c = sym each.is_config ∙ is in
    let same : each.config ≡ c = cc in (
      s.0,
      s.1,
      each.place ∙ stays each.config.place j w.log still ∙ ap (λ (x : Config). x.place) same,
    )

-- ---- who hears it

heard_at : (range giver n m i : ℕ) (place : Position) (stations : List StationModel)
    (s : StationModel) → slice_get stations i ≡ Some s → m ≡ n + i → eqb m giver ≡ false
    → is_within range place s.vector.place ≡ true
    → (k : ℕ) × (slice_get (heard_from range giver place n stations) k ≡ Some m)
heard_at range giver n m i place [] s at' is other near = let no : ⊥ = cc in absurd no
heard_at range giver n m zero place (x ∷ stations) s at' is other near =
    let same : x ≡ s = cc in
    let number : n ≡ m = omega (arith, is) in
    let test : (not (eqb n giver) && is_within range place x.vector.place) ≡ true =
    ap (λ (l : ℕ). not (eqb l giver) && is_within range place x.vector.place) number
    ∙ ap (λ (b : Bool). not b && is_within range place x.vector.place) other
    ∙ ap (λ (y : StationModel). is_within range place y.vector.place) same ∙ near in (
      0,
      subst (λ (b : Bool). slice_get (cond b (n ∷ heard_from range giver place (n + 1) stations)
          (heard_from range giver place (n + 1) stations)) 0 ≡ Some m) (sym test)
          (ap (λ (l : ℕ). Some l) number),
    )
heard_at range giver n m (suc i) place (x ∷ stations) s at' is other near =
    by (not (eqb n giver) && is_within range place x.vector.place)
    (heard_at range giver (n + 1) m i place stations s at' (omega (arith, is)) other near)
  where
    rest : List ℕ
    rest = heard_from range giver place (n + 1) stations

    by : (b : Bool) → (k : ℕ) × (slice_get rest k ≡ Some m)
        → (k : ℕ) × (slice_get (cond b (n ∷ rest) rest) k ≡ Some m)
    by true r = (suc r.0, r.1)
    by false r = (r.0, r.1)

-- one that passes is among those that are filtered
kept_at : (p : ℕ → Bool) (xs : List ℕ) (i j : ℕ) → slice_get xs i ≡ Some j → p j ≡ true
    → (k : ℕ) × (slice_get (filter p xs) k ≡ Some j)
kept_at p [] i j is passes = let no : ⊥ = cc in absurd no
kept_at p (x ∷ xs) zero j is passes =
    let same : x ≡ j = cc in
    let test : p x ≡ true = ap p same ∙ passes in (
      0,
      subst (λ (b : Bool). slice_get (cond b (x ∷ filter p xs) (filter p xs)) 0 ≡ Some j) (sym test)
          (ap (λ (l : ℕ). Some l) same),
    )
kept_at p (x ∷ xs) (suc i) j is passes = by (p x) (kept_at p xs i j is passes)
  where
    by : (b : Bool) → (k : ℕ) × (slice_get (filter p xs) k ≡ Some j)
        → (k : ℕ) × (slice_get (cond b (x ∷ filter p xs) (filter p xs)) k ≡ Some j)
    by true r = (suc r.0, r.1)
    by false r = (r.0, r.1)

-- who is in reach hears, where both are present
heard_of : (range : ℕ) (present : List Bool) (w : WorldModel) (giver i j : ℕ)
    → is_present present giver ≡ true → is_present present j ≡ true
    → slice_get (in_reach_of range w giver) i ≡ Some j
    → (k : ℕ) × (slice_get (heard_by range present w giver) k ≡ Some j)
heard_of range present w giver i j giver_there there at' =
    let k = kept_at (is_present present) (in_reach_of range w giver) i j at' there in (
      k.0,
      subst (λ (b : Bool). slice_get
          (cond b (filter (is_present present) (in_reach_of range w giver)) []) k.0 ≡ Some j)
          (sym giver_there) k.1,
    )

-- ---- logs

logs_grow : (r : Rules) (configs : List Config) (file : List Filed) (n d end : ℕ) → end ≡ d + n
    → (lines : List LogLine)
    × ((world_at r configs file end).log ≡ lines ++ (world_at r configs file n).log)
logs_grow r configs file n zero end is =
    let same : end ≡ n = omega (arith, is) in
    ([], ap (λ (m : ℕ). (world_at r configs file m).log) same)
logs_grow r configs file n (suc d) end is =
    by (step_case r configs file (d + n)) (logs_grow r configs file n d (d + n) refl)
  where
    last : (world_at r configs file end).log ≡ (world_at r configs file (suc (d + n))).log
    last =
        let same : end ≡ suc (d + n) = omega (arith, is) in
        ap (λ (m : ℕ). (world_at r configs file m).log) same

    by : (air_at r configs file (suc (d + n)) ≡ air_at r configs file (d + n))
        ⊎ (IsDropped r configs file (d + n) ⊎ ((p : Planned) × IsDone r configs file (d + n) p))
        → (lines : List LogLine)
        × ((world_at r configs file (d + n)).log ≡ lines ++ (world_at r configs file n).log)
        → (lines : List LogLine)
        × ((world_at r configs file end).log ≡ lines ++ (world_at r configs file n).log)
    by (inl same) g = (
      g.0,
      last ∙ ap (λ (a : AirModel). (world_run (opening configs) a.done).log) same ∙ g.1,
    )
    by (inr (inl dropped)) g = (
      g.0,
      last ∙ ap (λ (es : List Event). (world_run (opening configs) es).log) dropped.done ∙ g.1,
    )
    by (inr (inr done)) g =
        let one = line_next r configs file (d + n) done.0 in (
          one.0 ∷ g.0,
          last
              ∙ ap (λ (w : WorldModel). w.log)
              (world_next r configs file (d + n) done.0 done.1)
              ∙ one.1 ∙ ap (λ (xs : List LogLine). one.0 ∷ xs) g.1,
        )

up_to : (r : Rules) (configs : List Config) (file : List Filed) (n end : ℕ) → n ≤ end
    → (lines : List LogLine)
    × ((world_at r configs file end).log ≡ lines ++ (world_at r configs file n).log)
up_to r configs file n end le =
    let d = less n end le in logs_grow r configs file n d.0 end d.1
  where
    less : (a b : ℕ) → a ≤ b → (d : ℕ) × (b ≡ d + a)
    less zero b le = (b, omega arith)
    less (suc a) zero le = absurd (omega (arith, le))
    less (suc a) (suc b) le =
        let d = less a b (omega (arith, le)) in
        let is = d.1 in (d.0, omega (arith, is))

-- ---- what is delivered

-- by a later step it is delivered
delivered : (r : Rules) (configs : List Config) (file : List Filed) (end n m k j : ℕ) (p : Planned)
    (moment : ℕ) (line : LogLine) (before : List LogLine) → n < m → m < end
    → IsDone r configs file n p → (world_after r configs file n p).log ≡ line ∷ before
    → IsDone r configs file m (delivery k moment j)
    → IsDelivered (world_at r configs file end) (line ∷ before) j k moment
delivered r configs file end n m k j p moment line before lt below done after d =
    let q = delivery k moment j in
    let one = line_next r configs file m q in
    let between = up_to r configs file (suc n) m (omega (arith, lt)) in
    let later = up_to r configs file (suc m) end (omega (arith, below)) in
    record {
      later = later.0;
      line = one.0;
      between = between.0;
      split = later.1 ∙ ap (λ (xs : List LogLine). later.0 ++ xs)
          (ap (λ (w : WorldModel). w.log) (world_next r configs file m q d) ∙ one.1
          ∙ ap (λ (xs : List LogLine). one.0 ∷ xs)
          (between.1 ∙ ap (λ (xs : List LogLine). between.0 ++ xs)
          (ap (λ (w : WorldModel). w.log) (world_next r configs file n p done) ∙ after)));
      event = one.2;
    }

pub stations_in_range_hear : (r : Rules) (configs : List Config) (file : List Filed)
    → StationsInRangeHear r configs file
stations_in_range_hear r configs file end i j lossless over i_there j_there h later before line k
    split station gives due =
    let s = made r configs file end later before line split in
    let es = (air_at r configs file s.n).done ++ s.p.event ∷ [] in
    let w = world_after r configs file s.n s.p in
    let giver = stood configs es i h.giver h.is_giver
    (ap (has_moved i) s.after
    ∙ still_before later (line ∷ before) i (ap (has_moved i) (sym split) ∙ h.giver_stands)) in
    let receiver = stood configs es j h.receiver h.is_receiver
    (ap (has_moved j) s.after
    ∙ still_before later (line ∷ before) j (ap (has_moved j) (sym split) ∙ h.receiver_stands)) in
    let near : is_within r.range giver.0.vector.place receiver.0.vector.place ≡ true =
    ap (λ (x : Position). is_within r.range x receiver.0.vector.place) giver.2
    ∙ ap (λ (x : Position). is_within r.range h.giver.place x) receiver.2 ∙ h.near in
    let differ : eqb j i ≡ false = eqb_other i j (λ e. h.other (sym e)) in
    let heard = heard_at r.range i 0 j j giver.0.vector.place w.stations receiver.0 receiver.1
    (omega arith) differ near in
    let in_reach : slice_get (in_reach_of r.range w i) heard.0 ≡ Some j =
    ap (λ (o : Option StationModel). slice_get (hear_it r.range w.stations i o) heard.0) giver.1
    ∙ heard.1 in
    let present = (air_at r configs file s.n).present in
    let there = heard_of r.range present w i heard.0 j (i_there s.n) (j_there s.n) in_reach in
    let from : i ≡ s.p.event.station = sym station ∙ ap (λ (e : Event). e.station) s.event in
    let moment : s.p.event.moment ≡ line.event.moment =
    ap (λ (e : Event). e.moment) (sym s.event) in
    let is_heard : IsHeard r configs file s.n s.p k j = record {
      done = s.done;
      gives = ap given s.after ∙ gives;
      place = there.0;
      giver_present = subst (λ (n : ℕ). is_present present n ≡ true) from (i_there s.n);
      present = j_there s.n;
      in_range = subst (λ (n : ℕ). slice_get (heard_by r.range present w n) there.0 ≡ Some j) from
          there.1;
      is_kept = omega (arith, lossless);
    } in
    let d = what_is_heard_is_delivered r configs file end s.n k j s.p over is_heard
    (omega (arith, due, moment)) in
    subst (λ (m : ℕ). IsDelivered (world_at r configs file end) (line ∷ before) j k (m + r.delay))
    moment
    (delivered r configs file end s.n d.0 k j s.p (s.p.event.moment + r.delay) line before d.1 d.2
    s.done s.after d.3)

-- ---- chains

heard_from_inside : (chain : List ℕ) (r : Rules) (configs : List Config) (file : List Filed)
    (end i : ℕ) (g : Geobroadcast (world_at r configs file end)) → r.loss ≡ 0
    → IsOver r (air_at r configs file end)
    → AreThere r configs file (i ∷ chain)
    → AreNextInside r configs (world_at r configs file end) g i chain
    → AreHeardFromInside configs (world_at r configs file end) g r.delay r.until i chain
heard_from_inside [] r configs file end i g lossless over there h = tt
heard_from_inside (j ∷ chain) r configs file end i g lossless over there h =
    let one = h.0 in (
      record {
        giver = record {
          config = one.in_range.giver;
          configured = one.in_range.is_giver;
          inside = one.inside;
          still = one.in_range.giver_stands;
        };
        receiver = one.in_range.receiver;
        configured = one.in_range.is_receiver;
        room = one.room;
        other = one.not_sender;
        heard = stations_in_range_hear r configs file end i j lossless over there.0 there.1.0
            one.in_range;
      },
      heard_from_inside chain r configs file end j g lossless over there.1 h.1,
    )

pub reaches_in_air : (r : Rules) (configs : List Config) (file : List Filed)
    → ReachesInAir r configs file
reaches_in_air r configs file end g chain none lossless over small apart never_restarted few there
    next enough in_time =
    chains_reach configs (air_at r configs file end).done g r.delay r.until chain
    (record {
      apart = apart;
      never_restarted = never_restarted;
      few = few;
      never_fell = logs_never_fall r configs file end;
      in_order = λ later between older first second k m split one two of_k of_m.
          frames_come_in_order r configs file none end later between older first second k m split
          one.delivery two.delivery;
    })
    (heard_from_inside chain r configs file end g.line.event.station g lossless over there next)
    enough in_time small
