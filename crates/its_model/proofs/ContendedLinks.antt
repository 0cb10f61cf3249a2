-- Over links that may be silenced a geobroadcast reaches.
use Rattle.std.proofs.Common.{◌≡◌, ◌≢◌, ◌⊎◌, ℕ, zero, suc, ◌+◌, ◌≤◌, ◌<◌, List, [], ◌∷◌, ◌++◌, length}
use Rattle.std.proofs.Common.{Bool, true, false, cond, not, eqb, Option, Some, None, refl, sym}
use Rattle.std.proofs.Common.{ap, subst, ◌∙◌, inl, inr, arith, append_assoc, length-append}
use Rattle.std.specs.Prelude.{slice_get}
use Rattle.its_gnvalue.specs.Values.{mid_of, broadcast}
use Rattle.its_model.specs.Packet.{Transmission, Message, number_in}
use Rattle.its_model.specs.Packet.AreaKind.{geobroadcast}
use Rattle.its_model.specs.Calls.{Refusal, Answer}
use Rattle.its_model.specs.Calls.Refusal.{TableFull}
use Rattle.its_model.specs.Calls.Why.{Duplicate, NotForMe, OwnSource, SenderMismatch}
use Rattle.its_model.specs.Calls.Answer.{Accepted}
use Rattle.its_model.specs.Station.{StationModel, Verdict, verdict, or_else, is_for, is_sender_wrong}
use Rattle.its_model.specs.Station.{is_repeated, moment_refusal, receive_step, receive_step_by}
use Rattle.its_model.specs.Station.Verdict.{Refuse, Ignore, Accept}
use Rattle.its_model.specs.Stations.{stations_at, is_full}
use Rattle.its_model.specs.World.{Config, Event, LogLine, What, WorldModel, at_station, asked}
use Rattle.its_model.specs.World.{delivery, entry_of, frame_of, world_run, world_step}
use Rattle.its_model.specs.World.What.{Calls, Deliver}
use Rattle.its_model.specs.Log.{origin_by, origins, sequence_number_at}
use Rattle.its_model.specs.Contention.{ContentionRule, wait}
use Rattle.its_model.specs.Contended.{Lot, ContendedWorld, CopyTest, Happening, opening_with, rule_in}
use Rattle.its_model.specs.Contended.{rule_at, contended_step, contended_run, erased, lot_after}
use Rattle.its_model.specs.Contended.{IsInTime, LeavesInTime}
use Rattle.its_model.specs.Contended.Lot.{SentAt, WaitsUntil, CancelledBy, DroppedAt}
use Rattle.its_model.specs.Contended.Happening.{Happens, Releases}
use Rattle.its_model.specs.Reach.{Geobroadcast, IsFrameOf, HasOwnAddress, HasOwnNumber}
use Rattle.its_model.specs.Reach.{ComesBy, IsFor, CameTo}
use Rattle.its_model.specs.Reach.ComesBy.{by_sending, by_accepting}
use Rattle.its_model.specs.SomeFrame.{SomeFrameComes, IsLedAlong, ReachesWhereSomeFrameComes}
use Rattle.its_model.specs.Overheard.{IsSentAgain, TestsCopies, HadLot}
use Rattle.its_model.specs.Overheard.{IsGivenFrom, IsToldAnyway, IsOverheard, AreOverheard}
use Rattle.its_model.specs.Overheard.{ReachesByContention}
use Rattle.its_model.specs.Overheard.IsToldAnyway.{by_copy, by_own, by_then}
use Rattle.its_model.proofs.Lists.{get_front, get_at, get_within}
use Rattle.its_model.proofs.NumberTests.{eq_test}
use Rattle.its_model.proofs.Sound.{Sound, EachNamed}
use Rattle.its_model.proofs.SoundRuns.{opening_sound, run_sound, step_keeps}
use Rattle.its_model.proofs.Longer.{origins_stay, at_station_grows, run_grows, same_end}
use Rattle.its_model.specs.Schedules.{Accepts}
use Rattle.its_model.proofs.ManyHops.{deeper_is, giving_accepts}
use Rattle.its_model.proofs.Givers.{origin_is, number_is, length_at}
use Rattle.its_model.proofs.Theorems.{area_number, fact_at}
use Rattle.its_model.proofs.Made.{first_same, rest_same, received}
use Rattle.its_model.proofs.Reaching.{Run, its_origin, first_frame, first_origin, frame_at_place, of_it, same_send}
use Rattle.its_model.proofs.Onward.{gave_inside, given_on, received_is}
use Rattle.its_model.proofs.Ways.{of_run}
use Rattle.its_model.proofs.SomeFrames.{reaches_where_some_frame_comes}
use Rattle.its_model.proofs.ContendedRuns.{contention_is_a_schedule}
use Rattle.its_model.proofs.ContenderPuts.{wait_greatest}
use Rattle.its_model.proofs.ContendedLots.{IsLeftAt, IsFirstLot, Counting, IsCounted}
use Rattle.its_model.proofs.ContendedLots.{AreCounted, as_many}
use Rattle.its_model.proofs.ContendedSteps.{RunSound, happening_steps, time_of}
use Rattle.its_model.proofs.ContendedSteps.{contended_sound, opening_is_known, run_on, rules_stay}
use Rattle.its_model.proofs.ContendedSteps.{any_counting, any_allowed, any_enough}

-- ---- when a line was made

-- an event's line is of it
delivery_line : (o : Option Transmission) (w : WorldModel) (e : Event) (s : StationModel)
    (line : LogLine) → (delivery w e s o).log ≡ line ∷ w.log → line.event ≡ e
delivery_line None w e s line is =
    sym (ap (λ (x : LogLine). x.event) (first_same _ line w.log w.log is))
delivery_line (Some t) w e s line is =
    sym (ap (λ (x : LogLine). x.event) (first_same _ line w.log w.log is))

asked_line : (what : What) (w : WorldModel) (e : Event) (s : StationModel) (line : LogLine)
    → (asked w e s what).log ≡ line ∷ w.log → line.event ≡ e
asked_line (Calls call) w e s line is =
    sym (ap (λ (x : LogLine). x.event) (first_same _ line w.log w.log is))
asked_line (Deliver k) w e s line is = delivery_line (slice_get w.air k) w e s line is

station_line : (o : Option StationModel) (w : WorldModel) (e : Event) (line : LogLine)
    → (at_station w e o).log ≡ line ∷ w.log → line.event ≡ e
station_line None w e line is =
    sym (ap (λ (x : LogLine). x.event) (first_same _ line w.log w.log is))
station_line (Some s) w e line is = asked_line e.what w e s line is

-- the line was made by an event of these happenings
record MadeBy (test : CopyTest) (cw : ContendedWorld) (happenings : List Happening)
    (line : LogLine) (before : List LogLine) : Type 0 where
  pub early : List Happening
  pub event : Event
  pub later : List Happening
  pub split : happenings ≡ early ++ Happens event ∷ later
  pub log : (contended_run test cw early).world.log ≡ before
  pub after : (world_step (contended_run test cw early).world event).log ≡ line ∷ before
  pub is_event : line.event ≡ event

same_or_less : (a b : ℕ) → a ≤ b → (a ≡ b) ⊎ (a < b)
same_or_less a b h = grind arith

made_by : (happenings : List Happening) (test : CopyTest) (cw : ContendedWorld)
    (later before : List LogLine) (line : LogLine)
    → (contended_run test cw happenings).world.log ≡ later ++ line ∷ before
    → length cw.world.log ≤ length before → MadeBy test cw happenings line before
made_by [] test cw later before line split le =
    let same : length cw.world.log ≡ length (later ++ line ∷ before) =
    ap (λ (xs : List LogLine). length xs) split in
    let more : length (later ++ line ∷ before) ≡ length later + suc (length before) =
    length-append later (line ∷ before) in
    absurd (omega (arith, le, same, more))
made_by (Releases j now ∷ happenings) test cw later before line split le =
    let next = contended_step test cw (Releases j now) in
    let world : next.world ≡ cw.world =
    contention_is_a_schedule (Releases j now ∷ []) test cw in
    let m = made_by happenings test next later before line split
    (subst (λ (w : WorldModel). length w.log ≤ length before) (sym world) le) in
    record {
      early = Releases j now ∷ m.early;
      event = m.event;
      later = m.later;
      split = ap (λ xs. Releases j now ∷ xs) m.split;
      log = m.log;
      after = m.after;
      is_event = m.is_event;
    }
made_by (Happens e ∷ happenings) test cw later before line split le =
    elim (same_or_less (length cw.world.log) (length before) le) [
      | inl same ↦ here same
      | inr less ↦ there (made_by happenings test (contended_step test cw (Happens e)) later before
          line split (omega (arith, less, longer)))
    ]
  where
    next : ContendedWorld
    next = contended_step test cw (Happens e)

    longer : length (world_step cw.world e).log ≡ suc (length cw.world.log)
    longer = ap (λ (xs : List LogLine). length xs)
        (at_station_grows (slice_get cw.world.stations e.station) cw.world e).log

    there : MadeBy test (contended_step test cw (Happens e)) happenings line before
        → MadeBy test cw (Happens e ∷ happenings) line before
    there m = record {
      early = Happens e ∷ m.early;
      event = m.event;
      later = m.later;
      split = ap (λ xs. Happens e ∷ xs) m.split;
      log = m.log;
      after = m.after;
      is_event = m.is_event;
    }

    here : length cw.world.log ≡ length before
        → MadeBy test cw (Happens e ∷ happenings) line before
    here same =
        let w = world_step cw.world e in
        let g = at_station_grows (slice_get cw.world.stations e.station) cw.world e in
        let grown = run_grows (erased happenings) w in
        let whole : (world_run w (erased happenings)).log ≡ later ++ line ∷ before =
        ap (λ (x : WorldModel). x.log)
        (sym (contention_is_a_schedule happenings test (contended_step test cw (Happens e))))
        ∙ split in
        let ends : w.log ≡ line ∷ before =
        same_end grown.lines later w.log (line ∷ before) (sym grown.log ∙ whole)
        (ap (λ (xs : List LogLine). length xs) g.log ∙ ap suc same) in
        let both : g.line ∷ cw.world.log ≡ line ∷ before = sym g.log ∙ ends in
        let rest : cw.world.log ≡ before = rest_same g.line line cw.world.log before both in
        record {
          early = [];
          event = e;
          later = happenings;
          split = refl;
          log = rest;
          after = ends;
          is_event = station_line (slice_get cw.world.stations e.station) cw.world e line
              (ends ∙ ap (λ xs. line ∷ xs) (sym rest));
        }

-- ---- the first lot of a frame

-- what is known of the world at any time of a run
pub world_sound : (test : CopyTest) (configs : List Config) (rules : List (Option ContentionRule))
    (happenings : List Happening)
    → Sound configs (contended_run test (opening_with configs rules) happenings).world
world_sound test configs rules happenings =
    subst (λ (w : WorldModel). Sound configs w)
    (sym (contention_is_a_schedule happenings test (opening_with configs rules)))
    (run_sound configs (erased happenings))

-- what is known of the lots
pub lots_sound : (test : CopyTest) (configs : List Config) (rules : List (Option ContentionRule))
    (happenings : List Happening)
    → RunSound (any_counting test) configs
    (contended_run test (opening_with configs rules) happenings)
lots_sound test configs rules happenings =
    let cw = opening_with configs rules in
    contended_sound happenings (any_counting test) configs cw (opening_sound configs)
    (λ early h later split. any_allowed h test) (any_enough test configs cw)
    (opening_is_known (any_counting test) configs rules)

-- the first lot that a frame had
record HadFirst (test : CopyTest) (cw : ContendedWorld) (happenings : List Happening)
    (line : LogLine) (k : ℕ) : Type 0 where
  pub lot : Lot
  pub had : HadLot test cw happenings k lot
  pub first : IsFirstLot (rule_at cw line.event.station) line.event.moment lot

first_lot : (test : CopyTest) (configs : List Config) (rules : List (Option ContentionRule))
    (happenings : List Happening) (later before : List LogLine) (line : LogLine) (k : ℕ)
    → (contended_run test (opening_with configs rules) happenings).world.log
    ≡ later ++ line ∷ before
    → frame_of line.entry ≡ Some k
    → HadFirst test (opening_with configs rules) happenings line k
first_lot test configs rules happenings later before line k split gives =
    let cw = opening_with configs rules in
    let m = made_by happenings test cw later before line split (omega arith) in
    let old = contended_run test cw m.early in
    let h = Happens m.event in
    let next = contended_step test old h in
    let w = (contended_run test cw happenings).world in
    let whole = world_sound test configs rules happenings in
    let sound = world_sound test configs rules m.early in
    let known = lots_sound test configs rules m.early in
    let then = step_keeps configs old.world m.event sound in
    let s = happening_steps h (any_counting test) configs old sound (any_allowed h test)
    (any_enough test configs old) known.even in
    let number : k ≡ length (origins before) =
    number_is w.log later before line k whole.names split gives in
    let count : length (origins before) ≡ length old.world.air =
    ap (λ (xs : List LogLine). length (origins xs)) (sym m.log) ∙ sound.frames.even in
    let named : EachNamed (line ∷ before) = subst EachNamed m.after then.names in
    let more : length next.world.air ≡ suc k =
    sym then.frames.even ∙ ap (λ (xs : List LogLine). length (origins xs)) m.after
    ∙ length_at line before k named.0 gives in
    let fresh = s.passes.fresh known.even (omega (arith, number, count, more)) in
    let place : length old.world.air ≡ k = sym count ∙ sym number in
    let there : slice_get next.lots k ≡ Some fresh.0 =
    ap (λ (xs : List Lot). slice_get xs k) s.lots
    ∙ ap (slice_get s.waiting.lots) (sym place) ∙ fresh.1 in
    let rule : rule_at old m.event.station ≡ rule_at cw line.event.station =
    ap (λ (xs : List (Option ContentionRule)). rule_in (slice_get xs m.event.station))
    (rules_stay m.early test cw)
    ∙ ap (λ (e : Event). rule_at cw e.station) (sym m.is_event) in
    record {
      lot = fresh.0;
      had = record {
        early = m.early ++ h ∷ [];
        later = m.later;
        split = m.split ∙ sym (append_assoc m.early (h ∷ []) m.later);
        was = ap (λ (x : ContendedWorld). slice_get x.lots k) (run_on m.early (h ∷ []) test cw)
            ∙ there;
      };
      first = subst (λ (x : Option ContentionRule).
          IsFirstLot x line.event.moment fresh.0) rule
          (subst (λ (e : Event). IsFirstLot (rule_at old m.event.station) e.moment fresh.0)
          (sym m.is_event) fresh.2);
    }

-- ---- what stays

-- a frame of an earlier time of the run is in its world
pub air_stays : (test : CopyTest) (cw : ContendedWorld) (happenings early later : List Happening)
    (k : ℕ) (t : Transmission)
    → happenings ≡ early ++ later
    → slice_get (contended_run test cw early).world.air k ≡ Some t
    → slice_get (contended_run test cw happenings).world.air k ≡ Some t
air_stays test cw happenings early later k t split at =
    let old = (contended_run test cw early).world in
    let grown = run_grows (erased later) old in
    let air : (contended_run test cw happenings).world.air ≡ old.air ++ grown.more =
    ap (λ xs. (contended_run test cw xs).world.air) split
    ∙ ap (λ (x : ContendedWorld). x.world.air) (run_on early later test cw)
    ∙ ap (λ (x : WorldModel). x.air)
    (contention_is_a_schedule later test (contended_run test cw early))
    ∙ grown.air in
    ap (λ xs. slice_get xs k) air ∙ get_front old.air grown.more k t at

-- one of several copies
pub copy_at : (senders frames : List ℕ) (n k sender : ℕ) (scope : Counting) (own : ℕ)
    (air : List Transmission) (t : Transmission)
    → AreCounted scope own air t senders frames → slice_get frames n ≡ Some k
    → slice_get senders n ≡ Some sender → IsCounted scope own air t sender k
copy_at [] frames n k sender scope own air t all is who = cc
copy_at (x ∷ senders) [] n k sender scope own air t all is who = cc
copy_at (x ∷ senders) (m ∷ frames) zero k sender scope own air t all is who =
    let same : m ≡ k = cc in
    let from : x ≡ sender = cc in
    subst (λ (i : ℕ). IsCounted scope own air t sender i) same
    (subst (λ (i : ℕ). IsCounted scope own air t i m) from all.0)
copy_at (x ∷ senders) (m ∷ frames) (suc n) k sender scope own air t all is who =
    copy_at senders frames n k sender scope own air t all.2 is who

-- there is one for each frame
pub some_copy : (senders frames : List ℕ) (n k : ℕ) (scope : Counting) (own : ℕ)
    (air : List Transmission) (t : Transmission)
    → AreCounted scope own air t senders frames → slice_get frames n ≡ Some k
    → (sender : ℕ) × IsCounted scope own air t sender k
some_copy senders frames n k scope own air t all is =
    let within : n < length senders =
    omega (arith, as_many senders frames scope own air t all, get_within frames n k is) in
    let who = get_at senders n within in (
      who.0,
      copy_at senders frames n k who.0 scope own air t all is who.1,
    )

-- ---- what was accepted was for its station

-- by the verdict
for_by : (m : Option Refusal) (a b c d f : Bool)
    → or_else m
    (cond (not a) (Ignore NotForMe)
    (cond b (Ignore OwnSource)
    (cond c (Ignore SenderMismatch)
    (cond d (Ignore Duplicate) (cond f (Refuse TableFull) Accept))))) ≡ Accept
    → a ≡ true
for_by (Some r) a b c d f h = cc
for_by None true b c d f h = refl
for_by None false b c d f h = cc

accepted_for : (s : StationModel) (moment : ℕ) (t : Transmission)
    → verdict s moment t ≡ Accept → is_for s t ≡ true
unfolding verdict
accepted_for s moment t h =
    for_by (moment_refusal s moment) (is_for s t) (eqb t.pdu.vector.address s.address)
    (is_sender_wrong t t.pdu.body)
    (is_repeated s.remember (number_in t.pdu.body) t.pdu.vector.address moment s.history)
    (is_full s.capacity t.pdu.vector.address (stations_at s.remember moment s.history)) h

-- by the entry
entry_for : (v : Verdict) (n : ℕ) (s : StationModel) (moment : ℕ) (t : Transmission)
    (entry : Answer ℕ) (handed : Option Message) (given : Option ℕ)
    → verdict s moment t ≡ v → entry ≡ Accepted handed given
    → entry ≡ entry_of n (receive_step_by s moment t v).answer → is_for s t ≡ true
entry_for (Refuse r) n s moment t entry handed given is e step = cc
entry_for (Ignore why) n s moment t entry handed given is e step = cc
entry_for Accept n s moment t entry handed given is e step = accepted_for s moment t is

received_for : (n : ℕ) (s : StationModel) (moment : ℕ) (t : Transmission) (entry : Answer ℕ)
    (handed : Option Message) (given : Option ℕ)
    → entry ≡ Accepted handed given
    → entry ≡ entry_of n (receive_step s moment t).answer → is_for s t ≡ true
unfolding receive_step
received_for n s moment t entry handed given e step =
    entry_for (verdict s moment t) n s moment t entry handed given refl e step

-- to it or to all
to_which : (s : StationModel) (t : Transmission) → is_for s t ≡ true
    → (t.link_target ≡ broadcast) ⊎ (t.link_target ≡ mid_of s.address)
to_which s t h =
    elim (eq_test t.link_target broadcast) [
      | inl all ↦ inl all.1
      | inr other ↦ elim (eq_test t.link_target (mid_of s.address)) [
        | inl own ↦ inr own.1
        | inr none ↦ cc (h, other.0, none.0)
      ]
    ]

-- what a station accepted is for it
accepts_for : (configs : List Config) (w : WorldModel) (j k : ℕ) (t : Transmission)
    (later before : List LogLine) (line : LogLine) (receiver : Config)
    → Run configs w → w.log ≡ later ++ line ∷ before → Accepts w line j k t
    → slice_get configs j ≡ Some receiver → IsFor receiver t
accepts_for configs w j k t later before line receiver run split a configured =
    let m = run.made later before line split in
    let r = received m.world line k m.step a.delivery (λ x e. cc (a.entry, e)) in
    let same : r.packet ≡ t = received_is configs w line before m k t r a.packet in
    let st = m.sound.each line.event.station r.station r.is_station in
    let is_receiver : slice_get configs j ≡ Some st.config =
    ap (slice_get configs) (sym a.station) ∙ st.is_config in
    let config : st.config ≡ receiver = cc (is_receiver, configured) in
    let address : r.station.address ≡ receiver.address =
    st.address ∙ ap (λ (c : Config). c.address) config in
    let mine = to_which r.station r.packet
    (received_for (length m.world.air) r.station line.event.moment r.packet line.entry a.handed
    a.relayed a.entry r.entry) in
    subst (λ (x : Transmission).
    (x.link_target ≡ broadcast) ⊎ (x.link_target ≡ mid_of receiver.address)) same
    (subst (λ (n : ℕ).
    (r.packet.link_target ≡ broadcast) ⊎ (r.packet.link_target ≡ mid_of n)) address mine)

-- what a station accepted came to it
by_acceptance : (configs : List Config) (w : WorldModel) (g : Geobroadcast w) (j k latest : ℕ)
    (t : Transmission) (later before : List LogLine) (line : LogLine) (receiver : Config)
    → Run configs w → w.log ≡ later ++ line ∷ before → Accepts w line j k t → IsFrameOf w g k
    → slice_get configs j ≡ Some receiver → line.event.moment ≤ latest
    → SomeFrameComes w g receiver j latest
by_acceptance configs w g j k latest t later before line receiver run split a of_send configured
    in_time =
    record {
      frame = k;
      packet = t;
      of_send = of_send;
      in_air = a.packet;
      is_for = accepts_for configs w j k t later before line receiver run split a configured;
      comes = record {
        later = later;
        line = line;
        before = before;
        split = split;
        station = a.station;
        delivers = record { delivery = a.delivery; not_refused = λ r e. cc (a.entry, e) };
        in_time = in_time;
      };
    }

-- what a station gave of it, which is not its sender, it accepted
gave_by : (what : What) (configs : List Config) (w : WorldModel) (g : Geobroadcast w)
    (j k latest : ℕ) (receiver : Config) (given : IsGivenFrom w j k)
    → Run configs w → j ≢ g.line.event.station → IsFrameOf w g k
    → slice_get configs j ≡ Some receiver → given.line.event.moment ≤ latest
    → given.line.event.what ≡ what → SomeFrameComes w g receiver j latest
gave_by (Calls call) configs w g j k latest receiver given run other of_send configured in_time
    what =
    let o = of_send.origin in
    let is = origin_is w.log given.later given.before given.line k run.sound.names given.split
    given.gives in
    let made : Some (record { event = given.line.event; before = given.before; depth = 0 })
    ≡ Some o =
    sym (is ∙ ap (λ x. origin_by x given.line.event given.before (origins given.before)) what)
    ∙ of_send.is in
    let event : given.line.event ≡ o.event = cc in
    absurd (other (sym given.station
    ∙ ap (λ (e : Event). e.station) (event ∙ (its_origin w g k o of_send.is of_send.at_place).0)))
gave_by (Deliver m) configs w g j k latest receiver given run other of_send configured in_time
    what =
    let o = of_send.origin in
    let is = origin_is w.log given.later given.before given.line k run.sound.names given.split
    given.gives in
    let p = deeper_is (slice_get (origins given.before) m) o
    (sym (is ∙ ap (λ x. origin_by x given.line.event given.before (origins given.before)) what)
    ∙ of_send.is) in
    let a = giving_accepts given.line.entry configs w.air given.line.event given.line.delivered
    given.before k m (fact_at configs w given.later given.before given.line run.sound given.split)
    what given.gives in
    let there : slice_get (origins w.log) m ≡ Some p.0 =
    subst (λ (xs : List LogLine). slice_get (origins xs) m ≡ Some p.0)
    (append_assoc given.later (given.line ∷ []) given.before ∙ sym given.split)
    (origins_stay (given.later ++ given.line ∷ []) given.before m p.0 p.1) in
    let packet = get_at w.air m
    (omega (arith, run.sound.frames.even, get_within (origins w.log) m p.0 there)) in
    by_acceptance configs w g j m latest packet.0 given.later given.before given.line receiver run
    given.split
    (record {
      handed = a.0;
      relayed = a.1;
      station = given.station;
      delivery = what;
      packet = packet.1;
      entry = a.2;
    }) (frame_at_place w g m p.0 there (p.2 ∙ of_send.at_place)) configured in_time

-- ---- a link

-- later is no harm
by_later : (w : WorldModel) (j k early late : ℕ) → early ≤ late → CameTo w j k early
    → CameTo w j k late
by_later w j k early late le came =
    record {
      later = came.later;
      line = came.line;
      before = came.before;
      split = came.split;
      station = came.station;
      delivers = came.delivers;
      in_time = omega (arith, le, came.in_time);
    }

-- it is reached by a frame that was sent
by_sent : (w : WorldModel) (g : Geobroadcast w) (receiver : Config) (j k early late : ℕ)
    (packet : Transmission)
    → early ≤ late → IsFrameOf w g k → slice_get w.air k ≡ Some packet
    → IsFor receiver packet × CameTo w j k early → SomeFrameComes w g receiver j late
by_sent w g receiver j k early late packet le of_send at came =
    record {
      frame = k;
      packet = packet;
      of_send = of_send;
      in_air = at;
      is_for = came.0;
      comes = by_later w j k early late le came.1;
    }

-- a copy of a frame of it is a frame of it
copy_is_of_it : (configs : List Config) (w : WorldModel) (g : Geobroadcast w) (k m own : ℕ)
    (t u : Transmission)
    → Sound configs w → HasOwnAddress configs g.line.event.station → HasOwnNumber w g
    → IsFrameOf w g k → slice_get w.air k ≡ Some t → slice_get w.air m ≡ Some u
    → IsSentAgain own t u → IsFrameOf w g m
copy_is_of_it configs w g k m own t u sound own_address own_number of_send at_k at_m again =
    let is = of_it configs w g k t of_send sound at_k in
    let n = sequence_number_at g.line.event.station g.before in
    let source : u.pdu.vector.address ≡ is.sender.address =
    ap (λ (x : Transmission). x.pdu.vector.address) again.same ∙ is.source in
    let body : number_in u.pdu.body ≡ Some n =
    ap (λ (x : Transmission). number_in x.pdu.body) again.same ∙ ap number_in is.body
    ∙ area_number geobroadcast n g.request.area g.request.message in
    same_send configs w g m u is.sender n sound own_address own_number at_m is.is_sender source body
    refl

-- from when the frame was sent or cancelled
by_lot : (lot : Lot) (test : CopyTest) (configs : List Config)
    (rules : List (Option ContentionRule)) (happenings : List Happening)
    → let cw = opening_with configs rules in
    let w = (contended_run test cw happenings).world in
    (g : Geobroadcast w) (greatest late delay i j k moment latest : ℕ) (packet : Transmission)
    (o : IsOverheard test configs rules happenings g greatest late delay i j)
    → Run configs w → HasOwnAddress configs g.line.event.station → HasOwnNumber w g
    → TestsCopies test w.air → IsGivenFrom w i k → IsFrameOf w g k
    → slice_get w.air k ≡ Some packet → HadLot test cw happenings k lot
    → IsLeftAt moment lot → moment + delay ≤ latest
    → SomeFrameComes w g o.receiver j latest
by_lot (SentAt m) test configs rules happenings g greatest late delay i j k moment latest packet o
    run own_address own_number tests given of_send at had left le =
    by_sent (contended_run test (opening_with configs rules) happenings).world g o.receiver j k
    (m + delay) latest packet (omega (arith, left, le)) of_send at
    (o.heard k m packet given of_send had at)
by_lot (WaitsUntil due) test configs rules happenings g greatest late delay i j k moment latest
    packet o run own_address own_number tests given of_send at had left le = absurd left
by_lot (DroppedAt m) test configs rules happenings g greatest late delay i j k moment latest packet
    o run own_address own_number tests given of_send at had left le =
    absurd (o.kept k m given of_send had)
by_lot (CancelledBy frames m) test configs rules happenings g greatest late delay i j k moment
    latest packet o run own_address own_number tests given of_send at had left le =
    told (o.silenced k m frames given of_send had)
  where
    cw : ContendedWorld
    cw = opening_with configs rules

    -- each copy is a frame of it, to all
    copied : (n c : ℕ) → slice_get frames n ≡ Some c
        → let w = (contended_run test (opening_with configs rules) happenings).world in
        IsFrameOf w g c × (u : Transmission) × (slice_get w.air c ≡ Some u)
        × (u.link_target ≡ broadcast)
    copied n c is =
        let w = (contended_run test (opening_with configs rules) happenings).world in
        let known = (lots_sound test configs rules had.early).lots k frames m had.was in
        let some = some_copy known.senders frames n c (any_counting test) known.own
        (contended_run test (opening_with configs rules) had.early).world.air known.packet
        known.copies is in
        let copy = some.1 in
        let at_k : slice_get w.air k ≡ Some known.packet =
        air_stays test (opening_with configs rules) happenings had.early had.later k known.packet
        had.split known.in_air in
        let at_c : slice_get w.air c ≡ Some copy.copy =
        air_stays test (opening_with configs rules) happenings had.early had.later c copy.copy
        had.split copy.in_air in
        let again = tests known.own k c known.packet copy.copy at_k at_c copy.tested in (
          copy_is_of_it configs w g k c known.own known.packet copy.copy run.sound own_address
              own_number of_send at_k at_c again,
          copy.copy,
          at_c,
          again.to_all,
        )

    told : IsToldAnyway (contended_run test (opening_with configs rules) happenings).world g j
        (m + delay) frames
        → SomeFrameComes (contended_run test (opening_with configs rules) happenings).world g
        o.receiver j latest
    told (by_copy n c is came) =
        let copy = copied n c is in
        by_sent (contended_run test (opening_with configs rules) happenings).world g o.receiver j c
        (m + delay) latest copy.1 (omega (arith, left, le)) copy.0 copy.2 (inl copy.3, came)
    told (by_own n c is given in_time) =
        let w = (contended_run test (opening_with configs rules) happenings).world in
        gave_by given.line.event.what configs w g j c latest o.receiver given run o.other
        (copied n c is).0 o.configured (omega (arith, left, le, in_time)) refl
    told (by_then line before f in_time) =
        let w = (contended_run test (opening_with configs rules) happenings).world in
        by_acceptance configs w g j f.frame latest f.packet f.later before line o.receiver run f.split
        f.accepts f.of_send o.configured (omega (arith, left, le, in_time))

-- how late a happening is that was in time
time_in_time : (h : Happening) (due late : ℕ) (later : List Happening) → IsInTime due late h later
    → time_of h ≤ due + late
time_in_time (Happens e) due late later is = is
time_in_time (Releases j now) due late later is = is.1

-- what a frame that waits becomes when it leaves its buffer in time
pub record LeftAs (test : CopyTest) (cw : ContendedWorld) (happenings : List Happening)
    (k latest : ℕ) : Type 0 where
  pub lot : Lot
  pub had : HadLot test cw happenings k lot
  pub moment : ℕ
  pub left : IsLeftAt moment lot
  pub in_time : moment ≤ latest

pub left_as : (test : CopyTest) (configs : List Config) (rules : List (Option ContentionRule))
    (happenings : List Happening) (late k due : ℕ)
    → LeavesInTime test (opening_with configs rules) happenings late k due
    → LeftAs test (opening_with configs rules) happenings k (due + late)
left_as test configs rules happenings late k due leaves =
    let cw = opening_with configs rules in
    let h = leaves.happening in
    let old = contended_run test cw leaves.before in
    let s = happening_steps h (any_counting test) configs old
    (world_sound test configs rules leaves.before) (any_allowed h test)
    (any_enough test configs old) (lots_sound test configs rules leaves.before).even in
    let e = s.passes.evolves k (WaitsUntil due) leaves.waited in
    let there : lot_after test cw (leaves.before ++ h ∷ []) k ≡ Some e.lot =
    ap (λ (x : ContendedWorld). slice_get x.lots k) (run_on leaves.before (h ∷ []) test cw)
    ∙ ap (λ (xs : List Lot). slice_get xs k) s.lots ∙ e.is in
    record {
      lot = e.lot;
      had = record {
        early = leaves.before ++ h ∷ [];
        later = leaves.later;
        split = leaves.split ∙ sym (append_assoc leaves.before (h ∷ []) leaves.later);
        was = there;
      };
      moment = time_of h;
      left = elim e.change [
        | inl same ↦ absurd (leaves.left (there ∙ ap Some same))
        | inr left ↦ left
      ];
      in_time = time_in_time h due late leaves.later leaves.in_time;
    }

-- from the line by which a station gave its frame
from_line : (test : CopyTest) (configs : List Config) (rules : List (Option ContentionRule))
    (happenings : List Happening)
    → let cw = opening_with configs rules in
    let w = (contended_run test cw happenings).world in
    (g : Geobroadcast w) (greatest late delay i j k : ℕ) (packet : Transmission)
    (o : IsOverheard test configs rules happenings g greatest late delay i j)
    → Run configs w → HasOwnAddress configs g.line.event.station → HasOwnNumber w g
    → TestsCopies test w.air → (given : IsGivenFrom w i k) → IsFrameOf w g k
    → slice_get w.air k ≡ Some packet
    → SomeFrameComes w g o.receiver j
    (given.line.event.moment + (greatest + late + delay))
from_line test configs rules happenings g greatest late delay i j k packet o run own_address
    own_number tests given of_send at =
    by_first first.lot first.had first.first
  where
    first : HadFirst test (opening_with configs rules) happenings given.line k
    first = first_lot test configs rules happenings given.later given.before given.line k
        given.split given.gives

    by_first : (lot : Lot) → HadLot test (opening_with configs rules) happenings k lot
        → IsFirstLot (rule_at (opening_with configs rules) given.line.event.station)
        given.line.event.moment lot
        → SomeFrameComes (contended_run test (opening_with configs rules) happenings).world g
        o.receiver j (given.line.event.moment + (greatest + late + delay))
    by_first lot had (inl sent) =
        let now = given.line.event.moment in
        by_lot (SentAt now) test configs rules happenings g greatest late delay i j k now
        (now + (greatest + late + delay)) packet o run own_address own_number tests given of_send at
        (subst (λ (x : Lot). HadLot test (opening_with configs rules) happenings k x) sent had) refl
        (omega arith)
    by_first lot had (inr waits) =
        let now = given.line.event.moment in
        let due = now + wait waits.0 waits.2 waits.1 in
        let rule : rule_at (opening_with configs rules) i ≡ Some waits.0 =
        ap (rule_at (opening_with configs rules)) (sym given.station) ∙ waits.3 in
        let most = wait_greatest waits.1 waits.0 waits.2 in
        let l = left_as test configs rules happenings late k due
        (o.served k due given of_send
        (subst (λ (x : Lot). HadLot test (opening_with configs rules) happenings k x) waits.4
        had)) in
        by_lot l.lot test configs rules happenings g greatest late delay i j k l.moment
        (now + (greatest + late + delay)) packet o run own_address own_number tests given of_send at
        l.had l.left
        (omega (arith, l.in_time, most, o.waits waits.0 rule))

-- from the line by which a station came by it
from_station : (test : CopyTest) (configs : List Config) (rules : List (Option ContentionRule))
    (happenings : List Happening)
    → let cw = opening_with configs rules in
    let w = (contended_run test cw happenings).world in
    (g : Geobroadcast w) (greatest late delay i j : ℕ)
    (o : IsOverheard test configs rules happenings g greatest late delay i j)
    → Run configs w → HasOwnAddress configs g.line.event.station → HasOwnNumber w g
    → TestsCopies test w.air → (line : LogLine) (before : List LogLine)
    → ComesBy w g i line before
    → SomeFrameComes w g o.receiver j (line.event.moment + (greatest + late + delay))
from_station test configs rules happenings g greatest late delay i j o run own_address own_number
    tests line before (by_sending station same_line same_before) =
    let w = (contended_run test (opening_with configs rules) happenings).world in
    let within : g.frame < length w.air =
    omega (
      arith,
      run.sound.frames.even,
      get_within (origins w.log) g.frame _ (first_origin w g configs run.sound),
    ) in
    let there = get_at w.air g.frame within in
    subst (λ (x : LogLine).
    SomeFrameComes w g o.receiver j (x.event.moment + (greatest + late + delay))) (sym same_line)
    (from_line test configs rules happenings g greatest late delay i j g.frame there.0 o run
    own_address own_number tests
    (record {
      later = g.later;
      line = g.line;
      before = g.before;
      split = g.split;
      station = sym station;
      gives = ap frame_of g.entry;
    }) (first_frame w g configs run.sound) there.1)
from_station test configs rules happenings g greatest late delay i j o run own_address own_number
    tests line before (by_accepting f) =
    let w = (contended_run test (opening_with configs rules) happenings).world in
    let gives = gave_inside configs w g i line before o.receiver (by_accepting f) run
    (o.hops line before f) (o.inside line before f) in
    let given = given_on configs w g i line before gives.frame (by_accepting f) run.sound
    gives.gives in
    from_line test configs rules happenings g greatest late delay i j gives.frame gives.packet o run
    own_address own_number tests
    (record {
      later = f.later;
      line = line;
      before = before;
      split = f.split;
      station = f.accepts.station;
      gives = gives.gives;
    }) (frame_at_place w g gives.frame given.origin given.is given.at_place) gives.in_air

-- ---- the law
leads_along : (path : List ℕ) (test : CopyTest) (configs : List Config)
    (rules : List (Option ContentionRule)) (happenings : List Happening)
    → let w = (contended_run test (opening_with configs rules) happenings).world in
    (g : Geobroadcast w) (greatest late delay i : ℕ)
    → Run configs w → HasOwnAddress configs g.line.event.station → HasOwnNumber w g
    → TestsCopies test w.air
    → AreOverheard test configs rules happenings g greatest late delay i path
    → IsLedAlong configs w g (greatest + late + delay) i path
leads_along [] test configs rules happenings g greatest late delay i run own_address own_number
    tests links = tt
leads_along (j ∷ path) test configs rules happenings g greatest late delay i run own_address
    own_number tests links = (
      record {
        receiver = links.0.receiver;
        configured = links.0.configured;
        other = links.0.other;
        comes = λ line before c. from_station test configs rules happenings g greatest late delay i j
            links.0 run own_address own_number tests line before c;
      },
      leads_along path test configs rules happenings g greatest late delay j run own_address own_number
          tests links.1,
    )

-- what is known of the world
contended_run_is : (test : CopyTest) (configs : List Config)
    (rules : List (Option ContentionRule)) (happenings : List Happening)
    → Run configs (contended_run test (opening_with configs rules) happenings).world
contended_run_is test configs rules happenings =
    subst (λ (w : WorldModel). Run configs w)
    (sym (contention_is_a_schedule happenings test (opening_with configs rules)))
    (of_run configs (erased happenings))

-- and of what some frame reaches there
reaches_there : (test : CopyTest) (configs : List Config) (rules : List (Option ContentionRule))
    (happenings : List Happening)
    → ReachesWhereSomeFrameComes configs
    (contended_run test (opening_with configs rules) happenings).world
reaches_there test configs rules happenings =
    subst (λ (w : WorldModel). ReachesWhereSomeFrameComes configs w)
    (sym (contention_is_a_schedule happenings test (opening_with configs rules)))
    (reaches_where_some_frame_comes configs (erased happenings))

pub reaches_by_contention : (test : CopyTest) (configs : List Config)
    (rules : List (Option ContentionRule)) (happenings : List Happening)
    → ReachesByContention test configs rules happenings
reaches_by_contention test configs rules happenings g greatest late delay path own_address
    own_number tests links =
    reaches_there test configs rules happenings geobroadcast g (greatest + late + delay) path
    own_address own_number
    (leads_along path test configs rules happenings g greatest late delay g.line.event.station
    (contended_run_is test configs rules happenings) own_address own_number tests links)
