-- Along a chain of stations that stand still and hear each other a geobroadcast reaches.
use Rattle.std.proofs.Common.{◌≡◌, ◌≢◌, ℕ, ◌+◌, ◌*◌, ◌<◌, ◌≤◌, List, [], ◌∷◌, ◌++◌}
use Rattle.std.proofs.Common.{length, Some, None, Option, Bool, true, false, cond, not}
use Rattle.std.proofs.Common.{refl, sym, ap, subst, ◌∙◌, arith, eqb}
use Rattle.std.specs.Prelude.{slice_get}
use Rattle.its_gnvalue.specs.Values.{mid_of}
use Rattle.its_model.specs.Packet.{Transmission, number_in}
use Rattle.its_model.specs.Packet.AreaKind.{geobroadcast}
use Rattle.its_model.specs.Stations.{is_full, stations_at}
use Rattle.its_model.specs.Calls.{Refusal}
use Rattle.its_model.specs.Calls.Refusal.{TableFull}
use Rattle.its_model.specs.Calls.Why.{Duplicate, NotForMe, OwnSource, SenderMismatch}
use Rattle.its_model.specs.Calls.Answer.{Refused}
use Rattle.its_model.specs.Station.{StationModel, Verdict, is_for, is_repeated, is_sender_wrong}
use Rattle.its_model.specs.Station.{last_moment, moment_refusal, or_else, receive_step}
use Rattle.its_model.specs.Station.{receive_step_by, verdict}
use Rattle.its_model.specs.Station.Verdict.{Accept, Ignore, Refuse}
use Rattle.its_model.specs.World.{Config, Event, LogLine, WorldModel, asked, at_station, delivery}
use Rattle.its_model.specs.World.{entry_of, frame_of, opening, world_run, world_step}
use Rattle.its_model.specs.World.What.{Deliver}
use Rattle.its_model.specs.Log.{origins}
use Rattle.its_model.specs.Reach.{Geobroadcast, ComesBy, ComesInOrder, CameTo, AreReached}
use Rattle.its_model.specs.Reach.ComesBy.{by_sending, by_accepting}
use Rattle.its_model.specs.Chain.{AddressesAreOwn, AreHeardFromInside, ChainsReach}
use Rattle.its_model.specs.Chain.{IsDelivered, IsHeardFromInside, MomentsNeverFall}
use Rattle.its_model.proofs.Lists.{get_at, get_within}
use Rattle.its_model.proofs.Sound.{EachNamed}
use Rattle.its_model.proofs.Steps.{no_moment_refusal}
use Rattle.its_model.proofs.Givers.{at_least, length_at, names_at}
use Rattle.its_model.proofs.LastMoments.{AreAllUpTo, all_up_to}
use Rattle.its_model.proofs.Made.{entry_is}
use Rattle.its_model.proofs.Reaching.{Run, frame_at_place}
use Rattle.its_model.proofs.Onward.{Onward, arrived, depth_by, gave_inside, given_on, reached}
use Rattle.its_model.proofs.Chains.{line_of, stands}
use Rattle.its_model.proofs.OwnNumbers.{numbers_are_own}
use Rattle.its_model.proofs.Room.{room_suffices}
use Rattle.its_model.proofs.Ways.{Sure, hops_at, no_deeper, of_run}

-- different MIDs are of different addresses
pub addresses_are_own : (configs : List Config) → AddressesAreOwn configs
addresses_are_own configs apart i j own other is_own is_other same =
    apart j i other own is_other is_own (ap mid_of same)

-- ---- a delivery in time to a station with room isn't refused
only_full : (m : Option Refusal) (a b c d f : Bool) (r : Refusal) → m ≡ None
    → or_else m
    (cond (not a) (Ignore NotForMe)
    (cond b (Ignore OwnSource)
    (cond c (Ignore SenderMismatch)
    (cond d (Ignore Duplicate) (cond f (Refuse TableFull) Accept))))) ≡ Refuse r
    → r ≡ TableFull
only_full (Some x) a b c d f r none h = cc
only_full None false b c d f r none h = cc
only_full None true true c d f r none h = cc
only_full None true false true d f r none h = cc
only_full None true false false true f r none h = cc
only_full None true false false false true r none h = cc
only_full None true false false false false r none h = cc

-- by the verdict
refused_by : (v : Verdict) (n : ℕ) (s : StationModel) (moment : ℕ) (t : Transmission) (r : Refusal)
    → entry_of n (receive_step_by s moment t v).answer ≡ Refused r → v ≡ Refuse r
refused_by (Refuse x) n s moment t r h = cc
refused_by (Ignore why) n s moment t r h = cc
refused_by Accept n s moment t r h = cc

-- what comes in time is refused for want of room only
full_only : (n : ℕ) (s : StationModel) (moment : ℕ) (t : Transmission) (r : Refusal)
    → s.clock ≤ moment → moment ≤ last_moment
    → entry_of n (receive_step s moment t).answer ≡ Refused r → r ≡ TableFull
unfolding receive_step verdict
full_only n s moment t r le small h =
    only_full (moment_refusal s moment) (is_for s t) (eqb t.pdu.vector.address s.address)
    (is_sender_wrong t t.pdu.body)
    (is_repeated s.remember (number_in t.pdu.body) t.pdu.vector.address moment s.history)
    (is_full s.capacity t.pdu.vector.address (stations_at s.remember moment s.history)) r
    (no_moment_refusal s moment le small)
    (refused_by (verdict s moment t) n s moment t r h)

-- a frame that there is, to a station that there is
not_refused : (configs : List Config) (w : WorldModel) (later before : List LogLine)
    (line : LogLine) (k : ℕ) (receiver : Config)
    → Run configs w → w.log ≡ later ++ line ∷ before → line.event.what ≡ Deliver k
    → slice_get configs line.event.station ≡ Some receiver → length configs ≤ receiver.capacity
    → k < length (origins before) → AreAllUpTo line.event.moment before
    → line.event.moment ≤ last_moment
    → (r : Refusal) → line.entry ≢ Refused r
not_refused configs w later before line k receiver run split what configured room given up small
    r refused =
    let m = run.made later before line split in
    let e = line.event in
    let s = get_at m.world.stations e.station
    (omega (arith, get_within configs e.station receiver configured, m.sound.count)) in
    let t = get_at m.world.air k
    (omega (arith, given, m.sound.frames.even, ap (λ xs. length (origins xs)) m.log)) in
    let same : world_step m.world e ≡ delivery m.world e s.0 (Some t.0) =
    ap (at_station m.world e) s.1 ∙ ap (asked m.world e s.0) what
    ∙ ap (delivery m.world e s.0) t.1 in
    let entry : line.entry
    ≡ entry_of (length m.world.air) (receive_step s.0 e.moment t.0).answer =
    entry_is line _ _ _ (ap (λ (x : WorldModel). x.log) (sym same) ∙ m.step) in
    let clock : s.0.clock ≤ e.moment =
    m.lasts e.station s.0 s.1 e.moment
    (subst (λ (xs : List LogLine). AreAllUpTo e.moment xs) (sym m.log) up) in
    let is : r ≡ TableFull =
    full_only (length m.world.air) s.0 e.moment t.0 r clock small (sym entry ∙ refused) in
    room_suffices configs w run later before line k receiver split what configured room
    (refused ∙ ap (λ (x : Refusal). Refused x) is)

-- a frame that a line gave is there after it
there_after : (w : WorldModel) (configs : List Config) (later between before : List LogLine)
    (line : LogLine) (k : ℕ)
    → Run configs w → w.log ≡ later ++ line ∷ before → frame_of line.entry ≡ Some k
    → k < length (origins (between ++ line ∷ before))
there_after w configs later between before line k run split gives =
    omega (
      arith,
      length_at line before k (names_at later line before
          (subst (λ (xs : List LogLine). EachNamed xs) split run.sound.names)) gives,
      at_least between (line ∷ before),
    )

-- so what was delivered came
came : (configs : List Config) (w : WorldModel) (j k moment : ℕ) (receiver : Config)
    (later before : List LogLine) (line : LogLine)
    → Run configs w → MomentsNeverFall w.log → moment ≤ last_moment
    → slice_get configs j ≡ Some receiver → length configs ≤ receiver.capacity
    → w.log ≡ later ++ line ∷ before → frame_of line.entry ≡ Some k
    → IsDelivered w (line ∷ before) j k moment → CameTo w j k moment
came configs w j k moment receiver later before line run never small configured room split gives
    d =
    let station : d.line.event.station ≡ j = ap (λ (x : Event). x.station) d.event in
    let at : d.line.event.moment ≡ moment = ap (λ (x : Event). x.moment) d.event in
    let what : d.line.event.what ≡ Deliver k = ap (λ (x : Event). x.what) d.event in
    record {
      later = d.later;
      line = d.line;
      before = d.between ++ line ∷ before;
      split = d.split;
      station = station;
      delivers = record {
        delivery = what;
        not_refused = not_refused configs w d.later (d.between ++ line ∷ before) d.line k receiver
            run d.split what (ap (slice_get configs) station ∙ configured) room
            (there_after w configs later d.between before line k run split gives)
            (all_up_to w.log d.later (d.between ++ line ∷ before) d.line never d.split)
            (omega (arith, at, small));
      };
      in_time = omega (arith, at);
    }

-- ---- along a chain
-- from a station that came by it to the one that hears it
next : (configs : List Config) (w : WorldModel) (g : Geobroadcast w) (delay end i j : ℕ)
    (line : LogLine) (before : List LogLine) (c : ComesBy w g i line before)
    → Sure configs w g → MomentsNeverFall w.log
    → end ≤ last_moment
    → depth_by c + 1 ≤ g.request.max_hops → line.event.moment + delay ≤ end
    → IsHeardFromInside configs w g delay end i j
    → Onward configs w g j (depth_by c) (line.event.moment + delay)
next configs w g delay end i j line before c sure never small enough in_time h =
    let hops = hops_at configs w g i line before c (depth_by c) sure (omega arith) enough in
    let l = line_of w g i line before c in
    let gives = gave_inside configs w g i line before h.receiver c sure.run hops
    (stands configs w g.request.area i l.later line before h.giver l.split) in
    let given = given_on configs w g i line before gives.frame c sure.run.sound gives.gives in
    let delivered = h.heard l.later before line gives.frame l.split l.station gives.gives in_time in
    let it = came configs w j gives.frame (line.event.moment + delay) h.receiver l.later before line
    sure.run never (omega (arith, in_time, small)) h.configured h.room l.split gives.gives
    delivered in
    record {
      frame = gives.frame;
      given = given;
      came = it;
      arrives = arrived configs w g j gives.frame (line.event.moment + delay) gives.packet
          h.receiver sure.run sure.own_address sure.own_number h.configured h.other
          (frame_at_place w g gives.frame given.origin given.is given.at_place) gives.in_air
          gives.is_for it;
    }

-- one link more takes one delay more
one_more : (n delay : ℕ) → (1 + n) * delay ≡ delay + n * delay
one_more n delay = grind arith

chain_reaches : (chain : List ℕ) (i depth delay end moment : ℕ) (line : LogLine)
    (before : List LogLine) (configs : List Config) (w : WorldModel) (g : Geobroadcast w)
    (c : ComesBy w g i line before)
    → Sure configs w g → MomentsNeverFall w.log → ComesInOrder w g → end ≤ last_moment
    → depth_by c ≤ depth → depth + length chain ≤ g.request.max_hops
    → line.event.moment ≤ moment → moment + length chain * delay ≤ end
    → AreHeardFromInside configs w g delay end i chain → AreReached configs w g delay moment chain
chain_reaches [] i depth delay end moment line before configs w g c sure never order small at
    enough le in_time heard = tt
chain_reaches (j ∷ chain) i depth delay end moment line before configs w g c sure never order small
    at enough le in_time heard =
    let more = one_more (length chain) delay in
    let time : moment + delay + length chain * delay ≤ end = omega (arith, in_time, more) in
    let o = next configs w g delay end i j line before c sure never small
    (omega (arith, at, enough)) (omega (arith, le, time)) heard.0 in
    let f = o.arrives.first.first in
    let deep = no_deeper o.arrives.first.between configs w g j (depth_by c)
    (line.event.moment + delay) o.arrives.first.line o.arrives.first.older o f sure order
    o.arrives.first.split in
    let soon : o.arrives.first.line.event.moment ≤ moment + delay =
    omega (arith, o.arrives.in_time, le) in (
      reached configs w g j (moment + delay) o.arrives.first.line o.arrives.first.older sure.run f
          soon,
      chain_reaches chain j (depth + 1) delay end (moment + delay) o.arrives.first.line
          o.arrives.first.older configs w g (by_accepting f) sure never order small
          (omega (arith, deep, at)) (omega (arith, enough)) soon time heard.1,
    )

pub chains_reach : (configs : List Config) (events : List Event)
    → ChainsReach configs (world_run (opening configs) events)
chains_reach configs events g delay end chain carried heard enough in_time small =
    let w = world_run (opening configs) events in
    chain_reaches chain g.line.event.station 0 delay end g.line.event.moment g.line g.before configs
    w g (by_sending refl refl refl)
    (record {
      run = of_run configs events;
      own_address = addresses_are_own configs carried.apart g.line.event.station;
      own_number = numbers_are_own w geobroadcast g carried.never_restarted carried.few;
    })
    carried.never_fell carried.in_order small (omega arith) (omega (arith, enough)) (omega arith)
    in_time heard
