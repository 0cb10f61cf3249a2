-- The frames of a unit that contends are late or lost, and no more; and the units of a fleet act as
-- units do.
use Rattle.std.proofs.Common.{◌≡◌, ◌≢◌, ◌⊎◌, ◌+◌, ℕ, zero, suc, List, [], ◌∷◌, ◌++◌, map, length, Bool}
use Rattle.std.proofs.Common.{true, false, cond, Option, Some, None, is_some, refl, sym, ap, subst, ◌∙◌}
use Rattle.std.proofs.Common.{inl, inr, eqb, arith, take, drop}
use Rattle.std.specs.Prelude.{nat_le, slice_get, slice_set}
use Rattle.std.specs.Option.{option_map}
use Rattle.std.proofs.lemmas.Bool.{false≢true}
use Rattle.std.proofs.lemmas.Bool.Decides.{nat_tests}
use Rattle.std.proofs.lemmas.Option.{none-some, same_Some}
use Rattle.its_gnvalue.specs.Values.{mid_of}
use Rattle.its_model.specs.Packet.{Message, Transmission}
use Rattle.its_model.specs.Calls as model
use Rattle.its_model.specs.Calls.{Answer, Refusal}
use Rattle.its_model.specs.Contention.{Fate, HeldFrame, first_due, kept_at, late_after, place_due}
use Rattle.its_model.specs.Station.{StationModel, Step, moment_refusal}
use Rattle.its_model.specs.World as world
use Rattle.its_model.specs.World.{Config, station_of, with_one_more}
use Rattle.its_model.proofs.Lists.{get_set, get_snoc}
use Rattle.its_contention.specs.Buffer.{Buffer, after_drop, after_late}
use Rattle.its_contention.specs.Waiting.{Waiting}
use Rattle.its_governor.specs.declared.governor.Governor.{Governor}
use Rattle.its_governor.specs.declared.receiver.Receiver.{Receiver}
use Rattle.its_governor.specs.Governing.{governed, is_repeated_in, kept, passed_in}
use Rattle.its_unit.specs.Contending.{after_due_frame, at_once, fate_in, has_room_for_due, left_in}
use Rattle.its_unit.specs.Runs.{UnitAct, UnitCallAt, after_act, is_withheld, unit_acts}
use Rattle.its_unit.specs.Unit.{UnitModel, answer_by, frame_of, left_step, octets_in, passed_step}
use Rattle.its_unit.specs.Unit.{receiver_of, refused_step, step_within, unit_step}
use Rattle.its_unit.specs.Fleets.{NumberedFrame, numbered, frame_passed, FleetWhat, FleetEvent}
use Rattle.its_unit.specs.Fleets.{FleetModel, new_fleet, Asked, asked, at_unit, called_if, fleet_run}
use Rattle.its_unit.specs.Fleets.{fleet_step, happened}
use Rattle.its_unit.specs.FleetLaws.{AreAmong, IsIn, IsLateOrLost, AreNewUnits}
use Rattle.its_unit.specs.Holding.{AreFramesOf, AreNewContending, HoldingUnit}
use Rattle.its_unit.specs.Holding.{NothingWaits, ReleasedFrame, UnitsAct, UnitsHoldFrames, act_at}
use Rattle.its_unit.specs.Holding.{acts_by, acts_of, frame_there, frames_accepting, frames_after}
use Rattle.its_unit.specs.Holding.{frames_by_fate, frames_calling, frames_first, frames_hearing}
use Rattle.its_unit.specs.Holding.{frames_in_time, frames_left, frames_or, frames_owning}
use Rattle.its_unit.specs.Holding.{frames_receiving, frames_released, frames_released_by}
use Rattle.its_unit.specs.Holding.{frames_released_of, frames_without, holding, holding_kind, kept_with}
use Rattle.its_unit.specs.Holding.{waits_on}
use Rattle.its_unit.proofs.Acts.{released_station}
use Rattle.its_unit.proofs.FleetFrames.{get_more}
use Rattle.its_unit.proofs.FleetUnits.{answer_withheld, get_other, get_same, part_frame}
use Rattle.its_unit.proofs.FleetUnits.{station_by}
use Rattle.its_unit.proofs.Fleets.{none_is_in}
use Rattle.its_unit.proofs.Holding.{called_keeps, released_keeps}
use Rattle.its_unit.proofs.Runs.{station_runs}

-- ---- frames among others

abbrev Among : List NumberedFrame → List NumberedFrame → Type 0
Among xs ys = AreAmong xs ys

in_more : (y : NumberedFrame) (ys : List NumberedFrame) (x : NumberedFrame) → IsIn ys x
    → IsIn (y ∷ ys) x
in_more y ys x is = (suc is.0, is.1)

-- an element of a list with one more in front
in_first : (y : NumberedFrame) (ys zs : List NumberedFrame) (x : NumberedFrame)
    → (IsIn ys x → IsIn zs x) → IsIn (y ∷ ys) x → IsIn (y ∷ zs) x
in_first y ys zs x rest is = by is.0 is.1
  where
    by : (k : ℕ) → slice_get (y ∷ ys) k ≡ Some x → IsIn (y ∷ zs) x
    by zero at = (0, at)
    by (suc k) at = in_more y zs x (rest (k, at))

among_kept : {X : Type 0} (test : X → Bool) (xs : List X) (frames : List NumberedFrame)
    → Among (kept_with test xs frames) frames
among_kept test [] frames x is = absurd (none_is_in x is)
among_kept test (h ∷ xs) [] x is = absurd (none_is_in x is)
among_kept test (h ∷ xs) (f ∷ frames) x is = by (test h) (among_kept test xs frames x) is
  where
    by : (b : Bool) → (IsIn (kept_with test xs frames) x → IsIn frames x)
        → IsIn (cond b (f ∷ kept_with test xs frames) (kept_with test xs frames)) x
        → IsIn (f ∷ frames) x
    by true rest is = in_first f (kept_with test xs frames) frames x rest is
    by false rest is = in_more f frames x (rest is)

among_removed : (k : ℕ) (frames : List NumberedFrame)
    → Among (take k frames ++ drop (suc k) frames) frames
among_removed zero [] x is = is
among_removed (suc k) [] x is = is
among_removed zero (f ∷ frames) x is = in_more f frames x is
among_removed (suc k) (f ∷ frames) x is =
    in_first f (take k frames ++ drop (suc k) frames) frames x (among_removed k frames x) is

-- with one that is among them
among_one : (xs ys : List NumberedFrame) (o : Option NumberedFrame) → Among xs ys
    → ((f : NumberedFrame) → o ≡ Some f → IsIn ys f) → Among (with_one_more xs o) ys
among_one xs ys None all one = all
among_one xs ys (Some f) all one = λ x is. by x (get_snoc xs f is.0 x is.1)
  where
    by : (x : NumberedFrame) {k : ℕ} → (slice_get xs k ≡ Some x) ⊎ ((k ≡ length xs) × (f ≡ x))
        → IsIn ys x
    by x (inl at) = all x (_, at)
    by x (inr at) = subst (IsIn ys) at.1 (one f refl)

-- the first of both, and of one of them the last
among_more : (xs ys : List NumberedFrame) (o : Option NumberedFrame) → Among xs ys
    → Among xs (with_one_more ys o)
among_more xs ys o all x is =
    let at = all x is in (at.0, get_more ys o at.0 x at.1)

last_in : (ys : List NumberedFrame) (f : NumberedFrame) → IsIn (ys ++ f ∷ []) f
last_in [] f = (0, refl)
last_in (y ∷ ys) f = in_more y (ys ++ f ∷ []) f (last_in ys f)

one_in : (ys : List NumberedFrame) (o : Option NumberedFrame) (f : NumberedFrame) → o ≡ Some f
    → IsIn (with_one_more ys o) f
one_in ys None f e = absurd (none-some f e)
one_in ys (Some g) f e = subst (IsIn (ys ++ g ∷ [])) (same_Some g f e) (last_in ys g)

-- fewer frames, and what is sent is what was made, or nothing
among_both : (n : ℕ) (xs ys : List NumberedFrame) (sent made : Option Transmission) → Among xs ys
    → (sent ≡ None) ⊎ (sent ≡ made)
    → Among (with_one_more xs (numbered n sent)) (with_one_more ys (numbered n made))
among_both n xs ys sent made all part =
    among_one xs (with_one_more ys (numbered n made)) (numbered n sent)
    (among_more xs ys (numbered n made) all) (one part)
  where
    one : (sent ≡ None) ⊎ (sent ≡ made) → (f : NumberedFrame) → numbered n sent ≡ Some f
        → IsIn (with_one_more ys (numbered n made)) f
    one (inl none) f e = absurd (none-some f (sym (ap (numbered n) none) ∙ e))
    one (inr same) f e = one_in ys (numbered n made) f (sym (ap (numbered n) same) ∙ e)

-- ---- a call

-- what passes of an answer without a frame has none
pub none_passes : (rep : Bool) (g : Governor) (r : Receiver) (now : ℕ) (t : Transmission)
    (handed : Option Message)
    → frame_passed (answer_by rep (governed g r now (Some t) (model.Answer.Accepted handed None)))
    ≡ None
none_passes true g r now t handed = refl
none_passes false g r now t handed =
    by ((passed_in g r now (Some t) (is_some handed) false).forwards)
  where
    by : (b : Bool) → kept {A = Transmission} b None ≡ None
    by true = refl
    by false = refl

-- the frame of an accepted packet goes on
accepting_among : (n : ℕ) (o : Option (Buffer Waiting)) (g : Governor) (r : Receiver)
    (s : StationModel) (now : ℕ) (t : Transmission) (handed : Option Message)
    (relayed : Option Transmission) (frames : List NumberedFrame) (rep : Bool)
    → let sent = frame_passed (answer_by rep (governed g r now (Some t)
    (left_in o (Some g) s now (Some t) (model.Answer.Accepted handed relayed)))) in
    (sent ≡ None) ⊎ (sent ≡ relayed)
    → Among (with_one_more (frames_accepting n o g s now t relayed frames) (numbered n sent))
    (with_one_more frames (numbered n relayed))
accepting_among n None g r s now t handed relayed frames rep part =
    among_both n frames frames _ relayed (λ x is. is) part
accepting_among n (Some b) g r s now t handed None frames rep part =
    among_both n frames frames _ None (λ x is. is) part
accepting_among n (Some b) g r s now t handed (Some relay) frames rep part =
    by (fate_in b (Some g) s now t (Some relay)) part
  where
    new : NumberedFrame
    new = record { number = n; frame = relay }

    by : (f : Fate)
        → let sent = frame_passed (answer_by rep (governed g r now (Some t)
        (model.Answer.Accepted handed (at_once (Some relay) f)))) in
        (sent ≡ None) ⊎ (sent ≡ Some relay)
        → Among (with_one_more (frames_by_fate frames new f) (numbered n sent)) (frames ++ new ∷ [])
    by (Fate.Waits due) part =
        subst (λ (sent : Option Transmission).
        Among (with_one_more (frames ++ new ∷ []) (numbered n sent)) (frames ++ new ∷ []))
        (sym (none_passes rep g r now t handed)) (λ x is. is)
    by Fate.Goes part = among_both n frames frames _ (Some relay) (λ x is. is) part
    by Fate.Stays part = among_both n frames frames _ (Some relay) (λ x is. is) part

-- what waits after an own call waited before
owning_among : (a : Answer Transmission) (frames : List NumberedFrame)
    → Among (frames_owning a frames) frames
owning_among model.Answer.Restarted frames = λ x is. absurd (none_is_in x is)
owning_among (model.Answer.Accepted handed relayed) frames = λ x is. is
owning_among (model.Answer.Ignored why) frames = λ x is. is
owning_among (model.Answer.Sent sent) frames = λ x is. is
owning_among model.Answer.Moved frames = λ x is. is
owning_among model.Answer.Opened frames = λ x is. is
owning_among model.Answer.Closed frames = λ x is. is
owning_among model.Answer.Quiet frames = λ x is. is
owning_among (model.Answer.Refused refusal) frames = λ x is. is

-- so after a duplicate
hearing_among : (o : Option (Buffer Waiting)) (own : ℕ) (octets : List ℕ) (sender : ℕ)
    (frames : List NumberedFrame) → Among (frames_hearing o own octets sender frames) frames
hearing_among None own octets sender frames = λ x is. is
hearing_among (Some b) own octets sender frames =
    among_kept (waits_on b.rule.copies own octets sender) b.held frames

-- what is sent, by the answer of the station
abbrev pub sent_of : UnitModel → UnitCallAt → StationModel → Option Transmission → Bool
    → Answer Transmission → Option Transmission
sent_of u c s f rep a =
    frame_passed (answer_by rep (governed u.governor (receiver_of u.station c.now f) c.now f
    (left_in u.contention (Some u.governor) s c.now f a)))

receiving_among : (n : ℕ) (u : UnitModel) (c : UnitCallAt) (step : Step) (t : Transmission)
    (rep : Bool) (a : Answer Transmission) (frames : List NumberedFrame)
    → let sent = sent_of u c step.station (Some t) rep a in
    (sent ≡ None) ⊎ (sent ≡ world.frame_of a)
    → Among (with_one_more (frames_receiving n u c step t a frames) (numbered n sent))
    (with_one_more frames (numbered n (world.frame_of a)))
receiving_among n u c step t rep (model.Answer.Accepted handed relayed) frames part =
    accepting_among n u.contention u.governor (receiver_of u.station c.now (Some t)) step.station
    c.now t handed relayed frames rep part
receiving_among n u c step t rep (model.Answer.Ignored model.Why.Duplicate) frames part =
    among_both n (frames_hearing u.contention (mid_of step.station.address) (octets_in c.call t)
    t.link_source frames) frames _ None
    (hearing_among u.contention (mid_of step.station.address) (octets_in c.call t) t.link_source
    frames) part
receiving_among n u c step t rep (model.Answer.Ignored model.Why.NotForMe) frames part =
    among_both n frames frames _ None (λ x is. is) part
receiving_among n u c step t rep (model.Answer.Ignored model.Why.OwnSource) frames part =
    among_both n frames frames _ None (λ x is. is) part
receiving_among n u c step t rep (model.Answer.Ignored model.Why.SenderMismatch) frames part =
    among_both n frames frames _ None (λ x is. is) part
receiving_among n u c step t rep (model.Answer.Sent sent) frames part =
    among_both n frames frames _ (Some sent) (λ x is. is) part
receiving_among n u c step t rep model.Answer.Moved frames part =
    among_both n frames frames _ None (λ x is. is) part
receiving_among n u c step t rep model.Answer.Opened frames part =
    among_both n frames frames _ None (λ x is. is) part
receiving_among n u c step t rep model.Answer.Closed frames part =
    among_both n frames frames _ None (λ x is. is) part
receiving_among n u c step t rep model.Answer.Restarted frames part =
    among_both n frames frames _ None (λ x is. is) part
receiving_among n u c step t rep model.Answer.Quiet frames part =
    among_both n frames frames _ None (λ x is. is) part
receiving_among n u c step t rep (model.Answer.Refused refusal) frames part =
    among_both n frames frames _ None (λ x is. is) part

calling_among : (n : ℕ) (u : UnitModel) (c : UnitCallAt) (step : Step) (f : Option Transmission)
    (rep : Bool) (frames : List NumberedFrame)
    → let sent = sent_of u c step.station f rep step.answer in
    (sent ≡ None) ⊎ (sent ≡ world.frame_of step.answer)
    → Among (with_one_more (frames_calling n u c step f frames) (numbered n sent))
    (with_one_more frames (numbered n (world.frame_of step.answer)))
calling_among n u c step None rep frames part =
    among_both n (frames_owning step.answer frames) frames _ (world.frame_of step.answer)
    (owning_among step.answer frames) part
calling_among n u c step (Some t) rep frames part =
    receiving_among n u c step t rep step.answer frames part

-- ---- a release

without_among : (frames : List NumberedFrame) (o : Option ℕ)
    → Among (with_one_more (frames_without frames o) (frame_there frames o)) frames
without_among frames None = λ x is. is
without_among frames (Some k) =
    among_one (take k frames ++ drop (suc k) frames) frames (slice_get frames k)
    (among_removed k frames) (λ f e. (k, e))

left_among : (o : Option Waiting) (place : Option ℕ) (frames : List NumberedFrame)
    → Among (frames_left o place frames) frames
left_among None place frames = λ x is. is
left_among (Some w) None frames = λ x is. is
left_among (Some w) (Some k) frames = among_removed k frames

first_among : (most address now : ℕ) (b : Buffer Waiting) (g : Governor)
    (frames : List NumberedFrame)
    → let r = frames_first most address now b g frames in
    Among (with_one_more r.frames r.sent) frames
first_among zero address now b g frames = λ x is. is
first_among (suc most) address now b g frames =
    by (first_due now b.held) (has_room_for_due g address now (first_due now b.held))
    (frames_first most address now (after_drop b now)
    (after_due_frame g now (first_due now b.held) false)
    (frames_left (first_due now b.held) (place_due now b.held) frames))
    (λ x is. left_among (first_due now b.held) (place_due now b.held) frames x
    (first_among most address now (after_drop b now)
    (after_due_frame g now (first_due now b.held) false)
    (frames_left (first_due now b.held) (place_due now b.held) frames) x is))
  where
    by : (o : Option Waiting) (room : Bool) (rest : ReleasedFrame)
        → Among (with_one_more rest.frames rest.sent) frames
        → let r = frames_or frames (place_due now b.held) o room rest in
        Among (with_one_more r.frames r.sent) frames
    by None room rest next = λ x is. is
    by (Some w) true rest next = without_among frames (place_due now b.held)
    by (Some w) false rest next = next

released_among : (u : HoldingUnit) (now : ℕ)
    → Among (with_one_more (frames_released u now).frames (frames_released u now).sent) u.frames
released_among u now = by (moment_refusal u.unit.station now)
  where
    held_by : (o : Option (Buffer Waiting))
        → let r = frames_released_of u now o in Among (with_one_more r.frames r.sent) u.frames
    held_by None = λ x is. is
    held_by (Some b) =
        λ x is. among_kept (λ (h : HeldFrame Waiting). nat_le now (h.due + late_after)) b.held
        u.frames x
        (first_among (length (kept_at now b.held)) u.unit.station.address now (after_late b now)
        u.unit.governor (frames_in_time now b u.frames) x is)

    by : (o : Option Refusal)
        → let r = frames_released_by u now o in Among (with_one_more r.frames r.sent) u.frames
    by (Some refusal) = λ x is. is
    by None = held_by u.unit.contention

-- ---- late or lost

-- a call that the station makes
made_among : (n : ℕ) (u : HoldingUnit) (c : UnitCallAt) → is_withheld u.unit c ≡ false
    → Among (with_one_more (frames_after n u c)
    (numbered n (frame_passed (unit_step u.unit c.now c.call).answer)))
    (with_one_more u.frames
    (numbered n (world.frame_of (step_within u.unit.station c.now c.call).answer)))
made_among n u c e =
    by (is_withheld u.unit c) e
    (part_frame (unit_step u.unit c.now c.call).answer
    (step_within u.unit.station c.now c.call).answer ((station_runs u.unit).answers [] c e))
  where
    step : Step
    step = step_within u.unit.station c.now c.call

    by : (b : Bool) → b ≡ false
        → let sent = frame_passed (cond b (refused_step u.unit)
        (passed_step u.unit c.now c.call (step_within u.unit.station c.now c.call))).answer in
        (sent ≡ None) ⊎ (sent ≡ world.frame_of (step_within u.unit.station c.now c.call).answer)
        → Among (with_one_more (cond b u.frames (frames_calling n u.unit c
        (step_within u.unit.station c.now c.call) (frame_of c.call) u.frames)) (numbered n sent))
        (with_one_more u.frames
        (numbered n (world.frame_of (step_within u.unit.station c.now c.call).answer)))
    by true e part = absurd (false≢true (sym e))
    by false e part =
        calling_among n u.unit c (step_within u.unit.station c.now c.call) (frame_of c.call)
        (is_repeated_in u.unit.governor c.now (frame_of c.call)
        (left_step u.unit c.now c.call (step_within u.unit.station c.now c.call)).answer)
        u.frames part

-- one that is withheld
withheld_among : (n : ℕ) (u : HoldingUnit) (c : UnitCallAt) → is_withheld u.unit c ≡ true
    → Among (with_one_more (frames_after n u c)
    (numbered n (frame_passed (unit_step u.unit c.now c.call).answer))) u.frames
withheld_among n u c e =
    subst (λ (sent : Option Transmission).
    Among (with_one_more (frames_after n u c) (numbered n sent)) u.frames)
    (sym (ap frame_passed (answer_withheld u.unit c e))) (by (is_withheld u.unit c) e)
  where
    by : (b : Bool) → b ≡ true
        → Among (cond b u.frames (frames_calling n u.unit c
        (step_within u.unit.station c.now c.call) (frame_of c.call) u.frames)) u.frames
    by true e = λ x is. is
    by false e = absurd (false≢true e)

pub holding_late_or_lost : IsLateOrLost holding_kind
holding_late_or_lost = record {
  made = λ n u c e. record {
    station = station_by u.unit c false e;
    answer = (station_runs u.unit).answers [] c e;
    frames = made_among n u c e;
  };
  withheld = λ n u c e. record {
    station = station_by u.unit c true e;
    answer = answer_withheld u.unit c e;
    frames = withheld_among n u c e;
  };
  released = λ u now. record {
    station = released_station u.unit now (moment_refusal u.unit.station now);
    frames = released_among u now;
  };
}

-- ---- the units of a fleet

pub acts_on : (u : UnitModel) (first next : List UnitAct)
    → unit_acts u (first ++ next) ≡ unit_acts (unit_acts u first) next
acts_on u [] next = refl
acts_on u (a ∷ first) next = acts_on (after_act u a) first next

-- the unit in a unit of the fleet
abbrev within : HoldingUnit → UnitModel
within h = h.unit

-- a unit that there is, after acts
abbrev acted : List UnitAct → Option HoldingUnit → Option UnitModel
acted acts o = option_map (λ (h : HoldingUnit). unit_acts h.unit acts) o

-- what acts lead to, if they are no acts
acted_none : (o : Option HoldingUnit) → option_map within o ≡ acted [] o
acted_none None = refl
acted_none (Some h) = refl

-- the unit of an event
own_asked : (f : FleetModel HoldingUnit) (e : FleetEvent) (u : HoldingUnit) (o : Option Asked)
    → slice_get f.units e.unit ≡ Some u
    → option_map within (slice_get (called_if holding_kind f e u o).units e.unit)
    ≡ Some (unit_acts u.unit (act_at e o))
own_asked f e u None at = ap (option_map within) at
own_asked f e u (Some a) at = ap (option_map within) (get_same f.units e.unit u _ at)

own_happened : (f : FleetModel HoldingUnit) (e : FleetEvent) (u : HoldingUnit) (what : FleetWhat)
    → slice_get f.units e.unit ≡ Some u
    → option_map within (slice_get (happened holding_kind f e u what).units e.unit)
    ≡ Some (unit_acts u.unit (acts_by f.sent e what))
own_happened f e u (FleetWhat.Calls call) at =
    own_asked f e u (asked f.sent (FleetWhat.Calls call)) at
own_happened f e u (FleetWhat.Deliver n) at =
    own_asked f e u (asked f.sent (FleetWhat.Deliver n)) at
own_happened f e u (FleetWhat.DeliverVerified n message) at =
    own_asked f e u (asked f.sent (FleetWhat.DeliverVerified n message)) at
own_happened f e u FleetWhat.Release at =
    ap (option_map within) (get_same f.units e.unit u _ at)

own_unit : (f : FleetModel HoldingUnit) (e : FleetEvent) (o : Option HoldingUnit)
    → slice_get f.units e.unit ≡ o
    → option_map within (slice_get (at_unit holding_kind f e o).units e.unit)
    ≡ acted (acts_by f.sent e e.what) o
own_unit f e None at = ap (option_map within) at
own_unit f e (Some u) at = own_happened f e u e.what at

-- the other units
other_asked : (f : FleetModel HoldingUnit) (e : FleetEvent) (u : HoldingUnit) (o : Option Asked)
    (j : ℕ) → e.unit ≢ j → slice_get (called_if holding_kind f e u o).units j ≡ slice_get f.units j
other_asked f e u None j differ = refl
other_asked f e u (Some a) j differ = get_other f.units e.unit j _ differ

other_happened : (f : FleetModel HoldingUnit) (e : FleetEvent) (u : HoldingUnit) (what : FleetWhat)
    (j : ℕ) → e.unit ≢ j
    → slice_get (happened holding_kind f e u what).units j ≡ slice_get f.units j
other_happened f e u (FleetWhat.Calls call) j differ =
    other_asked f e u (asked f.sent (FleetWhat.Calls call)) j differ
other_happened f e u (FleetWhat.Deliver n) j differ =
    other_asked f e u (asked f.sent (FleetWhat.Deliver n)) j differ
other_happened f e u (FleetWhat.DeliverVerified n message) j differ =
    other_asked f e u (asked f.sent (FleetWhat.DeliverVerified n message)) j differ
other_happened f e u FleetWhat.Release j differ = get_other f.units e.unit j _ differ

other_unit : (f : FleetModel HoldingUnit) (e : FleetEvent) (o : Option HoldingUnit) (j : ℕ)
    → e.unit ≢ j → slice_get (at_unit holding_kind f e o).units j ≡ slice_get f.units j
other_unit f e None j differ = refl
other_unit f e (Some u) j differ = other_happened f e u e.what j differ

-- unit j after an event
unit_after : (f : FleetModel HoldingUnit) (e : FleetEvent) (j : ℕ) (b : Bool) → eqb e.unit j ≡ b
    → option_map within (slice_get (fleet_step holding_kind f e).units j)
    ≡ acted (cond b (acts_by f.sent e e.what) []) (slice_get f.units j)
unit_after f e j true same =
    subst (λ (i : ℕ). option_map within (slice_get (fleet_step holding_kind f e).units i)
    ≡ acted (acts_by f.sent e e.what) (slice_get f.units i)) (grind (arith, nat_tests))
    (own_unit f e (slice_get f.units e.unit) refl)
unit_after f e j false same =
    ap (option_map within) (other_unit f e (slice_get f.units e.unit) j (grind (arith, nat_tests)))
    ∙ acted_none (slice_get f.units j)

-- acts after others
act_more : (next : List UnitAct) (o : Option HoldingUnit)
    → acted next o ≡ option_map (λ (u : UnitModel). unit_acts u next) (option_map within o)
act_more next None = refl
act_more next (Some h) = refl

act_both : (first next : List UnitAct) (o : Option HoldingUnit)
    → option_map (λ (u : UnitModel). unit_acts u next) (acted first o) ≡ acted (first ++ next) o
act_both first next None = refl
act_both first next (Some h) = ap Some (sym (acts_on h.unit first next))

acts_run : (events : List FleetEvent) (f : FleetModel HoldingUnit) (j : ℕ)
    → option_map within (slice_get (fleet_run holding_kind f events).units j)
    ≡ acted (acts_of j f events) (slice_get f.units j)
acts_run [] f j = acted_none (slice_get f.units j)
acts_run (e ∷ events) f j =
    let after = fleet_step holding_kind f e in
    let first = cond (eqb e.unit j) (acts_by f.sent e e.what) [] in
    let next = acts_of j after events in
    acts_run events after j
    ∙ act_more next (slice_get after.units j)
    ∙ ap (option_map (λ (u : UnitModel). unit_acts u next)) (unit_after f e j (eqb e.unit j) refl)
    ∙ act_both first next (slice_get f.units j)

-- the units that a fleet begins with
begins : (units : List UnitModel) (acts : List UnitAct) (j : ℕ)
    → acted acts (slice_get (map holding units) j)
    ≡ option_map (λ (u : UnitModel). unit_acts u acts) (slice_get units j)
begins [] acts j = refl
begins (u ∷ units) acts zero = refl
begins (u ∷ units) acts (suc j) = begins units acts j

pub units_act : (units : List UnitModel) → UnitsAct units
units_act units events j =
    acts_run events (new_fleet (map holding units)) j
    ∙ begins units (acts_of j (new_fleet (map holding units)) events) j

-- ---- a fleet begins with units that are new

map_within : (units : List UnitModel)
    → map (λ (h : HoldingUnit). h.unit.station) (map holding units)
    ≡ map (λ (u : UnitModel). u.station) units
map_within [] = refl
map_within (u ∷ units) = ap (λ xs. u.station ∷ xs) (map_within units)

-- the unit at a place is one without frames
at_place : (units : List UnitModel) (j : ℕ) (h : HoldingUnit)
    → slice_get (map holding units) j ≡ Some h
    → (u : UnitModel) × (slice_get units j ≡ Some u) × (holding u ≡ h)
at_place [] j h at = absurd (none-some h at)
at_place (u ∷ units) zero h at = (u, refl, same_Some (holding u) h at)
at_place (u ∷ units) (suc j) h at = at_place units j h at

pub begins_new : (configs : List Config) (units : List UnitModel) → AreNewContending configs units
    → AreNewUnits holding_kind configs (map holding units)
begins_new configs units new = record {
  stations = map_within units ∙ new.stations;
  waiting = λ h is. (let u = at_place units is.0 h is.1 in
      ap (λ (x : HoldingUnit). x.frames) (sym u.2));
}

-- ---- what waits in the units are the frames of the fleet

abbrev HoldAll : List HoldingUnit → Type 0
HoldAll units =
    (j : ℕ) (h : HoldingUnit) → slice_get units j ≡ Some h → AreFramesOf h.unit.contention h.frames

-- one unit is replaced
set_hold : (units : List HoldingUnit) (i : ℕ) (new : HoldingUnit) → HoldAll units
    → AreFramesOf new.unit.contention new.frames → HoldAll (slice_set units i new)
set_hold units i new all one j h at = by (get_set units i new j h at)
  where
    by : ((j ≡ i) × (new ≡ h)) ⊎ ((j ≢ i) × (slice_get units j ≡ Some h))
        → AreFramesOf h.unit.contention h.frames
    by (inl g) = subst (λ (x : HoldingUnit). AreFramesOf x.unit.contention x.frames) g.1 one
    by (inr g) = all j h g.1

asked_hold : (f : FleetModel HoldingUnit) (e : FleetEvent) (u : HoldingUnit) (o : Option Asked)
    → HoldAll f.units → AreFramesOf u.unit.contention u.frames
    → HoldAll (called_if holding_kind f e u o).units
asked_hold f e u None all one = all
asked_hold f e u (Some a) all one =
    set_hold f.units e.unit _ all
    (called_keeps (length f.made) u (record { now = e.moment; call = a.call }) one)

happened_hold : (f : FleetModel HoldingUnit) (e : FleetEvent) (u : HoldingUnit) (what : FleetWhat)
    → HoldAll f.units → AreFramesOf u.unit.contention u.frames
    → HoldAll (happened holding_kind f e u what).units
happened_hold f e u (FleetWhat.Calls call) all one =
    asked_hold f e u (asked f.sent (FleetWhat.Calls call)) all one
happened_hold f e u (FleetWhat.Deliver n) all one =
    asked_hold f e u (asked f.sent (FleetWhat.Deliver n)) all one
happened_hold f e u (FleetWhat.DeliverVerified n message) all one =
    asked_hold f e u (asked f.sent (FleetWhat.DeliverVerified n message)) all one
happened_hold f e u FleetWhat.Release all one =
    set_hold f.units e.unit _ all (released_keeps u e.moment one).waiting

step_holds : (f : FleetModel HoldingUnit) (e : FleetEvent) (o : Option HoldingUnit)
    → slice_get f.units e.unit ≡ o → HoldAll f.units
    → HoldAll (at_unit holding_kind f e o).units
step_holds f e None at all = all
step_holds f e (Some u) at all = happened_hold f e u e.what all (all e.unit u at)

run_holds : (events : List FleetEvent) (f : FleetModel HoldingUnit) → HoldAll f.units
    → HoldAll (fleet_run holding_kind f events).units
run_holds [] f all = all
run_holds (e ∷ events) f all =
    run_holds events (fleet_step holding_kind f e) (step_holds f e (slice_get f.units e.unit) refl all)

-- in a new unit no frame waits
none_held : (o : Option (Buffer Waiting)) → NothingWaits o → AreFramesOf o []
none_held None h = refl
none_held (Some b) h =
    subst (λ (held : List (HeldFrame Waiting)). AreFramesOf (Some (record b { held = held })) [])
    (sym h) tt

pub units_hold : (configs : List Config) (units : List UnitModel) → AreNewContending configs units
    → UnitsHoldFrames units
units_hold configs units new events j h at =
    let all : HoldAll (map holding units) =
    λ i x is. (let u = at_place units i x is in
    subst (λ (y : HoldingUnit). AreFramesOf y.unit.contention y.frames) u.2
    (none_held u.0.contention (new.waiting u.0 (i, u.1)))) in
    let held = run_holds events (new_fleet (map holding units)) all j h at in
    record {
      waiting = held;
      released = λ now. (released_keeps h now held).sent_is;
    }
