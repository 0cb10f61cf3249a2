-- No frame of a fleet whose units contend is sent twice, and no more are sent than were made.
use Rattle.std.proofs.Common.{◌≡◌, ◌≢◌, ◌⊎◌, ℕ, zero, suc, ◌+◌, ◌≤◌, ◌<◌, List, [], ◌∷◌, ◌++◌, map}
use Rattle.std.proofs.Common.{length, Bool, true, false, cond, Option, Some, None, refl, sym, ap}
use Rattle.std.proofs.Common.{◌∙◌, inl, inr, eqb, arith, take, drop}
use Rattle.std.specs.Prelude.{nat_le, slice_get, slice_set}
use Rattle.std.proofs.lemmas.Bool.{false≢true}
use Rattle.std.proofs.lemmas.Option.{none-some, same_Some}
use Rattle.its_gnvalue.specs.Values.{mid_of}
use Rattle.its_model.specs.Packet.{Message, Transmission}
use Rattle.its_model.specs.Calls as model
use Rattle.its_model.specs.Calls.{Answer, Refusal}
use Rattle.its_model.specs.Contention.{Fate, HeldFrame, first_due, kept_at, late_after, place_due}
use Rattle.its_model.specs.Station.{StationModel, Step, moment_refusal}
use Rattle.its_model.specs.World as world
use Rattle.its_model.specs.World.{with_one_more}
use Rattle.its_model.proofs.NumberTests.{eq_test}
use Rattle.its_contention.specs.Buffer.{Buffer, after_drop, after_late}
use Rattle.its_contention.specs.Waiting.{Waiting}
use Rattle.its_governor.specs.declared.governor.Governor.{Governor}
use Rattle.its_governor.specs.declared.receiver.Receiver.{Receiver}
use Rattle.its_governor.specs.Governing.{governed, is_repeated_in}
use Rattle.its_unit.specs.Contending.{after_due_frame, at_once, fate_in, has_room_for_due, left_in}
use Rattle.its_unit.specs.Runs.{UnitCallAt, is_withheld}
use Rattle.its_unit.specs.Unit.{UnitModel, answer_by, frame_of, left_step, octets_in, passed_step}
use Rattle.its_unit.specs.Unit.{receiver_of, refused_step, step_within, unit_step}
use Rattle.its_unit.specs.Fleets.{NumberedFrame, numbered, frame_passed, FleetWhat, FleetEvent}
use Rattle.its_unit.specs.Fleets.{FleetModel, new_fleet, Asked, asked, at_time, at_unit, called_if}
use Rattle.its_unit.specs.Fleets.{fleet_run, fleet_step, happened, made_by, released}
use Rattle.its_unit.specs.Holding.{ContendersSendOnce, HoldingUnit, ReleasedFrame, frame_there}
use Rattle.its_unit.specs.Holding.{frames_accepting, frames_after, frames_by_fate, frames_calling}
use Rattle.its_unit.specs.Holding.{frames_first, frames_hearing, frames_in_time, frames_left, frames_or}
use Rattle.its_unit.specs.Holding.{frames_owning, frames_receiving, frames_released}
use Rattle.its_unit.specs.Holding.{frames_released_by, frames_released_of, frames_without, holding}
use Rattle.its_unit.specs.Holding.{holding_kind, kept_with, waits_on}
use Rattle.its_unit.proofs.FleetUnits.{answer_withheld, part_frame}
use Rattle.its_unit.proofs.HoldingUnits.{none_passes, sent_of}
use Rattle.its_unit.proofs.Runs.{station_runs}

-- ---- a weight of frames

abbrev weigh : (NumberedFrame → ℕ) → List NumberedFrame → ℕ
weigh w [] = 0
weigh w (f ∷ frames) = w f + weigh w frames

abbrev weigh_one : (NumberedFrame → ℕ) → Option NumberedFrame → ℕ
weigh_one w None = 0
weigh_one w (Some f) = w f

weigh_both : (w : NumberedFrame → ℕ) (xs ys : List NumberedFrame)
    → weigh w (xs ++ ys) ≡ weigh w xs + weigh w ys
weigh_both w [] ys = omega arith
weigh_both w (f ∷ xs) ys = omega (arith, weigh_both w xs ys)

weigh_more : (w : NumberedFrame → ℕ) (xs : List NumberedFrame) (o : Option NumberedFrame)
    → weigh w (with_one_more xs o) ≡ weigh w xs + weigh_one w o
weigh_more w xs None = omega arith
weigh_more w xs (Some f) =
    let both : weigh w (xs ++ f ∷ []) ≡ weigh w xs + (w f + 0) = weigh_both w xs (f ∷ []) in
    omega (arith, both)

weigh_kept : {X : Type 0} (w : NumberedFrame → ℕ) (test : X → Bool) (xs : List X)
    (frames : List NumberedFrame) → weigh w (kept_with test xs frames) ≤ weigh w frames
weigh_kept w test [] frames = omega arith
weigh_kept w test (x ∷ xs) [] = omega arith
weigh_kept w test (x ∷ xs) (f ∷ frames) = by (test x) (weigh_kept w test xs frames)
  where
    by : (b : Bool) → weigh w (kept_with test xs frames) ≤ weigh w frames
        → weigh w (cond b (f ∷ kept_with test xs frames) (kept_with test xs frames))
        ≤ w f + weigh w frames
    by true le = omega (arith, le)
    by false le = omega (arith, le)

weigh_removed : (w : NumberedFrame → ℕ) (k : ℕ) (frames : List NumberedFrame)
    → weigh w (take k frames ++ drop (suc k) frames) + weigh_one w (slice_get frames k)
    ≤ weigh w frames
weigh_removed w zero [] = omega arith
weigh_removed w (suc k) [] = omega arith
weigh_removed w zero (f ∷ frames) = omega arith
weigh_removed w (suc k) (f ∷ frames) = omega (arith, weigh_removed w k frames)

-- ---- what waits and what is sent weighs no more than what waited and what was made

-- fewer wait, and what is sent is what was made, or nothing
weigh_part : (w : NumberedFrame → ℕ) (n : ℕ) (xs ys : List NumberedFrame)
    (sent made : Option Transmission) → weigh w xs ≤ weigh w ys → (sent ≡ None) ⊎ (sent ≡ made)
    → weigh w xs + weigh_one w (numbered n sent) ≤ weigh w ys + weigh_one w (numbered n made)
weigh_part w n xs ys sent made le (inl none) =
    let zero_is : weigh_one w (numbered n sent) ≡ 0 =
    ap (λ (o : Option Transmission). weigh_one w (numbered n o)) none in
    omega (arith, le, zero_is)
weigh_part w n xs ys sent made le (inr same) =
    let same_is : weigh_one w (numbered n sent) ≡ weigh_one w (numbered n made) =
    ap (λ (o : Option Transmission). weigh_one w (numbered n o)) same in
    omega (arith, le, same_is)

accepting_weighs : (w : NumberedFrame → ℕ) (n : ℕ) (o : Option (Buffer Waiting)) (g : Governor)
    (r : Receiver) (s : StationModel) (now : ℕ) (t : Transmission) (handed : Option Message)
    (relayed : Option Transmission) (frames : List NumberedFrame) (rep : Bool)
    → let sent = frame_passed (answer_by rep (governed g r now (Some t)
    (left_in o (Some g) s now (Some t) (model.Answer.Accepted handed relayed)))) in
    (sent ≡ None) ⊎ (sent ≡ relayed)
    → weigh w (frames_accepting n o g s now t relayed frames) + weigh_one w (numbered n sent)
    ≤ weigh w frames + weigh_one w (numbered n relayed)
accepting_weighs w n None g r s now t handed relayed frames rep part =
    weigh_part w n frames frames _ relayed (omega arith) part
accepting_weighs w n (Some b) g r s now t handed None frames rep part =
    weigh_part w n frames frames _ None (omega arith) part
accepting_weighs w n (Some b) g r s now t handed (Some relay) frames rep part =
    by (fate_in b (Some g) s now t (Some relay)) part
  where
    new : NumberedFrame
    new = record { number = n; frame = relay }

    by : (f : Fate)
        → let sent = frame_passed (answer_by rep (governed g r now (Some t)
        (model.Answer.Accepted handed (at_once (Some relay) f)))) in
        (sent ≡ None) ⊎ (sent ≡ Some relay)
        → weigh w (frames_by_fate frames new f) + weigh_one w (numbered n sent)
        ≤ weigh w frames + w new
    by (Fate.Waits due) part =
        let none : weigh_one w (numbered n (frame_passed (answer_by rep
        (governed g r now (Some t) (model.Answer.Accepted handed None))))) ≡ 0 =
        ap (λ (o : Option Transmission). weigh_one w (numbered n o))
        (none_passes rep g r now t handed) in
        let both : weigh w (frames ++ new ∷ []) ≡ weigh w frames + (w new + 0) =
        weigh_both w frames (new ∷ []) in
        omega (arith, none, both)
    by Fate.Goes part = weigh_part w n frames frames _ (Some relay) (omega arith) part
    by Fate.Stays part = weigh_part w n frames frames _ (Some relay) (omega arith) part

owning_weighs : (w : NumberedFrame → ℕ) (a : Answer Transmission) (frames : List NumberedFrame)
    → weigh w (frames_owning a frames) ≤ weigh w frames
owning_weighs w model.Answer.Restarted frames = omega arith
owning_weighs w (model.Answer.Accepted handed relayed) frames = omega arith
owning_weighs w (model.Answer.Ignored why) frames = omega arith
owning_weighs w (model.Answer.Sent sent) frames = omega arith
owning_weighs w model.Answer.Moved frames = omega arith
owning_weighs w model.Answer.Opened frames = omega arith
owning_weighs w model.Answer.Closed frames = omega arith
owning_weighs w model.Answer.Quiet frames = omega arith
owning_weighs w (model.Answer.Refused refusal) frames = omega arith

hearing_weighs : (w : NumberedFrame → ℕ) (o : Option (Buffer Waiting)) (own : ℕ) (octets : List ℕ)
    (sender : ℕ) (frames : List NumberedFrame)
    → weigh w (frames_hearing o own octets sender frames) ≤ weigh w frames
hearing_weighs w None own octets sender frames = omega arith
hearing_weighs w (Some b) own octets sender frames =
    weigh_kept w (waits_on b.rule.copies own octets sender) b.held frames

receiving_weighs : (w : NumberedFrame → ℕ) (n : ℕ) (u : UnitModel) (c : UnitCallAt) (step : Step)
    (t : Transmission) (rep : Bool) (a : Answer Transmission) (frames : List NumberedFrame)
    → let sent = sent_of u c step.station (Some t) rep a in
    (sent ≡ None) ⊎ (sent ≡ world.frame_of a)
    → weigh w (frames_receiving n u c step t a frames) + weigh_one w (numbered n sent)
    ≤ weigh w frames + weigh_one w (numbered n (world.frame_of a))
receiving_weighs w n u c step t rep (model.Answer.Accepted handed relayed) frames part =
    accepting_weighs w n u.contention u.governor (receiver_of u.station c.now (Some t))
    step.station c.now t handed relayed frames rep part
receiving_weighs w n u c step t rep (model.Answer.Ignored model.Why.Duplicate) frames part =
    weigh_part w n (frames_hearing u.contention (mid_of step.station.address) (octets_in c.call t)
    t.link_source frames) frames _ None
    (hearing_weighs w u.contention (mid_of step.station.address) (octets_in c.call t) t.link_source
    frames) part
receiving_weighs w n u c step t rep (model.Answer.Ignored model.Why.NotForMe) frames part =
    weigh_part w n frames frames _ None (omega arith) part
receiving_weighs w n u c step t rep (model.Answer.Ignored model.Why.OwnSource) frames part =
    weigh_part w n frames frames _ None (omega arith) part
receiving_weighs w n u c step t rep (model.Answer.Ignored model.Why.SenderMismatch) frames part =
    weigh_part w n frames frames _ None (omega arith) part
receiving_weighs w n u c step t rep (model.Answer.Sent sent) frames part =
    weigh_part w n frames frames _ (Some sent) (omega arith) part
receiving_weighs w n u c step t rep model.Answer.Moved frames part =
    weigh_part w n frames frames _ None (omega arith) part
receiving_weighs w n u c step t rep model.Answer.Opened frames part =
    weigh_part w n frames frames _ None (omega arith) part
receiving_weighs w n u c step t rep model.Answer.Closed frames part =
    weigh_part w n frames frames _ None (omega arith) part
receiving_weighs w n u c step t rep model.Answer.Restarted frames part =
    weigh_part w n frames frames _ None (omega arith) part
receiving_weighs w n u c step t rep model.Answer.Quiet frames part =
    weigh_part w n frames frames _ None (omega arith) part
receiving_weighs w n u c step t rep (model.Answer.Refused refusal) frames part =
    weigh_part w n frames frames _ None (omega arith) part

calling_weighs : (w : NumberedFrame → ℕ) (n : ℕ) (u : UnitModel) (c : UnitCallAt) (step : Step)
    (f : Option Transmission) (rep : Bool) (frames : List NumberedFrame)
    → let sent = sent_of u c step.station f rep step.answer in
    (sent ≡ None) ⊎ (sent ≡ world.frame_of step.answer)
    → weigh w (frames_calling n u c step f frames) + weigh_one w (numbered n sent)
    ≤ weigh w frames + weigh_one w (numbered n (world.frame_of step.answer))
calling_weighs w n u c step None rep frames part =
    weigh_part w n (frames_owning step.answer frames) frames _ (world.frame_of step.answer)
    (owning_weighs w step.answer frames) part
calling_weighs w n u c step (Some t) rep frames part =
    receiving_weighs w n u c step t rep step.answer frames part

-- a call
called_weighs : (w : NumberedFrame → ℕ) (n : ℕ) (u : HoldingUnit) (c : UnitCallAt)
    → weigh w (frames_after n u c)
    + weigh_one w (numbered n (frame_passed (unit_step u.unit c.now c.call).answer))
    ≤ weigh w u.frames + weigh_one w (numbered n (made_by holding_kind u c))
called_weighs w n u c = by (is_withheld u.unit c) refl
  where
    step : Step
    step = step_within u.unit.station c.now c.call

    made : (b : Bool) → b ≡ false
        → let sent = frame_passed (cond b (refused_step u.unit)
        (passed_step u.unit c.now c.call (step_within u.unit.station c.now c.call))).answer in
        (sent ≡ None) ⊎ (sent ≡ world.frame_of (step_within u.unit.station c.now c.call).answer)
        → weigh w (cond b u.frames (frames_calling n u.unit c
        (step_within u.unit.station c.now c.call) (frame_of c.call) u.frames))
        + weigh_one w (numbered n sent)
        ≤ weigh w u.frames + weigh_one w (numbered n (cond b None
        (world.frame_of (step_within u.unit.station c.now c.call).answer)))
    made true e part = absurd (false≢true (sym e))
    made false e part =
        calling_weighs w n u.unit c (step_within u.unit.station c.now c.call) (frame_of c.call)
        (is_repeated_in u.unit.governor c.now (frame_of c.call)
        (left_step u.unit c.now c.call (step_within u.unit.station c.now c.call)).answer)
        u.frames part

    withheld : (b : Bool) → b ≡ true
        → weigh w (cond b u.frames (frames_calling n u.unit c
        (step_within u.unit.station c.now c.call) (frame_of c.call) u.frames)) + 0
        ≤ weigh w u.frames + weigh_one w (numbered n (cond b None
        (world.frame_of (step_within u.unit.station c.now c.call).answer)))
    withheld true e = omega arith
    withheld false e = absurd (false≢true e)

    by : (b : Bool) → is_withheld u.unit c ≡ b
        → weigh w (frames_after n u c)
        + weigh_one w (numbered n (frame_passed (unit_step u.unit c.now c.call).answer))
        ≤ weigh w u.frames + weigh_one w (numbered n (made_by holding_kind u c))
    by true e =
        let none : weigh_one w (numbered n (frame_passed (unit_step u.unit c.now c.call).answer))
        ≡ 0 =
        ap (λ (o : Option Transmission). weigh_one w (numbered n o))
        (ap frame_passed (answer_withheld u.unit c e)) in
        omega (arith, none, withheld (is_withheld u.unit c) e)
    by false e =
        made (is_withheld u.unit c) e
        (part_frame (unit_step u.unit c.now c.call).answer
        (step_within u.unit.station c.now c.call).answer ((station_runs u.unit).answers [] c e))

-- ---- a release

without_weighs : (w : NumberedFrame → ℕ) (frames : List NumberedFrame) (o : Option ℕ)
    → weigh w (frames_without frames o) + weigh_one w (frame_there frames o) ≤ weigh w frames
without_weighs w frames None = omega arith
without_weighs w frames (Some k) = weigh_removed w k frames

left_weighs : (w : NumberedFrame → ℕ) (o : Option Waiting) (place : Option ℕ)
    (frames : List NumberedFrame) → weigh w (frames_left o place frames) ≤ weigh w frames
left_weighs w None place frames = omega arith
left_weighs w (Some f) None frames = omega arith
left_weighs w (Some f) (Some k) frames = omega (arith, weigh_removed w k frames)

first_weighs : (w : NumberedFrame → ℕ) (most address now : ℕ) (b : Buffer Waiting) (g : Governor)
    (frames : List NumberedFrame)
    → let r = frames_first most address now b g frames in
    weigh w r.frames + weigh_one w r.sent ≤ weigh w frames
first_weighs w zero address now b g frames = omega arith
first_weighs w (suc most) address now b g frames =
    by (first_due now b.held) (has_room_for_due g address now (first_due now b.held))
    (frames_first most address now (after_drop b now)
    (after_due_frame g now (first_due now b.held) false)
    (frames_left (first_due now b.held) (place_due now b.held) frames))
    (omega (
      arith,
      left_weighs w (first_due now b.held) (place_due now b.held) frames,
      first_weighs w most address now (after_drop b now)
          (after_due_frame g now (first_due now b.held) false)
          (frames_left (first_due now b.held) (place_due now b.held) frames),
    ))
  where
    by : (o : Option Waiting) (room : Bool) (rest : ReleasedFrame)
        → weigh w rest.frames + weigh_one w rest.sent ≤ weigh w frames
        → let r = frames_or frames (place_due now b.held) o room rest in
        weigh w r.frames + weigh_one w r.sent ≤ weigh w frames
    by None room rest next = omega arith
    by (Some f) true rest next = without_weighs w frames (place_due now b.held)
    by (Some f) false rest next = next

released_weighs : (w : NumberedFrame → ℕ) (u : HoldingUnit) (now : ℕ)
    → weigh w (frames_released u now).frames + weigh_one w (frames_released u now).sent
    ≤ weigh w u.frames
released_weighs w u now = by (moment_refusal u.unit.station now)
  where
    held_by : (o : Option (Buffer Waiting))
        → let r = frames_released_of u now o in
        weigh w r.frames + weigh_one w r.sent ≤ weigh w u.frames
    held_by None = omega arith
    held_by (Some b) =
        omega (
          arith,
          weigh_kept w (λ (h : HeldFrame Waiting). nat_le now (h.due + late_after))
              b.held u.frames,
          first_weighs w (length (kept_at now b.held)) u.unit.station.address now (after_late b now)
              u.unit.governor (frames_in_time now b u.frames),
        )

    by : (o : Option Refusal)
        → let r = frames_released_by u now o in
        weigh w r.frames + weigh_one w r.sent ≤ weigh w u.frames
    by (Some refusal) = omega arith
    by None = held_by u.unit.contention

-- ---- all units of a fleet

abbrev total : (NumberedFrame → ℕ) → List HoldingUnit → ℕ
total w [] = 0
total w (u ∷ units) = weigh w u.frames + total w units

total_set : (w : NumberedFrame → ℕ) (units : List HoldingUnit) (j : ℕ) (old new : HoldingUnit)
    → slice_get units j ≡ Some old
    → total w (slice_set units j new) + weigh w old.frames ≡ total w units + weigh w new.frames
total_set w [] j old new at = absurd (none-some old at)
total_set w (u ∷ units) zero old new at =
    let same : weigh w u.frames ≡ weigh w old.frames =
    ap (λ (x : HoldingUnit). weigh w x.frames) (same_Some u old at) in
    omega (arith, same)
total_set w (u ∷ units) (suc j) old new at = omega (arith, total_set w units j old new at)

-- the frames that the stations made, each with its number
abbrev all_made : ℕ → List Transmission → List NumberedFrame
all_made n [] = []
all_made n (t ∷ made) = record { number = n; frame = t } ∷ all_made (suc n) made

made_more : (w : NumberedFrame → ℕ) (made : List Transmission) (n k : ℕ) (o : Option Transmission)
    → k ≡ n + length made
    → weigh w (all_made n (with_one_more made o))
    ≡ weigh w (all_made n made) + weigh_one w (numbered k o)
made_more w made n k None e = omega arith
made_more w [] n k (Some t) e =
    let is : k ≡ n = omega (arith, e) in
    let same : w (record { number = k; frame = t }) ≡ w (record { number = n; frame = t }) =
    ap (λ (i : ℕ). w (record { number = i; frame = t })) is in
    omega (arith, same)
made_more w (m ∷ made) n k (Some t) e =
    omega (arith, made_more w made (suc n) k (Some t) (omega (arith, e)))

-- what waits and was sent is some of what was made, each frame once
abbrev Weighs : FleetModel HoldingUnit → Type 0
Weighs f =
    (w : NumberedFrame → ℕ) → weigh w f.sent + total w f.units ≤ weigh w (all_made 0 f.made)

called_keeps : (f : FleetModel HoldingUnit) (e : FleetEvent) (u : HoldingUnit) (o : Option Asked)
    → slice_get f.units e.unit ≡ Some u → Weighs f → Weighs (called_if holding_kind f e u o)
called_keeps f e u None at h = h
called_keeps f e u (Some a) at h = λ w.
    (let c = at_time e a in
    let n = length f.made in
    let sent = numbered n (frame_passed (unit_step u.unit c.now c.call).answer) in
    let new = (holding_kind.call n u c).unit in
    let made = made_by holding_kind u c in
    let all : weigh w (all_made 0 (with_one_more f.made made))
    ≡ weigh w (all_made 0 f.made) + weigh_one w (numbered n made) =
    made_more w f.made 0 n made (omega arith) in
    let units : total w (slice_set f.units e.unit new) + weigh w u.frames
    ≡ total w f.units + weigh w (frames_after n u c) =
    total_set w f.units e.unit u new at in
    omega (arith, h w, weigh_more w f.sent sent, units, called_weighs w n u c, all))

released_keeps : (f : FleetModel HoldingUnit) (e : FleetEvent) (u : HoldingUnit)
    → slice_get f.units e.unit ≡ Some u → Weighs f
    → Weighs (released f e (holding_kind.release u e.moment))
released_keeps f e u at h = λ w.
    (let new = (holding_kind.release u e.moment).unit in
    let units : total w (slice_set f.units e.unit new) + weigh w u.frames
    ≡ total w f.units + weigh w (frames_released u e.moment).frames =
    total_set w f.units e.unit u new at in
    omega (
      arith,
      h w,
      weigh_more w f.sent (frames_released u e.moment).sent,
      units,
      released_weighs w u e.moment,
    ))

happened_keeps : (f : FleetModel HoldingUnit) (e : FleetEvent) (u : HoldingUnit) (what : FleetWhat)
    → slice_get f.units e.unit ≡ Some u → Weighs f → Weighs (happened holding_kind f e u what)
happened_keeps f e u (FleetWhat.Calls call) at h =
    called_keeps f e u (asked f.sent (FleetWhat.Calls call)) at h
happened_keeps f e u (FleetWhat.Deliver n) at h =
    called_keeps f e u (asked f.sent (FleetWhat.Deliver n)) at h
happened_keeps f e u (FleetWhat.DeliverVerified n message) at h =
    called_keeps f e u (asked f.sent (FleetWhat.DeliverVerified n message)) at h
happened_keeps f e u FleetWhat.Release at h = released_keeps f e u at h

step_keeps : (f : FleetModel HoldingUnit) (e : FleetEvent) (o : Option HoldingUnit)
    → slice_get f.units e.unit ≡ o → Weighs f → Weighs (at_unit holding_kind f e o)
step_keeps f e None at h = h
step_keeps f e (Some u) at h = happened_keeps f e u e.what at h

run_keeps : (events : List FleetEvent) (f : FleetModel HoldingUnit) → Weighs f
    → Weighs (fleet_run holding_kind f events)
run_keeps [] f h = h
run_keeps (e ∷ events) f h =
    run_keeps events (fleet_step holding_kind f e)
    (step_keeps f e (slice_get f.units e.unit) refl h)

nothing_weighs : (w : NumberedFrame → ℕ) (units : List UnitModel)
    → total w (map holding units) ≡ 0
nothing_weighs w [] = refl
nothing_weighs w (u ∷ units) = omega (arith, nothing_weighs w units)

-- ---- so each is sent once

-- 1 for a frame with this number
abbrev is_of : ℕ → NumberedFrame → ℕ
is_of n f = cond (eqb f.number n) 1 0

of_number : (n : ℕ) (f : NumberedFrame) → f.number ≡ n → is_of n f ≡ 1
of_number n f e = by (eq_test f.number n)
  where
    by : ((eqb f.number n ≡ true) × (f.number ≡ n)) ⊎ ((eqb f.number n ≡ false) × (f.number ≢ n))
        → is_of n f ≡ 1
    by (inl g) = ap (λ (b : Bool). cond {A = ℕ} b 1 0) g.0
    by (inr g) = absurd (g.1 e)

made_later : (made : List Transmission) (m n : ℕ) → n < m → weigh (is_of n) (all_made m made) ≡ 0
made_later [] m n less = refl
made_later (t ∷ made) m n less =
    by (eq_test m n) (made_later made (suc m) n (omega (arith, less)))
  where
    by : ((eqb m n ≡ true) × (m ≡ n)) ⊎ ((eqb m n ≡ false) × (m ≢ n))
        → weigh (is_of n) (all_made (suc m) made) ≡ 0
        → cond (eqb m n) 1 0 + weigh (is_of n) (all_made (suc m) made) ≡ 0
    by (inl g) rest = absurd (omega (arith, g.1, less))
    by (inr g) rest =
        let none : cond {A = ℕ} (eqb m n) 1 0 ≡ 0 = ap (λ (b : Bool). cond {A = ℕ} b 1 0) g.0 in
        omega (arith, none, rest)

made_once : (made : List Transmission) (m n : ℕ) → weigh (is_of n) (all_made m made) ≤ 1
made_once [] m n = omega arith
made_once (t ∷ made) m n = by (eq_test m n) (made_once made (suc m) n)
  where
    by : ((eqb m n ≡ true) × (m ≡ n)) ⊎ ((eqb m n ≡ false) × (m ≢ n))
        → weigh (is_of n) (all_made (suc m) made) ≤ 1
        → cond (eqb m n) 1 0 + weigh (is_of n) (all_made (suc m) made) ≤ 1
    by (inl g) rest =
        let one : cond {A = ℕ} (eqb m n) 1 0 ≡ 1 = ap (λ (b : Bool). cond {A = ℕ} b 1 0) g.0 in
        omega (arith, one, made_later made (suc m) n (omega (arith, g.1)))
    by (inr g) rest =
        let none : cond {A = ℕ} (eqb m n) 1 0 ≡ 0 = ap (λ (b : Bool). cond {A = ℕ} b 1 0) g.0 in
        omega (arith, none, rest)

one_there : (sent : List NumberedFrame) (i n : ℕ) (a : NumberedFrame)
    → slice_get sent i ≡ Some a → a.number ≡ n → 1 ≤ weigh (is_of n) sent
one_there [] i n a at e = absurd (none-some a at)
one_there (f ∷ sent) zero n a at e =
    let one = of_number n f (ap (λ (x : NumberedFrame). x.number) (same_Some f a at) ∙ e) in
    omega (arith, one)
one_there (f ∷ sent) (suc i) n a at e = omega (arith, one_there sent i n a at e)

two_there : (sent : List NumberedFrame) (i j n : ℕ) (a b : NumberedFrame)
    → slice_get sent i ≡ Some a → slice_get sent j ≡ Some b → a.number ≡ n → b.number ≡ n
    → i ≢ j → 2 ≤ weigh (is_of n) sent
two_there [] i j n a b at_i at_j e d differ = absurd (none-some a at_i)
two_there (f ∷ sent) zero zero n a b at_i at_j e d differ = absurd (differ refl)
two_there (f ∷ sent) zero (suc j) n a b at_i at_j e d differ =
    let one = of_number n f (ap (λ (x : NumberedFrame). x.number) (same_Some f a at_i) ∙ e) in
    omega (arith, one, one_there sent j n b at_j d)
two_there (f ∷ sent) (suc i) zero n a b at_i at_j e d differ =
    let one = of_number n f (ap (λ (x : NumberedFrame). x.number) (same_Some f b at_j) ∙ d) in
    omega (arith, one, one_there sent i n a at_i e)
two_there (f ∷ sent) (suc i) (suc j) n a b at_i at_j e d differ =
    omega (arith, two_there sent i j n a b at_i at_j e d (λ same. differ (ap suc same)))

-- 1 for each frame
abbrev each_one : NumberedFrame → ℕ
each_one f = 1

weigh_length : (frames : List NumberedFrame) → weigh each_one frames ≡ length frames
weigh_length [] = refl
weigh_length (f ∷ frames) = omega (arith, weigh_length frames)

made_length : (made : List Transmission) (n : ℕ) → weigh each_one (all_made n made) ≡ length made
made_length [] n = refl
made_length (t ∷ made) n = omega (arith, made_length made (suc n))

pub contenders_send_once : (units : List UnitModel) → ContendersSendOnce units
contenders_send_once units events =
    let f = fleet_run holding_kind (new_fleet (map holding units)) events in
    let weighs : Weighs f =
    run_keeps events (new_fleet (map holding units))
    (λ w. omega (arith, nothing_weighs w units)) in
    record {
      once = λ m n a b at_m at_n same. by f weighs m n a b at_m at_n same (eq_test m n);
      fewer = omega (arith, weighs each_one, weigh_length f.sent, made_length f.made 0);
    }
  where
    by : (f : FleetModel HoldingUnit) → Weighs f → (m n : ℕ) (a b : NumberedFrame)
        → slice_get f.sent m ≡ Some a → slice_get f.sent n ≡ Some b → a.number ≡ b.number
        → ((eqb m n ≡ true) × (m ≡ n)) ⊎ ((eqb m n ≡ false) × (m ≢ n)) → m ≡ n
    by f weighs m n a b at_m at_n same (inl g) = g.1
    by f weighs m n a b at_m at_n same (inr g) =
        absurd (omega (
          arith,
          weighs (is_of b.number),
          made_once f.made 0 b.number,
          two_there f.sent m n b.number a b at_m at_n same refl g.1,
        ))
