-- What waits in a unit of a fleet are the frames of the fleet that wait in it.
use Rattle.std.proofs.Common.{◌≡◌, ◌⊎◌, ◌&&◌, ◌+◌, ℕ, zero, suc, List, [], ◌∷◌, ◌++◌, filter, length}
use Rattle.std.proofs.Common.{Bool, true, false, cond, not, Option, Some, None, is_some, refl, sym}
use Rattle.std.proofs.Common.{subst, inl, inr, take, drop}
use Rattle.std.specs.Prelude.{nat_le, nat_lt, slice_get}
use Rattle.std.specs.List.{AllZip}
use Rattle.std.specs.Option.{option_map}
use Rattle.its_gnvalue.specs.Values.{mid_of}
use Rattle.its_linkframe.specs.Copies.{is_copy}
use Rattle.its_linkframe.specs.Frames.{frame_octets}
use Rattle.its_linkframe.specs.Secured.{secured_octets, sealed}
use Rattle.its_station.specs.Receiving.{VerifiedCall}
use Rattle.its_model.specs.History.{is_among}
use Rattle.its_model.specs.Packet.{Transmission}
use Rattle.its_model.specs.Calls as model
use Rattle.its_model.specs.Calls.{Answer, Refusal}
use Rattle.its_model.specs.Contention.{Fate, HeldFrame, contends_for, counted, counted_as, due_of}
use Rattle.its_model.specs.Contention.{after_copy, after_due, first_due, frame_at, kept_at, late_after}
use Rattle.its_model.specs.Contention.{fate, place_due, places, stays, without}
use Rattle.its_model.specs.Station.{StationModel, Step, moment_refusal}
use Rattle.its_contention.specs.Buffer.{Buffer, after_drop, after_late, after_release, more}
use Rattle.its_contention.specs.Contending.{after_acceptance, after_duplicate, by_fate}
use Rattle.its_contention.specs.Waiting.{Waiting}
use Rattle.its_governor.specs.declared.governor.Governor.{Governor}
use Rattle.its_governor.specs.Governing.{admits}
use Rattle.its_unit.specs.Contending.{Released, after_accepting, after_due_frame, after_frame}
use Rattle.its_unit.specs.Contending.{after_own_answer, contended, has_room_for_due}
use Rattle.its_unit.specs.Contending.{release_first, released_or, waiting_of}
use Rattle.its_unit.specs.Releases.{release_by, release_of, release_step}
use Rattle.its_unit.specs.Runs.{UnitCallAt, is_withheld}
use Rattle.its_unit.specs.Unit.{UnitCall, UnitModel, frame_of, octets_in, passed_step}
use Rattle.its_unit.specs.Unit.{receiver_of, refused_step, step_within, unit_step}
use Rattle.its_unit.specs.Fleets.{NumberedFrame}
use Rattle.its_unit.specs.Holding.{AreFramesOf, AreReleased, HoldingUnit, IsFrameOf, ReleasedFrame}
use Rattle.its_unit.specs.Holding.{frame_there, frames_accepting, frames_after, frames_by_fate}
use Rattle.its_unit.specs.Holding.{frames_calling}
use Rattle.its_unit.specs.Holding.{frames_first, frames_hearing, frames_in_time, frames_left, frames_or}
use Rattle.its_unit.specs.Holding.{frames_owning, frames_receiving, frames_released}
use Rattle.its_unit.specs.Holding.{frames_released_by, frames_released_of, frames_without, kept_with}

-- ---- two lists, place by place

zip_append : {X Y : Type 0} (R : X → Y → Type 0) (xs : List X) (ys : List Y) (more : List X)
    (others : List Y) → AllZip R xs ys → AllZip R more others → AllZip R (xs ++ more) (ys ++ others)
zip_append R [] [] more others h rest = rest
zip_append R [] (y ∷ ys) more others h rest = absurd h
zip_append R (x ∷ xs) [] more others h rest = absurd h
zip_append R (x ∷ xs) (y ∷ ys) more others h rest =
    (h.0, zip_append R xs ys more others h.1 rest)

zip_take : {X Y : Type 0} (R : X → Y → Type 0) (k : ℕ) (xs : List X) (ys : List Y)
    → AllZip R xs ys → AllZip R (take k xs) (take k ys)
zip_take R zero xs ys h = tt
zip_take R (suc k) [] [] h = tt
zip_take R (suc k) [] (y ∷ ys) h = absurd h
zip_take R (suc k) (x ∷ xs) [] h = absurd h
zip_take R (suc k) (x ∷ xs) (y ∷ ys) h = (h.0, zip_take R k xs ys h.1)

zip_drop : {X Y : Type 0} (R : X → Y → Type 0) (k : ℕ) (xs : List X) (ys : List Y)
    → AllZip R xs ys → AllZip R (drop k xs) (drop k ys)
zip_drop R zero xs ys h = h
zip_drop R (suc k) [] [] h = tt
zip_drop R (suc k) [] (y ∷ ys) h = absurd h
zip_drop R (suc k) (x ∷ xs) [] h = absurd h
zip_drop R (suc k) (x ∷ xs) (y ∷ ys) h = zip_drop R k xs ys h.1

zip_keep : {X Y : Type 0} (R : X → Y → Type 0) (test : X → Bool) (xs : List X) (ys : List Y)
    → AllZip R xs ys → AllZip R (filter test xs) (kept_with test xs ys)
zip_keep R test [] [] h = tt
zip_keep R test [] (y ∷ ys) h = absurd h
zip_keep R test (x ∷ xs) [] h = absurd h
zip_keep R test (x ∷ xs) (y ∷ ys) h = by (test x) (zip_keep R test xs ys h.1)
  where
    by : (b : Bool) → AllZip R (filter test xs) (kept_with test xs ys)
        → AllZip R (cond b (x ∷ filter test xs) (filter test xs))
        (cond b (y ∷ kept_with test xs ys) (kept_with test xs ys))
    by true rest = (h.0, rest)
    by false rest = rest

-- ---- the frames that wait, and those of the fleet

abbrev pub Aligned : List (HeldFrame Waiting) → List NumberedFrame → Type 0
Aligned held frames = AllZip (λ h f. IsFrameOf h.frame f) held frames

abbrev IsHeld : HeldFrame Waiting → NumberedFrame → Type 0
IsHeld h f = IsFrameOf h.frame f

-- a count of copies leaves the frame
counted_frame : (b : Bool) (sender : ℕ) (h : HeldFrame Waiting) (f : NumberedFrame) → IsHeld h f
    → IsHeld (counted_as b sender h) f
counted_frame false sender h f is = is
counted_frame true sender h f is = by (is_among sender h.senders)
  where
    by : (b : Bool) → IsHeld (cond (true && not b) (record h { senders = sender ∷ h.senders }) h) f
    by true = is
    by false = is

heard : (copies sender : ℕ) (is_copy : Waiting → Bool) (held : List (HeldFrame Waiting))
    (frames : List NumberedFrame) → Aligned held frames
    → Aligned (after_copy copies is_copy sender held)
    (kept_with (λ h. stays copies (counted is_copy sender h)) held frames)
heard copies sender is_copy [] [] h = tt
heard copies sender is_copy [] (f ∷ frames) h = absurd h
heard copies sender is_copy (x ∷ held) [] h = absurd h
heard copies sender is_copy (x ∷ held) (f ∷ frames) h =
    by (stays copies (counted is_copy sender x)) (heard copies sender is_copy held frames h.1)
  where
    by : (b : Bool)
        → Aligned (after_copy copies is_copy sender held)
        (kept_with (λ h. stays copies (counted is_copy sender h)) held frames)
        → Aligned (cond b (counted is_copy sender x ∷ after_copy copies is_copy sender held)
        (after_copy copies is_copy sender held))
        (cond b (f ∷ kept_with (λ h. stays copies (counted is_copy sender h)) held frames)
        (kept_with (λ h. stays copies (counted is_copy sender h)) held frames))
    by true rest = (counted_frame (is_copy x.frame) sender x f h.0, rest)
    by false rest = rest

-- the frames without the one at a place, and that one
without_place : (held : List (HeldFrame Waiting)) (frames : List NumberedFrame) (o : Option ℕ)
    → Aligned held frames → Aligned (without held o) (frames_without frames o)
without_place held frames None h = h
without_place held frames (Some k) h =
    zip_append IsHeld (take k held) (take k frames) (drop (suc k) held) (drop (suc k) frames)
    (zip_take IsHeld k held frames h) (zip_drop IsHeld (suc k) held frames h)

there_at : (k : ℕ) (held : List (HeldFrame Waiting)) (frames : List NumberedFrame)
    → Aligned held frames
    → AreReleased (option_map (λ h. h.frame) (slice_get held k)) (slice_get frames k)
there_at k [] [] h = tt
there_at k [] (f ∷ frames) h = absurd h
there_at k (x ∷ held) [] h = absurd h
there_at zero (x ∷ held) (f ∷ frames) h = h.0
there_at (suc k) (x ∷ held) (f ∷ frames) h = there_at k held frames h.1

there : (held : List (HeldFrame Waiting)) (frames : List NumberedFrame) (o : Option ℕ)
    → Aligned held frames → AreReleased (frame_at held o) (frame_there frames o)
there held frames None h = tt
there held frames (Some k) h = there_at k held frames h

-- ---- a release

-- what is released, and what waits then
record IsAligned (r : Released) (f : ReleasedFrame) : Type 0 where
  waiting : Aligned r.waiting.held f.frames
  sent : AreReleased r.frame f.sent

release_aligned : (b : Buffer Waiting) (now : ℕ) (frames : List NumberedFrame)
    → Aligned b.held frames
    → Aligned (after_release b now).held
    (frames_left (first_due now b.held) (place_due now b.held) frames)
release_aligned b now frames h = by (first_due now b.held)
  where
    by : (o : Option Waiting) → Aligned (cond (is_some o) (record b {
      held = after_due now b.held;
      counts = record b.counts { released = more b.counts.released 1 };
    }) b).held (frames_left o (place_due now b.held) frames)
    by None = h
    by (Some w) = without_place b.held frames (place_due now b.held) h

drop_aligned : (b : Buffer Waiting) (now : ℕ) (frames : List NumberedFrame)
    → Aligned b.held frames
    → Aligned (after_drop b now).held
    (frames_left (first_due now b.held) (place_due now b.held) frames)
drop_aligned b now frames h = by (first_due now b.held)
  where
    by : (o : Option Waiting) → Aligned (cond (is_some o) (record b {
      held = after_due now b.held;
      counts = record b.counts { dropped = more b.counts.dropped 1 };
    }) b).held (frames_left o (place_due now b.held) frames)
    by None = h
    by (Some w) = without_place b.held frames (place_due now b.held) h

first_aligned : (most address now : ℕ) (b : Buffer Waiting) (g : Governor)
    (frames : List NumberedFrame) → Aligned b.held frames
    → IsAligned (release_first most address now b g) (frames_first most address now b g frames)
first_aligned zero address now b g frames h = record { waiting = h; sent = tt }
first_aligned (suc most) address now b g frames h =
    by (first_due now b.held) refl (has_room_for_due g address now (first_due now b.held))
    (release_first most address now (after_drop b now)
    (after_due_frame g now (first_due now b.held) false))
    (frames_first most address now (after_drop b now)
    (after_due_frame g now (first_due now b.held) false)
    (frames_left (first_due now b.held) (place_due now b.held) frames))
    (first_aligned most address now (after_drop b now)
    (after_due_frame g now (first_due now b.held) false)
    (frames_left (first_due now b.held) (place_due now b.held) frames)
    (drop_aligned b now frames h))
  where
    by : (o : Option Waiting) → first_due now b.held ≡ o → (room : Bool) (r : Released)
        (f : ReleasedFrame) → IsAligned r f
        → IsAligned (released_or b g now o room r) (frames_or frames (place_due now b.held) o room f)
    by None e room r f next = record { waiting = h; sent = tt }
    by (Some w) e true r f next = record {
      waiting = subst (λ (o : Option Waiting). Aligned (after_release b now).held
          (frames_left o (place_due now b.held) frames)) e (release_aligned b now frames h);
      sent = subst (λ (o : Option Waiting). AreReleased o
          (frame_there frames (place_due now b.held))) e
          (there b.held frames (place_due now b.held) h);
    }
    by (Some w) e false r f next = next

-- what a unit releases, and what waits in it then
pub record KeepsFrames (frames : List NumberedFrame) (after : UnitModel)
    (sent : Option NumberedFrame) (released : Option Waiting) : Type 0 where
  pub waiting : AreFramesOf after.contention frames
  pub sent_is : AreReleased released sent

pub released_keeps : (u : HoldingUnit) (now : ℕ) → AreFramesOf u.unit.contention u.frames
    → KeepsFrames (frames_released u now).frames (release_step u.unit now).unit
    (frames_released u now).sent (release_step u.unit now).frame
released_keeps u now h = by (moment_refusal u.unit.station now)
  where
    held_by : (o : Option (Buffer Waiting)) → u.unit.contention ≡ o
        → KeepsFrames (frames_released_of u now o).frames (release_of u.unit now o).unit
        (frames_released_of u now o).sent (release_of u.unit now o).frame
    held_by None e = record { waiting = h; sent_is = tt }
    held_by (Some b) e =
        let all : Aligned b.held u.frames =
        subst (λ (o : Option (Buffer Waiting)). AreFramesOf o u.frames) e h in
        let r = first_aligned (length (kept_at now b.held)) u.unit.station.address now
        (after_late b now) u.unit.governor (frames_in_time now b u.frames)
        (zip_keep IsHeld (λ x. nat_le now (x.due + late_after)) b.held u.frames all) in
        record { waiting = r.waiting; sent_is = r.sent }

    by : (o : Option Refusal)
        → KeepsFrames (frames_released_by u now o).frames (release_by u.unit now o).unit
        (frames_released_by u now o).sent (release_by u.unit now o).frame
    by (Some refusal) = record { waiting = h; sent_is = tt }
    by None = held_by u.unit.contention refl

-- ---- a call

-- the octets of a frame in which a packet goes on are those of the frame, plain or secured
pub says : (call : UnitCall) (t : Transmission)
    → (octets_in call t ≡ frame_octets t)
    ⊎ ((message : List ℕ) × (octets_in call t ≡ secured_octets (sealed t message)))
says (UnitCall.Own call) t = inl refl
says (UnitCall.MoveAt timestamp place accurate speed heading) t = inl refl
says (UnitCall.SendShbFor options request) t = inl refl
says (UnitCall.Receive call) t = inl refl
says (UnitCall.ReceiveVerified (VerifiedCall.Came v)) t = inr (v.message, refl)
says (UnitCall.ReceiveVerified (VerifiedCall.Faulty fault)) t = inl refl

-- a call that brought no frame
owned : (o : Option (Buffer Waiting)) (a : Answer Transmission) (frames : List NumberedFrame)
    → AreFramesOf o frames → AreFramesOf (after_own_answer o a) (frames_owning a frames)
owned None model.Answer.Restarted frames h = refl
owned (Some b) model.Answer.Restarted frames h = tt
owned o (model.Answer.Accepted handed relayed) frames h = h
owned o (model.Answer.Ignored why) frames h = h
owned o (model.Answer.Sent sent) frames h = h
owned o model.Answer.Moved frames h = h
owned o model.Answer.Opened frames h = h
owned o model.Answer.Closed frames h = h
owned o model.Answer.Quiet frames h = h
owned o (model.Answer.Refused refusal) frames h = h

-- a packet that goes on
accepting : (n : ℕ) (b : Buffer Waiting) (g : Governor) (s : StationModel) (now : ℕ)
    (call : UnitCall) (knew : Bool) (t : Transmission) (relayed : Option Transmission)
    (frames : List NumberedFrame) → Aligned b.held frames
    → Aligned (after_accepting b (Some g) s now (octets_in call) knew t relayed).held
    (frames_accepting n (Some b) g s now t relayed frames)
accepting n b g s now call knew t None frames h = h
accepting n b g s now call knew t (Some relay) frames h = by (admits g now t)
  where
    frame : Waiting
    frame = waiting_of (octets_in call relay) knew t

    new : NumberedFrame
    new = record { number = n; frame = relay }

    by_its_fate : (contends waits : Bool) (due : ℕ)
        → Aligned (by_fate contends b frame (cond waits (Fate.Waits due) Fate.Goes)).held
        (frames_by_fate frames new (cond waits (Fate.Waits due) Fate.Goes))
    by_its_fate contends true due =
        zip_append IsHeld b.held frames (record { frame = frame; due = due; senders = [] } ∷ [])
        (new ∷ []) h (says call relay, tt)
    by_its_fate true false due = h
    by_its_fate false false due = h

    by : (x : Bool) → Aligned (cond x (after_acceptance b s now t relay frame) b).held
        (frames_by_fate frames new (cond x (fate b.rule s now b.held t (Some relay)) Fate.Goes))
    by true =
        by_its_fate (contends_for s t.pdu.body)
        (contends_for s t.pdu.body && nat_lt (length b.held) places) (due_of b.rule s now t)
    by false = h

-- a frame that came
framed : (n : ℕ) (u : UnitModel) (c : UnitCallAt) (step : Step) (knew : Bool) (t : Transmission)
    (o : Option (Buffer Waiting)) (a : Answer Transmission) (frames : List NumberedFrame)
    → u.contention ≡ o → AreFramesOf o frames
    → AreFramesOf (after_frame o (Some u.governor) step.station c.now (octets_in c.call) knew t a)
    (frames_receiving n u c step t a frames)
framed n u c step knew t o (model.Answer.Accepted handed relayed) frames e h =
    subst (λ (x : Option (Buffer Waiting)). AreFramesOf
    (after_frame o (Some u.governor) step.station c.now (octets_in c.call) knew t
    (model.Answer.Accepted handed relayed))
    (frames_accepting n x u.governor step.station c.now t relayed frames)) (sym e) (by o h)
  where
    by : (o : Option (Buffer Waiting)) → AreFramesOf o frames
        → AreFramesOf (option_map (λ b. after_accepting b (Some u.governor) step.station c.now
        (octets_in c.call) knew t relayed) o)
        (frames_accepting n o u.governor step.station c.now t relayed frames)
    by None h = h
    by (Some b) h = accepting n b u.governor step.station c.now c.call knew t relayed frames h
framed n u c step knew t o (model.Answer.Ignored model.Why.Duplicate) frames e h =
    subst (λ (x : Option (Buffer Waiting)). AreFramesOf
    (after_frame o (Some u.governor) step.station c.now (octets_in c.call) knew t
    (model.Answer.Ignored model.Why.Duplicate))
    (frames_hearing x (mid_of step.station.address) (octets_in c.call t) t.link_source frames))
    (sym e) (by o h)
  where
    by : (o : Option (Buffer Waiting)) → AreFramesOf o frames
        → AreFramesOf (option_map (λ b. after_duplicate b (mid_of step.station.address)
        (octets_in c.call t) t.link_source) o)
        (frames_hearing o (mid_of step.station.address) (octets_in c.call t) t.link_source frames)
    by None h = h
    by (Some b) h =
        heard b.rule.copies t.link_source
        (λ held. is_copy (mid_of step.station.address) held.octets (octets_in c.call t)) b.held
        frames h
framed n u c step knew t o (model.Answer.Ignored model.Why.NotForMe) frames e h = h
framed n u c step knew t o (model.Answer.Ignored model.Why.OwnSource) frames e h = h
framed n u c step knew t o (model.Answer.Ignored model.Why.SenderMismatch) frames e h = h
framed n u c step knew t o (model.Answer.Sent sent) frames e h = h
framed n u c step knew t o model.Answer.Moved frames e h = h
framed n u c step knew t o model.Answer.Opened frames e h = h
framed n u c step knew t o model.Answer.Closed frames e h = h
framed n u c step knew t o model.Answer.Restarted frames e h = h
framed n u c step knew t o model.Answer.Quiet frames e h = h
framed n u c step knew t o (model.Answer.Refused refusal) frames e h = h

calling : (n : ℕ) (u : UnitModel) (c : UnitCallAt) (step : Step) (knew : Bool)
    (f : Option Transmission) (frames : List NumberedFrame) → AreFramesOf u.contention frames
    → AreFramesOf (contended u.contention (Some u.governor) step.station c.now (octets_in c.call)
    knew f step.answer) (frames_calling n u c step f frames)
calling n u c step knew None frames h = owned u.contention step.answer frames h
calling n u c step knew (Some t) frames h =
    framed n u c step knew t u.contention step.answer frames refl h

pub called_keeps : (n : ℕ) (u : HoldingUnit) (c : UnitCallAt)
    → AreFramesOf u.unit.contention u.frames
    → AreFramesOf (unit_step u.unit c.now c.call).unit.contention (frames_after n u c)
called_keeps n u c h = by (is_withheld u.unit c)
  where
    step : Step
    step = step_within u.unit.station c.now c.call

    by : (b : Bool) → AreFramesOf (cond b (refused_step u.unit)
        (passed_step u.unit c.now c.call (step_within u.unit.station c.now c.call))).unit.contention
        (cond b u.frames (frames_calling n u.unit c (step_within u.unit.station c.now c.call)
        (frame_of c.call) u.frames))
    by true = h
    by false =
        calling n u.unit c step
        (receiver_of u.unit.station c.now (frame_of c.call)).knew_source (frame_of c.call) u.frames h
