-- A frame that waits is cancelled by copies that came since it was put.
use Rattle.std.proofs.Common.{◌≡◌, ◌≤◌, ◌+◌, ◌&&◌, ℕ, zero, suc, List, [], ◌∷◌, ◌++◌, length, map}
use Rattle.std.proofs.Common.{filter, not, take, drop, All, Bool, true, false, cond, ltb, is_some}
use Rattle.std.proofs.Common.{Option, Some, None, refl, sym, ap, ◌∙◌, subst, arith, append_assoc}
use Rattle.std.specs.Prelude.{nat_le, nat_lt, slice_index_or}
use Rattle.std.proofs.lemmas.Bool.{false≢true, ltb-false}
use Rattle.std.proofs.lemmas.List.Elements.{All-nil, All-cons, All-append, All-filter, All-take}
use Rattle.std.proofs.lemmas.List.Elements.{All-drop, All-map, All-weaker, filter_passes}
use Rattle.its_gnvalue.specs.Values.{mid_of}
use Rattle.its_linkframe.specs.Copies.{is_copy}
use Rattle.its_model.specs.History.{is_among}
use Rattle.its_model.specs.Packet.{Message, Transmission}
use Rattle.its_model.specs.Calls as model
use Rattle.its_model.specs.Calls.{Answer, Refusal}
use Rattle.its_model.specs.Contention.{ContentionRule, Fate, HeldFrame, IsRule, contends_for, counted}
use Rattle.its_model.specs.Contention.{after_due, counted_as, due_of, first_due, kept_at, late_after}
use Rattle.its_model.specs.Contention.{newly_held, place_due, places, stays, without}
use Rattle.its_model.specs.Contention.{cancelled_by, sender_distance, tie_of}
use Rattle.its_model.proofs.ContenderPuts.{wait_greatest}
use Rattle.its_model.specs.Station.{StationModel, moment_refusal}
use Rattle.its_contention.specs.Buffer.{Buffer, after_drop, after_late, after_release, cleared, empty}
use Rattle.its_contention.specs.Buffer.{more}
use Rattle.its_contention.specs.Contending.{after_acceptance, after_duplicate, by_fate}
use Rattle.its_contention.specs.Waiting.{Waiting}
use Rattle.its_governor.specs.declared.governor.Governor.{Governor}
use Rattle.its_governor.specs.Governing.{admits}
use Rattle.its_unit.specs.Contending.{Released, after_accepting, after_due_frame, after_frame}
use Rattle.its_unit.specs.Contending.{after_own_answer, contended, governed_release, has_room_for_due}
use Rattle.its_unit.specs.Contending.{release_first, released_or, waiting_of}
use Rattle.its_unit.specs.Releases.{release_by, release_of}
use Rattle.its_unit.specs.Runs.{CancelledByTheSameFrame, IsCancelledByCopies, UnitAct, UnitCallAt}
use Rattle.its_unit.specs.Runs.{WasPut, after_act, cancelled_for, cancelled_of}
use Rattle.its_unit.specs.Runs.{counted_at, counted_by, counted_in, counted_in_act, counted_since}
use Rattle.its_unit.specs.Runs.{is_withheld, unit_acts}
use Rattle.its_unit.specs.Unit.{UnitModel, UnitStep, frame_of, octets_in, passed_step, receiver_of}
use Rattle.its_unit.specs.Unit.{UnitCall, refused_step, step_within}
use Rattle.its_unit.proofs.Puts.{wait_least}

-- ---- what holds of each frame that waits

abbrev Holds : Type 1
Holds = HeldFrame Waiting → Type 0

abbrev with_senders : HeldFrame Waiting → List ℕ → HeldFrame Waiting
with_senders h senders = record h { senders = senders }

-- the buffer afterwards: it has this rule, and this holds of each frame in it
abbrev Leaves : Holds → ContentionRule → Option (Buffer Waiting) → Type 0
Leaves R rule new = (b : Buffer Waiting) × (new ≡ Some b) × (b.rule ≡ rule) × All R b.held

all_without : (R : Holds) (o : Option ℕ) (held : List (HeldFrame Waiting)) → All R held
    → All R (without held o)
all_without R None held all = all
all_without R (Some i) held all =
    All-append R (take i held) (drop (suc i) held) (All-take R i held all)
    (All-drop R (suc i) held all)

-- without the one that is due, which is released or dropped
drop_keeps : (R : Holds) (b : Buffer Waiting) (now : ℕ) → All R b.held
    → ((after_drop b now).rule ≡ b.rule) × All R (after_drop b now).held
drop_keeps R b now all = by (is_some (first_due now b.held))
  where
    by : (x : Bool) → let after = cond x (record b {
      held = after_due now b.held;
      counts = record b.counts { dropped = more b.counts.dropped 1 };
    }) b in (after.rule ≡ b.rule) × All R after.held
    by true = (refl, all_without R (place_due now b.held) b.held all)
    by false = (refl, all)

take_keeps : (R : Holds) (b : Buffer Waiting) (now : ℕ) → All R b.held
    → ((after_release b now).rule ≡ b.rule) × All R (after_release b now).held
take_keeps R b now all = by (is_some (first_due now b.held))
  where
    by : (x : Bool) → let after = cond x (record b {
      held = after_due now b.held;
      counts = record b.counts { released = more b.counts.released 1 };
    }) b in (after.rule ≡ b.rule) × All R after.held
    by true = (refl, all_without R (place_due now b.held) b.held all)
    by false = (refl, all)

-- ---- an act

-- a copy is counted
copy_counts : (R : Holds) (h : HeldFrame Waiting) (b : Bool) (sender : ℕ)
    → R (with_senders h (counted_by b sender h.senders)) → R (counted_as b sender h)
copy_counts R h b sender r = by (b && not (is_among sender h.senders)) r
  where
    by : (x : Bool) → R (with_senders h (cond x (sender ∷ h.senders) h.senders))
        → R (cond x (record h { senders = sender ∷ h.senders }) h)
    by true r = r
    by false r = r

all_counted : (R : Holds) (test : Waiting → Bool) (sender : ℕ) (held : List (HeldFrame Waiting))
    → All (λ h. R (with_senders h (counted_by (test h.frame) sender h.senders))) held
    → All R (map (counted test sender) held)
all_counted R test sender held all =
    All-map R (counted test sender) held
    (All-weaker (λ h. R (with_senders h (counted_by (test h.frame) sender h.senders)))
    (λ h. R (counted test sender h)) (λ h r. copy_counts R h (test h.frame) sender r) held all)

-- what a frame puts that came
abbrev PutsBy : Holds → Buffer Waiting → Governor → StationModel → ℕ → (Transmission → List ℕ)
    → Bool → Transmission → Option Transmission → Type 0
PutsBy R b g s now octets knew t relayed =
    (relay : Transmission) → relayed ≡ Some relay → admits g now t ≡ true
    → R (newly_held (waiting_of (octets relay) knew t) (due_of b.rule s now t))

fate_keeps : (R : Holds) (b : Buffer Waiting) (frame : Waiting) (contends : Bool) (due : ℕ)
    (waits : Bool) → All R b.held → R (newly_held frame due)
    → let after = by_fate contends b frame (cond waits (Fate.Waits due) Fate.Goes) in
    (after.rule ≡ b.rule) × All R after.held
fate_keeps R b frame contends due true all put = (
  refl,
  All-append R b.held (newly_held frame due ∷ []) all
      (All-cons R (newly_held frame due) [] put (All-nil R)),
)
fate_keeps R b frame true due false all put = (refl, all)
fate_keeps R b frame false due false all put = (refl, all)

accept_keeps : (R : Holds) (b : Buffer Waiting) (g : Governor) (s : StationModel) (now : ℕ)
    (octets : Transmission → List ℕ) (knew : Bool) (t : Transmission)
    (relayed : Option Transmission) → All R b.held → PutsBy R b g s now octets knew t relayed
    → let after = after_accepting b (Some g) s now octets knew t relayed in
    (after.rule ≡ b.rule) × All R after.held
accept_keeps R b g s now octets knew t None all put = (refl, all)
accept_keeps R b g s now octets knew t (Some relay) all put = by (admits g now t) refl
  where
    frame : Waiting
    frame = waiting_of (octets relay) knew t

    by : (x : Bool) → admits g now t ≡ x
        → let after = cond x (after_acceptance b s now t relay frame) b in
        (after.rule ≡ b.rule) × All R after.held
    by true is =
        fate_keeps R b frame (contends_for s t.pdu.body) (due_of b.rule s now t)
        (contends_for s t.pdu.body && nat_lt (length b.held) places) all (put relay refl is)
    by false is = (refl, all)

frame_keeps : (R : Holds) (b : Buffer Waiting) (g : Governor) (s : StationModel) (now : ℕ)
    (octets : Transmission → List ℕ) (knew : Bool) (t : Transmission) (a : Answer Transmission)
    → All (λ h. R (with_senders h (counted_at (mid_of s.address) (octets t) t.link_source a
    h.frame.octets h.senders))) b.held
    → ((handed : Option Message) (relayed : Option Transmission)
    → a ≡ model.Answer.Accepted handed relayed → PutsBy R b g s now octets knew t relayed)
    → Leaves R b.rule (after_frame (Some b) (Some g) s now octets knew t a)
frame_keeps R b g s now octets knew t (model.Answer.Accepted handed relayed) all put =
    let kept = accept_keeps R b g s now octets knew t relayed all (put handed relayed refl) in
    (after_accepting b (Some g) s now octets knew t relayed, refl, kept.0, kept.1)
frame_keeps R b g s now octets knew t (model.Answer.Ignored model.Why.Duplicate) all put =
    let test = λ (held : Waiting). is_copy (mid_of s.address) held.octets (octets t) in (
      after_duplicate b (mid_of s.address) (octets t) t.link_source,
      refl,
      refl,
      All-filter (stays b.rule.copies) R (map (counted test t.link_source) b.held)
          (all_counted R test t.link_source b.held all),
    )
frame_keeps R b g s now octets knew t (model.Answer.Ignored model.Why.NotForMe) all put =
    (b, refl, refl, all)
frame_keeps R b g s now octets knew t (model.Answer.Ignored model.Why.OwnSource) all put =
    (b, refl, refl, all)
frame_keeps R b g s now octets knew t (model.Answer.Ignored model.Why.SenderMismatch) all put =
    (b, refl, refl, all)
frame_keeps R b g s now octets knew t (model.Answer.Sent sent) all put = (b, refl, refl, all)
frame_keeps R b g s now octets knew t model.Answer.Moved all put = (b, refl, refl, all)
frame_keeps R b g s now octets knew t model.Answer.Opened all put = (b, refl, refl, all)
frame_keeps R b g s now octets knew t model.Answer.Closed all put = (b, refl, refl, all)
frame_keeps R b g s now octets knew t model.Answer.Restarted all put = (b, refl, refl, all)
frame_keeps R b g s now octets knew t model.Answer.Quiet all put = (b, refl, refl, all)
frame_keeps R b g s now octets knew t (model.Answer.Refused refusal) all put =
    (b, refl, refl, all)

own_keeps : (R : Holds) (b : Buffer Waiting) (a : Answer Transmission) → All R b.held
    → Leaves R b.rule (after_own_answer (Some b) a)
own_keeps R b model.Answer.Restarted all = (cleared b, refl, refl, All-nil R)
own_keeps R b (model.Answer.Accepted handed relayed) all = (b, refl, refl, all)
own_keeps R b (model.Answer.Ignored why) all = (b, refl, refl, all)
own_keeps R b (model.Answer.Sent sent) all = (b, refl, refl, all)
own_keeps R b model.Answer.Moved all = (b, refl, refl, all)
own_keeps R b model.Answer.Opened all = (b, refl, refl, all)
own_keeps R b model.Answer.Closed all = (b, refl, refl, all)
own_keeps R b model.Answer.Quiet all = (b, refl, refl, all)
own_keeps R b (model.Answer.Refused refusal) all = (b, refl, refl, all)

-- a release
release_keeps : (R : Holds) (most address now : ℕ) (b : Buffer Waiting) (g : Governor)
    → All R b.held
    → let after = (release_first most address now b g).waiting in
    (after.rule ≡ b.rule) × All R after.held
release_keeps R zero address now b g all = (refl, all)
release_keeps R (suc most) address now b g all =
    let kept = drop_keeps R b now all in
    let next = release_keeps R most address now (after_drop b now)
    (after_due_frame g now (first_due now b.held) false) kept.1 in
    by (first_due now b.held) (has_room_for_due g address now (first_due now b.held))
    (release_first most address now (after_drop b now)
    (after_due_frame g now (first_due now b.held) false)) (next.0 ∙ kept.0) next.1
  where
    by : (first : Option Waiting) (room : Bool) (rest : Released) → rest.waiting.rule ≡ b.rule
        → All R rest.waiting.held
        → let after = (released_or b g now first room rest).waiting in
        (after.rule ≡ b.rule) × All R after.held
    by None room rest rule next = (refl, all)
    by (Some frame) true rest rule next = take_keeps R b now all
    by (Some frame) false rest rule next = (rule, next)

released_keeps : (R : Holds) (u : UnitModel) (now : ℕ) (b : Buffer Waiting) (o : Option Refusal)
    → u.contention ≡ Some b → All R b.held
    → Leaves R b.rule (release_by u now o).unit.contention
released_keeps R u now b (Some refusal) is all = (b, is, refl, all)
released_keeps R u now b None is all =
    let kept = release_keeps R (length (kept_at now b.held)) u.station.address now
    (after_late b now) u.governor
    (All-filter (λ h. nat_le now (h.due + late_after)) R b.held all) in
    subst (λ (o : Option (Buffer Waiting)). Leaves R b.rule (release_of u now o).unit.contention)
    (sym is)
    ((governed_release u.station.address now b u.governor).waiting, refl, kept.0, kept.1)

-- what an act puts
abbrev PutsIn : Holds → ContentionRule → UnitModel → UnitAct → Type 0
PutsIn R rule u (UnitAct.Releases now) = Unit {0}
PutsIn R rule u (UnitAct.Calls c) =
    (t : Transmission) (handed : Option Message) (relay : Transmission) → frame_of c.call ≡ Some t
    → (step_within u.station c.now c.call).answer ≡ model.Answer.Accepted handed (Some relay)
    → admits u.governor c.now t ≡ true
    → R (newly_held (waiting_of (octets_in c.call relay)
    (receiver_of u.station c.now (frame_of c.call)).knew_source t)
    (due_of rule (step_within u.station c.now c.call).station c.now t))

call_keeps : (R : Holds) (u : UnitModel) (c : UnitCallAt) (b : Buffer Waiting)
    (f : Option Transmission) → frame_of c.call ≡ f
    → All (λ h. R (with_senders h (counted_in c (step_within u.station c.now c.call) f h.frame.octets
    h.senders))) b.held
    → PutsIn R b.rule u (UnitAct.Calls c)
    → Leaves R b.rule (contended (Some b) (Some u.governor) (step_within u.station c.now c.call).station
    c.now (octets_in c.call) (receiver_of u.station c.now (frame_of c.call)).knew_source f
    (step_within u.station c.now c.call).answer)
call_keeps R u c b None came all put =
    own_keeps R b (step_within u.station c.now c.call).answer all
call_keeps R u c b (Some t) came all put =
    let step = step_within u.station c.now c.call in
    frame_keeps R b u.governor step.station c.now (octets_in c.call)
    (receiver_of u.station c.now (frame_of c.call)).knew_source t step.answer all
    (λ handed relayed answered relay some admitted.
    put t handed relay came
    (answered ∙ ap (λ (r : Option Transmission). model.Answer.Accepted handed r) some) admitted)

-- a request that is refused for its rate brings no frame, and nothing is counted
none_counted : (R : Holds) (u : UnitModel) (now : ℕ) (call : UnitCall) (b : Buffer Waiting)
    → is_withheld u (record { now = now; call = call }) ≡ true
    → All (λ h. R (with_senders h (counted_in (record { now = now; call = call })
    (step_within u.station now call) (frame_of call) h.frame.octets h.senders))) b.held
    → All R b.held
none_counted R u now (UnitCall.Own call) b is all = all
none_counted R u now (UnitCall.SendShbFor options request) b is all = all
none_counted R u now (UnitCall.MoveAt timestamp place accurate speed heading) b is all = all
none_counted R u now (UnitCall.Receive call) b is all = absurd (false≢true is)
none_counted R u now (UnitCall.ReceiveVerified call) b is all = absurd (false≢true is)

abbrev step_if : UnitModel → UnitCallAt → Bool → UnitStep
step_if u c withheld =
    cond withheld (refused_step u) (passed_step u c.now c.call (step_within u.station c.now c.call))

act_keeps : (R : Holds) (u : UnitModel) (a : UnitAct) (b : Buffer Waiting) → u.contention ≡ Some b
    → All (λ h. R (with_senders h (counted_in_act u a h.frame.octets h.senders))) b.held
    → PutsIn R b.rule u a → Leaves R b.rule (after_act u a).contention
act_keeps R u (UnitAct.Releases now) b is all put =
    released_keeps R u now b (moment_refusal u.station now) is all
act_keeps R u (UnitAct.Calls c) b is all put = by (is_withheld u c) refl
  where
    by : (w : Bool) → is_withheld u c ≡ w → Leaves R b.rule (step_if u c w).unit.contention
    by true e = (b, is, refl, none_counted R u c.now c.call b e all)
    by false e =
        let step = step_within u.station c.now c.call in
        subst (λ (o : Option (Buffer Waiting)). Leaves R b.rule
        (contended o (Some u.governor) step.station c.now (octets_in c.call)
        (receiver_of u.station c.now (frame_of c.call)).knew_source (frame_of c.call) step.answer))
        (sym is) (call_keeps R u c b (frame_of c.call) refl all put)

-- ---- many acts

-- this holds of a frame when these acts were done
abbrev After : Holds → UnitModel → List UnitAct → Holds
After R u acts h = R (with_senders h (counted_since u acts h.frame.octets h.senders))

abbrev AllPut : Holds → ContentionRule → UnitModel → List UnitAct → Type 0
AllPut R rule u acts =
    (earlier : List UnitAct) (a : UnitAct) (since : List UnitAct) → acts ≡ earlier ++ a ∷ since
    → PutsIn (After R (after_act (unit_acts u earlier) a) since) rule (unit_acts u earlier) a

acts_keep : (acts : List UnitAct) (R : Holds) (u : UnitModel) (b : Buffer Waiting)
    → u.contention ≡ Some b → All (After R u acts) b.held → AllPut R b.rule u acts
    → Leaves R b.rule (unit_acts u acts).contention
acts_keep [] R u b is all put = (b, is, refl, all)
acts_keep (a ∷ acts) R u b is all put =
    let next = act_keeps (After R (after_act u a) acts) u a b is all (put [] a acts refl) in
    let last = acts_keep acts R (after_act u a) next.0 next.1 next.3
    (subst (λ (r : ContentionRule). AllPut R r (after_act u a) acts) (sym next.2)
    (λ earlier e since split.
    put (a ∷ earlier) e since (ap (λ (xs : List UnitAct). a ∷ xs) split))) in
    (last.0, last.1, last.2 ∙ next.2, last.3)

acts_both : (xs ys : List UnitAct) (u : UnitModel)
    → unit_acts u (xs ++ ys) ≡ unit_acts (unit_acts u xs) ys
acts_both [] ys u = refl
acts_both (a ∷ xs) ys u = acts_both xs ys (after_act u a)

since_both : (xs ys : List UnitAct) (u : UnitModel) (waiting senders : List ℕ)
    → counted_since u (xs ++ ys) waiting senders
    ≡ counted_since (unit_acts u xs) ys waiting (counted_since u xs waiting senders)
since_both [] ys u waiting senders = refl
since_both (a ∷ xs) ys u waiting senders =
    since_both xs ys (after_act u a) waiting (counted_in_act u a waiting senders)

-- ---- the frames that wait after acts

-- the unit when the frame was put
abbrev unit_at : UnitModel → List UnitAct → UnitCallAt → UnitModel
unit_at u earlier call = unit_acts u (earlier ++ UnitAct.Calls call ∷ [])

record Waits (rule : ContentionRule) (u : UnitModel) (acts : List UnitAct) (h : HeldFrame Waiting)
    : Type 0 where
  put : WasPut rule u acts h.frame h.due
  senders : h.senders
      ≡ counted_since (unit_at u put.earlier put.call) put.since h.frame.octets []

puts : (rule : ContentionRule) (u : UnitModel) (acts : List UnitAct) → IsRule rule
    → AllPut (Waits rule u acts) rule u acts
puts rule u acts fits earlier (UnitAct.Releases now) since split = tt
puts rule u acts fits earlier (UnitAct.Calls c) since split =
    λ t handed relay came answered admitted.
    let s = (step_within (unit_acts u earlier).station c.now c.call).station in
    let tie = tie_of s t.pdu.body in
    let distance = sender_distance s c.now t.link_source in
    record {
      put = record {
        earlier = earlier;
        call = c;
        since = since;
        packet = t;
        handed = handed;
        relay = relay;
        split = split;
        brought = came;
        answered = answered;
        admitted = admitted;
        octets = refl;
        due_is = refl;
        not_before = omega (arith, wait_least distance rule tie fits.order);
        not_after = omega (arith, wait_greatest distance rule tie);
      };
      senders = ap (λ (v : UnitModel). counted_since v since (octets_in c.call relay) [])
          (sym (acts_both earlier (UnitAct.Calls c ∷ []) u));
    }

-- ---- and after a duplicate

record Heard (rule : ContentionRule) (u : UnitModel) (acts : List UnitAct) (call : UnitCallAt)
    (h : HeldFrame Waiting) : Type 0 where
  put : WasPut rule u acts h.frame h.due
  senders : h.senders
      ≡ counted_since (unit_at u put.earlier put.call) (put.since ++ UnitAct.Calls call ∷ [])
      h.frame.octets []

heard_of : (rule : ContentionRule) (u : UnitModel) (acts : List UnitAct) (call : UnitCallAt)
    (t : Transmission) (h : HeldFrame Waiting)
    → frame_of call.call ≡ Some t
    → (step_within (unit_acts u acts).station call.now call.call).answer
    ≡ model.Answer.Ignored model.Why.Duplicate
    → Waits rule u acts h
    → Heard rule u acts call (with_senders h (counted_by
    (is_copy (mid_of (step_within (unit_acts u acts).station call.now call.call).station.address)
    h.frame.octets (octets_in call.call t)) t.link_source h.senders))
heard_of rule u acts call t h came answered w =
    let p = w.put in
    let step = step_within (unit_acts u acts).station call.now call.call in
    let own = mid_of step.station.address in
    let octets = octets_in call.call t in
    let there : unit_acts (unit_at u p.earlier p.call) p.since ≡ unit_acts u acts =
    sym (acts_both (p.earlier ++ UnitAct.Calls p.call ∷ []) p.since u)
    ∙ ap (unit_acts u) (append_assoc p.earlier (UnitAct.Calls p.call ∷ []) p.since ∙ sym p.split) in
    record {
      put = p;
      senders = ap (λ (s : List ℕ).
          counted_by (is_copy own h.frame.octets octets) t.link_source s) w.senders
          ∙ sym (since_both p.since (UnitAct.Calls call ∷ []) (unit_at u p.earlier p.call)
          h.frame.octets []
          ∙ ap (λ (v : UnitModel). counted_in_act v (UnitAct.Calls call) h.frame.octets
          (counted_since (unit_at u p.earlier p.call) p.since h.frame.octets [])) there
          ∙ ap (λ (f : Option Transmission). counted_in call step f h.frame.octets
          (counted_since (unit_at u p.earlier p.call) p.since h.frame.octets [])) came
          ∙ ap (λ (a : Answer Transmission). counted_at own octets t.link_source a h.frame.octets
          (counted_since (unit_at u p.earlier p.call) p.since h.frame.octets [])) answered);
    }

-- enough senders were counted of a frame that does not stay
not_less : (n k : ℕ) (b : Bool) → ltb n k ≡ b → not b ≡ true → k ≤ n
not_less n k true is e = absurd (false≢true e)
not_less n k false is e = ltb-false n k is

cancelled_one : (rule : ContentionRule) (u : UnitModel) (acts : List UnitAct) (call : UnitCallAt)
    (h : HeldFrame Waiting) → Heard rule u acts call h → not (stays rule.copies h) ≡ true
    → IsCancelledByCopies rule u acts call h.frame
cancelled_one rule u acts call h heard out =
    record {
      due = h.due;
      put = heard.put;
      enough = subst (λ (s : List ℕ). rule.copies ≤ length s) heard.senders
          (not_less (length h.senders) rule.copies (stays rule.copies h) refl out);
    }

cancelled_by_it : (rule : ContentionRule) (u : UnitModel) (acts : List UnitAct)
    (call : UnitCallAt) (held : List (HeldFrame Waiting)) (t : Transmission)
    → frame_of call.call ≡ Some t
    → (step_within (unit_acts u acts).station call.now call.call).answer
    ≡ model.Answer.Ignored model.Why.Duplicate
    → All (Waits rule u acts) held
    → All (IsCancelledByCopies rule u acts call) (cancelled_by rule.copies
    (λ f. is_copy (mid_of (step_within (unit_acts u acts).station call.now call.call).station.address)
    f.octets (octets_in call.call t)) t.link_source held)
cancelled_by_it rule u acts call held t came answered all =
    let own = mid_of (step_within (unit_acts u acts).station call.now call.call).station.address in
    let test = λ (f : Waiting). is_copy own f.octets (octets_in call.call t) in
    let heard = map (counted test t.link_source) held in
    let out = λ (h : HeldFrame Waiting). not (stays rule.copies h) in
    let are : All (Heard rule u acts call) heard =
    all_counted (Heard rule u acts call) test t.link_source held
    (All-weaker (Waits rule u acts)
    (λ h. Heard rule u acts call
    (with_senders h (counted_by (test h.frame) t.link_source h.senders)))
    (λ h w. heard_of rule u acts call t h came answered w) held all) in
    let left = All-filter out (Heard rule u acts call) heard are in
    All-map (IsCancelledByCopies rule u acts call) (λ h. h.frame) (filter out heard)
    (λ i d lt. cancelled_one rule u acts call (slice_index_or (filter out heard) i d)
    (left i d lt) (filter_passes out heard i d lt))

by_answer : (rule : ContentionRule) (u : UnitModel) (acts : List UnitAct) (call : UnitCallAt)
    (b : Buffer Waiting) (t : Transmission) (a : Answer Transmission) → b.rule ≡ rule
    → frame_of call.call ≡ Some t
    → (step_within (unit_acts u acts).station call.now call.call).answer ≡ a
    → All (Waits rule u acts) b.held
    → All (IsCancelledByCopies rule u acts call) (cancelled_of (Some b)
    (mid_of (step_within (unit_acts u acts).station call.now call.call).station.address)
    (octets_in call.call t) t.link_source a)
by_answer rule u acts call b t (model.Answer.Ignored model.Why.Duplicate) same came answered all =
    let own = mid_of (step_within (unit_acts u acts).station call.now call.call).station.address in
    subst (λ (r : ContentionRule). All (IsCancelledByCopies rule u acts call)
    (cancelled_by r.copies (λ f. is_copy own f.octets (octets_in call.call t)) t.link_source b.held))
    (sym same) (cancelled_by_it rule u acts call b.held t came answered all)
by_answer rule u acts call b t (model.Answer.Ignored model.Why.NotForMe) same came answered all =
    All-nil (IsCancelledByCopies rule u acts call)
by_answer rule u acts call b t (model.Answer.Ignored model.Why.OwnSource) same came answered all =
    All-nil (IsCancelledByCopies rule u acts call)
by_answer rule u acts call b t (model.Answer.Ignored model.Why.SenderMismatch) same came answered all =
    All-nil (IsCancelledByCopies rule u acts call)
by_answer rule u acts call b t (model.Answer.Accepted handed relayed) same came answered all =
    All-nil (IsCancelledByCopies rule u acts call)
by_answer rule u acts call b t (model.Answer.Sent sent) same came answered all =
    All-nil (IsCancelledByCopies rule u acts call)
by_answer rule u acts call b t model.Answer.Moved same came answered all =
    All-nil (IsCancelledByCopies rule u acts call)
by_answer rule u acts call b t model.Answer.Opened same came answered all =
    All-nil (IsCancelledByCopies rule u acts call)
by_answer rule u acts call b t model.Answer.Closed same came answered all =
    All-nil (IsCancelledByCopies rule u acts call)
by_answer rule u acts call b t model.Answer.Restarted same came answered all =
    All-nil (IsCancelledByCopies rule u acts call)
by_answer rule u acts call b t model.Answer.Quiet same came answered all =
    All-nil (IsCancelledByCopies rule u acts call)
by_answer rule u acts call b t (model.Answer.Refused refusal) same came answered all =
    All-nil (IsCancelledByCopies rule u acts call)

pub cancelled : (u : UnitModel) → CancelledByTheSameFrame u
cancelled u rule acts call fits is =
    let last = acts_keep acts (Waits rule u acts) u (empty rule) is
    (All-nil (After (Waits rule u acts) u acts)) (puts rule u acts fits) in
    by (frame_of call.call) refl last.0 last.1 last.2 last.3
  where
    by : (f : Option Transmission) → frame_of call.call ≡ f → (b : Buffer Waiting)
        → (unit_acts u acts).contention ≡ Some b → b.rule ≡ rule → All (Waits rule u acts) b.held
        → All (IsCancelledByCopies rule u acts call) (cancelled_for (unit_acts u acts) call
        (step_within (unit_acts u acts).station call.now call.call) f)
    by None came b held same all = All-nil (IsCancelledByCopies rule u acts call)
    by (Some t) came b held same all =
        let step = step_within (unit_acts u acts).station call.now call.call in
        subst (λ (o : Option (Buffer Waiting)). All (IsCancelledByCopies rule u acts call)
        (cancelled_of o (mid_of step.station.address) (octets_in call.call t) t.link_source
        step.answer)) (sym held)
        (by_answer rule u acts call b t step.answer same came refl all)
