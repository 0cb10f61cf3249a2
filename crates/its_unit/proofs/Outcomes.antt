-- What becomes of each frame in which an accepted packet goes on, and which copies cancel one.
use Rattle.std.proofs.Common.{◌≡◌, ◌⊎◌, ◌&&◌, ℕ, List, [], ◌∷◌, Bool, true, false, cond, not, Option}
use Rattle.std.proofs.Common.{Some, None, is_some, refl, sym, ap, subst, ◌∙◌, inl, inr}
use Rattle.its_gnvalue.specs.Values.{mid_of}
use Rattle.its_linkframe.specs.Copies.{is_copy}
use Rattle.its_model.specs.History.{is_among}
use Rattle.its_model.specs.Packet.{Message, Transmission}
use Rattle.its_model.specs.Calls as model
use Rattle.its_model.specs.Calls.{Answer}
use Rattle.its_model.specs.Contention.{Fate}
use Rattle.its_model.specs.Station.{StationModel, Step}
use Rattle.its_station.specs.Counting.{one_more}
use Rattle.its_contention.specs.Buffer.{Buffer}
use Rattle.its_contention.specs.Waiting.{Waiting}
use Rattle.its_governor.specs.declared.governor.Governor.{Governor}
use Rattle.its_governor.specs.declared.receiver.Receiver.{Receiver}
use Rattle.its_governor.specs.Governing.{after_call, after_delivery, after_forwarding, governed}
use Rattle.its_governor.specs.Governing.{has_room_for, is_echo, is_over_rate, is_repeated_in, kept}
use Rattle.its_governor.specs.Governing.{passed_of}
use Rattle.its_unit.specs.Contending.{at_once, due_by, due_of_answer, fate_in, left_in}
use Rattle.its_unit.specs.Fleets.{frame_passed}
use Rattle.its_unit.specs.Outcomes.{AreDifferent, CopiesComeFromOthers, CopyCame, Each}
use Rattle.its_unit.specs.Outcomes.{ForwardsAreSettled, GoesAtOnce, IsCopyInAct}
use Rattle.its_unit.specs.Outcomes.{IsSuppressed, Waits}
use Rattle.its_unit.specs.Runs.{UnitAct, UnitCallAt, after_act, counted_at, counted_in}
use Rattle.its_unit.specs.Runs.{counted_in_act, counted_since, is_withheld, unit_acts}
use Rattle.its_unit.specs.Unit.{UnitModel, UnitStep, answer_by, frame_of, octets_in}
use Rattle.its_unit.specs.Unit.{receiver_of, step_within, unit_step}
use Rattle.its_unit.proofs.ActLimits.{no_request}
use Rattle.its_unit.proofs.HoldingUnits.{none_passes}
use Rattle.its_unit.proofs.Runs.{step_by_rate}

-- ---- each frame is settled

-- a frame that goes at once passes the limits, or is withheld and counted
abbrev suppressed_after : Governor → ℕ → Transmission → Bool → Bool → Bool → ℕ
suppressed_after g now t forwards repeated delivers =
    (after_delivery (after_forwarding g now t.pdu.vector.address true forwards) now t repeated
    delivers).counts.suppressed

withheld_counted : (g : Governor) (now : ℕ) (t : Transmission) (repeated delivers : Bool)
    → suppressed_after g now t false repeated delivers ≡ one_more g.counts.suppressed
withheld_counted g now t true true = refl
withheld_counted g now t true false = refl
withheld_counted g now t false true = refl
withheld_counted g now t false false = refl

-- by whether it is an echo, and whether the limits have room
passes_or_counts : (g : Governor) (now : ℕ) (t : Transmission) (message : Option Message)
    (relay : Transmission) (delivers room echo : Bool)
    → (frame_passed (answer_by echo (model.Answer.Accepted (kept delivers message)
    (kept (true && (not echo && room)) (Some relay)))) ≡ Some relay)
    ⊎ ((frame_passed (answer_by echo (model.Answer.Accepted (kept delivers message)
    (kept (true && (not echo && room)) (Some relay)))) ≡ None)
    × (suppressed_after g now t (true && (not echo && room)) echo delivers
    ≡ one_more g.counts.suppressed))
passes_or_counts g now t message relay delivers true false = inl refl
passes_or_counts g now t message relay delivers false false =
    inr (refl, withheld_counted g now t false delivers)
passes_or_counts g now t message relay delivers room true =
    inr (refl, withheld_counted g now t true delivers)

-- what comes of an accepted packet, by what contention leaves of the answer and when a frame is due
abbrev Settled : Governor → Receiver → ℕ → Transmission → Transmission → Option ℕ
    → Answer Transmission → Type 0
Settled g r now t relay due left =
    ((d : ℕ) × (due ≡ Some d)
    × (frame_passed (answer_by (is_repeated_in g now (Some t) left)
    (governed g r now (Some t) left)) ≡ None))
    ⊎ ((due ≡ None)
    × ((frame_passed (answer_by (is_repeated_in g now (Some t) left)
    (governed g r now (Some t) left)) ≡ Some relay)
    ⊎ ((frame_passed (answer_by (is_repeated_in g now (Some t) left)
    (governed g r now (Some t) left)) ≡ None)
    × ((after_call g r now false (Some t) left).counts.suppressed
    ≡ one_more g.counts.suppressed))))

at_once_settled : (g : Governor) (r : Receiver) (now : ℕ) (t : Transmission)
    (handed : Option Message) (relay : Transmission)
    → Settled g r now t relay None (model.Answer.Accepted handed (Some relay))
at_once_settled g r now t handed relay =
    inr (
      refl,
      passes_or_counts g now t handed relay
          (passed_of g r now t (is_some handed) true).delivers (has_room_for g r now t)
          (is_echo g.delivered now t),
    )

settled : (o : Option (Buffer Waiting)) (g : Governor) (s : StationModel) (r : Receiver) (now : ℕ)
    (t : Transmission) (handed : Option Message) (relay : Transmission)
    → Settled g r now t relay
    (due_of_answer o (Some g) s now (Some t) (model.Answer.Accepted handed (Some relay)))
    (left_in o (Some g) s now (Some t) (model.Answer.Accepted handed (Some relay)))
settled None g s r now t handed relay = at_once_settled g r now t handed relay
settled (Some b) g s r now t handed relay = by (fate_in b (Some g) s now t (Some relay))
  where
    by : (f : Fate)
        → Settled g r now t relay (due_by f)
        (model.Answer.Accepted handed (at_once (Some relay) f))
    by (Fate.Waits due) =
        inl (due, refl, none_passes (is_echo g.delivered now t) g r now t handed)
    by Fate.Goes = at_once_settled g r now t handed relay
    by Fate.Stays = at_once_settled g r now t handed relay

-- the step of a unit, by the frame that came and the answer of the station
abbrev step_with : UnitModel → UnitCallAt → Step → Option Transmission → Answer Transmission
    → Bool → UnitStep
step_with u c step f a request =
    record {
      due = due_of_answer u.contention (Some u.governor) step.station c.now f a;
      cancelled = false;
      answer = answer_by (is_repeated_in u.governor c.now f
          (left_in u.contention (Some u.governor) step.station c.now f a))
          (governed u.governor (receiver_of u.station c.now f) c.now f
          (left_in u.contention (Some u.governor) step.station c.now f a));
      unit = record u {
        governor = after_call u.governor (receiver_of u.station c.now f) c.now request f
            (left_in u.contention (Some u.governor) step.station c.now f a);
      };
    }

-- it has the same due time, answer and limits
record IsAlike (x y : UnitStep) : Type 0 where
  due : x.due ≡ y.due
  answer : x.answer ≡ y.answer
  limits : x.unit.governor ≡ y.unit.governor

alike : (u : UnitModel) (c : UnitCallAt) (t : Transmission) (a : Answer Transmission)
    → frame_of c.call ≡ Some t → (step_within u.station c.now c.call).answer ≡ a
    → IsAlike (unit_step u c.now c.call)
    (step_with u c (step_within u.station c.now c.call) (Some t) a false)
alike u c t a brought answered =
    let step = step_within u.station c.now c.call in
    let request = no_request c.call t brought in
    let within : is_withheld u c ≡ false =
    ap (λ (b : Bool). b && is_over_rate u.governor u.station.clock c.now) request in
    record {
      due = ap (λ (b : Bool). (step_by_rate u c b).due) within
          ∙ ap (λ (f : Option Transmission). (step_with u c step f step.answer false).due) brought
          ∙ ap (λ (x : Answer Transmission). (step_with u c step (Some t) x false).due) answered;
      answer = ap (λ (b : Bool). (step_by_rate u c b).answer) within
          ∙ ap (λ (f : Option Transmission). (step_with u c step f step.answer false).answer) brought
          ∙ ap (λ (x : Answer Transmission). (step_with u c step (Some t) x false).answer) answered;
      limits = ap (λ (b : Bool). (step_by_rate u c b).unit.governor) within
          ∙ ap (λ (b : Bool). (step_with u c step (frame_of c.call) step.answer b).unit.governor)
          request
          ∙ ap (λ (f : Option Transmission).
          (step_with u c step f step.answer false).unit.governor) brought
          ∙ ap (λ (x : Answer Transmission).
          (step_with u c step (Some t) x false).unit.governor) answered;
    }

pub forwards_are_settled : (u : UnitModel) → ForwardsAreSettled u
forwards_are_settled u acts next t handed relay brought answered =
    by (settled (unit_acts u acts).contention (unit_acts u acts).governor
    (step_within (unit_acts u acts).station next.now next.call).station
    (receiver_of (unit_acts u acts).station next.now (Some t)) next.now t handed relay)
  where
    same : IsAlike (unit_step (unit_acts u acts) next.now next.call)
        (step_with (unit_acts u acts) next
        (step_within (unit_acts u acts).station next.now next.call) (Some t)
        (model.Answer.Accepted handed (Some relay)) false)
    same = alike (unit_acts u acts) next t (model.Answer.Accepted handed (Some relay)) brought answered

    by : Settled (unit_acts u acts).governor
        (receiver_of (unit_acts u acts).station next.now (Some t)) next.now t relay
        (due_of_answer (unit_acts u acts).contention (Some (unit_acts u acts).governor)
        (step_within (unit_acts u acts).station next.now next.call).station next.now (Some t)
        (model.Answer.Accepted handed (Some relay)))
        (left_in (unit_acts u acts).contention (Some (unit_acts u acts).governor)
        (step_within (unit_acts u acts).station next.now next.call).station next.now (Some t)
        (model.Answer.Accepted handed (Some relay)))
        → let step = unit_step (unit_acts u acts) next.now next.call in
        Waits step ⊎ (GoesAtOnce step relay ⊎ IsSuppressed (unit_acts u acts) step)
    by (inl w) = inl (record {
      due = w.0;
      due_is = same.due ∙ w.1;
      sent = ap frame_passed same.answer ∙ w.2;
    })
    by (inr (none, inl goes)) = inr (inl (record {
      due = same.due ∙ none;
      sent = ap frame_passed same.answer ∙ goes;
    }))
    by (inr (none, inr stays)) = inr (inr (record {
      due = same.due ∙ none;
      sent = ap frame_passed same.answer ∙ stays.0;
      counted = ap (λ (g : Governor). g.counts.suppressed) same.limits ∙ stays.1;
    }))

-- ---- copies come from other stations

each_by : {P Q : ℕ → Type 0} → ((s : ℕ) → P s → Q s) → (senders : List ℕ) → Each P senders
    → Each Q senders
each_by by [] all = tt
each_by by (s ∷ senders) all = (by s all.0, each_by by senders all.1)

-- the sender is one of these
abbrev IsOneOf : List ℕ → ℕ → Type 0
IsOneOf [] s = ⊥
IsOneOf (x ∷ senders) s = (x ≡ s) ⊎ IsOneOf senders s

each_own : (senders : List ℕ) → Each (IsOneOf senders) senders
each_own [] = tt
each_own (x ∷ senders) =
    (inl refl, each_by (λ s is. inr is) senders (each_own senders))

-- the senders after an act are those before, or one more from which a copy came
abbrev After : UnitModel → UnitAct → List ℕ → List ℕ → List ℕ → Type 0
After u a waiting senders new =
    (new ≡ senders)
    ⊎ ((s : ℕ) × (new ≡ s ∷ senders) × (is_among s senders ≡ false) × IsCopyInAct u a waiting s)

-- by what the station answered to a frame
answered_counts : (u : UnitModel) (c : UnitCallAt) (waiting senders : List ℕ) (t : Transmission)
    (a : Answer Transmission) → frame_of c.call ≡ Some t
    → (step_within u.station c.now c.call).answer ≡ a
    → After u (UnitAct.Calls c) waiting senders
    (counted_at (mid_of (step_within u.station c.now c.call).station.address)
    (octets_in c.call t) t.link_source a waiting senders)
answered_counts u c waiting senders t (model.Answer.Ignored model.Why.Duplicate) brought answered =
    by (is_copy own waiting (octets_in c.call t)) (is_among t.link_source senders) refl refl
  where
    own : ℕ
    own = mid_of (step_within u.station c.now c.call).station.address

    by : (copy among : Bool)
        → is_copy (mid_of (step_within u.station c.now c.call).station.address) waiting
        (octets_in c.call t) ≡ copy
        → is_among t.link_source senders ≡ among
        → After u (UnitAct.Calls c) waiting senders
        (cond (copy && not among) (t.link_source ∷ senders) senders)
    by false among is there = inl refl
    by true true is there = inl refl
    by true false is there = inr (
      t.link_source,
      refl,
      there,
      record {
        packet = t;
        brought = brought;
        from = refl;
        duplicate = answered;
        copy = is;
      },
    )
answered_counts u c waiting senders t (model.Answer.Ignored model.Why.NotForMe) brought answered =
    inl refl
answered_counts u c waiting senders t (model.Answer.Ignored model.Why.OwnSource) brought answered =
    inl refl
answered_counts u c waiting senders t (model.Answer.Ignored model.Why.SenderMismatch) brought
    answered = inl refl
answered_counts u c waiting senders t (model.Answer.Accepted handed relayed) brought answered =
    inl refl
answered_counts u c waiting senders t (model.Answer.Sent sent) brought answered = inl refl
answered_counts u c waiting senders t model.Answer.Moved brought answered = inl refl
answered_counts u c waiting senders t model.Answer.Opened brought answered = inl refl
answered_counts u c waiting senders t model.Answer.Closed brought answered = inl refl
answered_counts u c waiting senders t model.Answer.Restarted brought answered = inl refl
answered_counts u c waiting senders t model.Answer.Quiet brought answered = inl refl
answered_counts u c waiting senders t (model.Answer.Refused refusal) brought answered = inl refl

act_counts : (u : UnitModel) (a : UnitAct) (waiting senders : List ℕ)
    → After u a waiting senders (counted_in_act u a waiting senders)
act_counts u (UnitAct.Releases now) waiting senders = inl refl
act_counts u (UnitAct.Calls c) waiting senders = by (frame_of c.call) refl
  where
    by : (f : Option Transmission) → frame_of c.call ≡ f
        → After u (UnitAct.Calls c) waiting senders
        (counted_in c (step_within u.station c.now c.call) f waiting senders)
    by None is = inl refl
    by (Some t) is =
        answered_counts u c waiting senders t (step_within u.station c.now c.call).answer is refl

different : (acts : List UnitAct) (u : UnitModel) (waiting senders : List ℕ)
    → AreDifferent senders → AreDifferent (counted_since u acts waiting senders)
different [] u waiting senders are = are
different (a ∷ acts) u waiting senders are =
    different acts (after_act u a) waiting (counted_in_act u a waiting senders)
    (by (act_counts u a waiting senders))
  where
    by : After u a waiting senders (counted_in_act u a waiting senders)
        → AreDifferent (counted_in_act u a waiting senders)
    by (inl same) = subst AreDifferent (sym same) are
    by (inr more) = subst AreDifferent (sym more.1) (more.2, are)

each_came : (acts : List UnitAct) (u : UnitModel) (waiting senders : List ℕ)
    → Each (λ s. IsOneOf senders s ⊎ CopyCame u acts waiting s)
    (counted_since u acts waiting senders)
each_came [] u waiting senders = each_by (λ s is. inl is) senders (each_own senders)
each_came (a ∷ acts) u waiting senders =
    each_by {Q = λ s. IsOneOf senders s ⊎ CopyCame u (a ∷ acts) waiting s}
    (λ s is. by s (act_counts u a waiting senders) is)
    (counted_since (after_act u a) acts waiting (counted_in_act u a waiting senders))
    (each_came acts (after_act u a) waiting (counted_in_act u a waiting senders))
  where
    one : (s : ℕ) (more : (x : ℕ) × (counted_in_act u a waiting senders ≡ x ∷ senders)
        × (is_among x senders ≡ false) × IsCopyInAct u a waiting x)
        → IsOneOf (more.0 ∷ senders) s
        → IsOneOf senders s ⊎ CopyCame u (a ∷ acts) waiting s
    one s more (inl same) = inr (inl (subst (IsCopyInAct u a waiting) same more.3))
    one s more (inr old) = inl old

    by : (s : ℕ) → After u a waiting senders (counted_in_act u a waiting senders)
        → IsOneOf (counted_in_act u a waiting senders) s
        ⊎ CopyCame (after_act u a) acts waiting s
        → IsOneOf senders s ⊎ CopyCame u (a ∷ acts) waiting s
    by s after (inr came) = inr (inr came)
    by s (inl same) (inl is) = inl (subst (λ (l : List ℕ). IsOneOf l s) same is)
    by s (inr more) (inl is) = one s more (subst (λ (l : List ℕ). IsOneOf l s) more.1 is)

pub copies_come_from_others : (u : UnitModel) → CopiesComeFromOthers u
copies_come_from_others u acts since waiting =
    let now = unit_acts u acts in (
      different since now waiting [] tt,
      each_by (λ s is. by now s is) (counted_since now since waiting [])
          (each_came since now waiting []),
    )
  where
    by : (now : UnitModel) (s : ℕ) → ⊥ ⊎ CopyCame now since waiting s
        → CopyCame now since waiting s
    by now s (inl none) = absurd none
    by now s (inr came) = came
