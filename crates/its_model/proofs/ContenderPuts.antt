-- What a station that contends releases is what it answered when it accepted the packet, in time.
use Rattle.std.proofs.Common.{◌≡◌, ℕ, zero, suc, ◌+◌, ◌-◌, ◌*◌, ◌/◌, ◌%◌, ◌^◌, ◌≤◌, ◌<◌, List, []}
use Rattle.std.proofs.Common.{◌∷◌, ◌++◌, length, map, Bool, true, false, cond, not, ◌&&◌}
use Rattle.std.proofs.Common.{Option, Some, None, eqb, refl, sym, ap, subst, ◌∙◌, take, drop}
use Rattle.std.proofs.Common.{inl, inr, arith, mod-lt, All}
use Rattle.std.specs.Prelude.{◌≢◌, ◌⊎◌, slice_get, slice_index_or, nat_le, nat_lt}
use Rattle.std.specs.Prelude.{position}
use Rattle.std.specs.List.{position_or_len, prefix_len}
use Rattle.std.specs.Option.{option_map}
use Rattle.std.proofs.lemmas.Bool.Decides.{nat_tests}
use Rattle.std.proofs.lemmas.List.Elements.{All-nil, All-cons, All-head, All-tail, All-append}
use Rattle.std.proofs.lemmas.List.Elements.{All-filter, All-take, All-drop, filter_passes}
use Rattle.its_gnvalue.specs.Values.{mid_of}
use Rattle.its_model.specs.Packet.{Message, Transmission}
use Rattle.its_model.specs.History.{is_among}
use Rattle.its_model.specs.Calls.{Call, Refusal, Answer}
use Rattle.its_model.specs.Calls.Call.{Own, Receive, Junk}
use Rattle.its_model.specs.Calls.Why.{NotForMe, OwnSource, SenderMismatch, Duplicate}
use Rattle.its_model.specs.Calls.Answer.{Moved, Opened, Closed, Restarted, Quiet, Sent, Ignored}
use Rattle.its_model.specs.Calls.Answer.{Accepted, Refused}
use Rattle.its_model.specs.Station.{StationModel, moment_refusal}
use Rattle.its_model.specs.Isolation.{TimedCall}
use Rattle.its_model.specs.Contention.{ContentionRule, IsRule, shorter, wait, tie_of}
use Rattle.its_model.specs.Contention.{sender_distance, due_of, HeldFrame, newly_held, places}
use Rattle.its_model.specs.Contention.{counted, counted_as, stays, late_after, kept_at}
use Rattle.its_model.specs.Contention.{next_due, place_due_by, place_due, frame_at, without}
use Rattle.its_model.specs.Contention.{contends_for, after_fate, after_own}
use Rattle.its_model.specs.Contention.{after_answer, release_by}
use Rattle.its_model.specs.Contention.Fate.{Goes, Waits}
use Rattle.its_model.specs.Contender.{Keeping, Contender, TimedAct, step_at, after_act}
use Rattle.its_model.specs.Contender.{contender_run, contender_of, WasPut, IsReleasedAsPut}
use Rattle.its_model.specs.Contender.{ReleasedIsWhatWouldBeSent}
use Rattle.its_model.specs.Contender.TimedAct.{Asks, ReleasesAt}
use Rattle.its_model.proofs.NumberTests.{eq_test}

-- ---- how long a frame waits

-- no more than this is taken off
at_most : (k : ℕ) (r : ContentionRule) (d2 : ℕ) → shorter r d2 k ≤ k
unfolding shorter
at_most zero r d2 = omega arith
at_most (suc k) r d2 =
    by (nat_le ((suc k * (100 * r.range)) ^ 2) ((r.max_wait - r.min_wait) ^ 2 * d2)) (at_most k r d2)
  where
    by : (b : Bool) → shorter r d2 k ≤ k → cond b (suc k) (shorter r d2 k) ≤ suc k
    by true le = omega arith
    by false le = omega (arith, le)

-- nor by the tie
tie_at_most : (tie span : ℕ) → tie % (span / 2 + 1) ≤ span
tie_at_most tie span =
    let some : 0 < span / 2 + 1 = omega arith in
    let less : tie % (span / 2 + 1) < span / 2 + 1 = mod-lt tie some in
    let half : span / 2 ≤ span = omega arith in
    omega (arith, less, half)

-- from the least wait to the greatest
wait_least : (o : Option ℕ) (r : ContentionRule) (tie : ℕ) → r.min_wait ≤ r.max_wait
    → r.min_wait ≤ wait r tie o
unfolding wait
wait_least None r tie order =
    omega (arith, order, tie_at_most tie (r.max_wait - r.min_wait))
wait_least (Some d2) r tie order =
    omega (arith, order, at_most (r.max_wait - r.min_wait) r d2)

pub wait_greatest : (o : Option ℕ) (r : ContentionRule) (tie : ℕ) → wait r tie o ≤ r.max_wait
unfolding wait
wait_greatest None r tie = omega arith
wait_greatest (Some d2) r tie = omega arith

-- ---- what holds of each frame that waits, by the frame and when it is due

abbrev AllHeld : {F : Type 0} → (F → ℕ → Type 0) → List (HeldFrame F) → Type 0
AllHeld P held = All (λ h. P h.frame h.due) held

-- a count of copies leaves both
counted_keeps : {F : Type 0} (b : Bool) (P : F → ℕ → Type 0) (sender : ℕ) (h : HeldFrame F)
    → P h.frame h.due → P (counted_as b sender h).frame (counted_as b sender h).due
counted_keeps false P sender h p = p
counted_keeps true P sender h p = by (is_among sender h.senders)
  where
    by : (b : Bool)
        → let x = cond (true && not b) (record h { senders = sender ∷ h.senders }) h in
        P x.frame x.due
    by true = p
    by false = p

all_counted : {F : Type 0} (held : List (HeldFrame F)) (P : F → ℕ → Type 0) (is_copy : F → Bool)
    (sender : ℕ) → AllHeld P held → AllHeld P (map (counted is_copy sender) held)
all_counted [] P is_copy sender all = all
all_counted {F} (h ∷ held) P is_copy sender all =
    let Q = λ (x : HeldFrame F). P x.frame x.due in
    All-cons Q (counted is_copy sender h) (map (counted is_copy sender) held)
    (counted_keeps (is_copy h.frame) P sender h (All-head Q h held all))
    (all_counted held P is_copy sender (All-tail Q h held all))

-- without one
all_without : {F : Type 0} (o : Option ℕ) (held : List (HeldFrame F)) (P : F → ℕ → Type 0)
    → AllHeld P held → AllHeld P (without held o)
all_without None held P all = all
all_without {F} (Some i) held P all =
    let Q = λ (x : HeldFrame F). P x.frame x.due in
    All-append Q (take i held) (drop (suc i) held) (All-take Q i held all)
    (All-drop Q (suc i) held all)

-- ---- an act keeps it, if it holds of what is put

-- of what an acceptance puts
accepted_keeps : {F : Type 0} (relayed : Option Transmission) (P : F → ℕ → Type 0)
    (kept : Transmission → F) (r : ContentionRule) (s : StationModel) (moment : ℕ)
    (t : Transmission) (handed : Option Message) (held : List (HeldFrame F))
    → AllHeld P held
    → ((relay : Transmission) → relayed ≡ Some relay → P (kept relay) (due_of r s moment t))
    → AllHeld P (after_answer r (λ n a b. false) kept s moment (Receive t) held
    (Accepted handed relayed))
accepted_keeps None P kept r s moment t handed held all put = all
accepted_keeps {F} (Some relay) P kept r s moment t handed held all put =
    by (contends_for s t.pdu.body && nat_lt (length held) places)
  where
    by : (b : Bool)
        → AllHeld P (after_fate kept held (Some relay) (cond b (Waits (due_of r s moment t)) Goes))
    by false = all
    by true =
        let Q = λ (x : HeldFrame F). P x.frame x.due in
        let one = newly_held (kept relay) (due_of r s moment t) in
        All-append Q held (one ∷ []) all (All-cons Q one [] (put relay refl) (All-nil Q))

own_keeps : {F : Type 0} (answer : Answer Transmission) (P : F → ℕ → Type 0)
    (held : List (HeldFrame F)) → AllHeld P held → AllHeld P (after_own held answer)
own_keeps Moved P held all = all
own_keeps Opened P held all = all
own_keeps Closed P held all = all
own_keeps {F} Restarted P held all = All-nil (λ (x : HeldFrame F). P x.frame x.due)
own_keeps Quiet P held all = all
own_keeps (Sent frame) P held all = all
own_keeps (Ignored why) P held all = all
own_keeps (Accepted handed relayed) P held all = all
own_keeps (Refused refusal) P held all = all

call_keeps : {M F : Type 0} (call : Call) (answer : Answer Transmission) (P : F → ℕ → Type 0)
    (r : ContentionRule) (k : Keeping M F) (beside : M) (s : StationModel) (moment : ℕ)
    (held : List (HeldFrame F))
    → AllHeld P held
    → ((t : Transmission) (handed : Option Message) (relay : Transmission) → call ≡ Receive t
    → answer ≡ Accepted handed (Some relay) → P (k.kept beside relay) (due_of r s moment t))
    → AllHeld P (after_answer r k.is_copy (k.kept beside) s moment call held answer)
call_keeps (Own call) answer P r k beside s moment held all put = own_keeps answer P held all
call_keeps (Junk fault) answer P r k beside s moment held all put = all
call_keeps (Receive t) Moved P r k beside s moment held all put = all
call_keeps (Receive t) Opened P r k beside s moment held all put = all
call_keeps (Receive t) Closed P r k beside s moment held all put = all
call_keeps (Receive t) Restarted P r k beside s moment held all put = all
call_keeps (Receive t) Quiet P r k beside s moment held all put = all
call_keeps (Receive t) (Sent frame) P r k beside s moment held all put = all
call_keeps (Receive t) (Refused refusal) P r k beside s moment held all put = all
call_keeps (Receive t) (Ignored NotForMe) P r k beside s moment held all put = all
call_keeps (Receive t) (Ignored OwnSource) P r k beside s moment held all put = all
call_keeps (Receive t) (Ignored SenderMismatch) P r k beside s moment held all put = all
call_keeps {M} {F} (Receive t) (Ignored Duplicate) P r k beside s moment held all put =
    let test = λ (f : F). k.is_copy (mid_of s.address) f (k.kept beside t) in
    All-filter (stays r.copies) (λ (x : HeldFrame F). P x.frame x.due)
    (map (counted test t.link_source) held) (all_counted held P test t.link_source all)
call_keeps (Receive t) (Accepted handed relayed) P r k beside s moment held all put =
    accepted_keeps relayed P (k.kept beside) r s moment t handed held all
    (λ relay is. put t handed relay refl (ap (Accepted handed) is))

release_keeps : {F : Type 0} (o : Option Refusal) (P : F → ℕ → Type 0) (now : ℕ)
    (held : List (HeldFrame F)) → AllHeld P held → AllHeld P (release_by now held o).held
release_keeps (Some refusal) P now held all = all
release_keeps {F} None P now held all =
    let kept = kept_at now held in
    all_without (place_due now kept) kept P
    (All-filter (λ h. nat_le now (h.due + late_after)) (λ (x : HeldFrame F). P x.frame x.due) held
    all)

-- ---- acts keep it

-- what holds of each frame that these acts put
abbrev HoldsOfPut : {M F : Type 0} → ContentionRule → Keeping M F → Contender F
    → List (TimedAct M) → (F → ℕ → Type 0) → Type 0
HoldsOfPut {M} r k c acts P =
    (earlier : List (TimedAct M)) (call : TimedCall) (beside : M) (since : List (TimedAct M))
    (t : Transmission) (handed : Option Message) (relay : Transmission)
    → acts ≡ earlier ++ Asks call beside ∷ since
    → call.call ≡ Receive t
    → (step_at (contender_run r k c earlier) call).answer ≡ Accepted handed (Some relay)
    → P (k.kept beside relay)
    (due_of r (step_at (contender_run r k c earlier) call).station call.moment t)

act_keeps : {M F : Type 0} (a : TimedAct M) (acts : List (TimedAct M)) (P : F → ℕ → Type 0)
    (r : ContentionRule) (k : Keeping M F) (c : Contender F)
    → AllHeld P c.held → HoldsOfPut r k c (a ∷ acts) P → AllHeld P (after_act r k c a).held
act_keeps (Asks call beside) acts P r k c all put =
    let step = step_at c call in
    call_keeps call.call step.answer P r k beside step.station call.moment c.held all
    (λ t handed relay is answered. put [] call beside acts t handed relay refl is answered)
act_keeps (ReleasesAt now) acts P r k c all put =
    release_keeps (moment_refusal c.station now) P now c.held all

acts_keep : {M F : Type 0} (acts : List (TimedAct M)) (P : F → ℕ → Type 0) (r : ContentionRule)
    (k : Keeping M F) (c : Contender F)
    → AllHeld P c.held → HoldsOfPut r k c acts P → AllHeld P (contender_run r k c acts).held
acts_keep [] P r k c all put = all
acts_keep (a ∷ acts) P r k c all put =
    acts_keep acts P r k (after_act r k c a) (act_keeps a acts P r k c all put)
    (λ earlier call beside since t handed relay split is answered.
    put (a ∷ earlier) call beside since t handed relay (ap (λ xs. a ∷ xs) split) is answered)

-- ---- what is released

-- a frame that waits is due by now
record IsDue {F : Type 0} (P : F → ℕ → Type 0) (now : ℕ) (f : F) : Type 0 where
  pub due : ℕ
  pub holds : P f due
  pub not_after : due ≤ now

-- where the test first passes it passes
found_at : {F : Type 0} (held : List (HeldFrame F)) (P : F → ℕ → Type 0) (due now : ℕ) (f : F)
    → due ≤ now → AllHeld P held
    → option_map (λ h. h.frame) (slice_get held (prefix_len (λ h. not (eqb h.due due)) held))
    ≡ Some f
    → IsDue P now f
found_at [] P due now f le all is = cc
found_at {F} (h ∷ held) P due now f le all is =
    let Q = λ (x : HeldFrame F). P x.frame x.due in
    by (eq_test h.due due) (All-head Q h held all)
    (found_at held P due now f le (All-tail Q h held all)) is
  where
    by : ((eqb h.due due ≡ true) × (h.due ≡ due)) ⊎ ((eqb h.due due ≡ false) × (h.due ≢ due))
        → P h.frame h.due
        → (option_map (λ x. x.frame)
        (slice_get held (prefix_len (λ x. not (eqb x.due due)) held)) ≡ Some f → IsDue P now f)
        → option_map (λ x. x.frame)
        (slice_get (h ∷ held)
        (cond (not (eqb h.due due)) (1 + prefix_len (λ x. not (eqb x.due due)) held) 0))
        ≡ Some f
        → IsDue P now f
    by (inl e) here rest is =
        let at : Some h.frame ≡ Some f =
        sym (ap {B = Option F} (λ b. option_map (λ (x : HeldFrame F). x.frame)
        (slice_get (h ∷ held)
        (cond (not b) (1 + prefix_len (λ x. not (eqb x.due due)) held) 0))) e.0) ∙ is in
        let same : h.frame ≡ f = cc in
        record {
          due = h.due;
          holds = subst (λ (x : F). P x h.due) same here;
          not_after = omega (arith, e.1, le);
        }
    by (inr e) here rest is =
        let n = prefix_len (λ (x : HeldFrame F). not (eqb x.due due)) held in
        let more : 1 + n ≡ suc n = omega arith in
        rest (sym (ap {B = Option F} (λ b. option_map (λ (x : HeldFrame F). x.frame)
        (slice_get (h ∷ held) (cond (not b) (1 + n) 0))) e.0
        ∙ ap {B = Option F} (λ i. option_map (λ (x : HeldFrame F). x.frame)
        (slice_get (h ∷ held) i)) more) ∙ is)

found : {F : Type 0} (b : Bool) (held : List (HeldFrame F)) (P : F → ℕ → Type 0) (due now : ℕ)
    (f : F)
    → due ≤ now → AllHeld P held
    → frame_at held (cond b (Some (position_or_len (λ h. eqb h.due due) held)) None) ≡ Some f
    → IsDue P now f
found true held P due now f le all is = found_at held P due now f le all is
found false held P due now f le all is = cc

-- a test of order
in_order : (a b : ℕ) → nat_le a b ≡ true → a ≤ b
in_order a b h = grind (arith, nat_tests)

released_is : {F : Type 0} (o : Option ℕ) (held : List (HeldFrame F)) (P : F → ℕ → Type 0)
    (now : ℕ) (f : F) → AllHeld P held → frame_at held (place_due_by now held o) ≡ Some f
    → IsDue P now f
released_is None held P now f all is = cc
released_is {F} (Some due) held P now f all is = by (nat_le due now) refl is
  where
    by : (b : Bool) → nat_le due now ≡ b
        → frame_at held (cond b (position (λ h. eqb h.due due) held) None) ≡ Some f
        → IsDue P now f
    by true le at =
        found (nat_lt (position_or_len (λ h. eqb h.due due) held) (length held)) held P due now f
        (in_order due now le) all at
    by false le at = cc

-- ---- the law

-- it was put
abbrev IsPutIn : {M F : Type 0} → ContentionRule → Keeping M F → Contender F → List (TimedAct M)
    → F → ℕ → Type 0
IsPutIn r k c acts f due = WasPut r k c acts f due

was_put : {M F : Type 0} (r : ContentionRule) (k : Keeping M F) (c : Contender F)
    (acts : List (TimedAct M)) → IsRule r → HoldsOfPut r k c acts (IsPutIn r k c acts)
was_put r k c acts rule earlier call beside since t handed relay split received answered =
    let s = (step_at (contender_run r k c earlier) call).station in
    let tie = tie_of s t.pdu.body in
    let distance = sender_distance s call.moment t.link_source in
    record {
      earlier = earlier;
      call = call;
      beside = beside;
      since = since;
      packet = t;
      handed = handed;
      relay = relay;
      split = split;
      received = received;
      answered = answered;
      same = refl;
      due_is = refl;
      not_before = omega (arith, wait_least distance r tie rule.order);
      not_after = omega (arith, wait_greatest distance r tie);
    }

-- which is not late
released_in_time : {M F : Type 0} (o : Option Refusal) (r : ContentionRule) (k : Keeping M F)
    (c : Contender F) (acts : List (TimedAct M)) (held : List (HeldFrame F)) (now : ℕ) (f : F)
    → AllHeld (IsPutIn r k c acts) held → (release_by now held o).released ≡ Some f
    → IsReleasedAsPut r k c acts f now
released_in_time (Some refusal) r k c acts held now f all is = cc
released_in_time {M} {F} None r k c acts held now f all is =
    let P = λ (x : F) (due : ℕ). WasPut r k c acts x due × (now ≤ due + late_after) in
    let kept = kept_at now held in
    let test = λ (h : HeldFrame F). nat_le now (h.due + late_after) in
    let puts : AllHeld (IsPutIn r k c acts) kept =
    All-filter test (λ (h : HeldFrame F). IsPutIn r k c acts h.frame h.due) held all in
    let there = released_is (next_due kept) kept P now f
    (λ i d lt. (
      puts i d lt,
      in_order now ((slice_index_or kept i d).due + late_after) (filter_passes test held i d lt),
    )) is in
    record {
      due = there.due;
      put = there.holds.0;
      not_before = there.not_after;
      not_after = there.holds.1;
    }

pub released_is_what_would_be_sent : {M F : Type 0} (r : ContentionRule) (k : Keeping M F)
    (s : StationModel) → IsRule r → ReleasedIsWhatWouldBeSent r k s
released_is_what_would_be_sent {M} {F} r k s rule acts now f is =
    let c = contender_run r k (contender_of s) acts in
    released_in_time (moment_refusal c.station now) r k (contender_of s) acts c.held now f
    (acts_keep acts (IsPutIn r k (contender_of s) acts) r k (contender_of s)
    (All-nil (λ (x : HeldFrame F). IsPutIn r k (contender_of s) acts x.frame x.due))
    (was_put r k (contender_of s) acts rule)) is
