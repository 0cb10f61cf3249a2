-- Each relay of a station that contends is accounted for, once.
use Rattle.std.proofs.Common.{◌≡◌, ℕ, zero, suc, ◌+◌, List, [], ◌∷◌, ◌++◌, length, map, filter}
use Rattle.std.proofs.Common.{Bool, true, false, cond, not, ◌&&◌, Option, Some, None, refl, ap}
use Rattle.std.proofs.Common.{remove, arith}
use Rattle.std.specs.Prelude.{nat_le, nat_lt}
use Rattle.std.specs.List.{count_by}
use Rattle.std.proofs.lemmas.List.Sums.{sum_by-append}
use Rattle.its_gnvalue.specs.Values.{mid_of}
use Rattle.its_model.specs.Packet.{Message, Transmission}
use Rattle.its_model.specs.History.{is_among}
use Rattle.its_model.specs.Calls.{OwnCall, Call, Refusal, Answer}
use Rattle.its_model.specs.Calls.Call.{Own, Receive, Junk}
use Rattle.its_model.specs.Calls.Why.{NotForMe, OwnSource, SenderMismatch, Duplicate}
use Rattle.its_model.specs.Calls.Answer.{Moved, Opened, Closed, Restarted, Quiet, Sent, Ignored}
use Rattle.its_model.specs.Calls.Answer.{Accepted, Refused}
use Rattle.its_model.specs.Station.{StationModel, moment_refusal}
use Rattle.its_model.specs.Contention.{ContentionRule, HeldFrame, newly_held, places, counted}
use Rattle.its_model.specs.Contention.{counted_as, stays, after_copy, cancelled_by, kept_at, place_due}
use Rattle.its_model.specs.Contention.{frame_at, without, due_of, contends_for, after_fate}
use Rattle.its_model.specs.Contention.{after_own, after_answer, release_by, late_after}
use Rattle.its_model.specs.Contention.Fate.{Goes, Waits}
use Rattle.its_model.specs.Contender.{Keeping, Contender, TimedAct, step_at, after_act}
use Rattle.its_model.specs.Contender.{contender_run, contender_of, fate_in, listed, relay_in}
use Rattle.its_model.specs.Contender.{relayed_in, gone_by, sent_at_once, released_in, cancelled_for}
use Rattle.its_model.specs.Contender.{cancelled_in, frames_of_held, dropped_for, dropped_by_release}
use Rattle.its_model.specs.Contender.{dropped_in, in_each, forwarding_of, ForwardsAreCounted}
use Rattle.its_model.specs.Contender.TimedAct.{Asks, ReleasesAt}
use Rattle.its_model.proofs.NumberTests.{count_cons}

-- ---- counts of lists, as numbers that do not compute

-- how many of a kind there are
tally : {F : Type 0} → (F → Bool) → List F → ℕ
tally kind xs = count_by kind xs

tally_is : {F : Type 0} (kind : F → Bool) (xs : List F) → tally kind xs ≡ count_by kind xs
unfolding tally
tally_is kind xs = refl

tally_none : {F : Type 0} (kind : F → Bool) → tally kind [] ≡ 0
unfolding tally
tally_none kind = refl

tally_cons : {F : Type 0} (kind : F → Bool) (x : F) (xs : List F)
    → tally kind (x ∷ xs) ≡ cond (kind x) 1 0 + tally kind xs
unfolding tally
tally_cons kind x xs = count_cons kind x xs

tally_both : {F : Type 0} (kind : F → Bool) (xs ys : List F)
    → tally kind (xs ++ ys) ≡ tally kind xs + tally kind ys
unfolding tally
tally_both kind xs ys = sum_by-append (λ x. cond (kind x) 1 0) xs ys

-- how many of a kind wait
waiting : {F : Type 0} → (F → Bool) → List (HeldFrame F) → ℕ
waiting kind held = tally kind (frames_of_held held)

waiting_is : {F : Type 0} (kind : F → Bool) (held : List (HeldFrame F))
    → waiting kind held ≡ tally kind (frames_of_held held)
unfolding waiting
waiting_is kind held = refl

waiting_none : {F : Type 0} (kind : F → Bool) → waiting kind [] ≡ 0
unfolding waiting
waiting_none kind = tally_none kind

waiting_cons : {F : Type 0} (kind : F → Bool) (h : HeldFrame F) (held : List (HeldFrame F))
    → waiting kind (h ∷ held) ≡ cond (kind h.frame) 1 0 + waiting kind held
unfolding waiting
waiting_cons kind h held = tally_cons kind h.frame (frames_of_held held)

waiting_both : {F : Type 0} (kind : F → Bool) (xs ys : List (HeldFrame F))
    → waiting kind (xs ++ ys) ≡ waiting kind xs + waiting kind ys
waiting_both kind [] ys = omega (arith, waiting_none kind)
waiting_both kind (h ∷ xs) ys =
    omega (
      arith,
      waiting_cons kind h (xs ++ ys),
      waiting_cons kind h xs,
      waiting_both kind xs ys,
    )

-- of those that pass a test and those that do not
waiting_parts : {F : Type 0} (kind : F → Bool) (test : HeldFrame F → Bool)
    (held : List (HeldFrame F))
    → waiting kind held
    ≡ waiting kind (filter test held) + waiting kind (filter (λ h. not (test h)) held)
waiting_parts kind test [] = omega (arith, waiting_none kind)
waiting_parts kind test (h ∷ held) = by (test h) (waiting_parts kind test held)
  where
    by : (b : Bool)
        → waiting kind held
        ≡ waiting kind (filter test held) + waiting kind (filter (λ x. not (test x)) held)
        → waiting kind (h ∷ held)
        ≡ waiting kind (cond b (h ∷ filter test held) (filter test held))
        + waiting kind
        (cond (not b) (h ∷ filter (λ x. not (test x)) held) (filter (λ x. not (test x)) held))
    by true rest = omega (
      arith,
      waiting_cons kind h held,
      waiting_cons kind h (filter test held),
    )
    by false rest = omega (
      arith,
      waiting_cons kind h held,
      waiting_cons kind h (filter (λ x. not (test x)) held),
    )

-- without the one at a place
waiting_at : {F : Type 0} (kind : F → Bool) (held : List (HeldFrame F)) (i : ℕ)
    → waiting kind held
    ≡ tally kind (listed (frame_at held (Some i))) + waiting kind (remove held i)
waiting_at kind [] zero = omega (arith, tally_none kind, waiting_none kind)
waiting_at kind [] (suc i) = omega (arith, tally_none kind, waiting_none kind)
waiting_at kind (h ∷ held) zero =
    omega (
      arith,
      waiting_cons kind h held,
      tally_cons kind h.frame [],
      tally_none kind,
    )
waiting_at kind (h ∷ held) (suc i) =
    omega (
      arith,
      waiting_cons kind h held,
      waiting_cons kind h (remove held i),
      waiting_at kind held i,
    )

-- without the one that is due first, if one is
waiting_without : {F : Type 0} (o : Option ℕ) (kind : F → Bool) (held : List (HeldFrame F))
    → waiting kind held
    ≡ tally kind (listed (frame_at held o)) + waiting kind (without held o)
waiting_without None kind held = omega (arith, tally_none kind)
waiting_without (Some i) kind held = waiting_at kind held i

-- counting copies leaves the frames
counted_leaves : {F : Type 0} (b : Bool) (sender : ℕ) (h : HeldFrame F)
    → (counted_as b sender h).frame ≡ h.frame
counted_leaves true sender h = by (is_among sender h.senders)
  where
    by : (b : Bool)
        → (cond (true && not b) (record h { senders = sender ∷ h.senders }) h).frame ≡ h.frame
    by true = refl
    by false = refl
counted_leaves false sender h = refl

waiting_counted : {F : Type 0} (kind : F → Bool) (is_copy : F → Bool) (sender : ℕ)
    (held : List (HeldFrame F))
    → waiting kind (map (counted is_copy sender) held) ≡ waiting kind held
waiting_counted kind is_copy sender [] = refl
waiting_counted kind is_copy sender (h ∷ held) =
    let same : cond (kind (counted is_copy sender h).frame) 1 0 ≡ cond (kind h.frame) 1 0 =
    ap {B = ℕ} (λ f. cond (kind f) 1 0) (counted_leaves (is_copy h.frame) sender h) in
    omega (
      arith,
      same,
      waiting_cons kind h held,
      waiting_cons kind (counted is_copy sender h) (map (counted is_copy sender) held),
      waiting_counted kind is_copy sender held,
    )

-- a copy cancels some, and the others stay
waiting_copy : {F : Type 0} (kind : F → Bool) (copies : ℕ) (is_copy : F → Bool) (sender : ℕ)
    (held : List (HeldFrame F))
    → waiting kind held
    ≡ tally kind (cancelled_by copies is_copy sender held)
    + waiting kind (after_copy copies is_copy sender held)
waiting_copy kind copies is_copy sender held =
    let all = map (counted is_copy sender) held in
    omega (
      arith,
      waiting_counted kind is_copy sender held,
      waiting_parts kind (stays copies) all,
      waiting_is kind (filter (λ h. not (stays copies h)) all),
    )

-- ---- one act

-- what waited and what is relayed is what goes out, leaves or waits then
abbrev IsBalanced : {F : Type 0} → (F → Bool) → List (HeldFrame F) → List F → List F → List F
    → List F → List F → List (HeldFrame F) → Type 0
IsBalanced kind held relayed at_once released cancelled dropped after =
    waiting kind held + tally kind relayed
    ≡ tally kind at_once + tally kind released + tally kind cancelled + tally kind dropped
    + waiting kind after

-- nothing happens
nothing : {F : Type 0} (kind : F → Bool) (held : List (HeldFrame F))
    → IsBalanced kind held [] [] [] [] [] held
nothing kind held = omega (arith, tally_none kind)

-- an acceptance
accepted : {F : Type 0} (relayed : Option Transmission) (kind : F → Bool)
    (kept : Transmission → F) (r : ContentionRule) (s : StationModel) (moment : ℕ)
    (t : Transmission) (handed : Option Message) (held : List (HeldFrame F))
    → let its_fate = fate_in r s moment held (Receive t) (Accepted handed relayed) in
    let relays = relay_in kept (Receive t) (Accepted handed relayed) in
    IsBalanced kind held relays (gone_by its_fate relays) [] [] []
    (after_fate kept held relayed its_fate)
accepted None kind kept r s moment t handed held = nothing kind held
accepted {F} (Some relay) kind kept r s moment t handed held =
    by (contends_for s t.pdu.body && nat_lt (length held) places)
  where
    by : (b : Bool)
        → let its_fate = cond b (Waits (due_of r s moment t)) Goes in
        IsBalanced kind held (kept relay ∷ []) (gone_by its_fate (kept relay ∷ [])) [] [] []
        (after_fate kept held (Some relay) its_fate)
    by true =
        let one = newly_held (kept relay) (due_of r s moment t) in
        omega (
          arith,
          tally_none kind,
          tally_cons kind (kept relay) [],
          waiting_both kind held (one ∷ []),
          waiting_cons kind one [],
          waiting_none kind,
        )
    by false = omega (arith, tally_none kind)

-- a call of its own: a restart drops all
own_balanced : {F : Type 0} (answer : Answer Transmission) (kind : F → Bool) (call : OwnCall)
    (held : List (HeldFrame F))
    → IsBalanced kind held [] [] [] [] (dropped_for held (Own call) answer) (after_own held answer)
own_balanced Moved kind call held = nothing kind held
own_balanced Opened kind call held = nothing kind held
own_balanced Closed kind call held = nothing kind held
own_balanced Restarted kind call held =
    omega (arith, tally_none kind, waiting_none kind, waiting_is kind held)
own_balanced Quiet kind call held = nothing kind held
own_balanced (Sent frame) kind call held = nothing kind held
own_balanced (Ignored why) kind call held = nothing kind held
own_balanced (Accepted handed relayed) kind call held = nothing kind held
own_balanced (Refused refusal) kind call held = nothing kind held

-- a call
call_balanced : {M F : Type 0} (call : Call) (answer : Answer Transmission) (kind : F → Bool)
    (r : ContentionRule) (k : Keeping M F) (beside : M) (s : StationModel) (moment : ℕ)
    (held : List (HeldFrame F))
    → let relays = relay_in (k.kept beside) call answer in
    IsBalanced kind held relays (gone_by (fate_in r s moment held call answer) relays) []
    (cancelled_for r k beside s held call answer) (dropped_for held call answer)
    (after_answer r k.is_copy (k.kept beside) s moment call held answer)
call_balanced (Own call) answer kind r k beside s moment held = own_balanced answer kind call held
call_balanced (Junk fault) answer kind r k beside s moment held = nothing kind held
call_balanced (Receive t) Moved kind r k beside s moment held = nothing kind held
call_balanced (Receive t) Opened kind r k beside s moment held = nothing kind held
call_balanced (Receive t) Closed kind r k beside s moment held = nothing kind held
call_balanced (Receive t) Restarted kind r k beside s moment held = nothing kind held
call_balanced (Receive t) Quiet kind r k beside s moment held = nothing kind held
call_balanced (Receive t) (Sent frame) kind r k beside s moment held = nothing kind held
call_balanced (Receive t) (Refused refusal) kind r k beside s moment held = nothing kind held
call_balanced (Receive t) (Ignored NotForMe) kind r k beside s moment held = nothing kind held
call_balanced (Receive t) (Ignored OwnSource) kind r k beside s moment held = nothing kind held
call_balanced (Receive t) (Ignored SenderMismatch) kind r k beside s moment held =
    nothing kind held
call_balanced (Receive t) (Ignored Duplicate) kind r k beside s moment held =
    omega (
      arith,
      tally_none kind,
      waiting_copy kind r.copies (λ f. k.is_copy (mid_of s.address) f (k.kept beside t))
          t.link_source held,
    )
call_balanced (Receive t) (Accepted handed relayed) kind r k beside s moment held =
    accepted relayed kind (k.kept beside) r s moment t handed held

-- a release
release_balanced : {F : Type 0} (o : Option Refusal) (kind : F → Bool) (now : ℕ)
    (held : List (HeldFrame F))
    → IsBalanced kind held [] [] (listed (release_by now held o).released) []
    (dropped_by_release now held o) (release_by now held o).held
release_balanced (Some refusal) kind now held = nothing kind held
release_balanced {F} None kind now held =
    let kept = kept_at now held in
    let test : HeldFrame F → Bool = λ h. nat_le now (h.due + late_after) in
    omega (
      arith,
      tally_none kind,
      waiting_parts kind test held,
      waiting_is kind (filter (λ h. not (test h)) held),
      waiting_without (place_due now kept) kind kept,
    )

-- an act
act_balanced : {M F : Type 0} (a : TimedAct M) (kind : F → Bool) (r : ContentionRule)
    (k : Keeping M F) (c : Contender F)
    → IsBalanced kind c.held (relayed_in k c a) (sent_at_once r k c a) (released_in c a)
    (cancelled_in r k c a) (dropped_in c a) (after_act r k c a).held
act_balanced (Asks call beside) kind r k c =
    let step = step_at c call in
    call_balanced call.call step.answer kind r k beside step.station call.moment c.held
act_balanced (ReleasesAt now) kind r k c =
    release_balanced (moment_refusal c.station now) kind now c.held

-- ---- acts
acts_balanced : {M F : Type 0} (acts : List (TimedAct M)) (kind : F → Bool) (r : ContentionRule)
    (k : Keeping M F) (c : Contender F)
    → IsBalanced kind c.held (in_each r k (relayed_in k) c acts)
    (in_each r k (sent_at_once r k) c acts) (in_each r k released_in c acts)
    (in_each r k (cancelled_in r k) c acts) (in_each r k dropped_in c acts)
    (contender_run r k c acts).held
acts_balanced [] kind r k c = nothing kind c.held
acts_balanced (a ∷ acts) kind r k c =
    let c' = after_act r k c a in
    omega (
      arith,
      act_balanced a kind r k c,
      acts_balanced acts kind r k c',
      tally_both kind (relayed_in k c a) (in_each r k (relayed_in k) c' acts),
      tally_both kind (sent_at_once r k c a) (in_each r k (sent_at_once r k) c' acts),
      tally_both kind (released_in c a) (in_each r k released_in c' acts),
      tally_both kind (cancelled_in r k c a) (in_each r k (cancelled_in r k) c' acts),
      tally_both kind (dropped_in c a) (in_each r k dropped_in c' acts),
    )

-- all of a kind
length_is : {F : Type 0} (xs : List F) → tally (λ x. true) xs ≡ length xs
length_is [] = tally_none (λ x. true)
length_is (x ∷ xs) = omega (arith, tally_cons (λ x. true) x xs, length_is xs)

pub forwards_are_counted : {M F : Type 0} (r : ContentionRule) (k : Keeping M F)
    (s : StationModel) → ForwardsAreCounted r k s
forwards_are_counted {M} {F} r k s =
    record {
      each = λ kind acts. (
          let c = contender_of s in
          let f = forwarding_of r k c acts in
          omega (
            arith,
            acts_balanced acts kind r k c,
            waiting_none kind,
            waiting_is kind (contender_run r k c acts).held,
            tally_is kind f.relayed,
            tally_is kind f.at_once,
            tally_is kind f.released,
            tally_is kind f.cancelled,
            tally_is kind f.dropped,
            tally_is kind f.waiting,
          ));
      no_more = λ acts. (
          let c = contender_of s in
          let f = forwarding_of r k c acts in
          omega (
            arith,
            acts_balanced acts (λ x. true) r k c,
            waiting_none {F = F} (λ x. true),
            length_is f.relayed,
            length_is f.at_once,
            length_is f.released,
          ));
    }
