-- What waits at a station of a world is what waits at the station by itself: an event changes the
-- frames that wait as the station's answer does.
use Rattle.std.proofs.Common.{◌≡◌, ℕ, suc, List, [], ◌∷◌, ◌++◌, length, map, filter, Bool, true, false}
use Rattle.std.proofs.Common.{cond, ◌&&◌, Option, Some, None, refl, sym, ap, ◌∙◌}
use Rattle.std.specs.Prelude.{nat_lt}
use Rattle.its_gnvalue.specs.Values.{mid_of}
use Rattle.its_model.specs.Packet.{Transmission, Message}
use Rattle.its_model.specs.History.{is_among}
use Rattle.its_model.specs.Calls.{Answer}
use Rattle.its_model.specs.Calls.Why.{NotForMe, OwnSource, SenderMismatch, Duplicate}
use Rattle.its_model.specs.Calls.Answer.{Moved, Opened, Closed, Restarted, Quiet, Sent, Ignored}
use Rattle.its_model.specs.Calls.Answer.{Accepted, Refused}
use Rattle.its_model.specs.Station.{StationModel}
use Rattle.its_model.specs.Contention.{ContentionRule, HeldFrame, newly_held, counted_as, stays, places}
use Rattle.its_model.specs.Contention.{after_copy, contends_for, due_of, after_fate}
use Rattle.its_model.specs.Contention.{after_received, after_own}
use Rattle.its_model.specs.Contention.Fate.{Goes, Waits}
use Rattle.its_model.specs.Contended.{WaitingFrame, CopyTest, Waiting, waiting_as, with_copy}
use Rattle.its_model.specs.Contended.{with_copies, after_delivery, after_own_call}

-- a frame that waits, without its number and copies
abbrev pub plain : HeldFrame WaitingFrame → HeldFrame Transmission
plain h = record { frame = h.frame.packet; due = h.due; senders = h.senders }

abbrev pub all_plain : List (HeldFrame WaitingFrame) → List (HeldFrame Transmission)
all_plain held = map plain held

same_length : (held : List (HeldFrame WaitingFrame)) → length (all_plain held) ≡ length held
same_length [] = refl
same_length (h ∷ held) = ap suc (same_length held)

one_more : (held : List (HeldFrame WaitingFrame)) (h : HeldFrame WaitingFrame)
    → all_plain (held ++ h ∷ []) ≡ all_plain held ++ plain h ∷ []
one_more [] h = refl
one_more (x ∷ held) h = ap (λ xs. plain x ∷ xs) (one_more held h)

-- a copy is counted alike
same_copy : (b c : Bool) (sender k : ℕ) (h : HeldFrame WaitingFrame)
    → is_among sender h.senders ≡ c
    → plain (with_copy b sender k h) ≡ counted_as b sender (plain h)
same_copy true true sender k h among = rw among
same_copy true false sender k h among = rw among
same_copy false c sender k h among = refl

-- and cancels alike
same_copies : (held : List (HeldFrame WaitingFrame)) (test : CopyTest) (copies own k : ℕ)
    (t : Transmission)
    → all_plain (filter (stays copies) (with_copies test own k t held))
    ≡ after_copy copies (λ packet. test own packet t) t.link_source (all_plain held)
same_copies [] test copies own k t = refl
same_copies (h ∷ held) test copies own k t =
    let x = with_copy (test own h.frame.packet t) t.link_source k h in
    let rest = filter (stays copies) (with_copies test own k t held) in
    let y = counted_as (test own h.frame.packet t) t.link_source (plain h) in
    let others = after_copy copies (λ packet. test own packet t) t.link_source (all_plain held) in
    let one : plain x ≡ y =
    same_copy (test own h.frame.packet t) (is_among t.link_source h.senders) t.link_source k h refl in
    let same : all_plain rest ≡ others = same_copies held test copies own k t in
    either (stays copies x) x rest
    ∙ ap (λ (z : HeldFrame Transmission).
    cond (stays copies z) (z ∷ all_plain rest) (all_plain rest)) one
    ∙ ap (λ (zs : List (HeldFrame Transmission)). cond (stays copies y) (y ∷ zs) zs) same
  where
    either : (b : Bool) (x : HeldFrame WaitingFrame) (rest : List (HeldFrame WaitingFrame))
        → all_plain (cond b (x ∷ rest) rest) ≡ cond b (plain x ∷ all_plain rest) (all_plain rest)
    either true x rest = refl
    either false x rest = refl

-- an acceptance
same_acceptance : (relayed : Option Transmission) (test : CopyTest) (r : ContentionRule)
    (s : StationModel) (moment number k : ℕ) (t : Transmission) (handed : Option Message)
    (q : Waiting)
    → all_plain (after_delivery test r s moment number k t q (Accepted handed relayed)).held
    ≡ after_received r test (λ x. x) s moment t (all_plain q.held) (Accepted handed relayed)
same_acceptance None test r s moment number k t handed q = refl
same_acceptance (Some relay) test r s moment number k t handed q =
    by (contends_for s t.pdu.body && nat_lt (length q.held) places)
    ∙ ap (λ (n : ℕ). after_fate (λ x. x) (all_plain q.held) (Some relay)
    (cond (contends_for s t.pdu.body && nat_lt n places) (Waits (due_of r s moment t)) Goes))
    (sym (same_length q.held))
  where
    by : (b : Bool)
        → all_plain (after_fate (waiting_as number) q.held (Some relay)
        (cond b (Waits (due_of r s moment t)) Goes))
        ≡ after_fate (λ x. x) (all_plain q.held) (Some relay)
        (cond b (Waits (due_of r s moment t)) Goes)
    by true = one_more q.held (newly_held (waiting_as number relay) (due_of r s moment t))
    by false = refl

-- a delivery
pub same_delivery : (answer : Answer Transmission) (test : CopyTest) (r : ContentionRule)
    (s : StationModel) (moment number k : ℕ) (t : Transmission) (q : Waiting)
    → all_plain (after_delivery test r s moment number k t q answer).held
    ≡ after_received r test (λ x. x) s moment t (all_plain q.held) answer
same_delivery Moved test r s moment number k t q = refl
same_delivery Opened test r s moment number k t q = refl
same_delivery Closed test r s moment number k t q = refl
same_delivery Restarted test r s moment number k t q = refl
same_delivery Quiet test r s moment number k t q = refl
same_delivery (Sent frame) test r s moment number k t q = refl
same_delivery (Refused refusal) test r s moment number k t q = refl
same_delivery (Ignored NotForMe) test r s moment number k t q = refl
same_delivery (Ignored OwnSource) test r s moment number k t q = refl
same_delivery (Ignored SenderMismatch) test r s moment number k t q = refl
same_delivery (Ignored Duplicate) test r s moment number k t q =
    same_copies q.held test r.copies (mid_of s.address) k t
same_delivery (Accepted handed relayed) test r s moment number k t q =
    same_acceptance relayed test r s moment number k t handed q

-- a call of a station's own
pub same_own_call : (answer : Answer Transmission) (moment : ℕ) (q : Waiting)
    → all_plain (after_own_call moment q answer).held ≡ after_own (all_plain q.held) answer
same_own_call Moved moment q = refl
same_own_call Opened moment q = refl
same_own_call Closed moment q = refl
same_own_call Restarted moment q = refl
same_own_call Quiet moment q = refl
same_own_call (Sent frame) moment q = refl
same_own_call (Ignored why) moment q = refl
same_own_call (Accepted handed relayed) moment q = refl
same_own_call (Refused refusal) moment q = refl
