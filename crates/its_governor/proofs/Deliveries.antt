-- Deliveries are owed, and those of one packet are apart.
use Rattle.std.proofs.Common.{◌≡◌, ℕ, suc, zero, ◌≤◌, Bool, true, false, cond, not, ◌&&◌, ◌||◌}
use Rattle.std.proofs.Common.{List, [], ◌∷◌, ◌++◌, length, take, Option, Some, None, refl, sym}
use Rattle.std.proofs.Common.{ap, ◌∙◌, subst, arith, All, ◌⊎◌, inl, inr, ⊎_elim, is_some}
use Rattle.std.specs.List.{list_any}
use Rattle.std.proofs.lemmas.Bool.{ltb-false, false≢true}
use Rattle.std.proofs.lemmas.List.{take-take}
use Rattle.its_model.specs.Packet.{Message, Transmission}
use Rattle.its_model.specs.Calls as model
use Rattle.its_model.specs.Calls.{Answer}
use Rattle.its_governor.specs.declared.governor.Governor.{Governor}
use Rattle.its_governor.specs.declared.receiver.Receiver.{Receiver}
use Rattle.its_governor.specs.declared.memory.DeliveredPacket.{DeliveredPacket}
use Rattle.its_governor.specs.declared.memory.PacketId.{PacketId}
use Rattle.its_governor.specs.declared.rate.Limits.{Limits}
use Rattle.its_governor.specs.Memory.{MemoryState, end_of_life, is_packet, is_same_packet}
use Rattle.its_governor.specs.Governing.{IsNewGovernor, after_call, after_forwarding}
use Rattle.its_governor.specs.Governing.{after_delivery, after_judging, governed}
use Rattle.its_governor.specs.Governing.{id_of, is_echo, is_remembered, kept, passed_of, remembered}
use Rattle.its_governor.specs.Deliveries.{GovernedCall, DeliveredAt, after_governed, after_calls}
use Rattle.its_governor.specs.Deliveries.{delivery_of, delivery_if, delivered_in, deliveries}
use Rattle.its_governor.specs.Deliveries.{delivered_by, IsUndelivered, AreOwed, AreApart}

-- ---- what is kept after a call

forwarding_kept : (g : Governor) (now source : ℕ) (sent forwards : Bool)
    → (after_forwarding g now source sent forwards).delivered ≡ g.delivered
forwarding_kept g now source true true = refl
forwarding_kept g now source true false = refl
forwarding_kept g now source false true = refl
forwarding_kept g now source false false = refl

-- the memory after deliveries in one call
abbrev noted : Option MemoryState → List DeliveredAt → Option MemoryState
noted m [] = m
noted m (d ∷ more) = remembered m (Some d.packet.id) d.packet.until

noted_by : (m : Option MemoryState) (id : Option PacketId) (now until : ℕ)
    → remembered m id until ≡ noted m (delivery_of id now until)
noted_by None None now until = refl
noted_by (Some m) None now until = refl
noted_by None (Some id) now until = refl
noted_by (Some m) (Some id) now until = refl

delivery_kept : (g : Governor) (now : ℕ) (t : Transmission) (repeated delivers : Bool)
    → (after_delivery g now t repeated delivers).delivered ≡ noted g.delivered (delivery_if delivers now t)
delivery_kept g now t true true =
    noted_by g.delivered (id_of t) now (end_of_life now t.pdu.lifetime)
delivery_kept g now t false true =
    noted_by g.delivered (id_of t) now (end_of_life now t.pdu.lifetime)
delivery_kept g now t true false = refl
delivery_kept g now t false false = refl

judging_kept : (g : Governor) (r : Receiver) (now : ℕ) (t : Transmission) (handed sent : Bool)
    → (after_judging g r now t handed sent).delivered
    ≡ noted g.delivered (delivery_if (passed_of g r now t handed sent).delivers now t)
judging_kept g r now t handed sent =
    let p = passed_of g r now t handed sent in
    let source = t.pdu.vector.address in
    delivery_kept (after_forwarding g now source sent p.forwards) now t p.is_repeated p.delivers
    ∙ ap (λ (m : Option MemoryState). noted m (delivery_if p.delivers now t))
    (forwarding_kept g now source sent p.forwards)

answer_kept : (g : Governor) (r : Receiver) (now : ℕ) (request : Bool) (frame : Option Transmission)
    (answer : Answer Transmission)
    → (after_call g r now request frame answer).delivered
    ≡ noted g.delivered (delivered_by g r now frame answer)
answer_kept g r now request (Some t) (model.Answer.Accepted handed relayed) =
    judging_kept g r now t (is_some handed) (is_some relayed)
answer_kept g r now request None (model.Answer.Accepted handed relayed) = refl
answer_kept g r now true frame (model.Answer.Sent sent) = refl
answer_kept g r now false frame (model.Answer.Sent sent) = refl
answer_kept g r now request frame model.Answer.Moved = refl
answer_kept g r now request frame model.Answer.Opened = refl
answer_kept g r now request frame model.Answer.Closed = refl
answer_kept g r now request frame model.Answer.Restarted = refl
answer_kept g r now request frame model.Answer.Quiet = refl
answer_kept g r now request frame (model.Answer.Ignored why) = refl
answer_kept g r now request frame (model.Answer.Refused refusal) = refl

call_kept : (g : Governor) (call : GovernedCall)
    → (after_governed g call).delivered ≡ noted g.delivered (delivered_in g call)
call_kept g (GovernedCall.Answered r now request frame answer) = answer_kept g r now request frame answer
call_kept g GovernedCall.OverRate = refl

-- ---- the memory is the newest of the deliveries

packets_of : List DeliveredAt → List DeliveredPacket
packets_of [] = []
packets_of (d ∷ past) = d.packet ∷ packets_of past

-- so many of them are kept, if there is a memory
abbrev memory_of : ℕ → List DeliveredAt → MemoryState
memory_of n past = record { packets = take n (packets_of past); limit = n }

front_kept : (n : ℕ) (x : DeliveredPacket) (l : List DeliveredPacket)
    → take n (x ∷ take n l) ≡ take n (x ∷ l)
front_kept zero x l = refl
front_kept (suc n) x l =
    ap (λ (rest : List DeliveredPacket). x ∷ rest) (take-take n (suc n) l (omega arith))

-- a call delivers one packet at most
keeps_of : (n : ℕ) (past : List DeliveredAt) (id : Option PacketId) (now until : ℕ)
    → noted (Some (memory_of n past)) (delivery_of id now until)
    ≡ Some (memory_of n (delivery_of id now until ++ past))
unfolding packets_of
keeps_of n past None now until = refl
keeps_of n past (Some id) now until =
    ap (λ (l : List DeliveredPacket). Some (record { packets = l; limit = n }))
    (front_kept n (record { id = id; until = until }) (packets_of past))

keeps_if : (n : ℕ) (past : List DeliveredAt) (delivers : Bool) (now : ℕ) (t : Transmission)
    → noted (Some (memory_of n past)) (delivery_if delivers now t)
    ≡ Some (memory_of n (delivery_if delivers now t ++ past))
keeps_if n past true now t = keeps_of n past (id_of t) now (end_of_life now t.pdu.lifetime)
keeps_if n past false now t = refl

keeps_by : (n : ℕ) (past : List DeliveredAt) (g : Governor) (r : Receiver)
    (now : ℕ) (frame : Option Transmission) (answer : Answer Transmission)
    → noted (Some (memory_of n past)) (delivered_by g r now frame answer)
    ≡ Some (memory_of n (delivered_by g r now frame answer ++ past))
keeps_by n past g r now (Some t) (model.Answer.Accepted handed relayed) =
    keeps_if n past (passed_of g r now t (is_some handed) (is_some relayed)).delivers now t
keeps_by n past g r now None (model.Answer.Accepted handed relayed) = refl
keeps_by n past g r now frame (model.Answer.Sent sent) = refl
keeps_by n past g r now frame model.Answer.Moved = refl
keeps_by n past g r now frame model.Answer.Opened = refl
keeps_by n past g r now frame model.Answer.Closed = refl
keeps_by n past g r now frame model.Answer.Restarted = refl
keeps_by n past g r now frame model.Answer.Quiet = refl
keeps_by n past g r now frame (model.Answer.Ignored why) = refl
keeps_by n past g r now frame (model.Answer.Refused refusal) = refl

keeps_in : (n : ℕ) (past : List DeliveredAt) (g : Governor) (call : GovernedCall)
    → noted (Some (memory_of n past)) (delivered_in g call)
    ≡ Some (memory_of n (delivered_in g call ++ past))
keeps_in n past g (GovernedCall.Answered r now request frame answer) =
    keeps_by n past g r now frame answer
keeps_in n past g GovernedCall.OverRate = refl

keeps : (n : ℕ) (g : Governor) (past : List DeliveredAt) (calls : List GovernedCall)
    → g.delivered ≡ Some (memory_of n past)
    → (after_calls g calls).delivered ≡ Some (memory_of n (deliveries g past calls))
keeps n g past [] is = is
keeps n g past (call ∷ calls) is =
    keeps n (after_governed g call) (delivered_in g call ++ past) calls
    (call_kept g call ∙ ap (λ (m : Option MemoryState). noted m (delivered_in g call)) is
    ∙ keeps_in n past g call)

-- without a memory there is never one
none_noted : (ds : List DeliveredAt) → noted None ds ≡ None
none_noted [] = refl
none_noted (d ∷ ds) = refl

keeps_none : (g : Governor) (calls : List GovernedCall) → g.delivered ≡ None
    → (after_calls g calls).delivered ≡ None
keeps_none g [] is = is
keeps_none g (call ∷ calls) is =
    keeps_none (after_governed g call) calls
    (call_kept g call ∙ ap (λ (m : Option MemoryState). noted m (delivered_in g call)) is
    ∙ none_noted (delivered_in g call))

-- ---- deliveries are owed

none_in_front : (p : DeliveredPacket → Bool) (n : ℕ) (past : List DeliveredAt)
    → All (λ d. p d.packet ≡ false) past → list_any p (take n (packets_of past)) ≡ false
unfolding packets_of
none_in_front p zero past h = refl
none_in_front p (suc n) [] h = refl
none_in_front p (suc n) (d ∷ past) h =
    ap (λ (b : Bool). b || list_any p (take n (packets_of past))) (h 0 d (omega arith))
    ∙ none_in_front p n past (λ k x l. h (suc k) x (omega (arith, l)))

no_echo : (n : ℕ) (now : ℕ) (past : List DeliveredAt) (id : Option PacketId)
    → ((x : PacketId) → id ≡ Some x → IsUndelivered now past x)
    → is_remembered (Some (memory_of n past)) id now ≡ false
no_echo n now past None h = refl
no_echo n now past (Some id) h = none_in_front (is_packet id now) n past (h id refl)

owed_by : (g : Governor) (r : Receiver) (now : ℕ) (t : Transmission) (message : Message)
    (relayed : Option Transmission) → is_echo g.delivered now t ≡ false
    → (sent : Option Transmission)
    × (governed g r now (Some t) (model.Answer.Accepted (Some message) relayed)
    ≡ model.Answer.Accepted (Some message) sent)
owed_by g r now t message relayed is = (
  kept (passed_of g r now t true (is_some relayed)).forwards relayed,
  ap (λ (b : Bool). model.Answer.Accepted (kept (not b) (Some message))
      (kept (passed_of g r now t true (is_some relayed)).forwards relayed)) is,
)

nothing_held : (id : Option PacketId) (now : ℕ) → is_remembered None id now ≡ false
nothing_held None now = refl
nothing_held (Some id) now = refl

pub owed : (limits : Limits) (g : Governor) → IsNewGovernor limits g → AreOwed g
unfolding packets_of
owed limits g new calls r now t message relayed h = by limits.delivers_once refl
  where
    by : (b : Bool) → limits.delivers_once ≡ b
        → (sent : Option Transmission)
        × (governed (after_calls g calls) r now (Some t)
        (model.Answer.Accepted (Some message) relayed) ≡ model.Answer.Accepted (Some message) sent)
    by true e =
        let starts : g.delivered ≡ Some (memory_of 1024 []) =
        new.delivered ∙ ap (λ (b : Bool). cond b (Some (record { packets = []; limit = 1024 })) None) e in
        owed_by (after_calls g calls) r now t message relayed
        (ap (λ (m : Option MemoryState). is_echo m now t) (keeps 1024 g [] calls starts)
        ∙ no_echo 1024 now (deliveries g [] calls) (id_of t) h)
    by false e =
        let starts : g.delivered ≡ None =
        new.delivered ∙ ap (λ (b : Bool). cond b (Some (record { packets = []; limit = 1024 })) None) e in
        owed_by (after_calls g calls) r now t message relayed
        (ap (λ (m : Option MemoryState). is_echo m now t) (keeps_none g calls starts)
        ∙ nothing_held (id_of t) now)

-- ---- those of one packet are apart

-- each delivery is of a packet that wasn't kept then
abbrev Apart : ℕ → List DeliveredAt → Type 0
Apart n [] = Unit {0}
Apart n (d ∷ past) =
    (list_any (is_packet d.packet.id d.time) (take n (packets_of past)) ≡ false) × Apart n past

apart_of : (n : ℕ) (past : List DeliveredAt) (id : Option PacketId) (now until : ℕ)
    → is_remembered (Some (memory_of n past)) id now ≡ false → Apart n past
    → Apart n (delivery_of id now until ++ past)
apart_of n past None now until is apart = apart
apart_of n past (Some id) now until is apart = (is, apart)

apart_if : (n : ℕ) (past : List DeliveredAt) (delivers : Bool) (now : ℕ) (t : Transmission)
    → (delivers ≡ true → is_remembered (Some (memory_of n past)) (id_of t) now ≡ false)
    → Apart n past → Apart n (delivery_if delivers now t ++ past)
apart_if n past true now t is apart =
    apart_of n past (id_of t) now (end_of_life now t.pdu.lifetime) (is refl) apart
apart_if n past false now t is apart = apart

-- what is delivered is no echo
fresh : (handed echo : Bool) → (handed && not echo) ≡ true → echo ≡ false
fresh true true e = absurd (false≢true e)
fresh true false e = refl
fresh false echo e = absurd (false≢true e)

apart_by : (n : ℕ) (past : List DeliveredAt) (g : Governor) (r : Receiver)
    (now : ℕ) (frame : Option Transmission) (answer : Answer Transmission)
    → g.delivered ≡ Some (memory_of n past) → Apart n past
    → Apart n (delivered_by g r now frame answer ++ past)
apart_by n past g r now (Some t) (model.Answer.Accepted handed relayed) is apart =
    apart_if n past (passed_of g r now t (is_some handed) (is_some relayed)).delivers now t
    (λ e. ap (λ (m : Option MemoryState). is_echo m now t) (sym is)
    ∙ fresh (is_some handed) (is_echo g.delivered now t) e) apart
apart_by n past g r now None (model.Answer.Accepted handed relayed) is apart = apart
apart_by n past g r now frame (model.Answer.Sent sent) is apart = apart
apart_by n past g r now frame model.Answer.Moved is apart = apart
apart_by n past g r now frame model.Answer.Opened is apart = apart
apart_by n past g r now frame model.Answer.Closed is apart = apart
apart_by n past g r now frame model.Answer.Restarted is apart = apart
apart_by n past g r now frame model.Answer.Quiet is apart = apart
apart_by n past g r now frame (model.Answer.Ignored why) is apart = apart
apart_by n past g r now frame (model.Answer.Refused refusal) is apart = apart

apart_in : (n : ℕ) (past : List DeliveredAt) (g : Governor) (call : GovernedCall)
    → g.delivered ≡ Some (memory_of n past) → Apart n past
    → Apart n (delivered_in g call ++ past)
apart_in n past g (GovernedCall.Answered r now request frame answer) is apart =
    apart_by n past g r now frame answer is apart
apart_in n past g GovernedCall.OverRate is apart = apart

all_apart : (n : ℕ) (g : Governor) (past : List DeliveredAt) (calls : List GovernedCall)
    → g.delivered ≡ Some (memory_of n past) → Apart n past → Apart n (deliveries g past calls)
all_apart n g past [] is apart = apart
all_apart n g past (call ∷ calls) is apart =
    all_apart n (after_governed g call) (delivered_in g call ++ past) calls
    (call_kept g call ∙ ap (λ (m : Option MemoryState). noted m (delivered_in g call)) is
    ∙ keeps_in n past g call)
    (apart_in n past g call is apart)

-- one that is not kept has too many before it
pushed_out : (p : DeliveredPacket → Bool) (n : ℕ) (between older : List DeliveredAt)
    (e : DeliveredAt)
    → list_any p (take n (packets_of (between ++ e ∷ older))) ≡ false
    → (p e.packet ≡ false) ⊎ (n ≤ length between)
unfolding packets_of
pushed_out p zero between older e is = inr (omega arith)
pushed_out p (suc n) [] older e is = inl (left (p e.packet) _ is)
  where
    left : (a b : Bool) → (a || b) ≡ false → a ≡ false
    left true b e = e
    left false b e = refl
pushed_out p (suc n) (x ∷ between) older e is =
    ⊎_elim (λ (f : p e.packet ≡ false). inl f)
    (λ (le : n ≤ length between). inr (omega (arith, le)))
    (pushed_out p n between older e (right (p x.packet) _ is))
  where
    right : (a b : Bool) → (a || b) ≡ false → b ≡ false
    right true b e = absurd (false≢true (sym e))
    right false b e = e

two_apart : (n : ℕ) (newer between older : List DeliveredAt) (d e : DeliveredAt)
    → Apart n (newer ++ d ∷ (between ++ e ∷ older))
    → is_same_packet e.packet.id d.packet.id ≡ true
    → (e.packet.until ≤ d.time) ⊎ (n ≤ length between)
two_apart n [] between older d e apart same =
    ⊎_elim (λ (f : is_packet d.packet.id d.time e.packet ≡ false).
    inl (ltb-false d.time e.packet.until (over (is_same_packet e.packet.id d.packet.id) _ same f)))
    (λ (le : n ≤ length between). inr le)
    (pushed_out (is_packet d.packet.id d.time) n between older e apart.0)
  where
    over : (a b : Bool) → a ≡ true → (a && b) ≡ false → b ≡ false
    over true b p q = q
    over false b p q = absurd (false≢true p)
two_apart n (x ∷ newer) between older d e apart same =
    two_apart n newer between older d e apart.1 same

pub apart : (limits : Limits) (g : Governor) → IsNewGovernor limits g
    → limits.delivers_once ≡ true → AreApart g
unfolding packets_of
apart limits g new once calls newer between older d e is same =
    let starts : g.delivered ≡ Some (memory_of 1024 []) =
    new.delivered
    ∙ ap (λ (b : Bool). cond b (Some (record { packets = []; limit = 1024 })) None) once in
    two_apart 1024 newer between older d e
    (subst (λ (ds : List DeliveredAt). Apart 1024 ds) is (all_apart 1024 g [] calls starts tt)) same
