-- Calls and releases of a unit, in every order.
use Rattle.std.proofs.Common.{◌≡◌, ◌≤◌, ◌+◌, ◌&&◌, ℕ, zero, suc, List, [], ◌∷◌, ◌++◌, length}
use Rattle.std.proofs.Common.{Bool, true, false, cond, Option, Some, None, refl, sym, ap, ◌∙◌, subst}
use Rattle.std.proofs.Common.{arith}
use Rattle.std.specs.Prelude.{nat_lt}
use Rattle.std.proofs.lemmas.Option.{none-some}
use Rattle.std.proofs.lemmas.List.Elements.{All-nil}
use Rattle.its_gnvalue.specs.Values.{mid_of}
use Rattle.its_linkframe.specs.Copies.{is_copy}
use Rattle.its_model.specs.Packet.{Message, Transmission}
use Rattle.its_model.specs.Calls as model
use Rattle.its_model.specs.Calls.{Answer, Refusal}
use Rattle.its_model.specs.Contention.{ContentionRule, Fate, HeldFrame, IsRule, contends_for, due_of}
use Rattle.its_model.specs.Contention.{first_due, kept_at, late_after, next_due, places}
use Rattle.its_model.specs.Contention.{sender_distance, tie_of}
use Rattle.its_model.specs.Station.{StationModel, moment_refusal}
use Rattle.its_model.proofs.ContenderPuts.{wait_greatest}
use Rattle.its_contention.specs.Buffer.{Buffer, after_drop, after_late, cleared, empty}
use Rattle.its_contention.specs.Contending.{after_acceptance, after_duplicate, by_fate}
use Rattle.its_contention.specs.Counted.{AreCounted, BufferCall, after_call, after_calls}
use Rattle.its_contention.specs.Waiting.{Waiting}
use Rattle.its_contention.proofs.Counting.{none_is_lost}
use Rattle.its_governor.specs.declared.governor.Governor.{Governor}
use Rattle.its_governor.specs.declared.rate.Limits.{Limits}
use Rattle.its_governor.specs.Governing.{admits}
use Rattle.its_unit.specs.Contending.{Released, after_accepting, after_due_frame, after_frame}
use Rattle.its_unit.specs.Contending.{after_own_answer, contended, governed_release, has_room_for_due}
use Rattle.its_unit.specs.Contending.{release_first, released_or, waiting_of}
use Rattle.its_unit.specs.Releases.{release_by, release_of}
use Rattle.its_unit.specs.Acts.{DeliveriesAreKept, RatesAreKept}
use Rattle.its_unit.specs.Lawful.{Contends}
use Rattle.its_unit.specs.Outcomes.{CopiesComeFromOthers, ForwardsAreSettled}
use Rattle.its_unit.specs.Runs.{ForwardsAreCounted, IsStationRun, ReleasedIsWhatWouldBeSent}
use Rattle.its_unit.specs.Runs.{ReleasesAreWithin}
use Rattle.its_unit.specs.Runs.{UnitAct, UnitCallAt, WasPut, after_act, is_withheld, made_in}
use Rattle.its_unit.specs.Runs.{made_in_act, station_after, unit_acts}
use Rattle.its_unit.specs.Unit.{UnitModel, UnitStep, frame_of, octets_in, passed_step, receiver_of}
use Rattle.its_unit.specs.Unit.{refused_step, step_within}
use Rattle.its_unit.proofs.Cancels.{cancelled}
use Rattle.its_unit.proofs.Puts.{AllHeld, IsDue, PutsOnly, calls_keep, calls_rule, drop_keeps}
use Rattle.its_unit.proofs.Puts.{kept_in_time, released_is, wait_least}

-- ---- the station within

-- a release leaves it
pub released_station : (u : UnitModel) (now : ℕ) (o : Option Refusal)
    → (release_by u now o).unit.station ≡ u.station
released_station u now (Some refusal) = refl
released_station u now None = by u.contention
  where
    by : (b : Option (Buffer Waiting)) → (release_of u now b).unit.station ≡ u.station
    by None = refl
    by (Some b) = refl

-- the step of a unit, by whether it is refused for the rate
abbrev step_if : UnitModel → UnitCallAt → Bool → UnitStep
step_if u c withheld =
    cond withheld (refused_step u) (passed_step u c.now c.call (step_within u.station c.now c.call))

act_station : (u : UnitModel) (a : UnitAct)
    → (after_act u a).station ≡ station_after u.station (made_in_act u a)
act_station u (UnitAct.Calls c) = by (is_withheld u c)
  where
    by : (b : Bool)
        → (step_if u c b).unit.station ≡ station_after u.station (cond b [] (c ∷ []))
    by true = refl
    by false = refl
act_station u (UnitAct.Releases now) = released_station u now (moment_refusal u.station now)

after_both : (xs ys : List UnitCallAt) (s : StationModel)
    → station_after s (xs ++ ys) ≡ station_after (station_after s xs) ys
after_both [] ys s = refl
after_both (x ∷ xs) ys s = after_both xs ys (step_within s x.now x.call).station

acts_station : (acts : List UnitAct) (u : UnitModel)
    → (unit_acts u acts).station ≡ station_after u.station (made_in u acts)
acts_station [] u = refl
acts_station (a ∷ acts) u =
    acts_station acts (after_act u a)
    ∙ ap (λ (s : StationModel). station_after s (made_in (after_act u a) acts)) (act_station u a)
    ∙ sym (after_both (made_in_act u a) (made_in (after_act u a) acts) u.station)

-- ---- what an act does to the frames that wait

-- Some calls on the frames that wait lead from one buffer to the other, and all that they put has this.
abbrev pub Became : (Waiting → ℕ → Type 0) → Buffer Waiting → Buffer Waiting → Type 0
Became P b new =
    (calls : List (BufferCall Waiting)) × (new ≡ after_calls b calls) × PutsOnly P calls

-- and so of a unit that contends
abbrev pub BecameIn : (Waiting → ℕ → Type 0) → Buffer Waiting → Option (Buffer Waiting) → Type 0
BecameIn P b new = (after : Buffer Waiting) × (new ≡ Some after) × Became P b after

stays : (P : Waiting → ℕ → Type 0) (b : Buffer Waiting) → Became P b b
stays P b = ([], refl, tt)

after_all : (xs ys : List (BufferCall Waiting)) (b : Buffer Waiting)
    → after_calls b (xs ++ ys) ≡ after_calls (after_calls b xs) ys
after_all [] ys b = refl
after_all (x ∷ xs) ys b = after_all xs ys (after_call b x)

puts_both : (xs ys : List (BufferCall Waiting)) (P : Waiting → ℕ → Type 0) → PutsOnly P xs
    → PutsOnly P ys → PutsOnly P (xs ++ ys)
puts_both [] ys P puts rest = rest
puts_both (BufferCall.Hold frame due ∷ xs) ys P puts rest =
    (puts.0, puts_both xs ys P puts.1 rest)
puts_both (BufferCall.Hear is_copy sender ∷ xs) ys P puts rest = puts_both xs ys P puts rest
puts_both (BufferCall.DropLate now ∷ xs) ys P puts rest = puts_both xs ys P puts rest
puts_both (BufferCall.TakeDue now ∷ xs) ys P puts rest = puts_both xs ys P puts rest
puts_both (BufferCall.DropDue now ∷ xs) ys P puts rest = puts_both xs ys P puts rest
puts_both (BufferCall.Clear ∷ xs) ys P puts rest = puts_both xs ys P puts rest
puts_both (BufferCall.NoteFull ∷ xs) ys P puts rest = puts_both xs ys P puts rest

became_both : (P : Waiting → ℕ → Type 0) (a b c : Buffer Waiting) → Became P a b → Became P b c
    → Became P a c
became_both P a b c (xs, x, puts) (ys, y, rest) = (
  xs ++ ys,
  y ∙ ap (λ (n : Buffer Waiting). after_calls n ys) x ∙ sym (after_all xs ys a),
  puts_both xs ys P puts rest,
)

-- what a frame puts that came, when this relay of it waits
abbrev PutBy : (Waiting → ℕ → Type 0) → Buffer Waiting → Governor → StationModel → ℕ
    → (Transmission → List ℕ) → Bool → Transmission → Option Transmission → Type 0
PutBy P b g s now octets knew t relayed =
    (relay : Transmission) → relayed ≡ Some relay → admits g now t ≡ true
    → P (waiting_of (octets relay) knew t) (due_of b.rule s now t)

-- a frame that goes on
by_its_fate : (P : Waiting → ℕ → Type 0) (b : Buffer Waiting) (frame : Waiting) (contends : Bool)
    (due : ℕ) (waits : Bool) → P frame due
    → Became P b (by_fate contends b frame (cond waits (Fate.Waits due) Fate.Goes))
by_its_fate P b frame contends due true put = (BufferCall.Hold frame due ∷ [], refl, (put, tt))
by_its_fate P b frame true due false put = (BufferCall.NoteFull ∷ [], refl, tt)
by_its_fate P b frame false due false put = stays P b

accepting : (P : Waiting → ℕ → Type 0) (b : Buffer Waiting) (g : Governor) (s : StationModel)
    (now : ℕ) (octets : Transmission → List ℕ) (knew : Bool) (t : Transmission)
    (relayed : Option Transmission) → PutBy P b g s now octets knew t relayed
    → Became P b (after_accepting b (Some g) s now octets knew t relayed)
accepting P b g s now octets knew t None put = stays P b
accepting P b g s now octets knew t (Some relay) put = by (admits g now t) refl
  where
    frame : Waiting
    frame = waiting_of (octets relay) knew t

    by : (x : Bool) → admits g now t ≡ x
        → Became P b (cond x (after_acceptance b s now t relay frame) b)
    by true is =
        by_its_fate P b frame (contends_for s t.pdu.body) (due_of b.rule s now t)
        (contends_for s t.pdu.body && nat_lt (length b.held) places) (put relay refl is)
    by false is = stays P b

-- a frame that came
framed : (P : Waiting → ℕ → Type 0) (b : Buffer Waiting) (g : Governor) (s : StationModel) (now : ℕ)
    (octets : Transmission → List ℕ) (knew : Bool) (t : Transmission) (a : Answer Transmission)
    → ((handed : Option Message) (relayed : Option Transmission)
    → a ≡ model.Answer.Accepted handed relayed → PutBy P b g s now octets knew t relayed)
    → BecameIn P b (after_frame (Some b) (Some g) s now octets knew t a)
framed P b g s now octets knew t (model.Answer.Accepted handed relayed) put = (
  after_accepting b (Some g) s now octets knew t relayed,
  refl,
  accepting P b g s now octets knew t relayed (put handed relayed refl),
)
framed P b g s now octets knew t (model.Answer.Ignored model.Why.Duplicate) put = (
  after_duplicate b (mid_of s.address) (octets t) t.link_source,
  refl,
  (
    BufferCall.Hear (λ held. is_copy (mid_of s.address) held.octets (octets t)) t.link_source ∷ [],
    refl,
    tt,
  ),
)
framed P b g s now octets knew t (model.Answer.Ignored model.Why.NotForMe) put =
    (b, refl, stays P b)
framed P b g s now octets knew t (model.Answer.Ignored model.Why.OwnSource) put =
    (b, refl, stays P b)
framed P b g s now octets knew t (model.Answer.Ignored model.Why.SenderMismatch) put =
    (b, refl, stays P b)
framed P b g s now octets knew t (model.Answer.Sent sent) put = (b, refl, stays P b)
framed P b g s now octets knew t model.Answer.Moved put = (b, refl, stays P b)
framed P b g s now octets knew t model.Answer.Opened put = (b, refl, stays P b)
framed P b g s now octets knew t model.Answer.Closed put = (b, refl, stays P b)
framed P b g s now octets knew t model.Answer.Restarted put = (b, refl, stays P b)
framed P b g s now octets knew t model.Answer.Quiet put = (b, refl, stays P b)
framed P b g s now octets knew t (model.Answer.Refused refusal) put = (b, refl, stays P b)

-- a call of its own
owned : (P : Waiting → ℕ → Type 0) (b : Buffer Waiting) (a : Answer Transmission)
    → BecameIn P b (after_own_answer (Some b) a)
owned P b model.Answer.Restarted = (cleared b, refl, (BufferCall.Clear ∷ [], refl, tt))
owned P b (model.Answer.Accepted handed relayed) = (b, refl, stays P b)
owned P b (model.Answer.Ignored why) = (b, refl, stays P b)
owned P b (model.Answer.Sent sent) = (b, refl, stays P b)
owned P b model.Answer.Moved = (b, refl, stays P b)
owned P b model.Answer.Opened = (b, refl, stays P b)
owned P b model.Answer.Closed = (b, refl, stays P b)
owned P b model.Answer.Quiet = (b, refl, stays P b)
owned P b (model.Answer.Refused refusal) = (b, refl, stays P b)

called : (P : Waiting → ℕ → Type 0) (b : Buffer Waiting) (g : Governor) (s : StationModel) (now : ℕ)
    (octets : Transmission → List ℕ) (knew : Bool) (f : Option Transmission) (a : Answer Transmission)
    → ((t : Transmission) (handed : Option Message) (relayed : Option Transmission) → f ≡ Some t
    → a ≡ model.Answer.Accepted handed relayed → PutBy P b g s now octets knew t relayed)
    → BecameIn P b (contended (Some b) (Some g) s now octets knew f a)
called P b g s now octets knew None a put = owned P b a
called P b g s now octets knew (Some t) a put =
    framed P b g s now octets knew t a (λ handed relayed is. put t handed relayed refl is)

-- a release
releasing : (P : Waiting → ℕ → Type 0) (most address now : ℕ) (b : Buffer Waiting) (g : Governor)
    → Became P b (release_first most address now b g).waiting
releasing P zero address now b g = stays P b
releasing P (suc most) address now b g =
    by (first_due now b.held) (has_room_for_due g address now (first_due now b.held))
    (release_first most address now (after_drop b now)
    (after_due_frame g now (first_due now b.held) false))
    (releasing P most address now (after_drop b now)
    (after_due_frame g now (first_due now b.held) false))
  where
    by : (first : Option Waiting) (room : Bool) (rest : Released)
        → Became P (after_drop b now) rest.waiting
        → Became P b (released_or b g now first room rest).waiting
    by None room rest next = stays P b
    by (Some frame) true rest next = (BufferCall.TakeDue now ∷ [], refl, tt)
    by (Some frame) false rest next = (BufferCall.DropDue now ∷ next.0, next.1, next.2)

governed_releasing : (P : Waiting → ℕ → Type 0) (address now : ℕ) (b : Buffer Waiting)
    (g : Governor) → Became P b (governed_release address now b g).waiting
governed_releasing P address now b g =
    let rest = releasing P (length (kept_at now b.held)) address now (after_late b now) g in
    (BufferCall.DropLate now ∷ rest.0, rest.1, rest.2)

released_by : (P : Waiting → ℕ → Type 0) (u : UnitModel) (now : ℕ) (b : Buffer Waiting)
    (o : Option Refusal) → u.contention ≡ Some b → BecameIn P b (release_by u now o).unit.contention
released_by P u now b (Some refusal) is = (b, is, stays P b)
released_by P u now b None is =
    subst (λ (o : Option (Buffer Waiting)). BecameIn P b (release_of u now o).unit.contention)
    (sym is) (
      (governed_release u.station.address now b u.governor).waiting,
      refl,
      governed_releasing P u.station.address now b u.governor,
    )

-- what an act puts
abbrev pub PutIn : (Waiting → ℕ → Type 0) → ContentionRule → UnitModel → UnitAct → Type 0
PutIn P rule u (UnitAct.Releases now) = Unit {0}
PutIn P rule u (UnitAct.Calls c) =
    (t : Transmission) (handed : Option Message) (relay : Transmission) → frame_of c.call ≡ Some t
    → (step_within u.station c.now c.call).answer ≡ model.Answer.Accepted handed (Some relay)
    → admits u.governor c.now t ≡ true
    → P (waiting_of (octets_in c.call relay)
    (receiver_of u.station c.now (frame_of c.call)).knew_source t)
    (due_of rule (step_within u.station c.now c.call).station c.now t)

pub acted : (P : Waiting → ℕ → Type 0) (u : UnitModel) (a : UnitAct) (b : Buffer Waiting)
    → u.contention ≡ Some b → PutIn P b.rule u a → BecameIn P b (after_act u a).contention
acted P u (UnitAct.Releases now) b is put =
    released_by P u now b (moment_refusal u.station now) is
acted P u (UnitAct.Calls c) b is put = by (is_withheld u c)
  where
    by : (w : Bool) → BecameIn P b (step_if u c w).unit.contention
    by true = (b, is, stays P b)
    by false =
        let step = step_within u.station c.now c.call in
        let f = frame_of c.call in
        let knew = (receiver_of u.station c.now f).knew_source in
        subst (λ (o : Option (Buffer Waiting)). BecameIn P b
        (contended o (Some u.governor) step.station c.now (octets_in c.call) knew f step.answer)) (sym is)
        (called P b u.governor step.station c.now (octets_in c.call) knew f step.answer
        (λ t handed relayed came answered relay some admitted.
        put t handed relay came
        (answered ∙ ap (λ (r : Option Transmission). model.Answer.Accepted handed r) some) admitted))

-- what these acts put
abbrev HoldsOfPut : ContentionRule → UnitModel → List UnitAct → (Waiting → ℕ → Type 0) → Type 0
HoldsOfPut rule u acts P =
    (earlier : List UnitAct) (a : UnitAct) (since : List UnitAct) → acts ≡ earlier ++ a ∷ since
    → PutIn P rule (unit_acts u earlier) a

acts_became : (acts : List UnitAct) (P : Waiting → ℕ → Type 0) (u : UnitModel) (b : Buffer Waiting)
    → u.contention ≡ Some b → HoldsOfPut b.rule u acts P
    → BecameIn P b (unit_acts u acts).contention
acts_became [] P u b is put = (b, is, stays P b)
acts_became (a ∷ acts) P u b is put =
    let next = acted P u a b is (put [] a acts refl) in
    let rule : next.0.rule ≡ b.rule =
    ap (λ (x : Buffer Waiting). x.rule) next.2.1 ∙ calls_rule next.2.0 b in
    let last = acts_became acts P (after_act u a) next.0 next.1
    (subst (λ (r : ContentionRule). HoldsOfPut r (after_act u a) acts P) (sym rule)
    (λ earlier e since split.
    put (a ∷ earlier) e since (ap (λ (xs : List UnitAct). a ∷ xs) split))) in
    (last.0, last.1, became_both P b next.0 last.0 next.2 last.2)

-- ---- the counts

any_put : (u : UnitModel) (rule : ContentionRule) (a : UnitAct)
    → PutIn (λ frame due. Unit {0}) rule u a
any_put u rule (UnitAct.Releases now) = tt
any_put u rule (UnitAct.Calls c) = λ t handed relay came answered admitted. tt

counted : (u : UnitModel) → ForwardsAreCounted u
counted u rule acts is =
    let last = acts_became acts (λ frame due. Unit {0}) u (empty rule) is
    (λ earlier a since split. any_put (unit_acts u earlier) rule a) in
    (last.0, last.1, subst AreCounted (sym last.2.1) (none_is_lost rule last.2.0))

-- ---- what is released

released_first : (most address now : ℕ) (P : Waiting → ℕ → Type 0) (b : Buffer Waiting)
    (g : Governor) (w : Waiting) → AllHeld P b.held
    → (release_first most address now b g).frame ≡ Some w → IsDue P now w
released_first zero address now P b g w all is = absurd (none-some w is)
released_first (suc most) address now P b g w all is =
    by (first_due now b.held) (has_room_for_due g address now (first_due now b.held))
    (release_first most address now (after_drop b now)
    (after_due_frame g now (first_due now b.held) false)) refl
    (released_first most address now P (after_drop b now)
    (after_due_frame g now (first_due now b.held) false) w (drop_keeps P b now all)) is
  where
    by : (first : Option Waiting) (room : Bool) (rest : Released) → first_due now b.held ≡ first
        → (rest.frame ≡ Some w → IsDue P now w)
        → (released_or b g now first room rest).frame ≡ Some w → IsDue P now w
    by None room rest found next is = absurd (none-some w is)
    by (Some frame) true rest found next is =
        released_is (next_due b.held) b.held P now w all (found ∙ is)
    by (Some frame) false rest found next is = next is

pub released_of : (o : Option Refusal) (u : UnitModel) (now : ℕ) (P : Waiting → ℕ → Type 0)
    (b : Buffer Waiting) (w : Waiting) → u.contention ≡ Some b → AllHeld P b.held
    → (release_by u now o).frame ≡ Some w
    → IsDue (λ frame due. P frame due × (now ≤ due + late_after)) now w
released_of (Some refusal) u now P b w held all is = absurd (none-some w is)
released_of None u now P b w held all is =
    released_first (length (kept_at now b.held)) u.station.address now
    (λ frame due. P frame due × (now ≤ due + late_after)) (after_late b now) u.governor w
    (kept_in_time P now b.held all)
    (sym (ap (λ (o : Option (Buffer Waiting)). (release_of u now o).frame) held) ∙ is)

was_put : (rule : ContentionRule) (u : UnitModel) (acts : List UnitAct) → IsRule rule
    → HoldsOfPut rule u acts (WasPut rule u acts)
was_put rule u acts fits earlier (UnitAct.Releases now) since split = tt
was_put rule u acts fits earlier (UnitAct.Calls c) since split =
    λ t handed relay came answered admitted.
    let s = (step_within (unit_acts u earlier).station c.now c.call).station in
    let tie = tie_of s t.pdu.body in
    let distance = sender_distance s c.now t.link_source in
    record {
      earlier = earlier;
      call = c;
      since = since;
      packet = t;
      handed = handed;
      relay = relay;
      split = split;
      brought = came;
      answered = answered;
      admitted = admitted;
      octets = refl;
      due_is = refl;
      not_before = omega (arith, wait_least distance rule tie fits.order);
      not_after = omega (arith, wait_greatest distance rule tie);
    }

released_as_put : (u : UnitModel) → ReleasedIsWhatWouldBeSent u
released_as_put u rule acts now frame fits is found =
    let P = WasPut rule u acts in
    let last = acts_became acts P u (empty rule) is (was_put rule u acts fits) in
    let none = All-nil (λ (h : HeldFrame Waiting). P h.frame h.due) in
    let all = subst (λ (b : Buffer Waiting). AllHeld P b.held) (sym last.2.1)
    (calls_keep last.2.0 P (empty rule) none last.2.2) in
    let there = released_of (moment_refusal (unit_acts u acts).station now) (unit_acts u acts) now P
    last.0 frame last.1 all found in
    record {
      due = there.due;
      put = there.holds.0;
      not_before = there.not_after;
      not_after = there.holds.1;
    }

-- ---- the laws

pub contends : (limits : Limits) (u : UnitModel) → ((v : UnitModel) → IsStationRun v)
    → ReleasesAreWithin limits u → RatesAreKept limits u → DeliveriesAreKept limits u
    → ForwardsAreSettled u → CopiesComeFromOthers u → Contends limits u
contends limits u runs within rates deliveries settled copies = record {
  cancelled_by_the_same_frame = cancelled u;
  stations_are_as_before = record {
    station = λ acts. acts_station acts u;
    answers = λ acts next within. (runs (unit_acts u acts)).answers [] next within;
  };
  released_is_what_would_be_sent = released_as_put u;
  forwards_are_counted = counted u;
  releases_are_within = within;
  rates_are_kept = rates;
  deliveries_are_kept = deliveries;
  forwards_are_settled = settled;
  copies_come_from_others = copies;
}
