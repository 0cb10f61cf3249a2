-- What is forwarded is bounded, of all and of each source.
use Rattle.std.proofs.Common.{◌≡◌, ℕ, suc, zero, ◌+◌, ◌-◌, ◌*◌, ◌≤◌, ◌<◌, ◌&&◌, Bool, true, false}
use Rattle.std.proofs.Common.{cond, eqb, leb, not, List, [], ◌∷◌, ◌++◌, length, take}
use Rattle.std.proofs.Common.{Option, Some, None, refl, sym, ap, ◌∙◌, subst, arith, mul-add}
use Rattle.std.proofs.Common.{mul-le-mul_left, is_some, ◌⊎◌, inl, inr}
use Rattle.std.proofs.lemmas.Bool.{eqb-true, leb-true, leb-false, le-leb, false≢true}
use Rattle.std.specs.Option.{option_map}
use Rattle.its_model.specs.Packet.{Transmission}
use Rattle.its_model.specs.Calls as model
use Rattle.its_model.specs.Calls.{Answer}
use Rattle.its_governor.specs.declared.bucket.Bucket.{Bucket}
use Rattle.its_governor.specs.declared.governor.Governor.{Governor}
use Rattle.its_governor.specs.declared.receiver.Receiver.{Receiver}
use Rattle.its_governor.specs.declared.rate.Rate.{Rate}
use Rattle.its_governor.specs.declared.rate.Limits.{Limits}
use Rattle.its_governor.specs.declared.sources.SourceDraw.{SourceDraw}
use Rattle.its_governor.specs.Bucket.{full, has_room, drawn, drawn_at, parts_at, MayPass}
use Rattle.its_governor.specs.Sources.{SourceState, Forwarded, SourcesMayPass, bucket_of}
use Rattle.its_governor.specs.Sources.{bucket_after, draw_of, drawn_by, latest, times_from, with_draw}
use Rattle.its_governor.specs.Governing.{after_delivery, after_forwarding, after_judging, after_call}
use Rattle.its_governor.specs.Governing.{passed_of, is_echo, room_in}
use Rattle.its_governor.specs.Governing.{source_room, source_drawn, draw_from, IsNewGovernor}
use Rattle.its_governor.specs.Deliveries.{GovernedCall, after_governed}
use Rattle.its_governor.specs.Forwarding.{forward_if, forwarded_by, forwarded_in, forwarded, times}
use Rattle.its_governor.specs.Forwarding.{ForwardsAreBounded, SourcesStayBounded}
use Rattle.its_governor.specs.Forwarding.{RemembersSources}
use Rattle.its_governor.specs.Pressure.{has_share}
use Rattle.its_governor.proofs.Bounds.{both, bounded, room_since, room_parts, sum_of_parts}
use Rattle.its_governor.proofs.Buckets.{none_front, none_of}

-- ---- frames that are forwarded pass their buckets

-- no bucket changes by a delivery
delivery_forward : (g : Governor) (now : ℕ) (t : Transmission) (repeated delivers : Bool)
    → (after_delivery g now t repeated delivers).forward ≡ g.forward
delivery_forward g now t true true = refl
delivery_forward g now t true false = refl
delivery_forward g now t false true = refl
delivery_forward g now t false false = refl

delivery_sources : (g : Governor) (now : ℕ) (t : Transmission) (repeated delivers : Bool)
    → (after_delivery g now t repeated delivers).sources ≡ g.sources
delivery_sources g now t true true = refl
delivery_sources g now t true false = refl
delivery_sources g now t false true = refl
delivery_sources g now t false false = refl

-- what a bucket lets pass in a call, and what it is then
pub record Passed (b : Bucket) (frames : List Forwarded) (new : Option Bucket) : Type 0 where
  pub pass : MayPass b (times frames)
  pub is : new ≡ Some (drawn_at b (times frames))

pub record SourcesPassed (s : SourceState) (frames : List Forwarded) (new : Option SourceState)
    : Type 0 where
  pub pass : SourcesMayPass s frames
  pub is : new ≡ Some (drawn_by s frames)

-- what passes has room in both
has_both : (echo cap common own share sent : Bool)
    → (sent && (not echo && (cap && common && own && share))) ≡ true
    → (common ≡ true) × (own ≡ true)
has_both echo cap true true share true e = (refl, refl)
has_both true cap common own share true e = absurd (false≢true e)
has_both false false common own share true e = absurd (false≢true e)
has_both false true false own share true e = absurd (false≢true e)
has_both false true true false share true e = absurd (false≢true e)
has_both echo cap common own share false e = absurd (false≢true e)

forwards_room : (g : Governor) (r : Receiver) (now : ℕ) (t : Transmission) (handed sent : Bool)
    → (passed_of g r now t handed sent).forwards ≡ true
    → (room_in g.forward now ≡ true) × (source_room g.sources t.pdu.vector.address now ≡ true)
forwards_room g r now t handed sent e =
    has_both (is_echo g.delivered now t) (leb t.hops_left g.hop_cap) (room_in g.forward now)
    (source_room g.sources t.pdu.vector.address now) (has_share g.forward g.shares r now t) sent e

passed_if : (b : Bucket) (g : Governor) (now : ℕ) (t : Transmission) (sent p : Bool)
    → g.forward ≡ Some b → (p ≡ true → room_in g.forward now ≡ true)
    → Passed b (forward_if p now t) (after_forwarding g now t.pdu.vector.address sent p).forward
passed_if b g now t sent true is room = record {
  pass = (subst (λ (o : Option Bucket). room_in o now ≡ true) is (room refl), tt);
  is = ap (λ (o : Option Bucket). draw_from o now) is;
}
passed_if b g now t true false is room = record { pass = tt; is = is }
passed_if b g now t false false is room = record { pass = tt; is = is }

sources_passed_if : (s : SourceState) (g : Governor) (now : ℕ) (t : Transmission) (sent p : Bool)
    → g.sources ≡ Some s
    → (p ≡ true → source_room g.sources t.pdu.vector.address now ≡ true)
    → SourcesPassed s (forward_if p now t)
    (after_forwarding g now t.pdu.vector.address sent p).sources
sources_passed_if s g now t sent true is room = record {
  pass = (
    subst (λ (o : Option SourceState). source_room o t.pdu.vector.address now ≡ true) is (room refl),
    tt,
  );
  is = ap (λ (o : Option SourceState). source_drawn o t.pdu.vector.address now) is;
}
sources_passed_if s g now t true false is room = record { pass = tt; is = is }
sources_passed_if s g now t false false is room = record { pass = tt; is = is }

-- of a packet that was accepted
passed_judged : (b : Bucket) (g : Governor) (r : Receiver) (now : ℕ)
    (t : Transmission) (handed sent : Bool)
    → g.forward ≡ Some b
    → Passed b (forward_if (passed_of g r now t handed sent).forwards now t)
    (after_judging g r now t handed sent).forward
passed_judged b g r now t handed sent is =
    let p = passed_of g r now t handed sent in
    let passed = passed_if b g now t sent p.forwards is
    (λ e. (forwards_room g r now t handed sent e).0) in
    record {
      pass = passed.pass;
      is = delivery_forward (after_forwarding g now t.pdu.vector.address sent p.forwards) now t
          p.is_repeated p.delivers ∙ passed.is;
    }

sources_judged : (s : SourceState) (g : Governor) (r : Receiver) (now : ℕ)
    (t : Transmission) (handed sent : Bool)
    → g.sources ≡ Some s
    → SourcesPassed s (forward_if (passed_of g r now t handed sent).forwards now t)
    (after_judging g r now t handed sent).sources
sources_judged s g r now t handed sent is =
    let p = passed_of g r now t handed sent in
    let passed = sources_passed_if s g now t sent p.forwards is
    (λ e. (forwards_room g r now t handed sent e).1) in
    record {
      pass = passed.pass;
      is = delivery_sources (after_forwarding g now t.pdu.vector.address sent p.forwards) now t
          p.is_repeated p.delivers ∙ passed.is;
    }

-- of any call
passed_by : (b : Bucket) (g : Governor) (r : Receiver) (now : ℕ)
    (request : Bool) (frame : Option Transmission)
    (answer : Answer Transmission) → g.forward ≡ Some b
    → Passed b (forwarded_by g r now frame answer) (after_call g r now request frame answer).forward
passed_by b g r now request (Some t) (model.Answer.Accepted handed relayed) is =
    passed_judged b g r now t (is_some handed) (is_some relayed) is
passed_by b g r now request None (model.Answer.Accepted handed relayed) is =
    record { pass = tt; is = is }
passed_by b g r now true frame (model.Answer.Sent sent) is = record { pass = tt; is = is }
passed_by b g r now false frame (model.Answer.Sent sent) is = record { pass = tt; is = is }
passed_by b g r now request frame model.Answer.Moved is = record { pass = tt; is = is }
passed_by b g r now request frame model.Answer.Opened is = record { pass = tt; is = is }
passed_by b g r now request frame model.Answer.Closed is = record { pass = tt; is = is }
passed_by b g r now request frame model.Answer.Restarted is = record { pass = tt; is = is }
passed_by b g r now request frame model.Answer.Quiet is = record { pass = tt; is = is }
passed_by b g r now request frame (model.Answer.Ignored why) is = record { pass = tt; is = is }
passed_by b g r now request frame (model.Answer.Refused refusal) is = record { pass = tt; is = is }

sources_passed_by : (s : SourceState) (g : Governor) (r : Receiver) (now : ℕ)
    (request : Bool)
    (frame : Option Transmission) (answer : Answer Transmission) → g.sources ≡ Some s
    → SourcesPassed s (forwarded_by g r now frame answer)
    (after_call g r now request frame answer).sources
sources_passed_by s g r now request (Some t) (model.Answer.Accepted handed relayed) is =
    sources_judged s g r now t (is_some handed) (is_some relayed) is
sources_passed_by s g r now request None (model.Answer.Accepted handed relayed) is =
    record { pass = tt; is = is }
sources_passed_by s g r now true frame (model.Answer.Sent sent) is = record { pass = tt; is = is }
sources_passed_by s g r now false frame (model.Answer.Sent sent) is = record { pass = tt; is = is }
sources_passed_by s g r now request frame model.Answer.Moved is = record { pass = tt; is = is }
sources_passed_by s g r now request frame model.Answer.Opened is = record { pass = tt; is = is }
sources_passed_by s g r now request frame model.Answer.Closed is = record { pass = tt; is = is }
sources_passed_by s g r now request frame model.Answer.Restarted is = record { pass = tt; is = is }
sources_passed_by s g r now request frame model.Answer.Quiet is = record { pass = tt; is = is }
sources_passed_by s g r now request frame (model.Answer.Ignored why) is = record { pass = tt; is = is }
sources_passed_by s g r now request frame (model.Answer.Refused refusal) is =
    record { pass = tt; is = is }

pub passed_in : (b : Bucket) (g : Governor) (call : GovernedCall) → g.forward ≡ Some b
    → Passed b (forwarded_in g call) (after_governed g call).forward
passed_in b g (GovernedCall.Answered r now request frame answer) is =
    passed_by b g r now request frame answer is
passed_in b g GovernedCall.OverRate is = record { pass = tt; is = is }

sources_passed_in : (s : SourceState) (g : Governor) (call : GovernedCall) → g.sources ≡ Some s
    → SourcesPassed s (forwarded_in g call) (after_governed g call).sources
sources_passed_in s g (GovernedCall.Answered r now request frame answer) is =
    sources_passed_by s g r now request frame answer is
sources_passed_in s g GovernedCall.OverRate is = record { pass = tt; is = is }

-- of one list of frames after another
pass_both : (b : Bucket) (xs ys : List Forwarded) → MayPass b (times xs)
    → MayPass (drawn_at b (times xs)) (times ys) → MayPass b (times (xs ++ ys))
pass_both b [] ys first rest = rest
pass_both b (x ∷ xs) ys first rest =
    (first.0, pass_both (drawn b x.time) xs ys first.1 rest)

sources_pass_both : (s : SourceState) (xs ys : List Forwarded) → SourcesMayPass s xs
    → SourcesMayPass (drawn_by s xs) ys → SourcesMayPass s (xs ++ ys)
sources_pass_both s [] ys first rest = rest
sources_pass_both s (x ∷ xs) ys first rest =
    (first.0, sources_pass_both (with_draw x.source x.time s) xs ys first.1 rest)

all_pass : (b : Bucket) (g : Governor) (calls : List GovernedCall) → g.forward ≡ Some b
    → MayPass b (times (forwarded g calls))
all_pass b g [] is = tt
all_pass b g (call ∷ calls) is =
    let passed = passed_in b g call is in
    pass_both b (forwarded_in g call) (forwarded (after_governed g call) calls) passed.pass
    (all_pass (drawn_at b (times (forwarded_in g call))) (after_governed g call) calls passed.is)

all_sources_pass : (s : SourceState) (g : Governor) (calls : List GovernedCall)
    → g.sources ≡ Some s → SourcesMayPass s (forwarded g calls)
all_sources_pass s g [] is = tt
all_sources_pass s g (call ∷ calls) is =
    let passed = sources_passed_in s g call is in
    sources_pass_both s (forwarded_in g call) (forwarded (after_governed g call) calls) passed.pass
    (all_sources_pass (drawn_by s (forwarded_in g call)) (after_governed g call) calls passed.is)

pub forwards_bounded : (limits : Limits) (g : Governor) (rate : Rate) → IsNewGovernor limits g
    → limits.forward ≡ Some rate → ForwardsAreBounded g rate
forwards_bounded limits g rate new is calls =
    bounded (full rate) (times (forwarded g calls))
    (all_pass (full rate) g calls (new.forward ∙ ap (option_map full) is))

-- ---- the bucket of a source is never lost before it is full

-- the frames of this source, the newest of which stands behind others
record Shown (rate : Rate) (source : ℕ) (draws : List SourceDraw) (b : Bucket) : Type 0 where
  newer : List SourceDraw
  draw : SourceDraw
  older : List SourceDraw
  are : draws ≡ newer ++ draw ∷ older
  none : latest rate source newer ≡ None
  is : eqb draw.source source ≡ true
  bucket : b ≡ bucket_after rate draw

shown_bucket : (rate : Rate) (source : ℕ) (draws : List SourceDraw) (b : Bucket)
    → Shown rate source draws b → bucket_of rate source draws ≡ b
shown_bucket rate source draws b h =
    ap (bucket_of rate source) h.are
    ∙ none_front rate source h.newer (h.draw ∷ h.older) h.none
    ∙ ap (λ (p : Bool). cond p (bucket_after rate h.draw) (bucket_of rate source h.older)) h.is
    ∙ sym h.bucket

-- a frame of another source in front
none_before : (rate : Rate) (source : ℕ) (d : SourceDraw) (draws : List SourceDraw)
    → eqb d.source source ≡ false → latest rate source draws ≡ None
    → latest rate source (d ∷ draws) ≡ None
none_before rate source d draws other none =
    ap (λ (p : Bool). cond p (Some (bucket_after rate d)) (latest rate source draws)) other ∙ none

-- in a front there is none either
none_taken : (rate : Rate) (source n : ℕ) (draws : List SourceDraw)
    → latest rate source draws ≡ None → latest rate source (take n draws) ≡ None
none_taken rate source zero draws none = refl
none_taken rate source (suc n) [] none = refl
none_taken rate source (suc n) (d ∷ draws) none =
    by (eqb d.source source) none (none_taken rate source n draws)
  where
    by : (p : Bool) → cond p (Some (bucket_after rate d)) (latest rate source draws) ≡ None
        → (latest rate source draws ≡ None → latest rate source (take n draws) ≡ None)
        → cond p (Some (bucket_after rate d)) (latest rate source (take n draws)) ≡ None
    by true e rest = e
    by false e rest = rest e

-- a front that reaches beyond an item, and one that doesn't
record Front (n : ℕ) (xs : List SourceDraw) (x : SourceDraw) (ys : List SourceDraw) : Type 0 where
  rest : List SourceDraw
  is : take n (xs ++ x ∷ ys) ≡ xs ++ x ∷ rest

front_beyond : (n : ℕ) (xs : List SourceDraw) (x : SourceDraw) (ys : List SourceDraw)
    → length xs < n → Front n xs x ys
front_beyond zero xs x ys less = absurd (omega (arith, less))
front_beyond (suc n) [] x ys less = record { rest = take n ys; is = refl }
front_beyond (suc n) (z ∷ xs) x ys less =
    let more = front_beyond n xs x ys (omega (arith, less)) in
    record { rest = more.rest; is = ap (λ (l : List SourceDraw). z ∷ l) more.is }

front_within : (n : ℕ) (xs ys : List SourceDraw) → n ≤ length xs → take n (xs ++ ys) ≡ take n xs
front_within zero xs ys le = refl
front_within (suc n) [] ys le = absurd (omega (arith, le))
front_within (suc n) (z ∷ xs) ys le =
    ap (λ (l : List SourceDraw). z ∷ l) (front_within n xs ys (omega (arith, le)))

-- how much of the common bucket was used since a time, by so many frames
abbrev Used : Bucket → ℕ → ℕ → Type 0
Used f since n =
    f.parts + 1000 * n ≤ 1000 * f.rate.burst + f.rate.per_second * (f.since - since)

used_more : (f : Bucket) (since n now : ℕ) → since ≤ f.since → has_room f now ≡ true
    → Used f since n → Used (drawn f now) since (suc n)
used_more f since n now past room used =
    let later = room_since f now room in
    let enough = room_parts f now room in
    let step : f.rate.per_second * (now - f.since) + f.rate.per_second * (f.since - since)
    ≡ f.rate.per_second * (now - since) = sum_of_parts f.rate.per_second (now - f.since) (f.since - since)
    (now - since) (omega (arith, later, past)) in
    omega (arith, enough, step, used)

-- a bucket that is full at this time, and from then on
abbrev IsFull : Bucket → ℕ → Type 0
IsFull b since =
    (b.since ≤ since) × (1000 * b.rate.burst ≤ b.rate.per_second * (since - b.since))

-- a product's factor
smaller_factor : (a c k : ℕ) → 1 ≤ k → k * a ≤ k * c → a ≤ c
smaller_factor a c k one le = by (leb a c) refl
  where
    by : (p : Bool) → leb a c ≡ p → a ≤ c
    by true e = leb-true a c e
    by false e =
        let more : c + 1 ≤ a = omega (arith, leb-false a c e) in
        let big : k * (c + 1) ≤ k * a = mul-le-mul_left k more in
        let sum : k * (c + 1) ≡ k * c + k * 1 = mul-add k c 1 in
        absurd (omega (arith, big, sum, le, one))

-- with such rates 256 frames of others take long enough for a bucket to be full
refilled : (forward source : Rate) (elapsed : ℕ) → RemembersSources (Some forward) source
    → 256000 ≤ 1000 * forward.burst + forward.per_second * elapsed
    → 1000 * source.burst ≤ source.per_second * elapsed
refilled forward source elapsed fits used =
    let k = 256 - forward.burst in
    let p = forward.per_second in
    let enough : 1000 * k ≤ p * elapsed = omega (arith, used, fits.0) in
    let one : 1 ≤ p = by p elapsed k enough (omega (arith, fits.0)) in
    let first : source.per_second * (1000 * k) ≤ source.per_second * (p * elapsed) =
    mul-le-mul_left source.per_second enough in
    let second : 1000 * (source.burst * p) ≤ 1000 * (k * source.per_second) =
    mul-le-mul_left 1000 fits.1 in
    smaller_factor (1000 * source.burst) (source.per_second * elapsed) p one
    (grind (arith, first, second))
  where
    by : (p elapsed k : ℕ) → 1000 * k ≤ p * elapsed → 1 ≤ k → 1 ≤ p
    by zero elapsed k le some = absurd (omega (arith, le, some))
    by (suc p) elapsed k le some = omega arith

-- ---- the bucket of a source as it would be, had no frame been forgotten

-- its last frame is kept
record Kept (s : SourceState) (f : Bucket) (source : ℕ) (b : Bucket) : Type 0 where
  shown : Shown s.rate source s.draws b
  few : length shown.newer < 256
  since : b.since ≤ f.since
  used : Used f b.since (length shown.newer)

-- it isn't, but the bucket is full
record Lost (s : SourceState) (f : Bucket) (source : ℕ) (b : Bucket) : Type 0 where
  none : latest s.rate source s.draws ≡ None
  full : (b ≡ full s.rate) ⊎ IsFull b f.since

-- the bucket has the same room as the one that is found, and is the same after a frame
record SameRoom (b c : Bucket) (time : ℕ) : Type 0 where
  room : has_room b time ≡ true
  same : drawn c time ≡ drawn b time

same_bucket : (b c : Bucket) (time : ℕ) → c ≡ b → has_room c time ≡ true → SameRoom b c time
same_bucket b c time is room = record {
  room = subst (λ (x : Bucket). has_room x time ≡ true) is room;
  same = ap (λ (x : Bucket). drawn x time) is;
}

full_parts : (b : Bucket) (rate : Rate) (since time : ℕ) → b.rate ≡ rate → IsFull b since
    → since ≤ time → parts_at b time ≡ parts_at (full rate) time
full_parts b rate since time is full_by later =
    subst (λ (r : Rate). parts_at b time ≡ parts_at (full r) time) is
    (let sum : b.rate.per_second * (since - b.since) + b.rate.per_second * (time - since)
    ≡ b.rate.per_second * (time - b.since) = sum_of_parts b.rate.per_second (since - b.since) (time - since)
    (time - b.since) (omega (arith, full_by.0, later)) in
    omega (arith, full_by.1, sum))

both_true : (p q : Bool) → p ≡ true → q ≡ true → (p && q) ≡ true
both_true true true a b = refl
both_true true false a b = b
both_true false q a b = absurd (false≢true a)

same_full : (b : Bucket) (rate : Rate) (since time : ℕ) → b.rate ≡ rate → IsFull b since
    → since ≤ time → has_room (full rate) time ≡ true → SameRoom b (full rate) time
same_full b rate since time is full_by later room =
    let parts = full_parts b rate since time is full_by later in
    let past : b.since ≤ time = omega (arith, full_by.0, later) in
    record {
      room = both_true (leb b.since time) (leb 1000 (parts_at b time)) (le-leb b.since time past)
          (subst (λ (n : ℕ). leb 1000 n ≡ true) (sym parts)
          (both (leb 0 time) (leb 1000 (parts_at (full rate) time)) room).1);
      same = ap (λ (r : Rate).
          record { rate = r; parts = parts_at (full rate) time - 1000; since = time }) (sym is)
          ∙ ap (λ (n : ℕ). record { rate = b.rate; parts = n - 1000; since = time }) (sym parts);
    }

same_room : (s : SourceState) (f b : Bucket) (source time : ℕ) → b.rate ≡ s.rate
    → Kept s f source b ⊎ Lost s f source b → f.since ≤ time
    → has_room (bucket_of s.rate source s.draws) time ≡ true
    → SameRoom b (bucket_of s.rate source s.draws) time
same_room s f b source time rate (inl kept) later room =
    same_bucket b (bucket_of s.rate source s.draws) time
    (shown_bucket s.rate source s.draws b kept.shown) room
same_room s f b source time rate (inr lost) later room = by lost.full
  where
    is : bucket_of s.rate source s.draws ≡ full s.rate
    is = none_of s.rate source s.draws lost.none

    by : (b ≡ full s.rate) ⊎ IsFull b f.since
        → SameRoom b (bucket_of s.rate source s.draws) time
    by (inl same) = same_bucket b (bucket_of s.rate source s.draws) time (is ∙ sym same) room
    by (inr full_by) =
        subst (λ (c : Bucket). SameRoom b c time) (sym is)
        (same_full b s.rate f.since time rate full_by later
        (subst (λ (c : Bucket). has_room c time ≡ true) is room))

-- after a frame of the source
drawn_track : (s : SourceState) (f b : Bucket) (source other time : ℕ) → s.limit ≡ 256
    → b.rate ≡ s.rate → eqb other source ≡ true
    → drawn (bucket_of s.rate other s.draws) time ≡ drawn b time
    → Kept (with_draw other time s) (drawn f time) source (drawn b time)
drawn_track s f b source other time limit rate is same =
    let c = bucket_of s.rate other s.draws in
    record {
      shown = record {
        newer = [];
        draw = draw_of other (drawn c time);
        older = take 255 s.draws;
        are = ap (λ (n : ℕ). take n (draw_of other (drawn c time) ∷ s.draws)) limit;
        none = refl;
        is = is;
        bucket = ap (λ (r : Rate). record {
          rate = r;
          parts = (drawn b time).parts;
          since = time;
        }) rate ∙ ap (λ (d : Bucket). record {
          rate = s.rate;
          parts = d.parts;
          since = d.since;
        }) (sym same);
      };
      few = omega arith;
      since = omega arith;
      used = omega arith;
    }

-- after a frame of another source
kept_track : (s : SourceState) (f b : Bucket) (source other time : ℕ)
    → RemembersSources (Some f.rate) s.rate → s.limit ≡ 256 → b.rate ≡ s.rate
    → eqb other source ≡ false → has_room f time ≡ true → Kept s f source b
    → Kept (with_draw other time s) (drawn f time) source b
    ⊎ Lost (with_draw other time s) (drawn f time) source b
kept_track s f b source other time fits limit rate is room kept =
    by (leb 256 (suc (length newer))) refl
  where
    newer : List SourceDraw
    newer = kept.shown.newer

    d : SourceDraw
    d = draw_of other (drawn (bucket_of s.rate other s.draws) time)

    later : f.since ≤ time
    later = room_since f time room

    used : Used (drawn f time) b.since (suc (length newer))
    used = used_more f b.since (length newer) time kept.since room kept.used

    none : latest s.rate source (d ∷ newer) ≡ None
    none = none_before s.rate source d newer is kept.shown.none

    are : take s.limit (d ∷ s.draws) ≡ take 256 ((d ∷ newer) ++ kept.shown.draw ∷ kept.shown.older)
    are = ap (λ (n : ℕ). take n (d ∷ s.draws)) limit
        ∙ ap (λ (l : List SourceDraw). take 256 (d ∷ l)) kept.shown.are

    by : (p : Bool) → leb 256 (suc (length newer)) ≡ p
        → Kept (with_draw other time s) (drawn f time) source b
        ⊎ Lost (with_draw other time s) (drawn f time) source b
    by true e =
        let full_up : 256 ≤ suc (length newer) = leb-true 256 (suc (length newer)) e in
        let few = kept.few in
        let many : 256000 ≤ 1000 * f.rate.burst + f.rate.per_second * (time - b.since) =
        omega (arith, used, full_up) in
        inr (record {
          none = ap (latest s.rate source)
              (are ∙ front_within 256 (d ∷ newer) (kept.shown.draw ∷ kept.shown.older) full_up)
              ∙ none_taken s.rate source 256 (d ∷ newer) none;
          full = inr (
            omega (arith, kept.since, later),
            subst (λ (r : Rate). 1000 * r.burst ≤ r.per_second * (time - b.since)) (sym rate)
                (refilled f.rate s.rate (time - b.since) fits many),
          );
        })
    by false e =
        let less : suc (length newer) < 256 = leb-false 256 (suc (length newer)) e in
        let front = front_beyond 256 (d ∷ newer) kept.shown.draw kept.shown.older less in
        inl (record {
          shown = record {
            newer = d ∷ newer;
            draw = kept.shown.draw;
            older = front.rest;
            are = are ∙ front.is;
            none = none;
            is = kept.shown.is;
            bucket = kept.shown.bucket;
          };
          few = less;
          since = omega (arith, kept.since, later);
          used = used;
        })

lost_track : (s : SourceState) (f b : Bucket) (source other time : ℕ)
    → eqb other source ≡ false → has_room f time ≡ true → Lost s f source b
    → Lost (with_draw other time s) (drawn f time) source b
lost_track s f b source other time is room lost = record {
  none = none_taken s.rate source s.limit
      (draw_of other (drawn (bucket_of s.rate other s.draws) time) ∷ s.draws)
      (none_before s.rate source (draw_of other (drawn (bucket_of s.rate other s.draws) time)) s.draws is lost.none);
  full = by lost.full;
}
  where
    later : f.since ≤ time
    later = room_since f time room

    by : (b ≡ full s.rate) ⊎ IsFull b f.since → (b ≡ full s.rate) ⊎ IsFull b time
    by (inl same) = inl same
    by (inr full_by) =
        let less : f.since - b.since ≤ time - b.since = omega (arith, later) in
        let more = mul-le-mul_left b.rate.per_second less in
        inr (omega (arith, full_by.0, later), omega (arith, full_by.1, more))

other_track : (s : SourceState) (f b : Bucket) (source other time : ℕ)
    → RemembersSources (Some f.rate) s.rate → s.limit ≡ 256 → b.rate ≡ s.rate
    → eqb other source ≡ false → has_room f time ≡ true
    → Kept s f source b ⊎ Lost s f source b
    → Kept (with_draw other time s) (drawn f time) source b
    ⊎ Lost (with_draw other time s) (drawn f time) source b
other_track s f b source other time fits limit rate is room (inl kept) =
    kept_track s f b source other time fits limit rate is room kept
other_track s f b source other time fits limit rate is room (inr lost) =
    inr (lost_track s f b source other time is room lost)

-- ---- so the frames of each source pass a bucket that forgets nothing

each_passes : (s : SourceState) (f b : Bucket) (source : ℕ) (frames : List Forwarded)
    → RemembersSources (Some f.rate) s.rate → s.limit ≡ 256 → b.rate ≡ s.rate
    → Kept s f source b ⊎ Lost s f source b → MayPass f (times frames)
    → SourcesMayPass s frames → MayPass b (times_from source frames)
each_passes s f b source [] fits limit rate track common own = tt
each_passes s f b source (x ∷ frames) fits limit rate track common own =
    by (λ b' rate' track'. each_passes (with_draw x.source x.time s) (drawn f x.time) b' source frames
    fits limit rate' track' common.1 own.1)
    (eqb x.source source) refl
  where
    later : f.since ≤ x.time
    later = room_since f x.time common.0

    by : ((b' : Bucket) → b'.rate ≡ s.rate
        → Kept (with_draw x.source x.time s) (drawn f x.time) source b'
        ⊎ Lost (with_draw x.source x.time s) (drawn f x.time) source b'
        → MayPass b' (times_from source frames))
        → (p : Bool) → eqb x.source source ≡ p
        → MayPass b (cond p (x.time ∷ times_from source frames) (times_from source frames))
    by rest true e =
        let same : SameRoom b (bucket_of s.rate x.source s.draws) x.time =
        subst (λ (n : ℕ). SameRoom b (bucket_of s.rate n s.draws) x.time)
        (sym (eqb-true x.source source e))
        (same_room s f b source x.time rate track later
        (subst (λ (n : ℕ). has_room (bucket_of s.rate n s.draws) x.time ≡ true)
        (eqb-true x.source source e) own.0)) in (
          same.room,
          rest (drawn b x.time) rate
              (inl (drawn_track s f b source x.source x.time limit rate e same.same)),
        )
    by rest false e =
        rest b rate (other_track s f b source x.source x.time fits limit rate e common.0 track)

pub sources_stay : (limits : Limits) (g : Governor) (forward source : Rate)
    → IsNewGovernor limits g → limits.forward ≡ Some forward → limits.source ≡ Some source
    → RemembersSources (Some forward) source → SourcesStayBounded g source
sources_stay limits g forward source new common own fits calls address =
    let s : SourceState = record { rate = source; draws = []; limit = 256 } in
    bounded (full source) (times_from address (forwarded g calls))
    (each_passes s (full forward) (full source) address (forwarded g calls) fits refl refl
    (inr (record { none = refl; full = inl refl }))
    (all_pass (full forward) g calls (new.forward ∙ ap (option_map full) common))
    (all_sources_pass s g calls (new.sources
    ∙ ap (option_map (λ (r : Rate). record { rate = r; draws = []; limit = 256 })) own)))
