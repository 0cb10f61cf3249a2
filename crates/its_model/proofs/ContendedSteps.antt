-- What a happening does to a world whose stations contend, and what holds at each time of a run.
use Rattle.std.proofs.Common.{◌≡◌, ◌⊎◌, ℕ, zero, suc, ◌≤◌, List, [], ◌∷◌, ◌++◌, length}
use Rattle.std.proofs.Common.{map, set, Option, Some, None, refl, sym, ap, subst, ◌∙◌, inl, inr}
use Rattle.std.proofs.Common.{All, append-nil}
use Rattle.std.specs.Prelude.{slice_get}
use Rattle.std.proofs.lemmas.List.Elements.{All-nil}
use Rattle.its_gnvalue.specs.Values.{mid_of}
use Rattle.its_model.specs.Packet.{Transmission}
use Rattle.its_model.specs.Calls.{Why, Refusal, Answer}
use Rattle.its_model.specs.Calls.Call.{Own, Receive}
use Rattle.its_model.specs.Calls.Why.{NotForMe, OwnSource, SenderMismatch, Duplicate}
use Rattle.its_model.specs.Station.{StationModel, Verdict, verdict, after_hearing, moment_refusal}
use Rattle.its_model.specs.Station.{relayed, receive_step, receive_step_by, station_step}
use Rattle.its_model.specs.Station.Verdict.{Refuse, Ignore, Accept}
use Rattle.its_model.specs.World.{Config, Event, What, WorldModel, at_station, asked, delivery}
use Rattle.its_model.specs.World.{frame_of, with_one_more}
use Rattle.its_model.specs.World.What.{Calls, Deliver}
use Rattle.its_model.specs.Contention.{ContentionRule, HeldFrame}
use Rattle.its_model.specs.Contended.{WaitingFrame, Lot, ContendedWorld, CopyTest, Happening, Waiting}
use Rattle.its_model.specs.Contended.{opening_with, rule_in, rule_at, held_in, held_at, waiting_at}
use Rattle.its_model.specs.Contended.{after_ignoring}
use Rattle.its_model.specs.Contended.{after_delivery, waiting_after_delivery, waiting_after_own}
use Rattle.its_model.specs.Contended.{waiting_after_asking, waiting_after, waiting_after_event}
use Rattle.its_model.specs.Contended.{waiting_after_release, released_by, released, contended_step}
use Rattle.its_model.specs.Contended.{contended_run}
use Rattle.its_model.specs.Contended.Happening.{Happens, Releases}
use Rattle.its_model.proofs.Sound.{Sound}
use Rattle.its_model.proofs.Fits.{IsSentOn, relayed_is}
use Rattle.its_model.proofs.SoundRuns.{step_keeps}
use Rattle.its_model.proofs.Longer.{at_station_grows}
use Rattle.its_model.proofs.ContendedRuns.{contention_is_a_schedule}
use Rattle.its_model.proofs.ContendedLots.{Counting}
use Rattle.its_model.proofs.ContendedLots.{IsHeld, AreKnown, Passes, held_stay, passes_same}
use Rattle.its_model.proofs.ContendedLots.{passes_plain, passes_own, passes_acceptance}
use Rattle.its_model.proofs.ContendedLots.{passes_duplicate, passes_release}

-- ---- an event

-- so many copies are enough for the rule, if there is one
abbrev pub IsEnoughFor : Counting → ℕ → Option ContentionRule → Type 0
IsEnoughFor scope own rule =
    (r : ContentionRule) (n : ℕ) → rule ≡ Some r → r.copies ≤ n → scope.IsEnough own n

-- a relay is from the station's own link address
relay_source : (o : Option Transmission) (s : StationModel) (t : Transmission) → IsSentOn s t o
    → (relay : Transmission) → o ≡ Some relay → relay.link_source ≡ mid_of s.address
relay_source None s t on relay is = cc
relay_source (Some u) s t on relay is =
    let same : u ≡ relay = cc in
    ap (λ (x : Transmission). x.link_source) (sym same)
    ∙ ap (λ (x : Transmission). x.link_source) on.2

-- a frame that is ignored
ignored_passes : (why : Why) (scope : Counting) (r : ContentionRule) (s : StationModel)
    (moment k : ℕ) (t : Transmission) (air : List Transmission) (q : Waiting)
    → slice_get air k ≡ Some t → scope.Was k → IsEnoughFor scope (mid_of s.address) (Some r)
    → Passes scope (mid_of s.address) (Some r) moment air air q (after_ignoring scope.test r s moment k t q why)
ignored_passes NotForMe scope r s moment k t air q at was enough =
    passes_same scope (mid_of s.address) (Some r) moment air q
ignored_passes OwnSource scope r s moment k t air q at was enough =
    passes_same scope (mid_of s.address) (Some r) moment air q
ignored_passes SenderMismatch scope r s moment k t air q at was enough =
    passes_same scope (mid_of s.address) (Some r) moment air q
ignored_passes Duplicate scope r s moment k t air q at was enough =
    passes_duplicate scope (Some r) moment air q r.copies (mid_of s.address) k t at was
    (λ n le. enough r n refl le)

-- a frame, by the verdict on it
received_passes : (v : Verdict) (scope : Counting) (r : ContentionRule) (s : StationModel)
    (moment k : ℕ) (t : Transmission) (air : List Transmission) (q : Waiting)
    → slice_get air k ≡ Some t → scope.Was k → IsEnoughFor scope (mid_of s.address) (Some r)
    → length q.lots ≡ length air
    → let step = receive_step_by s moment t v in
    Passes scope (mid_of s.address) (Some r) moment air (with_one_more air (frame_of step.answer)) q
    (after_delivery scope.test r step.station moment (length air) k t q step.answer)
received_passes (Refuse refusal) scope r s moment k t air q at was enough long =
    passes_same scope (mid_of s.address) (Some r) moment air q
received_passes (Ignore why) scope r s moment k t air q at was enough long =
    ignored_passes why scope r (record s { clock = moment }) moment k t air q at was enough
received_passes Accept scope r s moment k t air q at was enough long =
    passes_acceptance (relayed (after_hearing s moment t) moment t t.pdu.body) scope
    (mid_of s.address) r (after_hearing s moment t) moment t air q
    (relay_source (relayed (after_hearing s moment t) moment t t.pdu.body)
    (after_hearing s moment t) t (relayed_is (after_hearing s moment t) moment t t.pdu.body)) long

delivery_passes : (rule : Option ContentionRule) (o : Option Transmission) (scope : Counting)
    (cw : ContendedWorld) (e : Event) (s : StationModel) (k : ℕ) (q : Waiting)
    → slice_get cw.world.air k ≡ o → scope.Was k → IsEnoughFor scope (mid_of s.address) rule
    → length q.lots ≡ length cw.world.air
    → Passes scope (mid_of s.address) rule e.moment cw.world.air (delivery cw.world e s o).air q
    (waiting_after_delivery scope.test cw e s k q rule o)
unfolding receive_step
delivery_passes rule None scope cw e s k q at was enough long =
    passes_same scope (mid_of s.address) rule e.moment cw.world.air q
delivery_passes None (Some t) scope cw e s k q at was enough long =
    passes_plain (frame_of (station_step s e.moment (Receive t)).answer) scope (mid_of s.address) None e.moment
    cw.world.air q
delivery_passes (Some r) (Some t) scope cw e s k q at was enough long =
    received_passes (verdict s e.moment t) scope r s e.moment k t cw.world.air q at was enough long

own_passes : (rule : Option ContentionRule) (answer : Answer Transmission) (scope : Counting)
    (own : ℕ) (e : Event) (air : List Transmission) (q : Waiting)
    → Passes scope own rule e.moment air (with_one_more air (frame_of answer)) q
    (waiting_after_own e q rule answer)
own_passes None answer scope own e air q =
    passes_plain (frame_of answer) scope own None e.moment air q
own_passes (Some r) answer scope own e air q = passes_own answer scope own (Some r) e.moment air q

asked_passes : (what : What) (rule : Option ContentionRule) (scope : Counting)
    (cw : ContendedWorld) (e : Event) (s : StationModel) (q : Waiting)
    → ((k : ℕ) → what ≡ Deliver k → scope.Was k) → IsEnoughFor scope (mid_of s.address) rule
    → length q.lots ≡ length cw.world.air
    → Passes scope (mid_of s.address) rule e.moment cw.world.air (asked cw.world e s what).air q
    (waiting_after_asking scope.test cw e s q rule what)
asked_passes (Calls call) rule scope cw e s q was enough long =
    own_passes rule (station_step s e.moment (Own call)).answer scope (mid_of s.address) e cw.world.air q
asked_passes (Deliver k) rule scope cw e s q was enough long =
    delivery_passes rule (slice_get cw.world.air k) scope cw e s k q refl (was k refl) enough long

station_passes : (o : Option StationModel) (scope : Counting) (own : ℕ) (cw : ContendedWorld) (e : Event)
    (q : Waiting)
    → ((k : ℕ) → e.what ≡ Deliver k → scope.Was k)
    → ((s : StationModel) → o ≡ Some s → IsEnoughFor scope own (rule_at cw e.station))
    → ((s : StationModel) → o ≡ Some s → mid_of s.address ≡ own)
    → length q.lots ≡ length cw.world.air
    → Passes scope own (rule_at cw e.station) e.moment cw.world.air (at_station cw.world e o).air q
    (waiting_after scope.test cw e q o)
station_passes None scope own cw e q was enough its long =
    passes_same scope own (rule_at cw e.station) e.moment cw.world.air q
station_passes (Some s) scope own cw e q was enough its long =
    subst (λ (n : ℕ). Passes scope n (rule_at cw e.station) e.moment cw.world.air
    (at_station cw.world e (Some s)).air q (waiting_after scope.test cw e q (Some s))) (its s refl)
    (asked_passes e.what (rule_at cw e.station) scope cw e s q was
    (subst (λ (n : ℕ). IsEnoughFor scope n (rule_at cw e.station)) (sym (its s refl))
    (enough s refl)) long)

-- ---- a happening

-- what waits at a station after that of another was set
held_set : (xs : List (List (HeldFrame WaitingFrame))) (i j : ℕ)
    (y : List (HeldFrame WaitingFrame))
    → ((i ≡ j) × (held_in (slice_get (set xs j y) i) ≡ y))
    ⊎ (held_in (slice_get (set xs j y) i) ≡ held_in (slice_get xs i))
held_set [] i j y = inr refl
held_set (x ∷ xs) zero zero y = inl (refl, refl)
held_set (x ∷ xs) (suc i) zero y = inr refl
held_set (x ∷ xs) zero (suc j) y = inr refl
held_set (x ∷ xs) (suc i) (suc j) y =
    elim (held_set xs i j y) [ inl e ↦ inl (ap suc e.0, e.1) | inr e ↦ inr e ]

-- when it happens, and to which station
abbrev pub time_of : Happening → ℕ
time_of (Happens e) = e.moment
time_of (Releases j now) = now

abbrev pub place_of_it : Happening → ℕ
place_of_it (Happens e) = e.station
place_of_it (Releases j now) = j

pub record Steps (scope : Counting) (own : ℕ) (cw next : ContendedWorld)
    (j moment : ℕ) : Type 0 where
  pub waiting : Waiting
  pub passes : Passes scope own (rule_at cw j) moment cw.world.air next.world.air (waiting_at cw j)
      waiting
  pub lots : next.lots ≡ waiting.lots
  pub held : (i : ℕ)
      → ((i ≡ j) × (held_at next i ≡ waiting.held)) ⊎ (held_at next i ≡ held_at cw i)
  pub rules : next.rules ≡ cw.rules
  pub more : List Transmission
  pub air : next.world.air ≡ cw.world.air ++ more

-- nothing happens
same_steps : (scope : Counting) (own : ℕ) (cw : ContendedWorld) (j moment : ℕ) → Steps scope own cw cw j moment
same_steps scope own cw j moment =
    record {
      waiting = waiting_at cw j;
      passes = passes_same scope own (rule_at cw j) moment cw.world.air (waiting_at cw j);
      lots = refl;
      held = λ i. inr refl;
      rules = refl;
      more = [];
      air = sym (append-nil cw.world.air);
    }

released_by_steps : (o : Option Refusal) (scope : Counting) (own : ℕ) (cw : ContendedWorld) (j now : ℕ)
    → Steps scope own cw (released_by cw j now o) j now
released_by_steps (Some refusal) scope own cw j now = same_steps scope own cw j now
released_by_steps None scope own cw j now =
    let q = waiting_after_release now (waiting_at cw j) in
    record {
      waiting = q;
      passes = passes_release scope own (rule_at cw j) now cw.world.air (waiting_at cw j);
      lots = refl;
      held = λ i. held_set cw.held i j q.held;
      rules = refl;
      more = [];
      air = sym (append-nil cw.world.air);
    }

release_steps : (rule : Option ContentionRule) (station : Option StationModel)
    (scope : Counting) (own : ℕ) (cw : ContendedWorld) (j now : ℕ)
    → Steps scope own cw (released cw j now rule station) j now
release_steps None station scope own cw j now = same_steps scope own cw j now
release_steps (Some r) None scope own cw j now = same_steps scope own cw j now
release_steps (Some r) (Some s) scope own cw j now =
    released_by_steps (moment_refusal s now) scope own cw j now

-- what is known of the frame that it delivers, if it does
abbrev pub IsAllowed : Counting → Happening → Type 0
IsAllowed scope (Happens e) = (k : ℕ) → e.what ≡ Deliver k → scope.Was k
IsAllowed scope (Releases j now) = Unit {0}

-- the own link address of a station
abbrev pub mac_in : Option Config → ℕ
mac_in None = 0
mac_in (Some config) = mid_of config.address

abbrev pub mac_at : List Config → ℕ → ℕ
mac_at configs j = mac_in (slice_get configs j)

-- and of each rule
abbrev pub RulesAreEnough : Counting → List Config → ContendedWorld → Type 0
RulesAreEnough scope configs cw =
    (j : ℕ) (config : Config) → slice_get configs j ≡ Some config
    → IsEnoughFor scope (mid_of config.address) (rule_at cw j)

-- a station has its own
own_mac : (configs : List Config) (w : WorldModel) (j : ℕ) (s : StationModel) → Sound configs w
    → slice_get w.stations j ≡ Some s → mid_of s.address ≡ mac_at configs j
own_mac configs w j s sound at =
    let st = sound.each j s at in
    ap mid_of st.address ∙ ap mac_in (sym st.is_config)

-- and its rule is enough
enough_there : (configs : List Config) (cw : ContendedWorld) (j : ℕ) (s : StationModel)
    (scope : Counting) → Sound configs cw.world → RulesAreEnough scope configs cw
    → slice_get cw.world.stations j ≡ Some s
    → IsEnoughFor scope (mac_at configs j) (rule_at cw j)
enough_there configs cw j s scope sound enough at =
    let st = sound.each j s at in
    subst (λ (n : ℕ). IsEnoughFor scope n (rule_at cw j)) (ap mac_in (sym st.is_config))
    (enough j st.config st.is_config)

pub happening_steps : (h : Happening) (scope : Counting) (configs : List Config)
    (cw : ContendedWorld)
    → Sound configs cw.world → IsAllowed scope h → RulesAreEnough scope configs cw
    → length cw.lots ≡ length cw.world.air
    → Steps scope (mac_at configs (place_of_it h)) cw (contended_step scope.test cw h)
    (place_of_it h) (time_of h)
happening_steps (Happens e) scope configs cw sound was enough long =
    let q = waiting_after_event scope.test cw e in
    let g = at_station_grows (slice_get cw.world.stations e.station) cw.world e in
    record {
      waiting = q;
      passes = station_passes (slice_get cw.world.stations e.station) scope
          (mac_at configs e.station) cw e (waiting_at cw e.station) was
          (λ s at. enough_there configs cw e.station s scope sound enough at)
          (λ s at. own_mac configs cw.world e.station s sound at) long;
      lots = refl;
      held = λ i. held_set cw.held i e.station q.held;
      rules = refl;
      more = g.more;
      air = g.air;
    }
happening_steps (Releases j now) scope configs cw sound was enough long =
    release_steps (rule_at cw j) (slice_get cw.world.stations j) scope (mac_at configs j) cw j now

-- ---- at each time of a run
pub record RunSound (scope : Counting) (configs : List Config) (cw : ContendedWorld) : Type 0 where
  pub even : length cw.lots ≡ length cw.world.air
  pub lots : AreKnown scope cw.world.air cw.lots
  pub held : (i : ℕ) → All (IsHeld scope (mac_at configs i) cw.world.air) (held_at cw i)

pub step_sound : (h : Happening) (scope : Counting) (configs : List Config) (cw : ContendedWorld)
    → Sound configs cw.world → IsAllowed scope h → RulesAreEnough scope configs cw
    → RunSound scope configs cw → RunSound scope configs (contended_step scope.test cw h)
step_sound h scope configs cw sound was enough known =
    let next = contended_step scope.test cw h in
    let s = happening_steps h scope configs cw sound was enough known.even in
    let after = s.passes.sound
    (record { held = known.held (place_of_it h); lots = known.lots }) in
    record {
      even = ap (λ (xs : List Lot). length xs) s.lots ∙ s.passes.even known.even;
      lots = subst (AreKnown scope next.world.air) (sym s.lots) after.lots;
      held = λ i. elim (s.held i) [
        | inl new ↦ subst (λ (j : ℕ). All (IsHeld scope (mac_at configs j) next.world.air)
            (held_at next i)) (sym new.0)
            (subst (All (IsHeld scope (mac_at configs (place_of_it h)) next.world.air)) (sym new.1)
            after.held)
        | inr old ↦ subst (All (IsHeld scope (mac_at configs i) next.world.air)) (sym old)
            (subst (λ (xs : List Transmission).
            All (IsHeld scope (mac_at configs i) xs) (held_at cw i)) (sym s.air)
            (held_stay (held_at cw i) scope (mac_at configs i) cw.world.air s.more (known.held i)))
      ];
    }

-- the rules stay
step_rules : (h : Happening) (scope : Counting) (configs : List Config) (cw : ContendedWorld)
    → Sound configs cw.world → IsAllowed scope h → RulesAreEnough scope configs cw
    → RunSound scope configs cw → RulesAreEnough scope configs (contended_step scope.test cw h)
step_rules h scope configs cw sound was enough known j config configured r n is le =
    let s = happening_steps h scope configs cw sound was enough known.even in
    enough j config configured r n (ap (λ xs. rule_in (slice_get xs j)) (sym s.rules) ∙ is) le

-- the world stays sound
step_world : (h : Happening) (test : CopyTest) (configs : List Config) (cw : ContendedWorld)
    → Sound configs cw.world → Sound configs (contended_step test cw h).world
step_world (Happens e) test configs cw sound = step_keeps configs cw.world e sound
step_world (Releases j now) test configs cw sound =
    subst (λ (w : WorldModel). Sound configs w)
    (sym (contention_is_a_schedule (Releases j now ∷ []) test cw)) sound

-- what is known of each frame that these happenings deliver
abbrev pub AreAllowed : Counting → List Happening → Type 0
AreAllowed scope happenings =
    (early : List Happening) (h : Happening) (later : List Happening)
    → happenings ≡ early ++ h ∷ later → IsAllowed scope h

pub contended_sound : (happenings : List Happening) (scope : Counting) (configs : List Config)
    (cw : ContendedWorld)
    → Sound configs cw.world → AreAllowed scope happenings → RulesAreEnough scope configs cw
    → RunSound scope configs cw
    → RunSound scope configs (contended_run scope.test cw happenings)
contended_sound [] scope configs cw sound was enough known = known
contended_sound (h ∷ happenings) scope configs cw sound was enough known =
    let here = was [] h happenings refl in
    contended_sound happenings scope configs (contended_step scope.test cw h)
    (step_world h scope.test configs cw sound)
    (λ early x later split. was (h ∷ early) x later (ap (λ xs. h ∷ xs) split))
    (step_rules h scope configs cw sound here enough known)
    (step_sound h scope configs cw sound here enough known)

none_held : (configs : List Config) (i : ℕ)
    → held_in (slice_get (map (λ (c : Config). []) configs) i) ≡ []
none_held [] i = refl
none_held (c ∷ configs) zero = refl
none_held (c ∷ configs) (suc i) = none_held configs i

pub opening_is_known : (scope : Counting) (configs : List Config)
    (rules : List (Option ContentionRule)) → RunSound scope configs (opening_with configs rules)
opening_is_known scope configs rules =
    record {
      even = refl;
      lots = λ k frames moment is. cc;
      held = λ i. subst (All (IsHeld scope (mac_at configs i) [])) (sym (none_held configs i))
          (All-nil (IsHeld scope (mac_at configs i) []));
    }

-- a run is that of its first happenings, and then that of the others
pub run_on : (first next : List Happening) (test : CopyTest) (cw : ContendedWorld)
    → contended_run test cw (first ++ next)
    ≡ contended_run test (contended_run test cw first) next
run_on [] next test cw = refl
run_on (h ∷ first) next test cw = run_on first next test (contended_step test cw h)

-- the rules stay
release_rules : (o : Option Refusal) (cw : ContendedWorld) (j now : ℕ)
    → (released_by cw j now o).rules ≡ cw.rules
release_rules (Some refusal) cw j now = refl
release_rules None cw j now = refl

released_rules : (rule : Option ContentionRule) (station : Option StationModel)
    (cw : ContendedWorld) (j now : ℕ) → (released cw j now rule station).rules ≡ cw.rules
released_rules None station cw j now = refl
released_rules (Some r) None cw j now = refl
released_rules (Some r) (Some s) cw j now = release_rules (moment_refusal s now) cw j now

pub rules_stay : (happenings : List Happening) (test : CopyTest) (cw : ContendedWorld)
    → (contended_run test cw happenings).rules ≡ cw.rules
rules_stay [] test cw = refl
rules_stay (Happens e ∷ happenings) test cw =
    rules_stay happenings test (contended_step test cw (Happens e))
rules_stay (Releases j now ∷ happenings) test cw =
    rules_stay happenings test (contended_step test cw (Releases j now))
    ∙ released_rules (rule_at cw j) (slice_get cw.world.stations j) cw j now

-- ---- with nothing known of the frames that are counted
abbrev pub any_counting : CopyTest → Counting
any_counting test = record { test = test; Was = λ k. Unit {0}; IsEnough = λ own n. Unit {0} }

pub any_allowed : (h : Happening) (test : CopyTest) → IsAllowed (any_counting test) h
any_allowed (Happens e) test = λ k is. tt
any_allowed (Releases j now) test = tt

pub any_enough : (test : CopyTest) (configs : List Config) (cw : ContendedWorld)
    → RulesAreEnough (any_counting test) configs cw
any_enough test configs cw j config configured r n is le = tt
