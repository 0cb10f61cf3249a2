-- In a short run without restarts no station forgets what was sent.
use Rattle.std.proofs.Common.{◌≡◌, ℕ, ◌+◌, ◌<◌, ◌≤◌, List, [], ◌∷◌, ◌++◌, length, filter}
use Rattle.std.proofs.Common.{append_assoc, Option, Some, None, Bool, true, false, cond, not, eqb}
use Rattle.std.proofs.Common.{◌&&◌, ◌||◌, refl, sym, ap, subst, ◌∙◌, inl, inr, arith}
use Rattle.std.specs.Prelude.{slice_get}
use Rattle.its_model.specs.Packet.{AreaKind, Message, Transmission, number_in}
use Rattle.its_model.specs.History.{Reception, entry_life, is_among, is_from, numbers_of}
use Rattle.its_model.specs.History.{of_source, with_number}
use Rattle.its_model.specs.Stations.{AreDistinct}
use Rattle.its_model.specs.Calls.{Answer, GbcRequest, area_call}
use Rattle.its_model.specs.Calls.Answer.{Accepted, Closed, Ignored, Moved, Opened, Quiet, Refused}
use Rattle.its_model.specs.Calls.Answer.{Restarted, Sent}
use Rattle.its_model.specs.World.{Config, Event, LogLine, WorldModel, opening, world_run}
use Rattle.its_model.specs.World.What.{Calls}
use Rattle.its_model.specs.Log.{IsBroken, HasOthers, distinct, has_restarted, heard_in}
use Rattle.its_model.specs.Log.{is_restart_of, receptions_at, sequence_number_at}
use Rattle.its_model.specs.Reach.{HasOwnAddress, area_sends_of, is_area_send}
use Rattle.its_model.specs.Remembered.{ShortRunsForgetNothing}
use Rattle.its_model.proofs.NumberTests.{count_cons, eq_test, eqb_same, or_false}
use Rattle.its_model.proofs.Distinct.{among_filter, differ_filter, subset_le}
use Rattle.its_model.proofs.Sound.{AcceptedFact, LineFact, Sound}
use Rattle.its_model.proofs.SoundRuns.{run_sound}
use Rattle.its_model.proofs.Origins.{origin_in_log}
use Rattle.its_model.proofs.Theorems.{accepted_at, area_number, area_sender, fact_at}
use Rattle.its_model.proofs.Reaching.{of_it, sent_entry}
use Rattle.its_model.proofs.OwnNumbers.{calm_behind, sends}

-- ---- the numbers that a station gave
-- with that of a line by which it sent a packet for an area
abbrev with_sent : Bool → ℕ → List ℕ → List ℕ
with_sent true n rest = n ∷ rest
with_sent false n rest = rest

-- those of all packets for areas that station i sent
abbrev sent_numbers : ℕ → List LogLine → List ℕ
sent_numbers i [] = []
sent_numbers i (line ∷ before) =
    with_sent (eqb line.event.station i && is_area_send line.entry line.event.what)
    (sequence_number_at i before) (sent_numbers i before)

-- as many as it sent
length_sent : (i : ℕ) (log : List LogLine) → length (sent_numbers i log) ≡ area_sends_of i log
length_sent i [] = refl
length_sent i (line ∷ before) =
    by (eqb line.event.station i && is_area_send line.entry line.event.what)
    (length_sent i before)
    ∙ sym (count_cons
    (λ (x : LogLine). eqb x.event.station i && is_area_send x.entry x.event.what) line before)
  where
    by : (b : Bool) → length (sent_numbers i before) ≡ area_sends_of i before
        → length (with_sent b (sequence_number_at i before) (sent_numbers i before))
        ≡ cond b 1 0 + area_sends_of i before
    by true e = omega (arith, e)
    by false e = omega (arith, e)

-- the number of a send is one of them
among_sent : (later before : List LogLine) (line : LogLine) (i k : ℕ) (kind : AreaKind)
    (r : GbcRequest)
    → line.event.station ≡ i → line.event.what ≡ Calls (area_call kind r) → line.entry ≡ Sent k
    → is_among (sequence_number_at i before) (sent_numbers i (later ++ line ∷ before)) ≡ true
among_sent [] before line i k kind r station what entry =
    ap (λ b. is_among (sequence_number_at i before)
    (with_sent b (sequence_number_at i before) (sent_numbers i before))) is
    ∙ ap (λ b. b || is_among (sequence_number_at i before) (sent_numbers i before))
    (eqb_same (sequence_number_at i before))
  where
    is : (eqb line.event.station i && is_area_send line.entry line.event.what) ≡ true
    is = ap (λ n. eqb n i && is_area_send line.entry line.event.what) station
        ∙ ap (λ b. b && is_area_send line.entry line.event.what) (eqb_same i)
        ∙ ap (λ x. is_area_send x line.event.what) entry ∙ ap (is_area_send (Sent k)) what
        ∙ sends kind k r
among_sent (x ∷ later) before line i k kind r station what entry =
    by (eqb x.event.station i && is_area_send x.entry x.event.what)
    (among_sent later before line i k kind r station what entry)
  where
    by : (b : Bool)
        → is_among (sequence_number_at i before) (sent_numbers i (later ++ line ∷ before)) ≡ true
        → is_among (sequence_number_at i before)
        (with_sent b (sequence_number_at i (later ++ line ∷ before))
        (sent_numbers i (later ++ line ∷ before))) ≡ true
    by true e = or_true (eqb (sequence_number_at i (later ++ line ∷ before))
        (sequence_number_at i before)) e
      where
        or_true : (b : Bool) {c : Bool} → c ≡ true → (b || c) ≡ true
        or_true true e = refl
        or_true false e = e
    by false e = e

-- the number of what was accepted of a station is one of those that it gave
number_sent : (configs : List Config) (w : WorldModel) (later before : List LogLine)
    (line : LogLine) (i n : ℕ) (sender : Config) (delivered : Option Transmission)
    (handed : Option Message) (given : Option ℕ)
    (fact : AcceptedFact configs w.air line.event before delivered handed given)
    → Sound configs w → HasOwnAddress configs i → slice_get configs i ≡ Some sender
    → w.log ≡ later ++ line ∷ before → number_in fact.packet.pdu.body ≡ Some n
    → fact.packet.pdu.vector.address ≡ sender.address
    → is_among n (sent_numbers i w.log) ≡ true
number_sent configs w later before line i n sender delivered handed given fact h own_address
    is_sender split number_is source =
    let o = fact.origin in
    let by = fact.sent_by in
    let a = area_sender o.event.what o.event.station o.before fact.packet.pdu n number_is
    by.packet in
    let in_log = origin_in_log before fact.frame o fact.came_from in
    let station : o.event.station ≡ i =
    own_address o.event.station sender by.config is_sender by.sender (sym by.source ∙ source) in
    let line_station : in_log.line.event.station ≡ i =
    ap (λ (x : Event). x.station) in_log.event ∙ station in
    let line_what : in_log.line.event.what ≡ Calls (area_call a.kind a.request) =
    ap (λ (x : Event). x.what) in_log.event ∙ a.call in
    let all = later ++ line ∷ in_log.later in
    let there : w.log ≡ all ++ in_log.line ∷ o.before =
    split ∙ ap (λ xs. later ++ line ∷ xs) in_log.split
    ∙ sym (append_assoc later (line ∷ in_log.later) (in_log.line ∷ o.before)) in
    let entry : in_log.line.entry ≡ Sent in_log.number =
    sent_entry in_log.line.entry configs w.air in_log.line.event in_log.line.delivered o.before
    in_log.number (area_call a.kind a.request)
    (fact_at configs w all o.before in_log.line h there) line_what in_log.gives in
    let sequence : Some n ≡ Some (sequence_number_at o.event.station o.before) =
    sym number_is ∙ ap number_in a.packet.0
    ∙ area_number a.kind
    (sequence_number_at o.event.station o.before) a.request.area a.request.message in
    let same_number : n ≡ sequence_number_at o.event.station o.before = cc in
    let number : n ≡ sequence_number_at i o.before =
    same_number ∙ ap (λ (x : ℕ). sequence_number_at x o.before) station in
    subst (λ (x : ℕ). is_among x (sent_numbers i w.log) ≡ true) (sym number)
    (subst (λ xs. is_among (sequence_number_at i o.before) (sent_numbers i xs) ≡ true) (sym there)
    (among_sent all o.before in_log.line i in_log.number a.kind a.request line_station line_what
    entry))

-- ---- what was heard in a short run
-- came in the run, and where it is of this source, has a number that its station gave
abbrev IsOfRun : (beginning source i : ℕ) → WorldModel → Reception → Type 0
IsOfRun beginning source i w r =
    (beginning ≤ r.moment) × (r.moment < beginning + entry_life)
    × ((n : ℕ) → r.number ≡ Some n → r.vector.address ≡ source
    → is_among n (sent_numbers i w.log) ≡ true)

abbrev AreOfRun : (beginning source i : ℕ) → WorldModel → List Reception → Type 0
AreOfRun beginning source i w [] = Unit {0}
AreOfRun beginning source i w (r ∷ older) =
    IsOfRun beginning source i w r × AreOfRun beginning source i w older

-- after one more entry
one_heard : (entry : Answer ℕ) (delivered : Option Transmission) (configs : List Config)
    (w : WorldModel) (later before : List LogLine) (line : LogLine) (older : List Reception)
    (beginning source i : ℕ) (sender : Config)
    → LineFact entry configs w.air line.event delivered before
    → Sound configs w → HasOwnAddress configs i → slice_get configs i ≡ Some sender
    → source ≡ sender.address → w.log ≡ later ++ line ∷ before
    → beginning ≤ line.event.moment → line.event.moment < beginning + entry_life
    → AreOfRun beginning source i w older
    → AreOfRun beginning source i w (heard_in entry delivered line.event.moment older)
one_heard Moved delivered configs w later before line older b s i c fact h own is e split from to old =
    old
one_heard Opened delivered configs w later before line older b s i c fact h own is e split from to old =
    old
one_heard Closed delivered configs w later before line older b s i c fact h own is e split from to old =
    old
one_heard Restarted delivered configs w later before line older b s i c fact h own is e split from to
    old = tt
one_heard Quiet delivered configs w later before line older b s i c fact h own is e split from to old =
    old
one_heard (Sent k) delivered configs w later before line older b s i c fact h own is e split from to
    old = old
one_heard (Ignored why) delivered configs w later before line older b s i c fact h own is e split from
    to old = old
one_heard (Refused r) delivered configs w later before line older b s i c fact h own is e split from to
    old = old
one_heard (Accepted handed given) None configs w later before line older b s i c fact h own is e split
    from to old = old
one_heard (Accepted handed given) (Some t) configs w later before line older b s i c fact h own is e
    split from to old =
    let same : t ≡ fact.packet = same_packet t fact.packet fact.delivered_is in (
      (
        from,
        to,
        λ n number source. number_sent configs w later before line i n c (Some t) handed given fact h
            own is split (ap (λ (x : Transmission). number_in x.pdu.body) (sym same) ∙ number)
            (ap (λ (x : Transmission). x.pdu.vector.address) (sym same) ∙ source ∙ e),
      ),
      old,
    )
  where
    same_packet : (a b : Transmission) → Some a ≡ Some b → a ≡ b
    same_packet a b e = cc

-- what station j heard by a part of a log
all_heard : (part later tail : List LogLine) (configs : List Config) (w : WorldModel)
    (j beginning source i : ℕ) (sender : Config)
    → Sound configs w → HasOwnAddress configs i → slice_get configs i ≡ Some sender
    → source ≡ sender.address
    → ((x before : List LogLine) (line : LogLine) → w.log ≡ x ++ line ∷ before
    → (beginning ≤ line.event.moment) × (line.event.moment < beginning + entry_life))
    → w.log ≡ later ++ (part ++ tail)
    → AreOfRun beginning source i w (receptions_at j part)
all_heard [] later tail configs w j b s i c h own is e within split = tt
all_heard (line ∷ part) later tail configs w j b s i c h own is e within split =
    let old = all_heard part (later ++ line ∷ []) tail configs w j b s i c h own is e within
    (split ∙ sym (append_assoc later (line ∷ []) (part ++ tail))) in
    let at = within later (part ++ tail) line split in
    by (eqb line.event.station j)
    (one_heard line.entry line.delivered configs w later (part ++ tail) line (receptions_at j part)
    b s i c (fact_at configs w later (part ++ tail) line h split) h own is e split at.0 at.1 old) old
  where
    by : (x : Bool)
        → AreOfRun b s i w
        (heard_in line.entry line.delivered line.event.moment (receptions_at j part))
        → AreOfRun b s i w (receptions_at j part)
        → AreOfRun b s i w
        (cond x (heard_in line.entry line.delivered line.event.moment (receptions_at j part))
        (receptions_at j part))
    by true new old = new
    by false new old = old

-- ---- no session broke
of_source_too : (rs : List Reception) (b s i : ℕ) (w : WorldModel) → AreOfRun b s i w rs
    → AreOfRun b s i w (of_source s rs)
of_source_too [] b s i w h = tt
of_source_too (r ∷ rs) b s i w h =
    by (is_from s r) (of_source_too rs b s i w h.1)
  where
    by : (x : Bool) → AreOfRun b s i w (of_source s rs)
        → AreOfRun b s i w (cond x (r ∷ of_source s rs) (of_source s rs))
    by true rest = (h.0, rest)
    by false rest = rest

not_broken : (rs : List Reception) (b s i last first : ℕ) (w : WorldModel)
    → AreOfRun b s i w rs → last < b + entry_life → b ≤ first → IsBroken last rs first → ⊥
not_broken [] b s i last first w h to from broken = absurd (omega (arith, to, from, broken))
not_broken (r ∷ rs) b s i last first w h to from (inl gap) =
    let at : b ≤ r.moment = h.0.0 in absurd (omega (arith, to, at, gap))
not_broken (r ∷ rs) b s i last first w h to from (inr broken) =
    not_broken rs b s i r.moment first w h.1 h.0.1 from broken

-- ---- and there are no more numbers than were given
-- each number of these was given
numbers_sent : (rs : List Reception) (b s i x : ℕ) (w : WorldModel) → AreOfRun b s i w rs
    → is_among x (numbers_of (of_source s rs)) ≡ true → is_among x (sent_numbers i w.log) ≡ true
numbers_sent [] b s i x w h is = cc
numbers_sent (r ∷ rs) b s i x w h is =
    elim (eq_test r.vector.address s) [
      | inr e ↦ numbers_sent rs b s i x w h.1
          (ap (λ (y : Bool). is_among x (numbers_of (cond y (r ∷ of_source s rs) (of_source s rs))))
          (sym e.0) ∙ is)
      | inl e ↦ of_number r.number refl
          (ap (λ (y : Bool). is_among x (numbers_of (cond y (r ∷ of_source s rs) (of_source s rs))))
          (sym e.0) ∙ is) e.1 (λ among. numbers_sent rs b s i x w h.1 among)
    ]
  where
    of_number : (o : Option ℕ) → r.number ≡ o
        → is_among x (with_number r.number (numbers_of (of_source s rs))) ≡ true
        → r.vector.address ≡ s
        → (is_among x (numbers_of (of_source s rs)) ≡ true
        → is_among x (sent_numbers i w.log) ≡ true)
        → is_among x (sent_numbers i w.log) ≡ true
    of_number None e among source older =
        older
        (ap (λ (y : Option ℕ). is_among x (with_number y (numbers_of (of_source s rs)))) (sym e)
        ∙ among)
    of_number (Some n) e among source older =
        elim (eq_test n x) [
          | inl same ↦ subst (λ (y : ℕ). is_among y (sent_numbers i w.log) ≡ true) same.1
              (h.0.2 n e source)
          | inr other ↦ older
              (ap (λ (y : Bool). y || is_among x (numbers_of (of_source s rs))) (sym other.0)
              ∙ ap (λ (y : Option ℕ). is_among x (with_number y (numbers_of (of_source s rs))))
              (sym e) ∙ among)
        ]

-- a number that is there once is there
among_distinct : (xs : List ℕ) (x : ℕ) → is_among x (distinct xs) ≡ true → is_among x xs ≡ true
among_distinct [] x h = h
among_distinct (n ∷ ns) x h =
    elim (eq_test n x) [
      | inl e ↦ ap (λ b. b || is_among x ns) e.0
      | inr e ↦ (
          let rest : is_among x (filter (λ m. not (eqb m n)) (distinct ns)) ≡ true =
          ap (λ b. b || is_among x (filter (λ m. not (eqb m n)) (distinct ns))) (sym e.0) ∙ h in
          ap (λ b. b || is_among x ns) e.0
          ∙ among_distinct ns x
          (second (not (eqb x n)) (is_among x (distinct ns))
          (sym (among_filter (λ m. not (eqb m n)) x (distinct ns)) ∙ rest)))
    ]
  where
    second : (a b : Bool) → (a && b) ≡ true → b ≡ true
    second true b e = e
    second false b e = cc

-- none is there twice
absent_without : (n : ℕ) (xs : List ℕ) → is_among n (filter (λ m. not (eqb m n)) xs) ≡ false
absent_without n xs = among_filter (λ m. not (eqb m n)) n xs
    ∙ ap (λ b. not b && is_among n xs) (eqb_same n)

distinct_differ : (xs : List ℕ) → AreDistinct (distinct xs)
distinct_differ [] = tt
distinct_differ (n ∷ ns) = (
  absent_without n (distinct ns),
  differ_filter (λ m. not (eqb m n)) (distinct ns) (distinct_differ ns),
)

-- so a number isn't outlived by as many others
few_others : (rs : List Reception) (b s i number remember : ℕ) (w : WorldModel)
    → AreOfRun b s i w rs → is_among number (sent_numbers i w.log) ≡ true
    → area_sends_of i w.log ≤ remember → HasOthers remember number (of_source s rs) → ⊥
few_others rs b s i number remember w h mine few others =
    let them = filter (λ n. not (eqb n number)) (distinct (numbers_of (of_source s rs))) in
    let within : length (number ∷ them) ≤ length (sent_numbers i w.log) =
    subset_le (number ∷ them) (sent_numbers i w.log) (
      absent_without number (distinct (numbers_of (of_source s rs))),
      differ_filter (λ n. not (eqb n number)) (distinct (numbers_of (of_source s rs)))
          (distinct_differ (numbers_of (of_source s rs))),
    ) each in
    absurd (omega (arith, within, length_sent i w.log, few, others))
  where
    each : (x : ℕ)
        → is_among x (number
        ∷ filter (λ n. not (eqb n number)) (distinct (numbers_of (of_source s rs)))) ≡ true
        → is_among x (sent_numbers i w.log) ≡ true
    each x is =
        elim (eq_test number x) [
          | inl e ↦ subst (λ (y : ℕ). is_among y (sent_numbers i w.log) ≡ true) e.1 mine
          | inr e ↦ numbers_sent rs b s i x w h
              (among_distinct (numbers_of (of_source s rs)) x
              (second (not (eqb x number)) _
              (sym (among_filter (λ m. not (eqb m number)) x
              (distinct (numbers_of (of_source s rs))))
              ∙ ap (λ y. y || is_among x (filter (λ n. not (eqb n number))
              (distinct (numbers_of (of_source s rs))))) (sym e.0) ∙ is)))
        ]
      where
        second : (a b : Bool) → (a && b) ≡ true → b ≡ true
        second true b e = e
        second false b e = cc

-- ---- none forgets
-- a part of a log without a restart has none
calm_front : (front rest : List LogLine) (j : ℕ) → has_restarted j (front ++ rest) ≡ false
    → has_restarted j front ≡ false
calm_front [] rest j h = refl
calm_front (x ∷ front) rest j h =
    let calm = or_false (is_restart_of j x) (has_restarted j (front ++ rest)) h in
    ap (λ b. b || has_restarted j front) calm.0 ∙ calm_front front rest j calm.1

pub short_runs_forget_nothing : (configs : List Config) (events : List Event)
    → ShortRunsForgetNothing configs (world_run (opening configs) events)
short_runs_forget_nothing configs events g own_address short calm few later between older first
    second j k m t u e a b of_k of_m forgot =
    let w = world_run (opening configs) events in
    let h = run_sound configs events in
    let i = g.line.event.station in
    let is = of_it configs w g k t of_k h a.packet in
    let at_first : w.log ≡ (later ++ second ∷ between) ++ first ∷ older =
    e ∙ sym (append_assoc later (second ∷ between) (first ∷ older)) in
    let source = t.pdu.vector.address in
    let fact = accepted_at configs w (later ++ second ∷ between) older first a.handed a.relayed h
    at_first a.entry in
    let frame : fact.frame ≡ k = cc (fact.what, a.delivery) in
    let there : Some fact.packet ≡ Some t =
    sym fact.in_air ∙ ap (slice_get w.air) frame ∙ a.packet in
    let packet : fact.packet ≡ t = cc in
    let mine : is_among forgot.number (sent_numbers i w.log) ≡ true =
    number_sent configs w (later ++ second ∷ between) older first i forgot.number is.sender
    first.delivered a.handed a.relayed fact h own_address is.is_sender at_first
    (ap (λ (x : Transmission). number_in x.pdu.body) packet ∙ forgot.number_is)
    (ap (λ (x : Transmission). x.pdu.vector.address) packet ∙ is.source) in
    let heard : AreOfRun short.beginning source i w (receptions_at j between) =
    all_heard between (later ++ second ∷ []) (first ∷ older) configs w j short.beginning source i
    is.sender h own_address is.is_sender is.source
    (λ x before line split. (short.from x before line split, short.until x before line split))
    (e ∙ sym (append_assoc later (second ∷ []) (between ++ first ∷ older))) in
    elim forgot.forgotten [
      | inl restarted ↦ cc (
        restarted,
        calm_front between (first ∷ older) j
            (calm_behind (later ++ second ∷ []) (between ++ first ∷ older) j
            (ap (has_restarted j)
            (append_assoc later (second ∷ []) (between ++ first ∷ older) ∙ sym e) ∙ calm j)),
      )
      | inr outlived ↦ elim outlived [
        | inl broken ↦ not_broken (of_source source (receptions_at j between)) short.beginning
            source i second.event.moment first.event.moment w
            (of_source_too (receptions_at j between) short.beginning source i w heard)
            (short.until later (between ++ first ∷ older) second e)
            (short.from (later ++ second ∷ between) older first at_first) broken
        | inr others ↦ few_others (receptions_at j between) short.beginning source i forgot.number
            forgot.receiver.remember w heard mine (few j forgot.receiver forgot.is_receiver) others
      ]
    ]
