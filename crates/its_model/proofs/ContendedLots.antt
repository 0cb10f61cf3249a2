-- What a happening does to the lots of the frames, and what is known of a lot.
use Rattle.std.proofs.Common.{◌≡◌, ◌⊎◌, ℕ, zero, suc, ◌+◌, ◌≤◌, ◌<◌, List, [], ◌∷◌, ◌++◌, length}
use Rattle.std.proofs.Common.{filter, set, take, drop, Bool, true, false, cond, not, ◌&&◌, Option}
use Rattle.std.proofs.Common.{Some, None, refl, sym, ap, subst, ◌∙◌, inl, inr, arith, All}
use Rattle.std.specs.Prelude.{slice_get, nat_le, nat_lt}
use Rattle.std.proofs.lemmas.List.Elements.{All-nil, All-cons, All-head, All-tail, All-append}
use Rattle.std.proofs.lemmas.List.Elements.{All-filter, All-take, All-drop, filter_passes}
use Rattle.std.proofs.lemmas.Bool.Decides.{nat_tests}
use Rattle.its_model.specs.Packet.{Transmission}
use Rattle.its_model.specs.History.{is_among}
use Rattle.its_model.specs.Calls.{Answer}
use Rattle.its_model.specs.Calls.Answer.{Moved, Opened, Closed, Restarted, Quiet, Sent, Ignored}
use Rattle.its_model.specs.Calls.Answer.{Accepted, Refused}
use Rattle.its_model.specs.Station.{StationModel}
use Rattle.its_model.specs.World.{with_one_more, frame_of}
use Rattle.its_model.specs.Contention.{ContentionRule, HeldFrame, newly_held, stays, places}
use Rattle.its_model.specs.Contention.{wait, tie_of, sender_distance}
use Rattle.its_model.specs.Contention.{contends_for, due_of, fate}
use Rattle.its_model.specs.Contention.{late_after, kept_at, place_due, without, first_due}
use Rattle.its_model.specs.Contention.Fate.{Goes, Waits}
use Rattle.its_model.specs.Contended.{WaitingFrame, Lot, CopyTest, Waiting, lots_after, lot_at}
use Rattle.its_model.specs.Contended.{waiting_as, after_acceptance, with_copy, with_copies}
use Rattle.its_model.specs.Contended.{after_counting, after_own_call, late_at}
use Rattle.its_model.specs.Contended.{lots_after_release, waiting_after_release}
use Rattle.its_model.specs.Contended.Lot.{SentAt, WaitsUntil, CancelledBy, DroppedAt}
use Rattle.its_model.proofs.Lists.{get_front, get_last, get_snoc, length_set, length_more, get_set}

-- ---- a lot stays, or is another from this time on

-- a lot of a frame that no longer waits, since this time
abbrev pub IsLeftAt : ℕ → Lot → Type 0
IsLeftAt moment (SentAt m) = m ≡ moment
IsLeftAt moment (WaitsUntil due) = ⊥
IsLeftAt moment (CancelledBy frames m) = m ≡ moment
IsLeftAt moment (DroppedAt m) = m ≡ moment

pub record Evolved (moment : ℕ) (lots : List Lot) (k : ℕ) (old : Lot) : Type 0 where
  pub lot : Lot
  pub is : slice_get lots k ≡ Some lot
  pub change : (lot ≡ old) ⊎ IsLeftAt moment lot

abbrev pub Evolves : ℕ → List Lot → List Lot → Type 0
Evolves moment lots after =
    (k : ℕ) (lot : Lot) → slice_get lots k ≡ Some lot → Evolved moment after k lot

evolves_same : (moment : ℕ) (lots : List Lot) → Evolves moment lots lots
evolves_same moment lots k lot is = record { lot = lot; is = is; change = inl refl }

evolves_more : (o : Option Lot) (moment : ℕ) (lots : List Lot)
    → Evolves moment lots (with_one_more lots o)
evolves_more None moment lots k lot is = record { lot = lot; is = is; change = inl refl }
evolves_more (Some x) moment lots k lot is =
    record { lot = lot; is = get_front lots (x ∷ []) k lot is; change = inl refl }

evolves_set : (lots : List Lot) (n moment : ℕ) (x : Lot) → IsLeftAt moment x
    → Evolves moment lots (set lots n x)
evolves_set [] n moment x left k lot is = cc
evolves_set (l ∷ lots) zero moment x left zero lot is =
    record { lot = x; is = refl; change = inr left }
evolves_set (l ∷ lots) zero moment x left (suc k) lot is =
    record { lot = lot; is = is; change = inl refl }
evolves_set (l ∷ lots) (suc n) moment x left zero lot is =
    record { lot = lot; is = is; change = inl refl }
evolves_set (l ∷ lots) (suc n) moment x left (suc k) lot is =
    let e = evolves_set lots n moment x left k lot is in
    record { lot = e.lot; is = e.is; change = e.change }

evolves_twice : (moment : ℕ) (a b c : List Lot) → Evolves moment a b → Evolves moment b c
    → Evolves moment a c
evolves_twice moment a b c first second k lot is =
    let e = first k lot is in
    let f = second k e.lot e.is in
    record {
      lot = f.lot;
      is = f.is;
      change = elim f.change [
        | inl same ↦ elim e.change [
          | inl old ↦ inl (same ∙ old)
          | inr left ↦ inr (subst (IsLeftAt moment) (sym same) left)
        ]
        | inr left ↦ inr left
      ];
    }

evolves_after : (gone : List (HeldFrame WaitingFrame)) (lot : HeldFrame WaitingFrame → Lot)
    (moment : ℕ) (lots : List Lot)
    → ((h : HeldFrame WaitingFrame) → IsLeftAt moment (lot h))
    → Evolves moment lots (lots_after lot lots gone)
evolves_after [] lot moment lots left = evolves_same moment lots
evolves_after (h ∷ gone) lot moment lots left =
    let next = set lots h.frame.number (lot h) in
    evolves_twice moment lots next (lots_after lot next gone)
    (evolves_set lots h.frame.number moment (lot h) (left h))
    (evolves_after gone lot moment next left)

evolves_release : (o : Option WaitingFrame) (now : ℕ) (lots : List Lot)
    → Evolves now lots (lots_after_release now lots o)
evolves_release None now lots = evolves_same now lots
evolves_release (Some frame) now lots = evolves_set lots frame.number now (SentAt now) refl

-- ---- there are as many lots as frames
even_after : (gone : List (HeldFrame WaitingFrame)) (lot : HeldFrame WaitingFrame → Lot)
    (lots : List Lot) → length (lots_after lot lots gone) ≡ length lots
even_after [] lot lots = refl
even_after (h ∷ gone) lot lots =
    even_after gone lot (set lots h.frame.number (lot h))
    ∙ length_set lots h.frame.number (lot h)

even_release : (o : Option WaitingFrame) (now : ℕ) (lots : List Lot)
    → length (lots_after_release now lots o) ≡ length lots
even_release None now lots = refl
even_release (Some frame) now lots = length_set lots frame.number (SentAt now)

-- ---- what is known of what waits and of what was cancelled

-- A test of copies, what is known of a frame whose delivery was counted, and of how many copies
-- cancel.
pub record Counting : Type 1 where
  pub test : CopyTest
  pub Was : ℕ → Type 0
  pub IsEnough : ℕ → ℕ → Type 0  -- by the own MID

-- frame k was counted as a copy of this packet, from this sender
pub record IsCounted (scope : Counting) (own : ℕ) (air : List Transmission)
    (packet : Transmission) (sender k : ℕ) : Type 0 where
  pub copy : Transmission
  pub in_air : slice_get air k ≡ Some copy
  pub tested : scope.test own packet copy ≡ true
  pub from_sender : copy.link_source ≡ sender
  pub was : scope.Was k

-- these frames were, each from another sender
abbrev pub AreCounted : Counting → ℕ → List Transmission → Transmission → List ℕ → List ℕ → Type 0
AreCounted scope own air packet [] [] = Unit {0}
AreCounted scope own air packet [] (k ∷ frames) = ⊥
AreCounted scope own air packet (sender ∷ senders) [] = ⊥
AreCounted scope own air packet (sender ∷ senders) (k ∷ frames) =
    IsCounted scope own air packet sender k × (is_among sender senders ≡ false)
    × AreCounted scope own air packet senders frames

-- a frame that waits is the world's, and what was counted of it are copies
pub record IsHeld (scope : Counting) (own : ℕ) (air : List Transmission)
    (h : HeldFrame WaitingFrame) : Type 0 where
  pub its_own : h.frame.packet.link_source ≡ own
  pub in_air : slice_get air h.frame.number ≡ Some h.frame.packet
  pub copies : AreCounted scope own air h.frame.packet h.senders h.frame.copies

-- what cancelled frame k are copies, and they are enough
pub record AreCopiesIn (scope : Counting) (air : List Transmission) (k : ℕ)
    (frames : List ℕ) : Type 0 where
  pub packet : Transmission
  pub in_air : slice_get air k ≡ Some packet
  pub own : ℕ
  pub its_own : packet.link_source ≡ own
  pub senders : List ℕ
  pub copies : AreCounted scope own air packet senders frames
  pub enough : scope.IsEnough own (length frames)

abbrev pub AreKnown : Counting → List Transmission → List Lot → Type 0
AreKnown scope air lots =
    (k : ℕ) (frames : List ℕ) (moment : ℕ) → slice_get lots k ≡ Some (CancelledBy frames moment)
    → AreCopiesIn scope air k frames

pub record IsSound (scope : Counting) (own : ℕ) (air : List Transmission) (q : Waiting) : Type 0 where
  pub held : All (IsHeld scope own air) q.held
  pub lots : AreKnown scope air q.lots

-- there are as many senders as frames
pub as_many : (senders frames : List ℕ) (scope : Counting) (own : ℕ) (air : List Transmission)
    (t : Transmission) → AreCounted scope own air t senders frames → length senders ≡ length frames
as_many [] [] scope own air t all = refl
as_many [] (k ∷ frames) scope own air t all = absurd all
as_many (sender ∷ senders) [] scope own air t all = absurd all
as_many (sender ∷ senders) (k ∷ frames) scope own air t all =
    ap suc (as_many senders frames scope own air t all.2)

-- more frames leave it
copies_stay : (senders frames : List ℕ) (scope : Counting) (own : ℕ) (air more : List Transmission)
    (t : Transmission) → AreCounted scope own air t senders frames
    → AreCounted scope own (air ++ more) t senders frames
copies_stay [] [] scope own air more t all = tt
copies_stay [] (k ∷ frames) scope own air more t all = absurd all
copies_stay (sender ∷ senders) [] scope own air more t all = absurd all
copies_stay (sender ∷ senders) (k ∷ frames) scope own air more t all = (
  record {
    copy = all.0.copy;
    in_air = get_front air more k all.0.copy all.0.in_air;
    tested = all.0.tested;
    from_sender = all.0.from_sender;
    was = all.0.was;
  },
  all.1,
  copies_stay senders frames scope own air more t all.2,
)

pub held_stay : (held : List (HeldFrame WaitingFrame)) (scope : Counting) (own : ℕ)
    (air more : List Transmission) → All (IsHeld scope own air) held
    → All (IsHeld scope own (air ++ more)) held
held_stay [] scope own air more all = All-nil (IsHeld scope own (air ++ more))
held_stay (h ∷ held) scope own air more all =
    let one = All-head (IsHeld scope own air) h held all in
    All-cons (IsHeld scope own (air ++ more)) h held (record {
      its_own = one.its_own;
      in_air = get_front air more h.frame.number h.frame.packet one.in_air;
      copies = copies_stay h.senders h.frame.copies scope own air more h.frame.packet one.copies;
    }) (held_stay held scope own air more (All-tail (IsHeld scope own air) h held all))

known_stay : (scope : Counting) (air more : List Transmission) (lots : List Lot)
    → AreKnown scope air lots → AreKnown scope (air ++ more) lots
known_stay scope air more lots known k frames moment is =
    let c = known k frames moment is in
    record {
      packet = c.packet;
      in_air = get_front air more k c.packet c.in_air;
      own = c.own;
      its_own = c.its_own;
      senders = c.senders;
      copies = copies_stay c.senders frames scope c.own air more c.packet c.copies;
      enough = c.enough;
    }

-- with one more that is not cancelled
known_more : (scope : Counting) (air : List Transmission) (lots : List Lot) (x : Lot)
    → ((frames : List ℕ) (moment : ℕ) → x ≡ CancelledBy frames moment → ⊥)
    → AreKnown scope air lots → AreKnown scope air (lots ++ x ∷ [])
known_more scope air lots x other known k frames moment is =
    elim (get_snoc lots x k (CancelledBy frames moment) is) [
      | inl old ↦ known k frames moment old
      | inr new ↦ absurd (other frames moment new.1)
    ]

-- with one changed
known_set : (scope : Counting) (air : List Transmission) (lots : List Lot) (n : ℕ) (x : Lot)
    → ((frames : List ℕ) (moment : ℕ) → x ≡ CancelledBy frames moment
    → AreCopiesIn scope air n frames)
    → AreKnown scope air lots → AreKnown scope air (set lots n x)
known_set scope air lots n x new known k frames moment is =
    elim (get_set lots n x k (CancelledBy frames moment) is) [
      | inl here ↦ subst (λ (i : ℕ). AreCopiesIn scope air i frames) (sym here.0)
          (new frames moment here.1)
      | inr there ↦ known k frames moment there.1
    ]

known_after : (gone : List (HeldFrame WaitingFrame)) (lot : HeldFrame WaitingFrame → Lot)
    (scope : Counting) (air : List Transmission) (lots : List Lot)
    (Is : HeldFrame WaitingFrame → Type 0)
    → ((h : HeldFrame WaitingFrame) → Is h → (frames : List ℕ) (moment : ℕ)
    → lot h ≡ CancelledBy frames moment → AreCopiesIn scope air h.frame.number frames)
    → All Is gone → AreKnown scope air lots → AreKnown scope air (lots_after lot lots gone)
known_after [] lot scope air lots Is new all known = known
known_after (h ∷ gone) lot scope air lots Is new all known =
    known_after gone lot scope air (set lots h.frame.number (lot h)) Is new
    (All-tail Is h gone all)
    (known_set scope air lots h.frame.number (lot h) (new h (All-head Is h gone all)) known)

known_release : (o : Option WaitingFrame) (now : ℕ) (scope : Counting) (air : List Transmission)
    (lots : List Lot) → AreKnown scope air lots
    → AreKnown scope air (lots_after_release now lots o)
known_release None now scope air lots known = known
known_release (Some frame) now scope air lots known =
    known_set scope air lots frame.number (SentAt now) (λ frames moment e. cc) known

-- ---- what a happening at a station does

-- the first lot of a frame: it went out at once, or it waits by the station's rule
abbrev pub IsFirstLot : Option ContentionRule → ℕ → Lot → Type 0
IsFirstLot rule moment lot =
    (lot ≡ SentAt moment)
    ⊎ ((r : ContentionRule) × (d : Option ℕ) × (tie : ℕ) × (rule ≡ Some r)
    × (lot ≡ WaitsUntil (moment + wait r tie d)))

pub record Passes (scope : Counting) (own : ℕ) (rule : Option ContentionRule) (moment : ℕ)
    (air after : List Transmission) (q next : Waiting) : Type 0 where
  pub evolves : Evolves moment q.lots next.lots
  pub even : length q.lots ≡ length air → length next.lots ≡ length after
  pub fresh : length q.lots ≡ length air → length air < length after
      → (lot : Lot) × (slice_get next.lots (length air) ≡ Some lot) × IsFirstLot rule moment lot
  pub sound : IsSound scope own air q → IsSound scope own after next

-- nothing
pub passes_same : (scope : Counting) (own : ℕ) (rule : Option ContentionRule) (moment : ℕ)
    (air : List Transmission) (q : Waiting) → Passes scope own rule moment air air q q
passes_same scope own rule moment air q =
    record {
      evolves = evolves_same moment q.lots;
      even = λ e. e;
      fresh = λ e less. absurd (omega (arith, less));
      sound = λ s. s;
    }

-- a frame that goes out at once, or none
pub passes_plain : (o : Option Transmission) (scope : Counting) (own : ℕ)
    (rule : Option ContentionRule)
    (moment : ℕ) (air : List Transmission) (q : Waiting)
    → Passes scope own rule moment air (with_one_more air o) q
    (record { held = q.held; lots = with_one_more q.lots (lot_at moment o) })
passes_plain None scope own rule moment air q = passes_same scope own rule moment air q
passes_plain (Some t) scope own rule moment air q =
    let lots = q.lots ++ SentAt moment ∷ [] in
    record {
      evolves = evolves_more (Some (SentAt moment)) moment q.lots;
      even = λ e. omega (arith, e, length_more q.lots (SentAt moment), length_more air t);
      fresh = λ e less. (
        SentAt moment,
        ap (slice_get lots) (sym e) ∙ get_last q.lots (SentAt moment),
        inl refl,
      );
      sound = λ s. record {
        held = held_stay q.held scope own air (t ∷ []) s.held;
        lots = known_more scope (air ++ t ∷ []) q.lots (SentAt moment) (λ frames m e. cc)
            (known_stay scope air (t ∷ []) q.lots s.lots);
      };
    }

-- all are dropped
pub passes_restart : (scope : Counting) (own : ℕ) (rule : Option ContentionRule) (moment : ℕ)
    (air : List Transmission) (q : Waiting)
    → Passes scope own rule moment air air q
    (record { held = []; lots = lots_after (λ h. DroppedAt moment) q.lots q.held })
passes_restart scope own rule moment air q =
    record {
      evolves = evolves_after q.held (λ h. DroppedAt moment) moment q.lots (λ h. refl);
      even = λ e. even_after q.held (λ h. DroppedAt moment) q.lots ∙ e;
      fresh = λ e less. absurd (omega (arith, less));
      sound = λ s. record {
        held = All-nil (IsHeld scope own air);
        lots = known_after q.held (λ h. DroppedAt moment) scope air q.lots
            (IsHeld scope own air) (λ h one frames m e. cc) s.held s.lots;
      };
    }

-- an own call
pub passes_own : (answer : Answer Transmission) (scope : Counting) (own : ℕ)
    (rule : Option ContentionRule)
    (moment : ℕ) (air : List Transmission) (q : Waiting)
    → Passes scope own rule moment air (with_one_more air (frame_of answer)) q
    (after_own_call moment q answer)
passes_own Moved scope own rule moment air q = passes_same scope own rule moment air q
passes_own Opened scope own rule moment air q = passes_same scope own rule moment air q
passes_own Closed scope own rule moment air q = passes_same scope own rule moment air q
passes_own Restarted scope own rule moment air q = passes_restart scope own rule moment air q
passes_own Quiet scope own rule moment air q = passes_same scope own rule moment air q
passes_own (Sent frame) scope own rule moment air q = passes_plain (Some frame) scope own rule moment air q
passes_own (Ignored why) scope own rule moment air q = passes_same scope own rule moment air q
passes_own (Accepted handed relayed) scope own rule moment air q =
    passes_plain relayed scope own rule moment air q
passes_own (Refused refusal) scope own rule moment air q = passes_same scope own rule moment air q

-- a relay that waits
passes_wait : (scope : Counting) (own : ℕ) (r : ContentionRule) (moment : ℕ) (air : List Transmission)
    (q : Waiting) (relay : Transmission) (tie : ℕ) (d : Option ℕ)
    → relay.link_source ≡ own → length q.lots ≡ length air
    → Passes scope own (Some r) moment air (air ++ relay ∷ []) q
    (record {
      held = q.held ++ newly_held (waiting_as (length air) relay) (moment + wait r tie d) ∷ [];
      lots = q.lots ++ WaitsUntil (moment + wait r tie d) ∷ [];
    })
passes_wait scope own r moment air q relay tie d mine long =
    let due = moment + wait r tie d in
    let lots = q.lots ++ WaitsUntil due ∷ [] in
    let one = newly_held (waiting_as (length air) relay) due in
    let after = air ++ relay ∷ [] in
    record {
      evolves = evolves_more (Some (WaitsUntil due)) moment q.lots;
      even = λ e. omega (arith, e, length_more q.lots (WaitsUntil due), length_more air relay);
      fresh = λ e less. (
        WaitsUntil due,
        ap (slice_get lots) (sym e) ∙ get_last q.lots (WaitsUntil due),
        inr (r, d, tie, refl, refl),
      );
      sound = λ s. record {
        held = All-append (IsHeld scope own after) q.held (one ∷ [])
            (held_stay q.held scope own air (relay ∷ []) s.held)
            (All-cons (IsHeld scope own after) one [] (record {
              its_own = mine;
              in_air = get_last air relay;
              copies = tt;
            }) (All-nil (IsHeld scope own after)));
        lots = known_more scope after q.lots (WaitsUntil due) (λ frames m e. cc)
            (known_stay scope air (relay ∷ []) q.lots s.lots);
      };
    }

-- an acceptance
pub passes_acceptance : (relayed : Option Transmission) (scope : Counting) (own : ℕ)
    (r : ContentionRule)
    (s : StationModel) (moment : ℕ) (t : Transmission) (air : List Transmission) (q : Waiting)
    → ((relay : Transmission) → relayed ≡ Some relay → relay.link_source ≡ own)
    → length q.lots ≡ length air
    → Passes scope own (Some r) moment air (with_one_more air relayed) q
    (after_acceptance (length air) moment q relayed (fate r s moment q.held t relayed))
passes_acceptance None scope own r s moment t air q mine long = passes_same scope own (Some r) moment air q
passes_acceptance (Some relay) scope own r s moment t air q mine long =
    by (contends_for s t.pdu.body && nat_lt (length q.held) places)
  where
    by : (b : Bool)
        → Passes scope own (Some r) moment air (air ++ relay ∷ []) q
        (after_acceptance (length air) moment q (Some relay)
        (cond b (Waits (due_of r s moment t)) Goes))
    by true = passes_wait scope own r moment air q relay (tie_of s t.pdu.body)
        (sender_distance s moment t.link_source) (mine relay refl) long
    by false = passes_plain (Some relay) scope own (Some r) moment air q

-- a copy that is counted
counted_is : (b c : Bool) (scope : Counting) (own k : ℕ) (t : Transmission)
    (air : List Transmission) (h : HeldFrame WaitingFrame)
    → scope.test own h.frame.packet t ≡ b → is_among t.link_source h.senders ≡ c
    → slice_get air k ≡ Some t → scope.Was k → IsHeld scope own air h
    → IsHeld scope own air (cond (b && not c) (record h {
      frame = record h.frame { copies = k ∷ h.frame.copies };
      senders = t.link_source ∷ h.senders;
    }) h)
counted_is true false scope own k t air h tested among at was one =
    record {
      its_own = one.its_own;
      in_air = one.in_air;
      copies = (
        record {
          copy = t;
          in_air = at;
          tested = tested;
          from_sender = refl;
          was = was;
        },
        among,
        one.copies,
      );
    }
counted_is true true scope own k t air h tested among at was one = one
counted_is false c scope own k t air h tested among at was one = one

counted_are : (held : List (HeldFrame WaitingFrame)) (scope : Counting) (own k : ℕ)
    (t : Transmission) (air : List Transmission)
    → slice_get air k ≡ Some t → scope.Was k → All (IsHeld scope own air) held
    → All (IsHeld scope own air) (with_copies scope.test own k t held)
counted_are [] scope own k t air at was all = all
counted_are (h ∷ held) scope own k t air at was all =
    All-cons (IsHeld scope own air) (with_copy (scope.test own h.frame.packet t) t.link_source k h)
    (with_copies scope.test own k t held)
    (counted_is (scope.test own h.frame.packet t) (is_among t.link_source h.senders) scope own k t
    air h refl refl at was (All-head (IsHeld scope own air) h held all))
    (counted_are held scope own k t air at was (All-tail (IsHeld scope own air) h held all))

-- one that does not stay has enough senders
enough_of : (copies n : ℕ) → not (nat_lt n copies) ≡ true → copies ≤ n
enough_of copies n h = grind (arith, nat_tests)

-- a duplicate
pub passes_duplicate : (scope : Counting) (rule : Option ContentionRule) (moment : ℕ)
    (air : List Transmission) (q : Waiting) (copies own k : ℕ) (t : Transmission)
    → slice_get air k ≡ Some t → scope.Was k → ((n : ℕ) → copies ≤ n → scope.IsEnough own n)
    → Passes scope own rule moment air air q
    (after_counting copies moment q.lots (with_copies scope.test own k t q.held))
passes_duplicate scope rule moment air q copies own k t at was enough =
    let all = with_copies scope.test own k t q.held in
    let go = λ (h : HeldFrame WaitingFrame). not (stays copies h) in
    let lot = λ (h : HeldFrame WaitingFrame). CancelledBy h.frame.copies moment in
    record {
      evolves = evolves_after (filter go all) lot moment q.lots (λ h. refl);
      even = λ e. even_after (filter go all) lot q.lots ∙ e;
      fresh = λ e less. absurd (omega (arith, less));
      sound = λ s. (
          let counted = counted_are q.held scope own k t air at was s.held in
          let gone = All-filter go (IsHeld scope own air) all counted in
          record {
            held = All-filter (stays copies) (IsHeld scope own air) all counted;
            lots = known_after (filter go all) lot scope air q.lots
                (λ h. IsHeld scope own air h × (go h ≡ true))
                (λ h one frames m e. cancelled h frames m one.0 one.1 e)
                (λ i d lt. (gone i d lt, filter_passes go all i d lt)) s.lots;
          });
    }
  where
    same_frames : (h : HeldFrame WaitingFrame) (frames : List ℕ) (m : ℕ)
        → CancelledBy h.frame.copies moment ≡ CancelledBy frames m → h.frame.copies ≡ frames
    same_frames h frames m e = cc

    cancelled : (h : HeldFrame WaitingFrame) (frames : List ℕ) (m : ℕ) → IsHeld scope own air h
        → not (stays copies h) ≡ true → CancelledBy h.frame.copies moment ≡ CancelledBy frames m
        → AreCopiesIn scope air h.frame.number frames
    cancelled h frames m one go e =
        subst (λ (xs : List ℕ). AreCopiesIn scope air h.frame.number xs) (same_frames h frames m e)
        (record {
          packet = h.frame.packet;
          in_air = one.in_air;
          own = own;
          its_own = one.its_own;
          senders = h.senders;
          copies = one.copies;
          enough = subst (λ (n : ℕ). scope.IsEnough own n)
              (as_many h.senders h.frame.copies scope own air h.frame.packet one.copies)
              (enough (length h.senders) (enough_of copies (length h.senders) go));
        })

-- a release
without_is : (o : Option ℕ) (held : List (HeldFrame WaitingFrame)) (scope : Counting) (own : ℕ)
    (air : List Transmission) → All (IsHeld scope own air) held
    → All (IsHeld scope own air) (without held o)
without_is None held scope own air all = all
without_is (Some i) held scope own air all =
    All-append (IsHeld scope own air) (take i held) (drop (suc i) held)
    (All-take (IsHeld scope own air) i held all) (All-drop (IsHeld scope own air) (suc i) held all)

pub passes_release : (scope : Counting) (own : ℕ) (rule : Option ContentionRule) (now : ℕ)
    (air : List Transmission) (q : Waiting)
    → Passes scope own rule now air air q (waiting_after_release now q)
passes_release scope own rule now air q =
    let kept = kept_at now q.held in
    let late = late_at now q.held in
    let lot = λ (h : HeldFrame WaitingFrame). DroppedAt now in
    let lots = lots_after lot q.lots late in
    let in_time = λ (h : HeldFrame WaitingFrame). nat_le now (h.due + late_after) in
    record {
      evolves = evolves_twice now q.lots lots
          (lots_after_release now lots (first_due now kept))
          (evolves_after late lot now q.lots (λ h. refl))
          (evolves_release (first_due now kept) now lots);
      even = λ e. even_release (first_due now kept) now lots ∙ even_after late lot q.lots ∙ e;
      fresh = λ e less. absurd (omega (arith, less));
      sound = λ s. record {
        held = without_is (place_due now kept) kept scope own air
            (All-filter in_time (IsHeld scope own air) q.held s.held);
        lots = known_release (first_due now kept) now scope air lots
            (known_after late lot scope air q.lots (IsHeld scope own air) (λ h one frames m e. cc)
            (All-filter (λ h. not (in_time h)) (IsHeld scope own air) q.held s.held) s.lots);
      };
    }
