-- No unit accepts a packet twice within two windows of its entity.
use Rattle.std.proofs.Common.{◌≡◌, ℕ, zero, suc, ◌+◌, ◌*◌, ◌-◌, ◌≤◌, ◌<◌, List, [], ◌∷◌}
use Rattle.std.proofs.Common.{◌++◌, length, take, Bool, true, false, cond, eqb, ◌&&◌}
use Rattle.std.proofs.Common.{◌||◌, Option, Some, None, refl, sym, ap, ◌∙◌, inl, inr, arith, true≢false}
use Rattle.std.specs.Prelude.{slice_get, nat_le, nat_lt}
use Rattle.std.proofs.lemmas.Bool.{eqb-true, le-leb}
use Rattle.std.proofs.lemmas.Bool.Decides.{nat_tests}
use Rattle.std.proofs.lemmas.Option.{none-some, same_Some}
use Rattle.its_model.specs.History.{Reception, entry_life, is_from, of_source, unbroken}
use Rattle.its_model.specs.History.{numbers_of, with_number, is_among, is_remembered}
use Rattle.its_model.specs.History.{NeverFell}
use Rattle.its_model.specs.Stations.{AreDistinct}
use Rattle.its_model.proofs.Distinct.{subset_le}
use Rattle.its_model.proofs.NumberTests.{eq_test, eqb_same, lt_test}
use Rattle.its_unit.specs.FleetLaws.{IsIn}
use Rattle.its_unit.specs.Signed.{SignedLine}
use Rattle.its_unit.specs.SignedOnce.{AreNear, IsNewAmong, AreNew, SendsFew}
use Rattle.its_unit.specs.SignedOnce.{number_of_sent, number_in_span, numbers_sent}

-- ---- histories

-- each of these packets came at one of these moments
abbrev pub AreWithin : ℕ → ℕ → List Reception → Type 0
AreWithin from until [] = Unit {0}
AreWithin from until (r ∷ older) =
    (from ≤ r.moment) × (r.moment ≤ until) × AreWithin from until older

-- the moments never fall, also up to a later one
pub later_still : (now later : ℕ) (history : List Reception) → now ≤ later
    → NeverFell now history → NeverFell later history
later_still now later [] le h = tt
later_still now later (r ∷ older) le h = (omega (arith, h.0), h.1)

-- packets that came before one came no later, and no earlier than an older one
oldest_first : (now : ℕ) (newer : List Reception) (r : Reception) (older : List Reception)
    → NeverFell now (newer ++ r ∷ older) → r.moment ≤ now
oldest_first now [] r older h = h.0
oldest_first now (x ∷ newer) r older h =
    let le = oldest_first x.moment newer r older h.1 in
    let top : x.moment ≤ now = h.0 in
    omega arith

front_within : (now until : ℕ) (newer : List Reception) (r : Reception) (older : List Reception)
    → now ≤ until → NeverFell now (newer ++ r ∷ older)
    → AreWithin r.moment until (newer ++ r ∷ [])
front_within now until [] r older le h = (omega arith, omega (arith, h.0), tt)
front_within now until (x ∷ newer) r older le h =
    let top : x.moment ≤ now = h.0 in (
      oldest_first x.moment newer r older h.1,
      omega arith,
      front_within x.moment until newer r older (omega arith) h.1,
    )

-- ---- a packet is remembered

-- the test of a source
from_source : (source : ℕ) (r : Reception) → r.vector.address ≡ source
    → is_from source r ≡ true
from_source source r e = ap (λ n. eqb n source) e ∙ eqb_same source

is_before : (a b : ℕ) → a < b → nat_lt a b ≡ true
is_before a b h = grind (arith, nat_tests)

either : (b c : Bool) → c ≡ true → (b || c) ≡ true
either true c e = refl
either false c e = e

-- one more number in front of others
one_more : (k n : ℕ) (o : Option ℕ) (newer numbers : List ℕ)
    → ((j : ℕ) → length newer < j → is_among n (take j numbers) ≡ true)
    → length (with_number o newer) < k → is_among n (take k (with_number o numbers)) ≡ true
one_more k n None newer numbers h few = h k few
one_more zero n (Some m) newer numbers h few = absurd (omega (arith, few))
one_more (suc k) n (Some m) newer numbers h few =
    either (eqb m n) (is_among n (take k numbers)) (h k (omega (arith, few)))

-- A packet with a number is remembered, if it came less than an entry's life ago, and fewer numbers
-- of its source came since than are remembered.
remembered : (now source n : ℕ) (newer : List Reception) (r : Reception) (older : List Reception)
    → NeverFell now (newer ++ r ∷ older) → now < r.moment + entry_life
    → r.vector.address ≡ source → r.number ≡ Some n → (k : ℕ)
    → length (numbers_of (of_source source newer)) < k
    → is_remembered k source n now (newer ++ r ∷ older) ≡ true
remembered now source n [] r older h near is number zero few = absurd (omega (arith, few))
remembered now source n [] r older h near is number (suc k) few =
    let rest = of_source source older in
    ap (λ b. is_among n (take (suc k) (numbers_of (unbroken now (cond b (r ∷ rest) rest)))))
    (from_source source r is)
    ∙ ap (λ b. is_among n (take (suc k) (numbers_of (cond b (r ∷ unbroken r.moment rest) []))))
    (is_before now (r.moment + entry_life) near)
    ∙ ap (λ o. is_among n (take (suc k) (with_number o (numbers_of (unbroken r.moment rest)))))
    number
    ∙ ap (λ b. b || is_among n (take k (numbers_of (unbroken r.moment rest)))) (eqb_same n)
remembered now source n (x ∷ newer) r older h near is number k few =
    by (λ moment rises soon j less. remembered moment source n newer r older rises soon is number j less)
    (is_from source x) few
  where
    rest : List Reception
    rest = of_source source (newer ++ r ∷ older)

    last : r.moment ≤ x.moment
    last = oldest_first x.moment newer r older h.1

    top : x.moment ≤ now
    top = h.0

    inner : x.moment < r.moment + entry_life
    inner = omega (arith, near, top)

    Before : Type 0
    Before = (moment : ℕ) → NeverFell moment (newer ++ r ∷ older) → moment < r.moment + entry_life
        → (j : ℕ) → length (numbers_of (of_source source newer)) < j
        → is_among n (take j (numbers_of (unbroken moment rest))) ≡ true

    by : Before → (b : Bool)
        → length (numbers_of (cond b (x ∷ of_source source newer) (of_source source newer))) < k
        → is_among n (take k (numbers_of (unbroken now (cond b (x ∷ rest) rest)))) ≡ true
    by before true few =
        ap (λ b. is_among n (take k (numbers_of (cond b (x ∷ unbroken x.moment rest) []))))
        (is_before now (x.moment + entry_life) (omega (arith, near, last)))
        ∙ one_more k n x.number (numbers_of (of_source source newer))
        (numbers_of (unbroken x.moment rest))
        (λ j less. before x.moment h.1 inner j less) few
    by before false few =
        before now (later_still x.moment now (newer ++ r ∷ older) top h.1) near k few

-- ---- the numbers of packets that are new differ

number_is_new : (span from until source m : ℕ) (x : Reception) (older : List Reception)
    → IsNewAmong span x older → AreWithin from until older → x.moment ≤ until
    → until ≤ from + span → x.vector.address ≡ source → x.number ≡ Some m
    → is_among m (numbers_of (of_source source older)) ≡ false
number_is_new span from until source m x [] new within le short is number = refl
number_is_new span from until source m x (q ∷ older) new within le short is number =
    by (number_is_new span from until source m x older new.1 within.2 le short is number)
    (is_from source q) refl
  where
    never : is_from source q ≡ true → q.number ≡ Some m → ⊥
    never from_it same =
        let later : q.moment + span < x.moment =
        new.0 (is ∙ sym (eqb-true q.vector.address source from_it), m, number, same) in
        let first : from ≤ q.moment = within.0 in
        absurd (omega (arith, later, first, le, short))

    of_number : is_among m (numbers_of (of_source source older)) ≡ false → (o : Option ℕ)
        → is_from source q ≡ true → q.number ≡ o
        → is_among m (with_number o (numbers_of (of_source source older))) ≡ false
    of_number rest None from_it e = rest
    of_number rest (Some n) from_it e =
        elim (eq_test n m) [
          | inl same ↦ absurd (never from_it (e ∙ ap Some same.1))
          | inr other ↦ ap (λ b. b || is_among m (numbers_of (of_source source older))) other.0
              ∙ rest
        ]

    by : is_among m (numbers_of (of_source source older)) ≡ false → (b : Bool)
        → is_from source q ≡ b
        → is_among m (numbers_of (cond b (q ∷ of_source source older) (of_source source older)))
        ≡ false
    by rest true e = of_number rest q.number e refl
    by rest false e = rest

distinct_numbers : (span from until source : ℕ) (xs : List Reception) → AreNew span xs
    → AreWithin from until xs → until ≤ from + span
    → AreDistinct (numbers_of (of_source source xs))
distinct_numbers span from until source [] new within short = tt
distinct_numbers span from until source (x ∷ xs) new within short =
    by (distinct_numbers span from until source xs new.1 within.2 short) (is_from source x) refl
  where
    of_number : AreDistinct (numbers_of (of_source source xs)) → (o : Option ℕ)
        → is_from source x ≡ true → x.number ≡ o
        → AreDistinct (with_number o (numbers_of (of_source source xs)))
    of_number rest None from_it e = rest
    of_number rest (Some m) from_it e = (
      number_is_new span from until source m x xs new.0 within.2 within.1 short
          (eqb-true x.vector.address source from_it) e,
      rest,
    )

    by : AreDistinct (numbers_of (of_source source xs)) → (b : Bool) → is_from source x ≡ b
        → AreDistinct (numbers_of (cond b (x ∷ of_source source xs) (of_source source xs)))
    by rest true e = of_number rest x.number e refl
    by rest false e = rest

-- the front of a history
new_front : (span : ℕ) (x : Reception) (newer : List Reception) (r : Reception)
    (older : List Reception)
    → IsNewAmong span x (newer ++ r ∷ older) → IsNewAmong span x (newer ++ r ∷ [])
new_front span x [] r older h = (h.0, tt)
new_front span x (y ∷ newer) r older h = (h.0, new_front span x newer r older h.1)

all_new_front : (span : ℕ) (newer : List Reception) (r : Reception) (older : List Reception)
    → AreNew span (newer ++ r ∷ older) → AreNew span (newer ++ r ∷ [])
all_new_front span [] r older h = (tt, tt)
all_new_front span (x ∷ newer) r older h =
    (new_front span x newer r older h.0, all_new_front span newer r older h.1)

-- with the last one it has one number more
last_number : (source n : ℕ) (newer : List Reception) (r : Reception) → r.vector.address ≡ source
    → r.number ≡ Some n
    → length (numbers_of (of_source source (newer ++ r ∷ [])))
    ≡ suc (length (numbers_of (of_source source newer)))
last_number source n [] r is number =
    ap (λ b. length (numbers_of (cond b (r ∷ []) []))) (from_source source r is)
    ∙ ap (λ o. length (with_number o [])) number
last_number source n (x ∷ newer) r is number =
    by (last_number source n newer r is number) (is_from source x)
  where
    IsOneMore : Type 0
    IsOneMore = length (numbers_of (of_source source (newer ++ r ∷ [])))
        ≡ suc (length (numbers_of (of_source source newer)))

    of_number : IsOneMore → (o : Option ℕ)
        → length (with_number o (numbers_of (of_source source (newer ++ r ∷ []))))
        ≡ suc (length (with_number o (numbers_of (of_source source newer))))
    of_number rest None = rest
    of_number rest (Some m) = ap suc rest

    by : IsOneMore → (b : Bool)
        → length (numbers_of (cond b (x ∷ of_source source (newer ++ r ∷ []))
        (of_source source (newer ++ r ∷ []))))
        ≡ suc (length (numbers_of (cond b (x ∷ of_source source newer) (of_source source newer))))
    by rest true = of_number rest x.number
    by rest false = rest

-- ---- each packet of a history was sent near the moment at which it came

-- a line sent this number of the packet's source, near the moment at which the packet came
pub record WasSentNear (window : ℕ) (log : List SignedLine) (r : Reception) (n : ℕ) : Type 0 where
  pub line : SignedLine
  pub logged : IsIn log line
  pub number : number_of_sent r.vector.address line.answer ≡ Some n
  pub near : AreNear window line.event.now r.moment

abbrev pub AreSent : ℕ → List SignedLine → List Reception → Type 0
AreSent window log [] = Unit {0}
AreSent window log (r ∷ older) =
    ((n : ℕ) → r.number ≡ Some n → WasSentNear window log r n) × AreSent window log older

-- also in a longer log
pub sent_still : (window : ℕ) (line : SignedLine) (log : List SignedLine) (history : List Reception)
    → AreSent window log history → AreSent window (line ∷ log) history
sent_still window line log [] h = tt
sent_still window line log (r ∷ older) h = (
  (λ n is. (let s = h.0 n is in record {
    line = s.line;
    logged = (suc s.logged.0, s.logged.1);
    number = s.number;
    near = s.near;
  })),
  sent_still window line log older h.1,
)

sent_front : (window : ℕ) (log : List SignedLine) (newer : List Reception) (r : Reception)
    (older : List Reception)
    → AreSent window log (newer ++ r ∷ older) → AreSent window log (newer ++ r ∷ [])
sent_front window log [] r older h = (h.0, tt)
sent_front window log (x ∷ newer) r older h = (h.0, sent_front window log newer r older h.1)

-- a number that a line of the log sent in a span is among those sent
among_sent : (source from span n : ℕ) (log : List SignedLine) (line : SignedLine) (k : ℕ)
    → slice_get log k ≡ Some line → number_in_span source from span line ≡ Some n
    → is_among n (numbers_sent source from span log) ≡ true
among_sent source from span n [] line k at is = absurd (none-some line at)
among_sent source from span n (x ∷ log) line zero at is =
    ap (λ (l : SignedLine). is_among n
    (with_number (number_in_span source from span l) (numbers_sent source from span log)))
    (same_Some x line at)
    ∙ ap (λ o. is_among n (with_number o (numbers_sent source from span log))) is
    ∙ ap (λ b. b || is_among n (numbers_sent source from span log)) (eqb_same n)
among_sent source from span n (x ∷ log) line (suc k) at is =
    by (number_in_span source from span x) (among_sent source from span n log line k at is)
  where
    by : (o : Option ℕ) → is_among n (numbers_sent source from span log) ≡ true
        → is_among n (with_number o (numbers_sent source from span log)) ≡ true
    by None h = h
    by (Some m) h = either (eqb m n) (is_among n (numbers_sent source from span log)) h

-- what was sent near a moment of two windows was sent in four windows
sent_in_span : (window from until source n : ℕ) (log : List SignedLine) (r : Reception)
    → WasSentNear window log r n → from ≤ r.moment → r.moment ≤ until
    → until ≤ from + 2 * window → r.vector.address ≡ source
    → is_among n (numbers_sent source (from - window) (4 * window) log) ≡ true
sent_in_span window from until source n log r s low high short is =
    let begin : from - window ≤ s.line.event.now = omega (arith, s.near.1, low) in
    let end : s.line.event.now ≤ from - window + 4 * window =
    omega (arith, s.near.0, high, short) in
    among_sent source (from - window) (4 * window) n log s.line s.logged.0 s.logged.1
    (ap (λ b. cond (b && nat_le s.line.event.now (from - window + 4 * window))
    (number_of_sent source s.line.answer) None) (le-leb (from - window) s.line.event.now begin)
    ∙ ap (λ b. cond b (number_of_sent source s.line.answer) None)
    (le-leb s.line.event.now (from - window + 4 * window) end)
    ∙ ap (λ a. number_of_sent a s.line.answer) (sym is) ∙ s.number)

all_sent : (window from until source m : ℕ) (log : List SignedLine) (xs : List Reception)
    → AreSent window log xs → AreWithin from until xs → until ≤ from + 2 * window
    → is_among m (numbers_of (of_source source xs)) ≡ true
    → is_among m (numbers_sent source (from - window) (4 * window) log) ≡ true
all_sent window from until source m log [] sent within short among = cc
all_sent window from until source m log (x ∷ xs) sent within short among =
    by (λ a. all_sent window from until source m log xs sent.1 within.2 short a) (is_from source x)
    refl among
  where
    AreSentToo : Type 0
    AreSentToo = is_among m (numbers_of (of_source source xs)) ≡ true
        → is_among m (numbers_sent source (from - window) (4 * window) log) ≡ true

    of_number : AreSentToo → (o : Option ℕ) → is_from source x ≡ true → x.number ≡ o
        → is_among m (with_number o (numbers_of (of_source source xs))) ≡ true
        → is_among m (numbers_sent source (from - window) (4 * window) log) ≡ true
    of_number rest None from_it e among = rest among
    of_number rest (Some n) from_it e among =
        elim (eq_test n m) [
          | inl same ↦ sent_in_span window from until source m log x
              (sent.0 m (e ∙ ap Some same.1)) within.0 within.1 short
              (eqb-true x.vector.address source from_it)
          | inr other ↦ rest (sym (ap (λ b. b || is_among m (numbers_of (of_source source xs)))
              other.0) ∙ among)
        ]

    by : AreSentToo → (b : Bool) → is_from source x ≡ b
        → is_among m (numbers_of (cond b (x ∷ of_source source xs) (of_source source xs))) ≡ true
        → is_among m (numbers_sent source (from - window) (4 * window) log) ≡ true
    by rest true e among = of_number rest x.number e refl among
    by rest false e among = rest among

-- ---- a packet that is accepted is new

-- a packet of which another copy came is accepted only two windows later
pub later_copy : (window now source n k : ℕ) (log : List SignedLine) (newer : List Reception)
    (r : Reception) (older : List Reception)
    → 2 * window < entry_life → AreNew (2 * window) (newer ++ r ∷ older)
    → NeverFell now (newer ++ r ∷ older) → AreSent window log (newer ++ r ∷ older)
    → SendsFew k (4 * window) source log → r.vector.address ≡ source → r.number ≡ Some n
    → is_remembered k source n now (newer ++ r ∷ older) ≡ false → r.moment + 2 * window < now
later_copy window now source n k log newer r older life new rises sent few is number unknown =
    elim (lt_test (r.moment + 2 * window) now) [
      | inl later ↦ later.1
      | inr soon ↦ absurd (never soon.1)
    ]
  where
    front : List Reception
    front = newer ++ r ∷ []

    never : now ≤ r.moment + 2 * window → ⊥
    never soon =
        let within = front_within now now newer r older (omega arith) rises in
        let distinct = distinct_numbers (2 * window) r.moment now source front
        (all_new_front (2 * window) newer r older new) within soon in
        let fits = subset_le (numbers_of (of_source source front))
        (numbers_sent source (r.moment - window) (4 * window) log) distinct
        (λ m among. all_sent window r.moment now source m log front
        (sent_front window log newer r older sent) within soon among) in
        let most = few (r.moment - window) in
        let one = last_number source n newer r is number in
        let known = remembered now source n newer r older rises (omega (arith, soon, life)) is number
        k (omega (arith, fits, most, one)) in
        true≢false (sym known ∙ unknown)
