-- Counts by kinds and stations: one more, and one less.
use Rattle.std.proofs.Common.{◌≡◌, ◌∙◌, ◌<◌, ◌≤◌, ◌+◌, ◌*◌, ◌-◌, ℕ, zero, List, ◌∷◌, get_or, set}
use Rattle.std.proofs.Common.{Bool, true, false, ◌&&◌, cond, Option, Some, None}
use Rattle.std.proofs.Common.{refl, sym, ap, subst}
use Rattle.std.proofs.Common.{length, take, replicate, ◌++◌, arith, ◌⊎◌, inl, inr, ◌≢◌, mul_comm}
use Rattle.std.specs.Prelude.{count_by, ◌==◌}
use Rattle.std.specs.List.Sorted.{IsPermutation}
use Rattle.std.proofs.lemmas.Bool.{eq-eqb, ne_eqb, cases_order, cases_eq, cases_lt}
use Rattle.std.proofs.lemmas.List.{get_or-set_same, get_or-set_other, get_or_past, take_all}
use Rattle.std.proofs.lemmas.List.{get_or_append_left, get_or-append_right, get_or-replicate}
use Rattle.std.proofs.lemmas.List.{length-replicate}
use Rattle.std.proofs.lemmas.List.Sorted.{sum_by_pushed, sum_by_popped}
use Rattle.std.proofs.lemmas.Nat.{mul-add-lt}
use Rattle.sim_queue.specs.declared.scheduled.AirAction.{AirAction}
use Rattle.sim_queue.specs.declared.scheduled.AirAction.TheVariants as owns
use Rattle.sim_queue.specs.declared.scheduled.Scheduled.{Scheduled}
use Rattle.sim_queue.specs.Waiting.{is_tick_at, is_send_at, own_of}
use Rattle.sim_air_model.specs.Timetable.{is_tick, is_numbered}
use Rattle.sim_queue.specs.Traffics.{traffic_in}
use Rattle.sim_queue.specs.Counted.{kind_in, is_kind, is_kind_at, IsPlaceOf, IsCountedAt, AreCounted}
use Rattle.sim_queue.specs.Counted.{IsUncounted}

abbrev bit : Bool → ℕ
bit b = cond b 1 0

-- two counts that stand at one place are one
one_place : (kinds a b k l : ℕ) → k < kinds → l < kinds → a * kinds + k ≡ b * kinds + l
    → (a ≡ b) × (k ≡ l)
one_place kinds a b k l lk ll e = by (cases_order a b)
  where
    by : (a ≡ b) ⊎ ((a < b) ⊎ (b < a)) → (a ≡ b) × (k ≡ l)
    by (inl is) =
        let same : a * kinds ≡ b * kinds = ap (λ n. n * kinds) is in (is, omega (arith, e, same))
    by (inr (inl lt)) =
        let less = mul-add-lt a kinds k b lt lk in
        let flip : kinds * b ≡ b * kinds = mul_comm kinds b in
        absurd (omega (arith, less, flip, e))
    by (inr (inr gt)) =
        let less = mul-add-lt b kinds l a gt ll in
        let flip : kinds * a ≡ a * kinds = mul_comm kinds a in
        absurd (omega (arith, less, flip, e))

-- it is of its own kind, at its own station, and of no other
of_own : (w : Scheduled) (k kind station : ℕ) → kind_in w.own ≡ Some k → k ≡ kind
    → w.station ≡ station → is_kind_at kind station w ≡ true
of_own w k kind station is same at =
    rw (is, eq-eqb k kind same, eq-eqb w.station station at) refl

of_other : (w : Scheduled) (k kind station : ℕ) → kind_in w.own ≡ Some k
    → (k ≡ kind → w.station ≡ station → ⊥) → is_kind_at kind station w ≡ false
of_other w k kind station is differ = rw is (by (cases_eq k kind) (cases_eq w.station station))
  where
    under : (b : Bool) → b && false ≡ false
    under true = refl
    under false = refl

    by : (k ≡ kind) ⊎ (k ≢ kind) → (w.station ≡ station) ⊎ (w.station ≢ station)
        → (k == kind) && (w.station == station) ≡ false
    by (inl same) (inl at) = absurd (differ same at)
    by (inl same) (inr apart) = rw (ne_eqb w.station station apart) (under (k == kind))
    by (inr apart) at = rw (ne_eqb k kind apart) refl

-- where this one is counted, so it is at this place, and elsewhere it isn't
here_or_not : (kinds : ℕ) (w : Scheduled) (at kind station at' : ℕ) → IsCountedAt kinds w at
    → IsPlaceOf kinds kind station at'
    → ((at' ≡ at) × (is_kind_at kind station w ≡ true))
    ⊎ ((at' ≢ at) × (is_kind_at kind station w ≡ false))
here_or_not kinds w at kind station at' (k, is, (lk, there, fits)) (lt, there', fits') =
    by (cases_eq at' at)
  where
    by : (at' ≡ at) ⊎ (at' ≢ at) → ((at' ≡ at) × (is_kind_at kind station w ≡ true))
        ⊎ ((at' ≢ at) × (is_kind_at kind station w ≡ false))
    by (inl same) =
        let one = one_place kinds w.station station k kind lk lt
        (sym there ∙ sym same ∙ there') in
        inl (same, of_own w k kind station is one.1 one.0)
    by (inr apart) =
        inr (
          apart,
          of_other w k kind station is (λ e f. apart (there'
              ∙ ap (λ n. n * kinds + kind) (sym f) ∙ ap (λ n. w.station * kinds + n) (sym e)
              ∙ sym there)),
        )

pub counted_more : (kinds : ℕ) (counts : List ℕ) (own new : List Scheduled) (w : Scheduled) (at : ℕ)
    → IsCountedAt kinds w at → at < length counts → AreCounted kinds counts own
    → IsPermutation (w ∷ own) new
    → AreCounted kinds (set counts at (get_or counts at 0 + 1)) new
counted_more kinds counts own new w at place within all more kind station at' place' =
    let pushed = sum_by_pushed (λ x. bit (is_kind_at kind station x)) w own new more in
    let before = all kind station at' place' in
    by pushed before (here_or_not kinds w at kind station at' place place')
  where
    by : count_by (is_kind_at kind station) new
        ≡ bit (is_kind_at kind station w) + count_by (is_kind_at kind station) own
        → get_or counts at' 0 ≡ count_by (is_kind_at kind station) own
        → ((at' ≡ at) × (is_kind_at kind station w ≡ true))
        ⊎ ((at' ≢ at) × (is_kind_at kind station w ≡ false))
        → get_or (set counts at (get_or counts at 0 + 1)) at' 0
        ≡ count_by (is_kind_at kind station) new
    by pushed before (inl (same, told)) =
        let one : bit (is_kind_at kind station w) ≡ 1 = ap bit told in
        let now = get_or-set_same counts at (get_or counts at 0 + 1) 0 within in
        let was : get_or counts at' 0 ≡ get_or counts at 0 = ap (λ n. get_or counts n 0) same in
        ap (λ n. get_or (set counts at (get_or counts at 0 + 1)) n 0) same
        ∙ omega (arith, now, was, before, pushed, one)
    by pushed before (inr (apart, told)) =
        let none : bit (is_kind_at kind station w) ≡ 0 = ap bit told in
        get_or-set_other counts at at' (get_or counts at 0 + 1) 0 apart
        ∙ omega (arith, before, pushed, none)

pub counted_less : (kinds : ℕ) (counts : List ℕ) (own new : List Scheduled) (w : Scheduled) (at : ℕ)
    → IsCountedAt kinds w at → at < length counts → AreCounted kinds counts own
    → IsPermutation own (w ∷ new)
    → AreCounted kinds (set counts at (get_or counts at 0 - 1)) new
counted_less kinds counts own new w at place within all less kind station at' place' =
    let popped = sum_by_popped (λ x. bit (is_kind_at kind station x)) w own new less in
    let before = all kind station at' place' in
    by popped before (here_or_not kinds w at kind station at' place place')
  where
    by : count_by (is_kind_at kind station) new + bit (is_kind_at kind station w)
        ≡ count_by (is_kind_at kind station) own
        → get_or counts at' 0 ≡ count_by (is_kind_at kind station) own
        → ((at' ≡ at) × (is_kind_at kind station w ≡ true))
        ⊎ ((at' ≢ at) × (is_kind_at kind station w ≡ false))
        → get_or (set counts at (get_or counts at 0 - 1)) at' 0
        ≡ count_by (is_kind_at kind station) new
    by popped before (inl (same, told)) =
        let one : bit (is_kind_at kind station w) ≡ 1 = ap bit told in
        let now = get_or-set_same counts at (get_or counts at 0 - 1) 0 within in
        let was : get_or counts at' 0 ≡ get_or counts at 0 = ap (λ n. get_or counts n 0) same in
        ap (λ n. get_or (set counts at (get_or counts at 0 - 1)) n 0) same
        ∙ omega (arith, now, was, before, popped, one)
    by popped before (inr (apart, told)) =
        let none : bit (is_kind_at kind station w) ≡ 0 = ap bit told in
        get_or-set_other counts at at' (get_or counts at 0 - 1) 0 apart
        ∙ omega (arith, before, popped, none)

-- one that waits is counted at a place that there is
pub counted_within : (kinds : ℕ) (counts : List ℕ) (own new : List Scheduled) (w : Scheduled)
    (at : ℕ)
    → IsCountedAt kinds w at → length counts ≤ at → AreCounted kinds counts own
    → IsPermutation own (w ∷ new) → ⊥
counted_within kinds counts own new w at (k, is, place) past all less =
    let popped = sum_by_popped (λ x. bit (is_kind_at k w.station x)) w own new less in
    let before = all k w.station at place in
    let none = get_or_past counts at 0 past in
    let one : bit (is_kind_at k w.station w) ≡ 1 = ap bit (of_own w k k w.station is refl refl) in
    absurd (omega (arith, popped, before, none, one))

-- where one is counted nowhere, it adds to no count
uncounted_bit : (kinds : ℕ) (w : Scheduled) → IsUncounted kinds w → (kind station at : ℕ)
    → IsPlaceOf kinds kind station at → bit (is_kind_at kind station w) ≡ 0
uncounted_bit kinds w never kind station at place = by (kind_in w.own) refl
  where
    by : (o : Option ℕ) → kind_in w.own ≡ o → bit (is_kind_at kind station w) ≡ 0
    by None is = rw is refl
    by (Some k) is =
        ap bit (of_other w k kind station is (λ e f. never at (
          kind,
          is ∙ ap Some e,
          subst (λ n. IsPlaceOf kinds kind n at) (sym f) place,
        )))

pub uncounted_more : (kinds : ℕ) (counts : List ℕ) (own new : List Scheduled) (w : Scheduled)
    → IsUncounted kinds w → AreCounted kinds counts own → IsPermutation (w ∷ own) new
    → AreCounted kinds counts new
uncounted_more kinds counts own new w never all more kind station at place =
    let pushed = sum_by_pushed (λ x. bit (is_kind_at kind station x)) w own new more in
    let none = uncounted_bit kinds w never kind station at place in
    let before = all kind station at place in omega (arith, pushed, none, before)

pub uncounted_less : (kinds : ℕ) (counts : List ℕ) (own new : List Scheduled) (w : Scheduled)
    → IsUncounted kinds w → AreCounted kinds counts own → IsPermutation own (w ∷ new)
    → AreCounted kinds counts new
uncounted_less kinds counts own new w never all less kind station at place =
    let popped = sum_by_popped (λ x. bit (is_kind_at kind station x)) w own new less in
    let none = uncounted_bit kinds w never kind station at place in
    let before = all kind station at place in omega (arith, popped, none, before)

-- the first kind are the ticks, and those behind it the sends of each traffic
pub counted_ticks : (station : ℕ) (own : List Scheduled)
    → count_by (is_kind_at 0 station) own ≡ count_by (is_tick_at station) own
counted_ticks station own = ap (λ p. count_by p own) (λ i w. same w i)
  where
    by : (o : AirAction) (b : Bool)
        → is_kind 0 (kind_in o) && b ≡ is_tick (own_of o) && b
    by (owns.Tick jitter) b = refl
    by (owns.Deliver frame) b = refl
    by (owns.Send number x) b =
        ap (λ c. c && b) (ne_eqb (number + 1) 0
        (λ e. let e' : number + 1 ≡ 0 = e in absurd (omega (arith, e'))))

    same : (w : Scheduled) → is_kind_at 0 station w ≡ is_tick_at station w
    same w = by w.own (w.station == station)

pub counted_sends : (number station : ℕ) (own : List Scheduled)
    → count_by (is_kind_at (number + 1) station) own ≡ count_by (is_send_at number station) own
counted_sends number station own = ap (λ p. count_by p own) (λ i w. same w i)
  where
    next : (n : ℕ) → (n ≡ number) ⊎ (n ≢ number) → (n + 1 == number + 1) ≡ (n == number)
    next n (inl is) =
        eq-eqb (n + 1) (number + 1) (omega (arith, is)) ∙ sym (eq-eqb n number is)
    next n (inr differ) =
        ne_eqb (n + 1) (number + 1)
        (λ e. let e' : n + 1 ≡ number + 1 = e in differ (omega (arith, e')))
        ∙ sym (ne_eqb n number differ)

    by : (o : AirAction) (b : Bool)
        → is_kind (number + 1) (kind_in o) && b ≡ is_numbered number (traffic_in o) && b
    by (owns.Tick jitter) b =
        ap (λ c. c && b) (ne_eqb 0 (number + 1)
        (λ e. let e' : 0 ≡ number + 1 = e in absurd (omega (arith, e'))))
    by (owns.Deliver frame) b = refl
    by (owns.Send n x) b = ap (λ c. c && b) (next n (cases_eq n number))

    same : (w : Scheduled) → is_kind_at (number + 1) station w ≡ is_send_at number station w
    same w = by w.own (w.station == station)

-- zeros behind the counts change none
with_zeros : (counts : List ℕ) (n k : ℕ)
    → get_or (counts ++ replicate n zero) k zero ≡ get_or counts k zero
with_zeros counts n k = by (cases_lt k (length counts))
  where
    zero_at : (j : ℕ) → (j < n) ⊎ (n ≤ j) → get_or (replicate n zero) j zero ≡ zero
    zero_at j (inl lt) = get_or-replicate n j zero zero lt
    zero_at j (inr ge) =
        get_or_past (replicate n zero) j zero (omega (arith, ge, length-replicate n zero))

    by : (k < length counts) ⊎ (length counts ≤ k)
        → get_or (counts ++ replicate n zero) k zero ≡ get_or counts k zero
    by (inl lt) = get_or_append_left counts (replicate n zero) zero k lt
    by (inr ge) =
        get_or-append_right counts (replicate n zero) (length counts) k zero refl ge
        ∙ zero_at (k - length counts) (cases_lt (k - length counts) n)
        ∙ sym (get_or_past counts k zero ge)

pub counted_grown : (kinds : ℕ) (counts grown : List ℕ) (own : List Scheduled) (m n : ℕ)
    → length counts ≤ m → grown ≡ take m counts ++ replicate n zero → AreCounted kinds counts own
    → AreCounted kinds grown own
counted_grown kinds counts grown own m n short is all kind station at place =
    ap (λ l. get_or l at 0) (is ∙ ap (λ l. l ++ replicate n zero) (take_all m counts short))
    ∙ with_zeros counts n at ∙ all kind station at place
