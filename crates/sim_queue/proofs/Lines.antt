-- The line of deliveries beside the heap: its order, and what comes first of both.
use Rattle.std.proofs.Common.{◌≡◌, ℕ, zero, suc, ◌-◌, ◌≤◌, ◌<◌, List, [], ◌∷◌, ◌++◌, length}
use Rattle.std.proofs.Common.{refl, sym, ap}
use Rattle.std.proofs.Common.{◌∙◌, arith, tests, Bool, true, false, subst, ◌&&◌, cond, inl, inr}
use Rattle.std.proofs.Common.{not}
use Rattle.std.specs.Prelude.{slice_index_or, All, count_by, ◌==◌}
use Rattle.std.specs.BinaryHeap.{IsUpperBound, lt_by_cmp}
use Rattle.std.specs.List.{AllByRecursion}
use Rattle.std.specs.List.Sorted.{IsPermutation}
use Rattle.std.proofs.lemmas.List.{append_assoc}
use Rattle.std.proofs.lemmas.List.Elements.{All-from_recursion}
use Rattle.std.proofs.lemmas.List.Sorted.{IsPermutation-append_comm, IsPermutation-append_left}
use Rattle.std.proofs.lemmas.List.Sums.{sum_by-append, sum_by-cons}
use Rattle.std.proofs.lemmas.List.{length-map, map-append}
use Rattle.sim_queue.specs.Counted.{is_kind_at, is_of_kind, is_of_kind_at, number_of}
use Rattle.sim_queue.specs.declared.kinds.Kind.{Kind}
use Rattle.sim_queue.specs.declared.kinds.Kind.TheVariants as kinds
use Rattle.sim_queue.specs.declared.scheduled.AirAction.TheVariants as owns
use Rattle.sim_queue.specs.declared.scheduled.Delivery.{Delivery}
use Rattle.sim_queue.specs.declared.scheduled.Scheduled.{Scheduled}
use Rattle.sim_queue.specs.Line.{StandInLine, IsBehind, IsLineFirst, IsHeapFirst, IsLate}
use Rattle.sim_queue.specs.Line.{IsFrontLate}
use Rattle.sim_queue.specs.Waiting.{delivery_of, in_line, waiting_cmp}
use Rattle.sim_queue.proofs.Counted.{counted_ticks, counted_sends}

-- x is taken after y
abbrev pub lt : Scheduled → Scheduled → Bool
lt x y = lt_by_cmp waiting_cmp x y

not_after : (x y z : Scheduled) → lt x y ≡ false → lt y z ≡ false → lt x z ≡ false
not_after x y z h k = grind (arith, tests)

before_all : (x y z : Scheduled) → lt x y ≡ true → lt x z ≡ false → lt y z ≡ false
before_all x y z h k = grind (arith, tests)

-- ---- the line

bound_push : (y x : Scheduled) (line : List Scheduled) → IsUpperBound waiting_cmp y line
    → lt y x ≡ false → IsUpperBound waiting_cmp y (line ++ x ∷ [])
bound_push y x [] h k = (k, tt)
bound_push y x (z ∷ line) h k = (h.0, bound_push y x line h.1 k)

-- one more stands in line
pub stand_push : (x : Scheduled) (line : List Scheduled) → StandInLine line → IsBehind x line
    → StandInLine (line ++ x ∷ [])
stand_push x [] s b = (tt, tt)
stand_push x (y ∷ line) s b = (bound_push y x line s.0 b.0, stand_push x line s.1 b.1)

-- what isn't taken before the last is behind all
pub behind_last : (y : Scheduled) (line : List Scheduled) (last x : Scheduled)
    → StandInLine (y ∷ line) → last ≡ slice_index_or (y ∷ line) (length line) last
    → lt last x ≡ false → IsBehind x (y ∷ line)
behind_last y [] last x s is h = (subst (λ z. lt z x ≡ false) is h, tt)
behind_last y (z ∷ line) last x s is h =
    let rest = behind_last z line last x s.1 is h in (not_after y z x s.0.0 rest.0, rest)

pub was_false : (b : Bool) → not b ≡ true → b ≡ false
was_false false h = refl
was_false true h = let no : ⊥ = cc in absurd no

-- where a delivery stands in line, so does its event
in_line_at : (line : List Delivery) (n : ℕ) (d : Delivery)
    → slice_index_or (in_line line) n (delivery_of d) ≡ delivery_of (slice_index_or line n d)
in_line_at [] zero d = refl
in_line_at [] (suc n) d = refl
in_line_at (x ∷ line) zero d = refl
in_line_at (x ∷ line) (suc n) d = in_line_at line n d

-- one more stands in line
pub one_more : (line : List Delivery) (d : Delivery)
    → in_line (line ++ d ∷ []) ≡ in_line line ++ delivery_of d ∷ []
one_more line d = map-append delivery_of line (d ∷ [])

-- the first in line
pub front_of : (line : List Delivery) (front : Delivery) → front ≡ slice_index_or line 0 front
    → delivery_of front ≡ slice_index_or (in_line line) 0 (delivery_of front)
front_of line front is = ap delivery_of is ∙ sym (in_line_at line 0 front)

-- there is one in line
pub some_in_line : (line : List Delivery) → 0 < length line → 0 < length (in_line line)
some_in_line line some = let size = length-map line delivery_of in omega (arith, size, some)

-- the same of a line of which the last is looked up
pub behind_all : (line : List Delivery) (last : Delivery) (x : Scheduled)
    → StandInLine (in_line line)
    → 0 < length line → last ≡ slice_index_or line (length line - 1) last
    → lt (delivery_of last) x ≡ false → IsBehind x (in_line line)
behind_all [] last x stand some is h = absurd (omega (arith, some))
behind_all (y ∷ line) last x stand some is h =
    let size = length-map line delivery_of in
    let at : length (y ∷ line) - 1 ≡ length (in_line line) = omega (arith, size) in
    behind_last (delivery_of y) (in_line line) (delivery_of last) x stand
    (ap delivery_of is
    ∙ sym (in_line_at (y ∷ line) (length (y ∷ line) - 1) last)
    ∙ ap (λ n. slice_index_or (in_line (y ∷ line)) n (delivery_of last)) at) h

over_all : (x y : Scheduled) (ys : List Scheduled) → lt x y ≡ false
    → IsUpperBound waiting_cmp y ys → IsUpperBound waiting_cmp x ys
over_all x y [] h k = tt
over_all x y (z ∷ ys) h k = (not_after x y z h k.0, over_all x y ys h k.1)

before_heap : (x y : Scheduled) (heap : List Scheduled) → lt x y ≡ true
    → IsUpperBound waiting_cmp x heap → IsUpperBound waiting_cmp y heap
before_heap x y [] h k = tt
before_heap x y (z ∷ heap) h k = (before_all x y z h k.0, before_heap x y heap h k.1)

-- ---- what moves

-- one more in line
pub moves_line : (x : Scheduled) (heap line : List Scheduled)
    → IsPermutation (x ∷ (heap ++ line)) (heap ++ (line ++ x ∷ []))
moves_line x heap line =
    subst (λ (l : List Scheduled). IsPermutation (x ∷ (heap ++ line)) l)
    (append_assoc heap line (x ∷ [])) (IsPermutation-append_comm (x ∷ []) (heap ++ line))

-- one more on the heap
pub moves_heap : (x : Scheduled) (heap new line : List Scheduled) → IsPermutation (x ∷ heap) new
    → IsPermutation (x ∷ (heap ++ line)) (new ++ line)
moves_heap x heap new line h = IsPermutation-append_left line (x ∷ heap) new h

-- the first in line is taken
pub moves_front : (x : Scheduled) (heap line : List Scheduled)
    → IsPermutation (heap ++ x ∷ line) (x ∷ (heap ++ line))
moves_front x heap line =
    let a = IsPermutation-append_left line (heap ++ x ∷ []) (x ∷ heap)
    (IsPermutation-append_comm heap (x ∷ [])) in
    subst (λ (l : List Scheduled). IsPermutation l (x ∷ (heap ++ line)))
    (append_assoc heap (x ∷ []) line) a

-- the first on the heap is taken
pub moves_top : (x : Scheduled) (heap new line : List Scheduled) → IsPermutation heap (x ∷ new)
    → IsPermutation (heap ++ line) (x ∷ (new ++ line))
moves_top x heap new line h = IsPermutation-append_left line heap (x ∷ new) h

-- ---- what comes first

pub empty : (xs : List Scheduled) → length xs ≤ 0 → xs ≡ []
empty [] h = refl
empty (x ∷ xs) h = absurd (omega (arith, h))

-- the first in line comes before all on the heap
pub line_first : (heap line : List Scheduled) (top front : Scheduled) → 0 < length line
    → front ≡ slice_index_or line 0 front → IsUpperBound waiting_cmp top heap
    → lt top front ≡ true → IsLineFirst heap line
line_first heap [] top front some is bound after = absurd (omega (arith, some))
line_first heap (y ∷ line) top front some is bound after =
    record {
      some = λ none. let size = ap length none in absurd (omega (arith, size));
      first = λ x rest split.
          let same : front ≡ x =
          is ∙ ap (λ (l : List Scheduled). slice_index_or l 0 front) split in
          subst (λ z. IsUpperBound waiting_cmp z heap) same
          (before_heap top front heap after bound);
    }

-- the first on the heap comes before all in line
pub heap_first : (heap line : List Scheduled) (top front : Scheduled) → 0 < length heap
    → top ≡ slice_index_or heap 0 top → front ≡ slice_index_or line 0 front → StandInLine line
    → lt top front ≡ false → IsHeapFirst heap line
heap_first [] line top front some at_top at_front stand after = absurd (omega (arith, some))
heap_first (h ∷ heap) [] top front some at_top at_front stand after =
    record { none = λ is. refl; first = λ x bound. tt }
heap_first (h ∷ heap) (y ∷ line) top front some at_top at_front stand after =
    let before : lt h y ≡ false =
    subst (λ z. lt h z ≡ false) at_front (subst (λ z. lt z front ≡ false) at_top after) in
    record {
      none = λ none. let size = ap length none in absurd (omega (arith, size));
      first = λ x bound. (
        not_after x h y bound.0 before,
        over_all x y line (not_after x h y bound.0 before) stand.0,
      );
    }

-- nothing in line, nothing to come before
pub heap_alone : (heap : List Scheduled) → IsHeapFirst heap []
heap_alone heap = record { none = λ is. refl; first = λ x bound. tt }

pub bound_both : (x : Scheduled) (xs ys : List Scheduled) → IsUpperBound waiting_cmp x xs
    → IsUpperBound waiting_cmp x ys → IsUpperBound waiting_cmp x (xs ++ ys)
bound_both x [] ys h k = k
bound_both x (z ∷ xs) ys h k = (h.0, bound_both x xs ys h.1 k)

-- ---- none before a moment

abbrev AllLate : ℕ → List Scheduled → Type 0
AllLate moment xs = AllByRecursion (λ (y : Scheduled). moment ≤ y.moment) xs

no_later : (x y : Scheduled) → lt x y ≡ false → x.moment ≤ y.moment
no_later x y h = grind (arith, tests)

late_all : (moment : ℕ) (x : Scheduled) (xs : List Scheduled) → moment ≤ x.moment
    → IsUpperBound waiting_cmp x xs → AllLate moment xs
late_all moment x [] le h = tt
late_all moment x (y ∷ xs) le h =
    let a = no_later x y h.0 in (omega (arith, le, a), late_all moment x xs le h.1)

late_both : (moment : ℕ) (xs ys : List Scheduled) → AllLate moment xs → AllLate moment ys
    → AllLate moment (xs ++ ys)
late_both moment [] ys h k = k
late_both moment (x ∷ xs) ys h k = (h.0, late_both moment xs ys h.1 k)

-- where the first of all stands in line
pub late_in_line : (moment : ℕ) (heap line : List Scheduled) → IsLineFirst heap line
    → StandInLine line → IsFrontLate moment line
    → All (λ (y : Scheduled). moment ≤ y.moment) (heap ++ line)
late_in_line moment heap [] first stand late = absurd (first.some refl)
late_in_line moment heap (x ∷ line) first stand late =
    let le = late x line refl in
    All-from_recursion (λ (y : Scheduled). moment ≤ y.moment) (heap ++ x ∷ line)
    (late_both moment heap (x ∷ line) (late_all moment x heap le (first.first x line refl))
    (le, late_all moment x line le stand.0))

-- and where it stands on the heap
pub late_on_heap : (moment : ℕ) (heap line : List Scheduled) → IsHeapFirst heap line
    → IsLate moment heap → All (λ (y : Scheduled). moment ≤ y.moment) (heap ++ line)
late_on_heap moment heap line first (inl none) =
    All-from_recursion (λ (y : Scheduled). moment ≤ y.moment) (heap ++ line)
    (subst (λ (l : List Scheduled). AllLate moment (heap ++ l)) (sym (first.none none))
    (subst (λ (h : List Scheduled). AllLate moment (h ++ [])) (sym none) tt))
late_on_heap moment heap line first (inr late) =
    All-from_recursion (λ (y : Scheduled). moment ≤ y.moment) (heap ++ line)
    (late_both moment heap line (late_all moment late.0 heap late.2 late.1)
    (late_all moment late.0 line late.2 (first.first late.0 late.1)))

-- ---- how many of a kind

-- none in line is of a kind that is counted
none_in_line : (kind : Kind) (station : ℕ) (line : List Delivery)
    → count_by (is_of_kind_at kind station) (in_line line) ≡ 0
none_in_line kind station [] = refl
none_in_line kind station (d ∷ line) =
    let one = sum_by-cons (λ y. cond (is_of_kind_at kind station y) 1 0) (delivery_of d)
    (in_line line) in
    let here : ◌≡◌ {A = ℕ} (cond (is_of_kind_at kind station (delivery_of d)) 1 0) 0 =
    ap (λ (b : Bool). cond b 1 0) (none kind (d.station == station)) in
    let rest = none_in_line kind station line in
    omega (arith, one, here, rest)
  where
    none : (k : Kind) (b : Bool) → is_of_kind k (owns.Deliver d.frame) && b ≡ false
    none kinds.Tick b = refl
    none (kinds.Send number) b = refl

-- so all of a kind are on the heap
pub all_on_heap : (kind : Kind) (station : ℕ) (heap own : List Scheduled) (line : List Delivery)
    → heap ++ in_line line ≡ own
    → count_by (is_of_kind_at kind station) heap ≡ count_by (is_of_kind_at kind station) own
all_on_heap kind station heap own line is =
    let both = sum_by-append (λ y. cond (is_of_kind_at kind station y) 1 0) heap (in_line line) in
    let none = none_in_line kind station line in
    let same = ap (count_by (is_of_kind_at kind station)) is in
    omega (arith, both, none, same)

-- those that are counted by the number of their kind
pub counted_of : (kind : Kind) (station : ℕ) (own : List Scheduled)
    → count_by (is_kind_at (number_of kind) station) own
    ≡ count_by (is_of_kind_at kind station) own
counted_of kinds.Tick station own = counted_ticks station own
counted_of (kinds.Send number) station own = counted_sends number station own
