-- What of a walk over slots goes into a piece.
use Rattle.std.proofs.Common.{◌≡◌, ℕ, suc, zero, ◌+◌, ◌-◌, ◌^◌, ◌<◌, ◌≤◌, Bool, true, false, cond}
use Rattle.std.proofs.Common.{◌&&◌, List, [], ◌∷◌, ◌++◌, Option, refl, sym, ap, ◌∙◌, ltb, map}
use Rattle.std.proofs.Common.{filter}
use Rattle.std.proofs.Common.{take, drop, set, get_or, length, append_assoc, arith, All, subst}
use Rattle.std.proofs.lemmas.Bool.{cond-true, cond-false}
use Rattle.std.proofs.lemmas.List.{take_more_set}
use Rattle.std.proofs.lemmas.List.Elements.{All-nil, All-cons, All-map, All-take}
use Rattle.its_loctable.specs.declared.sorted.slot.SortedSlot.{SortedSlot}
use Rattle.its_model.specs.History.{Reception, Known}
use Rattle.its_model.specs.Stations.{stations_at, is_above, is_next_neighbour}
use Rattle.its_loctable.specs.Content.{Represents}
use Rattle.its_loctable.specs.Sorted.{known_by, bare_known, held, bare, addresses_of}
use Rattle.its_loctable.specs.Sorted.{IsStartAbove}
use Rattle.its_loctable.specs.Pieces.{neighbours_above, first_piece, AreAllAbove}
use Rattle.its_loctable.proofs.ContentLemmas.{ordered-stations_at}
use Rattle.its_loctable.proofs.EagerLemmas.{IsRising, apart-rising}
use Rattle.its_loctable.proofs.ListLemmas.{drop_here, drop_past}
use Rattle.its_loctable.proofs.SortedLemmas.{ordered-held, rising_by, start_from}

-- the live neighbours among slots from a place on
abbrev pub left : ℕ → List SortedSlot → ℕ → List Known
left now slots i =
    map bare_known (filter (λ (s : SortedSlot). ltb now s.until && s.neighbour) (drop i slots))

pub left-live : (now : ℕ) (slots : List SortedSlot) (i : ℕ) (s : SortedSlot) → i < length slots
    → s ≡ get_or slots i s → (ltb now s.until && s.neighbour) ≡ true
    → left now slots i ≡ bare_known s ∷ left now slots (i + 1)
left-live now slots i s lt is passes =
    ap (λ l. map bare_known (filter (λ (s : SortedSlot). ltb now s.until && s.neighbour) l))
    (drop_here slots i s lt is)
    ∙ ap (map bare_known)
    (cond-true (ltb now s.until && s.neighbour)
    (s ∷ filter (λ (s : SortedSlot). ltb now s.until && s.neighbour) (drop (i + 1) slots)) _ passes)

pub left-other : (now : ℕ) (slots : List SortedSlot) (i : ℕ) (s : SortedSlot) → i < length slots
    → s ≡ get_or slots i s → (ltb now s.until && s.neighbour) ≡ false
    → left now slots i ≡ left now slots (i + 1)
left-other now slots i s lt is fails =
    ap (λ l. map bare_known (filter (λ (s : SortedSlot). ltb now s.until && s.neighbour) l))
    (drop_here slots i s lt is)
    ∙ ap (map bare_known)
    (cond-false (ltb now s.until && s.neighbour)
    (s ∷ filter (λ (s : SortedSlot). ltb now s.until && s.neighbour) (drop (i + 1) slots)) _ fails)

pub left-past : (now : ℕ) (slots : List SortedSlot) (i : ℕ) → length slots ≤ i
    → left now slots i ≡ []
left-past now slots i le =
    ap (λ l. map bare_known (filter (λ (s : SortedSlot). ltb now s.until && s.neighbour) l))
    (drop_past slots i le)

-- one more goes into a column of a piece
pub one_more : {X : Type 0} (f : Known → X) (xs : List X) (n : ℕ) (x : X) (k : Known)
    (ks : List Known) → length xs ≡ 32 → n < 32 → x ≡ f k
    → take (n + 1) (set xs n x) ++ map f (take (32 - (n + 1)) ks)
    ≡ take n xs ++ map f (take (32 - n) (k ∷ ks))
one_more f xs n x k ks long room is =
    let more : suc (32 - (n + 1)) ≡ 32 - n = omega arith in
    ap (λ l. l ++ map f (take (32 - (n + 1)) ks))
    (take_more_set xs n x (omega arith) ∙ ap (λ y. take n xs ++ y ∷ []) is)
    ∙ append_assoc (take n xs) (f k ∷ []) (map f (take (32 - (n + 1)) ks))
    ∙ ap (λ m. take n xs ++ map f (take m (k ∷ ks))) more

-- where there is no more room, or no more, the column is whole
append_none : {X : Type 0} (xs : List X) → xs ++ [] ≡ xs
append_none [] = refl
append_none (x ∷ xs) = ap (λ l. x ∷ l) (append_none xs)

take_zero : (n : ℕ) (ks : List Known) → n ≡ 0 → take n ks ≡ []
take_zero n [] e = ap (λ m. take m []) e
take_zero n (k ∷ ks) e = ap (λ m. take m (k ∷ ks)) e

pub whole-full : {X : Type 0} (f : Known → X) (xs : List X) (n : ℕ) (ks : List Known) → n ≡ 32
    → take n xs ≡ take n xs ++ map f (take (32 - n) ks)
whole-full f xs n ks full =
    sym (ap (λ l. take n xs ++ map f l) (take_zero (32 - n) ks (omega arith))
    ∙ append_none (take n xs))

pub whole-end : {X : Type 0} (f : Known → X) (xs : List X) (n : ℕ) (ks : List Known) → ks ≡ []
    → take n xs ≡ take n xs ++ map f (take (32 - n) ks)
whole-end f xs n ks none =
    sym (ap (λ l. take n xs ++ map f (take (32 - n) l)) none
    ∙ ap (λ l. take n xs ++ map f l) (nothing (32 - n))
    ∙ append_none (take n xs))
  where
    nothing : (m : ℕ) → ◌≡◌ {A = List Known} (take m []) []
    nothing zero = refl
    nothing (suc m) = refl

-- ---- the neighbours above an address are those of the slots above it
filter-live : (of : SortedSlot → List ℕ) (p : Known → Bool) (t : ℕ) (xs : List SortedSlot)
    → map (known_by of) (filter (λ (s : SortedSlot). ltb t s.until && p (known_by of s)) xs)
    ≡ filter p (map (known_by of) (filter (λ (s : SortedSlot). ltb t s.until) xs))
filter-live of p t [] = refl
filter-live of p t (x ∷ xs) = by (ltb t x.until) (p (known_by of x)) refl (filter-live of p t xs)
  where
    by : (a b : Bool) → p (known_by of x) ≡ b
        → map (known_by of) (filter (λ (s : SortedSlot). ltb t s.until && p (known_by of s)) xs)
        ≡ filter p (map (known_by of) (filter (λ (s : SortedSlot). ltb t s.until) xs))
        → map (known_by of)
        (cond (a && b) (x ∷ filter (λ (s : SortedSlot). ltb t s.until && p (known_by of s)) xs)
        (filter (λ (s : SortedSlot). ltb t s.until && p (known_by of s)) xs))
        ≡ filter p (map (known_by of)
        (cond a (x ∷ filter (λ (s : SortedSlot). ltb t s.until) xs)
        (filter (λ (s : SortedSlot). ltb t s.until) xs)))
    by true true e rest =
        ap (λ l. known_by of x ∷ l) rest
        ∙ sym (cond-true (p (known_by of x)) (known_by of x ∷ _) _ e)
    by true false e rest = rest ∙ sym (cond-false (p (known_by of x)) (known_by of x ∷ _) _ e)
    by false b e rest = rest

-- filtering for what each of these is, or none is
above_all : (now : ℕ) (after : Option ℕ) (x : SortedSlot) (rest rest' : List SortedSlot) (c : Bool)
    → is_above after x.vector.address ≡ c → rest ≡ rest'
    → cond (ltb now x.until && (x.neighbour && is_above after x.vector.address)) (x ∷ rest') rest'
    ≡ cond (c && (ltb now x.until && x.neighbour)) (x ∷ rest) rest
above_all now after x rest rest' c e same =
    ap (λ d. cond (ltb now x.until && (x.neighbour && d)) (x ∷ rest') rest') e
    ∙ ap (λ l. cond (ltb now x.until && (x.neighbour && c)) (x ∷ l) l) (sym same)
    ∙ ap (λ b. cond b (x ∷ rest) rest) (turned (ltb now x.until) x.neighbour c)
  where
    turned : (a b c : Bool) → (a && (b && c)) ≡ (c && (a && b))
    turned true true true = refl
    turned true true false = refl
    turned true false true = refl
    turned true false false = refl
    turned false b true = refl
    turned false b false = refl

pub filter-start : (now : ℕ) (after : Option ℕ) (xs : List SortedSlot) (i : ℕ) → IsRising (bare xs)
    → IsStartAbove (addresses_of xs) after i
    → filter (λ (s : SortedSlot). ltb now s.until && is_next_neighbour after (bare_known s)) xs
    ≡ filter (λ (s : SortedSlot). ltb now s.until && s.neighbour) (drop i xs)
filter-start now after [] zero h g = refl
filter-start now after [] (suc i) h g = absurd g
filter-start now after (x ∷ xs) zero h g =
    above_all now after x (filter (λ (s : SortedSlot). ltb now s.until && s.neighbour) xs)
    (filter (λ (s : SortedSlot). ltb now s.until && is_next_neighbour after (bare_known s)) xs) true
    g
    (sym (filter-start now after xs 0 h.1 (start_from after x xs h.0 g)))
filter-start now after (x ∷ xs) (suc i) h g =
    above_all now after x
    (filter (λ (s : SortedSlot). ltb now s.until && is_next_neighbour after (bare_known s)) xs)
    (filter (λ (s : SortedSlot). ltb now s.until && is_next_neighbour after (bare_known s)) xs)
    false g.0
    refl
    ∙ filter-start now after xs i h.1 g.1

-- addresses and places are the same whatever the numbers are
column : {X : Type 0} (f : Known → X) (of : SortedSlot → List ℕ) (n : ℕ) (xs : List SortedSlot)
    → ((s : SortedSlot) → f (bare_known s) ≡ f (known_by of s))
    → map f (take n (map bare_known xs)) ≡ map f (take n (map (known_by of) xs))
column f of zero [] same = refl
column f of zero (x ∷ xs) same = refl
column f of (suc n) [] same = refl
column f of (suc n) (x ∷ xs) same = λ i. same x i ∷ column f of n xs same i

pub piece_by : (of : SortedSlot → List ℕ) (xs : List SortedSlot)
    → first_piece (map bare_known xs) ≡ first_piece (map (known_by of) xs)
piece_by of xs = λ i. record {
  addresses = column (λ (k : Known). k.vector.address) of 32 xs (λ s. refl) i;
  places = column (λ (k : Known). k.vector.place) of 32 xs (λ s. refl) i;
}

-- so a walk that begins there finds them
pub left-neighbours : (of : SortedSlot → List ℕ) (remember : ℕ) (after : Option ℕ)
    (xs : List SortedSlot) (history : List Reception) (now i : ℕ) → now ≤ 2 ^ 62
    → IsRising (bare xs) → Represents remember (held of xs) history now
    → IsStartAbove (addresses_of xs) after i → first_piece (left now xs i)
    ≡ first_piece (neighbours_above after (stations_at remember now history))
left-neighbours of remember after xs history now i small rising rep start =
    piece_by of (filter (λ (s : SortedSlot). ltb now s.until && s.neighbour) (drop i xs))
    ∙ ap first_piece (ap (map (known_by of)) (sym (filter-start now after xs i rising start))
    ∙ filter-live of (is_next_neighbour after) now xs
    ∙ ap (filter (is_next_neighbour after))
    (sym (ordered-held of now xs rising)
    ∙ ordered-stations_at remember (held of xs) history now small
    (apart-rising (held of xs) (rising_by of xs rising)) rep))

-- and each of them lies above the address
all_pass : (now : ℕ) (after : Option ℕ) (xs : List SortedSlot)
    → All (λ (k : Known). is_above after k.vector.address ≡ true)
    (map bare_known
    (filter (λ (s : SortedSlot). ltb now s.until && is_next_neighbour after (bare_known s)) xs))
all_pass now after [] = All-nil (λ (k : Known). is_above after k.vector.address ≡ true)
all_pass now after (x ∷ xs) =
    by (ltb now x.until) x.neighbour (is_above after x.vector.address) refl (all_pass now after xs)
  where
    by : (a b d : Bool) → is_above after x.vector.address ≡ d
        → All (λ (k : Known). is_above after k.vector.address ≡ true)
        (map bare_known
        (filter (λ (s : SortedSlot). ltb now s.until && is_next_neighbour after (bare_known s)) xs))
        → All (λ (k : Known). is_above after k.vector.address ≡ true)
        (map bare_known (cond (a && (b && d))
        (x ∷ filter (λ (s : SortedSlot). ltb now s.until && is_next_neighbour after (bare_known s))
        xs)
        (filter (λ (s : SortedSlot). ltb now s.until && is_next_neighbour after (bare_known s))
        xs)))
    by true true true e rest =
        All-cons (λ (k : Known). is_above after k.vector.address ≡ true) (bare_known x)
        (map bare_known
        (filter (λ (s : SortedSlot). ltb now s.until && is_next_neighbour after (bare_known s)) xs))
        e rest
    by true true false e rest = rest
    by true false d e rest = rest
    by false b d e rest = rest

pub left-above : (after : Option ℕ) (xs : List SortedSlot) (now i : ℕ) → IsRising (bare xs)
    → IsStartAbove (addresses_of xs) after i
    → AreAllAbove after (first_piece (left now xs i)).addresses
left-above after xs now i rising start =
    subst (λ l. AreAllAbove after (first_piece (map bare_known l)).addresses)
    (filter-start now after xs i rising start)
    (All-map (λ n. is_above after n ≡ true) (λ (k : Known). k.vector.address) _
    (All-take (λ (k : Known). is_above after k.vector.address ≡ true) 32 _
    (all_pass now after xs)))

-- ---- a piece that is filled by one look-up after the other
pub one_pushed : {X : Type 0} (f : Known → X) (xs : List X) (n : ℕ) (x : X) (k : Known)
    (ks : List Known) → n < 32 → x ≡ f k
    → (xs ++ x ∷ []) ++ map f (take (32 - (n + 1)) ks) ≡ xs ++ map f (take (32 - n) (k ∷ ks))
one_pushed f xs n x k ks room is =
    let more : suc (32 - (n + 1)) ≡ 32 - n = omega arith in
    ap (λ y. (xs ++ y ∷ []) ++ map f (take (32 - (n + 1)) ks)) is
    ∙ append_assoc xs (f k ∷ []) (map f (take (32 - (n + 1)) ks))
    ∙ ap (λ m. xs ++ map f (take m (k ∷ ks))) more

pub none_left : {X : Type 0} (f : Known → X) (xs ys : List X) (n : ℕ) (ks : List Known) → ks ≡ []
    → xs ++ map f (take n ks) ≡ ys → xs ≡ ys
none_left f xs ys n ks none e =
    sym (ap (λ l. xs ++ map f (take n l)) none
    ∙ ap (λ l. xs ++ map f l) (nothing n)
    ∙ append_none xs) ∙ e
  where
    nothing : (m : ℕ) → ◌≡◌ {A = List Known} (take m []) []
    nothing zero = refl
    nothing (suc m) = refl
