-- Rows of numbers in one flat list: what one more number changes of them, and that no two slots
-- share one.
use Rattle.std.proofs.Common.{◌≡◌, ◌≢◌, ℕ, suc, zero, ◌+◌, ◌-◌, ◌*◌, ◌<◌, ◌≤◌, Bool, true, false}
use Rattle.std.proofs.Common.{cond, List, [], ◌∷◌, ◌++◌, All, refl, sym, ap, subst, ◌∙◌, eqb, take}
use Rattle.std.proofs.Common.{drop, set, get_or, length, length-take, length-drop, ⊎_elim, arith}
use Rattle.std.proofs.Common.{count_by, append_assoc, inl, inr, ◌⊎◌}
use Rattle.std.specs.Prelude.{insert}
use Rattle.std.specs.List.{copy_within}
use Rattle.std.proofs.lemmas.Bool.{cases_lt, cases_eq, eq-eqb, ne_eqb, cond-true}
use Rattle.std.proofs.lemmas.Bool.{cond-false}
use Rattle.std.proofs.lemmas.List.{take_all, take_at, drop_at, take-take, take-append-drop}
use Rattle.std.proofs.lemmas.List.{take_more}
use Rattle.std.proofs.lemmas.List.{take-append-le, drop-append-le, drop-drop, set_at, length-append}
use Rattle.std.proofs.lemmas.List.{get_or-drop}
use Rattle.std.proofs.lemmas.List.Sums.{sum_by-cons, get_or-le-sum_by, sum_by_push}
use Rattle.std.proofs.lemmas.List.Sums.{sum_by-insert, sum_by-set}
use Rattle.its_loctable.specs.declared.sorted.slot.SortedSlot.{SortedSlot}
use Rattle.its_loctable.specs.Rows.{numbers_at, IsRow, HasRow, AreOthersKept, AreOwned, put_before}

-- ---- one more number in a row
length_taken : {X : Type 0} (n : ℕ) (xs : List X) → n ≤ length xs → length (take n xs) ≡ n
length_taken n xs le = omega (arith, length-take n xs)

pub put_is : (flat : List ℕ) (start kept n : ℕ) → start + kept < length flat
    → set (take (start + 1) flat ++ (take kept (drop start flat) ++ drop (start + 1 + kept) flat))
    start n ≡ put_before flat start kept n
put_is flat start kept n lt =
    let y = get_or flat start n in
    ap (λ l. set (l ++ (take kept (drop start flat) ++ drop (start + 1 + kept) flat)) start n)
    (take_more flat start n (omega arith))
    ∙ ap (λ l. set l start n) (append_assoc (take start flat) (y ∷ [])
    (take kept (drop start flat) ++ drop (start + 1 + kept) flat))
    ∙ set_at (take start flat) y (take kept (drop start flat) ++ drop (start + 1 + kept) flat) n
    start
    (length_taken start flat (omega arith))
    ∙ ap (λ m. take start flat ++ n ∷ (take kept (drop start flat) ++ drop m flat)) same
  where
    same : start + 1 + kept ≡ start + kept + 1
    same = omega arith

pub put_moved : (flat : List ℕ) (start kept : ℕ)
    → copy_within flat start (start + kept) (start + 1)
    ≡ take (start + 1) flat ++ (take kept (drop start flat) ++ drop (start + 1 + kept) flat)
put_moved flat start kept =
    append_assoc (take (start + 1) flat) (take (start + kept - start) (drop start flat))
    (drop (start + 1 + (start + kept - start)) flat)
    ∙ ap (λ n. take (start + 1) flat ++ (take n (drop start flat) ++ drop (start + 1 + n) flat))
    same
  where
    same : start + kept - start ≡ kept
    same = omega arith

own : (flat : List ℕ) (start kept n : ℕ) → start + kept < length flat
    → take (kept + 1) (drop start (put_before flat start kept n)) ≡ n ∷ take kept (drop start flat)
own flat start kept n lt =
    let long : length (drop start flat) ≡ length flat - start = length-drop start flat in
    let next : kept + 1 ≡ suc kept = omega arith in
    ap (take (kept + 1)) (drop_at (take start flat)
    (n ∷ (take kept (drop start flat) ++ drop (start + kept + 1) flat)) start
    (length_taken start flat (omega arith)))
    ∙ ap (λ m. take m (n ∷ (take kept (drop start flat) ++ drop (start + kept + 1) flat))) next
    ∙ ap (λ l. n ∷ l) (take_at (take kept (drop start flat)) (drop (start + kept + 1) flat) kept
    (length_taken kept (drop start flat) (omega (arith, long))))

-- a row that is full loses its oldest number
pub noted : (flat : List ℕ) (start count kept remember n : ℕ) → start + remember ≤ length flat
    → count ≤ remember → 1 ≤ remember → kept ≤ count → kept ≤ remember - 1
    → (count ≤ remember - 1 → kept ≡ count) → (remember ≤ count → kept + 1 ≡ remember)
    → take (kept + 1) (drop start (put_before flat start kept n))
    ≡ take remember (n ∷ take count (drop start flat))
noted flat start count kept remember n fits le some few fewer whole full =
    own flat start kept n (omega arith)
    ∙ ap (λ l. n ∷ l) (sym same)
    ∙ ap (λ m. take m (n ∷ take count (drop start flat))) next
  where
    next : suc (remember - 1) ≡ remember
    next = omega arith

    long : length (drop start flat) ≡ length flat - start
    long = length-drop start flat

    same : take (remember - 1) (take count (drop start flat)) ≡ take kept (drop start flat)
    same = ⊎_elim
        (λ (e : count ≡ remember). take-take (remember - 1) count (drop start flat)
        (omega (arith, e))
        ∙ ap (λ m. take m (drop start flat)) (omega (arith, e, full (omega (arith, e)))))
        (λ (e : count ≢ remember). take_all (remember - 1) (take count (drop start flat))
        (omega (arith, e, length_taken count (drop start flat) (omega (arith, long))))
        ∙ ap (λ m. take m (drop start flat)) (sym (whole (omega (arith, e)))))
        (cases_eq count remember)

-- what stands before that, and behind it, stays
front : (p r : List ℕ) (m c : ℕ) → m + c ≤ length p
    → take c (drop m (p ++ r)) ≡ take c (drop m p)
front p r m c le =
    ap (take c) (drop-append-le m p r (omega arith))
    ∙ take-append-le c (drop m p) r (omega (arith, length-drop m p))

before : (flat : List ℕ) (start kept n m c : ℕ) → start + kept < length flat → m + c ≤ start
    → take c (drop m (put_before flat start kept n)) ≡ take c (drop m flat)
before flat start kept n m c lt le =
    let long = length_taken start flat (omega arith) in
    front (take start flat) (n ∷ (take kept (drop start flat) ++ drop (start + kept + 1) flat)) m c
    (omega (arith, long))
    ∙ sym (front (take start flat) (drop start flat) m c (omega (arith, long)))
    ∙ ap (λ l. take c (drop m l)) (take-append-drop start flat)

behind : (flat : List ℕ) (start kept n m c : ℕ) → start + kept < length flat
    → start + kept + 1 ≤ m → take c (drop m (put_before flat start kept n)) ≡ take c (drop m flat)
behind flat start kept n m c lt le =
    let first = take start flat ++ n ∷ take kept (drop start flat) in
    let rest = drop (start + kept + 1) flat in
    let long : length first ≡ start + kept + 1 =
    omega (
      arith,
      length-append (take start flat) (n ∷ take kept (drop start flat)),
      length_taken start flat (omega arith),
      length_taken kept (drop start flat) (omega (arith, length-drop start flat)),
    ) in
    let split : m ≡ (start + kept + 1) + (m - (start + kept + 1)) = omega arith in
    let parts : put_before flat start kept n ≡ first ++ rest =
    sym (append_assoc (take start flat) (n ∷ take kept (drop start flat)) rest) in
    ap (take c) (
    (λ i. drop (split i) (parts i))
    ∙ sym (drop-drop (m - (start + kept + 1)) (start + kept + 1) (first ++ rest))
    ∙ ap (drop (m - (start + kept + 1))) (drop_at first rest (start + kept + 1) long)
    ∙ drop-drop (m - (start + kept + 1)) (start + kept + 1) flat
    ∙ ap (λ k. drop k flat) (sym split)
    )

-- ---- rows lie apart
rows_apart : (a b n : ℕ) → a < b → a * n + n ≤ b * n
rows_apart a zero n lt = absurd (omega arith)
rows_apart a (suc b) n lt = ⊎_elim
    (λ (e : a ≡ b). omega (arith, ap (λ k. k * n) e))
    (λ (e : a ≢ b). omega (arith, rows_apart a b n (omega (arith, e))))
    (cases_eq a b)

order : (a b : ℕ) → a ≢ b → (a < b) ⊎ (b < a)
order a b other = ⊎_elim (λ (lt : a < b). inl lt) (λ (le : b ≤ a). inr (omega (arith, other)))
    (cases_lt a b)

pub row_fits : (row capacity n : ℕ) → row < capacity → IsRow n (capacity * n) row
row_fits row capacity n lt = rows_apart row capacity n lt

pub others_kept : (flat : List ℕ) (row kept remember n : ℕ) → IsRow remember (length flat) row
    → kept < remember
    → AreOthersKept remember row flat (put_before flat (row * remember) kept n)
others_kept flat row kept remember n fits lt = λ s other few.
    elim (cases_eq s.row row) [
      | inl e ↦ absurd (other e)
      | inr e ↦ by s few e
    ]
  where
    by : (s : SortedSlot) → s.count ≤ remember → s.row ≢ row
        → numbers_at remember (put_before flat (row * remember) kept n) s
        ≡ numbers_at remember flat s
    by s few other = ⊎_elim
        (λ (e : s.row < row). before flat (row * remember) kept n (s.row * remember) s.count
        (omega arith) (omega (arith, rows_apart s.row row remember e)))
        (λ (e : row < s.row). behind flat (row * remember) kept n (s.row * remember) s.count
        (omega arith) (omega (arith, rows_apart row s.row remember e)))
        (order s.row row other)

-- ---- no two slots have one row
abbrev pub has : ℕ → SortedSlot → ℕ
has row s = cond (eqb s.row row) 1 0

has_one : (row : ℕ) (s : SortedSlot) → s.row ≡ row → has row s ≡ 1
has_one row s e = cond-true (eqb s.row row) 1 0 (eq-eqb s.row row e)

two : (row : ℕ) (xs : List SortedSlot) (i k : ℕ) (d : SortedSlot) → i < k → k < length xs
    → (get_or xs i d).row ≡ row → (get_or xs k d).row ≡ row
    → 2 ≤ count_by (λ (s : SortedSlot). eqb s.row row) xs
two row [] i k d lt within a b = absurd (omega arith)
two row (x ∷ xs) i zero d lt within a b = absurd (omega arith)
two row (x ∷ xs) zero (suc k) d lt within a b =
    omega (
      arith,
      sum_by-cons (has row) x xs,
      has_one row x a,
      get_or-le-sum_by (has row) xs k d (omega arith),
      has_one row (get_or xs k d) b,
    )
two row (x ∷ xs) (suc i) (suc k) d lt within a b =
    omega (
      arith,
      sum_by-cons (has row) x xs,
      two row xs i k d (omega arith) (omega arith) a b,
    )

pub distinct : (xs : List SortedSlot) (free : List ℕ) (i k : ℕ) (d : SortedSlot)
    → AreOwned xs free → i < length xs → k < length xs → k ≢ i
    → (get_or xs k d).row ≢ (get_or xs i d).row
distinct xs free i k d owned iin kin other = λ e.
    elim (order k i other) [
      | inl lt ↦ absurd (omega (
        arith,
        owned (get_or xs i d).row,
        two (get_or xs i d).row xs k i d lt iin e refl,
      ))
      | inr lt ↦ absurd (omega (
        arith,
        owned (get_or xs i d).row,
        two (get_or xs i d).row xs i k d lt kin refl e,
      ))
    ]

-- a row that was free is no slot's
pub none_has : (row : ℕ) (xs : List SortedSlot)
    → count_by (λ (s : SortedSlot). eqb s.row row) xs ≡ 0
    → All (λ (s : SortedSlot). s.row ≢ row) xs
none_has row xs none = λ k d within e.
    absurd (omega (
      arith,
      none,
      get_or-le-sum_by (has row) xs k d within,
      has_one row (get_or xs k d) e,
    ))

abbrev pub one_of : ℕ → ℕ → ℕ
one_of row r = cond (eqb r row) 1 0

free_one : (row r : ℕ) → r ≡ row → one_of row r ≡ 1
free_one row r e = cond-true (eqb r row) 1 0 (eq-eqb r row e)

pub free_other : (row r : ℕ) → r ≢ row → one_of row r ≡ 0
free_other row r e = cond-false (eqb r row) 1 0 (ne_eqb r row e)

pub at_most_one : (row r : ℕ) → one_of row r ≤ 1
at_most_one row r = by (eqb r row)
  where
    by : (b : Bool) → cond b 1 0 ≤ 1
    by true = omega arith
    by false = omega arith

pub popped : (xs : List SortedSlot) (free rest : List ℕ) (row : ℕ) → free ≡ rest ++ row ∷ []
    → AreOwned xs free → All (λ (s : SortedSlot). s.row ≢ row) xs
popped xs free rest row is owned =
    none_has row xs
    (omega (
      arith,
      owned row,
      ap (count_by (λ r. eqb r row)) is,
      sum_by_push (one_of row) rest row,
      free_one row row refl,
    ))

-- the row goes to a new slot
pub inserted : (xs : List SortedSlot) (free rest : List ℕ) (row i : ℕ) (s : SortedSlot)
    → free ≡ rest ++ row ∷ [] → s.row ≡ row → AreOwned xs free → AreOwned (insert xs i s) rest
inserted xs free rest row i s is own owned = λ r.
    omega (
      arith,
      owned r,
      ap (count_by (λ q. eqb q r)) is,
      sum_by_push (one_of r) rest row,
      sum_by-insert (has r) xs i s,
      ap (one_of r) own,
    )

-- a slot that keeps its row
pub replaced : (xs : List SortedSlot) (free : List ℕ) (i : ℕ) (s old : SortedSlot) → i < length xs
    → s.row ≡ old.row → old ≡ get_or xs i old → AreOwned xs free → AreOwned (set xs i s) free
replaced xs free i s old lt same is owned = λ r.
    omega (
      arith,
      owned r,
      sum_by-set (has r) xs i s old lt,
      ap (one_of r) same,
      ap (has r) is,
    )

-- the slot that a walk reads stood there at first
pub read_row : (xs ys : List SortedSlot) (i n len : ℕ) (slot : SortedSlot)
    → drop i ys ≡ drop i xs → i < length ys → length ys ≡ length xs → slot ≡ get_or ys i slot
    → All (HasRow n len) xs → IsRow n len slot.row
read_row xs ys i n len slot rest within long is all =
    let there : slot ≡ get_or xs i slot =
    is ∙ sym (first ys) ∙ ap (λ l. get_or l 0 slot) rest ∙ first xs in
    subst (IsRow n len) (sym (ap (λ (s : SortedSlot). s.row) there))
    (all i slot (omega (arith, long, within))).0
  where
    here : i + 0 ≡ i
    here = omega arith

    first : (l : List SortedSlot) → get_or (drop i l) 0 slot ≡ get_or l i slot
    first l = get_or-drop i l 0 slot ∙ ap (λ m. get_or l m slot) here
