-- What a table of the last packets has to keep: a session grows by a packet of its source, and what
-- is known is renewed.
use Rattle.std.proofs.Common.{◌≡◌, ◌≢◌, ℕ, zero, suc, ◌+◌, ◌≤◌, List, [], ◌∷◌, take, Bool, true}
use Rattle.std.proofs.Common.{false, cond, not, ◌||◌, Option, Some, None, eqb, refl, sym, ap}
use Rattle.std.proofs.Common.{subst, ◌∙◌, inl, inr, arith, is_some}
use Rattle.std.specs.Prelude.{is_none, nat_lt}
use Rattle.std.specs.Option.{option_map, option_map_or}
use Rattle.its_model.specs.History.{Reception, Known, entry_life, of_source, unbroken, session}
use Rattle.its_model.specs.History.{is_empty, is_live, fresher, vector_after, current_vector}
use Rattle.its_model.specs.History.{came_directly, is_neighbour, recent_numbers, with_number}
use Rattle.its_model.specs.History.{numbers_of, known_after, known, renewed}
use Rattle.its_model.proofs.NumberTests.{lt_test, eq_test, eqb_same}

-- ---- sessions
pub own_session : (source moment : ℕ) (r : Reception) (history : List Reception)
    → r.vector.address ≡ source
    → session source moment (r ∷ history)
    ≡ cond (nat_lt moment (r.moment + entry_life)) (r ∷ session source r.moment history) []
own_session source moment r history is =
    ap (λ b. unbroken moment (cond b (r ∷ of_source source history) (of_source source history)))
    (ap (λ i. eqb i source) is ∙ eqb_same source)

-- a packet of another source leaves a session
pub other_session : (source moment : ℕ) (r : Reception) (history : List Reception)
    → r.vector.address ≢ source
    → session source moment (r ∷ history) ≡ session source moment history
other_session source moment r history off =
    elim (eq_test r.vector.address source) [
      | inl e ↦ absurd (off e.1)
      | inr e ↦ ap
          (λ b. unbroken moment
          (cond b (r ∷ of_source source history) (of_source source history))) e.0
    ]

-- what is unbroken up to a later moment is the same up to an earlier one
stays : (earlier later : ℕ) (rs : List Reception) → earlier ≤ later
    → not (is_empty (unbroken later rs)) ≡ true → unbroken earlier rs ≡ unbroken later rs
stays earlier later [] le live = refl
stays earlier later (r ∷ rs) le live =
    elim (lt_test later (r.moment + entry_life)) [
      | inl e ↦ elim (lt_test earlier (r.moment + entry_life)) [
        | inl f ↦ ap (λ b. cond b (r ∷ unbroken r.moment rs) []) (f.0 ∙ sym e.0)
        | inr f ↦ absurd (omega (arith, e.1, f.1, le))
      ]
      | inr e ↦ cc
          (subst (λ b. not (is_empty (cond b (r ∷ unbroken r.moment rs) [])) ≡ true) e.0 live)
    ]

-- a session stays as it is until it ends
pub session_stays : (source earlier later : ℕ) (history : List Reception) → earlier ≤ later
    → is_live source later history ≡ true
    → session source earlier history ≡ session source later history
session_stays source earlier later history le live =
    stays earlier later (of_source source history) le live

-- ---- what is known
take_more : (k l : ℕ) (xs : List ℕ) → k ≤ l → take k (take l xs) ≡ take k xs
take_more zero l xs le = refl
take_more (suc k) zero xs le = absurd (omega arith)
take_more (suc k) (suc l) [] le = refl
take_more (suc k) (suc l) (x ∷ xs) le = ap (λ ys. x ∷ ys) (take_more k l xs (omega arith))

-- the last of one more and those that were kept
pub one_more : (count : ℕ) (o : Option ℕ) (xs : List ℕ)
    → take count (with_number o xs) ≡ take count (with_number o (take count xs))
one_more count None xs = sym (take_more count count xs (omega arith))
one_more zero (Some n) xs = refl
one_more (suc k) (Some n) xs = ap (λ ys. n ∷ ys) (sym (take_more k (suc k) xs (omega arith)))

-- or nothing
or_nothing : (b : Bool) → (b || false) ≡ b
or_nothing true = refl
or_nothing false = refl

-- what is known after one more packet of a session
renewed_after : (remember : ℕ) (r : Reception) (older : List Reception)
    → known_after remember (r ∷ older) ≡ Some (renewed remember (known_after remember older) r)
renewed_after remember r [] =
    ap (λ b. Some (record {
      vector = r.vector;
      neighbour = b;
      numbers = take remember (with_number r.number []);
    }))
    (or_nothing (is_none r.number))
renewed_after remember r (x ∷ older) =
    ap (λ ns. Some (record {
      vector = fresher r.vector (vector_after (x ∷ older));
      neighbour =
          is_none r.number || came_directly (x ∷ older);
      numbers = ns;
    }))
    (one_more remember r.number (numbers_of (x ∷ older)))

-- the same where the session goes on, and where it is over
either : (b : Bool) (remember : ℕ) (r : Reception) (older : List Reception)
    → known_after remember (cond b (r ∷ older) [])
    ≡ cond b (Some (renewed remember (known_after remember older) r)) None
either true remember r older = renewed_after remember r older
either false remember r older = refl

-- what is known of a source after a packet of it
pub known_own : (remember source moment : ℕ) (r : Reception) (history : List Reception)
    → r.vector.address ≡ source
    → known remember source moment (r ∷ history)
    ≡ cond (nat_lt moment (r.moment + entry_life))
    (Some (renewed remember (known remember source r.moment history) r)) None
unfolding known
known_own remember source moment r history is =
    ap (known_after remember) (own_session source moment r history is)
    ∙ either (nat_lt moment (r.moment + entry_life)) remember r
    (session source r.moment history)

-- what is known of a source after a packet of another
pub known_other : (remember source moment : ℕ) (r : Reception) (history : List Reception)
    → r.vector.address ≢ source
    → known remember source moment (r ∷ history) ≡ known remember source moment history
unfolding known
known_other remember source moment r history off =
    ap (known_after remember) (other_session source moment r history off)

-- both in one equation
pub known-cons : (remember source moment : ℕ) (r : Reception) (history : List Reception)
    → known remember source moment (r ∷ history)
    ≡ cond (eqb r.vector.address source)
    (cond (nat_lt moment (r.moment + entry_life))
    (Some (renewed remember (known remember source r.moment history) r)) None)
    (known remember source moment history)
known-cons remember source moment r history =
    let own = cond (nat_lt moment (r.moment + entry_life))
    (Some (renewed remember (known remember source r.moment history) r)) None in
    elim (eq_test r.vector.address source) [
      | inl e ↦ known_own remember source moment r history e.1
          ∙ ap (λ b. cond b own (known remember source moment history)) (sym e.0)
      | inr e ↦ known_other remember source moment r history e.1
          ∙ ap (λ b. cond b own (known remember source moment history)) (sym e.0)
    ]

-- what is known stays until the session ends
pub known_stays : (remember source earlier later : ℕ) (history : List Reception) → earlier ≤ later
    → is_live source later history ≡ true
    → known remember source earlier history ≡ known remember source later history
unfolding known
known_stays remember source earlier later history le live =
    ap (known_after remember) (session_stays source earlier later history le live)

-- nothing is known without a packet
pub known_nothing : (remember source moment : ℕ) → known remember source moment [] ≡ None
unfolding known
known_nothing remember source moment = refl

-- something is known of a source exactly where it is live
after_some : (remember : ℕ) (rs : List Reception)
    → is_some (known_after remember rs) ≡ not (is_empty rs)
after_some remember [] = refl
after_some remember (r ∷ rs) = refl

-- the same of a source at a moment
pub is_some-known : (remember source moment : ℕ) (history : List Reception)
    → is_some (known remember source moment history) ≡ is_live source moment history
unfolding known
is_some-known remember source moment history = after_some remember (session source moment history)

-- ---- what is known has the vector, the mark and the numbers of a session
after_vector : (remember : ℕ) (rs : List Reception)
    → option_map (λ (k : Known). k.vector) (known_after remember rs) ≡ vector_after rs
after_vector remember [] = refl
after_vector remember (r ∷ rs) = refl

-- the same of the mark
after_mark : (remember : ℕ) (rs : List Reception)
    → option_map_or (λ (k : Known). k.neighbour) (known_after remember rs) false ≡ came_directly rs
after_mark remember [] = refl
after_mark remember (r ∷ rs) = refl

-- no numbers of none
none_taken : (n : ℕ) → [] ≡ take n (numbers_of [])
none_taken zero = refl
none_taken (suc n) = refl

-- the same of the numbers
after_numbers : (remember : ℕ) (rs : List Reception)
    → option_map_or (λ (k : Known). k.numbers) (known_after remember rs) []
    ≡ take remember (numbers_of rs)
after_numbers remember [] = none_taken remember
after_numbers remember (r ∷ rs) = refl

-- the vector that is known of a source
pub vector-known : (remember source moment : ℕ) (history : List Reception)
    → option_map (λ (k : Known). k.vector) (known remember source moment history)
    ≡ current_vector source moment history
unfolding known
vector-known remember source moment history = after_vector remember (session source moment history)

-- whether it is known as a neighbour
pub neighbour-known : (remember source moment : ℕ) (history : List Reception)
    → option_map_or (λ (k : Known). k.neighbour) (known remember source moment history) false
    ≡ is_neighbour source moment history
unfolding known
neighbour-known remember source moment history = after_mark remember (session source moment history)

-- the numbers that are known of it
pub numbers-known : (remember source moment : ℕ) (history : List Reception)
    → option_map_or (λ (k : Known). k.numbers) (known remember source moment history) []
    ≡ recent_numbers remember source moment history
unfolding known
numbers-known remember source moment history =
    after_numbers remember (session source moment history)
