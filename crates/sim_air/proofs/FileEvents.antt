-- The events of a file, and which of them wait.
use Rattle.std.proofs.Common.{◌≡◌, ℕ, ◌<◌, ◌≤◌, List, [], ◌∷◌, ◌++◌, length, get_or, map, refl, sym}
use Rattle.std.proofs.Common.{ap, subst, ◌∙◌, arith, tests, Bool, not, ◌&&◌}
use Rattle.std.specs.Prelude.{◌==◌, All}
use denote.Ref.{Bor}
use Rattle.std.proofs.Common.{◌+◌, take, take_all}
use Rattle.std.proofs.lemmas.List.{append-nil, take_more, map-append, length-map, get_or-map}
use Rattle.std.proofs.lemmas.List.Elements.{filter-append, All-push, All-map}
use Rattle.std.proofs.lemmas.List.Sorted.{All-permutation}
use Rattle.std.specs.List.{filter}
use Rattle.std.specs.List.Sorted.{ties, IsNonDecreasingBy, IsPermutation, IsStableByKey}
use Rattle.std.specs.Ordering.{nat_cmp, is_lt}
use Rattle.sim_scenario.specs.Airs.{moment_of as file_moment}
use Rattle.sim_scenario.specs.declared.events.event.FileEvent.{FileEvent}
use Rattle.sim_scenario.specs.declared.events.event.FileEvent.TheVariants as files
use Rattle.sim_air.specs.Due.{of_moment, AreDue}
use Rattle.sim_air_model.specs.Timetable.{moment_in}
use Rattle.sim_air.specs.FileEvents.{filed_in, filed_of, IsFiledInRange}
use Rattle.sim_air_model.specs.Timetable.{Filed}

-- a line of the file waits at its moment
pub same_moment : (e : FileEvent) → moment_in (filed_of e) ≡ file_moment e
same_moment (files.Happens e) = refl
same_moment (files.Leaves station moment) = refl

-- neither is before the other where both are of one moment
pub ties_at : (a b : ℕ) → (not (is_lt (nat_cmp a b)) && not (is_lt (nat_cmp b a))) ≡ (b == a)
ties_at a b = grind (arith, tests)

-- a moment's events are those that tie with one of it
pub tied : (lt : Bor FileEvent → Bor FileEvent → Bool) (x : Bor FileEvent) (m : ℕ)
    → ((y : Bor FileEvent) → ties lt x y ≡ (moment_in (filed_of y.now) == m))
    → (xs : List (Bor FileEvent)) → of_moment m (filed_in xs) ≡ filed_in (filter (ties lt x) xs)
tied lt x m is [] = refl
tied lt x m is (y ∷ xs) = grind (arith, is y, tied lt x m is xs)

-- one of another moment isn't among them
pub of_another : (m : ℕ) (e : Filed) → m < moment_in e → of_moment m (e ∷ []) ≡ []
of_another m e lt = grind (arith, tests)

-- of the first events those up to a moment wait
pub record Kept (until : ℕ) (due : List (Bor FileEvent)) (events : List FileEvent) (i : ℕ)
    : Type 0 where
  pub within : All (λ e. file_moment e.now ≤ until) due
  pub ranges : All (λ e. IsFiledInRange e.now) due
  pub same : (moment : ℕ) → moment ≤ until → of_moment moment (filed_in due)
      ≡ of_moment moment (map filed_of (take i events))

-- of one event more
front : (events : List FileEvent) (i : ℕ) (e : FileEvent) (m : ℕ) → i < length events
    → e ≡ get_or events i e
    → of_moment m (map filed_of (take (i + 1) events))
    ≡ of_moment m (map filed_of (take i events)) ++ of_moment m (filed_of e ∷ [])
front events i e m lt is =
    ap (λ (l : List FileEvent). of_moment m (map filed_of l))
    (take_more events i e lt ∙ ap (λ (y : FileEvent). take i events ++ y ∷ []) (sym is))
    ∙ ap (of_moment m) (map-append filed_of (take i events) (e ∷ []))
    ∙ filter-append (λ (x : Filed). moment_in x == m) (map filed_of (take i events))
    (filed_of e ∷ [])

pub kept_push : (until : ℕ) (due : List (Bor FileEvent)) (events : List FileEvent) (i : ℕ)
    (x : Bor FileEvent)
    → Kept until due events i → i < length events → x.now ≡ get_or events i x.now
    → file_moment x.now ≤ until → IsFiledInRange x.now
    → Kept until (due ++ x ∷ []) events (i + 1)
kept_push until due events i x k lt is le range =
    record {
      within = All-push (λ (e : Bor FileEvent). file_moment e.now ≤ until) due x k.within le;
      ranges = All-push (λ (e : Bor FileEvent). IsFiledInRange e.now) due x k.ranges range;
      same = λ m below.
          ap (of_moment m) (map-append (λ (e : Bor FileEvent). filed_of e.now) due (x ∷ []))
          ∙ filter-append (λ (e : Filed). moment_in e == m) (filed_in due) (filed_of x.now ∷ [])
          ∙ ap (λ (l : List Filed). l ++ of_moment m (filed_of x.now ∷ [])) (k.same m below)
          ∙ sym (front events i x.now m lt is);
    }

pub kept_skip : (until : ℕ) (due : List (Bor FileEvent)) (events : List FileEvent) (i : ℕ)
    (e : FileEvent)
    → Kept until due events i → i < length events → e ≡ get_or events i e
    → until < file_moment e → Kept until due events (i + 1)
kept_skip until due events i e k lt is past =
    record {
      within = k.within;
      ranges = k.ranges;
      same = λ m below.
          k.same m below
          ∙ sym (append-nil (of_moment m (map filed_of (take i events))))
          ∙ ap (λ (l : List Filed). of_moment m (map filed_of (take i events)) ++ l)
          (sym (of_another m (filed_of e) (late m below)))
          ∙ sym (front events i e m lt is);
    }
  where
    late : (m : ℕ) → m ≤ until → m < moment_in (filed_of e)
    late m below =
        subst (λ n. m < n) (sym (same_moment e)) (omega (arith, past, below))

-- what waits in order is due
pub due_in_order : (until : ℕ) (due sorted : List (Bor FileEvent)) (events : List FileEvent) (i : ℕ)
    → length events ≤ i → Kept until due events i → IsPermutation due sorted
    → IsNonDecreasingBy (λ (e : Bor FileEvent). file_moment e.now) sorted
    → IsStableByKey (λ (e : Bor FileEvent). file_moment e.now) nat_cmp due sorted
    → AreDue (map filed_of events) until (filed_in sorted)
due_in_order until due sorted events i all k moves rises stable =
    record {
      until_then = All-map (λ (e : Filed). moment_in e ≤ until)
          (λ (e : Bor FileEvent). filed_of e.now) sorted
          (λ i d lt. subst (λ n. n ≤ until) (sym (same_moment (get_or sorted i d).now))
          (All-permutation (λ (e : Bor FileEvent). file_moment e.now ≤ until) due sorted moves
          k.within
          i d lt));
      by_moment = λ a b d le lt.
          let f : Bor FileEvent → Filed = λ e. filed_of e.now in
          let lt' : b < length sorted = subst (λ n. b < n) (length-map sorted f) lt in
          let x : Bor FileEvent = one_of 0 in
          subst (λ n. n ≤ moment_in (get_or (map f sorted) b d))
          (sym (ap moment_in (get_or-map f sorted a x d (omega (arith, le, lt')))
          ∙ same_moment (get_or sorted a x).now))
          (subst (λ n. file_moment (get_or sorted a x).now ≤ n)
          (sym (ap moment_in (get_or-map f sorted b x d lt')
          ∙ same_moment (get_or sorted b x).now))
          (rises a b x le lt'));
      as_in_file = λ m below.
          let x = one_of m in
          let lt : Bor FileEvent → Bor FileEvent → Bool =
          λ y z. is_lt (nat_cmp (file_moment y.now) (file_moment z.now)) in
          let here : (y : Bor FileEvent) → ties lt x y ≡ (moment_in (filed_of y.now) == m) =
          λ y. ties_at m (file_moment y.now)
          ∙ ap (λ (n : ℕ). n == m) (sym (same_moment y.now)) in
          tied lt x m here sorted
          ∙ ap filed_in (stable x)
          ∙ sym (tied lt x m here due)
          ∙ k.same m below
          ∙ ap (λ (l : List FileEvent). of_moment m (map filed_of l)) (take_all i events all);
    }
  where
    one_of : ℕ → Bor FileEvent
    one_of m = record { ref_ptr = (0, 0); now = files.Leaves 0 m }
