-- A walk over MIDs with a map of those that it met.
use Rattle.std.proofs.Common.{◌≡◌, ◌≢◌, ℕ, ◌+◌, ◌<◌, Bool, true, false, cond, Option, Some, None}
use Rattle.std.proofs.Common.{IsSome, List, [], ◌∷◌, zero, suc, length, take, get_or, slice_index}
use Rattle.std.proofs.Common.{refl, sym, ap, ◌∙◌, subst, arith, tests, eqb, below_more}
use Rattle.std.proofs.lemmas.List.{get_or-map}
use Rattle.its_gnvalue.specs.Values.{mid_of}
use Rattle.its_world.specs.declared.config.Config.{Config}
use Rattle.its_world.specs.Mids.{mids}

-- the map knows each of the first MIDs
abbrev pub Knows : (ℕ → Option ℕ) → List ℕ → ℕ → Type 0
Knows known numbers count = (k : ℕ) → k < count → IsSome (known (slice_index numbers k))

-- no two of the first MIDs are the same
abbrev pub Differ : List ℕ → ℕ → Type 0
Differ numbers count = (i j : ℕ) → i < j → j < count → slice_index numbers i ≢ slice_index numbers j

-- one more MID, which the map does not know
pub differ_more : (known : ℕ → Option ℕ) (numbers : List ℕ) (n : ℕ) → Differ numbers n →
    Knows known numbers n → known (slice_index numbers n) ≡ None → Differ numbers (n + 1)
differ_more known numbers n differ knows absent i j before within =
    below_more (λ k. i < k → slice_index numbers i ≢ slice_index numbers k) n
    (λ k below. λ lower. differ i k lower below)
    (λ lower same.
    let known_here : IsSome (known (slice_index numbers n)) =
    subst (λ mid. IsSome (known mid)) same (knows i lower) in
    let nothing_known : false ≡ true = subst IsSome absent known_here in
    cc)
    j within before

-- what is known, or just told, is known
some_cond : (b : Bool) (v : ℕ) (old : Option ℕ) → IsSome old → IsSome (cond b (Some v) old)
some_cond true v old h = refl
some_cond false v old h = h

some_told : (b : Bool) (v : ℕ) (old : Option ℕ) → b ≡ true → IsSome (cond b (Some v) old)
some_told true v old e = refl
some_told false v old e = cc

-- the map after one more MID was told to it
pub knows_more : (known new : ℕ → Option ℕ) (eq : ℕ → ℕ → Bool) (numbers : List ℕ) (n v : ℕ) →
    ((q : ℕ) → eq q q ≡ true) →
    Knows known numbers n →
    ((q : ℕ) → new q ≡ cond (eq (slice_index numbers n) q) (Some v) (known q)) →
    Knows new numbers (n + 1)
knows_more known new eq numbers n v same knows told =
    below_more (λ k. IsSome (new (slice_index numbers k))) n
    (λ k below.
    let mid = slice_index numbers k in
    subst IsSome (sym (told mid))
    (some_cond (eq (slice_index numbers n) mid) v (known mid) (knows k below)))
    (let mid = slice_index numbers n in
    subst IsSome (sym (told mid)) (some_told (eq mid mid) v (known mid) (same mid)))

-- what the map gives for a MID is the place of that MID among the first
abbrev pub Places : (ℕ → Option ℕ) → List ℕ → ℕ → Type 0
Places known numbers count =
    (mid i : ℕ) → known mid ≡ Some i → (i < count) × (slice_index numbers i ≡ mid)

places_by : (known : ℕ → Option ℕ) (numbers : List ℕ) (n : ℕ) (mid i : ℕ) (b : Bool) →
    (b ≡ true → slice_index numbers n ≡ mid) → Places known numbers n →
    cond b (Some n) (known mid) ≡ Some i → (i < n + 1) × (slice_index numbers i ≡ mid)
places_by known numbers n mid i true same places e =
    let last : n ≡ i = cc in
    (omega (arith, last), subst (λ k. slice_index numbers k ≡ mid) last (same refl))
places_by known numbers n mid i false same places e =
    let earlier = places mid i e in (omega (arith, earlier.0), earlier.1)

pub places_more : (known new : ℕ → Option ℕ) (eq : ℕ → ℕ → Bool) (numbers : List ℕ) (n : ℕ) →
    ((a b : ℕ) → eq a b ≡ true → a ≡ b) →
    Places known numbers n →
    ((q : ℕ) → new q ≡ cond (eq (slice_index numbers n) q) (Some n) (known q)) →
    Places new numbers (n + 1)
places_more known new eq numbers n same places told mid i e =
    places_by known numbers n mid i (eq (slice_index numbers n) mid)
    (same (slice_index numbers n) mid) places
    (sym (told mid) ∙ e)

-- MIDs at the front of a list
pub mids_take : (configs : List Config) (n i : ℕ) → i < n
    → slice_index (mids (take n configs)) i ≡ slice_index (mids configs) i
mids_take [] zero i lt = refl
mids_take [] (suc n) i lt = refl
mids_take (c ∷ configs) zero i lt = absurd (omega arith)
mids_take (c ∷ configs) (suc n) zero lt = refl
mids_take (c ∷ configs) (suc n) (suc i) lt = mids_take configs n i (omega arith)

-- the MID at an index
pub mid_here : (configs : List Config) (n : ℕ) (config : Config) (mid : ℕ) → n < length configs
    → config ≡ get_or configs n config → mid ≡ mid_of config.address
    → slice_index (mids configs) n ≡ mid
mid_here configs n config mid within is value =
    get_or-map (λ (c : Config). mid_of c.address) configs n config 0 within
    ∙ sym (ap (λ (c : Config). mid_of c.address) is) ∙ sym value

-- numbers that a test tells apart
pub told_apart : (a b : ℕ) → eqb a b ≡ false → a ≢ b
told_apart a b h = grind (arith, tests)
