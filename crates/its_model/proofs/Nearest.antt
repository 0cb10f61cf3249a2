-- The next hop is the neighbour of least distance and then least address.
use Rattle.std.proofs.Common.{◌≡◌, ◌⊎◌, ℕ, ◌<◌, ◌≤◌, List, [], ◌∷◌, filter, Bool, true, false, cond}
use Rattle.std.proofs.Common.{◌&&◌, Option, Some, None, ltb, refl, sym, ap, subst, ◌∙◌}
use Rattle.std.proofs.Common.{inl, inr, ⊎_elim, true≢false, arith}
use Rattle.std.proofs.lemmas.Bool.{cases_order, ltb-true, ltb-false, lt-ltb}
use Rattle.its_gnvalue.specs.Values.{Position}
use Rattle.its_model.specs.History.{Reception, Known, known}
use Rattle.its_model.specs.Stations.{stations_at, by_address, AllAbove, Rises}
use Rattle.its_model.specs.Decision.{distance_of, is_nearer, nearer_of, closest, next_hop, Precedes}
use Rattle.its_model.proofs.StationLemmas.{addr, by_address_head, stations_at-Rises}
use Rattle.its_model.proofs.StationLemmas.{by_address-stations_at}
use Rattle.its_model.proofs.StationLaws.{found_in, above_all, stands_behind}

-- it is nearer than the limit, it stands there, and it comes before all others that are nearer
pub record IsNearest (centre : Position) (limit : ℕ) (stations : List Known)
    (k : Known) : Type 0 where
  pub nearer : is_nearer centre limit k ≡ true
  pub stands : by_address (addr k) stations ≡ Some k
  pub least : (s : ℕ) (x : Known) → by_address s stations ≡ Some x → is_nearer centre limit x ≡ true
      → Precedes centre k x

-- what holds of a next hop, or of there being none
abbrev pub NearestFact : Position → ℕ → List Known → Option Known → Type 0
NearestFact centre limit stations None =
    (s : ℕ) (x : Known) → by_address s stations ≡ Some x → is_nearer centre limit x ≡ false
NearestFact centre limit stations (Some k) = IsNearest centre limit stations k

-- one more that is not nearer
passed : (centre : Position) (limit : ℕ) (y : Known) (stations : List Known) (o : Option Known)
    → AllAbove (addr y) stations → is_nearer centre limit y ≡ false
    → NearestFact centre limit stations o → NearestFact centre limit (y ∷ stations) o
passed centre limit y stations None above off h =
    λ s x at. elim (found_in s y stations x at) [
      | inl same ↦ ap (is_nearer centre limit) (sym same)
          ∙ off
      | inr behind ↦ h s x behind
    ]
passed centre limit y stations (Some k) above off h =
    record {
      nearer = h.nearer;
      stands = stands_behind y stations k above h.stands;
      least = λ s x at near. elim (found_in s y stations x at) [
        | inl same ↦ absurd (true≢false (sym near ∙ ap (is_nearer centre limit) (sym same) ∙ off))
        | inr behind ↦ h.least s x behind near
      ];
    }

-- what is the same comes before itself
itself : (centre : Position) (y x : Known) → y ≡ x → Precedes centre y x
itself centre y x same =
    inr (ap (distance_of centre) same, (let e : addr y ≡ addr x = ap addr same in omega (arith, e)))

-- what comes behind one that is not further than the nearest behind it
then : (centre : Position) (y k x : Known) → distance_of centre y ≤ distance_of centre k
    → addr y < addr x → Precedes centre k x → Precedes centre y x
then centre y k x le lt p =
    ⊎_elim (λ (g : distance_of centre k < distance_of centre x). inl (omega arith))
    (λ (g : (distance_of centre k ≡ distance_of centre x) × (addr k ≤ addr x)).
    by le g.0 (cases_order (distance_of centre y) (distance_of centre x))) p
  where
    by : distance_of centre y ≤ distance_of centre k → distance_of centre k ≡ distance_of centre x
        → (distance_of centre y ≡ distance_of centre x) ⊎
        ((distance_of centre y < distance_of centre x) ⊎
        (distance_of centre x < distance_of centre y)) → Precedes centre y x
    by le e o =
        ⊎_elim (λ (q : distance_of centre y ≡ distance_of centre x). inr (q, omega (arith, lt)))
        (λ d. ⊎_elim (λ (l : distance_of centre y < distance_of centre x). inl l)
        (λ (l : distance_of centre x < distance_of centre y). absurd (omega (arith, e))) d) o

-- one more that is nearer
taken : (centre : Position) (limit : ℕ) (y : Known) (stations : List Known) (o : Option Known)
    → AllAbove (addr y) stations → is_nearer centre limit y ≡ true
    → NearestFact centre limit stations o
    → IsNearest centre limit (y ∷ stations) (nearer_of centre y o)
taken centre limit y stations None above on h =
    record {
      nearer = on;
      stands = by_address_head y stations;
      least = λ s x at near.
          elim (found_in s y stations x at) [
            | inl same ↦ itself centre y x same
            | inr behind ↦ absurd
                (true≢false (sym near ∙ h s x behind))
          ];
    }
taken centre limit y stations (Some k) above on h =
    by (ltb (distance_of centre k) (distance_of centre y)) refl
  where
    by : (b : Bool) → ltb (distance_of centre k) (distance_of centre y) ≡ b
        → IsNearest centre limit (y ∷ stations) (cond b k y)
    by true q =
        record {
          nearer = h.nearer;
          stands = stands_behind y stations k above h.stands;
          least = λ s x at near. elim (found_in s y stations x at) [
            | inl same ↦ inl
                (let e : distance_of centre y
                ≡ distance_of centre x = ap (distance_of centre) same in
                omega (arith, e, ltb-true _ _ q))
            | inr behind ↦ h.least s x behind near
          ];
        }
    by false q =
        record {
          nearer = on;
          stands = by_address_head y stations;
          least = λ s x at near. elim (found_in s y stations x at) [
            | inl same ↦ itself centre y x same
            | inr behind ↦ then centre y k x (ltb-false _ _ q)
                (above_all (addr y) s stations x above behind) (h.least s x behind near)
          ];
        }

-- so it is with the next hop
pub next_hop_is : (centre : Position) (limit : ℕ) (stations : List Known) → Rises stations
    → NearestFact centre limit stations (next_hop centre limit stations)
next_hop_is centre limit [] r = λ s x at. cc
next_hop_is centre limit (y ∷ stations) r =
    by (is_nearer centre limit y) refl (next_hop_is centre limit stations r.1)
  where
    by : (b : Bool) → is_nearer centre limit y ≡ b
        → NearestFact centre limit stations (next_hop centre limit stations)
        → NearestFact centre limit (y ∷ stations)
        (closest centre
        (cond b (y ∷ filter (is_nearer centre limit) stations)
        (filter (is_nearer centre limit) stations)))
    by true q h = taken centre limit y stations (next_hop centre limit stations) r.0 q h
    by false q h = passed centre limit y stations (next_hop centre limit stations) r.0 q h

-- ---- among the stations of a history
near_parts : (centre : Position) (limit : ℕ) (k : Known) → is_nearer centre limit k ≡ true
    → (k.neighbour ≡ true) × (distance_of centre k < limit)
near_parts centre limit k h = by k.neighbour (ltb (distance_of centre k) limit) refl refl h
  where
    by : (a b : Bool) → k.neighbour ≡ a → ltb (distance_of centre k) limit ≡ b → (a && b) ≡ true
        → (k.neighbour ≡ true) × (distance_of centre k < limit)
    by true true p q e = (p, ltb-true _ _ q)
    by true false p q e = cc
    by false b p q e = cc

-- a neighbour within the limit
near_both : (centre : Position) (limit : ℕ) (k : Known) → k.neighbour ≡ true
    → distance_of centre k < limit → is_nearer centre limit k ≡ true
near_both centre limit k neighbour lt =
    ap (λ b. b && ltb (distance_of centre k) limit) neighbour
    ∙ lt-ltb (distance_of centre k) limit lt

-- among the stations of a history
fact_of : (remember moment : ℕ) (history : List Reception) (centre : Position) (limit : ℕ)
    (o : Option Known) → next_hop centre limit (stations_at remember moment history) ≡ o
    → NearestFact centre limit (stations_at remember moment history) o
fact_of remember moment history centre limit o is =
    subst (NearestFact centre limit (stations_at remember moment history)) is
    (next_hop_is centre limit (stations_at remember moment history)
    (stations_at-Rises remember moment history))

-- the next hop is known, a neighbour, and nearer
pub nearest_found : (remember moment : ℕ) (history : List Reception) (centre : Position) (limit : ℕ)
    (k : Known) → next_hop centre limit (stations_at remember moment history) ≡ Some k
    → (known remember k.vector.address moment history ≡ Some k) × (k.neighbour ≡ true)
    × (distance_of centre k < limit)
nearest_found remember moment history centre limit k is =
    let f = fact_of remember moment history centre limit (Some k) is in
    let parts = near_parts centre limit k f.nearer in
    (sym (by_address-stations_at remember moment history (addr k)) ∙ f.stands, parts.0, parts.1)

-- no neighbour comes before it
pub nearest_least : (remember moment : ℕ) (history : List Reception) (centre : Position) (limit : ℕ)
    (k other : Known) (source : ℕ)
    → next_hop centre limit (stations_at remember moment history) ≡ Some k
    → known remember source moment history ≡ Some other → other.neighbour ≡ true
    → distance_of centre other < limit → Precedes centre k other
nearest_least remember moment history centre limit k other source is there neighbour lt =
    let f = fact_of remember moment history centre limit (Some k) is in
    f.least source other (by_address-stations_at remember moment history source
    ∙ there) (near_both centre limit other neighbour lt)

-- where there is none, no neighbour is nearer
pub nearest_none : (remember moment : ℕ) (history : List Reception) (centre : Position) (limit : ℕ)
    (other : Known) (source : ℕ)
    → next_hop centre limit (stations_at remember moment history) ≡ None
    → known remember source moment history ≡ Some other → other.neighbour ≡ true
    → limit ≤ distance_of centre other
nearest_none remember moment history centre limit other source is there neighbour =
    let f = fact_of remember moment history centre limit None is in
    let off : is_nearer centre limit other ≡ false =
    f source other (by_address-stations_at remember moment history source ∙ there) in
    ltb-false (distance_of centre other) limit
    (ap (λ b. b && ltb (distance_of centre other) limit) (sym neighbour) ∙ off)
