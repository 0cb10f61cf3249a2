-- The nearest neighbour, by a bound of all neighbours that one of them reaches.
use Rattle.std.proofs.Common.{◌≡◌, ◌⊎◌, ℕ, suc, ◌<◌, ◌≤◌, ◌^◌, Bool, true, false, cond, not}
use Rattle.std.proofs.Common.{◌&&◌, ◌||◌, List, [], ◌∷◌, All, Option, Some, None, inl, inr}
use Rattle.std.proofs.Common.{is_some, unwrap_or}
use Rattle.std.proofs.Common.{refl, sym, ap, subst, ◌∙◌, eqb, ltb, leb, true≢false, arith}
use Rattle.std.specs.Option.{option_map}
use Rattle.std.proofs.lemmas.Bool.{ltb-true, ltb-false, leb-true, lt-leb, eqb-true, and_parts}
use Rattle.std.proofs.lemmas.Bool.{or_cases}
use Rattle.its_gnvalue.specs.Values.{Position}
use Rattle.its_geometry.specs.Offsets.{squared_distance}
use Rattle.its_model.specs.History.{Reception, Known, known}
use Rattle.its_model.specs.Stations.{stations_at}
use Rattle.its_model.specs.Decision.{distance_of, next_hop, Precedes}
use Rattle.its_model.proofs.Nearest.{nearest_found, nearest_least, nearest_none}
use Rattle.its_model.proofs.StationLemmas.{addr, address-known}
use Rattle.its_loctable.specs.declared.heard.NearestSearch.{NearestSearch}
use Rattle.its_loctable.specs.declared.heard.NearestSearch.TheVariants.{Unknown, NoNeighbour, Found}
use Rattle.its_loctable.specs.declared.sorted.nearest.Nearest.{Nearest}
use Rattle.its_loctable.specs.declared.sorted.slot.SortedSlot.{SortedSlot}
use Rattle.its_loctable.specs.Content.{Represents, entry_at}
use Rattle.its_loctable.specs.Sorted.{known_by, held}
use Rattle.its_loctable.specs.Bound.{precedes, is_first, is_not_below, is_neighbour_at, IsReached}
use Rattle.its_loctable.specs.Nearest.{IsNearest}
use Rattle.its_loctable.proofs.SortedLemmas.{key}

-- what is found among slots that are not below a bound isn't below it
found-not_below : (of : SortedSlot → List ℕ) (n : Nearest) (xs : List SortedSlot) (a t : ℕ)
    (k : Known) → n.since ≤ t → All (λ (s : SortedSlot). is_not_below n s ≡ true) xs
    → entry_at (held of xs) a t ≡ Some k → k.neighbour ≡ true
    → is_first n.neighbour (distance_of n.place k) (addr k) ≡ true
found-not_below of n [] a t k from all is neighbour = absurd (true≢false (sym (ap is_some is)))
found-not_below of n (x ∷ xs) a t k from all is neighbour =
    by (eqb a (key x)) (ltb t x.until) refl is
    (λ rest. found-not_below of n xs a t k from (λ i d within. all (suc i) d (omega arith)) rest
    neighbour)
  where
    here : ltb t x.until ≡ true → known_by of x ≡ k
        → is_first n.neighbour (distance_of n.place k) (addr k) ≡ true
    here live same =
        let near : x.neighbour ≡ true = ap (λ (j : Known). j.neighbour) same ∙ neighbour in
        let late : leb x.until n.since ≡ false =
        lt-leb _ _ (omega (arith, from, ltb-true t x.until live)) in
        subst (λ (j : Known). is_first n.neighbour (distance_of n.place j) (addr j) ≡ true) same
        (sym (λ i. late i || (not (near i)
        || is_first n.neighbour (squared_distance n.place x.vector.place) (key x)))
        ∙ all 0 x (omega arith))

    by : (b d : Bool) → ltb t x.until ≡ d
        → cond b (cond d (Some (known_by of x)) None) (entry_at (held of xs) a t) ≡ Some k
        → (entry_at (held of xs) a t ≡ Some k
        → is_first n.neighbour (distance_of n.place k) (addr k) ≡ true)
        → is_first n.neighbour (distance_of n.place k) (addr k) ≡ true
    by false d live e rest = rest e
    by true false live e rest = absurd (true≢false (sym (ap is_some e)))
    by true true live e rest = here live (ap (λ o. unwrap_or o k) e)

precedes-cases : (n a d b : ℕ) → precedes n a d b ≡ true → (n < d) ⊎ ((n ≡ d) × (a ≤ b))
precedes-cases n a d b h = elim (or_cases (ltb n d) (eqb n d && leb a b) h) [
  | inl less ↦ inl (ltb-true n d less)
  | inr both ↦
      let parts = and_parts (eqb n d) (leb a b) both in
      inr (eqb-true n d parts.0, leb-true a b parts.1)
]

-- two that come before each other, or are the same
same_of : (n a d b : ℕ) → (n < d) ⊎ ((n ≡ d) × (a ≤ b)) → (d < n) ⊎ ((d ≡ n) × (b ≤ a)) → b ≡ a
same_of n a d b (inl p) (inl q) = absurd (omega arith)
same_of n a d b (inl p) (inr q) = absurd (omega (arith, q.0))
same_of n a d b (inr p) (inl q) = absurd (omega (arith, p.0))
same_of n a d b (inr p) (inr q) = omega (arith, p.1, q.1)

no_nearer : (n a d b : ℕ) → (n < d) ⊎ ((n ≡ d) × (a ≤ b)) → n ≤ d
no_nearer n a d b (inl p) = omega arith
no_nearer n a d b (inr p) = omega (arith, p.0)

neighbour-parts : (place : Position) (distance : ℕ) (o : Option Known) (k : Known) → o ≡ Some k
    → is_neighbour_at place distance o ≡ true
    → (k.neighbour ≡ true) × (distance_of place k ≡ distance)
neighbour-parts place distance o k is h =
    let parts = and_parts k.neighbour (eqb (distance_of place k) distance)
    (sym (ap (is_neighbour_at place distance) is) ∙ h) in
    (parts.0, eqb-true _ _ parts.1)

-- a neighbour that no other comes before is the next hop below each limit that it is nearer than
module _ (remember now : ℕ) (history : List Reception) (place : Position) (distance address : ℕ)
    (k : Known) (is : known remember address now history ≡ Some k) (near : k.neighbour ≡ true)
    (at : distance_of place k ≡ distance)
    (least : (s : ℕ) (j : Known) → known remember s now history ≡ Some j → j.neighbour ≡ true
    → precedes distance address (distance_of place j) (addr j) ≡ true) where
  pub nearest-next_hop : (limit : ℕ)
      → option_map addr (next_hop place limit (stations_at remember now history))
      ≡ cond (ltb distance limit) (Some address) None
  nearest-next_hop limit =
      by (next_hop place limit (stations_at remember now history)) (ltb distance limit) refl refl
    where
      own : addr k ≡ address
      own = address-known remember address now history k is

      by : (o : Option Known) (b : Bool)
          → next_hop place limit (stations_at remember now history) ≡ o → ltb distance limit ≡ b
          → option_map addr o ≡ cond b (Some address) None
      by None true none lt =
          absurd (omega (
            arith,
            at,
            ltb-true distance limit lt,
            nearest_none remember now history place limit k address none is near,
          ))
      by None false none lt = refl
      by (Some j) true some lt =
          let found = nearest_found remember now history place limit j some in
          let below = precedes-cases distance address (distance_of place j) (addr j)
          (least (addr j) j found.0 found.1) in
          let first : Precedes place j k =
          nearest_least remember now history place limit j k address some is near
          (omega (arith, at, ltb-true distance limit lt)) in
          ap Some (same_of distance address (distance_of place j) (addr j) below
          (subst (λ n. (distance_of place j < n) ⊎ ((distance_of place j ≡ n) × (addr j ≤ address)))
          at
          (subst (λ n. (distance_of place j < distance_of place k)
          ⊎ ((distance_of place j ≡ distance_of place k) × (addr j ≤ n))) own first)))
      by (Some j) false some lt =
          let found = nearest_found remember now history place limit j some in
          let below = precedes-cases distance address (distance_of place j) (addr j)
          (least (addr j) j found.0 found.1) in
          absurd (omega (
            arith,
            found.2,
            ltb-false distance limit lt,
            no_nearer distance address (distance_of place j) (addr j) below,
          ))

-- without a neighbour there is no next hop
no-next_hop : (remember now : ℕ) (history : List Reception) (place : Position)
    → ((s : ℕ) (j : Known) → known remember s now history ≡ Some j → j.neighbour ≡ true → ⊥)
    → (limit : ℕ) → next_hop place limit (stations_at remember now history) ≡ None
no-next_hop remember now history place absent limit =
    by (next_hop place limit (stations_at remember now history)) refl
  where
    by : (o : Option Known) → next_hop place limit (stations_at remember now history) ≡ o
        → o ≡ None
    by None is = refl
    by (Some j) is =
        let found = nearest_found remember now history place limit j is in
        absurd (absent (addr j) j found.0 found.1)

-- so it is with what a bound of slots says, from its moment on
pub nearest-is : (of : SortedSlot → List ℕ) (remember : ℕ) (n : Nearest) (xs : List SortedSlot)
    (history : List Reception) (now : ℕ) (r : NearestSearch) → n.since ≤ now → now ≤ 2 ^ 62
    → All (λ (s : SortedSlot). is_not_below n s ≡ true) xs
    → Represents remember (held of xs) history now
    → IsReached (λ a. entry_at (held of xs) a now) n r
    → IsNearest n.place (stations_at remember now history) r
nearest-is of remember n xs history now Unknown from small all rep still = tt
nearest-is of remember n xs history now NoNeighbour from small all rep still =
    no-next_hop remember now history n.place
    (λ s j is near. true≢false (sym
    (sym (ap (λ o. is_first o (distance_of n.place j) (addr j)) still)
    ∙ found-not_below of n xs s now j from all (rep.live now s (omega arith) small ∙ is) near)))
nearest-is of remember n xs history now (Found m) from small all rep still = λ limit.
    by limit (entry_at (held of xs) m.address now) refl still.1
  where
    by : (limit : ℕ) (o : Option Known) → entry_at (held of xs) m.address now ≡ o
        → is_neighbour_at n.place m.distance o ≡ true
        → option_map addr (next_hop n.place limit (stations_at remember now history))
        ≡ cond (ltb m.distance limit) (Some m.address) None
    by limit None found h = absurd (true≢false (sym h))
    by limit (Some k) found h =
        let parts = neighbour-parts n.place m.distance (Some k) k refl h in
        nearest-next_hop remember now history n.place m.distance m.address k
        (sym (rep.live now m.address (omega arith) small) ∙ found) parts.0 parts.1
        (λ s j is near.
        sym (ap (λ o. is_first o (distance_of n.place j) (addr j)) still.0)
        ∙ found-not_below of n xs s now j from all (rep.live now s (omega arith) small ∙ is) near)
        limit
