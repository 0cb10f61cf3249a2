-- What the location table finds, of a station that represents one of the model.
use Rattle.std.proofs.Common.{◌≡◌, ℕ, ◌≤◌, ◌<◌, Bool, true, false, cond, ◌&&◌, ltb, List, []}
use Rattle.std.proofs.Common.{◌∷◌, Some, None, Option, refl, sym, ap, ◌∙◌, subst, arith}
use Rattle.std.proofs.lemmas.Bool.{ltb-true, ltb-false}
use Rattle.std.specs.Option.{option_map}
use Rattle.std.specs.Prelude.{IfSome, IsTrue}
use Rattle.its_gnvalue.specs.Values.{IsIndividual, PositionVector}
use Rattle.its_model.specs.History.{Known, Reception}
use Rattle.its_model.specs.Station.{StationModel}
use Rattle.its_model.specs.Stations.{next_neighbour, stations_at}
use Rattle.its_loctable.specs.Content.{Entry, Represents}
use Rattle.its_station.specs.State.{StationState, RepresentsStation}
use Rattle.its_station.proofs.Stations.{at_model, Represents-later}
use Rattle.its_c.specs.Lookups.{IsMoment, neighbour_above}

-- The first neighbour above a number is the first above a greater one, if it is above that too.
first_above : (low high : ℕ) (ks : List Known) (found : Option Known) → low ≤ high
    → next_neighbour (Some low) ks ≡ found → IfSome found (λ k. high < k.vector.address)
    → next_neighbour (Some high) ks ≡ found
first_above low high [] found le is above = is
first_above low high (k ∷ ks) found le is above =
    by k.neighbour (ltb low k.vector.address) (ltb high k.vector.address) refl refl is
    (λ rest. first_above low high ks found le rest above)
  where
    by : (b c d : Bool) → ltb low k.vector.address ≡ c → ltb high k.vector.address ≡ d
        → cond (b && c) (Some k) (next_neighbour (Some low) ks) ≡ found
        → (next_neighbour (Some low) ks ≡ found → next_neighbour (Some high) ks ≡ found)
        → cond (b && d) (Some k) (next_neighbour (Some high) ks) ≡ found
    by false c d p q is rest = rest is
    by true false false p q is rest = rest is
    by true false true p q is rest =
        let not_low : k.vector.address ≤ low = ltb-false _ _ p in
        let is_high : high < k.vector.address = ltb-true _ _ q in
        absurd (omega (arith, le, not_low, is_high))
    by true true true p q is rest = is
    by true true false p q is rest =
        let not_high : k.vector.address ≤ high = ltb-false _ _ q in
        let is_high : high < k.vector.address =
        subst (λ (o : Option Known). IfSome o (λ x. high < x.vector.address)) (sym is) above in
        absurd (omega (arith, not_high, is_high))

abbrev vector_in : Option Known → Option PositionVector
vector_in found = option_map (λ k. k.vector) found

-- The first neighbour above the greatest address up to a number is the first above the number.
first_above_number : (low number : ℕ) (ks : List Known) (found : Option PositionVector)
    → low ≤ number → ((address : ℕ) → IsIndividual address → low < address → number < address)
    → found ≡ vector_in (next_neighbour (Some low) ks)
    → IfSome found (λ v. IsTrue (ltb low v.address)) → IfSome found (λ v. IsIndividual v.address)
    → found ≡ vector_in (next_neighbour (Some number) ks)
first_above_number low number ks found le gap is above individual =
    by (next_neighbour (Some low) ks) refl is
  where
    by : (first : Option Known) → next_neighbour (Some low) ks ≡ first
        → found ≡ vector_in first → found ≡ vector_in (next_neighbour (Some number) ks)
    by None e is = is ∙ ap vector_in (sym (first_above low number ks None le e tt))
    by (Some k) e is =
        let low_above = subst (λ (o : Option PositionVector).
        IfSome o (λ v. IsTrue (ltb low v.address))) is above in
        let alone = subst (λ (o : Option PositionVector). IfSome o (λ v. IsIndividual v.address))
        is individual in
        let high = gap k.vector.address alone (ltb-true _ _ low_above) in
        is ∙ ap vector_in (sym (first_above low number ks (Some k) le e high))

-- What the table finds above the greatest address up to a number is the model's neighbour above it.
pub neighbour_found : (st : StationState) (m : StationModel) (now low number : ℕ)
    (remember : ℕ) (content : List Entry) (found : Option PositionVector)
    → RepresentsStation st m → IsMoment m now → remember ≡ st.remember → content ≡ st.content
    → ((history : List Reception) → Represents remember content history now
    → found ≡ vector_in (next_neighbour (Some low) (stations_at remember now history)))
    → low ≤ number → ((address : ℕ) → IsIndividual address → low < address → number < address)
    → IfSome found (λ v. IsTrue (ltb low v.address)) → IfSome found (λ v. IsIndividual v.address)
    → found ≡ neighbour_above m now number
neighbour_found st m now low number remember content found rep moment same same_content is le gap
    above individual =
    at_model st (λ (s : StationModel). IsMoment s now → found ≡ neighbour_above s now number)
    (λ ports history past at.
    let later = Represents-later st.remember st.content history st.clock now at.0 past.table in
    let mine = subst (λ (r : ℕ). Represents r content history now) (sym same)
    (subst (λ (es : List Entry). Represents st.remember es history now) (sym same_content) later) in
    let first = first_above_number low number (stations_at remember now history) found le gap
    (is history mine) above individual in
    subst (λ (r : ℕ). found ≡ vector_in (next_neighbour (Some number) (stations_at r now history)))
    same first) m rep moment
