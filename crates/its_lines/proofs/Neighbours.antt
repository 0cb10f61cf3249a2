-- The first neighbours above an address, one after the other.
use Rattle.std.proofs.Common.{◌≡◌, ℕ, suc, ◌<◌, ◌+◌, ◌-◌, ◌++◌, ◌∷◌, [], List, Option}
use Rattle.std.proofs.Common.{Some, refl, sym, subst, arith}
use Rattle.std.proofs.lemmas.List.{append_assoc, append-nil}
use Rattle.its_gnvalue.specs.Values.{PositionVector}
use Rattle.its_model.specs.History.{Known as KnownStation, Reception}
use Rattle.its_model.specs.Station.{StationModel}
use Rattle.its_model.specs.Stations.{stations_at}
use Rattle.its_loctable.specs.Content.{Entry, Represents}
use Rattle.its_station.specs.State.{StationState, RepresentsStation}
use Rattle.its_station.proofs.Stations.{at_model, Represents-later}
use Rattle.its_lines.specs.Knowing.{AreFirst, IsKnownAt, neighbour_above, told_to}

-- what the table finds is what the station of the model has
pub found_above : (st : StationState) (m : StationModel) (now : ℕ) (after : Option ℕ)
    (remember : ℕ) (content : List Entry) (found : Option PositionVector)
    → RepresentsStation st m → IsKnownAt m now → remember ≡ st.remember → content ≡ st.content
    → ((history : List Reception) → Represents remember content history now
    → found ≡ neighbour_above after (stations_at remember now history))
    → found ≡ neighbour_above after (stations_at m.remember now m.history)
found_above st m now after remember content found rep moment same same_content is =
    at_model st (λ (s : StationModel). IsKnownAt s now
    → found ≡ neighbour_above after (stations_at s.remember now s.history))
    (λ ports history past at.
    let later = Represents-later st.remember st.content history st.clock now at.0 past.table in
    let mine = subst (λ (r : ℕ). Represents r content history now) (sym same)
    (subst (λ (es : List Entry). Represents st.remember es history now) (sym same_content) later) in
    subst (λ (r : ℕ). found ≡ neighbour_above after (stations_at r now history)) same
    (is history mine)) m rep moment

-- these are the first above an address, whatever follows them from there on
abbrev pub LeadsTo : Option ℕ → List KnownStation → ℕ → Option ℕ → List PositionVector → Type 0
LeadsTo after stations left last vectors =
    (rest : List PositionVector) → AreFirst left last stations rest
    → AreFirst 32 after stations (vectors ++ rest)

pub leads_more : (after last : Option ℕ) (stations : List KnownStation) (counter : ℕ)
    (vectors : List PositionVector) (vector : PositionVector) → counter < 32
    → LeadsTo after stations (32 - counter) last vectors
    → neighbour_above last stations ≡ Some vector
    → LeadsTo after stations (32 - (counter + 1)) (Some vector.address) (vectors ++ vector ∷ [])
leads_more after last stations counter vectors vector lt before found = λ rest more.
    let one : 32 - counter ≡ suc (32 - (counter + 1)) = omega (arith, lt) in
    subst (λ (vs : List PositionVector). AreFirst 32 after stations vs)
    (sym (append_assoc vectors (vector ∷ []) rest))
    (before (vector ∷ rest)
    (subst (λ (n : ℕ). AreFirst n last stations (vector ∷ rest)) (sym one) (found, more)))

pub leads_end : (after last : Option ℕ) (stations : List KnownStation) (left : ℕ)
    (vectors : List PositionVector) → LeadsTo after stations left last vectors
    → AreFirst left last stations [] → AreFirst 32 after stations vectors
leads_end after last stations left vectors before none =
    subst (λ (vs : List PositionVector). AreFirst 32 after stations vs) (append-nil vectors)
    (before [] none)

pub told_last : (after : Option ℕ) (vectors : List PositionVector) (vector : PositionVector)
    → told_to after (vectors ++ vector ∷ []) ≡ Some vector.address
told_last after [] vector = refl
told_last after (v ∷ vectors) vector = told_last (Some v.address) vectors vector
