-- All stations that are live at a moment, and what is looked for among them (EN 302 636-4-1 clauses
-- 8 and 10, in this profile).
use Rattle.std.specs.Prelude.{◌≡◌, ℕ, ◌<◌, Bool, true, false, not, ◌&&◌, ◌==◌, nat_lt, nat_le}
use Rattle.std.specs.Prelude.{if◌then◌else◌, List, [], ◌∷◌, Option, Some, None, is_some, find}
use Rattle.std.specs.Prelude.{length}
use Rattle.std.specs.List.{filter_map}
use Rattle.its_gnvalue.specs.Values.{mid_of}
use Rattle.its_model.specs.History.{Reception, Known, is_among, known}

-- an address put into its place in an ascending list that has each address once
abbrev pub put : ℕ → List ℕ → List ℕ
put n [] = n ∷ []
put n (x ∷ xs) = if nat_lt n x then n ∷ x ∷ xs else if n == x then x ∷ xs else x ∷ put n xs

-- the sources of these packets, in ascending order
abbrev pub sources : List Reception → List ℕ
sources [] = []
sources (r ∷ older) = put r.vector.address (sources older)

-- what is known of each live source, in ascending order of their addresses
unfoldable pub stations_at : ℕ → ℕ → List Reception → List Known
stations_at remember moment history =
    filter_map (λ source. known remember source moment history) (sources history)

-- it is known by this address
abbrev pub has_address : ℕ → Known → Bool
has_address source k = source == k.vector.address

-- the one of these that has the address
abbrev pub by_address : ℕ → List Known → Option Known
by_address source stations = find (has_address source) stations

-- it has this link address
abbrev pub has_mid : ℕ → Known → Bool
has_mid mid k = mid_of k.vector.address == mid

-- the one of least address that has the link address
abbrev pub by_mid : ℕ → List Known → Option Known
by_mid mid stations = find (has_mid mid) stations

-- above a low address, if there is one
abbrev pub is_above : Option ℕ → ℕ → Bool
is_above None address = true
is_above (Some low) address = nat_lt low address

-- a neighbour above it
abbrev pub is_next_neighbour : Option ℕ → Known → Bool
is_next_neighbour after k = k.neighbour && is_above after k.vector.address

-- the neighbour of least address above one, or of least address
abbrev pub next_neighbour : Option ℕ → List Known → Option Known
next_neighbour after stations = find (is_next_neighbour after) stations

-- There is no room for a source: it isn't among these, and they are as many as the capacity
-- (profile).
abbrev pub is_full : ℕ → ℕ → List Known → Bool
is_full capacity source stations =
    not (is_some (by_address source stations)) && nat_le capacity (length stations)

-- ---- words of the laws on these lists

-- all addresses are above this one
abbrev pub AllAbove : ℕ → List Known → Type 0
AllAbove address [] = Unit {0}
AllAbove address (k ∷ stations) = (address < k.vector.address) × AllAbove address stations

-- the addresses rise, so none comes twice
abbrev pub Rises : List Known → Type 0
Rises [] = Unit {0}
Rises (k ∷ stations) = AllAbove k.vector.address stations × Rises stations

-- no number comes twice
abbrev pub AreDistinct : List ℕ → Type 0
AreDistinct [] = Unit {0}
AreDistinct (n ∷ ns) = (is_among n ns ≡ false) × AreDistinct ns
