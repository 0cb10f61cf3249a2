-- What the table of moves says.
use Rattle.std.specs.Prelude.{◌≡◌, ◌⊎◌, ℕ, pos, List, [], ◌∷◌, Some, Bool}
use Rattle.std.specs.Int.{bytes_high_first}
use Rattle.its_words.specs.Fields.{FieldValues, AreOctets, IsMissing, IsNumberOr, IsTruthOr}
use Rattle.sim_settings.specs.Tables.{table_values}
use Rattle.its_words.specs.declared.keys.key.Key.TheVariants as keys
use Rattle.sim_settings.specs.Items.{EachItem, items_under}
use Rattle.sim_settings.specs.declared.moves.Moves.{Moves}
use Rattle.toml.specs.Data.{Data, Items, Members, as_integer}

-- the digits under `mid` are those of these octets; or they are 020100000001, where nothing stands
-- there
abbrev pub AreMidOctets : FieldValues → List ℕ → Type 0
AreMidOctets values octets =
    AreOctets values keys.Mid octets
    ⊎ (IsMissing values keys.Mid × (octets ≡ 2 ∷ 1 ∷ 0 ∷ 0 ∷ 0 ∷ 1 ∷ []))

-- the same of the 6 octets of a MID, the highest first
abbrev pub IsMid : FieldValues → ℕ → Type 0
IsMid values mid = AreMidOctets values (bytes_high_first 6 mid)

-- the item is this port
abbrev pub IsPort : Data → ℕ → Type 0
IsPort found port = as_integer found ≡ Some (pos port)

-- the items are these ports
abbrev pub ArePorts : Items → List ℕ → Type 0
ArePorts items ports = EachItem IsPort items ports

-- these ports stand under `ports`; none do where nothing stands there
abbrev pub SaysPorts : Members → List ℕ → Type 0
SaysPorts members ports =
    (items : Items) × (items_under keys.Ports members ≡ Some items) × ArePorts items ports

-- a table says how moves are read: where nothing is said, the run begins at 0, a station leaves
-- after 1000 ms, there is room for 1024 sources, of each of which 8 numbers are remembered, and
-- its stations contend as those of the air do
abbrev pub SaysMoves : Bool → Members → Moves → Type 0
SaysMoves contends members moves =
    IsNumberOr (table_values members) keys.Begin 0 moves.begin
    × IsNumberOr (table_values members) keys.Gone 1000 moves.gone
    × IsMid (table_values members) moves.mid
    × IsNumberOr (table_values members) keys.Capacity 1024 moves.capacity
    × IsNumberOr (table_values members) keys.Remember 8 moves.remember
    × SaysPorts members moves.ports.items
    × IsTruthOr (table_values members) keys.Contention contends moves.contends
