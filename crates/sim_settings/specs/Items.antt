-- The items of an array of a document, and what was read of each.
use Rattle.std.specs.Prelude.{◌≡◌, Bool, List, [], ◌∷◌, Option, Some, None, cond}
use Rattle.its_words.specs.Keys.{word_of}
use Rattle.its_words.specs.Fields.{FieldValues}
use Rattle.sim_settings.specs.Tables.{items_of_found, table_values}
use Rattle.its_words.specs.declared.keys.key.Key.{Key}
use Rattle.toml.specs.Data.{Data, Items, no_items, item, Members, no_members, as_table}
use Rattle.toml.specs.Data.{get_member}

-- the items under a key, if an array stands there; none where nothing does
abbrev pub items_under : Key → Members → Option Items
items_under key members = items_of_found (get_member (word_of key) members)

-- the same where this holds, else no items
abbrev pub items_if : Bool → Key → Members → Option Items
items_if is_so key members = cond is_so (items_under key members) (Some no_items)

-- the members of what was found under a key, if it is a table; none where nothing was
abbrev pub members_of_found : Option Data → Option Members
members_of_found None = Some no_members
members_of_found (Some found) = as_table found

-- the same of a key where this holds, else no members
abbrev pub members_if : Bool → Key → Members → Option Members
members_if is_so key members =
    cond is_so (members_of_found (get_member (word_of key) members)) (Some no_members)

-- this holds of each item and the value in its place
abbrev pub EachItem : {X : Type 0} → (Data → X → Type 0) → Items → List X → Type 0
EachItem IsOf no_items [] = Unit {0}
EachItem IsOf no_items (value ∷ values) = ⊥
EachItem IsOf (item found more) [] = ⊥
EachItem IsOf (item found more) (value ∷ values) = IsOf found value × EachItem IsOf more values

-- the item is a table whose keys say this value
abbrev pub SaysItem : {X : Type 0} → (FieldValues → X → Type 0) → Data → X → Type 0
SaysItem Says found value =
    (members : Members) × (as_table found ≡ Some members) × Says (table_values members) value

-- each item is a table whose keys say the value in its place
abbrev pub SayItems : {X : Type 0} → (FieldValues → X → Type 0) → Items → List X → Type 0
SayItems Says items values = EachItem (SaysItem Says) items values
