-- What stands under the words of a table of TOML.
use Rattle.std.specs.Prelude.{Option, Some, None, is_some}
use Rattle.std.specs.Option.{option_and_then}
use Rattle.its_words.specs.Fields.{FieldValues}
use Rattle.toml.specs.Data.{Data, Items, no_items, Members, as_array, as_bool, as_integer}
use Rattle.toml.specs.Data.{as_str, get_member}

-- what stands under the words of a table of TOML
abbrev pub table_values : Members → FieldValues
table_values members =
    record {
      has = λ word. is_some (get_member word members);
      integer = λ word. option_and_then as_integer (get_member word members);
      truth = λ word. option_and_then as_bool (get_member word members);
      text = λ word. option_and_then as_str (get_member word members);
    }

-- the items of what was found under a key, if it is an array; none where nothing was
abbrev pub items_of_found : Option Data → Option Items
items_of_found None = Some no_items
items_of_found (Some found) = as_array found
