-- A line of text.
use Rattle.std.specs.Prelude.{◌≡◌, ◌≢◌, ◌++◌, ◌∷◌, [], List, ℕ}
use Rattle.json.specs.Token.{Token}
use Rattle.json.specs.Lex.{tokens}
use Rattle.json.specs.Print.{print}

-- the octets of one JSON value in compact form, which are never empty
pub record IsCompact (octets : List ℕ) : Type 0 where
  pub text : List Token
  pub is_value : tokens (print text) ≡ text
  pub octets_are : octets ≡ print text
  pub some : octets ≢ []

-- such a value, and a line feed
pub record IsLine (line : List ℕ) : Type 0 where
  pub value : List ℕ
  pub is_compact : IsCompact value
  pub line_is : line ≡ value ++ 10 ∷ []
