-- The words that lines and arguments have for the kinds of packet (profile).
use Rattle.std.specs.Prelude.{ℕ, List, codes}
use Rattle.its_headers.specs.declared.kind.Kind.{Kind}
use Rattle.its_headers.specs.declared.kind.Kind.TheVariants as kinds

abbrev pub kind_word : Kind → List ℕ
kind_word kinds.Beacon = codes "beacon"
kind_word kinds.Shb = codes "shb"
kind_word kinds.Gbc = codes "gbc"
kind_word kinds.Gac = codes "gac"
