-- The kinds of packet of the standard (EN 302 636-4-1 clause 9).
use Rattle.std.specs.Prelude.{ℕ, List, codes}
use Rattle.its_outside.specs.declared.kind.StandardKind.{StandardKind}
use Rattle.its_outside.specs.declared.kind.StandardKind.TheVariants as kinds
use Rattle.its_outside.specs.declared.fields.ExtendedFields.{ExtendedFields}
use Rattle.its_outside.specs.declared.fields.ExtendedFields.TheVariants as extended

-- the words that lines have for them (profile)
abbrev pub standard_word : StandardKind → List ℕ
standard_word kinds.Beacon = codes "beacon"
standard_word kinds.Guc = codes "guc"
standard_word kinds.Gac = codes "gac"
standard_word kinds.Gbc = codes "gbc"
standard_word kinds.Shb = codes "shb"
standard_word kinds.Tsb = codes "tsb"
standard_word kinds.LsRequest = codes "ls-request"
standard_word kinds.LsReply = codes "ls-reply"

-- the kind of packet that has these fields
abbrev pub kind_of_extended : ExtendedFields → StandardKind
kind_of_extended extended.Beacon = kinds.Beacon
kind_of_extended (extended.Guc s d) = kinds.Guc
kind_of_extended (extended.Gac s a) = kinds.Gac
kind_of_extended (extended.Gbc s a) = kinds.Gbc
kind_of_extended (extended.Shb media) = kinds.Shb
kind_of_extended (extended.Tsb s) = kinds.Tsb
kind_of_extended (extended.LsRequest s sought) = kinds.LsRequest
kind_of_extended (extended.LsReply s d) = kinds.LsReply
