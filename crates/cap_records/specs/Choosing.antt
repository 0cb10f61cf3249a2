-- Which records of a capture are chosen.
use Rattle.std.specs.Prelude.{ℕ, ◌&&◌, ◌||◌, ◌==◌, Bool, true, false, not, nat_le, Option, Some, None}
use Rattle.std.specs.Prelude.{is_none, length}
use Rattle.std.specs.List.{list_all, list_any}
use Rattle.its_headers.specs.declared.kind.Kind.{Kind}
use Rattle.its_headers.specs.declared.kind.Kind.TheVariants as profile
use Rattle.its_outside.specs.declared.kind.StandardKind.{StandardKind}
use Rattle.its_outside.specs.declared.kind.StandardKind.TheVariants as kinds
use Rattle.cap_records.specs.Conditions.{has_kind, listed, meets}
use Rattle.cap_records.specs.declared.choosing.Kinds.{Kinds}
use Rattle.cap_records.specs.declared.choosing.Traits.{Traits}
use Rattle.cap_records.specs.declared.choosing.Choice.{Choice}
use Rattle.cap_records.specs.declared.condition.Conditions.{Conditions}

-- none
abbrev pub no_kinds : Kinds
no_kinds = record {
  beacon = false;
  shb = false;
  gbc = false;
  gac = false;
  guc = false;
  tsb = false;
  ls_request = false;
  ls_reply = false;
}

-- the kind of the standard that a kind of the profile is
abbrev pub standard_kind : Kind → StandardKind
standard_kind profile.Beacon = kinds.Beacon
standard_kind profile.Shb = kinds.Shb
standard_kind profile.Gbc = kinds.Gbc
standard_kind profile.Gac = kinds.Gac

-- the same, and any kind where none is asked for
abbrev pub has_kind_of : Option Kinds → StandardKind → Bool
has_kind_of None kind = true
has_kind_of (Some those) kind = has_kind those kind

-- whether a number is the one that is asked for, if one is
abbrev pub allows : Option ℕ → ℕ → Bool
allows None n = true
allows (Some only) n = only == n

-- the same of a number that is there or not
abbrev pub allows_port : Option ℕ → Option ℕ → Bool
allows_port None port = true
allows_port (Some only) None = false
allows_port (Some only) (Some port) = only == port

-- whether all holds of a frame that is asked of frames
abbrev pub holds : Choice → Traits → Bool
holds choice frame = has_kind_of choice.kinds frame.kind && allows choice.source frame.source
    && allows choice.from frame.from && allows_port choice.port frame.port

-- whether nothing is asked of frames alone
abbrev pub asks_nothing : Choice → Bool
asks_nothing choice = is_none choice.kinds && is_none choice.source && is_none choice.from
    && is_none choice.port

-- whether a frame, or what is none, is chosen whatever its moment
abbrev pub is_chosen_frame : Choice → Option Traits → Bool
is_chosen_frame choice (Some frame) = not choice.refused && holds choice frame
is_chosen_frame choice None = asks_nothing choice

-- whether one of the conditions holds, or there are none
abbrev pub allows_any : Conditions → Option Traits → Bool
allows_any those frame =
    (length (listed those) == 0) || list_any (λ c. meets c frame) (listed those)

-- whether the lists of conditions let a record be chosen, with this frame or with none: all of those
-- hold of which all have to, one of those of which one has to, and none of those that leave out
abbrev pub meets_lists : Choice → Option Traits → Bool
meets_lists choice frame =
    list_all (λ c. meets c frame) (listed choice.all) && allows_any choice.any frame
    && not (list_any (λ c. meets c frame) (listed choice.leaves_out))

-- whether a record of this moment is chosen: all holds that is asked for
abbrev pub is_chosen : Choice → ℕ → Option Traits → Bool
is_chosen choice moment frame =
    (is_chosen_frame choice frame && meets_lists choice frame) && nat_le choice.since moment
    && nat_le moment choice.until

-- the same of a record of which it is known whether it is of another protocol than GeoNetworking, or of
-- a link layer that is not read
abbrev pub selects : Choice → ℕ → Option Traits → Bool → Bool
selects choice moment frame is_other =
    not (choice.skips_others && is_other) && is_chosen choice moment frame
