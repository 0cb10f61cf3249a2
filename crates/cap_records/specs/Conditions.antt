-- Conditions on the frame of a record, of which all, some or none have to hold.
use Rattle.std.specs.Prelude.{ℕ, ◌&&◌, ◌==◌, Bool, true, false, nat_le, min, take, List}
use Rattle.std.specs.Prelude.{Option, Some, None}
use Rattle.its_geometry.specs.Area.{GeoArea, area_holds}
use Rattle.its_gnvalue.specs.Values.{Position}
use Rattle.its_outside.specs.declared.kind.StandardKind.{StandardKind}
use Rattle.its_outside.specs.declared.kind.StandardKind.TheVariants as kinds
use Rattle.cap_records.specs.declared.choosing.Kinds.{Kinds}
use Rattle.cap_records.specs.declared.choosing.Traits.{Traits}
use Rattle.cap_records.specs.declared.condition.Condition.{Condition}
use Rattle.cap_records.specs.declared.condition.Condition.TheVariants as conditions
use Rattle.cap_records.specs.declared.condition.Conditions.{Conditions}

-- whether a kind is one of these
abbrev pub has_kind : Kinds → StandardKind → Bool
has_kind those kinds.Beacon = those.beacon
has_kind those kinds.Guc = those.guc
has_kind those kinds.Gac = those.gac
has_kind those kinds.Gbc = those.gbc
has_kind those kinds.Shb = those.shb
has_kind those kinds.Tsb = those.tsb
has_kind those kinds.LsRequest = those.ls_request
has_kind those kinds.LsReply = those.ls_reply

-- whether a number is in a range, whose ends belong to it
abbrev pub is_between : ℕ → ℕ → ℕ → Bool
is_between least most n = nat_le least n && nat_le n most

-- the same of a number that is there or not
abbrev pub is_number_between : ℕ → ℕ → Option ℕ → Bool
is_number_between least most None = false
is_number_between least most (Some n) = is_between least most n

-- whether there is an area, and it holds the place
abbrev pub has_place : Position → Option GeoArea → Bool
has_place place None = false
has_place place (Some area) = area_holds area place

-- whether a condition holds of a frame
abbrev pub meets_frame : Condition → Traits → Bool
meets_frame (conditions.Kind those) frame = has_kind those frame.kind
meets_frame (conditions.Source source) frame = source == frame.source
meets_frame (conditions.From mac) frame = mac == frame.from
meets_frame (conditions.To mac) frame = mac == frame.to
meets_frame (conditions.Port port) frame = is_number_between port port frame.port
meets_frame (conditions.Hops least most) frame = is_between least most frame.left
meets_frame (conditions.Class class) frame = class == frame.class
meets_frame (conditions.Number least most) frame = is_number_between least most frame.number
meets_frame (conditions.Area place) frame = has_place place frame.area
meets_frame conditions.Refused frame = false

-- whether a condition holds of a record that has no frame: it is rejected
abbrev pub meets_none : Condition → Bool
meets_none (conditions.Kind those) = false
meets_none (conditions.Source source) = false
meets_none (conditions.From mac) = false
meets_none (conditions.To mac) = false
meets_none (conditions.Port port) = false
meets_none (conditions.Hops least most) = false
meets_none (conditions.Class class) = false
meets_none (conditions.Number least most) = false
meets_none (conditions.Area place) = false
meets_none conditions.Refused = true

-- whether a condition holds of a record with this frame, or with none
abbrev pub meets : Condition → Option Traits → Bool
meets condition (Some frame) = meets_frame condition frame
meets condition None = meets_none condition

-- the conditions of a list
abbrev pub listed : Conditions → List Condition
listed those = take (min those.count 16) those.list
