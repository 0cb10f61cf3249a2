-- The names of the keys of a record, as columns.
use Rattle.std.specs.Prelude.{ℕ, List, codes, Bool, true, false}
use Rattle.cmd_captures.specs.declared.field.Field.{Field}
use Rattle.cmd_captures.specs.declared.field.Field.TheVariants as fields

-- the name of each
abbrev pub field_word : Field → List ℕ
field_word fields.Moment = codes "moment"
field_word fields.From = codes "from"
field_word fields.To = codes "to"
field_word fields.Kind = codes "kind"
field_word fields.Address = codes "address"
field_word fields.Tst = codes "tst"
field_word fields.Lat = codes "lat"
field_word fields.Lon = codes "lon"
field_word fields.Pai = codes "pai"
field_word fields.Speed = codes "speed"
field_word fields.Heading = codes "heading"
field_word fields.Lt = codes "lt"
field_word fields.Tc = codes "tc"
field_word fields.Mobile = codes "mobile"
field_word fields.Hops = codes "hops"
field_word fields.MaxHops = codes "max_hops"
field_word fields.Number = codes "number"
field_word fields.Shape = codes "shape"
field_word fields.Alat = codes "alat"
field_word fields.Alon = codes "alon"
field_word fields.A = codes "a"
field_word fields.B = codes "b"
field_word fields.Angle = codes "angle"
field_word fields.Port = codes "port"
field_word fields.Info = codes "info"
field_word fields.Payload = codes "payload"
field_word fields.Refused = codes "refused"
field_word fields.Record = codes "record"
field_word fields.Interface = codes "interface"
field_word fields.Length = codes "length"
field_word fields.Vlan = codes "vlan"
field_word fields.Rssi = codes "rssi"
field_word fields.Rate = codes "rate"
field_word fields.Cut = codes "cut"
field_word fields.Media = codes "media"
field_word fields.Octets = codes "octets"
field_word fields.Retry = codes "retry"
field_word fields.Psid = codes "psid"
field_word fields.Generated = codes "generated"
field_word fields.Secured = codes "secured"
field_word fields.Outside = codes "outside"
field_word fields.Destination = codes "destination"
field_word fields.Dtst = codes "dtst"
field_word fields.Dlat = codes "dlat"
field_word fields.Dlon = codes "dlon"
field_word fields.Sought = codes "sought"
field_word fields.Next = codes "next"
field_word fields.SourcePort = codes "source_port"

-- whether its value is there only if secured frames are read by their plain part
abbrev pub is_of_secured : Field → Bool
is_of_secured fields.Psid = true
is_of_secured fields.Generated = true
is_of_secured fields.Secured = true
is_of_secured field = false
