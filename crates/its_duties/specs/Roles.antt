-- What a record is to the station, and which duties are asked of it.
use Rattle.std.specs.Prelude.{◌≡◌, ℕ, Bool, true, false, not, ◌&&◌, ◌||◌, ◌==◌, nat_le}
use Rattle.std.specs.Prelude.{if◌then◌else◌, List, length, Option, Some, None, is_none, slice_get}
use Rattle.std.specs.Option.{option_map}
use Rattle.its_faults.specs.declared.frame.FrameFault.{FrameFault}
use Rattle.its_faults.specs.declared.frame.FrameFault.TheVariants as faults
use Rattle.its_headers.specs.declared.kind.Kind.{Kind}
use Rattle.its_headers.specs.declared.kind.Kind.TheVariants as kinds
use Rattle.its_headers.specs.Fields.{kind_of_body}
use Rattle.its_linkframe.specs.FrameFaults.{IsFrameFault}
use Rattle.its_model.specs.Packet.{Transmission}
use Rattle.its_duties.specs.declared.claims.Claims.{Claims}
use Rattle.its_duties.specs.declared.duty.Duty.{Duty}
use Rattle.its_duties.specs.declared.duty.Duty.TheVariants as duties
use Rattle.its_duties.specs.declared.role.FrameSource.{FrameSource}
use Rattle.its_duties.specs.declared.role.FrameSource.TheVariants.{Frame, NoFrame}
use Rattle.its_duties.specs.declared.role.RecordFacts.{RecordFacts}
use Rattle.its_duties.specs.declared.role.Role.{Role}
use Rattle.its_duties.specs.declared.role.Role.TheVariants as roles
use Rattle.its_duties.specs.Seen.{Seen, number_at, is_number, link_source_of, is_geonetworking}
use Rattle.its_duties.specs.Seen.{is_judged_on, is_own, is_relay, is_unread_sent, is_for_it}
use Rattle.its_duties.specs.Seen.{comes_to_it, is_heard, has_no_type, is_secured}

-- ---- the role of a record

-- Octets that are no frame for this fault may begin with one.
abbrev pub is_longer : FrameFault → Bool
is_longer faults.Short = false
is_longer faults.EtherType = false
is_longer faults.TooLong = true
is_longer (faults.Packet f) = false
is_longer faults.Trailing = true

abbrev pub may_be_longer : FrameSource → Bool
may_be_longer (Frame source) = false
may_be_longer (NoFrame fault) = is_longer fault

-- The station may have processed it, though it isn't read. `longer`: it may begin with a frame.
abbrev pub may_process : Claims → Seen → (longer : Bool) → Bool
may_process k r longer =
    is_none r.frame && comes_to_it k r && is_geonetworking r
    && (not k.profile || r.cut || is_secured r || longer)

-- it sent it, and it is of another type
abbrev pub is_sent_other : Claims → Seen → Bool
is_sent_other k r =
    is_judged_on k.interface r.interface && is_number k.mac (link_source_of r)
    && not (is_geonetworking r)

abbrev pub role_of : Claims → Seen → (longer : Bool) → Role
role_of k r longer =
    if has_no_type r then roles.Untyped
    else if is_own k r then roles.Own
    else if is_relay k r then roles.Forwarded
    else if is_unread_sent k r then roles.SentUnread
    else if is_heard k r then roles.Heard
    else if may_process k r longer then roles.Unread
    else if is_sent_other k r then roles.SentOther
    else roles.Other

-- the station may have sent it, and it isn't read
abbrev pub is_unread_role : Role → Bool
is_unread_role roles.Own = false
is_unread_role roles.Forwarded = false
is_unread_role roles.SentUnread = true
is_unread_role roles.SentOther = false
is_unread_role roles.Heard = false
is_unread_role roles.Unread = false
is_unread_role roles.Untyped = true
is_unread_role roles.Other = false

-- ---- the same by octets

-- this was read of the record
abbrev pub IsFrameIn : Seen → FrameSource → Type 0
IsFrameIn r (Frame source) =
    (t : Transmission) × (r.frame ≡ Some t) × (t.pdu.vector.address ≡ source)
IsFrameIn r (NoFrame fault) =
    (r.frame ≡ None) × (r.cut ≡ false → IsFrameFault r.octets fault)

pub record IsRecord (v : RecordFacts) (octets : List ℕ) (r : Seen) : Type 0 where
  pub interface : v.interface ≡ r.interface
  pub cut : v.cut ≡ r.cut
  pub known_target : v.known_target ≡ r.known_target
  pub octets_are : octets ≡ r.octets
  pub frame : IsFrameIn r v.frame

abbrev pub has_type : List ℕ → Bool
has_type octets = nat_le 14 (length octets)

abbrev pub is_geonetworking_in : List ℕ → Bool
is_geonetworking_in octets = is_number 35143 (number_at 12 2 octets)

abbrev pub is_secured_in : List ℕ → Bool
is_secured_in octets = is_number 18 (slice_get octets 14)

abbrev pub link_target_in : RecordFacts → List ℕ → Option ℕ
link_target_in v octets = if v.known_target then number_at 0 6 octets else None

abbrev pub sent_role : (address : ℕ) → FrameSource → Role
sent_role address (Frame source) = if source == address then roles.Own else roles.Forwarded
sent_role address (NoFrame fault) = roles.SentUnread

abbrev pub sender_role : Claims → RecordFacts → List ℕ → Role
sender_role k v octets =
    if not (is_judged_on k.interface v.interface) then roles.Other
    else if not (is_geonetworking_in octets) then roles.SentOther
    else sent_role k.address v.frame

abbrev pub unread_role : Claims → RecordFacts → List ℕ → FrameFault → Role
unread_role k v octets fault =
    if not (is_geonetworking_in octets) then roles.Other
    else if not k.profile || v.cut || is_secured_in octets || is_longer fault then roles.Unread
    else roles.Other

abbrev pub receiver_role_by : Claims → RecordFacts → List ℕ → FrameSource → Role
receiver_role_by k v octets (Frame source) =
    if source == k.address then roles.Other else roles.Heard
receiver_role_by k v octets (NoFrame fault) = unread_role k v octets fault

abbrev pub role_by : Claims → RecordFacts → List ℕ → Role
role_by k v octets =
    if v.cut && not (has_type octets) then roles.Untyped
    else if is_number k.mac (number_at 6 6 octets) then sender_role k v octets
    else if not (is_for_it k.mac (link_target_in v octets)) then roles.Other
    else receiver_role_by k v octets v.frame

-- ---- which duties are asked

-- the kind of a record, if it is read
abbrev pub kind_seen : Option Transmission → Option Kind
kind_seen frame = option_map (λ t. kind_of_body t.pdu.body) frame

-- it has a sequence number
abbrev pub is_for_area : Option Kind → Bool
is_for_area None = false
is_for_area (Some kinds.Beacon) = false
is_for_area (Some kinds.Shb) = false
is_for_area (Some kinds.Gbc) = true
is_for_area (Some kinds.Gac) = true

abbrev pub is_beacon_kind : Option Kind → Bool
is_beacon_kind None = false
is_beacon_kind (Some kinds.Beacon) = true
is_beacon_kind (Some kinds.Shb) = false
is_beacon_kind (Some kinds.Gbc) = false
is_beacon_kind (Some kinds.Gac) = false

abbrev pub is_anycast_kind : Option Kind → Bool
is_anycast_kind None = false
is_anycast_kind (Some kinds.Beacon) = false
is_anycast_kind (Some kinds.Shb) = false
is_anycast_kind (Some kinds.Gbc) = false
is_anycast_kind (Some kinds.Gac) = true

-- the duties of an own packet
abbrev pub is_own_duty : Duty → Option Kind → Bool
is_own_duty duties.Form kind = true
is_own_duty duties.LinkTarget kind = true
is_own_duty duties.Mobile kind = true
is_own_duty duties.Hops kind = true
is_own_duty duties.Lifetime kind = true
is_own_duty duties.Numbers kind = is_for_area kind
is_own_duty duties.BeaconNotEarly kind = is_beacon_kind kind
is_own_duty duties.AreaTarget kind = is_for_area kind
is_own_duty duties.Faithful kind = false
is_own_duty duties.Kind kind = false
is_own_duty duties.Once kind = false
is_own_duty duties.InTime kind = false
is_own_duty duties.StopsInside kind = false
is_own_duty duties.NextHop kind = false
is_own_duty duties.Forward kind = false

-- Those of a packet that it forwarded. A beacon and a single-hop broadcast are not forwarded at all.
abbrev pub is_relay_duty : Duty → Option Kind → Bool
is_relay_duty duties.Form kind = false
is_relay_duty duties.LinkTarget kind = false
is_relay_duty duties.Mobile kind = false
is_relay_duty duties.Hops kind = false
is_relay_duty duties.Lifetime kind = false
is_relay_duty duties.Numbers kind = false
is_relay_duty duties.BeaconNotEarly kind = false
is_relay_duty duties.AreaTarget kind = false
is_relay_duty duties.Faithful kind = is_for_area kind
is_relay_duty duties.Kind kind = true
is_relay_duty duties.Once kind = is_for_area kind
is_relay_duty duties.InTime kind = is_for_area kind
is_relay_duty duties.StopsInside kind = is_anycast_kind kind
is_relay_duty duties.NextHop kind = is_for_area kind
is_relay_duty duties.Forward kind = false

-- that of a frame that it sent and that isn't read
abbrev pub is_form : Duty → Bool
is_form duties.Form = true
is_form duties.LinkTarget = false
is_form duties.Mobile = false
is_form duties.Hops = false
is_form duties.Lifetime = false
is_form duties.Numbers = false
is_form duties.BeaconNotEarly = false
is_form duties.AreaTarget = false
is_form duties.Faithful = false
is_form duties.Kind = false
is_form duties.Once = false
is_form duties.InTime = false
is_form duties.StopsInside = false
is_form duties.NextHop = false
is_form duties.Forward = false

-- that of a packet that it heard
abbrev pub is_forward : Duty → Bool
is_forward duties.Form = false
is_forward duties.LinkTarget = false
is_forward duties.Mobile = false
is_forward duties.Hops = false
is_forward duties.Lifetime = false
is_forward duties.Numbers = false
is_forward duties.BeaconNotEarly = false
is_forward duties.AreaTarget = false
is_forward duties.Faithful = false
is_forward duties.Kind = false
is_forward duties.Once = false
is_forward duties.InTime = false
is_forward duties.StopsInside = false
is_forward duties.NextHop = false
is_forward duties.Forward = true

-- The duty is asked of a record with this role and this kind.
abbrev pub is_asked : Duty → Role → Option Kind → Bool
is_asked duty roles.Own kind = is_own_duty duty kind
is_asked duty roles.Forwarded kind = is_relay_duty duty kind
is_asked duty roles.SentUnread kind = is_form duty
is_asked duty roles.SentOther kind = false
is_asked duty roles.Heard kind = is_forward duty && is_for_area kind
is_asked duty roles.Unread kind = false
is_asked duty roles.Untyped kind = false
is_asked duty roles.Other kind = false
