-- The verdict on a packet by where its station is, seen from the area of the packet: inside of it a
-- geoanycast goes no further (10.3.12.3), and another packet goes to all (Annex D).
use Rattle.std.specs.Prelude.{ℕ, Bool, not, ◌==◌, if◌then◌else◌, Option, Some, None}
use Rattle.its_gnvalue.specs.Values.{broadcast}
use Rattle.its_geometry.specs.Area.{GeoArea}
use Rattle.its_headers.specs.declared.kind.Kind.{Kind}
use Rattle.its_headers.specs.declared.kind.Kind.TheVariants as kinds
use Rattle.its_headers.specs.Fields.{kind_of_body, area_in}
use Rattle.its_model.specs.Packet.{Transmission}
use Rattle.its_duties.specs.declared.claims.Claims.{Claims}
use Rattle.its_duties.specs.declared.places.AreaPosition.{AreaPosition}
use Rattle.its_duties.specs.declared.places.AreaPosition.TheVariants.{Inside, Outside, Unsure}
use Rattle.its_duties.specs.declared.verdict.Verdict.{Verdict}
use Rattle.its_duties.specs.declared.verdict.Verdict.TheVariants.{Pass, Fail, Inconclusive}
use Rattle.its_duties.specs.declared.verdict.Breach.TheVariants as breaches
use Rattle.its_duties.specs.declared.verdict.Doubt.TheVariants as doubts
use Rattle.its_duties.specs.Places.{position_in}
use Rattle.its_duties.specs.Verdicts.{is_fail}
use Rattle.its_duties.specs.Relays.{is_simple}

-- When a packet was decided on isn't known if it was forwarded late.
abbrev pub unless_late : (in_time verdict : Verdict) → Verdict
unless_late in_time verdict =
    if is_fail in_time then Inconclusive doubts.DecidedLate else verdict

-- ---- a geoanycast that was forwarded

abbrev pub stops_inside_by : AreaPosition → Verdict
stops_inside_by Inside = Fail breaches.InsideArea
stops_inside_by Outside = Pass
stops_inside_by Unsure = Inconclusive doubts.PlaceUnsure

-- other packets have no such verdict
abbrev pub anycast_area : Kind → Option GeoArea → Option GeoArea
anycast_area kinds.Beacon area = None
anycast_area kinds.Shb area = None
anycast_area kinds.Gbc area = None
anycast_area kinds.Gac area = area

abbrev pub stops_inside_of : Claims → (in_time : Verdict) → Option GeoArea → Option Verdict
stops_inside_of k in_time None = None
stops_inside_of k in_time (Some area) =
    Some (unless_late in_time (stops_inside_by (position_in k area)))

abbrev pub stops_inside_verdict : Claims → (in_time : Verdict) → Transmission → Option Verdict
stops_inside_verdict k in_time t =
    stops_inside_of k in_time (anycast_area (kind_of_body t.pdu.body) (area_in t.pdu.body))

-- ---- to whom a packet goes

-- inside of the area
abbrev pub inside_verdict : Claims → (target : ℕ) → Verdict
inside_verdict k target =
    if target == broadcast then Pass
    else if is_simple k.area then Fail (breaches.InsideTo target)
    else Inconclusive doubts.InsideToOne

abbrev pub target_by : Claims → (target : ℕ) → AreaPosition → Verdict
target_by k target Inside = inside_verdict k target
target_by k target Outside = Inconclusive doubts.OutsideArea
target_by k target Unsure = Inconclusive doubts.PlaceUnsure

-- `known`: the capture has the link target
abbrev pub target_in : Claims → (known : Bool) → (target : ℕ) → GeoArea → Verdict
target_in k known target area =
    if not known then Inconclusive doubts.NoLinkTarget
    else target_by k target (position_in k area)

-- an own packet, if it has an area
abbrev pub area_target_of : Claims → (known : Bool) → (target : ℕ) → Option GeoArea
    → Option Verdict
area_target_of k known target None = None
area_target_of k known target (Some area) = Some (target_in k known target area)

abbrev pub area_target_verdict : Claims → (known : Bool) → Transmission → Option Verdict
area_target_verdict k known t = area_target_of k known t.link_target (area_in t.pdu.body)

-- one that was forwarded, if it has an area
abbrev pub next_hop_of : Claims → (in_time : Verdict) → (known : Bool) → (target : ℕ)
    → Option GeoArea → Option Verdict
next_hop_of k in_time known target None = None
next_hop_of k in_time known target (Some area) =
    Some (unless_late in_time (target_in k known target area))

abbrev pub next_hop_verdict : Claims → (in_time : Verdict) → (known : Bool) → Transmission
    → Option Verdict
next_hop_verdict k in_time known t =
    next_hop_of k in_time known t.link_target (area_in t.pdu.body)
