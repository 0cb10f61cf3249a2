-- The verdict on a record that the station sent, by what was read of it: its own packets, and the
-- kind of those that it forwarded.
use Rattle.std.specs.Prelude.{◌≡◌, ℕ, ◌+◌, ◌*◌, Bool, true, false, not, ◌&&◌}
use Rattle.std.specs.Prelude.{◌||◌, ◌==◌, nat_le, nat_lt, if◌then◌else◌, List, drop, Option, Some}
use Rattle.std.specs.Prelude.{None, slice_get}
use Rattle.its_faults.specs.declared.frame.FrameFault.{FrameFault}
use Rattle.its_faults.specs.declared.frame.FrameFault.TheVariants as frames
use Rattle.its_faults.specs.declared.packet.FaultKind.{FaultKind}
use Rattle.its_faults.specs.declared.packet.FaultKind.TheVariants as faults
use Rattle.its_gnvalue.specs.Values.{broadcast, lifetime_millis}
use Rattle.its_headers.specs.declared.kind.Kind.{Kind}
use Rattle.its_headers.specs.declared.kind.Kind.TheVariants as kinds
use Rattle.its_headers.specs.Fields.{kind_of_body}
use Rattle.its_linkframe.specs.Frames.{IsFrame}
use Rattle.its_linkframe.specs.FrameFaults.{IsFrameFault}
use Rattle.its_model.specs.Packet.{Transmission, Body}
use Rattle.its_duties.specs.declared.claims.Claims.{Claims}
use Rattle.its_duties.specs.declared.verdict.Verdict.{Verdict}
use Rattle.its_duties.specs.declared.verdict.Verdict.TheVariants.{Pass, Fail, Inconclusive}
use Rattle.its_duties.specs.declared.verdict.Breach.TheVariants as breaches
use Rattle.its_duties.specs.declared.verdict.Doubt.TheVariants as doubts
use Rattle.its_duties.specs.Seen.{number_at, is_number, named_source}
use Rattle.its_duties.specs.Times.{nanos, slack, lag}

-- it is a fail
abbrev pub is_fail : Verdict → Bool
is_fail Pass = false
is_fail (Fail breach) = true
is_fail (Inconclusive doubt) = false

-- ---- the form of an own packet (EN 302 636-4-1 clause 9, EN 302 636-5-1)

-- the payload is longer than this profile reads: itsGnMaxSduSize is the station's own
abbrev pub is_over_long : Option ℕ → Bool
is_over_long None = false
is_over_long (Some length) = nat_lt 1398 length

-- The fault of a packet that no station sends. A kind of packet that is outside of the profile has
-- another fault, and so has a secured one.
abbrev pub breaks_form : FaultKind → List ℕ → Bool
breaks_form faults.Truncated packet = true
breaks_form faults.Version packet = true
breaks_form faults.BasicNext packet = false
breaks_form faults.Reserved packet = true
breaks_form faults.HopZero packet = true
breaks_form faults.CommonNext packet = false
breaks_form faults.HeaderType packet = false
breaks_form faults.SubType packet = false
breaks_form faults.HopAboveMax packet = true
breaks_form faults.PayloadLength packet = not (is_over_long (number_at 8 2 packet))
breaks_form faults.Position packet = true
breaks_form faults.Area packet = true

-- the fault is that the packet is secured
abbrev pub is_next_secured : FaultKind → List ℕ → Bool
is_next_secured faults.Truncated packet = false
is_next_secured faults.Version packet = false
is_next_secured faults.BasicNext packet = is_number 18 (slice_get packet 0)
is_next_secured faults.Reserved packet = false
is_next_secured faults.HopZero packet = false
is_next_secured faults.CommonNext packet = false
is_next_secured faults.HeaderType packet = false
is_next_secured faults.SubType packet = false
is_next_secured faults.HopAboveMax packet = false
is_next_secured faults.PayloadLength packet = false
is_next_secured faults.Position packet = false
is_next_secured faults.Area packet = false

unfoldable pub is_secured_fault : FrameFault → List ℕ → Bool
is_secured_fault frames.Short octets = false
is_secured_fault frames.EtherType octets = false
is_secured_fault frames.TooLong octets = false
is_secured_fault (frames.Packet f) octets = is_next_secured f.kind (drop 14 octets)
is_secured_fault frames.Trailing octets = false

unfoldable pub breaks_frame : FrameFault → List ℕ → Bool
breaks_frame frames.Short octets = false
breaks_frame frames.EtherType octets = false
breaks_frame frames.TooLong octets = false
breaks_frame (frames.Packet f) octets = breaks_form f.kind (drop 14 octets)
breaks_frame frames.Trailing octets = false

-- the verdict on octets that have this first fault, of the station with this address
abbrev pub form_verdict : ℕ → List ℕ → FrameFault → Verdict
form_verdict address octets fault =
    if is_secured_fault fault octets then Inconclusive (doubts.OutsideProfile fault)
    else if not (is_number address (named_source octets)) then Inconclusive (doubts.NotRead fault)
    else if breaks_frame fault octets then Fail (breaches.Form fault)
    else Inconclusive (doubts.OutsideProfile fault)

-- The verdict on the octets of a record that the station sent: pass if they are a frame, otherwise
-- by their first fault; nothing is known if they are cut.
abbrev pub IsFormVerdict : ℕ → Bool → List ℕ → Verdict → Type 0
IsFormVerdict address true octets verdict = verdict ≡ Inconclusive doubts.Cut
IsFormVerdict address false octets Pass = IsFrame octets
IsFormVerdict address false octets (Fail breach) =
    (fault : FrameFault) × IsFrameFault octets fault
    × (Fail breach ≡ form_verdict address octets fault)
IsFormVerdict address false octets (Inconclusive doubt) =
    (fault : FrameFault) × IsFrameFault octets fault
    × (Inconclusive doubt ≡ form_verdict address octets fault)

-- ---- an own packet that was read

-- a beacon or a single-hop broadcast
abbrev pub goes_one_hop : Kind → Bool
goes_one_hop kinds.Beacon = true
goes_one_hop kinds.Shb = true
goes_one_hop kinds.Gbc = false
goes_one_hop kinds.Gac = false

abbrev pub is_single_hop : Body → Bool
is_single_hop body = goes_one_hop (kind_of_body body)

-- a beacon or a single-hop broadcast goes to all (10.3.6.2, 10.3.10.2)
abbrev pub link_target_verdict : Bool → Transmission → Verdict
link_target_verdict known t =
    if not known then Inconclusive doubts.NoLinkTarget
    else if is_single_hop t.pdu.body && not (t.link_target == broadcast)
    then Fail (breaches.LinkTarget t.link_target)
    else Pass

-- two that are both true or both false
abbrev pub is_same : Bool → Bool → Bool
is_same true b = b
is_same false b = not b

-- the mobile bit is the claimed one (clause 9)
abbrev pub mobile_verdict : Option Bool → Transmission → Verdict
mobile_verdict None t = Inconclusive doubts.NoMobile
mobile_verdict (Some mobile) t =
    if is_same t.pdu.mobile mobile then Pass else Fail (breaches.MobileBit t.pdu.mobile)

-- all hops are left: one of one in a beacon and a single-hop broadcast (clause 9)
abbrev pub hops_verdict : Transmission → Verdict
hops_verdict t =
    if t.hops_left == t.pdu.max_hops && (not (is_single_hop t.pdu.body) || t.pdu.max_hops == 1)
    then Pass else Fail (breaches.Hops t.hops_left t.pdu.max_hops)

-- A beacon has the default lifetime. Other packets have one of 1 s to 600 s
-- (itsGnMaxPacketLifetime); the profile sends others too, so no other lifetime is a fail.
abbrev pub is_beacon : Kind → Bool
is_beacon kinds.Beacon = true
is_beacon kinds.Shb = false
is_beacon kinds.Gbc = false
is_beacon kinds.Gac = false

abbrev pub lifetime_verdict_by : Bool → (claimed millis : ℕ) → Verdict
lifetime_verdict_by true claimed millis =
    if millis == claimed then Pass else Fail (breaches.Lifetime millis)
lifetime_verdict_by false claimed millis =
    if nat_le 1000 millis && nat_le millis 600000 then Pass
    else Inconclusive (doubts.LifetimeRange millis)

abbrev pub lifetime_verdict : Claims → Transmission → Verdict
lifetime_verdict k t =
    lifetime_verdict_by (is_beacon (kind_of_body t.pdu.body)) k.lifetime
    (lifetime_millis t.pdu.lifetime)

-- ---- when a beacon comes

-- how far the time between two own packets may be from that between their stamps
abbrev pub doubt_between : Claims → ℕ
doubt_between k = lag k + 2 * slack k

-- A beacon so many nanoseconds after the last packet that puts it off, which isn't so near that the
-- two may have been sent in the other order (10.3.6.2). `sure`: the first sending of both is in the
-- capture. `alone`: no other packet that puts it off is so near to the beacon, none that isn't read
-- lies in the time that is counted.
abbrev pub beacon_verdict : Claims → (since : ℕ) → (sure alone : Bool) → Verdict
beacon_verdict k since sure alone =
    if k.steady && sure && nat_lt (since + doubt_between k) (nanos k.interval)
    then Fail (breaches.BeaconEarly since)
    else if k.sent && alone && nat_le (nanos k.interval + doubt_between k) since then Pass
    else Inconclusive (doubts.BeaconBetween since)

-- ---- the kind of a packet that it forwarded

-- only a packet for an area is forwarded (10.3)
abbrev pub kind_verdict : Transmission → Verdict
kind_verdict t =
    if is_single_hop t.pdu.body then Fail (breaches.Kind (kind_of_body t.pdu.body)) else Pass
