-- The verdict on a packet that the station forwarded, by what was found of it among the records
-- that were heard.
use Rattle.std.specs.Prelude.{◌≡◌, ℕ, ◌+◌, ◌*◌, ◌≤◌, Bool, true, false, ◌&&◌, if◌then◌else◌, List}
use Rattle.its_model.specs.Packet.{Transmission}
use Rattle.its_duties.specs.declared.claims.Claims.{Claims}
use Rattle.its_duties.specs.declared.claims.AreaForwarding.{AreaForwarding}
use Rattle.its_duties.specs.declared.claims.AreaForwarding.TheVariants as areas
use Rattle.its_duties.specs.declared.relays.PacketOrigin.{PacketOrigin}
use Rattle.its_duties.specs.declared.relays.PacketOrigin.TheVariants as origins
use Rattle.its_duties.specs.declared.relays.RelaySearch.{RelaySearch}
use Rattle.its_duties.specs.declared.verdict.Verdict.{Verdict}
use Rattle.its_duties.specs.declared.verdict.Verdict.TheVariants.{Pass, Fail, Inconclusive}
use Rattle.its_duties.specs.declared.verdict.Breach.TheVariants as breaches
use Rattle.its_duties.specs.declared.verdict.Doubt.TheVariants as doubts
use Rattle.its_duties.specs.Seen.{Seen}
use Rattle.its_duties.specs.Times.{lies_in, caused_in, wait, slack, begin_of}
use Rattle.its_duties.specs.Heard.{NoUnread}
use Rattle.its_duties.specs.Duties.{IsRelayRecord}
use Rattle.its_duties.specs.Forwarding.{IsSource, MayCause, searched, by_retry}

-- A record that was heard, and from which the packet of record j was made.
pub record IsHeardBefore (k : Claims) (tap : List Seen) (seen : Seen)
    (frame : Transmission) : Type 0 where
  pub number : ℕ
  pub seen_before : Seen
  pub packet : Transmission
  pub is : IsSource k tap number seen_before packet frame
  pub there : lies_in (searched k seen) seen_before ≡ true

-- This was found of record j, a packet that the station forwarded.
pub record IsSearch (k : Claims) (tap : List Seen) (j : ℕ) (seen : Seen) (frame : Transmission)
    (s : RelaySearch) : Type 0 where
  pub is : IsRelayRecord k tap j seen frame
  pub not_heard : s.origin ≡ origins.NotHeard → IsHeardBefore k tap seen frame → ⊥
  pub heard_before : (since : ℕ) → s.origin ≡ origins.Late since → IsHeardBefore k tap seen frame
  pub none_near : (since : ℕ) → s.origin ≡ origins.Late since → (m : ℕ) (r : Seen)
      (u : Transmission) → IsSource k tap m r u frame → MayCause k r seen.moment → ⊥
  pub is_late : s.late ≡ true
      → begin_of tap + wait k + 2 * slack k + by_retry seen.retried ≤ seen.moment
  pub are_read : s.all_read ≡ true → NoUnread k tap (searched k seen)
  pub are_near_read : s.near_read ≡ true → NoUnread k tap (caused_in k seen.moment)
  pub is_sure : s.sure ≡ true → seen.retried ≡ false

-- a packet that was heard, with one hop fewer and nothing else changed (10.3.11.3, 10.3.12.3)
abbrev pub faithful_by : Claims → RelaySearch → PacketOrigin → Verdict
faithful_by k s origins.NotHeard =
    if k.received && k.unbuffered && s.late && s.all_read then Fail breaches.NotFaithful
    else Inconclusive doubts.NotFaithful
faithful_by k s (origins.Late since) = Pass
faithful_by k s (origins.InTime since) = Pass

abbrev pub faithful_verdict : Claims → RelaySearch → Verdict
faithful_verdict k s = faithful_by k s s.origin

-- inside of an area the station is claimed to forward at once
abbrev pub is_simple : AreaForwarding → Bool
is_simple areas.Simple = true
is_simple areas.Other = false

-- at most the longest wait after one that it was made from
abbrev pub in_time_by : Claims → RelaySearch → PacketOrigin → Verdict
in_time_by k s origins.NotHeard = Inconclusive doubts.NeverReceived
in_time_by k s (origins.Late since) =
    if k.received && k.unbuffered && is_simple k.area && s.sure && s.near_read
    then Fail (breaches.Late since) else Inconclusive (doubts.Late since)
in_time_by k s (origins.InTime since) = Pass

abbrev pub in_time_verdict : Claims → RelaySearch → Verdict
in_time_verdict k s = in_time_by k s s.origin
