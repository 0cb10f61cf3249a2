-- The verdict on a packet that the station forwarded, by whether it forwarded it before.
use Rattle.std.specs.Prelude.{◌≡◌, ℕ, ◌+◌, ◌*◌, ◌≤◌, ◌<◌, Bool, true, false, ◌&&◌, ◌||◌}
use Rattle.std.specs.Prelude.{nat_lt, if◌then◌else◌, List, Some}
use Rattle.its_model.specs.Packet.{Transmission, number_in}
use Rattle.its_duties.specs.declared.claims.Claims.{Claims}
use Rattle.its_duties.specs.declared.once.RelayAgain.{RelayAgain}
use Rattle.its_duties.specs.declared.once.EarlierRelay.{EarlierRelay}
use Rattle.its_duties.specs.declared.once.EarlierRelay.TheVariants as earlier
use Rattle.its_duties.specs.declared.verdict.Verdict.{Verdict}
use Rattle.its_duties.specs.declared.verdict.Verdict.TheVariants.{Pass, Fail, Inconclusive}
use Rattle.its_duties.specs.declared.verdict.Breach.TheVariants as breaches
use Rattle.its_duties.specs.declared.verdict.Doubt.TheVariants as doubts
use Rattle.its_duties.specs.Seen.{Seen}
use Rattle.its_duties.specs.Times.{wait, slack, life, begin_of}
use Rattle.its_duties.specs.Heard.{has_room, sources_in, NoUnread}
use Rattle.its_duties.specs.Duties.{IsRelayRecord}
use Rattle.its_duties.specs.Forwarding.{others_in, heard_in, relayed_in, IsWhole, table_time}
use Rattle.its_duties.specs.Forwarding.{counted_in, copies_in}
use Rattle.its_duties.specs.Relays.{is_simple}

-- the first reception counts at the second for sure
abbrev pub is_within_life : Claims → (since : ℕ) → Bool
is_within_life k since = nat_lt (since + (wait k + 2 * slack k)) (life k)

-- the station remembers the number for sure, or the packet was heard less often than it was
-- forwarded
abbrev pub is_not_forgotten : Claims → RelayAgain → Bool
is_not_forgotten k a = (a.others_known && nat_lt a.others k.remember) || a.heard_less

abbrev pub breaks_once : Claims → RelayAgain → Bool
breaks_once k a =
    k.steady && k.unbuffered && is_simple k.area && k.received && a.sure
    && is_within_life k a.since && is_not_forgotten k a && has_room k.capacity a.sources
    && a.sources_known

abbrev pub once_verdict : Claims → EarlierRelay → Verdict
once_verdict k earlier.Never = if k.sent then Pass else Inconclusive doubts.FirstTime
once_verdict k earlier.NotSeen = Inconclusive doubts.FirstTime
once_verdict k (earlier.Again a) =
    if breaks_once k a then Fail (breaches.Again a.others)
    else Inconclusive (doubts.Again a.others)

-- Records i and j forwarded packets of one source and number, and this was found of them.
pub record IsAgain (k : Claims) (tap : List Seen) (j : ℕ) (seen : Seen) (frame : Transmission)
    (a : RelayAgain) : Type 0 where
  pub i : ℕ
  pub before : Seen
  pub packet : Transmission
  pub number : ℕ
  pub first : IsRelayRecord k tap i before packet
  pub again : IsRelayRecord k tap j seen frame
  pub earlier : i < j
  pub number_is : (number_in packet.pdu.body ≡ Some number)
      × (number_in frame.pdu.body ≡ Some number)
  pub source : packet.pdu.vector.address ≡ frame.pdu.vector.address
  pub since_is : before.moment + a.since ≡ seen.moment
  pub is_sure : a.sure ≡ true → (before.retried ≡ false) × (seen.retried ≡ false)
  pub others_are : a.others_known ≡ true
      → IsWhole k tap (2 * wait k + 2 * slack k) before.moment
      (counted_in k before.moment seen.moment)
      × (a.others ≡ others_in k frame.pdu.vector.address number
      (counted_in k before.moment seen.moment) tap)
  pub is_heard_less : a.heard_less ≡ true
      → IsWhole k tap (wait k + 2 * slack k) before.moment (copies_in k before.moment seen.moment)
      × (heard_in k frame.pdu.vector.address number (copies_in k before.moment seen.moment) tap
      < relayed_in k frame.pdu.vector.address number
      (record { from = before.moment; to = seen.moment }) tap)
  pub sources_are : a.sources_known ≡ true
      → (a.sources ≡ sources_in k (table_time k before.moment seen.moment) tap)
      × NoUnread k tap (table_time k before.moment seen.moment)
      × (k.fresh ≡ false → begin_of tap + life k + 2 * wait k + 2 * slack k ≤ before.moment)

-- This was found of record j, a packet that the station forwarded.
abbrev pub IsRelayAgain : Claims → List Seen → ℕ → Seen → Transmission → EarlierRelay → Type 0
IsRelayAgain k tap j r t earlier.Never = IsRelayRecord k tap j r t
IsRelayAgain k tap j r t earlier.NotSeen = IsRelayRecord k tap j r t
IsRelayAgain k tap j r t (earlier.Again a) = IsAgain k tap j r t a
