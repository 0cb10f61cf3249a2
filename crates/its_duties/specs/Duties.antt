-- The duties, and on which records of a tap each of them fails.
use Rattle.std.specs.Prelude.{◌≡◌, ◌≢◌, ℕ, ◌+◌, ◌<◌, true, false, List, Some, None}
use Rattle.std.specs.Prelude.{slice_get, ◌⊎◌}
use Rattle.its_gnvalue.specs.Values.{mid_of}
use Rattle.its_model.specs.Packet.{Transmission}
use Rattle.its_model.specs.Packet.Body.{beacon}
use Rattle.its_duties.specs.declared.claims.Claims.{Claims}
use Rattle.its_duties.specs.declared.claims.AreaForwarding.TheVariants as areas
use Rattle.its_duties.specs.declared.claims.NonAreaForwarding.TheVariants as elsewheres
use Rattle.its_duties.specs.declared.claims.SequenceModulus.TheVariants as moduli
use Rattle.its_duties.specs.declared.duty.Duty.{Duty}
use Rattle.its_duties.specs.declared.duty.Duty.TheVariants as duties
use Rattle.its_duties.specs.declared.verdict.Verdict.{Verdict}
use Rattle.its_duties.specs.Seen.{Seen, is_sent}
use Rattle.its_duties.specs.Scenario.{Scenario, Explains}
use Rattle.its_duties.specs.Verdicts.{is_fail, IsFormVerdict}
use Rattle.its_duties.specs.Verdicts.{beacon_verdict, kind_verdict}
use Rattle.its_duties.specs.Verdicts.{doubt_between}

-- the number that lines show after the letter D
abbrev pub number_of : Duty → ℕ
number_of duties.Form = 1
number_of duties.LinkTarget = 2
number_of duties.Mobile = 3
number_of duties.Hops = 4
number_of duties.Lifetime = 5
number_of duties.Numbers = 6
number_of duties.BeaconNotEarly = 10
number_of duties.AreaTarget = 12
number_of duties.Faithful = 13
number_of duties.Kind = 14
number_of duties.Once = 15
number_of duties.InTime = 16
number_of duties.StopsInside = 17
number_of duties.NextHop = 19
number_of duties.Forward = 20

-- ---- claims for which the laws hold: those of a station of the model

pub record IsModelled (k : Claims) : Type 0 where
  pub mac : k.mac ≡ mid_of k.address
  pub area : k.area ≡ areas.Simple
  pub elsewhere : k.elsewhere ≡ elsewheres.Greedy
  pub life : k.life ≡ 20000
  pub interval : k.interval ≡ 3000
  pub jitter : k.jitter ≡ 750
  pub lifetime : k.lifetime ≡ 60000
  pub modulus : (k.modulus ≡ None) ⊎ (k.modulus ≡ Some moduli.Full)

-- ---- records of a tap

-- record i, which the station sent
pub record IsSentRecord (k : Claims) (tap : List Seen) (i : ℕ) (r : Seen) : Type 0 where
  pub at : slice_get tap i ≡ Some r
  pub sent : is_sent k r ≡ true

-- record i, a packet of the station's own
pub record IsOwnRecord (k : Claims) (tap : List Seen) (i : ℕ) (r : Seen)
    (t : Transmission) : Type 0 where
  pub record_sent : IsSentRecord k tap i r
  pub frame : r.frame ≡ Some t
  pub own : t.pdu.vector.address ≡ k.address

-- record i, a packet of another source that the station forwarded
pub record IsRelayRecord (k : Claims) (tap : List Seen) (i : ℕ) (r : Seen)
    (t : Transmission) : Type 0 where
  pub record_sent : IsSentRecord k tap i r
  pub frame : r.frame ≡ Some t
  pub other : t.pdu.vector.address ≢ k.address

-- Record j, a beacon of the station's own, and record i, its last own packet before that puts the
-- beacon off: so much earlier that its call was earlier too.
pub record IsBeaconAfter (k : Claims) (tap : List Seen) (i j : ℕ) (r s : Seen)
    (t u : Transmission) (since : ℕ) : Type 0 where
  pub earlier : IsOwnRecord k tap i r t
  pub later : IsOwnRecord k tap j s u
  pub is_beacon : u.pdu.body ≡ beacon
  pub since_is : r.moment + since ≡ s.moment
  pub apart : doubt_between k < since

-- ---- a fail is a proof

-- No scenario of the claims explains the tap.
abbrev pub NoScenario : Claims → List Seen → Type 0
NoScenario k tap = (w : Scenario k tap) → Explains k tap w → ⊥

-- The octets of record i break the form of a packet.
pub record FailsForm (k : Claims) (tap : List Seen) (i : ℕ) : Type 0 where
  pub seen : Seen
  pub is : IsSentRecord k tap i seen
  pub verdict : Verdict
  pub judged : IsFormVerdict k.address seen.cut seen.octets verdict
  pub fails : is_fail verdict ≡ true

-- Record i is an own packet of which this verdict is a fail.
pub record FailsOwn (k : Claims) (tap : List Seen) (i : ℕ)
    (judge : Seen → Transmission → Verdict) : Type 0 where
  pub seen : Seen
  pub frame : Transmission
  pub is : IsOwnRecord k tap i seen frame
  pub fails : is_fail (judge seen frame) ≡ true

-- Record j is a beacon that comes too early after record i.
pub record FailsBeacon (k : Claims) (tap : List Seen) (j : ℕ) : Type 0 where
  pub i : ℕ
  pub before : Seen
  pub seen : Seen
  pub packet : Transmission
  pub frame : Transmission
  pub since : ℕ
  pub is : IsBeaconAfter k tap i j before seen packet frame since
  pub sure : (before.retried ≡ false) × (seen.retried ≡ false)
  pub fails : is_fail (beacon_verdict k since true true) ≡ true

-- Record i is a packet of a kind that isn't forwarded.
pub record FailsKind (k : Claims) (tap : List Seen) (i : ℕ) : Type 0 where
  pub seen : Seen
  pub frame : Transmission
  pub is : IsRelayRecord k tap i seen frame
  pub fails : is_fail (kind_verdict frame) ≡ true
