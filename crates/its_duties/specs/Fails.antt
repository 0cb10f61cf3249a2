-- On which records of a tap each duty fails.
use Rattle.std.specs.Prelude.{ℕ, List}
use Rattle.its_duties.specs.declared.claims.Claims.{Claims}
use Rattle.its_duties.specs.declared.duty.Duty.{Duty}
use Rattle.its_duties.specs.declared.duty.Duty.TheVariants as duties
use Rattle.its_duties.specs.Seen.{Seen}
use Rattle.its_duties.specs.Verdicts.{link_target_verdict, mobile_verdict, hops_verdict}
use Rattle.its_duties.specs.Verdicts.{lifetime_verdict}
use Rattle.its_duties.specs.Duties.{FailsForm, FailsOwn, FailsBeacon, FailsKind}
use Rattle.its_duties.specs.Numbers.{FailsNumbers}
use Rattle.its_duties.specs.Forwarding.{FailsFaithful, FailsInTime, FailsStopsInside}
use Rattle.its_duties.specs.Forwarding.{FailsAreaTarget, FailsNextHop, FailsOnce}
use Rattle.its_duties.specs.Owed.{FailsForward}

-- the duty fails on record i
abbrev pub FailOf : Duty → Claims → List Seen → ℕ → Type 0
FailOf duties.Form k tap i = FailsForm k tap i
FailOf duties.LinkTarget k tap i = FailsOwn k tap i (λ r t. link_target_verdict r.known_target t)
FailOf duties.Mobile k tap i = FailsOwn k tap i (λ r t. mobile_verdict k.mobile t)
FailOf duties.Hops k tap i = FailsOwn k tap i (λ r t. hops_verdict t)
FailOf duties.Lifetime k tap i = FailsOwn k tap i (λ r t. lifetime_verdict k t)
FailOf duties.Numbers k tap i = FailsNumbers k tap i
FailOf duties.BeaconNotEarly k tap i = FailsBeacon k tap i
FailOf duties.AreaTarget k tap i = FailsAreaTarget k tap i
FailOf duties.Faithful k tap i = FailsFaithful k tap i
FailOf duties.Kind k tap i = FailsKind k tap i
FailOf duties.Once k tap i = FailsOnce k tap i
FailOf duties.InTime k tap i = FailsInTime k tap i
FailOf duties.StopsInside k tap i = FailsStopsInside k tap i
FailOf duties.NextHop k tap i = FailsNextHop k tap i
FailOf duties.Forward k tap i = FailsForward k tap i
