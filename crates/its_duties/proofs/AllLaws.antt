-- A fail is a proof, of each duty.
use Rattle.std.proofs.Common.{ℕ, true, List, refl}
use Rattle.its_duties.specs.declared.claims.Claims.{Claims}
use Rattle.its_duties.specs.declared.duty.Duty.{Duty}
use Rattle.its_duties.specs.declared.duty.Duty.TheVariants as duties
use Rattle.its_duties.specs.Seen.{Seen, AreRead}
use Rattle.its_duties.specs.Duties.{IsModelled, NoScenario}
use Rattle.its_duties.specs.Fails.{FailOf}
use Rattle.its_duties.proofs.OwnLaws.{form_proof, link_target_proof, mobile_proof, hops_proof}
use Rattle.its_duties.proofs.OwnLaws.{lifetime_proof, kind_proof}
use Rattle.its_duties.proofs.Waiting.{beacon_proof}
use Rattle.its_duties.proofs.Counting.{numbers_proof}
use Rattle.its_duties.proofs.Received.{faithful_proof, in_time_proof}
use Rattle.its_duties.proofs.OnceLaws.{once_proof}
use Rattle.its_duties.proofs.OwedLaws.{owed_proof}
use Rattle.its_duties.proofs.InsideLaws.{stops_inside_proof, area_target_proof, next_hop_proof}

pub fail_is_proof : (d : Duty) (k : Claims) (tap : List Seen) (i : ℕ)
    → AreRead tap → IsModelled k → FailOf d k tap i → NoScenario k tap
fail_is_proof duties.Form k tap i all modelled f =
    form_proof k tap i f.seen f.seen.cut f.seen.octets f.verdict all f.is refl refl f.judged f.fails
fail_is_proof duties.LinkTarget k tap i all modelled f =
    link_target_proof k tap i f.seen f.frame all f.is f.fails
fail_is_proof duties.Mobile k tap i all modelled f =
    mobile_proof k tap i f.seen f.frame all f.is f.fails
fail_is_proof duties.Hops k tap i all modelled f =
    hops_proof k tap i f.seen f.frame all f.is f.fails
fail_is_proof duties.Lifetime k tap i all modelled f =
    lifetime_proof k tap i f.seen f.frame all modelled f.is f.fails
fail_is_proof duties.Numbers k tap i all modelled f = numbers_proof k tap i all modelled f
fail_is_proof duties.BeaconNotEarly k tap i all modelled f =
    beacon_proof k tap f.i i f.before f.seen f.packet f.frame f.since true true all modelled f.is
    (λ h. f.sure) f.fails
fail_is_proof duties.AreaTarget k tap i all modelled f = area_target_proof k tap i all f
fail_is_proof duties.Faithful k tap i all modelled f = faithful_proof k tap i all modelled f
fail_is_proof duties.Kind k tap i all modelled f =
    kind_proof k tap i f.seen f.frame all f.is f.fails
fail_is_proof duties.Once k tap i all modelled f = once_proof k tap i all modelled f
fail_is_proof duties.InTime k tap i all modelled f = in_time_proof k tap i all modelled f
fail_is_proof duties.StopsInside k tap i all modelled f = stops_inside_proof k tap i all f
fail_is_proof duties.NextHop k tap i all modelled f = next_hop_proof k tap i all f
fail_is_proof duties.Forward k tap i all modelled f = owed_proof k tap i all modelled f
