-- A fail of a forwarded packet is a proof, by what was found of it.
use Rattle.std.proofs.Common.{◌≡◌, ℕ, Bool, true, false, cond, ◌&&◌, List, refl, sym}
use Rattle.std.proofs.Common.{true≢false}
use Rattle.its_model.specs.Packet.{Transmission}
use Rattle.its_duties.specs.declared.claims.Claims.{Claims}
use Rattle.its_duties.specs.declared.claims.AreaForwarding.{AreaForwarding}
use Rattle.its_duties.specs.declared.claims.AreaForwarding.TheVariants as areas
use Rattle.its_duties.specs.declared.relays.PacketOrigin.{PacketOrigin}
use Rattle.its_duties.specs.declared.relays.PacketOrigin.TheVariants as origins
use Rattle.its_duties.specs.declared.relays.RelaySearch.{RelaySearch}
use Rattle.its_duties.specs.declared.verdict.Verdict.TheVariants.{Fail, Inconclusive}
use Rattle.its_duties.specs.declared.verdict.Breach.TheVariants as breaches
use Rattle.its_duties.specs.declared.verdict.Doubt.TheVariants as doubts
use Rattle.its_duties.specs.Seen.{Seen, AreRead}
use Rattle.its_duties.specs.Verdicts.{is_fail}
use Rattle.its_duties.specs.Duties.{IsModelled, NoScenario}
use Rattle.its_duties.specs.Relays.{IsSearch, faithful_by, faithful_verdict, is_simple, in_time_by}
use Rattle.its_duties.specs.Relays.{in_time_verdict}
use Rattle.its_duties.proofs.Received.{faithful_proof, in_time_proof}

pub and_first : (a b : Bool) → (a && b) ≡ true → a ≡ true
and_first true b e = refl
and_first false b e = absurd (true≢false (sym e))

pub and_second : (a b : Bool) → (a && b) ≡ true → b ≡ true
and_second true b e = e
and_second false b e = absurd (true≢false (sym e))

-- ---- faithful

bad_search : (b : Bool)
    → is_fail (cond b (Fail breaches.NotFaithful) (Inconclusive doubts.NotFaithful)) ≡ true
    → b ≡ true
bad_search true e = refl
bad_search false e = absurd (true≢false (sym e))

faithful_at : (o : PacketOrigin) (k : Claims) (tap : List Seen) (j : ℕ) (r : Seen)
    (t : Transmission) (s : RelaySearch)
    → s.origin ≡ o → AreRead tap → IsModelled k → IsSearch k tap j r t s
    → is_fail (faithful_by k s o) ≡ true → NoScenario k tap
faithful_at origins.NotHeard k tap j r t s is all modelled found fails =
    let flags : (k.received && k.unbuffered && s.late && s.all_read) ≡ true = bad_search _ fails in
    let three = and_first _ s.all_read flags in
    let two = and_first _ s.late three in
    faithful_proof k tap j all modelled (record {
      seen = r;
      frame = t;
      is = found.is;
      received = and_first k.received k.unbuffered two;
      unbuffered = and_second k.received k.unbuffered two;
      late = found.is_late (and_second (k.received && k.unbuffered) s.late three);
      none = λ i q u source there. found.not_heard is (record {
        number = i;
        seen_before = q;
        packet = u;
        is = source;
        there = there;
      });
      all_read = found.are_read
          (and_second (k.received && k.unbuffered && s.late) s.all_read flags);
    })
faithful_at (origins.Late since) k tap j r t s is all modelled found fails =
    λ w x. true≢false (sym fails)
faithful_at (origins.InTime since) k tap j r t s is all modelled found fails =
    λ w x. true≢false (sym fails)

pub search_proof : (k : Claims) (tap : List Seen) (j : ℕ) (r : Seen) (t : Transmission)
    (s : RelaySearch)
    → AreRead tap → IsModelled k → IsSearch k tap j r t s
    → is_fail (faithful_verdict k s) ≡ true → NoScenario k tap
search_proof k tap j r t s all modelled found fails =
    faithful_at s.origin k tap j r t s refl all modelled found fails

-- ---- in time

late_search : (b : Bool) (since : ℕ)
    → is_fail (cond b (Fail (breaches.Late since)) (Inconclusive (doubts.Late since))) ≡ true
    → b ≡ true
late_search true since e = refl
late_search false since e = absurd (true≢false (sym e))

pub simple_is : (area : AreaForwarding) → is_simple area ≡ true → area ≡ areas.Simple
simple_is areas.Simple e = refl
simple_is areas.Other e = absurd (true≢false (sym e))

in_time_at : (o : PacketOrigin) (k : Claims) (tap : List Seen) (j : ℕ) (r : Seen)
    (t : Transmission) (s : RelaySearch)
    → s.origin ≡ o → AreRead tap → IsModelled k → IsSearch k tap j r t s
    → is_fail (in_time_by k s o) ≡ true → NoScenario k tap
in_time_at origins.NotHeard k tap j r t s is all modelled found fails =
    λ w x. true≢false (sym fails)
in_time_at (origins.Late since) k tap j r t s is all modelled found fails =
    let flags : (k.received && k.unbuffered && is_simple k.area && s.sure && s.near_read) ≡ true =
    late_search _ since fails in
    let four = and_first _ s.near_read flags in
    let three = and_first _ s.sure four in
    let two = and_first _ (is_simple k.area) three in
    let before = found.heard_before since is in
    in_time_proof k tap j all modelled (record {
      seen = r;
      frame = t;
      is = found.is;
      received = and_first k.received k.unbuffered two;
      unbuffered = and_second k.received k.unbuffered two;
      area = simple_is k.area
          (and_second (k.received && k.unbuffered) (is_simple k.area) three);
      sure = found.is_sure
          (and_second (k.received && k.unbuffered && is_simple k.area) s.sure four);
      i = before.number;
      origin = before.seen_before;
      packet = before.packet;
      faithful = before.is;
      heard_before = before.there;
      none = found.none_near since is;
      all_read = found.are_near_read
          (and_second (k.received && k.unbuffered && is_simple k.area && s.sure) s.near_read flags);
    })
in_time_at (origins.InTime since) k tap j r t s is all modelled found fails =
    λ w x. true≢false (sym fails)

pub late_proof : (k : Claims) (tap : List Seen) (j : ℕ) (r : Seen) (t : Transmission)
    (s : RelaySearch)
    → AreRead tap → IsModelled k → IsSearch k tap j r t s
    → is_fail (in_time_verdict k s) ≡ true → NoScenario k tap
late_proof k tap j r t s all modelled found fails =
    in_time_at s.origin k tap j r t s refl all modelled found fails
