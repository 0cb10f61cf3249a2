-- A fail of a packet that was forwarded before is a proof, by what was found of it.
use Rattle.std.proofs.Common.{◌≡◌, ℕ, ◌+◌, ◌*◌, ◌<◌, Bool, true, false, cond, ◌&&◌}
use Rattle.std.proofs.Common.{◌||◌, List, refl, sym, subst, true≢false, arith, inl, inr}
use Rattle.std.specs.Prelude.{nat_lt}
use Rattle.std.proofs.lemmas.Bool.Decides.{nat_tests}
use Rattle.its_model.specs.Packet.{Transmission}
use Rattle.its_duties.specs.declared.claims.Claims.{Claims}
use Rattle.its_duties.specs.declared.once.RelayAgain.{RelayAgain}
use Rattle.its_duties.specs.declared.once.EarlierRelay.{EarlierRelay}
use Rattle.its_duties.specs.declared.once.EarlierRelay.TheVariants as earlier
use Rattle.its_duties.specs.declared.verdict.Verdict.TheVariants.{Pass, Fail, Inconclusive}
use Rattle.its_duties.specs.declared.verdict.Breach.TheVariants as breaches
use Rattle.its_duties.specs.declared.verdict.Doubt.TheVariants as doubts
use Rattle.its_duties.specs.Seen.{Seen, AreRead}
use Rattle.its_duties.specs.Times.{wait, slack, life}
use Rattle.its_duties.specs.Heard.{has_room}
use Rattle.its_duties.specs.Verdicts.{is_fail}
use Rattle.its_duties.specs.Duties.{IsModelled, NoScenario}
use Rattle.its_duties.specs.Forwarding.{IsNotForgotten}
use Rattle.its_duties.specs.Relays.{is_simple}
use Rattle.its_duties.specs.Once.{is_within_life, is_not_forgotten, breaks_once, once_verdict}
use Rattle.its_duties.specs.Once.{IsAgain, IsRelayAgain}
use Rattle.its_duties.proofs.RelayLaws.{and_first, and_second, simple_is}
use Rattle.its_duties.proofs.OnceLaws.{once_proof}

is_less : (a b : ℕ) → nat_lt a b ≡ true → a < b
is_less a b e = grind (arith, nat_tests)

again_is : (b : Bool) (others : ℕ)
    → is_fail (cond b (Fail (breaches.Again others)) (Inconclusive (doubts.Again others))) ≡ true
    → b ≡ true
again_is true others e = refl
again_is false others e = absurd (true≢false (sym e))

first_is : (b : Bool) → is_fail (cond b Pass (Inconclusive doubts.FirstTime)) ≡ true → ⊥
first_is true e = true≢false (sym e)
first_is false e = true≢false (sym e)

kept_by : (b c : Bool) (k : Claims) (tap : List Seen) (j : ℕ) (r : Seen) (t : Transmission)
    (a : RelayAgain) (h : IsAgain k tap j r t a) → a.heard_less ≡ c
    → (a.others_known && nat_lt a.others k.remember) ≡ b → (b || c) ≡ true
    → IsNotForgotten k tap t.pdu.vector.address h.number h.before r
kept_by true c k tap j r t a h less few e =
    let others = h.others_are (and_first a.others_known (nat_lt a.others k.remember) few) in
    inl (
      others.0,
      subst (λ (n : ℕ). n < k.remember) others.1
          (is_less a.others k.remember
          (and_second a.others_known (nat_lt a.others k.remember) few)),
    )
kept_by false true k tap j r t a h less few e = inr (h.is_heard_less less)
kept_by false false k tap j r t a h less few e = absurd (true≢false (sym e))

again_proof : (k : Claims) (tap : List Seen) (j : ℕ) (r : Seen) (t : Transmission)
    (a : RelayAgain) → AreRead tap → IsModelled k → IsAgain k tap j r t a
    → breaks_once k a ≡ true → NoScenario k tap
again_proof k tap j r t a all modelled h flags =
    let eight = and_first _ a.sources_known flags in
    let seven = and_first _ (has_room k.capacity a.sources) eight in
    let six = and_first _ (is_not_forgotten k a) seven in
    let five = and_first _ (is_within_life k a.since) six in
    let four = and_first _ a.sure five in
    let three = and_first _ k.received four in
    let two = and_first _ (is_simple k.area) three in
    let known = h.sources_are (and_second
    (k.steady && k.unbuffered && is_simple k.area && k.received && a.sure && is_within_life k a.since
    && is_not_forgotten k a && has_room k.capacity a.sources) a.sources_known flags) in
    let short = is_less (a.since + (wait k + 2 * slack k)) (life k) (and_second
    (k.steady && k.unbuffered && is_simple k.area && k.received && a.sure)
    (is_within_life k a.since) six) in
    once_proof k tap j all modelled (record {
      i = h.i;
      before = h.before;
      seen = r;
      packet = h.packet;
      frame = t;
      number = h.number;
      first = h.first;
      again = h.again;
      earlier = (omega (arith, h.since_is), h.earlier);
      number_is = h.number_is;
      source = h.source;
      sure = h.is_sure (and_second
          (k.steady && k.unbuffered && is_simple k.area && k.received) a.sure five);
      steady = and_first k.steady k.unbuffered two;
      unbuffered = and_second k.steady k.unbuffered two;
      area = simple_is k.area (and_second (k.steady && k.unbuffered) (is_simple k.area) three);
      received = and_second (k.steady && k.unbuffered && is_simple k.area) k.received four;
      within_life = omega (arith, h.since_is, short);
      not_forgotten = kept_by (a.others_known && nat_lt a.others k.remember) a.heard_less k tap j r t a
          h refl refl
          (and_second (k.steady && k.unbuffered && is_simple k.area && k.received && a.sure
          && is_within_life k a.since) (is_not_forgotten k a) seven);
      room = subst (λ (n : ℕ). has_room k.capacity n ≡ true) known.0
          (and_second (k.steady && k.unbuffered && is_simple k.area && k.received && a.sure
          && is_within_life k a.since && is_not_forgotten k a) (has_room k.capacity a.sources) eight);
      room_known = known.2;
      all_read = known.1;
    })

pub relay_again_proof : (k : Claims) (tap : List Seen) (j : ℕ) (r : Seen) (t : Transmission)
    (e : EarlierRelay)
    → AreRead tap → IsModelled k → IsRelayAgain k tap j r t e
    → is_fail (once_verdict k e) ≡ true → NoScenario k tap
relay_again_proof k tap j r t earlier.Never all modelled is fails = absurd (first_is k.sent fails)
relay_again_proof k tap j r t earlier.NotSeen all modelled is fails =
    absurd (true≢false (sym fails))
relay_again_proof k tap j r t (earlier.Again a) all modelled is fails =
    again_proof k tap j r t a all modelled is (again_is (breaks_once k a) a.others fails)
