-- A fail of a step from one sequence number to the next is a proof.
use Rattle.std.proofs.Common.{◌≡◌, ℕ, ◌<◌, Bool, true, false, cond, ◌&&◌, List, Option, Some, None}
use Rattle.std.proofs.Common.{eqb, refl, sym, subst, true≢false, arith}
use Rattle.std.specs.Prelude.{nat_lt}
use Rattle.std.proofs.lemmas.Bool.Decides.{nat_tests}
use Rattle.its_model.specs.Packet.{Transmission}
use Rattle.its_duties.specs.declared.claims.Claims.{Claims}
use Rattle.its_duties.specs.declared.numbers.NumberStep.{NumberStep}
use Rattle.its_duties.specs.declared.verdict.Verdict.TheVariants.{Pass, Fail, Inconclusive}
use Rattle.its_duties.specs.declared.verdict.Breach.{Breach}
use Rattle.its_duties.specs.declared.verdict.Doubt.{Doubt}
use Rattle.its_duties.specs.Seen.{Seen, AreRead}
use Rattle.its_duties.specs.Verdicts.{is_fail, doubt_between}
use Rattle.its_duties.specs.Numbers.{IsNumberStep, breaks_numbers, numbers_verdict, steps_of}
use Rattle.its_duties.specs.Numbers.{numbers_in_time, time_between}
use Rattle.its_duties.specs.Duties.{IsModelled, NoScenario}
use Rattle.its_duties.proofs.Counting.{numbers_proof}
use Rattle.its_duties.proofs.RelayLaws.{and_first, and_second}

broken : (b x : Bool) (f : Breach) (d : Doubt)
    → is_fail (cond b (Fail f) (cond x Pass (Inconclusive d))) ≡ true → b ≡ true
broken true x f d e = refl
broken false true f d e = absurd (true≢false (sym e))
broken false false f d e = absurd (true≢false (sym e))

lt_of : (a b : ℕ) → nat_lt a b ≡ true → a < b
lt_of a b e = grind (arith, nat_tests)

step_at : (age : Option ℕ) (k : Claims) (tap : List Seen) (i j : ℕ) (r s : Seen)
    (t u : Transmission) (n : NumberStep) → k.age ≡ age → AreRead tap → IsModelled k
    → IsNumberStep k tap i j r s t u n
    → breaks_numbers k n (steps_of k.modulus n.first n.second) age ≡ true → NoScenario k tap
step_at None k tap i j r s t u n is_age all modelled is fails = absurd (true≢false (sym fails))
step_at (Some age) k tap i j r s t u n is_age all modelled is fails =
    let steps : ℕ = steps_of k.modulus n.first n.second in
    let four = and_first (k.steady && n.sure && n.newer && nat_lt (doubt_between k) n.since) _ fails in
    let three = and_first (k.steady && n.sure && n.newer) (nat_lt (doubt_between k) n.since) four in
    let two = and_first (k.steady && n.sure) n.newer three in
    numbers_proof k tap j all modelled (record {
      i = i;
      before = r;
      seen = s;
      packet = t;
      frame = u;
      first = n.first;
      second = n.second;
      since = n.since;
      age = age;
      earlier = is.earlier;
      later = is.later;
      first_is = is.first_is;
      second_is = is.second_is;
      sure = is.is_sure (and_second k.steady n.sure two);
      steady = and_first k.steady n.sure two;
      age_is = is_age;
      since_is = is.since_is;
      apart = lt_of (doubt_between k) n.since
          (and_second (k.steady && n.sure && n.newer) (nat_lt (doubt_between k) n.since) four);
      newer = is.is_newer (and_second (k.steady && n.sure) n.newer three);
      neighbours = is.neighbours;
      no_repetition = is.no_repetition;
      all_read = is.all_read;
      too_many = subst (λ (ahead : ℕ).
          numbers_in_time k (time_between k n.since ahead age) < steps) is.ahead_is
          (lt_of (numbers_in_time k (time_between k n.since n.ahead age)) steps
          (and_second (k.steady && n.sure && n.newer && nat_lt (doubt_between k) n.since) _ fails));
    })

pub number_step_proof : (k : Claims) (tap : List Seen) (i j : ℕ) (r s : Seen) (t u : Transmission)
    (n : NumberStep) → AreRead tap → IsModelled k → IsNumberStep k tap i j r s t u n
    → is_fail (numbers_verdict k n) ≡ true → NoScenario k tap
number_step_proof k tap i j r s t u n all modelled is fails =
    step_at k.age k tap i j r s t u n refl all modelled is
    (broken (breaks_numbers k n (steps_of k.modulus n.first n.second) k.age)
    (eqb (steps_of k.modulus n.first n.second) 1) _ _ fails)
