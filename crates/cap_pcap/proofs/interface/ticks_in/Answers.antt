use Rattle.std.proofs.Common.{◌<◌, ◌≤◌, ℕ, inl, inr, Option, None, Some, IfSome, arith}
use Rattle.cap_pcap.specs.Moments.{IsTooFine}
use Rattle.cap_pcap.proofs.interface.ticks_in.Goals as goal

fine-of : (r : Option ℕ) (n : ℕ) → n < 128 → IfSome r (λ _. n ≤ 19) → IfSome r (λ _. ¬ IsTooFine n)
fine-of None n few within = tt
fine-of (Some x) n few within = elim [ inl a ↦ omega arith | inr b ↦ omega arith ]

pub returns-then-resolution-lt128-clause-fine : goal.returns-then-resolution-lt128-clause-fine
returns-then-resolution-lt128-clause-fine c =
    fine-of c.power_of_ten.result c.args.resolution (omega arith) c.power_of_ten.ensures.within
