use Rattle.std.proofs.Common.{◌≡◌, ◌≤◌, ℕ, List, length, Option, Some, None, rules, sym, subst}
use Rattle.std.specs.Prelude.{IfSome, Vec}
use Rattle.std.specs.Option.{option_map}
use Rattle.std.specs.declared.alloc.Global.{Global}
use Rattle.its_contention.specs.Buffer.{Buffer}
use Rattle.its_contention.specs.Waiting.{Waiting}
use Rattle.its_station.specs.Receiving.{SendsAtMost, TellsAcceptedBy, TellsBy, said_by}
use Rattle.its_station.specs.declared.outcome.Outcome.{Outcome}
use Rattle.its_station.specs.declared.outcome.Outcome.TheVariants as outcomes
use Rattle.its_unit.specs.Contending.{applied, left_of}
use Rattle.its_unit.proofs.Contended.{told_held}
use Rattle.its_unit.proofs.contending.contend.Goals as goal

short_held : (most : ℕ) (w : Vec ℕ Global) (sent : Option (Vec ℕ Global))
    → IfSome sent (λ v. v.items ≡ w.items) → length w.items ≤ most
    → IfSome sent (λ v. length v.items ≤ most)
short_held most w None same short = tt
short_held most w (Some v) same short =
    subst (λ (xs : List ℕ). length xs ≤ most) (sym same) short

pub returns-in-Accepted-default-Some-clause-told :
    goal.returns-in-Accepted-default-Some-clause-told
returns-in-Accepted-default-Some-clause-told g c = λ s answer rep in_time tells.
    let a = c.in-Accepted-default-Some in
    let encodes = g.F.ReceivedFrame.Encodes c.args.frame.now in
    let t = g.F.ReceivedFrame.frame c.args.frame.now in
    let handed = option_map said_by a.handed in
    let outcome : c.args.outcome ≡ outcomes.Accepted a.handed (Some a.relay) = search rules in
    let limits = applied c.args.limiting c.args.governor.now in
    subst (λ (o : Option (Buffer Waiting)). TellsAcceptedBy encodes handed c.hold-sent.result.0
    (left_of o limits s c.args.now t answer)) (sym c.in-Some.is)
    (told_held encodes handed a.relay c.hold-sent.result.0 c.in-Some.contention
    limits s c.args.now t answer in_time
    (subst (λ (o : Outcome). TellsBy encodes o answer) outcome tells)
    (λ relay. c.hold-sent.ensures.sent s relay rep))

pub returns-in-Accepted-default-Some-clause-short_frame :
    goal.returns-in-Accepted-default-Some-clause-short_frame
returns-in-Accepted-default-Some-clause-short_frame g c = λ most sends.
    let a = c.in-Accepted-default-Some in
    let outcome : c.args.outcome ≡ outcomes.Accepted a.handed (Some a.relay) = search rules in
    short_held most a.relay c.hold-sent.result.0 c.hold-sent.ensures.same
    (subst (λ (o : Outcome). SendsAtMost most o) outcome sends)
