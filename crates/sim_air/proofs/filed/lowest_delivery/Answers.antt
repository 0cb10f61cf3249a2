use Rattle.std.proofs.Common.{◌++◌, ◌∷◌, [], ◌∙◌, All, ap, arith, subst, sym, take, take_all}
use Rattle.std.proofs.Math.Nat.{min-le_left, min-le_right}
use Rattle.std.proofs.lemmas.List.{take_more}
use Rattle.std.proofs.lemmas.List.Elements.{All-push}
use denote.Ref.{Bor}
use Rattle.sim_air.specs.Delivered.{KeepsFrom}
use Rattle.sim_scenario.specs.declared.events.event.FileEvent.{FileEvent}
use Rattle.sim_air.proofs.Filing.{keeps_lower}
use Rattle.sim_air.proofs.filed.lowest_delivery.Goals as goal

pub loop-filed-preserved : goal.loop-filed-preserved
loop-filed-preserved c =
    let due = c.args.due.now in
    let i = c.loop-filed.filed-index in
    let low = c.loop-filed.lowest in
    let one = c.delivered.result in
    let next = c.min-lowest.result in
    let x = c.filed-item.result in
    let is = c.min-lowest.ensures in
    let left = min-le_left low one in
    let right = min-le_right low one in
    subst (All (λ (e : Bor FileEvent). KeepsFrom next e.now))
    (ap (λ (y : Bor FileEvent). take i due ++ y ∷ []) c.filed-item.is
    ∙ sym (take_more due i x c.loop-filed-test.true))
    (All-push (λ (e : Bor FileEvent). KeepsFrom next e.now) (take i due) x
    (λ k d lt. keeps_lower next low _ (omega (arith, is, left)) (c.loop-filed.invariant k d lt))
    (keeps_lower next one x.now (omega (arith, is, right)) c.delivered.ensures))

pub returns : goal.returns
returns c =
    subst (All (λ (e : Bor FileEvent). KeepsFrom c.loop-filed.lowest e.now))
    (take_all c.loop-filed.filed-index c.args.due.now c.loop-filed-test.false)
    c.loop-filed.invariant
