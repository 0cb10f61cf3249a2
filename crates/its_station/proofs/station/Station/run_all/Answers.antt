use Rattle.std.proofs.Common.{ℕ, ◌∙◌, ◌++◌, ◌∷◌, [], List, length, take, ap, arith, sym, subst}
use Rattle.std.proofs.Common.{length-append}
use Rattle.std.proofs.lemmas.List.{take_more}
use Rattle.its_station.specs.declared.call.Call.{Call}
use Rattle.its_station.specs.declared.run.Reply.{Reply}
use Rattle.its_station.specs.Runs.{IsRunOf}
use Rattle.its_station.proofs.Runs.{run_more}
use Rattle.its_station.proofs.station.Station.run_all.Goals as goal

pub loop-call-preserved : goal.loop-call-preserved
loop-call-preserved g c =
    let i = c.loop-call.call-index in
    let calls = c.args.calls.now in
    let x = c.call-item.result in
    let old = c.loop-call.replies.items in
    let items =
    c.in-Ok-push.ensures.items
    ∙ ap (λ (l : List Reply). l ++ c.from.result ∷ []) c.reserve.ensures.items in
    let front =
    take_more calls i x c.loop-call-test.true
    ∙ ap (λ (y : ℕ × Call). take i calls ++ y ∷ []) (sym c.call-item.is) in
    record {
      count = ap length items
          ∙ omega (arith, length-append old (c.from.result ∷ []), c.loop-call.invariant.count);
      run = λ s rep.
          subst (λ (l : List (ℕ × Call)). IsRunOf s l c.push.new.self.items c.answer.new.self)
          (sym front)
          (subst (λ (l : List Reply). IsRunOf s (take i calls ++ x ∷ []) l c.answer.new.self)
          (sym items)
          (run_more s
          (take i calls) old c.loop-call.self c.answer.new.self x c.from.result c.in-Ok.answer
          c.from.ensures
          c.calls_go_on.ensures.station c.calls_go_on.ensures.answers
          (c.loop-call.invariant.run s rep) c.in-Ok.ensures.step));
    }
