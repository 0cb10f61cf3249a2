use Rattle.std.proofs.Common.{◌≡◌, ◌+◌, List, length, map, take, ◌++◌, ◌∷◌, [], arith, sym, ap}
use Rattle.std.proofs.Common.{subst, ◌∙◌, length-append}
use Rattle.std.proofs.lemmas.List.{take_more, map-append}
use Rattle.its_model.specs.World.{Event as Happening}
use Rattle.its_world.specs.declared.event.Event.{Event}
use Rattle.its_world.specs.Entries.{Entry}
use Rattle.its_world.specs.Events.{event_of, what_of}
use Rattle.its_world.specs.Steps.{IsKept}
use Rattle.its_world.specs.Runs.{IsRunOf}
use Rattle.its_world.proofs.Logs.{run_more}
use Rattle.its_world.proofs.world.World.run_all.Goals as goal

pub loop-event-preserved : goal.loop-event-preserved
loop-event-preserved c =
    let i = c.loop-event.event-index in
    let events = c.args.events.now in
    let x = c.event-item.result in
    let old = c.loop-event.log.items in
    let items =
    c.in-Ok-push.ensures.items
    ∙ ap (λ (l : List Entry). l ++ c.in-Ok.entry ∷ []) c.reserve.ensures.items in
    let front : map event_of (take (i + 1) events) ≡ map event_of (take i events) ++ event_of x
    ∷ [] =
    ap (map event_of) (take_more events i x c.loop-event-test.true
    ∙ ap (λ (y : Event). take i events ++ y ∷ []) (sym c.event-item.is))
    ∙ map-append event_of (take i events) (x ∷ []) in
    record {
      count = ap length items
          ∙ omega (arith, length-append old (c.in-Ok.entry ∷ []), c.loop-event.invariant.count);
      released = c.step.ensures.released ∙ c.loop-event.invariant.released;
      run = λ w rep kept.
          subst (λ (l : List Happening). IsRunOf w l c.push.new.self.items c.step.new.self)
          (sym front)
          (subst (λ (l : List Entry).
          IsRunOf w (map event_of (take i events) ++ event_of x ∷ []) l c.step.new.self)
          (sym items)
          (run_more w (map event_of (take i events))
          (event_of x) old c.in-Ok.entry c.loop-event.self c.step.new.self c.runs_go_on.ensures
          (c.loop-event.invariant.run w rep kept)
          (λ v h. c.in-Ok.ensures.step v h
          (subst (λ n. IsKept n (what_of x.what)) (sym c.loop-event.invariant.released)
          (subst (λ (y : Event). IsKept c.args.self.now.released (what_of y.what))
          (sym c.event-item.is) (kept i x c.loop-event-test.true))))));
    }
