use Rattle.std.proofs.Common.{◌∙◌, ℕ, [], List, Bool, map, subst, sym, arith}
use Rattle.std.proofs.Common.{append-nil, All, false, refl, take}
use Rattle.sim_air.specs.Delivered.{KeepsFrom}
use Rattle.std.specs.Prelude.{Vec}
use Rattle.std.specs.declared.alloc.Global.{Global}
use denote.Ref.{Bor}
use Rattle.its_model.specs.World.{Config}
use Rattle.its_world.specs.Events.{config_of}
use Rattle.sim_scenario.specs.Airs.{end_of}
use Rattle.sim_scenario.specs.declared.events.event.FileEvent.{FileEvent}
use Rattle.sim_air.specs.AirTimed.{IsTimedRun, rules_of}
use Rattle.sim_air.specs.Beside.{rules_beside}
use Rattle.sim_air_model.specs.Timetable.{Filed, Rules}
use Rattle.sim_air.specs.Due.{AreDue}
use Rattle.sim_air.specs.FileEvents.{IsFiledInRange, filed_in, filed_of}
use Rattle.sim_queue.specs.Traffics.{all_traffic}
use Rattle.sim_air.specs.AirRun.{IsAirRun, events_in}
use Rattle.sim_air.specs.Going.{IsGoing}
use Rattle.sim_air.proofs.Filing.{filing_begins}
use Rattle.sim_air.proofs.Going.{going_begins}
use Rattle.sim_air.proofs.filed.run_air.Goals as goal

pub loop-init : goal.loop-init
loop-init g c =
    let filed = c.in_ok-filed.filed in
    let b = c.in_ok-filed.ensures in
    let released = b.kept in
    let air = c.args.air.now in
    let configs : List Config = map config_of c.args.configs.now in
    let by : Rules = rules_of air (all_traffic c.args.every.now) (end_of air.until [])
    c.args.present.now in
    record {
      standings = b.standings;
      kept = omega (arith, released);
      end = b.end;
      due = subst (λ (n : ℕ). AreDue (map filed_of c.args.file.now) n (filed_in filed.due.items))
          (sym b.end) b.due;
      ranges = b.ranges;
      deliveries = b.deliveries;
      going = λ took.
          subst (λ (n : ℕ). IsGoing false configs (events_in (take n (filed_in filed.due.items)))
          filed.run.world (g.S.EventSink.Took c.args.sink.now)) (sym b.taken)
          (going_begins false configs filed.run.world (g.S.EventSink.Took c.args.sink.now) b.world
          (c.every_schedule.ensures configs []) took);
      filing = λ none took. filing_begins by configs filed (g.S.EventSink.Took c.args.sink.now)
          (b.steady refl none) b.rules b.present b.world (c.every_schedule.ensures configs []) b.keeps released b.taken
          b.count.0 b.count.1 took;
    }

pub loop-preserved : goal.loop-preserved
loop-preserved g c =
    let due = c.go_on.ensures.due in
    let end = c.go_on.ensures.end in
    record {
      standings = c.in_ok-go_on.ensures.standings;
      kept = c.in_ok-go_on.ensures.kept;
      end = end ∙ c.loop.invariant.end;
      due =
          subst (λ (d : Vec (Bor FileEvent) Global).
          AreDue (map filed_of c.args.file.now) c.go_on.new.self.end (filed_in d.items)) (sym due)
          (subst (λ (n : ℕ). AreDue (map filed_of c.args.file.now) n
          (filed_in c.loop.filed.due.items)) (sym end) c.loop.invariant.due);
      ranges =
          subst (λ (d : Vec (Bor FileEvent) Global). All (λ (e : Bor FileEvent).
          IsFiledInRange e.now) d.items) (sym due) c.loop.invariant.ranges;
      deliveries =
          subst (λ (d : Vec (Bor FileEvent) Global). All (λ (e : Bor FileEvent).
          KeepsFrom c.go_on.new.self.lowest e.now) d.items) (sym due)
          (subst (λ (n : ℕ). All (λ (e : Bor FileEvent). KeepsFrom n e.now)
          c.loop.filed.due.items) (sym c.go_on.ensures.lowest) c.loop.invariant.deliveries);
      going = λ took.
          c.in_ok-go_on.ensures.going c.if-not-branch.false _ (c.loop.invariant.going took);
      filing = λ none took.
          c.in_ok-go_on.ensures.filing c.if-not-branch.false _ _
          (c.loop.invariant.filing none took);
    }

pub returns-then-not-branch-clause-file : goal.returns-then-not-branch-clause-file
returns-then-not-branch-clause-file g c = λ took.
    let configs : List Config = map config_of c.args.configs.now in
    let file : List Filed = map filed_of c.args.file.now in
    subst (λ (n : ℕ). IsAirRun configs file n c.go_on.new.self.run.world
    (g.S.EventSink.Took c.go_on.new.sink)) c.loop.invariant.end
    (c.in_ok-go_on.ensures.file c.if-not-branch.true configs file c.loop.invariant.due
    (c.loop.invariant.going took))

pub returns-then-not-branch-clause-timed : goal.returns-then-not-branch-clause-timed
returns-then-not-branch-clause-timed g c = λ none took.
    let air = c.args.air.now in
    let every = all_traffic c.args.every.now in
    let by : Rules = rules_of air every (end_of air.until []) c.args.present.now in
    let configs : List Config = map config_of c.args.configs.now in
    let file : List Filed = map filed_of c.args.file.now in
    let world = c.go_on.new.self.run.world in
    let Took = g.S.EventSink.Took c.go_on.new.sink in
    let is : IsTimedRun (rules_beside [] c.loop.filed.end by) configs file world Took =
    c.in_ok-go_on.ensures.timed c.if-not-branch.true by configs file c.loop.invariant.due
    (c.loop.invariant.filing none took) in
    subst (λ (l : List Bool). IsTimedRun (rules_of air every (end_of air.until c.args.file.now) l)
    configs file world Took) (append-nil c.args.present.now)
    (subst (λ (n : ℕ). IsTimedRun (rules_beside [] n by) configs file world Took)
    c.loop.invariant.end is)
