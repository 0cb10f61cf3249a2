use Rattle.std.proofs.Common.{◌≡◌, ◌∙◌, ℕ, [], List, map, length, sym, subst, ap, arith, Option}
use Rattle.std.proofs.Common.{true}
use Rattle.std.proofs.lemmas.List.{length-map}
use Rattle.its_model.specs.World.{Config}
use Rattle.sim_scenario.specs.Airs.{end_of}
use Rattle.its_world.specs.Events.{config_of}
use Rattle.sim_air.specs.AirTimed.{rules_of}
use Rattle.sim_air.specs.Going.{IsGoing}
use Rattle.sim_air.specs.Moving.{IsMovedRun}
use Rattle.sim_queue.specs.PlaceIndexes.{AreStandingsOf}
use Rattle.sim_air_model.specs.Timetable.{Rules}
use Rattle.sim_queue.specs.Traffics.{all_traffic}
use Rattle.sim_air.specs.UnderRows.{IsUnderSome, end_in}
use Rattle.sim_air.specs.declared.run.Run.{Run}
use Rattle.sim_air.specs.Outside.{IsByMoment}
use Rattle.sim_scenario.specs.declared.events.event.AddressedEvent.{AddressedEvent}
use Rattle.sim_settings.specs.declared.moves.Moves.{Moves}
use Rattle.std.specs.Prelude.{Vec}
use Rattle.std.specs.declared.alloc.Global.{Global}
use denote.Ref.{Bor}
use Rattle.sim_air.proofs.Outside.{none_came, turn_of_row}
use Rattle.sim_air.proofs.Going.{going_begins, made_done}
use Rattle.sim_air.proofs.Moved.{begun}
use Rattle.sim_air.proofs.UnderRows.{begun_under, row_read}
use Rattle.sim_air.proofs.moving.run_moves.Goals as goal

pub loop-init : goal.loop-init
loop-init g c =
    let s = c.args.scenario.now in
    let t = c.args.timeline.now in
    let air = t.air in
    let configs : List Config = map config_of s.stations.items in
    let by : Rules = rules_of air (all_traffic t.every.items) (end_of air.until [])
    s.present.items in
    let m = c.in_ok-moving.moving in
    let b = c.in_ok-moving.ensures in
    let read = c.read_row.ensures in
    let next = c.read_row.new.self in
    let begin = c.args.rows.now.begin in
    let clock = c.args.rows.now.before in
    let Took = g.S.EventSink.Took c.args.sink.now in
    let long : length by.present ≡ length configs =
    let present = s.present.ok.0 in
    let stations = s.stations.ok.0 in
    let same = s.present_or_not in
    let mapped = length-map s.stations.items config_of in
    omega (arith, present, stations, same, mapped) in
    record {
      standings =
          subst (λ (r : Run). AreStandingsOf r.world.stations r.standings.order.items)
          (sym read.run) b.standings;
      until = read.until ∙ b.until;
      moves = ap (λ (x : Bor Moves). x.now) read.moves ∙ b.moves;
      asked =
          subst (λ (v : Vec (Bor AddressedEvent) Global). IsByMoment t.events.items
          (map (λ (e : Bor AddressedEvent). e.now) v.items)) (sym read.events.0) b.asked;
      going = λ took.
          subst (λ (r : Run). IsGoing true configs [] r.world Took) (sym read.run)
          (going_begins true configs m.run.world Took b.world (c.every_schedule.ensures configs [])
          took);
      under = λ none took.
          let moving = begun true by configs (end_in m) m.run Took long (b.steady none) b.rules b.present b.world
          (c.every_schedule.ensures configs []) b.keeps b.frames.0 took in
          subst (λ (n : ℕ). IsUnderSome by configs n c.read_row.new.rows.before next Took)
          (sym read.begin)
          (let on = row_read by configs [] [] 0 0 begin clock c.read_row.new.rows.before m next Took
          read.run read.departures read.events.0 read.events.1 read.frames.0 read.frames.1
          read.until read.end c.in_ok-read_row.ensures.row (λ n le. omega arith)
          (begun_under by configs [] [] begin clock m Took moving b.row b.departures b.frames.1
          b.frames.2) in
          record {
            last = 0;
            from = 0;
            made = [];
            past = [];
            came = [];
            turn = 0;
            under = on;
            outside = none_came (length configs) next (read.events.1 ∙ b.taken)
                (turn_of_row 0 next on.comings);
          });
    }

pub loop-preserved : goal.loop-preserved
loop-preserved g c =
    record {
      standings = c.in_ok-go_on.ensures.standings;
      until = c.go_on.ensures.until ∙ c.loop.invariant.until;
      moves = ap (λ (x : Bor Moves). x.now) c.go_on.ensures.moves ∙ c.loop.invariant.moves;
      asked =
          subst (λ (v : Vec (Bor AddressedEvent) Global). IsByMoment
          c.args.timeline.now.events.items
          (map (λ (e : Bor AddressedEvent). e.now) v.items)) (sym c.go_on.ensures.asked)
          c.loop.invariant.asked;
      going = λ took. c.in_ok-go_on.ensures.going _ _ (c.loop.invariant.going took);
      under = λ none took.
          c.in_ok-go_on.ensures.moving c.if-not-branch.false _ _ (c.loop.invariant.under none took);
    }

pub returns-then-not-branch-clause-run : goal.returns-then-not-branch-clause-run
returns-then-not-branch-clause-run g c = λ took.
    made_done (map config_of c.args.scenario.now.stations.items) c.go_on.new.self.run.world
    (g.S.EventSink.Took c.go_on.new.sink)
    (c.in_ok-go_on.ensures.going _ _ (c.loop.invariant.going took))

pub returns-then-not-branch-clause-moved : goal.returns-then-not-branch-clause-moved
returns-then-not-branch-clause-moved g c = λ none took.
    let s = c.args.scenario.now in
    let t = c.args.timeline.now in
    let air = t.air in
    let by : Rules = rules_of air (all_traffic t.every.items) (end_of air.until [])
    s.present.items in
    let configs : List Config = map config_of s.stations.items in
    let world = c.go_on.new.self.run.world in
    let Took = g.S.EventSink.Took c.go_on.new.sink in
    let asked = t.events.items in
    subst (λ (u : Option ℕ). IsMovedRun by configs t.moves asked u world Took)
    c.loop.invariant.until
    (subst (λ (m : Moves). IsMovedRun by configs m asked c.loop.moving.until world Took)
    c.loop.invariant.moves
    (c.in_ok-go_on.ensures.ended c.if-not-branch.true by configs asked c.loop.invariant.asked
    (c.loop.invariant.under none took)))
