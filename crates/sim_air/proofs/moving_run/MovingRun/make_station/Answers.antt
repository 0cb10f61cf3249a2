use Rattle.std.proofs.Common.{true}
use Rattle.std.proofs.Common.{refl, ◌++◌, ◌∷◌, []}
use Rattle.its_world.specs.Events.{config_of}
use Rattle.sim_air.proofs.Moved.{one_made, says_moving}
use Rattle.sim_air.proofs.UnderRows.{same_heap, under_moving}
use Rattle.sim_air.specs.UnderRows.{end_in}
use Rattle.sim_air.proofs.Going.{station_made}
use Rattle.sim_air.proofs.moving_run.MovingRun.make_station.Goals as goal

pub returns-clause-moving : goal.returns-clause-moving
returns-clause-moving g c = (
  config_of c.in-Some.config,
  λ rules configs made past last from begin clock h.
      let old = c.args.self.now in
      let config = config_of c.in-Some.config in
      let A = g.S.EventSink.Took c.args.sink.now in
      let B = g.S.EventSink.Took c.note.new.self in
      let run = c.add_station.new.self in
      under_moving rules configs made (made ++ config ∷ []) past past last from begin clock old _
      A B
      refl
      (same_heap from old.departures c.add_station-2.new.self c.add_station-2.ensures.waiting
      h.comings.departures) refl refl refl refl refl
      (says_moving true rules configs (made ++ config ∷ []) past last from (end_in old)
      old.count.before old.count.delivered_by run A B c.in_ok-note.ensures
      (one_made rules configs made past last from (end_in old) old.count.before
      old.count.delivered_by old.run run A config c.add_station.ensures.air
      c.add_station.ensures.every
      c.add_station.ensures.queue c.add_station.ensures.draws
      c.in_ok-add_station.ensures.present c.in_ok-add_station.ensures.frames.0
      c.add_station.ensures.none
      c.in_ok-add_station.ensures.late h.moving)) h,
)

pub returns-clause-going : goal.returns-clause-going
returns-clause-going g c =
    station_made (config_of c.in-Some.config) c.args.self.now.run.world
    c.add_station.new.self.world (g.S.EventSink.Took c.args.sink.now)
    (g.S.EventSink.Took c.note.new.self) c.in_ok-add_station.ensures.late c.in_ok-note.ensures
