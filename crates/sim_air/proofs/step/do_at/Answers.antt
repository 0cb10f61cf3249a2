use Rattle.std.proofs.Common.{true}
use Rattle.std.proofs.Common.{◌∙◌, ℕ, [], length, subst, sym}
use Rattle.its_station.specs.State.{StationState}
use Rattle.sim_air.specs.Moving.{DoesAt}
use Rattle.sim_air.specs.Outside.{MayCome}
use Rattle.sim_air_model.specs.Timetable.{Filed}
use Rattle.sim_queue.proofs.Keeping.{on_ok}
use Rattle.sim_air.proofs.Moved.{none_at}
use Rattle.sim_air.proofs.Outside.{away_at, filed_done, none_past}
use Rattle.sim_air.proofs.step.do_at.Goals as goal

pub returns-clause-moving : goal.returns-clause-moving
returns-clause-moving g c =
    let event = c.args.event.now in
    let station = c.args.station in
    let run = c.args.run.now in
    let place = c.in-Some.place in
    let filed = c.in_ok-filed.filed in
    let A = g.S.EventSink.Took c.args.sink.now in
    let B = g.S.EventSink.Took c.do_filed.new.sink in
    let done = c.in_ok-filed.ensures.done in
    on_ok c.do_filed.result _ _
    (λ does. record {
      came = does.came;
      may = (
        place,
        subst (λ (f : Filed). MayCome (length run.world.stations) f does.came)
            (filed_done event.action station event.moment place filed done) does.may,
      );
      does = subst (λ (n : ℕ). DoesAt true n does.came run A c.do_filed.new.run B) done.1 does.does;
    })
    c.do_filed.ensures.moving

pub returns-in_default-clause-moving : goal.returns-in_default-clause-moving
returns-in_default-clause-moving g c =
    record {
      came = [];
      may = away_at (length c.args.run.now.world.stations) c.args.event.now c.args.station
          (none_past (λ (st : StationState). st.vector.place) c.args.run.now.world.stations
          c.args.station (sym c.place_of.ensures ∙ c.in_default.is));
      does = none_at true _ c.args.run.now (g.S.EventSink.Took c.args.sink.now);
    }

pub returns-in_default-clause-going : goal.returns-in_default-clause-going
returns-in_default-clause-going g c = λ configs past h. h
