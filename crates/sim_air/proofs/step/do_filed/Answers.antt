use Rattle.std.proofs.Common.{true}
use Rattle.std.proofs.Common.{◌<◌, ◌∷◌, [], ℕ, length, refl, sym, subst, inl, inr}
use Rattle.std.specs.Prelude.{OnOk}
use Rattle.sim_air.specs.Moving.{DoesAt}
use Rattle.sim_air.specs.FileEvents.{filed_of}
use Rattle.sim_air.proofs.FileEvents.{same_moment}
use Rattle.sim_queue.proofs.Keeping.{on_ok}
use Rattle.sim_air.proofs.Going.{filed_well}
use Rattle.sim_air.proofs.Moved.{comes_well, none_at, same_station, station_filed}
use Rattle.sim_air.proofs.step.do_filed.Goals as goal

pub returns-then-is_there-clause-moving : goal.returns-then-is_there-clause-moving
returns-then-is_there-clause-moving g c =
    let filed = c.args.filed.now in
    let run = c.args.run.now in
    let A = g.S.EventSink.Took c.args.sink.now in
    let B = g.S.EventSink.Took c.do_filed.new.sink in
    let there = c.is_there.ensures.there c.if-is_there.true in
    on_ok c.do_filed.result _ _
    (λ does. record {
      came = filed_of filed ∷ [];
      may = inl (
        subst (λ (n : ℕ). n < length run.world.stations) (sym (station_filed filed)) there,
        refl,
      );
      does = does;
    })
    (subst (λ (n : ℕ). OnOk c.do_filed.result (DoesAt true n (filed_of filed ∷ []) run A
    c.do_filed.new.self B)) (same_moment filed)
    (comes_well c.do_filed.result true (filed_of filed) run c.do_filed.new.self A B
    (subst (λ (n : ℕ). n < length run.world.stations) (sym (same_station filed)) there)
    c.do_filed.ensures.released c.do_filed.ensures.timed))

pub returns-else-is_there-clause-moving : goal.returns-else-is_there-clause-moving
returns-else-is_there-clause-moving g c =
    record {
      came = [];
      may = inr (c.is_there.ensures.away c.if-is_there.false, refl);
      does = none_at true _ c.args.run.now (g.S.EventSink.Took c.args.sink.now);
    }

pub returns-then-is_there-clause-going : goal.returns-then-is_there-clause-going
returns-then-is_there-clause-going g c =
    filed_well c.do_filed.result c.args.filed.now c.args.run.now.world c.do_filed.new.self.world
    (g.S.EventSink.Took c.args.sink.now) (g.S.EventSink.Took c.do_filed.new.sink)
    (c.is_there.ensures.there c.if-is_there.true) c.do_filed.ensures.run

pub returns-else-is_there-clause-going : goal.returns-else-is_there-clause-going
returns-else-is_there-clause-going g c = λ configs past h. h
