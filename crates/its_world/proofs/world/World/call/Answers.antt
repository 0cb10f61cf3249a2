use Rattle.std.proofs.Common.{ℕ, ◌<◌, List, [], length, set, refl, sym, ap, subst, ◌∙◌}
use Rattle.std.proofs.Common.{arith}
use Rattle.std.specs.Prelude.{Vec}
use Rattle.std.specs.declared.alloc.Global.{Global}
use Rattle.its_model.specs.Calls as model
use Rattle.its_model.specs.Station.{station_step}
use Rattle.its_model.specs.World.{Event, with_one_more}
use Rattle.its_model.specs.World.What.{Calls}
use Rattle.its_station.specs.Runs.{own_of}
use Rattle.its_world.specs.State.{WorldState}
use Rattle.its_world.specs.Steps.{AreSameBut}
use Rattle.its_world.proofs.Done.{done_by, with_room}
use Rattle.its_world.proofs.Worlds.{read_on, same_but_set}
use Rattle.its_world.proofs.Logs.{get_or_is}
use Rattle.its_world.proofs.world.World.call.Goals as goal

pub invariant_of-self-2 : goal.invariant_of-self-2
invariant_of-self-2 c =
    let inside = c.self.inside in
    read_on inside.read inside.air.released c.number.new.self.released inside.air.kept.items
    c.number.new.self.kept.items c.entry_of-entry.result.1
    (c.number.ensures.released ∙ c.make_room.ensures.released)
    (c.number.ensures.given ∙ ap (λ (xs : List (Vec ℕ Global)).
    with_one_more xs c.entry_of-entry.result.1) c.make_room.ensures.kept) c.self.invariant

pub returns-clause-others : goal.returns-clause-others
returns-clause-others c =
    let states = c.self.inside.stations.items in
    let number = c.args.station in
    subst (λ (v : WorldState). AreSameBut number v.stations (set states number c.answer_own.new.self))
    c.self.view_is (same_but_set states number c.answer_own.new.self)

pub returns-clause-step : goal.returns-clause-step
returns-clause-step c =
    let room = c.make_room.new.self in
    let st : WorldState =
    record {
      stations = c.self.inside.stations.items;
      released = room.released;
      frames = room.kept.items;
    } in
    let call = own_of c.args.call.now in
    let e : Event =
    record { station = c.args.station; moment = c.args.moment; what = Calls call } in
    let own = c.index_mut.result.now in
    let after = c.answer_own.new.self in
    done_by c.args.self.now st
    (record {
      stations = set st.stations e.station after;
      released = c.number.new.self.released;
      frames = c.number.new.self.kept.items;
    }) e own after [] c.entry_of-entry.result.0 c.entry_of-entry.result.1 c.count.result
    c.one_frame.ensures
    (λ t f enc fault. c.one_frame_fault.ensures.none t [] f (λ i. omega arith) enc fault)
    (λ w h. with_room _ c.args.self.now w st.released st.frames c.self.view_is h
    c.make_room.ensures.released c.make_room.ensures.kept)
    (c.make_room.ensures.released ∙ ap (λ (x : WorldState). x.released) c.self.view_is)
    (subst (λ (x : WorldState). e.station < length x.stations) (sym c.self.view_is)
    c.requires.there)
    (λ x at. c.index_mut.ensures.value ∙ get_or_is st.stations e.station x own at)
    refl (
      model.Call.Own call,
      refl,
      λ s rep. (
          let told = c.in_ok-answer.ensures.step s rep in
          let step = station_step s e.moment (model.Call.Own call) in
          record {
            told = c.entry_of-entry.ensures.entry step.answer told.0;
            sends = c.entry_of-entry.ensures.frame step.answer told.0;
            stands = told.1;
          }),
    )
    c.count.ensures refl c.number.ensures.released c.number.ensures.given
