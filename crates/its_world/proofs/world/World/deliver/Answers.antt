use Rattle.std.proofs.Common.{◌<◌, ◌+◌, ℕ, List, None, Ok, length, set, refl, sym, ap}
use Rattle.std.proofs.Common.{subst, ◌∙◌}
use Rattle.std.specs.Prelude.{Vec, Result}
use Rattle.std.specs.Option.{option_map}
use Rattle.std.specs.declared.alloc.Global.{Global}
use Rattle.its_model.specs.Calls as model
use Rattle.its_model.specs.Calls.{Call}
use Rattle.its_model.specs.Station.{StationModel, Step, station_step}
use Rattle.its_model.specs.World.{Event, with_one_more}
use Rattle.its_model.specs.World.What.{Deliver}
use Rattle.its_station.specs.State.{StationState, RepresentsStation}
use Rattle.its_station.specs.Receiving.{IsFrameCall, Tells}
use Rattle.its_station.specs.Steps.{IsStepOf}
use Rattle.its_station.specs.declared.outcome.Outcome.{Outcome}
use Rattle.its_station.specs.declared.refused.Refused.{Refused}
use Rattle.its_world.specs.State.{WorldState}
use Rattle.its_world.specs.Steps.{AreSameBut, IsDelivered, IsDoneBy, IsKept}
use Rattle.its_world.proofs.Done.{done_by, with_room}
use Rattle.its_world.proofs.Giving.{IsToldOf, accepted_told, ignored_told, refused_entry, refused_told}
use Rattle.its_world.proofs.Worlds.{known_there, read_on, same_but_set}
use Rattle.its_world.proofs.Logs.{get_or_is, station_at, undelivered}
use Rattle.its_world.proofs.world.World.deliver.Goals as goal

-- what the station answered to the call that was made
told_by : (answer : Result Outcome Refused) (own after : StationState) (moment : ℕ)
    (P : Call → Type 0) (Q : (step : Step) → Type 0)
    → ((call : Call) × P call × ((s : StationModel) → RepresentsStation own s
    → IsStepOf Tells answer after (station_step s moment call)))
    → ((step : Step) → IsStepOf Tells answer after step → Q step)
    → (call : Call) × P call × ((s : StationModel) → RepresentsStation own s
    → Q (station_step s moment call))
told_by answer own after moment P Q (call, is, by) goes =
    (call, is, λ s rep. goes (station_step s moment call) (by s rep))

pub returns-in_default-clause-step : goal.returns-in_default-clause-step
returns-in_default-clause-step c = λ w h kept. (
    let room = c.make_room.new.self in
    let st : WorldState =
    record {
      stations = c.self.inside.stations.items;
      released = room.released;
      frames = room.kept.items;
    } in
    let e : Event =
    record { station = c.args.station; moment = c.args.moment; what = Deliver c.args.number } in
    let here = with_room _ c.args.self.now w st.released st.frames c.self.view_is h
    c.make_room.ensures.released c.make_room.ensures.kept in
    let kept_here : IsKept st.released e.what =
    subst (λ n. IsKept n e.what)
    (sym (c.make_room.ensures.released ∙ ap (λ (x : WorldState). x.released) c.self.view_is)) kept
    in
    let within : e.station < length st.stations =
    subst (λ (x : WorldState). c.args.station < length x.stations) (sym c.self.view_is)
    c.requires.there in
    let at = station_at st w e.station here within in
    let none : IsDelivered st.released st.frames e.what None =
    ap (option_map (λ octets. octets.now)) (sym c.in_default.is) ∙ c.get.ensures in
    let told = undelivered st w e at.2 here at.3 kept_here none in
    (told.stands, model.Answer.Refused model.Refusal.NoSuchFrame, refl, told.last))

pub receive-answer-requires : goal.receive-answer-requires
receive-answer-requires c =
    let inside = c.self.inside in
    let room = c.make_room.new.self in
    record {
      contents = known_there (λ contents. contents.now) c.contents_of-contents.result inside.read
          room.released room.kept.items c.args.number c.in-Some.frame.now
          (read_on inside.read inside.air.released room.released inside.air.kept.items
          room.kept.items None c.make_room.ensures.released c.make_room.ensures.kept
          c.self.invariant)
          (sym (ap (option_map (λ octets. octets.now)) (sym c.in-Some.is) ∙ c.get.ensures))
          c.contents_of-contents.ensures;
    }

pub invariant_of-self-in-Ok-Accepted : goal.invariant_of-self-in-Ok-Accepted
invariant_of-self-in-Ok-Accepted c =
    let inside = c.self.inside in
    read_on inside.read inside.air.released c.number.new.self.released inside.air.kept.items
    c.number.new.self.kept.items c.in-Ok-Accepted.sent
    (c.number.ensures.released ∙ c.make_room.ensures.released)
    (c.number.ensures.given ∙ ap (λ (xs : List (Vec ℕ Global)).
    with_one_more xs c.in-Ok-Accepted.sent) c.make_room.ensures.kept) c.self.invariant

pub returns-in-Ok-Ignored-clause-others : goal.returns-in-Ok-Ignored-clause-others
returns-in-Ok-Ignored-clause-others c =
    let states = c.self.inside.stations.items in
    let number = c.args.station in
    subst (λ (v : WorldState). AreSameBut number v.stations (set states number c.receive-answer.new.station))
    c.self.view_is (same_but_set states number c.receive-answer.new.station)

pub returns-in-Ok-Accepted-clause-others : goal.returns-in-Ok-Accepted-clause-others
returns-in-Ok-Accepted-clause-others c =
    let states = c.self.inside.stations.items in
    let number = c.args.station in
    subst (λ (v : WorldState). AreSameBut number v.stations (set states number c.receive-answer.new.station))
    c.self.view_is (same_but_set states number c.receive-answer.new.station)

pub returns-in-Ok-Ignored-clause-step : goal.returns-in-Ok-Ignored-clause-step
returns-in-Ok-Ignored-clause-step c =
    let room = c.make_room.new.self in
    let st : WorldState =
    record {
      stations = c.self.inside.stations.items;
      released = room.released;
      frames = room.kept.items;
    } in
    let e : Event =
    record { station = c.args.station; moment = c.args.moment; what = Deliver c.args.number } in
    let own = c.index_mut.result.now in
    let after = c.receive-answer.new.station in
    let octets = c.in-Some.frame.now in
    done_by c.args.self.now st
    (record {
      stations = set st.stations e.station after;
      released = room.released;
      frames = room.kept.items;
    }) e own after octets _ None (st.released + length st.frames) c.one_frame.ensures
    (λ t f enc fault. c.one_frame_fault.ensures.none t octets f c.receive-answer.ensures.bytes enc fault)
    (λ w h. with_room _ c.args.self.now w st.released st.frames c.self.view_is h
    c.make_room.ensures.released c.make_room.ensures.kept)
    (c.make_room.ensures.released ∙ ap (λ (x : WorldState). x.released) c.self.view_is)
    (subst (λ (x : WorldState). c.args.station < length x.stations) (sym c.self.view_is)
    c.requires.there)
    (λ x at. c.index_mut.ensures.value ∙ get_or_is st.stations e.station x own at)
    (ap (option_map (λ octets. octets.now)) (sym c.in-Some.is) ∙ c.get.ensures)
    (told_by c.receive-answer.result own after c.args.moment (IsFrameCall octets)
    (IsToldOf _ None (st.released + length st.frames) after)
    c.receive-answer.ensures.step
    (λ step is. ignored_told c.in-Ok-Ignored.why (st.released + length st.frames) after step
    (subst (λ (r : Result Outcome Refused). IsStepOf Tells r after step)
    (c.in-Ok-Ignored.is ∙ ap Ok c.in-Ok-Ignored.field-0-is) is)))
    refl refl refl refl

pub returns-in-Err-clause-step : goal.returns-in-Err-clause-step
returns-in-Err-clause-step c =
    let room = c.make_room.new.self in
    let st : WorldState =
    record {
      stations = c.self.inside.stations.items;
      released = room.released;
      frames = room.kept.items;
    } in
    let e : Event =
    record { station = c.args.station; moment = c.args.moment; what = Deliver c.args.number } in
    let own = c.index_mut.result.now in
    let after = c.receive-answer.new.station in
    let octets = c.in-Some.frame.now in
    let new : WorldState =
    record {
      stations = set st.stations e.station after;
      released = room.released;
      frames = room.kept.items;
    } in
    refused_entry c.refusal.result c.in-Err.refused (IsDoneBy c.args.self.now new e)
    c.refusal.ensures (λ some.
    done_by c.args.self.now st new e own after octets _ None (st.released + length st.frames) c.one_frame.ensures
    (λ t f enc fault. c.one_frame_fault.ensures.none t octets f c.receive-answer.ensures.bytes enc fault)
    (λ w h. with_room _ c.args.self.now w st.released st.frames c.self.view_is h
    c.make_room.ensures.released c.make_room.ensures.kept)
    (c.make_room.ensures.released ∙ ap (λ (x : WorldState). x.released) c.self.view_is)
    (subst (λ (x : WorldState). c.args.station < length x.stations) (sym c.self.view_is)
    c.requires.there)
    (λ x at. c.index_mut.ensures.value ∙ get_or_is st.stations e.station x own at)
    (ap (option_map (λ octets. octets.now)) (sym c.in-Some.is) ∙ c.get.ensures)
    (told_by c.receive-answer.result own after c.args.moment (IsFrameCall octets)
    (IsToldOf _ None (st.released + length st.frames) after)
    c.receive-answer.ensures.step
    (λ step is. refused_told c.in-Err.refused (st.released + length st.frames) after step some
    (subst (λ (r : Result Outcome Refused). IsStepOf Tells r after step) c.in-Err.is is)))
    refl refl refl refl)

pub returns-in-Ok-Accepted-clause-step : goal.returns-in-Ok-Accepted-clause-step
returns-in-Ok-Accepted-clause-step c =
    let room = c.make_room.new.self in
    let st : WorldState =
    record {
      stations = c.self.inside.stations.items;
      released = room.released;
      frames = room.kept.items;
    } in
    let e : Event =
    record { station = c.args.station; moment = c.args.moment; what = Deliver c.args.number } in
    let own = c.index_mut.result.now in
    let after = c.receive-answer.new.station in
    let octets = c.in-Some.frame.now in
    done_by c.args.self.now st
    (record {
      stations = set st.stations e.station after;
      released = c.number.new.self.released;
      frames = c.number.new.self.kept.items;
    }) e own after octets _ c.in-Ok-Accepted.sent c.count.result c.one_frame.ensures
    (λ t f enc fault. c.one_frame_fault.ensures.none t octets f c.receive-answer.ensures.bytes enc fault)
    (λ w h. with_room _ c.args.self.now w st.released st.frames c.self.view_is h
    c.make_room.ensures.released c.make_room.ensures.kept)
    (c.make_room.ensures.released ∙ ap (λ (x : WorldState). x.released) c.self.view_is)
    (subst (λ (x : WorldState). c.args.station < length x.stations) (sym c.self.view_is)
    c.requires.there)
    (λ x at. c.index_mut.ensures.value ∙ get_or_is st.stations e.station x own at)
    (ap (option_map (λ octets. octets.now)) (sym c.in-Some.is) ∙ c.get.ensures)
    (told_by c.receive-answer.result own after c.args.moment (IsFrameCall octets)
    (IsToldOf _ c.in-Ok-Accepted.sent c.count.result after)
    c.receive-answer.ensures.step
    (λ step is. accepted_told c.in-Ok-Accepted.handed c.in-Ok-Accepted.sent
    c.in_room-handed.result c.number_of-number.result c.count.result after step
    (subst (λ (r : Result Outcome Refused). IsStepOf Tells r after step)
    (c.in-Ok-Accepted.is ∙ ap Ok c.in-Ok-Accepted.field-0-is) is) c.in_room-handed.ensures
    c.number_of-number.ensures))
    c.count.ensures refl c.number.ensures.released c.number.ensures.given
