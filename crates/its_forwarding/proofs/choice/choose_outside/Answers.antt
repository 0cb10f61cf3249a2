use Rattle.std.proofs.Common.{ℕ, true, false, sym, ap, ◌∙◌}
use Rattle.its_geometry.specs.Offsets.{squared_distance}
use Rattle.its_model.specs.Decision.{next_hop, toward}
use Rattle.its_model.specs.Stations.{stations_at}
use Rattle.its_loctable.specs.Content.{Represents}
use Rattle.its_forwarding.proofs.Decisions.{decision_is}
use Rattle.its_forwarding.proofs.choice.choose_outside.Goals as goal

pub returns-then-is_sender_inside-clause-choice : goal.returns-then-is_sender_inside-clause-choice
returns-then-is_sender_inside-clause-choice g c = λ history rep.
    sym (decision_is
    (stations_at (g.S.LocationStore.remember c.args.store.now) c.args.now history) c.args.own
    c.args.area.now c.args.sender false true c.requires.outside
    (sym (c.is_sender_inside.ensures history rep) ∙ c.if-is_sender_inside.true))

pub returns-clause-choice : goal.returns-clause-choice
returns-clause-choice g c = λ history rep.
    let S = g.S.LocationStore in
    let old = c.args.store.now in
    let new = c.keep_nearest-nearest.new.self in
    let now = c.args.now in
    let centre = c.args.area.now.centre in
    let same = c.keep_nearest-nearest.ensures.remember in
    let kept : Represents (S.remember new) (S.content new) history now =
    rw (same, c.keep_nearest-nearest.ensures.unchanged) rep in
    c.greedy.ensures history kept
    ∙ ap (λ (m : ℕ). toward (next_hop centre (squared_distance centre c.args.own)
    (stations_at m now history))) same
    ∙ sym (decision_is (stations_at (S.remember old) now history) c.args.own
    c.args.area.now c.args.sender false false c.requires.outside
    (sym (c.is_sender_inside.ensures history rep) ∙ c.if-is_sender_inside.false))
