use Rattle.std.proofs.Common.{true, false, sym, ◌∙◌, refl}
use Rattle.its_model.specs.Stations.{stations_at}
use Rattle.its_forwarding.proofs.Decisions.{decision_is}
use Rattle.its_forwarding.proofs.choice.choose.Goals as goal

pub returns-then-contains : goal.returns-then-contains
returns-then-contains g c = λ history rep.
    sym (decision_is
    (stations_at (g.S.LocationStore.remember c.args.store.now) c.args.now history) c.args.own
    c.args.area.now c.args.sender true _
    (sym c.contains.ensures.value ∙ c.if-contains.true) refl)

pub returns-then-is_sender_inside : goal.returns-then-is_sender_inside
returns-then-is_sender_inside g c = λ history rep.
    sym (decision_is
    (stations_at (g.S.LocationStore.remember c.args.store.now) c.args.now history) c.args.own
    c.args.area.now c.args.sender false true
    (sym c.contains.ensures.value ∙ c.if-contains.false)
    (sym (c.is_sender_inside.ensures history rep) ∙ c.if-is_sender_inside.true))

pub returns : goal.returns
returns g c = λ history rep.
    c.greedy.ensures history rep
    ∙ sym (decision_is
    (stations_at (g.S.LocationStore.remember c.args.store.now) c.args.now history) c.args.own
    c.args.area.now c.args.sender false false
    (sym c.contains.ensures.value ∙ c.if-contains.false)
    (sym (c.is_sender_inside.ensures history rep) ∙ c.if-is_sender_inside.false))
