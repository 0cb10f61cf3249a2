use Rattle.std.proofs.Common.{◌≡◌, Bool, true, false, not, ap, refl, sym, ◌∙◌}
use Rattle.its_model.specs.History.{is_remembered}
use Rattle.its_model.specs.Stations.{stations_at, is_full}
use Rattle.its_loctable.specs.Heard.{is_repeated}
use Rattle.its_loctable.proofs.VerdictLemmas.{verdict_at-by}
use Rattle.its_loctable.proofs.store.LocationStore.find.Goals as goal
use Rattle.its_loctable.proofs.store.LocationStore.find.Goals.{in-Some+else-remembers, in_default}

pub returns-then-remembers-clause-verdict : goal.returns-then-remembers-clause-verdict
returns-then-remembers-clause-verdict g c = λ history rep.
    let remember = g.Self.LocationStore.remember c.args.self.now in
    let heard = c.args.h.now in
    sym (verdict_at-by remember (g.Self.LocationStore.limit c.args.self.now) c.args.now heard
    history true _
    (ap (λ o. is_repeated remember o heard.vector.address c.args.now history)
    (sym c.in-Some.ensures)
    ∙ ap (λ a. is_remembered remember a c.in-Some.number c.args.now history)
    (sym c.address-address.ensures)
    ∙ sym (c.remembers.ensures history rep) ∙ c.if-remembers.true) refl)

pub returns-then-has_room-clause-verdict : goal.returns-then-has_room-clause-verdict
returns-then-has_room-clause-verdict g c = λ history rep.
    let remember = g.Self.LocationStore.remember c.args.self.now in
    let limit = g.Self.LocationStore.limit c.args.self.now in
    let heard = c.args.h.now in
    let new : is_repeated remember heard.number heard.vector.address c.args.now history ≡ false =
    elim c.match-number.branch [
      | in-Some+else-remembers w ↦
          ap (λ o. is_repeated remember o heard.vector.address c.args.now history)
          (sym w.in-Some.ensures)
          ∙ ap (λ a. is_remembered remember a w.in-Some.number c.args.now history)
          (sym c.address-address.ensures)
          ∙ sym (w.remembers.ensures history rep) ∙ w.if-remembers.false
      | in_default w ↦
          ap (λ o. is_repeated remember o heard.vector.address c.args.now history)
          (sym w.in_default.ensures)
    ] in
    let room : is_full limit heard.vector.address (stations_at remember c.args.now history)
    ≡ false =
    ap (λ a. is_full limit a (stations_at remember c.args.now history))
    (sym c.address-address.ensures)
    ∙ emptied _ _ (c.has_room.ensures history rep) c.if-has_room.true in
    sym (verdict_at-by remember limit c.args.now heard history false false new room)
  where
    emptied : (b f : Bool) → b ≡ not f → b ≡ true → f ≡ false
    emptied b true e is = sym is ∙ e
    emptied b false e is = refl

pub returns-else-has_room-clause-verdict : goal.returns-else-has_room-clause-verdict
returns-else-has_room-clause-verdict g c = λ history rep.
    let remember = g.Self.LocationStore.remember c.args.self.now in
    let limit = g.Self.LocationStore.limit c.args.self.now in
    let heard = c.args.h.now in
    let new : is_repeated remember heard.number heard.vector.address c.args.now history ≡ false =
    elim c.match-number.branch [
      | in-Some+else-remembers w ↦
          ap (λ o. is_repeated remember o heard.vector.address c.args.now history)
          (sym w.in-Some.ensures)
          ∙ ap (λ a. is_remembered remember a w.in-Some.number c.args.now history)
          (sym c.address-address.ensures)
          ∙ sym (w.remembers.ensures history rep) ∙ w.if-remembers.false
      | in_default w ↦
          ap (λ o. is_repeated remember o heard.vector.address c.args.now history)
          (sym w.in_default.ensures)
    ] in
    let full : is_full limit heard.vector.address (stations_at remember c.args.now history)
    ≡ true =
    ap (λ a. is_full limit a (stations_at remember c.args.now history))
    (sym c.address-address.ensures)
    ∙ filled _ _ (c.has_room.ensures history rep) c.if-has_room.false in
    sym (verdict_at-by remember limit c.args.now heard history false true new full)
  where
    filled : (b f : Bool) → b ≡ not f → b ≡ false → f ≡ true
    filled b true e is = refl
    filled b false e is = sym is ∙ e
