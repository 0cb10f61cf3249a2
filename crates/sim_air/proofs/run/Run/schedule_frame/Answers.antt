use Rattle.std.proofs.Common.{◌≡◌, ◌+◌, ◌∙◌, ap, sym, subst, List, ℕ, Some}
use Rattle.std.specs.Prelude.{OnOk}
use Rattle.sim_settings.specs.declared.air.Air.{Air}
use Rattle.sim_queue.specs.Keeps.{Keeps}
use Rattle.sim_air_model.specs.Timetable.{Rules, send_all, spread_frame, heard_by}
use Rattle.sim_queue.specs.declared.queue.Queue.{Queue}
use Rattle.sim_air.proofs.run.Run.schedule_frame.Goals as goal

pub returns-clause-spread : goal.returns-clause-spread
returns-clause-spread g c = λ rules e w t from at goes_by stands h.
    let run = c.args.self.now in
    let found = c.find_hearers.new.self in
    let queue = c.schedule_deliveries.new.queue in
    let words = c.schedule_deliveries.new.draws in
    let k = c.args.frame in
    let js = heard_by run.air.range run.present.items w e.station in
    let heard : c.as_slice-hearers.result.now ≡ js =
    c.as_slice-hearers.ensures.value ∙ c.in_ok-find_hearers.ensures.heard w stands
    ∙ ap (heard_by run.air.range run.present.items w) (sym from) in
    let kept : Keeps found.queue found.draws t =
    subst (λ (q : Queue). Keeps q found.draws t) (sym c.find_hearers.ensures.queue)
    (subst (λ (ws : List ℕ). Keeps run.queue ws t) (sym c.find_hearers.ensures.draws) h) in
    subst (λ (r : Rules). OnOk c.schedule_deliveries.result
    (Keeps queue words (spread_frame r run.present.items e w (Some k) t))) goes_by
    (subst (λ (a : Air). OnOk c.schedule_deliveries.result
    (Keeps queue words (send_all a.loss k (e.moment + a.delay) js t)))
    c.find_hearers.ensures.world.air
    (subst (λ (l : List ℕ). OnOk c.schedule_deliveries.result
    (Keeps queue words (send_all found.air.loss k (e.moment + found.air.delay) l t))) heard
    (subst (λ d. OnOk c.schedule_deliveries.result
    (Keeps queue words (send_all found.air.loss k (e.moment + d) c.as_slice-hearers.result.now t)))
    c.from.ensures
    (subst (λ m. OnOk c.schedule_deliveries.result
    (Keeps queue words (send_all found.air.loss k (m + c.from.result) c.as_slice-hearers.result.now
    t))) (sym at) (c.schedule_deliveries.ensures.sent t kept)))))
