use Rattle.std.proofs.Common.{rules, ◌≡◌, ◌∷◌, ◌++◌, []}
use Rattle.std.specs.Prelude.{◌&&◌}
use Rattle.std.specs.List.{list_all}
use Rattle.std.proofs.lemmas.List.Folds.{list_all-append}
use Rattle.its_world.specs.Entries.{was_done}
use Rattle.sim_runs.proofs.sinks.RunSinksEventSink.put.Goals as goal

-- the entries so far, and this one
pub returns : goal.returns
returns g c = λ events log same.
    let more : list_all was_done (log ++ c.args.done.now.entry.now ∷ [])
    ≡ (list_all was_done log && list_all was_done (c.args.done.now.entry.now ∷ [])) =
    list_all-append was_done log (c.args.done.now.entry.now ∷ []) in
    search rules
