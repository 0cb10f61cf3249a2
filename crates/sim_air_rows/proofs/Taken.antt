-- Of a run line by line: whatever ran so took just these lines.
use Rattle.std.proofs.Common.{◌≡◌, ℕ, List, [], ◌∷◌, ◌++◌, map, length, refl, sym, ap, subst, ◌∙◌}
use Rattle.std.proofs.lemmas.Grind.{reverse_onto}
use Rattle.std.proofs.lemmas.List.{map_push}
use Rattle.its_model.specs.Calls.{Answer}
use Rattle.its_model.specs.World.{Config, LogLine, opening, world_run, entries}
use Rattle.its_world.specs.Entries.{AreEntries, Entry}
use Rattle.sim_air_model.specs.Carried.{world_at}
use Rattle.sim_air_model.specs.Heard.{air_at}
use Rattle.sim_air_model.specs.Timetable.{Rules, Filed, AirModel}
use Rattle.sim_air_model.proofs.OneRun.{one_run}
use Rattle.sim_air_rows.specs.Lines.{Line, lines_of, line_of, IsRun, RunsTake}

-- the answers of a log are those of its lines
answers_are : (log : List LogLine) → entries log ≡ map (λ line. line.entry) (lines_of log)
answers_are [] = refl
answers_are (done ∷ before) =
    reverse_onto (map (λ line. line.entry) before) done.entry []
    ∙ ap (λ (xs : List (Answer ℕ)). xs ++ done.entry ∷ []) (answers_are before)
    ∙ sym (map_push (λ line. line.entry) (lines_of before) (line_of (length before) done))

pub runs_take : (rules : Rules) (configs : List Config) (file : List Filed) (lines : List Line)
    → IsRun rules configs file lines → RunsTake rules configs file lines
runs_take rules configs file lines is world events log ran =
    let same : air_at rules configs file ran.steps ≡ air_at rules configs file is.steps =
    one_run rules configs file ran.steps is.steps ran.over is.over in
    let answers = ap (λ (a : AirModel). entries (world_run (opening configs) a.done).log) same
    ∙ answers_are (world_at rules configs file is.steps).log
    ∙ ap (map (λ (line : Line). line.entry)) is.logged in
    let took = ran.run.took in (
      sym took.0 ∙ ap (λ (a : AirModel). a.done) same ∙ is.done,
      subst (λ (xs : List (Answer ℕ)). AreEntries log xs) answers
          (subst (λ (es : List Entry). AreEntries es
          (entries (world_run (opening configs) (air_at rules configs file ran.steps).done).log))
          took.1 ran.run.told),
    )
