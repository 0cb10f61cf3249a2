-- The files of a run, which are all different ones.
use denote.Ref.{Bor}
use Rattle.std.specs.Prelude.{◌≡◌, ◌++◌, ◌∷◌, ℕ, List, map, option_to_list}
use Rattle.std.specs.Option.{option_map}
use Rattle.cmd_reporting.specs.NamedFiles.{AreApart}
use Rattle.cmd_reporting.specs.declared.named_file.NamedFile.{NamedFile}
use Rattle.sim_runs.specs.declared.files.RunFiles.{RunFiles}

abbrev pub names_of : List NamedFile → List (Bor (List ℕ))
names_of files = map (λ file. file.name) files

-- what is written: the frames, and the numbers
abbrev pub names_written : RunFiles → List (Bor (List ℕ))
names_written files =
    ((option_to_list (option_map (λ target. target.name) files.frames)
    ++ option_to_list files.results.sends)
    ++ option_to_list files.results.stations)
    ++ option_to_list files.results.load

-- what is read: the scenario, and the moves
abbrev pub names_read : RunFiles → List (Bor (List ℕ))
names_read files = files.scenario ∷ option_to_list files.moves

-- No file that is written is one that is read, or another one that is written.
pub record AreAllApart (files : RunFiles) : Type 0 where
  pub written : List NamedFile
  pub read : List NamedFile
  pub written_are : names_of written ≡ names_written files
  pub read_are : names_of read ≡ names_read files
  pub apart : AreApart written read
