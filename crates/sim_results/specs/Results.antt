-- The files of numbers of a run.
use Rattle.std.specs.Prelude.{◌≡◌, None}
use Rattle.sim_results.specs.declared.results.ResultFiles.{ResultFiles}

-- no file is named
pub record IsNoFile (files : ResultFiles) : Type 0 where
  pub sends : files.sends ≡ None
  pub stations : files.stations ≡ None
  pub load : files.load ≡ None
