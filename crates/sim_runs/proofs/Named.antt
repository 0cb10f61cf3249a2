-- The names of files.
use denote.Ref.{Bor}
use Rattle.std.proofs.Common.{◌≡◌, ℕ, List, [], ◌∷◌, ◌++◌, refl, ap}
use Rattle.cmd_reporting.specs.declared.named_file.NamedFile.{NamedFile}
use Rattle.sim_runs.specs.Files.{names_of}

-- those with one more file
pub names_last : (files : List NamedFile) (file : NamedFile)
    → names_of (files ++ file ∷ []) ≡ names_of files ++ file.name ∷ []
names_last [] file = refl
names_last (f ∷ files) file = ap (λ (names : List (Bor (List ℕ))). f.name ∷ names)
    (names_last files file)
