-- Which names stand for one and the same file.
use Rattle.std.specs.Prelude.{◌≡◌, ◌&&◌, ◌||◌, ◌==◌, ℕ, zero, suc, Bool, true, false, List, take}
use Rattle.std.specs.Prelude.{slice_get, length, Option, Some}
use Rattle.std.specs.List.{list_any}
use Rattle.std.specs.Str.{bytes_eq}
use Rattle.cmd_reporting.specs.declared.named_file.Identity.{Identity}
use Rattle.cmd_reporting.specs.declared.named_file.Identity.TheVariants as identities
use Rattle.cmd_reporting.specs.declared.named_file.Inode.{Inode}
use Rattle.cmd_reporting.specs.declared.named_file.NamedFile.{NamedFile}

abbrev pub same_inode : Inode → Inode → Bool
same_inode a b = (a.device == b.device) && (a.inode == b.inode)

-- Files that exist are the same by device and inode. Files that do not exist are the same if they
-- have the same folder and the same last part.
abbrev pub same_identity : Identity → Identity → Bool
same_identity (identities.Existing a) (identities.Existing b) = same_inode a b
same_identity (identities.New a name) (identities.New b other) =
    same_inode a b && bytes_eq name.now other.now
same_identity a b = false

abbrev pub same_known : Option Identity → Option Identity → Bool
same_known (Some a) (Some b) = same_identity a b
same_known a b = false

abbrev pub same_file : NamedFile → NamedFile → Bool
same_file a b = same_known a.identity b.identity

-- whether one of these files is that one
abbrev pub has_file : List NamedFile → NamedFile → Bool
has_file files file = list_any (λ other. same_file other file) files

-- whether the file at a place among those to be written is one of those that are read, or one of
-- those to be written before it
abbrev pub clashes : List NamedFile → List NamedFile → ℕ → NamedFile → Bool
clashes written read place file = has_file read file || has_file (take place written) file

-- the file at this place, if there is one, clashes with none
abbrev pub IsApartAt : List NamedFile → List NamedFile → ℕ → Type 0
IsApartAt written read place = (file : NamedFile) → slice_get written place ≡ Some file
    → clashes written read place file ≡ false

-- so many files to be written clash with none
abbrev pub AreApartTo : ℕ → List NamedFile → List NamedFile → Type 0
AreApartTo zero written read = Unit {0}
AreApartTo (suc n) written read = AreApartTo n written read × IsApartAt written read n

-- no file to be written is one of those that are read, or another one to be written
abbrev pub AreApart : List NamedFile → List NamedFile → Type 0
AreApart written read = AreApartTo (length written) written read

-- The first file to be written that clashes is at this place.
pub record IsClash (written read : List NamedFile) : Type 0 where
  pub place : ℕ
  pub file : NamedFile
  pub is_there : slice_get written place ≡ Some file
  pub clash : clashes written read place file ≡ true
  pub before : AreApartTo place written read
