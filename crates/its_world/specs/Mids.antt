-- Stations that share a MID.
use Rattle.std.specs.Prelude.{◌≡◌, ◌≢◌, ℕ, ◌<◌, List, length, map, slice_index, codes}
use Rattle.its_gnvalue.specs.Values.{mid_of}
use Rattle.its_world.specs.declared.config.Config.{Config}
use Rattle.its_world.specs.declared.config.WorldFault.{WorldFault}
use Rattle.its_world.specs.declared.config.WorldFault.TheVariants as faults

-- the MIDs of stations
abbrev pub mids : List Config → List ℕ
mids configs = map (λ c. mid_of c.address) configs

-- no two of the first stations have the same MID
abbrev pub AreApartBelow : ℕ → List Config → Type 0
AreApartBelow count configs =
    (i j : ℕ) → i < j → j < count → slice_index (mids configs) i ≢ slice_index (mids configs) j

-- no two stations have the same MID
abbrev pub AreApart : List Config → Type 0
AreApart configs = AreApartBelow (length configs) configs

-- the second station is the first that has the MID of an earlier one, and the first is that one
pub record ShareMid (configs : List Config) (first second : ℕ) : Type 0 where
  pub order : first < second
  pub within : second < length configs
  pub same : slice_index (mids configs) first ≡ slice_index (mids configs) second
  pub earlier : AreApartBelow second configs

-- two stations share a MID, and the fault names the first such pair; or none do, and it is another
-- one
abbrev pub IsMidFault : WorldFault → List Config → Type 0
IsMidFault (faults.SameMid first second) configs = ShareMid configs first second
IsMidFault faults.NoMemory configs = AreApart configs

-- the code that logs show
abbrev pub mid_code : WorldFault → List ℕ
mid_code (faults.SameMid first second) = codes "M1"
mid_code faults.NoMemory = codes "M2"
