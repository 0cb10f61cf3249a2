-- The documents of scenarios.
use Rattle.std.specs.Prelude.{◌≡◌, ℕ, List, IsSome, IsUtf8}
use Rattle.toml.specs.Parse.{parse_document}
use Rattle.sim_scenario.specs.declared.fault.ScenarioFault.{ScenarioFault}
use Rattle.sim_scenario.specs.declared.fault.ScenarioFault.TheVariants.{NotToml}
use Rattle.sim_scenario.specs.declared.position.TomlFault.{TomlFault}

-- the text is a TOML document
abbrev pub IsToml : List ℕ → Type 0
IsToml text = IsUtf8 text × IsSome (parse_document text)

-- the fault is that the text is no TOML
abbrev pub IsOfToml : ScenarioFault → Type 0
IsOfToml fault = (place : TomlFault) × (fault ≡ NotToml place)
