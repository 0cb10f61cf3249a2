-- What the tables of a scenario say of how it runs: its air, its traffic, and what is expected.
use Rattle.std.specs.Prelude.{false, codes}
use Rattle.its_words.specs.Fields.{FieldValues, IsNumber, IsNumberIf, IsNumberOr, IsText, IsTruthOr}
use Rattle.its_words.specs.declared.keys.key.Key.TheVariants as keys
use Rattle.its_model.specs.Contention.{ContentionRule as Rule}
use Rattle.sim_settings.specs.declared.air.Air.{Air}
use Rattle.sim_settings.specs.declared.expectation.Expectation.{Expectation}
use Rattle.sim_settings.specs.declared.expectation.Reached.{Reached}
use Rattle.sim_settings.specs.declared.expectation.Reached.TheVariants as reaches
use Rattle.sim_settings.specs.declared.traffic.Traffic.{Traffic}

-- the keys say this rule of contention: where nothing is said, waits of 1 to 100 ms, a range of
-- 1000 m, and two copies
abbrev pub SaysRule : FieldValues → Rule → Type 0
SaysRule values rule =
    IsNumberOr values keys.ContentionMax 100 rule.max_wait
    × IsNumberOr values keys.ContentionMin 1 rule.min_wait
    × IsNumberOr values keys.ContentionRange 1000 rule.range
    × IsNumberOr values keys.ContentionCopies 2 rule.copies

-- the keys say this air: where nothing is said, frames take 1 ms, none is lost, the draws begin
-- with 0, no station ticks by itself, it isn't said how long it runs, and no station contends
abbrev pub SaysAir : FieldValues → Air → Type 0
SaysAir values air =
    IsNumber values keys.Range air.range
    × IsNumberOr values keys.Delay 1 air.delay
    × IsNumberOr values keys.Loss 0 air.loss
    × IsNumberOr values keys.Seed 0 air.seed
    × IsTruthOr values keys.Beacons false air.beacons
    × IsNumberIf values keys.Until air.until
    × IsTruthOr values keys.Contention false air.contends
    × SaysRule values air.rule

-- the keys say this traffic
abbrev pub SaysTraffic : FieldValues → Traffic → Type 0
SaysTraffic values traffic =
    IsNumber values keys.Period traffic.period
    × IsNumber values keys.Port traffic.port
    × IsNumber values keys.Info traffic.info
    × IsNumber values keys.Tc traffic.class
    × IsNumber values keys.Octets traffic.octets

-- at how many stations a packet has to be delivered: all of them by that word, else so many
abbrev pub SaysReached : FieldValues → Reached → Type 0
SaysReached values reaches.All = IsText values keys.Reached (codes "all")
SaysReached values (reaches.AtLeast count) = IsNumber values keys.Reached count

-- the keys say this of what is expected
abbrev pub SaysExpectation : FieldValues → Expectation → Type 0
SaysExpectation values expected =
    IsNumber values keys.Send expected.send
    × SaysReached values expected.reached
    × IsNumberIf values keys.Within expected.within
