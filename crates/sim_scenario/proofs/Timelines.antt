-- Timelines of documents, in an air and where it is ignored.
use Rattle.std.proofs.Common.{◌≡◌, Bool, false, sym, subst}
use Rattle.std.specs.Prelude.{Option, Some, None}
use Rattle.its_words.specs.Fields.{FieldValues}
use Rattle.sim_scenario.specs.Scenarios.{ArePartsOf, IsPlain, Parts, SayAirTimeline, SayScenario}
use Rattle.sim_scenario.specs.Scenarios.{SayTimeline, SayTimelineIn, air_if, reads_air}
use Rattle.sim_scenario.specs.declared.reading.AirTable.{AirTable}
use Rattle.sim_scenario.specs.declared.reading.AirTable.TheVariants.{Ignored}
use Rattle.sim_scenario.specs.declared.reading.Reading.{Reading}
use Rattle.sim_scenario.specs.declared.scenario.Scenario.{Scenario}
use Rattle.sim_scenario.specs.declared.timeline.AirTimeline.{AirTimeline}
use Rattle.sim_scenario.specs.declared.timeline.Timeline.{Timeline}
use Rattle.sim_scenario.specs.declared.timeline.Timeline.TheVariants.{Plain, Air, Moves}
use Rattle.toml.specs.Data.{Members}

-- in an air, without the moves of a file
pub say_air : (parts : Parts) (values : FieldValues) (t : AirTimeline) → parts.air ≡ Some values
    → parts.has_moves ≡ false → SayAirTimeline values parts t → SayTimeline parts (Air t)
say_air parts values t air plain say =
    subst (λ (a : Option FieldValues). SayTimelineIn a parts.has_moves parts (Air t)) (sym air)
    (subst (λ (b : Bool). SayTimelineIn (Some values) b parts (Air t)) (sym plain) say)

-- without an air
plain_in : (has_moves : Bool) (parts : Parts) (t : Timeline)
    → SayTimelineIn None has_moves parts t → IsPlain t
plain_in has_moves parts (Plain t) says = tt
plain_in has_moves parts (Air t) says = says
plain_in has_moves parts (Moves t) says = says

-- of a document whose air is ignored
pub ignored_is_plain : (reading : Reading) (document : Members) (parts : Parts) (s : Scenario)
    → reading.air ≡ Ignored → ArePartsOf reading document parts → SayScenario parts s
    → IsPlain s.timeline
ignored_is_plain reading document parts s ignored are say =
    let none : Some None ≡ Some parts.air =
    subst (λ (a : AirTable).
    air_if (reads_air a) reading.settings document ≡ Some parts.air) ignored are.air in
    let is : parts.air ≡ None = cc in
    plain_in parts.has_moves parts s.timeline
    (subst (λ (a : Option FieldValues). SayTimelineIn a parts.has_moves parts s.timeline) is
    say.timeline)
