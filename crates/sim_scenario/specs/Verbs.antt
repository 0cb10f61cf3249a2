-- What an event of a scenario does, by its word.
use Rattle.its_words.specs.Verbs.{verb_of}
use Rattle.its_words.specs.declared.keys.verb.Verb.TheVariants as verbs
use Rattle.its_words.specs.declared.keys.verb.Verb.{Verb}
use Rattle.its_world.specs.Events.{what_of}
use Rattle.sim_scenario.specs.declared.events.action.Action.{Action}
use Rattle.sim_scenario.specs.declared.events.action.Action.TheVariants as actions

-- the word of what an event of a scenario does
abbrev pub action_verb : Action → Verb
action_verb (actions.Happens what) = verb_of (what_of what)
action_verb (actions.GeobroadcastAround request) = verbs.Gbc
action_verb (actions.GeoanycastAround request) = verbs.Gac
action_verb actions.Leaves = verbs.Leave
