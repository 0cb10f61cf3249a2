-- Which stations contend, by what their tables and the air say.
use Rattle.std.proofs.Common.{◌≡◌, Bool, true, false, List, [], ◌∷◌, map, ap, refl, subst}
use Rattle.std.proofs.Common.{sym, ◌∙◌}
use Rattle.std.specs.Prelude.{Option, Some, None, cond, is_some}
use Rattle.std.specs.List.{list_any}
use Rattle.std.proofs.Math.Bool.{beq}
use Rattle.its_words.specs.Fields.{FieldValues}
use Rattle.its_words.specs.Keys.{word_of}
use Rattle.its_words.specs.declared.keys.key.Key.TheVariants as keys
use Rattle.sim_scenario.specs.Scenarios.{Parts, SayTimeline, SayTimelineIn, SaysContention, air_in}
use Rattle.sim_scenario.specs.Scenarios.{SaysOwnContention, contends, usual_contention}
use Rattle.sim_scenario.specs.declared.timeline.Timeline.{Timeline}
use Rattle.sim_scenario.specs.declared.timeline.Timeline.TheVariants.{Plain, Air, Moves}
use Rattle.sim_settings.specs.Items.{SayItems}
use Rattle.sim_settings.specs.declared.air_settings.SetAir.{SetAir}
use Rattle.sim_settings.specs.Tables.{table_values}
use Rattle.toml.specs.Data.{Items, no_items, item}

-- one that is said is what the keys say, in an air of any usual value
one_said : (usual : Option Bool) (values : FieldValues) (own : Option Bool)
    → SaysOwnContention (is_some usual) values own
    → SaysContention usual values (contends usual own)
one_said None values own says = refl
one_said (Some usual) values None says =
    subst (λ there. cond there (values.truth (word_of keys.Contention)) (Some usual) ≡ Some usual)
    (sym says) refl
one_said (Some usual) values (Some own) says =
    subst (λ there. cond there (values.truth (word_of keys.Contention)) (Some usual) ≡ Some own)
    (sym says.0) says.1

-- the same of each
pub all_said : (usual : Option Bool) (items : Items) (own : List (Option Bool))
    → SayItems (SaysOwnContention (is_some usual)) items own
    → SayItems (SaysContention usual) items (map (contends usual) own)
all_said usual no_items [] says = tt
all_said usual no_items (o ∷ own) says = absurd says
all_said usual (item found more) [] says = absurd says
all_said usual (item found more) (o ∷ own) says =
    let one = says.0 in (
      (one.0, one.1, one_said usual (table_values one.0) o one.2),
      all_said usual more own says.1,
    )

by_air : (air : Option FieldValues) (has_moves : Bool) (parts : Parts) (t : Timeline)
    → SayTimelineIn air has_moves parts t → is_some air ≡ is_some (usual_contention t)
by_air None has_moves parts (Plain t) says = refl
by_air None has_moves parts (Air t) says = absurd says
by_air None has_moves parts (Moves t) says = absurd says
by_air (Some air) false parts (Plain t) says = absurd says
by_air (Some air) false parts (Air t) says = refl
by_air (Some air) false parts (Moves t) says = absurd says
by_air (Some air) true parts (Plain t) says = absurd says
by_air (Some air) true parts (Air t) says = absurd says
by_air (Some air) true parts (Moves t) says = refl

-- there is a usual value where there is an air
pub in_an_air : (parts : Parts) (t : Timeline) → SayTimeline parts t
    → is_some parts.air ≡ is_some (usual_contention t)
in_an_air parts t says = by_air parts.air parts.has_moves parts t says

-- a table that is there says something, and one that isn't says nothing
pub is_some_air : (air : Option SetAir) → is_some air ≡ is_some (air_in air)
is_some_air None = refl
is_some_air (Some air) = refl

-- what each station says, in the air of a timeline
pub contend_said : (parts : Parts) (t : Timeline) (has : Bool) (usual : Option Bool)
    (own said : List (Option Bool)) (made : List Bool) → has ≡ is_some parts.air
    → SayTimeline parts t → usual ≡ usual_contention t
    → SayItems (SaysOwnContention has) parts.stations said → own ≡ said
    → made ≡ map (contends usual) own
    → SayItems (SaysContention (usual_contention t)) parts.stations made
contend_said parts t has usual own said made there says same each is made_so =
    let in_air : is_some parts.air ≡ is_some (usual_contention t) = in_an_air parts t says in
    let all : made ≡ map (contends (usual_contention t)) said =
    made_so ∙ ap (λ (l : List (Option Bool)). map (contends usual) l) is
    ∙ ap (λ (u : Option Bool). map (contends u) said) same in
    subst (λ (l : List Bool). SayItems (SaysContention (usual_contention t)) parts.stations l)
    (sym all)
    (all_said (usual_contention t) parts.stations said
    (subst (λ (h : Bool). SayItems (SaysOwnContention h) parts.stations said) (there ∙ in_air)
    each))

-- one is true if one that is compared with true is
pub any_is_true : (bs : List Bool) → list_any (λ b. beq b true) bs ≡ list_any (λ b. b) bs
any_is_true [] = refl
any_is_true (true ∷ bs) = refl
any_is_true (false ∷ bs) = any_is_true bs
