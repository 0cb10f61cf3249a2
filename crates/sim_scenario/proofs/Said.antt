-- Events of a file that are read, and then done where their stations are.
use Rattle.std.proofs.Common.{◌++◌, List, [], ◌∷◌, subst, sym}
use Rattle.its_gnvalue.specs.Values.{Position}
use Rattle.its_words.specs.Fields.{FieldValues}
use Rattle.sim_settings.specs.Items.{SayItems}
use Rattle.sim_settings.specs.Tables.{table_values}
use Rattle.its_words.specs.declared.keys.key.Key.TheVariants as keys
use Rattle.its_words.specs.Fields.{IsNumber}
use Rattle.sim_scenario.specs.Actions.{IsDoneAt}
use Rattle.sim_scenario.specs.Saying.{SaysFileEvent, SaysStationEvent}
use Rattle.sim_scenario.specs.declared.events.event.FileEvent.{FileEvent}
use Rattle.sim_scenario.specs.declared.events.event.StationEvent.{StationEvent}
use Rattle.toml.specs.Data.{Items, no_items, item}

-- it is the event, done where its station is
abbrev pub IsDone : StationEvent → FileEvent → Type 0
IsDone event filed =
    (place : Position) × IsDoneAt event.action event.station event.moment place filed

-- each is the event in its place
abbrev pub AreDone : List StationEvent → List FileEvent → Type 0
AreDone [] [] = Unit {0}
AreDone [] (f ∷ file) = ⊥
AreDone (e ∷ events) [] = ⊥
AreDone (e ∷ events) (f ∷ file) = IsDone e f × AreDone events file

-- one more is done
pub done_more : (events : List StationEvent) (file : List FileEvent) (e : StationEvent)
    (f : FileEvent) → AreDone events file → IsDone e f
    → AreDone (events ++ e ∷ []) (file ++ f ∷ [])
done_more [] [] e f all one = (one, tt)
done_more [] (g ∷ file) e f all one = absurd all
done_more (d ∷ events) [] e f all one = absurd all
done_more (d ∷ events) (g ∷ file) e f all one = (all.0, done_more events file e f all.1 one)

one_says : (values : FieldValues) (e : StationEvent) (f : FileEvent) → IsDone e f
    → SaysStationEvent values e → SaysFileEvent values f
one_says values e f done says = (
  e.action,
  done.0,
  subst (IsNumber values keys.Station) (sym done.1.0) says.0,
  subst (IsNumber values keys.At) (sym done.1.1) says.1,
  says.2,
  done.1.2,
)

-- what says the events, says them as they are done
pub done_say : (items : Items) (events : List StationEvent) (file : List FileEvent)
    → AreDone events file → SayItems SaysStationEvent items events
    → SayItems SaysFileEvent items file
done_say no_items [] [] done says = tt
done_say no_items [] (f ∷ file) done says = absurd done
done_say no_items (e ∷ events) file done says = absurd says
done_say (item found more) [] file done says = absurd says
done_say (item found more) (e ∷ events) [] done says = absurd done
done_say (item found more) (e ∷ events) (f ∷ file) done says =
    let one = says.0 in (
      (one.0, one.1, one_says (table_values one.0) e f done.0 one.2),
      done_say more events file done.1 says.1,
    )
