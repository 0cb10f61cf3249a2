-- A run that is under way, from one step to the next, whether stations contend or not.
use Rattle.std.proofs.Common.{◌≡◌, ◌<◌, ◌++◌, ◌∷◌, [], ◌∙◌, ℕ, List, Bool, true, false, All, length}
use Rattle.std.proofs.Common.{refl, sym, ap, subst, append-nil, append_assoc, take, Some, suc, arith}
use Rattle.std.proofs.Common.{Result, Ok, Err, ◌+◌}
use Rattle.std.specs.Prelude.{OnOk, slice_get}
use Rattle.std.proofs.lemmas.List.Elements.{All-nil, All-push}
use denote.Ref.{Bor}
use Rattle.its_model.specs.World.{Config, Event, WorldModel, entries, opening, world_run}
use Rattle.its_model.specs.EverySchedule.{HoldsOfSchedules}
use Rattle.its_world.specs.Entries.{AreEntries, Entry}
use Rattle.its_world.specs.Events.{event_of}
use Rattle.its_world.specs.State.{RepresentsWorld, WorldState}
use Rattle.its_world.proofs.Late.{were_there}
use Rattle.sim_simulation.specs.Simulated.{IsSimulated, IsSimulation}
use Rattle.sim_scenario.specs.Events.{station_in}
use Rattle.sim_scenario.specs.declared.events.event.FileEvent.{FileEvent}
use Rattle.sim_scenario.specs.declared.events.event.FileEvent.TheVariants as files
use Rattle.sim_air_model.specs.Timetable.{Filed}
use Rattle.sim_air.specs.AirRun.{IsAirRun, events_in}
use Rattle.sim_air.specs.Beside.{AreThere, MayBeMade}
use Rattle.sim_air.specs.Contenders.{IsMadeRun}
use Rattle.sim_air.specs.Due.{AreDue}
use Rattle.sim_air.specs.FileEvents.{filed_in, filed_of}
use Rattle.sim_air.specs.Going.{GoesOn, IsGoing}
use Rattle.sim_air.specs.Runs.{SaysAsBefore}
use Rattle.sim_air.proofs.Among.{among_longer}
use Rattle.sim_air.proofs.BesideMade.{still_there}
use Rattle.sim_air.proofs.Moved.{as_many}
use Rattle.sim_air.proofs.Under.{among_line, front_more, told_on}

-- ---- events

there_more : (grows : Bool) (configs : List Config) (events : List Event) (e : Event)
    → e.station < length configs → AreThere grows configs events
    → AreThere grows configs (events ++ e ∷ [])
there_more true configs events e lt h =
    All-push (λ (x : Event). x.station < length configs) events e h lt
there_more false configs events e lt h = tt

-- an event of a station that is there is done
pub one_done : (grows : Bool) (e : Event) (old new : WorldState)
    (A B : List Event → List Entry → Type 0) → e.station < length old.stations
    → ((configs : List Config) (events : List Event) → IsSimulated configs events old A
    → IsSimulated configs (events ++ e ∷ []) new B)
    → GoesOn grows old A new B
one_done grows e old new A B lt does = λ configs past h.
    record {
      made = h.made;
      may_be_made = h.may_be_made;
      all = h.all;
      are_all = h.are_all;
      events = h.events ++ e ∷ [];
      run = does h.all h.events h.run;
      there = there_more grows h.all h.events e
          (subst (λ (n : ℕ). e.station < n) (as_many h.all h.events old A h.run) lt) h.there;
      among = among_longer past h.events (e ∷ []) h.among;
    }

-- where it was done well
pub one_well : {X E : Type 0} (result : Result X E) (grows : Bool) (e : Event)
    (old new : WorldState) (A B : List Event → List Entry → Type 0)
    → e.station < length old.stations
    → ((configs : List Config) (events : List Event) → IsSimulated configs events old A
    → OnOk result (IsSimulated configs (events ++ e ∷ []) new B))
    → OnOk result (GoesOn grows old A new B)
one_well (Ok x) grows e old new A B lt does = one_done grows e old new A B lt does
one_well (Err x) grows e old new A B lt does = tt

-- the world is as it was, and the sink was told more, of which it says nothing
pub stays : (grows : Bool) (old new : WorldState) (A B : List Event → List Entry → Type 0)
    → new ≡ old → SaysAsBefore A B → GoesOn grows old A new B
stays grows old new A B same says = λ configs past h.
    record {
      made = h.made;
      may_be_made = h.may_be_made;
      all = h.all;
      are_all = h.are_all;
      events = h.events;
      run = subst (λ (w : WorldState). IsSimulated h.all h.events w B) (sym same)
          (told_on h.all h.events old A B says h.run);
      there = h.there;
      among = h.among;
    }

-- frames were let go
pub lets_go : (grows : Bool) (old new : WorldState) (A : List Event → List Entry → Type 0)
    → ((w : WorldModel) → RepresentsWorld old w → RepresentsWorld new w)
    → GoesOn grows old A new A
lets_go grows old new A stands = λ configs past h.
    record {
      made = h.made;
      may_be_made = h.may_be_made;
      all = h.all;
      are_all = h.are_all;
      events = h.events;
      run =
          record {
            stands = stands (world_run (opening h.all) h.events) h.run.stands;
            laws = h.run.laws;
            log = h.run.log;
            told = h.run.told;
            took = h.run.took;
          };
      there = h.there;
      among = h.among;
    }

-- what happens wherever it is called
pub always_ok : {X E : Type 0} (result : Result X E) (P : Type 0) → P → OnOk result P
always_ok (Ok x) P h = h
always_ok (Err e) P h = tt

-- ---- what comes from outside

-- an event or leave of a station that is there
pub filed_well : {X E : Type 0} (result : Result X E) (f : FileEvent) (old new : WorldState)
    (A B : List Event → List Entry → Type 0) → station_in f < length old.stations
    → ((configs : List Config) (events : List Event) → IsSimulated configs events old A
    → OnOk result (IsSimulated configs (events ++ events_in (filed_of f ∷ [])) new B))
    → OnOk result (GoesOn true old A new B)
filed_well result (files.Happens e) old new A B lt does =
    one_well result true (event_of e) old new A B lt does
filed_well (Err x) (files.Leaves station moment) old new A B lt does = tt
filed_well (Ok x) (files.Leaves station moment) old new A B lt does = λ configs past h.
    record {
      made = h.made;
      may_be_made = h.may_be_made;
      all = h.all;
      are_all = h.are_all;
      events = h.events;
      run = subst (λ (l : List Event). IsSimulated h.all l new B) (append-nil h.events)
          (does h.all h.events h.run);
      there = h.there;
      among = h.among;
    }

-- the next of a file was done
pub done_next : (configs : List Config) (due : List (Bor FileEvent)) (n : ℕ) (e : Bor FileEvent)
    (old new : WorldState) (A B : List Event → List Entry → Type 0) → slice_get due n ≡ Some e
    → ((cs : List Config) (events : List Event) → IsSimulated cs events old A
    → IsSimulated cs (events ++ events_in (filed_of e.now ∷ [])) new B)
    → IsGoing false configs (events_in (take n (filed_in due))) old A
    → IsGoing false configs (events_in (take (n + 1) (filed_in due))) new B
done_next configs due n e old new A B is does h =
    let past : List Filed = take n (filed_in due) in
    let next : suc n ≡ n + 1 = omega arith in
    let taken : past ++ filed_of e.now ∷ [] ≡ take (n + 1) (filed_in due) =
    sym (front_more due n e is) ∙ ap (λ (k : ℕ). take k (filed_in due)) next in
    subst (λ (l : List Filed). IsGoing false configs (events_in l) new B) taken
    (record {
      made = h.made;
      may_be_made = h.may_be_made;
      all = h.all;
      are_all = h.are_all;
      events = h.events ++ events_in (filed_of e.now ∷ []);
      run = does h.all h.events h.run;
      there = tt;
      among = among_line past h.events (filed_of e.now) h.among;
    })

-- ---- stations that are made

-- a station is made, and a sink is told so
pub station_made : (c : Config) (old new : WorldState) (A B : List Event → List Entry → Type 0)
    → ((configs : List Config) (events : List Event) → IsSimulation configs events old
    → All (λ e. e.station < length configs) events
    → IsSimulation (configs ++ c ∷ []) events new)
    → SaysAsBefore A B → GoesOn true old A new B
station_made c old new A B adds says = λ configs past h.
    let told = h.run in
    let done = adds h.all h.events (record { stands = told.stands; laws = told.laws }) h.there in
    record {
      made = h.made ++ c ∷ [];
      may_be_made = tt;
      all = h.all ++ c ∷ [];
      are_all = ap (λ (l : List Config). l ++ c ∷ []) h.are_all
          ∙ append_assoc configs h.made (c ∷ []);
      events = h.events;
      run =
          record {
            stands = done.stands;
            laws = done.laws;
            log = told.log;
            told =
                subst (λ (w : WorldModel). AreEntries told.log (entries w.log))
                (sym (were_there h.all c h.events h.there)) told.told;
            took = says h.events told.log told.took;
          };
      there = λ k d lt. still_there _ h.all (c ∷ []) (h.there k d lt);
      among = h.among;
    }

-- ---- the beginning and the end

none_made : (grows : Bool) → MayBeMade grows []
none_made true = tt
none_made false = refl

none_there : (grows : Bool) (configs : List Config) → AreThere grows configs []
none_there true configs = All-nil (λ (x : Event). x.station < length configs)
none_there false configs = tt

-- nothing is done yet
pub going_begins : (grows : Bool) (configs : List Config) (world : WorldState)
    (Took : List Event → List Entry → Type 0) → RepresentsWorld world (opening configs)
    → HoldsOfSchedules configs (opening configs) → Took [] []
    → IsGoing grows configs [] world Took
going_begins grows configs world Took stands laws took =
    record {
      made = [];
      may_be_made = none_made grows;
      all = configs;
      are_all = sym (append-nil configs);
      events = [];
      run = record { stands = stands; laws = laws; log = []; told = tt; took = took };
      there = none_there grows configs;
      among = tt;
    }

-- all that is due of a file was done
pub file_done : (configs : List Config) (file due : List Filed) (end : ℕ) (world : WorldState)
    (Took : List Event → List Entry → Type 0) → AreDue file end due
    → IsGoing false configs (events_in due) world Took → IsAirRun configs file end world Took
file_done configs file due end world Took is_due h =
    let all : h.all ≡ configs =
    h.are_all ∙ ap (λ (l : List Config). configs ++ l) h.may_be_made ∙ append-nil configs in
    subst (λ (cs : List Config). IsAirRun cs file end world Took) all
    (record {
      events = h.events;
      run = h.run;
      due = due;
      is_due = is_due;
      among = h.among;
    })

-- with stations that were made
pub made_done : (configs : List Config) (world : WorldState)
    (Took : List Event → List Entry → Type 0) → IsGoing true configs [] world Took
    → IsMadeRun configs world Took
made_done configs world Took h =
    record {
      made = h.made;
      events = h.events;
      run = subst (λ (cs : List Config). IsSimulated cs h.events world Took) h.are_all h.run;
    }
