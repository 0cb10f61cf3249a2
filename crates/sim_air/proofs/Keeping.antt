-- What a run keeps of the model's air.
use Rattle.std.proofs.Common.{◌≡◌, ℕ, ◌+◌, List, [], ◌∷◌, ◌++◌, refl, sym, ap, ◌∙◌}
use Rattle.std.proofs.Common.{cond, Bool, true, false, Option, Some, None}
use Rattle.std.proofs.Common.{not, ◌&&◌, zero, suc, subst}
use Rattle.std.specs.Prelude.{◌==◌, slice_get, Vec}
use Rattle.std.specs.declared.alloc.Global.{Global}
use denote.Ref.{Bor}
use Rattle.std.specs.Option.{option_map}
use Rattle.std.proofs.lemmas.List.{reverse-append}
use Rattle.its_gnvalue.specs.Values.{Position}
use Rattle.its_model.specs.Station.{StationModel}
use Rattle.its_model.specs.World.{LogLine, frame_of, entries as entries_of}
use Rattle.its_model.specs.Reach.{is_moved}
use Rattle.its_model.specs.Calls as model
use Rattle.its_model.specs.Calls.{Answer, Refusal}
use Rattle.its_station.specs.Steps.{refusal_of}
use Rattle.its_world.specs.Entries.{Entry, TellsEntry, TellsFault}
use Rattle.its_station.specs.declared.answer.Answer.TheVariants as entries
use Rattle.its_world.specs.declared.entry.EntryFault.{EntryFault}
use Rattle.its_world.specs.declared.entry.EntryFault.TheVariants as faults
use Rattle.std.specs.Prelude.{IsSomeAnd, reverse, map}
use Rattle.its_station.specs.State.{StationState, RepresentsStation}
use Rattle.its_world.specs.State.{RepresentStations}
use Rattle.its_world.proofs.Worlds.{get_station}
use Rattle.sim_queue.specs.declared.queue.Queue.{Queue}
use Rattle.sim_settings.specs.declared.air.Air.{Air}
use Rattle.sim_air.specs.AirTimed.{rules_of}
use Rattle.sim_queue.specs.Keeps.{Keeps}
use Rattle.its_model.specs.World.{Config, Event}
use Rattle.its_world.specs.State.{WorldState}
use Rattle.sim_simulation.specs.Simulated.{IsSimulated}
use Rattle.sim_queue.specs.declared.draws.Draws.{Draws}
use Rattle.sim_air.specs.Keeps.{GoesBy, IsTimed}
use Rattle.sim_air.specs.Runs.{SameWorld}
use Rattle.sim_air_model.specs.Timetable.{AirModel, Rules}
use Rattle.sim_air.specs.declared.run.Run.{Run}
use Rattle.sim_air_model.specs.Range.{is_within}
use Rattle.sim_queue.specs.Reach.{numbers_from, hears, hearers}
use Rattle.sim_air_model.specs.Timetable.{Timetable}
use Rattle.sim_air_model.specs.Timetable.{heard_from, hear_it, given, was_refused}
use Rattle.sim_air_model.specs.Timetable.{is_refusal}
use Rattle.sim_air_model.specs.Timetable.{was_moved}
use Rattle.sim_settings.specs.declared.traffic.Traffic.{Traffic as Flow}
use Rattle.sim_queue.specs.Traffics.{all_traffic}

-- ---- who hears

-- a station stands where the model's does
place_same : (st : StationState) (s : StationModel) → RepresentsStation st s
    → s.vector.place ≡ st.vector.place
place_same st s h = ap (λ (x : StationModel). x.vector.place) h.fields

pub beacon_same : (st : StationState) (s : StationModel) → RepresentsStation st s
    → s.beacon_from ≡ st.beacon_from
beacon_same st s h = ap (λ (x : StationModel). x.beacon_from) h.fields

heard_same : (range giver : ℕ) (place : Position) (n : ℕ) (states : List StationState)
    (models : List StationModel) → RepresentStations states models
    → heard_from range giver place n models ≡ numbers_from (hears range giver place) n states
heard_same range giver place n [] [] h = refl
heard_same range giver place n [] (s ∷ models) h = absurd h
heard_same range giver place n (st ∷ states) [] h = absurd h
heard_same range giver place n (st ∷ states) (s ∷ models) h =
    ap (λ (p : Position). cond (not (n == giver) && is_within range place p)
    (n ∷ heard_from range giver place (n + 1) models) (heard_from range giver place (n + 1) models))
    (place_same st s h.0)
    ∙ ap (λ (l : List ℕ). cond (hears range giver place n st) (n ∷ l) l)
    (heard_same range giver place (n + 1) states models h.1)

-- those that hear a station that there is
pub hear_same : (range giver : ℕ) (st : StationState) (states : List StationState)
    (models : List StationModel) → RepresentStations states models
    → slice_get states giver ≡ Some st
    → hear_it range models giver (slice_get models giver)
    ≡ hearers range states giver st.vector.place
hear_same range giver st states models h at =
    let found = get_station states models giver st h at in
    ap (hear_it range models giver) found.1
    ∙ ap (λ (p : Position). heard_from range giver p 0 models) (place_same st found.0 found.2)
    ∙ heard_same range giver st.vector.place 0 states models h

-- and of one that there isn't
pub no_model : (giver : ℕ) (states : List StationState) (models : List StationModel)
    → RepresentStations states models → slice_get states giver ≡ None
    → slice_get models giver ≡ None
no_model n [] [] h e = refl
no_model n [] (s ∷ models) h e = absurd h
no_model n (st ∷ states) [] h e = absurd h
no_model zero (st ∷ states) (s ∷ models) h e = let no : ⊥ = cc in absurd no
no_model (suc n) (st ∷ states) (s ∷ models) h e = no_model n states models h.1 e

-- ---- refusals

-- an entry is a refusal
abbrev pub is_refused : Entry → Bool
is_refused entries.Moved = false
is_refused entries.Opened = false
is_refused entries.Closed = false
is_refused entries.Restarted = false
is_refused entries.Quiet = false
is_refused (entries.Sent k) = false
is_refused (entries.Ignored why) = false
is_refused (entries.Accepted handed sent) = false
is_refused (entries.Refused fault) = true

refusal_of_fault : (fault : EntryFault) (answer : Answer ℕ) → TellsFault {F = ℕ} fault answer
    → is_refusal answer ≡ true
refusal_of_fault (faults.Station refused) answer h = by (refusal_of refused) h
  where
    by : (o : Option Refusal) → IsSomeAnd o (λ refusal. answer ≡ model.Answer.Refused refusal)
        → is_refusal answer ≡ true
    by None g = absurd g
    by (Some refusal) g = ap (is_refusal {F = ℕ}) g
refusal_of_fault faults.NoSuchFrame answer h = ap (is_refusal {F = ℕ}) h
refusal_of_fault faults.NoSuchStation answer h = ap (is_refusal {F = ℕ}) h

pub tells_refusal : (entry : Entry) (answer : Answer ℕ) → TellsEntry entry answer
    → is_refusal answer ≡ is_refused entry
tells_refusal entries.Moved answer h = ap (is_refusal {F = ℕ}) h
tells_refusal entries.Opened answer h = ap (is_refusal {F = ℕ}) h
tells_refusal entries.Closed answer h = ap (is_refusal {F = ℕ}) h
tells_refusal entries.Restarted answer h = ap (is_refusal {F = ℕ}) h
tells_refusal entries.Quiet answer h = ap (is_refusal {F = ℕ}) h
tells_refusal (entries.Sent k) answer h = ap (is_refusal {F = ℕ}) h
tells_refusal (entries.Ignored why) answer h = ap (is_refusal {F = ℕ}) h
tells_refusal (entries.Accepted handed sent) answer h = ap (is_refusal {F = ℕ}) h
tells_refusal (entries.Refused fault) answer h = refusal_of_fault fault answer h

-- an entry is that of a move
abbrev pub is_move_entry : Entry → Bool
is_move_entry entries.Moved = true
is_move_entry entry = false

moved_of_fault : (fault : EntryFault) (answer : Answer ℕ) → TellsFault {F = ℕ} fault answer
    → is_moved answer ≡ false
moved_of_fault (faults.Station refused) answer h = by (refusal_of refused) h
  where
    by : (o : Option Refusal) → IsSomeAnd o (λ refusal. answer ≡ model.Answer.Refused refusal)
        → is_moved answer ≡ false
    by None g = absurd g
    by (Some refusal) g = ap is_moved g
moved_of_fault faults.NoSuchFrame answer h = ap is_moved h
moved_of_fault faults.NoSuchStation answer h = ap is_moved h

pub tells_moved : (entry : Entry) (answer : Answer ℕ) → TellsEntry entry answer
    → is_moved answer ≡ is_move_entry entry
tells_moved entries.Moved answer h = ap is_moved h
tells_moved entries.Opened answer h = ap is_moved h
tells_moved entries.Closed answer h = ap is_moved h
tells_moved entries.Restarted answer h = ap is_moved h
tells_moved entries.Quiet answer h = ap is_moved h
tells_moved (entries.Sent k) answer h = ap is_moved h
tells_moved (entries.Ignored why) answer h = ap is_moved h
tells_moved (entries.Accepted handed sent) answer h = ap is_moved h
tells_moved (entries.Refused fault) answer h = moved_of_fault fault answer h

pub not_refused_is : (entry : Entry) → ((fault : EntryFault) → entry ≡ entries.Refused fault → ⊥)
    → is_refused entry ≡ false
not_refused_is entries.Moved h = refl
not_refused_is entries.Opened h = refl
not_refused_is entries.Closed h = refl
not_refused_is entries.Restarted h = refl
not_refused_is entries.Quiet h = refl
not_refused_is (entries.Sent k) h = refl
not_refused_is (entries.Ignored why) h = refl
not_refused_is (entries.Accepted handed sent) h = refl
not_refused_is (entries.Refused fault) h = absurd (h fault refl)

-- nothing was put either way
pub either : (b : Bool) (queue : Queue) (words : List ℕ) (t : Timetable) → Keeps queue words t
    → Keeps queue words (cond b t t)
either true queue words t h = h
either false queue words t h = h

-- ---- the log

-- the last of two lists that are one
last_same : (us vs : List (Answer ℕ)) (a b : Answer ℕ) → us ++ a ∷ [] ≡ vs ++ b ∷ [] → a ≡ b
last_same us vs a b h =
    let turned : a ∷ reverse us ≡ b ∷ reverse vs =
    sym (reverse-append us (a ∷ [])) ∙ ap reverse h ∙ reverse-append vs (b ∷ []) in
    cc

-- the last line tells the last answer
pub answered_last : (log : List LogLine) (before : List (Answer ℕ)) (answer : Answer ℕ)
    → entries_of log ≡ before ++ answer ∷ []
    → (given log ≡ frame_of answer) × (was_refused log ≡ is_refusal answer)
    × (was_moved log ≡ is_moved answer)
answered_last [] [] answer h = let no : ⊥ = cc in absurd no
answered_last [] (a ∷ before) answer h = let no : ⊥ = cc in absurd no
answered_last (line ∷ log) before answer h =
    let same : line.entry ≡ answer =
    last_same (reverse (map (λ (x : LogLine). x.entry) log)) before line.entry answer
    (sym (reverse-append (line.entry ∷ []) (map (λ (x : LogLine). x.entry) log)) ∙ h) in
    (ap (frame_of {F = ℕ}) same, ap (is_refusal {F = ℕ}) same, ap is_moved same)

-- ---- what is found

pub found_some : {A B : Type 0} (f : A → B) (r : Option A) (a : A) (o : Option B)
    → option_map f r ≡ o → r ≡ Some a → o ≡ Some (f a)
found_some f r a o e was = sym e ∙ ap (option_map f) was

pub found_none : {A B : Type 0} (f : A → B) (r : Option A) (o : Option B)
    → option_map f r ≡ o → r ≡ None → o ≡ None
found_none f r o e was = sym e ∙ ap (option_map f) was

-- ---- rules

-- a run with the same air and traffic goes by the same rules
pub goes_on : (rules : Rules) (old new : Run) → GoesBy rules old → new.air ≡ old.air
    → new.every ≡ old.every → GoesBy rules new
goes_on rules old new goes_by air every =
    ap (λ (a : Air). rules_of a (all_traffic new.every.now) rules.until rules.present) air
    ∙ ap (λ (x : Bor (List Flow)). rules_of old.air (all_traffic x.now) rules.until rules.present)
    every ∙ goes_by

-- it is timed as before if nothing changed but what no rule speaks of
pub timed_on : (rules : Rules) (configs : List Config) (a : AirModel) (old new : Run)
    (Took : List Event → List Entry → Type 0) → SameWorld old new → new.present ≡ old.present
    → new.queue ≡ old.queue → new.draws ≡ old.draws → IsTimed rules configs a old Took
    → IsTimed rules configs a new Took
timed_on rules configs a old new Took world present queue draws h = record {
  goes_by = goes_on rules old new h.goes_by world.air world.every;
  present = ap (λ (v : Vec Bool Global). v.items) present ∙ h.present;
  told = subst (λ (w : WorldState). IsSimulated configs a.done w Took) (sym world.world) h.told;
  keeps = subst (λ (q : Queue). Keeps q new.draws a.timetable) (sym queue)
      (subst (λ (d : Draws). Keeps old.queue d a.timetable) (sym draws) h.keeps);
  steady = world.contentions ∙ h.steady;
}
