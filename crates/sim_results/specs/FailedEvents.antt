-- Events of a scenario that weren't run.
use Rattle.std.specs.Prelude.{ℕ, Bool, true, false, Option, Some, List, [], ◌∷◌, ◌++◌, ◌≡◌, ◌<◌, IfSome}
use Rattle.std.specs.Prelude.{slice_get, vec_len}
use Rattle.its_station.specs.Counting.{one_more}
use Rattle.its_world.specs.Events.{what_of}
use Rattle.sim_results.specs.declared.failed_events.AskedSend.{AskedSend}
use Rattle.sim_results.specs.declared.failed_events.FailedEvent.{FailedEvent}
use Rattle.sim_results.specs.declared.failed_events.FailedEvents.{FailedEvents}
use Rattle.its_words.specs.Verbs.{verb_of}
use Rattle.sim_scenario.specs.Verbs.{action_verb}
use Rattle.its_words.specs.declared.keys.verb.Verb.{Verb}
use Rattle.its_words.specs.declared.keys.verb.Verb.TheVariants as verbs
use Rattle.sim_simulation.specs.declared.note.Note.{Note}
use Rattle.sim_simulation.specs.declared.note.Note.TheVariants.{Absent}
use Rattle.sim_simulation.specs.declared.record.EventRecord.{EventRecord}

-- the note says that an event wasn't run, since its station is absent
abbrev pub is_absent : Note → Bool
is_absent (Absent id event has_left) = true
is_absent note = false

-- by this word a station sends a packet with a payload
abbrev pub is_send : Verb → Bool
is_send verbs.Shb = true
is_send verbs.Gbc = true
is_send verbs.Gac = true
is_send verb = false

-- the note says that a send wasn't run, since its station is absent
abbrev pub is_absent_send : Note → Bool
is_absent_send (Absent id event has_left) = is_send (action_verb event.now.action)
is_absent_send note = false

-- the event that was done is this send: at its time, with its word, and at its station, if the
-- scenario names that by its number
abbrev pub IsAsked : AskedSend → EventRecord → Type 0
IsAsked send done = (done.moment ≡ send.moment) × (verb_of (what_of done.what.now) ≡ send.verb)
    × IfSome send.station (λ own. own ≡ done.station)

-- the send of the scenario that comes next
abbrev pub next_send : FailedEvents → Option AskedSend
next_send events = slice_get events.sends.items events.came

-- the event that was done is the send that comes next
abbrev pub IsNextSend : FailedEvents → EventRecord → Type 0
IsNextSend events done = (send : AskedSend) × (next_send events ≡ Some send) × IsAsked send done

-- an event is among those that have a line, if there is room for it
abbrev pub IsListed : FailedEvents → FailedEvents → FailedEvent → Type 0
IsListed before after failed =
    vec_len before.first < 20 → after.first.items ≡ before.first.items ++ failed ∷ []

-- an event counts, and is among those that have a line, if there is room for it
abbrev pub Adds : FailedEvents → FailedEvents → FailedEvent → Type 0
Adds before after failed =
    (after.count ≡ one_more before.count) × IsListed before after failed
