-- The counts of a run: of its events, and of what was told of them.
use Rattle.std.specs.Prelude.{◌≡◌, ◌+◌, ◌-◌, ◌^◌, ◌&&◌, ℕ, List, [], ◌∷◌, length, Option, Some}
use Rattle.std.specs.Prelude.{None, Bool, true, false, cond, min, count_by}
use Rattle.its_model.specs.Calls as model
use Rattle.its_model.specs.World.{Event, What}
use Rattle.its_model.specs.World.What.{Calls}
use Rattle.its_station.specs.declared.outcome.Why.TheVariants as whys
use Rattle.its_world.specs.Entries.{Entry}
use Rattle.its_station.specs.declared.answer.Answer.TheVariants as entries
use Rattle.sim_simulation.specs.declared.tally.summary.Totals.{Totals}

-- a count, which stays at the greatest number
abbrev pub capped : ℕ → ℕ
capped n = min n (2 ^ 64 - 1)

-- a count with one more, if it is one
abbrev pub counted : Bool → ℕ → ℕ
counted one n = cond one (capped (n + 1)) n

-- whether there is one
abbrev pub is_there : {X : Type 0} → Option X → Bool
is_there None = false
is_there (Some x) = true

-- a frame was given: the station's own, or a relay
abbrev pub gave_frame : Entry → Bool
gave_frame (entries.Sent k) = true
gave_frame (entries.Accepted handed sent) = is_there sent
gave_frame entry = false

-- a payload was delivered to a port
abbrev pub delivered : Entry → Bool
delivered (entries.Accepted handed sent) = is_there handed
delivered entry = false

-- a frame was ignored as a duplicate
abbrev pub was_duplicate : Entry → Bool
was_duplicate (entries.Ignored whys.Duplicate) = true
was_duplicate entry = false

-- a frame was ignored for another reason
abbrev pub was_ignored : Entry → Bool
was_ignored (entries.Ignored whys.Duplicate) = false
was_ignored (entries.Ignored why) = true
was_ignored entry = false

-- the event was refused
abbrev pub was_refused : Entry → Bool
was_refused (entries.Refused fault) = true
was_refused entry = false

-- a packet for an area is sent
abbrev pub is_area_send : What → Bool
is_area_send (Calls (model.OwnCall.SendGbc request)) = true
is_area_send (Calls (model.OwnCall.SendGac request)) = true
is_area_send what = false

-- a frame of the station's own was given
abbrev pub was_sent : Entry → Bool
was_sent (entries.Sent k) = true
was_sent entry = false

-- how many packets for areas these events sent, of which these entries tell, one for one
abbrev pub packets_sent : List Event → List Entry → ℕ
packets_sent [] log = 0
packets_sent (e ∷ events) [] = 0
packets_sent (e ∷ events) (entry ∷ log) =
    cond (is_area_send e.what && was_sent entry) 1 0 + packets_sent events log

-- The totals are the counts of these events, and of what was told of them, one for one.
pub record AreTotals (t : Totals) (done : List Event) (log : List Entry) : Type 0 where
  pub one_each : length done ≡ length log
  pub events : t.events ≡ capped (length log)
  pub frames : t.frames ≡ capped (count_by gave_frame log)
  pub deliveries : t.deliveries ≡ capped (count_by delivered log)
  pub duplicates : t.duplicates ≡ capped (count_by was_duplicate log)
  pub ignored : t.ignored ≡ capped (count_by was_ignored log)
  pub refused : t.refused ≡ capped (count_by was_refused log)

-- ---- words of private functions

-- the totals with one entry more
abbrev pub with_entry : Totals → Entry → Totals
with_entry t entry =
    record {
      events = capped (t.events + 1);
      frames = counted (gave_frame entry) t.frames;
      deliveries = counted (delivered entry) t.deliveries;
      duplicates = counted (was_duplicate entry) t.duplicates;
      ignored = counted (was_ignored entry) t.ignored;
      refused = counted (was_refused entry) t.refused;
    }

-- the totals with one frame more
abbrev pub with_frame : Bool → Totals → Totals
with_frame one t = record t { frames = counted one t.frames }

-- the totals with what came of a frame that was accepted
abbrev pub with_accepted : Bool → Bool → Totals → Totals
with_accepted handed relayed t =
    record t { deliveries = counted handed t.deliveries; frames = counted relayed t.frames }

-- the totals with a payload that was delivered, if one was
abbrev pub with_handed : Bool → Totals → Totals
with_handed one t = record t { deliveries = counted one t.deliveries }
