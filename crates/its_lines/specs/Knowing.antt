-- What is known of what a line asks.
use Rattle.std.specs.Prelude.{◌≡◌, ◌≤◌, ◌<◌, ◌^◌, ◌↔◌, ◌⊎◌, ◌∷◌, [], ℕ, zero, suc, List, Option}
use Rattle.std.specs.Prelude.{Some, None, IsTrue, IsSome, length, ◌+◌}
use Rattle.std.specs.Option.{option_map}
use Rattle.its_gnvalue.specs.Values.{PositionVector}
use Rattle.its_model.specs.Calls.{Own}
use Rattle.its_model.specs.Calls.Answer.{Sent, Quiet, Refused as IsRefused}
use Rattle.its_model.specs.Calls.OwnCall.{Tick}
use Rattle.its_model.specs.Calls.Refusal.{MomentEarlier}
use Rattle.its_model.specs.History.{Known as KnownStation, known}
use Rattle.its_model.specs.Station.{StationModel, station_step, beacon_of}
use Rattle.its_model.specs.Stations.{next_neighbour, stations_at}
use Rattle.its_station.specs.declared.counts.Counts.{Counts}
use Rattle.its_station.specs.declared.refused.Refused.{Refused}
use Rattle.its_station.specs.declared.refused.Refused.TheVariants as refusals
use Rattle.its_linkframe.specs.FrameFaults.{IsFrameFault}
use Rattle.its_linkframe.specs.Frames.{EncodesFrame, IsFrame}
use Rattle.its_linkframe.specs.Secured.{EncodesSecured, sealed}
use Rattle.its_model.specs.Packet.{Transmission}
use Rattle.its_contention.specs.Buffer.{Buffer}
use Rattle.its_contention.specs.Waiting.{Waiting}
use Rattle.its_unit.specs.Releases.{counts_in, due_in}
use Rattle.its_lines.specs.declared.request.Query.{Query}
use Rattle.its_lines.specs.declared.request.Query.TheVariants as queries
use Rattle.its_lines.specs.declared.response.Known.{Known}
use Rattle.its_lines.specs.declared.response.Known.TheVariants as knowns
use Rattle.its_lines.specs.declared.response.SealFault.TheVariants as seal_faults

-- a station, the frames that wait if it contends, and what is counted of it
pub record Counted : Type 0 where
  pub station : StationModel
  pub contention : Option (Buffer Waiting)
  pub counts : Counts

-- The moment is the least at which a tick of this jitter gives a beacon.
pub record IsBeaconMoment (m : StationModel) (jitter moment : ℕ) : Type 0 where
  pub due : (now : ℕ) → moment ≤ now → now ≤ 2 ^ 62
      → (station_step m now (Own (Tick jitter))).answer ≡ Sent (beacon_of m)
  pub early : (now : ℕ) → now < moment → now ≤ 2 ^ 62
      → ((station_step m now (Own (Tick jitter))).answer ≡ Quiet)
      ⊎ ((station_step m now (Own (Tick jitter))).answer ≡ IsRefused MomentEarlier)

-- when the next beacon is due; a jitter over 750 ms is refused (S9)
abbrev pub TellsBeacon : StationModel → ℕ → Known → Type 0
TellsBeacon m jitter (knowns.NextBeacon moment) = (jitter ≤ 750) × IsBeaconMoment m jitter moment
TellsBeacon m jitter (knowns.Refused refused) = (750 < jitter) × (refused ≡ refusals.JitterRange)
TellsBeacon m jitter answer = ⊥

-- the moment of which is asked: the one that is given, else the clock's
abbrev pub moment_of : StationModel → Option ℕ → ℕ
moment_of m None = m.clock
moment_of m (Some at) = at

-- what the station knew then isn't told: the moment is before the clock (S1), or over 2^62 (S2)
abbrev pub IsRefusedAt : StationModel → ℕ → Refused → Type 0
IsRefusedAt m now refused =
    ((now < m.clock) × (refused ≡ refusals.MomentEarlier))
    ⊎ ((m.clock ≤ now) × (2 ^ 62 < now) × (refused ≡ refusals.MomentTooLate))

-- what is known at a moment, which is neither before the clock nor over 2^62
abbrev pub IsKnownAt : StationModel → ℕ → Type 0
IsKnownAt m now = (m.clock ≤ now) × (now ≤ 2 ^ 62)

-- the vector of the live source of this address
abbrev pub source_at : StationModel → ℕ → ℕ → Option PositionVector
source_at m now address = option_map (λ k. k.vector) (known m.remember address now m.history)

abbrev pub TellsSource : StationModel → ℕ → ℕ → Known → Type 0
TellsSource m now address (knowns.Found vector) =
    IsKnownAt m now × (source_at m now address ≡ Some vector)
TellsSource m now address knowns.Unknown = IsKnownAt m now × (source_at m now address ≡ None)
TellsSource m now address (knowns.Refused refused) = IsRefusedAt m now refused
TellsSource m now address answer = ⊥

-- the vector of the neighbour of least address above one, or of least address
abbrev pub neighbour_above : Option ℕ → List KnownStation → Option PositionVector
neighbour_above after stations = option_map (λ k. k.vector) (next_neighbour after stations)

-- These are the first neighbours above an address, at most so many, one after the other; there are
-- fewer only where no further one is.
abbrev pub AreFirst : ℕ → Option ℕ → List KnownStation → List PositionVector → Type 0
AreFirst n after stations [] = (n ≡ 0) ⊎ (neighbour_above after stations ≡ None)
AreFirst zero after stations (vector ∷ vectors) = ⊥
AreFirst (suc n) after stations (vector ∷ vectors) =
    (neighbour_above after stations ≡ Some vector)
    × AreFirst n (Some vector.address) stations vectors

-- the address up to which neighbours were told, by these above one
abbrev pub told_to : Option ℕ → List PositionVector → Option ℕ
told_to after [] = after
told_to after (vector ∷ vectors) = told_to (Some vector.address) vectors

abbrev pub TellsNeighbours : StationModel → ℕ → Option ℕ → Known → Type 0
TellsNeighbours m now after (knowns.Neighbours vectors more) =
    IsKnownAt m now
    × AreFirst 32 after (stations_at m.remember now m.history) vectors.items
    × (IsTrue more ↔ IsSome (neighbour_above (told_to after vectors.items)
    (stations_at m.remember now m.history)))
TellsNeighbours m now after (knowns.Refused refused) = IsRefusedAt m now refused
TellsNeighbours m now after answer = ⊥

-- whether these octets are a frame; if they are none, their first fault
abbrev pub TellsFrame : List ℕ → Known → Type 0
TellsFrame octets (knowns.Frame frame) = (frame ≡ octets) × IsFrame octets
TellsFrame octets (knowns.NoFrame fault) = (¬ IsFrame octets) × IsFrameFault octets fault
TellsFrame octets answer = ⊥

-- the secured frame of a frame with a message; none of octets that are no frame, of an empty
-- message, or where it would have over 2310 octets
abbrev pub TellsSealed : List ℕ → List ℕ → Known → Type 0
TellsSealed octets message (knowns.Sealed w) =
    (t : Transmission) × EncodesFrame t octets × EncodesSecured (sealed t message) w.items
TellsSealed octets message (knowns.NoFrame fault) = (¬ IsFrame octets) × IsFrameFault octets fault
TellsSealed octets message (knowns.NotSealed seal_faults.MessageEmpty) =
    IsFrame octets × (message ≡ [])
TellsSealed octets message (knowns.NotSealed seal_faults.TooLong) =
    IsFrame octets × (2310 < 18 + length message)
TellsSealed octets message answer = ⊥

-- what is answered to what is asked
abbrev pub TellsQuery : Counted → Option ℕ → Query → Known → Type 0
TellsQuery s at (queries.NextBeacon jitter) answer = TellsBeacon s.station jitter answer
TellsQuery s at (queries.Neighbours after) answer =
    TellsNeighbours s.station (moment_of s.station at) after answer
TellsQuery s at (queries.LookUp address) answer =
    TellsSource s.station (moment_of s.station at) address answer
TellsQuery s at (queries.ReadFrame frame) answer = TellsFrame frame.items answer
TellsQuery s at queries.Counts answer = answer ≡ knowns.Counts s.counts (counts_in s.contention)
TellsQuery s at queries.NextDue answer = answer ≡ knowns.NextDue (due_in s.contention)
TellsQuery s at (queries.Seal frame message) answer = TellsSealed frame.items message.items answer
