-- What a release of a unit is in the model.
use Rattle.std.specs.Prelude.{◌≡◌, ℕ, List, Option, Some, None, Vec, Result, Ok, Err, IfSome}
use Rattle.std.specs.Option.{option_map}
use Rattle.std.specs.declared.alloc.Global.{Global}
use Rattle.its_model.specs.Calls.{Refusal}
use Rattle.its_model.specs.Contention.{next_due}
use Rattle.its_model.specs.Station.{moment_refusal}
use Rattle.its_station.specs.Counting.{counted_refusal, one_more}
use Rattle.its_station.specs.Steps.{refusal_of}
use Rattle.its_station.specs.declared.counts.Counts.{Counts}
use Rattle.its_station.specs.declared.refused.Refused.{Refused}
use Rattle.its_contention.specs.Buffer.{Buffer}
use Rattle.its_contention.specs.Waiting.{Waiting, longest}
use Rattle.its_contention.specs.declared.counts.ContentionCounts.{ContentionCounts}
use Rattle.its_unit.specs.Contending.{Released, governed_release, past_release}
use Rattle.its_unit.specs.Unit.{UnitModel, UnitState, RepresentsUnit}
use Rattle.its_unit.specs.declared.limiting.Limiting.{Limiting}

-- why a release is refused, if it is; the frame that is released, if one is; and the unit after it
pub record UnitRelease : Type 0 where
  pub refusal : Option Refusal
  pub frame : Option Waiting
  pub unit : UnitModel

abbrev pub with_released : UnitModel → Released → UnitRelease
with_released u r =
    record {
      refusal = None;
      frame = r.frame;
      unit = record u { contention = Some r.waiting; governor = r.governor };
    }

abbrev pub release_of : UnitModel → ℕ → Option (Buffer Waiting) → UnitRelease
release_of u now None = record { refusal = None; frame = None; unit = u }
release_of u now (Some b) = with_released u (governed_release u.station.address now b u.governor)

abbrev pub release_by : UnitModel → ℕ → Option Refusal → UnitRelease
release_by u now (Some refusal) = record { refusal = Some refusal; frame = None; unit = u }
release_by u now None = release_of u now u.contention

-- A release is refused for its time, as a call is. It changes nothing of the station.
abbrev pub release_step : UnitModel → ℕ → UnitRelease
release_step u now = release_by u now (moment_refusal u.station now)

-- a release past the limits: it is refused as any, and none of them is judged or drawn
abbrev pub unlimited_release_of : UnitModel → ℕ → Option (Buffer Waiting) → UnitRelease
unlimited_release_of u now None = record { refusal = None; frame = None; unit = u }
unlimited_release_of u now (Some b) =
    record {
      refusal = None;
      frame = (past_release now b).frame;
      unit = record u { contention = Some (past_release now b).waiting };
    }

abbrev pub unlimited_release_by : UnitModel → ℕ → Option Refusal → UnitRelease
unlimited_release_by u now (Some refusal) = record { refusal = Some refusal; frame = None; unit = u }
unlimited_release_by u now None = unlimited_release_of u now u.contention

abbrev pub unlimited_release : UnitModel → ℕ → UnitRelease
unlimited_release u now = unlimited_release_by u now (moment_refusal u.station now)

-- a release, within the limits or past them
abbrev pub releases_by : Limiting → UnitModel → ℕ → UnitRelease
releases_by Limiting.Within = release_step
releases_by Limiting.Past = unlimited_release

-- the octets of a frame, if there is one
abbrev pub octets_sent : Option (Vec ℕ Global) → Option (List ℕ)
octets_sent sent = option_map (λ w. w.items) sent

abbrev pub octets_released : Option Waiting → Option (List ℕ)
octets_released frame = option_map (λ w. w.octets) frame

-- The release is this one of the model.
abbrev pub IsReleaseOf : Result (Option (Vec ℕ Global)) Refused → UnitState → UnitRelease → Type 0
IsReleaseOf (Ok sent) new r =
    (r.refusal ≡ None) × (octets_sent sent ≡ octets_released r.frame) × RepresentsUnit new r.unit
IsReleaseOf (Err e) new r =
    IfSome (refusal_of e) (λ refusal. (r.refusal ≡ Some refusal) × RepresentsUnit new r.unit)

-- a released frame counts as passed on, and a refusal by its code
abbrev pub counted_release : Result (Option (Vec ℕ Global)) Refused → Counts → Counts
counted_release (Ok (Some frame)) c = record c { relayed = one_more c.relayed }
counted_release (Ok None) c = c
counted_release (Err refused) c = counted_refusal refused c

-- ---- queries

-- the least time at which a frame is due
abbrev pub due_in : Option (Buffer Waiting) → Option ℕ
due_in None = None
due_in (Some b) = next_due b.held

-- the length of the longest frame that waits
abbrev pub longest_in : Option (Buffer Waiting) → ℕ
longest_in None = 0
longest_in (Some b) = longest b.held

-- the counts of the frames that wait
abbrev pub counts_in : Option (Buffer Waiting) → Option ContentionCounts
counts_in o = option_map (λ b. b.counts) o
