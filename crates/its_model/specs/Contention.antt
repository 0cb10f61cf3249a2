-- Contention inside an area (EN 302 636-4-1 annex F.3, in this profile): how long a frame waits to
-- be forwarded, which copies cancel it, and which frame is released first.
use Rattle.std.specs.Prelude.{ℕ, zero, suc, ◌+◌, ◌-◌, ◌*◌, ◌/◌, ◌%◌, ◌^◌, ◌≤◌, min, nat_le, nat_lt}
use Rattle.std.specs.Prelude.{Bool, false, not, ◌&&◌, ◌==◌, if◌then◌else◌, Option, Some, None}
use Rattle.std.specs.Prelude.{List, [], ◌∷◌, ◌++◌, length, map, filter, position, remove, slice_get}
use Rattle.std.specs.Option.{option_map}
use Rattle.its_gnvalue.specs.Values.{Position, mid_of}
use Rattle.its_geometry.specs.Area.{area_holds}
use Rattle.its_geometry.specs.Offsets.{squared_distance}
use Rattle.its_model.specs.Packet.{Body, Transmission}
use Rattle.its_model.specs.Packet.Body.{beacon, shb, gbc, gac}
use Rattle.its_model.specs.History.{Known, is_among}
use Rattle.its_model.specs.Stations.{stations_at, by_mid}
use Rattle.its_model.specs.Calls.{Call, Why, Refusal, Answer}
use Rattle.its_model.specs.Calls.Call.{Own, Receive, Junk}
use Rattle.its_model.specs.Calls.Why.{Duplicate}
use Rattle.its_model.specs.Calls.Answer.{Restarted, Ignored, Accepted}
use Rattle.its_model.specs.Station.{StationModel, moment_refusal}

-- ---- the rule

-- A contention rule: the least and the greatest wait in milliseconds, the range of the radio in
-- metres, and how many stations have to have sent a frame that waits to cancel it.
pub record ContentionRule : Type 0 where
  pub min_wait : ℕ
  pub max_wait : ℕ
  pub range : ℕ
  pub copies : ℕ

-- the ranges of its values
pub record IsRule (r : ContentionRule) : Type 0 where
  pub order : r.min_wait ≤ r.max_wait
  pub some_wait : 1 ≤ r.max_wait
  pub short_wait : r.max_wait ≤ 1000
  pub some_range : 1 ≤ r.range
  pub short_range : r.range ≤ 65535
  pub some_copies : 1 ≤ r.copies
  pub few_copies : r.copies ≤ 3

-- How much shorter than the greatest wait, of at most so many milliseconds, by a squared distance
-- in square centimetres: the part of the way from the greatest wait to the least one that the
-- distance is of the range, in whole milliseconds.
unfoldable pub shorter : ContentionRule → ℕ → ℕ → ℕ
shorter r d2 zero = 0
shorter r d2 (suc k) =
    if nat_le ((suc k * (100 * r.range)) ^ 2) ((r.max_wait - r.min_wait) ^ 2 * d2) then suc k
    else shorter r d2 k

-- How long a frame waits, in milliseconds: by the squared distance of the station that sent it, or
-- if that is not known, by the number of the own MID plus the packet's sequence number, in the
-- upper half.
unfoldable pub wait : ContentionRule → ℕ → Option ℕ → ℕ
wait r tie None = r.max_wait - tie % ((r.max_wait - r.min_wait) / 2 + 1)
wait r tie (Some d2) = r.max_wait - shorter r d2 (r.max_wait - r.min_wait)

-- ---- where the sender of a frame is

-- the position of a station that is known, if its vector says that it is accurate
abbrev pub accurate_place : Option Known → Option Position
accurate_place None = None
accurate_place (Some k) = if k.vector.accurate then Some k.vector.place else None

-- the position of the live entry of least address with this MID, if it is accurate
abbrev pub sender_place : StationModel → ℕ → ℕ → Option Position
sender_place s moment mac = accurate_place (by_mid mac (stations_at s.remember moment s.history))

-- the squared distance of that station from this one
abbrev pub sender_distance : StationModel → ℕ → ℕ → Option ℕ
sender_distance s moment mac =
    option_map (squared_distance s.vector.place) (sender_place s moment mac)

-- ---- the frames that wait, of which the one that was put first is first

-- A frame that waits, when it is due, and the link senders of the copies that were counted, the
-- newest first.
pub record HeldFrame (F : Type 0) : Type 0 where
  pub frame : F
  pub due : ℕ
  pub senders : List ℕ

-- how many frames may wait
abbrev pub places : ℕ
places = 64

-- how long after it was due a frame may be released, in milliseconds
abbrev pub late_after : ℕ
late_after = 1000

-- a frame that begins to wait
abbrev pub newly_held : {F : Type 0} → F → ℕ → HeldFrame F
newly_held frame due = record { frame = frame; due = due; senders = [] }

-- a frame that waits, after a frame from this sender that is a copy of it or not: a copy counts
-- once for each sender
abbrev pub counted_as : {F : Type 0} → Bool → ℕ → HeldFrame F → HeldFrame F
counted_as is_copy sender h =
    if is_copy && not (is_among sender h.senders)
    then record h { senders = sender ∷ h.senders }
    else h

abbrev pub counted : {F : Type 0} → (F → Bool) → ℕ → HeldFrame F → HeldFrame F
counted is_copy sender h = counted_as (is_copy h.frame) sender h

-- whether too few senders were counted to cancel it
abbrev pub stays : {F : Type 0} → ℕ → HeldFrame F → Bool
stays copies h = nat_lt (length h.senders) copies

-- the frames that wait after such a frame
abbrev pub after_copy : {F : Type 0} → ℕ → (F → Bool) → ℕ → List (HeldFrame F) → List (HeldFrame F)
after_copy copies is_copy sender held = filter (stays copies) (map (counted is_copy sender) held)

-- the frames that it cancels
abbrev pub cancelled_by : {F : Type 0} → ℕ → (F → Bool) → ℕ → List (HeldFrame F) → List F
cancelled_by copies is_copy sender held =
    map (λ h. h.frame) (filter (λ h. not (stays copies h)) (map (counted is_copy sender) held))

-- the frames that are not late
abbrev pub kept_at : {F : Type 0} → ℕ → List (HeldFrame F) → List (HeldFrame F)
kept_at now held = filter (λ h. nat_le now (h.due + late_after)) held

-- the lesser of two times, if there are two
abbrev pub sooner : ℕ → Option ℕ → ℕ
sooner due None = due
sooner due (Some other) = min due other

-- the least time at which a frame is due
abbrev pub next_due : {F : Type 0} → List (HeldFrame F) → Option ℕ
next_due [] = None
next_due (h ∷ held) = Some (sooner h.due (next_due held))

-- where the first frame is that is due at this time, if that is not after now
abbrev pub place_due_by : {F : Type 0} → ℕ → List (HeldFrame F) → Option ℕ → Option ℕ
place_due_by now held None = None
place_due_by now held (Some due) =
    if nat_le due now then position (λ h. h.due == due) held else None

-- where the frame is that is released: of those that are due the one with the least time, of
-- several the one that was put first
abbrev pub place_due : {F : Type 0} → ℕ → List (HeldFrame F) → Option ℕ
place_due now held = place_due_by now held (next_due held)

-- the frame at a place
abbrev pub frame_at : {F : Type 0} → List (HeldFrame F) → Option ℕ → Option F
frame_at held None = None
frame_at held (Some place) = option_map (λ h. h.frame) (slice_get held place)

-- the frames without the one at a place
abbrev pub without : {F : Type 0} → List (HeldFrame F) → Option ℕ → List (HeldFrame F)
without held None = held
without held (Some place) = remove held place

-- the frame that is released
abbrev pub first_due : {F : Type 0} → ℕ → List (HeldFrame F) → Option F
first_due now held = frame_at held (place_due now held)

-- the frames without it
abbrev pub after_due : {F : Type 0} → ℕ → List (HeldFrame F) → List (HeldFrame F)
after_due now held = without held (place_due now held)

-- ---- what is held of an accepted packet

-- A geobroadcast contends inside its area.
abbrev pub contends_for : StationModel → Body → Bool
contends_for s beacon = false
contends_for s (shb media message) = false
contends_for s (gbc number area message) = area_holds area s.vector.place
contends_for s (gac number area message) = false

-- what spreads the waits of stations that do not know the sender's position: the number of the own
-- MID plus the packet's sequence number
abbrev pub tie_of : StationModel → Body → ℕ
tie_of s beacon = mid_of s.address
tie_of s (shb media message) = mid_of s.address
tie_of s (gbc number area message) = mid_of s.address + number
tie_of s (gac number area message) = mid_of s.address + number

-- when the relay of a packet is due that this station accepted at a moment; the station is the one
-- after the acceptance
abbrev pub due_of : ContentionRule → StationModel → ℕ → Transmission → ℕ
due_of r s moment t =
    moment + wait r (tie_of s t.pdu.body) (sender_distance s moment t.link_source)

-- What becomes of an accepted packet: no frame is sent for it, or one is sent at once, or one waits
-- until it is due.
pub data Fate : Type 0 where
  Stays : Fate
  Goes : Fate
  Waits : (due : ℕ) → Fate

-- the fate of an accepted packet whose relay is this one, by the station after the acceptance and
-- the frames that wait before it
abbrev pub fate : {F : Type 0} → ContentionRule → StationModel → ℕ → List (HeldFrame F)
    → Transmission → Option Transmission → Fate
fate r s moment held t None = Stays
fate r s moment held t (Some relay) =
    if contends_for s t.pdu.body && nat_lt (length held) places
    then Waits (due_of r s moment t)
    else Goes

-- ---- the frames that wait after a call. What waits of a frame may be more than the packet, such as
-- the message that it came with, or less, such as its octets: `kept` is what would wait of it.

-- after an acceptance, by its relay and fate
abbrev pub after_fate : {F : Type 0} → (Transmission → F) → List (HeldFrame F)
    → Option Transmission → Fate → List (HeldFrame F)
after_fate kept held (Some relay) (Waits due) = held ++ newly_held (kept relay) due ∷ []
after_fate kept held relay its_fate = held

-- after a frame that was ignored: a duplicate may be a copy
abbrev pub after_ignored : {F : Type 0} → ContentionRule → (ℕ → F → F → Bool)
    → (Transmission → F) → StationModel → Transmission → List (HeldFrame F) → Why
    → List (HeldFrame F)
after_ignored r is_copy kept s t held Duplicate =
    after_copy r.copies (λ waiting. is_copy (mid_of s.address) waiting (kept t)) t.link_source held
after_ignored r is_copy kept s t held why = held

-- after a frame, by what the station answered
abbrev pub after_received : {F : Type 0} → ContentionRule → (ℕ → F → F → Bool)
    → (Transmission → F) → StationModel → ℕ → Transmission → List (HeldFrame F)
    → Answer Transmission → List (HeldFrame F)
after_received r is_copy kept s moment t held (Accepted handed relayed) =
    after_fate kept held relayed (fate r s moment held t relayed)
after_received r is_copy kept s moment t held (Ignored why) =
    after_ignored r is_copy kept s t held why
after_received r is_copy kept s moment t held answer = held

-- after a call of its own: a restart that is not refused drops them all
abbrev pub after_own : {F : Type 0} → List (HeldFrame F) → Answer Transmission
    → List (HeldFrame F)
after_own held Restarted = []
after_own held answer = held

-- after a call, by what the station answered; the station is the one after the call
abbrev pub after_answer : {F : Type 0} → ContentionRule → (ℕ → F → F → Bool)
    → (Transmission → F) → StationModel → ℕ → Call → List (HeldFrame F) → Answer Transmission
    → List (HeldFrame F)
after_answer r is_copy kept s moment (Own call) held answer = after_own held answer
after_answer r is_copy kept s moment (Receive t) held answer =
    after_received r is_copy kept s moment t held answer
after_answer r is_copy kept s moment (Junk fault) held answer = held

-- ---- a release

-- What a release gives: why it is refused, if it is, the frame that is released, if one is, and the
-- frames that wait after it.
pub record Release (F : Type 0) : Type 0 where
  pub refusal : Option Refusal
  pub released : Option F
  pub held : List (HeldFrame F)

abbrev pub release_by : {F : Type 0} → ℕ → List (HeldFrame F) → Option Refusal → Release F
release_by now held (Some refusal) =
    record { refusal = Some refusal; released = None; held = held }
release_by now held None =
    record {
      refusal = None;
      released = first_due now (kept_at now held);
      held = after_due now (kept_at now held);
    }

-- The moment is checked first. Then the late frames are dropped, and of the others the first that is
-- due is released.
abbrev pub release_step : {F : Type 0} → StationModel → ℕ → List (HeldFrame F) → Release F
release_step s now held = release_by now held (moment_refusal s now)
