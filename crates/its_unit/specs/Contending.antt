-- Contention in a unit: between the answer of its station and the limits.
use Rattle.std.specs.Prelude.{ℕ, zero, suc, Bool, true, false, if◌then◌else◌, List, length}
use Rattle.std.specs.Prelude.{Option, Some, None, nat_lt}
use Rattle.std.specs.Option.{option_map}
use Rattle.its_gnvalue.specs.Values.{mid_of}
use Rattle.its_model.specs.Packet.{Transmission, number_in}
use Rattle.its_model.specs.Calls as model
use Rattle.its_model.specs.Calls.{Answer, Why}
use Rattle.its_model.specs.Station.{StationModel}
use Rattle.its_model.specs.Contention.{Fate, cancelled_by, fate, first_due, kept_at}
use Rattle.its_linkframe.specs.Copies.{is_copy}
use Rattle.its_linkframe.specs.Frames.{frame_octets}
use Rattle.its_linkframe.specs.Secured.{secured_octets, sealed}
use Rattle.its_station.specs.Receiving.{VerifiedCall}
use Rattle.its_contention.specs.Buffer.{Buffer, cleared, after_late, after_release, after_drop}
use Rattle.its_contention.specs.Waiting.{Waiting}
use Rattle.its_contention.specs.Contending.{after_acceptance, after_duplicate}
use Rattle.its_governor.specs.declared.governor.Governor.{Governor}
use Rattle.its_governor.specs.declared.receiver.Receiver.{Receiver}
use Rattle.its_governor.specs.Governing.{admits, has_room_of, after_forwarding}
use Rattle.its_unit.specs.declared.limiting.Limiting.{Limiting}

-- the octets of a secured frame with the message that came
abbrev pub verified_octets : VerifiedCall → Transmission → List ℕ
verified_octets (VerifiedCall.Came v) t = secured_octets (sealed t v.message)
verified_octets (VerifiedCall.Faulty fault) t = frame_octets t

-- ---- the answer to a frame

-- the limits that apply to a call, or none past them
abbrev pub applied : Limiting → Governor → Option Governor
applied Limiting.Within g = Some g
applied Limiting.Past g = None

-- whether a packet is admitted: past the limits each one is
abbrev pub is_admitted : Option Governor → ℕ → Transmission → Bool
is_admitted None now t = true
is_admitted (Some g) now t = admits g now t

-- What becomes of the frame in which an accepted packet goes on. What the limits don't admit is left
-- to them.
abbrev pub fate_in : Buffer Waiting → Option Governor → StationModel → ℕ → Transmission
    → Option Transmission → Fate
fate_in b g s now t relayed =
    if is_admitted g now t then fate b.rule s now b.held t relayed else Fate.Goes

-- when a frame is due that has this fate, if it waits
abbrev pub due_by : Fate → Option ℕ
due_by (Fate.Waits due) = Some due
due_by Fate.Goes = None
due_by Fate.Stays = None

-- the frame that goes at once
abbrev pub at_once : {A : Type 0} → Option A → Fate → Option A
at_once relayed (Fate.Waits due) = None
at_once relayed Fate.Goes = relayed
at_once relayed Fate.Stays = relayed

-- what is left of the answer to a frame: it is the answer, but a frame that waits is not sent
abbrev pub left_of : Option (Buffer Waiting) → Option Governor → StationModel → ℕ → Transmission
    → Answer Transmission → Answer Transmission
left_of None g s now t answer = answer
left_of (Some b) g s now t (model.Answer.Accepted handed relayed) =
    model.Answer.Accepted handed (at_once relayed (fate_in b g s now t relayed))
left_of (Some b) g s now t answer = answer

abbrev pub left_in : Option (Buffer Waiting) → Option Governor → StationModel → ℕ → Option Transmission
    → Answer Transmission → Answer Transmission
left_in b g s now None answer = answer
left_in b g s now (Some t) answer = left_of b g s now t answer

-- when the frame is due that begins to wait by the answer to a frame, if one does
abbrev pub due_of_frame : Option (Buffer Waiting) → Option Governor → StationModel → ℕ → Transmission
    → Answer Transmission → Option ℕ
due_of_frame None g s now t answer = None
due_of_frame (Some b) g s now t (model.Answer.Accepted handed None) = None
due_of_frame (Some b) g s now t (model.Answer.Accepted handed (Some relay)) =
    due_by (fate_in b g s now t (Some relay))
due_of_frame (Some b) g s now t answer = None

abbrev pub due_of_answer : Option (Buffer Waiting) → Option Governor → StationModel → ℕ
    → Option Transmission → Answer Transmission → Option ℕ
due_of_answer b g s now None answer = None
due_of_answer b g s now (Some t) answer = due_of_frame b g s now t answer

-- whether a frame with these octets from this link sender, which is answered so, cancels one that waits
abbrev pub cancels : Option (Buffer Waiting) → ℕ → List ℕ → ℕ → Answer Transmission → Bool
cancels None own octets sender answer = false
cancels (Some b) own octets sender (model.Answer.Ignored model.Why.Duplicate) =
    nat_lt 0 (length (cancelled_by b.rule.copies (λ held. is_copy own held.octets octets) sender
    b.held))
cancels (Some b) own octets sender answer = false

abbrev pub cancels_by_answer : Option (Buffer Waiting) → StationModel → (Transmission → List ℕ)
    → Option Transmission → Answer Transmission → Bool
cancels_by_answer b s octets None answer = false
cancels_by_answer b s octets (Some t) answer =
    cancels b (mid_of s.address) (octets t) t.link_source answer

-- ---- the frames that wait

-- A frame that waits, of an accepted packet, with these octets. The station knew the packet's source
-- before, or not.
abbrev pub waiting_of : List ℕ → Bool → Transmission → Waiting
waiting_of octets knew t =
    record {
      octets = octets;
      source = t.pdu.vector.address;
      number = number_in t.pdu.body;
      knew_source = knew;
    }

-- after an acceptance, by the frame in which the packet goes on
abbrev pub after_accepting : Buffer Waiting → Option Governor → StationModel → ℕ
    → (Transmission → List ℕ) → Bool → Transmission → Option Transmission → Buffer Waiting
after_accepting b g s now octets knew t None = b
after_accepting b g s now octets knew t (Some relay) =
    if is_admitted g now t then after_acceptance b s now t relay (waiting_of (octets relay) knew t) else b

-- after a frame that was ignored
abbrev pub after_ignoring : Option (Buffer Waiting) → ℕ → List ℕ → ℕ → Why
    → Option (Buffer Waiting)
after_ignoring o own octets sender model.Why.Duplicate =
    option_map (λ b. after_duplicate b own octets sender) o
after_ignoring o own octets sender why = o

-- after a frame, by what the station answered; the station is the one after it
abbrev pub after_frame : Option (Buffer Waiting) → Option Governor → StationModel → ℕ
    → (Transmission → List ℕ) → Bool → Transmission → Answer Transmission → Option (Buffer Waiting)
after_frame o g s now octets knew t (model.Answer.Accepted handed relayed) =
    option_map (λ b. after_accepting b g s now octets knew t relayed) o
after_frame o g s now octets knew t (model.Answer.Ignored why) =
    after_ignoring o (mid_of s.address) (octets t) t.link_source why
after_frame o g s now octets knew t answer = o

-- after any other call: a restart that isn't refused drops all
abbrev pub after_own_answer : Option (Buffer Waiting) → Answer Transmission
    → Option (Buffer Waiting)
after_own_answer o model.Answer.Restarted = option_map cleared o
after_own_answer o answer = o

abbrev pub contended : Option (Buffer Waiting) → Option Governor → StationModel → ℕ
    → (Transmission → List ℕ) → Bool → Option Transmission → Answer Transmission
    → Option (Buffer Waiting)
contended o g s now octets knew None answer = after_own_answer o answer
contended o g s now octets knew (Some t) answer = after_frame o g s now octets knew t answer

-- ---- a release

-- the frame that is released, if one is, and what waits and the limits after it
pub record Released : Type 0 where
  pub frame : Option Waiting
  pub waiting : Buffer Waiting
  pub governor : Governor

-- a station as the receiver of a frame that waited
abbrev pub receiver_for : ℕ → Waiting → Receiver
receiver_for address w = record { address = address; knew_source = w.knew_source }

-- whether the buckets have room for the frame that is due, if one is
abbrev pub has_room_for_due : Governor → ℕ → ℕ → Option Waiting → Bool
has_room_for_due g address now None = false
has_room_for_due g address now (Some w) =
    has_room_of g (receiver_for address w) now w.source w.number

-- the limits after a frame that is due, which passes or not
abbrev pub after_due_frame : Governor → ℕ → Option Waiting → Bool → Governor
after_due_frame g now None passes = g
after_due_frame g now (Some w) passes = after_forwarding g now w.source true passes

-- by the frame that is due, whether it passes, and what comes of the next ones if it doesn't
abbrev pub released_or : Buffer Waiting → Governor → ℕ → Option Waiting → Bool → Released
    → Released
released_or b g now None passes rest = record { frame = None; waiting = b; governor = g }
released_or b g now (Some w) true rest =
    record {
      frame = Some w;
      waiting = after_release b now;
      governor = after_due_frame g now (Some w) true;
    }
released_or b g now (Some w) false rest = rest

-- Those that are due go one by one, the one with the least time first: one for which the buckets have
-- no room is dropped, until one has room. At most so many are looked at.
abbrev pub release_first : ℕ → ℕ → ℕ → Buffer Waiting → Governor → Released
release_first zero address now b g = record { frame = None; waiting = b; governor = g }
release_first (suc most) address now b g =
    released_or b g now (first_due now b.held)
    (has_room_for_due g address now (first_due now b.held))
    (release_first most address now (after_drop b now)
    (after_due_frame g now (first_due now b.held) false))

-- the same after the late ones were dropped
abbrev pub governed_release : ℕ → ℕ → Buffer Waiting → Governor → Released
governed_release address now b g =
    release_first (length (kept_at now b.held)) address now (after_late b now) g

-- past the limits the one that is due first is released, whatever the buckets have
pub record PastRelease : Type 0 where
  pub frame : Option Waiting
  pub waiting : Buffer Waiting

abbrev pub past_release : ℕ → Buffer Waiting → PastRelease
past_release now b =
    record {
      frame = first_due now (after_late b now).held;
      waiting = after_release (after_late b now) now;
    }
