-- A station that contends, by itself: what each call or release makes of it, and what becomes of each
-- relay that it answered. The laws are proved in `proofs/Contender*.antt`. No code cites them yet: a
-- unit will, whose buffer holds octets, so `Keeping` has the octets of a frame and its test of copies.
use Rattle.std.specs.Prelude.{◌≡◌, ℕ, ◌+◌, ◌≤◌, Bool, not, nat_le, Option, Some, None, List, []}
use Rattle.std.specs.Prelude.{◌∷◌, ◌++◌, length, map, filter}
use Rattle.std.specs.List.{count_by}
use Rattle.its_gnvalue.specs.Values.{mid_of}
use Rattle.its_model.specs.Packet.{Transmission, Message}
use Rattle.its_model.specs.Calls.{Call, Refusal, Answer}
use Rattle.its_model.specs.Calls.Call.{Own, Receive}
use Rattle.its_model.specs.Calls.Why.{Duplicate}
use Rattle.its_model.specs.Calls.Answer.{Restarted, Ignored, Accepted}
use Rattle.its_model.specs.Station.{StationModel, Step, moment_refusal, station_step}
use Rattle.its_model.specs.Isolation.{TimedCall, station_run}
use Rattle.its_model.specs.Contention.{ContentionRule, HeldFrame, Fate, fate, due_of, late_after}
use Rattle.its_model.specs.Contention.{after_answer, cancelled_by, release_step}
use Rattle.its_model.specs.Contention.Fate.{Stays, Goes, Waits}

-- ---- a contender

-- What waits of a relay, by what came with the packet, such as its message; and whether what came is
-- a copy of what waits, by the own MID.
pub record Keeping (M F : Type 0) : Type 0 where
  pub kept : M → Transmission → F
  pub is_copy : ℕ → F → F → Bool

-- a station, and its frames that wait
pub record Contender (F : Type 0) : Type 0 where
  pub station : StationModel
  pub held : List (HeldFrame F)

-- a call, with what came with a frame, or a release
pub data TimedAct (M : Type 0) : Type 0 where
  Asks : (call : TimedCall) (beside : M) → TimedAct M
  ReleasesAt : (now : ℕ) → TimedAct M

-- what the station answers to a call
abbrev pub step_at : {F : Type 0} → Contender F → TimedCall → Step
step_at c call = station_step c.station call.moment call.call

-- the contender after an act
abbrev pub after_act : {M F : Type 0} → ContentionRule → Keeping M F → Contender F → TimedAct M
    → Contender F
after_act r k c (Asks call beside) =
    record {
      station = (step_at c call).station;
      held = after_answer r k.is_copy (k.kept beside) (step_at c call).station call.moment call.call
          c.held (step_at c call).answer;
    }
after_act r k c (ReleasesAt now) =
    record { station = c.station; held = (release_step c.station now c.held).held }

-- acts, one after the other
abbrev pub contender_run : {M F : Type 0} → ContentionRule → Keeping M F → Contender F
    → List (TimedAct M) → Contender F
contender_run r k c [] = c
contender_run r k c (a ∷ acts) = contender_run r k (after_act r k c a) acts

-- a station whose frames do not wait yet
abbrev pub contender_of : {F : Type 0} → StationModel → Contender F
contender_of s = record { station = s; held = [] }

-- ---- what passes of an answer

-- the fate of what a call's answer gives
abbrev pub fate_in : {F : Type 0} → ContentionRule → StationModel → ℕ → List (HeldFrame F) → Call
    → Answer Transmission → Fate
fate_in r s moment held (Receive t) (Accepted handed relayed) = fate r s moment held t relayed
fate_in r s moment held call answer = Stays

abbrev pub fate_at : {F : Type 0} → ContentionRule → Contender F → TimedCall → Fate
fate_at r c call =
    fate_in r (step_at c call).station call.moment c.held call.call (step_at c call).answer

-- an answer, but that a relay that waits is not given
abbrev pub passed_by : Answer Transmission → Fate → Answer Transmission
passed_by (Accepted handed relayed) (Waits due) = Accepted handed None
passed_by answer its_fate = answer

-- the contender's answer to a call
abbrev pub answer_at : {F : Type 0} → ContentionRule → Contender F → TimedCall
    → Answer Transmission
answer_at r c call = passed_by (step_at c call).answer (fate_at r c call)

-- the calls among acts
abbrev pub calls_in : {M : Type 0} → List (TimedAct M) → List TimedCall
calls_in [] = []
calls_in (Asks call beside ∷ acts) = call ∷ calls_in acts
calls_in (ReleasesAt now ∷ acts) = calls_in acts

-- The station is the one that its calls alone make. Each answer is the station's, but that a relay
-- that waits is not given.
pub record StationsAreAsBefore {M F : Type 0} (r : ContentionRule) (k : Keeping M F)
    (c : Contender F) : Type 0 where
  pub station : (acts : List (TimedAct M))
      → (contender_run r k c acts).station ≡ station_run c.station (calls_in acts)
  pub answers : (acts : List (TimedAct M)) (call : TimedCall)
      → answer_at r (contender_run r k c acts) call
      ≡ passed_by
      (station_step (station_run c.station (calls_in acts)) call.moment call.call).answer
      (fate_at r (contender_run r k c acts) call)

-- ---- where a frame that is released comes from

-- Frame f was put into the buffer by one of these acts, the oldest first: the station answered it
-- there. It is due no earlier than the least wait after that, and no later than the greatest.
pub record WasPut {M F : Type 0} (r : ContentionRule) (k : Keeping M F) (c : Contender F)
    (acts : List (TimedAct M)) (f : F) (due : ℕ) : Type 0 where
  pub earlier : List (TimedAct M)
  pub call : TimedCall
  pub beside : M
  pub since : List (TimedAct M)
  pub packet : Transmission
  pub handed : Option Message
  pub relay : Transmission
  pub split : acts ≡ earlier ++ Asks call beside ∷ since
  pub received : call.call ≡ Receive packet
  pub answered : (step_at (contender_run r k c earlier) call).answer ≡ Accepted handed (Some relay)
  pub same : k.kept beside relay ≡ f
  pub due_is : due
      ≡ due_of r (step_at (contender_run r k c earlier) call).station call.moment packet
  pub not_before : call.moment + r.min_wait ≤ due
  pub not_after : due ≤ call.moment + r.max_wait

-- a frame that is released was put, and is released from its due time to a second after it
pub record IsReleasedAsPut {M F : Type 0} (r : ContentionRule) (k : Keeping M F) (c : Contender F)
    (acts : List (TimedAct M)) (f : F) (now : ℕ) : Type 0 where
  pub due : ℕ
  pub put : WasPut r k c acts f due
  pub not_before : due ≤ now
  pub not_after : now ≤ due + late_after

-- What is released after acts is what the station answered when it accepted a packet.
abbrev pub ReleasedIsWhatWouldBeSent : {M F : Type 0} → ContentionRule → Keeping M F
    → StationModel → Type 0
ReleasedIsWhatWouldBeSent {M} {F} r k s =
    (acts : List (TimedAct M)) (now : ℕ) (f : F)
    → let c = contender_run r k (contender_of s) acts in
    (release_step c.station now c.held).released ≡ Some f
    → IsReleasedAsPut r k (contender_of s) acts f now

-- ---- what becomes of each relay

-- a list of what there is
abbrev pub listed : {F : Type 0} → Option F → List F
listed None = []
listed (Some f) = f ∷ []

-- the relay of an answer to a call, as it would wait
abbrev pub relay_in : {F : Type 0} → (Transmission → F) → Call → Answer Transmission → List F
relay_in kept (Receive t) (Accepted handed (Some relay)) = kept relay ∷ []
relay_in kept call answer = []

-- the relay that the station answers in an act
abbrev pub relayed_in : {M F : Type 0} → Keeping M F → Contender F → TimedAct M → List F
relayed_in k c (Asks call beside) = relay_in (k.kept beside) call.call (step_at c call).answer
relayed_in k c (ReleasesAt now) = []

-- what goes at once
abbrev pub gone_by : {F : Type 0} → Fate → List F → List F
gone_by Goes relays = relays
gone_by its_fate relays = []

abbrev pub sent_at_once : {M F : Type 0} → ContentionRule → Keeping M F → Contender F
    → TimedAct M → List F
sent_at_once r k c (Asks call beside) =
    gone_by (fate_at r c call) (relay_in (k.kept beside) call.call (step_at c call).answer)
sent_at_once r k c (ReleasesAt now) = []

-- what is released
abbrev pub released_in : {M F : Type 0} → Contender F → TimedAct M → List F
released_in c (Asks call beside) = []
released_in c (ReleasesAt now) = listed (release_step c.station now c.held).released

-- what copies cancel
abbrev pub cancelled_for : {M F : Type 0} → ContentionRule → Keeping M F → M → StationModel
    → List (HeldFrame F) → Call → Answer Transmission → List F
cancelled_for r k beside s held (Receive t) (Ignored Duplicate) =
    cancelled_by r.copies (λ f. k.is_copy (mid_of s.address) f (k.kept beside t)) t.link_source held
cancelled_for r k beside s held call answer = []

abbrev pub cancelled_in : {M F : Type 0} → ContentionRule → Keeping M F → Contender F
    → TimedAct M → List F
cancelled_in r k c (Asks call beside) =
    cancelled_for r k beside (step_at c call).station c.held call.call (step_at c call).answer
cancelled_in r k c (ReleasesAt now) = []

-- the frames that wait, without when they are due
abbrev pub frames_of_held : {F : Type 0} → List (HeldFrame F) → List F
frames_of_held held = map (λ h. h.frame) held

-- what a restart drops, and what is late at a release that is not refused
abbrev pub dropped_for : {F : Type 0} → List (HeldFrame F) → Call → Answer Transmission → List F
dropped_for held (Own call) Restarted = frames_of_held held
dropped_for held call answer = []

abbrev pub dropped_by_release : {F : Type 0} → ℕ → List (HeldFrame F) → Option Refusal → List F
dropped_by_release now held None =
    frames_of_held (filter (λ h. not (nat_le now (h.due + late_after))) held)
dropped_by_release now held (Some refusal) = []

abbrev pub dropped_in : {M F : Type 0} → Contender F → TimedAct M → List F
dropped_in c (Asks call beside) = dropped_for c.held call.call (step_at c call).answer
dropped_in c (ReleasesAt now) = dropped_by_release now c.held (moment_refusal c.station now)

-- one of these in each act, one after the other
abbrev pub in_each : {M F : Type 0} → ContentionRule → Keeping M F
    → (Contender F → TimedAct M → List F) → Contender F → List (TimedAct M) → List F
in_each r k what c [] = []
in_each r k what c (a ∷ acts) = what c a ++ in_each r k what (after_act r k c a) acts

-- What became of the relays of these acts.
pub record Forwarding (F : Type 0) : Type 0 where
  pub relayed : List F
  pub at_once : List F
  pub released : List F
  pub cancelled : List F
  pub dropped : List F
  pub waiting : List F

abbrev pub forwarding_of : {M F : Type 0} → ContentionRule → Keeping M F → Contender F
    → List (TimedAct M) → Forwarding F
forwarding_of r k c acts =
    record {
      relayed = in_each r k (relayed_in k) c acts;
      at_once = in_each r k (sent_at_once r k) c acts;
      released = in_each r k released_in c acts;
      cancelled = in_each r k (cancelled_in r k) c acts;
      dropped = in_each r k dropped_in c acts;
      waiting = frames_of_held (contender_run r k c acts).held;
    }

-- How many there are of a kind: those that the station answered are those that went at once, were
-- released, were cancelled or dropped, or wait. With a kind for each one, they are the same ones.
abbrev pub AreCounted : {F : Type 0} → (F → Bool) → Forwarding F → Type 0
AreCounted kind f =
    count_by kind f.relayed
    ≡ count_by kind f.at_once + count_by kind f.released + count_by kind f.cancelled
    + count_by kind f.dropped + count_by kind f.waiting

-- In any acts of a station whose frames do not wait yet each relay is accounted for, once. So no more
-- frames go out than the station answered.
pub record ForwardsAreCounted {M F : Type 0} (r : ContentionRule) (k : Keeping M F)
    (s : StationModel) : Type 0 where
  pub each : (kind : F → Bool) (acts : List (TimedAct M))
      → AreCounted kind (forwarding_of r k (contender_of s) acts)
  pub no_more : (acts : List (TimedAct M))
      → let f = forwarding_of r k (contender_of s) acts in
      length f.at_once + length f.released ≤ length f.relayed
