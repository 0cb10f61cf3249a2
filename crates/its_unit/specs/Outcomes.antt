-- What becomes of each frame in which an accepted packet goes on, and which copies cancel one.
use Rattle.std.specs.Prelude.{◌≡◌, ◌⊎◌, ℕ, List, [], ◌∷◌, true, false, Option, Some, None}
use Rattle.its_gnvalue.specs.Values.{mid_of}
use Rattle.its_linkframe.specs.Copies.{is_copy}
use Rattle.its_model.specs.History.{is_among}
use Rattle.its_model.specs.Packet.{Message, Transmission}
use Rattle.its_model.specs.Calls as model
use Rattle.its_model.specs.Calls.{Answer}
use Rattle.its_station.specs.Counting.{one_more}
use Rattle.its_unit.specs.Fleets.{frame_passed}
use Rattle.its_unit.specs.Runs.{UnitAct, UnitCallAt, after_act, counted_since, unit_acts}
use Rattle.its_unit.specs.Unit.{UnitModel, UnitStep, frame_of, octets_in, step_within, unit_step}

-- ---- each frame is settled

-- The frame waits: nothing is sent, and the unit says when it is due.
pub record Waits (step : UnitStep) : Type 0 where
  pub due : ℕ
  pub due_is : step.due ≡ Some due
  pub sent : frame_passed step.answer ≡ None

-- The frame goes at once.
pub record GoesAtOnce (step : UnitStep) (relay : Transmission) : Type 0 where
  pub due : step.due ≡ None
  pub sent : frame_passed step.answer ≡ Some relay

-- The limits withhold it, and count it.
pub record IsSuppressed (u : UnitModel) (step : UnitStep) : Type 0 where
  pub due : step.due ≡ None
  pub sent : frame_passed step.answer ≡ None
  pub counted : step.unit.governor.counts.suppressed
      ≡ one_more u.governor.counts.suppressed

-- Each frame with which the station answers an accepted packet waits, or goes at once, or is withheld
-- and counted. So none is lost in silence: of those that wait `ForwardsAreCounted` says what becomes.
abbrev pub ForwardsAreSettled : UnitModel → Type 0
ForwardsAreSettled u =
    (acts : List UnitAct) (next : UnitCallAt) (t : Transmission) (handed : Option Message)
    (relay : Transmission)
    → let now = unit_acts u acts in
    let step = unit_step now next.now next.call in
    frame_of next.call ≡ Some t
    → (step_within now.station next.now next.call).answer
    ≡ model.Answer.Accepted handed (Some relay)
    → Waits step ⊎ (GoesAtOnce step relay ⊎ IsSuppressed now step)

-- ---- copies come from other stations

-- The call brings a copy of a frame with these octets from this link sender: it is a duplicate, and that
-- very frame, sent to all by another station. Only the link sender and the lifetime may differ.
pub record IsCopyIn (u : UnitModel) (c : UnitCallAt) (waiting : List ℕ) (sender : ℕ) : Type 0 where
  pub packet : Transmission
  pub brought : frame_of c.call ≡ Some packet
  pub from : packet.link_source ≡ sender
  pub duplicate : (step_within u.station c.now c.call).answer
      ≡ model.Answer.Ignored model.Why.Duplicate
  pub copy : is_copy (mid_of (step_within u.station c.now c.call).station.address) waiting
      (octets_in c.call packet) ≡ true

abbrev pub IsCopyInAct : UnitModel → UnitAct → List ℕ → ℕ → Type 0
IsCopyInAct u (UnitAct.Calls c) waiting sender = IsCopyIn u c waiting sender
IsCopyInAct u (UnitAct.Releases now) waiting sender = ⊥

-- one of these acts brings one
abbrev pub CopyCame : UnitModel → List UnitAct → List ℕ → ℕ → Type 0
CopyCame u [] waiting sender = ⊥
CopyCame u (a ∷ acts) waiting sender =
    IsCopyInAct u a waiting sender ⊎ CopyCame (after_act u a) acts waiting sender

-- each of these senders has this, and no sender is there twice
abbrev pub Each : (ℕ → Type 0) → List ℕ → Type 0
Each P [] = Unit {0}
Each P (s ∷ senders) = P s × Each P senders

abbrev pub AreDifferent : List ℕ → Type 0
AreDifferent [] = Unit {0}
AreDifferent (s ∷ senders) = (is_among s senders ≡ false) × AreDifferent senders

-- The senders that are counted of a frame that waits, to cancel it (`CancelledByTheSameFrame`), are
-- different, and a copy came from each.
abbrev pub CopiesComeFromOthers : UnitModel → Type 0
CopiesComeFromOthers u =
    (acts : List UnitAct) (since : List UnitAct) (waiting : List ℕ)
    → let now = unit_acts u acts in
    AreDifferent (counted_since now since waiting [])
    × Each (CopyCame now since waiting) (counted_since now since waiting [])
