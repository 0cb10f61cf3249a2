-- The records of a file, received by the station of the model one after the other.
use Rattle.std.specs.Prelude.{◌≡◌, ℕ, ◌+◌, ◌-◌, ◌^◌, ◌⊎◌, ◌++◌, ◌∷◌, [], List, length, Result}
use Rattle.std.specs.Prelude.{Ok, Err, Option, Some, None, IsSome, Bool, true, false}
use Rattle.cap_records.specs.Pulls.{Given, records_in}
use Rattle.cap_records.specs.declared.choosing.Choice.{Choice}
use Rattle.cap_records.specs.declared.counts.RecordCounts.{RecordCounts}
use Rattle.cap_records.specs.declared.selection.Selection.{Selection}
use Rattle.its_model.specs.Calls as model
use Rattle.cap_pcap.specs.declared.fault.SourceFault.{SourceFault}
use Rattle.cap_pcap.specs.declared.record.RecordHeader.{RecordHeader}
use Rattle.cap_pcap.specs.declared.record.Step.{Step}
use Rattle.cap_pcap.specs.declared.record.Step.TheVariants as steps
use Rattle.its_station.specs.Receiving.{IsFrameCall, IsVerifiedCall, VerifiedCall}
use Rattle.its_unit.specs.Unit.{RepresentsUnit, UnitModel, UnitState, step_by}
use Rattle.its_unit.specs.Unit.UnitCall.{Receive, ReceiveVerified}
use Rattle.its_unit.specs.declared.limiting.Limiting.{Limiting}
use Rattle.cmd_stats.specs.OnAir.{AnswersChoice, IsOnAir, IsSource, is_sent}
use Rattle.cmd_stats.specs.Listening.{Listening, Represents, moved}
use Rattle.cmd_stats.specs.Replies.{TellsReply}
use Rattle.cmd_stats.specs.declared.replay.heard.Heard.{Heard}
use Rattle.cmd_stats.specs.declared.replay.heard.Heard.TheVariants as heards
use Rattle.cmd_stats.specs.declared.replay.listener.Listener.{Listener}
use Rattle.cmd_stats.specs.declared.replay.listener.Rules.{Rules}
use Rattle.cmd_stats.specs.declared.replay.on_air.OnAir.{OnAir}
use Rattle.cmd_stats.specs.declared.replay.on_air.OnAir.TheVariants as airs
use Rattle.cmd_stats.specs.declared.replay.secured_octets.SecuredOctets.{SecuredOctets}

-- The unit receives these octets at the moment, within its limits or past them: the reply is the
-- answer of that very step of the model, and the unit is the one after it.
abbrev pub TellsReceived : Limiting → UnitModel → ℕ → Heard → UnitModel → Type 0
TellsReceived limiting u moment (heards.Received at frame reply) next =
    (at ≡ moment) × ((call : model.Call) × IsFrameCall frame.items call
    × TellsReply reply (step_by limiting u moment (Receive call)).answer
    × (next ≡ (step_by limiting u moment (Receive call)).unit))
TellsReceived limiting u moment (heards.Nothing at fault) next = (at ≡ moment) × (next ≡ u)
TellsReceived limiting u moment (heards.Sent at frame source) next = ⊥

-- The unit receives these octets with the plain part of a secured frame, as `Unit::receive_verified`
-- does; the step is that of the model.
abbrev pub TellsVerified : Limiting → UnitModel → ℕ → Heard → UnitModel → Type 0
TellsVerified limiting u moment (heards.Received at frame reply) next =
    (at ≡ moment) × ((plain : List ℕ) × (call : VerifiedCall)
    × IsVerifiedCall frame.items plain call
    × (next ≡ (step_by limiting u moment (ReceiveVerified call)).unit))
TellsVerified limiting u moment (heards.Nothing at fault) next = (at ≡ moment) × (next ≡ u)
TellsVerified limiting u moment (heards.Sent at frame source) next = ⊥

-- what was on the air is received
abbrev pub TellsAir : Limiting → OnAir → UnitModel → ℕ → Heard → UnitModel → Type 0
TellsAir limiting (airs.Octets octets) u moment heard next =
    TellsReceived limiting u moment heard next
TellsAir limiting (airs.Secured secured) u moment heard next =
    TellsVerified limiting u moment heard next
TellsAir limiting (airs.Nothing fault) u moment heard next =
    TellsReceived limiting u moment heard next

-- what is told is of what the record has on the air: its octets, or why there are none
abbrev pub IsToldOf : List ℕ → Heard → Type 0
IsToldOf octets (heards.Received at frame reply) = frame.items ≡ octets
IsToldOf octets (heards.Nothing at fault) = ⊥
IsToldOf octets (heards.Sent at frame source) = ⊥

abbrev pub IsToldOfSecured : SecuredOctets → Heard → Type 0
IsToldOfSecured s (heards.Received at frame reply) = frame.items ≡ s.frame.items
IsToldOfSecured s (heards.Nothing at fault) = s.plain ≡ Err fault
IsToldOfSecured s (heards.Sent at frame source) = ⊥

abbrev pub IsTold : OnAir → Heard → Type 0
IsTold (airs.Octets octets) heard = IsToldOf octets.items heard
IsTold (airs.Secured s) heard = IsToldOfSecured s heard
IsTold (airs.Nothing fault) (heards.Nothing at why) = why ≡ fault
IsTold (airs.Nothing fault) (heards.Received at frame reply) = ⊥
IsTold (airs.Nothing fault) (heards.Sent at frame source) = ⊥

-- the octets of what was on the air
abbrev pub octets_on_air : OnAir → List ℕ
octets_on_air (airs.Octets octets) = octets.items
octets_on_air (airs.Secured s) = s.frame.items
octets_on_air (airs.Nothing fault) = []

-- What is told of what the station under test sent: its octets, and the source of its packet, if it
-- is read.
abbrev pub TellsSent : OnAir → ℕ → Heard → Type 0
TellsSent air moment (heards.Sent at frame source) =
    (at ≡ moment) × (frame.items ≡ octets_on_air air) × IsSource air source
TellsSent air moment (heards.Nothing at fault) = (at ≡ moment) × (air ≡ airs.Nothing fault)
TellsSent air moment (heards.Received at frame reply) = ⊥

-- What came of what was on the air: it was received, unless the station under test sent it.
abbrev pub TellsBy : Bool → Limiting → OnAir → UnitModel → ℕ → Heard → UnitModel → Type 0
TellsBy true limiting air u moment heard next = TellsSent air moment heard × (next ≡ u)
TellsBy false limiting air u moment heard next =
    IsTold air heard × TellsAir limiting air u moment heard next

-- so by these rules
abbrev pub Tells : Rules → OnAir → UnitModel → ℕ → Heard → UnitModel → Type 0
Tells rules air u moment heard next =
    TellsBy (is_sent rules.against air) rules.limiting air u moment heard next

-- The record is chosen, by what there is of it to hear. The moves up to its moment are made, and then
-- it is received, unless the station under test sent it.
pub record TellsHeard (choice : Choice) (signed : Bool) (rules : Rules) (head : RecordHeader)
    (w : List ℕ) (s : Listening) (told : List Heard) (next : Listening) : Type 0 where
  pub air : OnAir
  pub on_air : IsOnAir signed head w air
  pub chosen : AnswersChoice air choice head.moment true
  pub heard : Heard
  pub after : UnitModel
  pub told_is : told ≡ heard ∷ []
  pub tells : Tells rules air (moved head.moment s).unit head.moment heard after
  pub next_is : next ≡ record { unit = after; moves = (moved head.moment s).moves }

-- The record isn't chosen, by what there is of it to hear: it is as if it weren't there.
pub record TellsPassed (choice : Choice) (signed : Bool) (head : RecordHeader) (w : List ℕ)
    (s : Listening) (told : List Heard) (next : Listening) : Type 0 where
  pub air : OnAir
  pub on_air : IsOnAir signed head w air
  pub passed : AnswersChoice air choice head.moment false
  pub told_is : told ≡ []
  pub next_is : next ≡ s

-- what is told of a record, and the station afterwards
abbrev pub TellsRecord : Choice → Bool → Rules → RecordHeader → List ℕ → Listening
    → List Heard → Listening → Type 0
TellsRecord choice signed rules head w s told next =
    TellsPassed choice signed head w s told next
    ⊎ TellsHeard choice signed rules head w s told next

-- the same of what a call for the next record gives, with these octets: only a record is received
abbrev pub TellsStep : Choice → Bool → Rules → List ℕ → Result Step SourceFault → Listening
    → List Heard → Listening → Type 0
TellsStep choice signed rules w (Ok (steps.Record head)) s told next =
    TellsRecord choice signed rules head w s told next
TellsStep choice signed rules w (Ok steps.Interface) s told next = (told ≡ []) × (next ≡ s)
TellsStep choice signed rules w (Ok steps.Passed) s told next = (told ≡ []) × (next ≡ s)
TellsStep choice signed rules w (Ok steps.End) s told next = (told ≡ []) × (next ≡ s)
TellsStep choice signed rules w (Err fault) s told next = (told ≡ []) × (next ≡ s)

-- The file gave these, one after the other, and was left so: what was told of them, and the station
-- afterwards.
abbrev pub TellsSteps : {S : Type 0} → (S → S → List ℕ → Result Step SourceFault → Type 0)
    → Choice → Bool → Rules → S → Listening → List Given → List Heard → S → Listening
    → Type 0
TellsSteps gives choice signed rules file s [] told left end =
    (told ≡ []) × (left ≡ file) × (end ≡ s)
TellsSteps {S} gives choice signed rules file s (given ∷ more) told left end =
    (first : List Heard) × (rest : List Heard) × (then : S) × (next : Listening)
    × (told ≡ first ++ rest) × gives file then given.octets given.step
    × TellsStep choice signed rules given.octets given.step s first next
    × TellsSteps gives choice signed rules then next more rest left end

-- why one call gave no step, and the first such fault of many
abbrev pub fault_of_step : Result Step SourceFault → Option SourceFault
fault_of_step (Ok step) = None
fault_of_step (Err fault) = Some fault

abbrev pub fault_first : Option SourceFault → Option SourceFault → Option SourceFault
fault_first (Some fault) later = Some fault
fault_first None later = later

abbrev pub fault_in : List Given → Option SourceFault
fault_in [] = None
fault_in (given ∷ more) = fault_first (fault_of_step given.step) (fault_in more)

-- The counts and the fault are those of these calls, and of what was told of them.
pub record AreCounts (counts : RecordCounts) (fault : Option SourceFault) (given : List Given)
    (told : List Heard) : Type 0 where
  pub read : counts.read ≡ records_in given
  pub chosen : counts.chosen ≡ length told
  pub fault_is : fault ≡ fault_in given

-- A station that was this one has received the records that a file gave, those that are chosen, in
-- their order and each at its moment: what was told of them was taken, and it represents the station
-- of the model after these very receptions.
pub record IsReplayed {S : Type 0} (gives : S → S → List ℕ → Result Step SourceFault → Type 0)
    (choice : Choice) (signed : Bool) (rules : Rules) (file : S) (s : Listening) (left : S)
    (station : Listener) (counts : RecordCounts) (fault : Option SourceFault)
    (Took : List Heard → Type 0) : Type 0 where
  pub given : List Given
  pub told : List Heard
  pub end : Listening
  pub counted : AreCounts counts fault given told
  pub tells : TellsSteps gives choice signed rules file s given told left end
  pub took : Took told
  pub stands : Represents station end

-- the last call found the end of the file
abbrev pub IsAtEnd : List Given → Type 0
IsAtEnd given = (before : List Given) × (last : Given) × (given ≡ before ++ last ∷ [])
    × (last.step ≡ Ok steps.End)

-- Why nothing further was read: the file has a fault or ended, or as many records are chosen as are
-- wanted. No file has so many steps as the last case says.
abbrev pub EndsFile : Option ℕ → RecordCounts → Option SourceFault → List Given → Type 0
EndsFile count counts fault given =
    IsSome fault ⊎ IsAtEnd given ⊎ (count ≡ Some counts.chosen) ⊎ (length given ≡ 2 ^ 64 - 1)

-- The same, and the file was read to its end, to its fault, or to as many chosen records as are
-- wanted: so it was left.
pub record IsReplayedWhole {S : Type 0} (gives : S → S → List ℕ → Result Step SourceFault → Type 0)
    (choice : Choice) (count : Option ℕ) (signed : Bool) (rules : Rules) (file : S)
    (s : Listening) (station : Listener) (counts : RecordCounts) (fault : Option SourceFault)
    (Took : List Heard → Type 0) : Type 0 where
  pub left : S
  pub replayed : IsReplayed gives choice signed rules file s left station counts fault Took
  pub ended : EndsFile count counts fault replayed.given

-- ---- words of private functions

-- What is read of a record for a station: what there is of it to hear, if it is chosen by that.
abbrev pub ReadsAir : Selection → RecordHeader → List ℕ → List ℕ → Option OnAir → Type 0
ReadsAir selection head w after (Some air) =
    IsOnAir selection.signed head w air × AnswersChoice air selection.choice head.moment true
ReadsAir selection head w after None =
    (air : OnAir) × IsOnAir selection.signed head w air
    × AnswersChoice air selection.choice head.moment false

-- The steps so far, none of which was the last, with so many steps left.
abbrev pub IsReplaying : {S : Type 0} → (S → S → List ℕ → Result Step SourceFault → Type 0)
    → Selection → Rules → S → Listening → S → Listener → RecordCounts
    → (List Heard → Type 0) → Type 0
IsReplaying gives selection rules file s left station counts Took =
    (r : IsReplayed gives selection.choice selection.signed rules file s left station counts None
    Took)
    × (counts.left + length r.given ≡ 2 ^ 64 - 1)

-- What came of what was on the air, after the moves up to the moment, was taken after what is in the
-- log.
pub record IsHeard (rules : Rules) (air : OnAir) (moment : ℕ) (m : Listening)
    (log : List Heard) (listener : Listener) (Took : List Heard → Type 0) : Type 0 where
  pub heard : Heard
  pub after : UnitModel
  pub tells : Tells rules air (moved moment m).unit moment heard after
  pub took : Took (log ++ heard ∷ [])
  pub stands : Represents listener (record { unit = after; moves = (moved moment m).moves })

-- these octets were received at the moment
pub record TellsOctets (limiting : Limiting) (octets : List ℕ) (moment : ℕ) (u : UnitModel)
    (heard : Heard) (unit : UnitState) : Type 0 where
  pub told : IsToldOf octets heard
  pub next : UnitModel
  pub received : TellsReceived limiting u moment heard next
  pub stands : RepresentsUnit unit next

-- so of a secured frame
pub record TellsSecured (limiting : Limiting) (secured : SecuredOctets) (moment : ℕ)
    (u : UnitModel) (heard : Heard) (unit : UnitState) : Type 0 where
  pub told : IsToldOfSecured secured heard
  pub next : UnitModel
  pub received : TellsVerified limiting u moment heard next
  pub stands : RepresentsUnit unit next

-- what was on the air was received at the moment
pub record TellsOnAir (limiting : Limiting) (air : OnAir) (moment : ℕ) (u : UnitModel)
    (heard : Heard) (unit : UnitState) : Type 0 where
  pub told : IsTold air heard
  pub next : UnitModel
  pub received : TellsAir limiting air u moment heard next
  pub stands : RepresentsUnit unit next

-- what came of what was on the air at the moment
pub record TellsWhat (rules : Rules) (air : OnAir) (moment : ℕ) (u : UnitModel)
    (heard : Heard) (unit : UnitState) : Type 0 where
  pub next : UnitModel
  pub tells : Tells rules air u moment heard next
  pub stands : RepresentsUnit unit next
