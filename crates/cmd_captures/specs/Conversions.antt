-- What `convert` writes of the records of a file.
use Rattle.std.specs.Prelude.{◌≡◌, ◌⊎◌, ℕ, ◌+◌, ◌-◌, ◌^◌, ◌≤◌, Bool, true, false, ◌||◌, ◌&&◌, nat_lt}
use Rattle.std.specs.Prelude.{if◌then◌else◌, List, [], ◌∷◌, ◌++◌, length, take}
use Rattle.std.specs.Prelude.{Option, Some, None, is_some, Result, Ok, Err}
use Rattle.std.specs.Io.KnownBytes.{Appends}
use Rattle.cap_records.specs.declared.choosing.Choice.{Choice}
use Rattle.cap_linklayers.specs.LinkLayers.{IsFrameIn, IsLinkFault}
use Rattle.cap_linklayers.specs.declared.link.TheConstants.{LONGEST_RECORD}
use Rattle.std.specs.declared.io.traits.Read as reads
use Rattle.its_linkframe.specs.declared.source.Source as sources_of
use Rattle.cap_pcap.specs.InterfaceHeads.{millis_head, name_in}
use Rattle.cap_pcap.specs.Sources.{layer_of_source, newest_of_source}
use Rattle.cap_pcap.specs.Stamps.{stamp_in}
use Rattle.cap_pcap.specs.declared.info.InterfaceHead.{InterfaceHead}
use Rattle.cap_pcap.specs.declared.info.InterfaceInfo.{InterfaceInfo}
use Rattle.cap_pcap.specs.declared.pcap.Unit.{Unit as TimeUnit}
use Rattle.cap_pcap.specs.declared.pcap.Unit.TheVariants as units
use Rattle.cap_pcap.specs.declared.source.AnySource.{AnySource}
use Rattle.cap_pcap.specs.PcapWritten.{file_header}
use Rattle.cap_pcap.specs.PcapngWritten.{section_octets, interface_octets}
use Rattle.cap_pcap.specs.Places.{IsLayerFor, refusal_of}
use Rattle.cap_pcap.specs.RecordFiles.{RecordFile, HasPlace, RefusesFrame, frame_octets}
use Rattle.cap_pcap.specs.declared.fault.SourceFault.{SourceFault}
use Rattle.cap_pcap.specs.declared.format.Format.{Format}
use Rattle.cap_pcap.specs.declared.format.Format.TheVariants as formats
use Rattle.cap_linklayers.specs.declared.link.LinkLayer.{LinkLayer}
use Rattle.cap_linklayers.specs.declared.link.LinkLayer.TheVariants as layers
use Rattle.cap_pcap.specs.declared.put_fault.PutFault.{PutFault}
use Rattle.cap_pcap.specs.declared.put_fault.PutFault.TheVariants as puts
use Rattle.cap_pcap.specs.declared.record.RecordHeader.{RecordHeader}
use Rattle.cap_pcap.specs.declared.record.Step.{Step}
use Rattle.cap_pcap.specs.declared.record.Step.TheVariants as steps
use Rattle.cap_pcap.specs.declared.sink.SinkFault.{SinkFault}
use Rattle.cap_pcap.specs.declared.sink.SinkFault.TheVariants as faults
use Rattle.cap_records.specs.SignedFrames.{HasPlain, IsUnread, inner_frame, reads_secured}
use Rattle.cap_records.specs.Selections.{Chooses}
use Rattle.cap_records.specs.declared.counts.RecordCounts.{RecordCounts}
use Rattle.cap_records.specs.declared.refusal.RecordFault.{RecordFault}
use Rattle.cap_records.specs.declared.selection.Selection.{Selection}
use Rattle.cap_records.specs.declared.signed.PlainPart.{PlainPart}
use Rattle.cmd_reporting.specs.declared.status.Status.{Status}
use Rattle.cmd_reporting.specs.declared.status.Status.TheVariants.{Done, Refused}
use Rattle.cmd_captures.specs.declared.converting.Copied.{Copied}
use Rattle.cmd_captures.specs.declared.converting.Copied.TheVariants as copies
use Rattle.cmd_captures.specs.declared.written.PutRefusal.{PutRefusal}
use Rattle.cmd_captures.specs.declared.written.PutRefusal.TheVariants as refusals

-- ---- the file that is written

-- The file, whether frames are written in place of the records that they stand in, the link layer
-- of all its records, once it is known, the unit of classic pcap below the second, and whether what
-- it begins with is written.
pub record Target : Type 0 where
  pub file : RecordFile
  pub frames_only : Bool
  pub layer : Option LinkLayer
  pub unit : TimeUnit
  pub begun : Bool

-- what a file of a format begins with, of records of a link layer, with times in a unit
abbrev pub start_octets : Format → TimeUnit → LinkLayer → List ℕ
start_octets formats.Capture u l = []
start_octets formats.Pcap u l = file_header u l
start_octets formats.Pcapng u l = section_octets

-- its interface, where the file that is read has none: Ethernet, in milliseconds
abbrev pub first_interface : Format → List ℕ
first_interface formats.Capture = []
first_interface formats.Pcap = []
first_interface formats.Pcapng = interface_octets millis_head []

abbrev pub header_octets : Format → TimeUnit → LinkLayer → List ℕ
header_octets format u l = start_octets format u l ++ first_interface format

-- the same, where it is still to be written: with the first record
abbrev pub headers_due : Target → LinkLayer → List ℕ
headers_due t l = if t.begun then [] else header_octets t.file.format t.unit l

-- ---- an interface that begins in the file that is read

-- what that file says: the link layer of all its records, if it says one for all, and what it says
-- of the interface that began last
pub record Said : Type 0 where
  pub layer : Option LinkLayer
  pub newest : Option InterfaceInfo

abbrev pub said_by :
    {S : Type 0} {s : sources_of.Ghosts S} {r : reads.Ghosts S} → AnySource S s r → Said
said_by file = record { layer = layer_of_source file; newest = newest_of_source file }

-- ticks of this `if_tsresol` aren't whole microseconds
abbrev pub is_finer_unit : ℕ → Bool
is_finer_unit r = (nat_lt 6 r && nat_lt r 128) || nat_lt 134 r

-- the unit of classic pcap after an interface: nanoseconds where one has such ticks
abbrev pub unit_with : TimeUnit → Option InterfaceInfo → TimeUnit
unit_with u None = u
unit_with u (Some info) = if is_finer_unit info.head.resolution then units.Nano else u

-- what is known of the link layer once the file that is read says one, or says none
abbrev pub known_layer : Option LinkLayer → Option LinkLayer → Option LinkLayer
known_layer (Some l) said = Some l
known_layer None said = said

-- what is known of the file that is written then: its unit stays once its header is written
abbrev pub expecting : Target → Said → Target
expecting t said = record {
  file = t.file;
  frames_only = t.frames_only;
  layer = known_layer t.layer said.layer;
  unit = if t.begun then t.unit else unit_with t.unit said.newest;
  begun = t.begun;
}

-- the head of an interface as it is written: frames are of Ethernet
abbrev pub head_to : Bool → InterfaceHead → InterfaceHead
head_to false head = head
head_to true head = record { link = 1; resolution = head.resolution; offset = head.offset }

-- the section header, where it is still to be written
abbrev pub section_due : Target → List ℕ
section_due t = if t.begun then [] else section_octets

-- an interface block is written behind all that there is, and behind the section header, where that
-- is due
pub record HasInterface (info : InterfaceInfo) (t : Target) (added : List ℕ) (next : Target)
    : Type 0 where
  pub added_is : added
      ≡ section_due t ++ interface_octets (head_to t.frames_only info.head) (name_in info.name)
  pub appends : Appends t.file.contents next.file.contents added
  pub format : next.file.format ≡ t.file.format
  pub frames_only : next.frames_only ≡ t.frames_only
  pub layer : next.layer ≡ t.layer
  pub unit : next.unit ≡ t.unit
  pub begun : next.begun ≡ true

-- what becomes of the file that is written: pcapng gets a block, and nothing is written else
abbrev pub MeetsNewest : Option InterfaceInfo → Target → List ℕ → Target → Type 0
MeetsNewest None t added next = (added ≡ []) × (next ≡ t)
MeetsNewest (Some info) t added next = HasInterface info t added next

abbrev pub MeetsIn : Format → Said → Target → List ℕ → Target → Type 0
MeetsIn formats.Capture said t added next = (added ≡ []) × (next ≡ expecting t said)
MeetsIn formats.Pcap said t added next = (added ≡ []) × (next ≡ expecting t said)
MeetsIn formats.Pcapng said t added next = MeetsNewest said.newest t added next

abbrev pub MeetsInterface : Said → Target → List ℕ → Target → Type 0
MeetsInterface said t added next = MeetsIn t.file.format said t added next

-- ---- records

-- The octets that are written of a frame, of which it is said whether it is read as a secured one:
-- the frame, or the inner frame by its plain part, which isn't checked.
abbrev pub IsWrittenOf : Bool → List ℕ → List ℕ → Type 0
IsWrittenOf false carried text = text ≡ carried
IsWrittenOf true carried text =
    (part : PlainPart) × HasPlain carried part × (text ≡ inner_frame carried part)

-- the frame that is written of a record of this link layer
abbrev pub IsFrameText : Bool → LinkLayer → List ℕ → List ℕ → Type 0
IsFrameText signed own w text =
    (carried : List ℕ) × IsFrameIn own w carried
    × IsWrittenOf (reads_secured signed carried) carried text

-- The octets that are written of a record, and their link layer: all of them and the record's own,
-- or those of its frame and Ethernet. The record is of the link layer of the file, if that is
-- known, and wasn't cut.
abbrev pub HasText : Bool → Option LinkLayer → Bool → RecordHeader → List ℕ → LinkLayer → List ℕ → Type 0
HasText false only signed h w l text = IsLayerFor h only l × (text ≡ w)
HasText true only signed h w l text =
    (own : LinkLayer) × IsLayerFor h None own × (l ≡ layers.Ethernet) × IsFrameText signed own w text

-- why nothing is written of a record, in the order in which it is checked: its link layer or its
-- being cut, that it has no frame, or that its length or its moment has no place in the file
abbrev pub refusal_to : Bool → Option LinkLayer → Option LinkLayer
refusal_to true only = None
refusal_to false only = only

-- the file that is written has a place for such a record, of its own interface
abbrev pub HasPlaceIn : Target → RecordHeader → List ℕ → Type 0
HasPlaceIn t h text =
    HasPlace t.file.format (h.interface + 1) h.interface (stamp_in t.unit h) text

-- what speaks against it
abbrev pub RefusesIn : Target → RecordHeader → List ℕ → PutFault → Type 0
RefusesIn t h text fault =
    RefusesFrame t.file.format (h.interface + 1) h.interface (stamp_in t.unit h) text fault

abbrev pub IsLeftOut : Target → Bool → RecordHeader → List ℕ → SinkFault → Type 0
IsLeftOut t signed h w (faults.Record f) =
    refusal_of h (refusal_to t.frames_only t.layer) ≡ Some f
IsLeftOut t signed h w (faults.Link f) =
    (t.frames_only ≡ true) × (own : LinkLayer) × IsLayerFor h None own × IsLinkFault own w f
IsLeftOut t signed h w (faults.Put f) =
    (l : LinkLayer) × (text : List ℕ) × HasText t.frames_only t.layer signed h w l text
    × RefusesIn t h text f

-- why no frame is written of a record: it is a secured one whose message isn't read
pub record IsUnreadIn (t : Target) (signed : Bool) (h : RecordHeader) (w : List ℕ)
    (fault : RecordFault) : Type 0 where
  pub frames_only : t.frames_only ≡ true
  pub own : LinkLayer
  pub layer : IsLayerFor h None own
  pub carried : List ℕ
  pub carries : IsFrameIn own w carried
  pub secured : reads_secured signed carried ≡ true
  pub unread : IsUnread carried fault

-- the link layer of the file after a record of this one: pcapng has them side by side
abbrev pub layer_after : Format → LinkLayer → Option LinkLayer → Option LinkLayer
layer_after formats.Capture l old = Some l
layer_after formats.Pcap l old = Some l
layer_after formats.Pcapng l old = old

-- These octets are written as a record of a link layer, of the record's own interface and at its
-- time, behind all that there is, and behind what the file begins with, where that is due: `added`
-- is all of it.
pub record IsAdded (l : LinkLayer) (h : RecordHeader) (text added : List ℕ) (t next : Target)
    : Type 0 where
  pub place : HasPlaceIn t h text
  pub added_is : added
      ≡ headers_due t l ++ frame_octets t.file.format h.interface (stamp_in t.unit h) text
  pub appends : Appends t.file.contents next.file.contents added
  pub format : next.file.format ≡ t.file.format
  pub frames_only : next.frames_only ≡ t.frames_only
  pub layer : next.layer ≡ layer_after t.file.format l t.layer
  pub unit : next.unit ≡ t.unit
  pub begun : next.begun ≡ true

-- the octets of a record that its frame is looked for in
abbrev pub kept : List ℕ → List ℕ
kept w = take LONGEST_RECORD w

-- what became of a selected record, what was written of it, and the file afterwards
abbrev pub Writes : Bool → RecordHeader → List ℕ → Target → List ℕ → Target → Copied → Type 0
Writes signed h w t added next copies.Written =
    (l : LinkLayer) × (text : List ℕ) × HasText t.frames_only t.layer signed h w l text
    × IsAdded l h text added t next
Writes signed h w t added next (copies.LeftOut fault) =
    IsLeftOut t signed h w fault × (added ≡ []) × (next ≡ t)
Writes signed h w t added next (copies.Unread fault) =
    IsUnreadIn t signed h w fault × (added ≡ []) × (next ≡ t)

-- ---- all records of a file

-- what a step met: a record that isn't selected, or what became of a selected one; a part of the file
-- without a record; its end, or its fault
pub data Met : Type 0 where
  Passed : Met
  Chosen : Copied → Met
  NoRecord : Met
  End : Option SourceFault → Met

-- one step: the octets and the answer of a call for the next record, and what became of it
pub record Went : Type 0 where
  pub octets : List ℕ
  pub step : Result Step SourceFault
  pub met : Met

-- What a step writes. Records are written, and the blocks of interfaces, of which the file that is
-- read has said this.
abbrev pub WritesMet : Choice → Bool → Said → List ℕ → Result Step SourceFault → Met
    → Target → List ℕ → Target → Type 0
WritesMet choice signed said w (Ok (steps.Record h)) Met.Passed t added next =
    Chooses choice signed h (kept w) false × (added ≡ []) × (next ≡ t)
WritesMet choice signed said w (Ok (steps.Record h)) (Met.Chosen copied) t added next =
    Chooses choice signed h (kept w) true × Writes signed h w t added next copied
WritesMet choice signed said w (Ok steps.Interface) Met.NoRecord t added next =
    MeetsInterface said t added next
WritesMet choice signed said w (Ok steps.Passed) Met.NoRecord t added next =
    (added ≡ []) × (next ≡ t)
WritesMet choice signed said w (Ok steps.End) (Met.End None) t added next =
    (added ≡ []) × (next ≡ t)
WritesMet choice signed said w (Err fault) (Met.End (Some told)) t added next =
    (told ≡ fault) × (added ≡ []) × (next ≡ t)
WritesMet choice signed said w step met t added next = ⊥

-- The file that is read went these steps, one after the other, and was left so: what was written,
-- in their order, and the file that is written afterwards.
abbrev pub WritesSteps : {S : Type 0} → (S → S → List ℕ → Result Step SourceFault → Type 0)
    → (S → Said) → Choice → Bool → S → Target → List Went → List ℕ → S → Target
    → Type 0
WritesSteps gives said choice signed file t [] added left end =
    (added ≡ []) × (left ≡ file) × (end ≡ t)
WritesSteps {S} gives said choice signed file t (went ∷ more) added left end =
    (first : List ℕ) × (rest : List ℕ) × (later : S) × (next : Target)
    × (added ≡ first ++ rest) × gives file later went.octets went.step
    × WritesMet choice signed (said later) went.octets went.step went.met t first next
    × WritesSteps gives said choice signed later next more rest left end

-- whether a step was told on standard error: a record was left out, or the file has a fault
abbrev pub is_left_out : Copied → Bool
is_left_out copies.Written = false
is_left_out (copies.LeftOut fault) = true
is_left_out (copies.Unread fault) = true

abbrev pub is_told : Met → Bool
is_told Met.Passed = false
is_told (Met.Chosen copied) = is_left_out copied
is_told Met.NoRecord = false
is_told (Met.End (Some fault)) = true
is_told (Met.End None) = false

-- whether no further step follows
abbrev pub is_end : Met → Bool
is_end Met.Passed = false
is_end (Met.Chosen copied) = false
is_end Met.NoRecord = false
is_end (Met.End fault) = true

-- how many selected records a step has
abbrev pub chosen_of : Met → ℕ
chosen_of Met.Passed = 0
chosen_of (Met.Chosen copied) = 1
chosen_of Met.NoRecord = 0
chosen_of (Met.End fault) = 0

-- the same of all steps
abbrev pub any_told : List Went → Bool
any_told [] = false
any_told (went ∷ more) = is_told went.met || any_told more

abbrev pub any_end : List Went → Bool
any_end [] = false
any_end (went ∷ more) = is_end went.met || any_end more

abbrev pub chosen_in : List Went → ℕ
chosen_in [] = 0
chosen_in (went ∷ more) = chosen_of went.met + chosen_in more

-- refused where a record was left out or the file has a fault, and else done
abbrev pub told_status : Bool → Status
told_status told = if told then Refused else Done

-- Where the steps end: at the end of the file or its fault; or where as many records were chosen as
-- are wanted; no file has as many steps as there are numbers.
abbrev pub AreAll : Option ℕ → List Went → Type 0
AreAll count went =
    (any_end went ≡ true) ⊎ ((count ≡ Some (chosen_in went)) ⊎ (2 ^ 64 - 1 ≤ length went))

-- The records of a file were copied: behind what the other had stands what was written of its
-- records, one after the other, and of nothing else.
pub record IsCopied {S : Type 0} (gives : S → S → List ℕ → Result Step SourceFault → Type 0)
    (said : S → Said) (choice : Choice) (count : Option ℕ) (signed : Bool) (file : S)
    (t : Target) (end : Target) (status : Status) : Type 0 where
  pub went : List Went
  pub added : List ℕ
  pub left : S
  pub writes : WritesSteps gives said choice signed file t went added left end
  pub contents : Appends t.file.contents end.file.contents added
  pub all : AreAll count went
  pub status_is : status ≡ told_status (any_told went)

-- ---- words of private functions

-- what a fault of the file itself is, or of its interfaces
abbrev pub IsFileFault : PutFault → Type 0
IsFileFault puts.Length = ⊥
IsFileFault puts.Moment = ⊥
IsFileFault puts.Interface = Unit {0}
IsFileFault puts.Name = Unit {0}
IsFileFault puts.Io = Unit {0}
IsFileFault puts.Failed = Unit {0}

-- what the file begins with is written, where it was due
pub record IsBegun (l : LinkLayer) (t next : Target) : Type 0 where
  pub appends : Appends t.file.contents next.file.contents (headers_due t l)
  pub format : next.file.format ≡ t.file.format
  pub frames_only : next.frames_only ≡ t.frames_only
  pub layer : next.layer ≡ t.layer
  pub unit : next.unit ≡ t.unit
  pub begun : next.begun ≡ true

-- the section header is written, where it was due
pub record HasSection (t next : Target) : Type 0 where
  pub appends : Appends t.file.contents next.file.contents (section_due t)
  pub format : next.file.format ≡ t.file.format
  pub frames_only : next.frames_only ≡ t.frames_only
  pub layer : next.layer ≡ t.layer
  pub unit : next.unit ≡ t.unit
  pub begun : next.begun ≡ true

-- what came of octets of a link layer that were to be written: where the file itself failed, no more
-- is said
abbrev pub WritesText : LinkLayer → RecordHeader → List ℕ → Target → Target
    → Result (Unit {0}) SinkFault → Type 0
WritesText l h text t next (Ok _) =
    (added : List ℕ) × IsAdded l h text added t next
WritesText l h text t next (Err (faults.Put puts.Length)) =
    RefusesIn t h text puts.Length × (next ≡ t)
WritesText l h text t next (Err (faults.Put puts.Moment)) =
    RefusesIn t h text puts.Moment × (next ≡ t)
WritesText l h text t next (Err (faults.Put fault)) = Unit {0}
WritesText l h text t next (Err (faults.Record fault)) = ⊥
WritesText l h text t next (Err (faults.Link fault)) = ⊥

-- why no frame is written of a record of this link layer
abbrev pub IsTextFault : Bool → LinkLayer → List ℕ → PutRefusal → Type 0
IsTextFault signed own w (refusals.Sink (faults.Link f)) = IsLinkFault own w f
IsTextFault signed own w (refusals.Sink (faults.Record f)) = ⊥
IsTextFault signed own w (refusals.Sink (faults.Put f)) = ⊥
IsTextFault signed own w (refusals.Unread fault) =
    (carried : List ℕ) × IsFrameIn own w carried × (reads_secured signed carried ≡ true)
    × IsUnread carried fault

-- the same of a record
abbrev pub PutsRecord : Bool → RecordHeader → List ℕ → Target → Target → Result (Unit {0}) PutRefusal
    → Type 0
PutsRecord signed h w t next (Ok _) =
    (l : LinkLayer) × (text : List ℕ) × (added : List ℕ)
    × HasText t.frames_only t.layer signed h w l text × IsAdded l h text added t next
PutsRecord signed h w t next (Err (refusals.Sink (faults.Put puts.Length))) =
    IsLeftOut t signed h w (faults.Put puts.Length) × (next ≡ t)
PutsRecord signed h w t next (Err (refusals.Sink (faults.Put puts.Moment))) =
    IsLeftOut t signed h w (faults.Put puts.Moment) × (next ≡ t)
PutsRecord signed h w t next (Err (refusals.Sink (faults.Put fault))) = Unit {0}
PutsRecord signed h w t next (Err (refusals.Sink (faults.Record fault))) =
    IsLeftOut t signed h w (faults.Record fault) × (next ≡ t)
PutsRecord signed h w t next (Err (refusals.Sink (faults.Link fault))) =
    IsLeftOut t signed h w (faults.Link fault) × (next ≡ t)
PutsRecord signed h w t next (Err (refusals.Unread fault)) =
    IsUnreadIn t signed h w fault × (next ≡ t)

-- What a reader says that leaves each record as it is in its file: only whether it is selected.
abbrev pub ReadsWhole : Selection → RecordHeader → List ℕ → List ℕ → Option (Unit {0}) → Type 0
ReadsWhole selection h w after read =
    (after ≡ w) × Chooses selection.choice selection.signed h (kept w) (is_some read)

-- the steps so far
pub record IsCopying {S : Type 0} (gives : S → S → List ℕ → Result Step SourceFault → Type 0)
    (said : S → Said) (choice : Choice) (signed : Bool) (file : S) (t : Target)
    (left : S) (end : Target) (refused : Bool) (counts : RecordCounts) : Type 0 where
  pub went : List Went
  pub added : List ℕ
  pub writes : WritesSteps gives said choice signed file t went added left end
  pub contents : Appends t.file.contents end.file.contents added
  pub gone : counts.left + length went ≡ 2 ^ 64 - 1
  pub chosen : counts.chosen ≡ chosen_in went
  pub refused_is : refused ≡ any_told went
