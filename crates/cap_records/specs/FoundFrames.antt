-- A frame that was found among the octets of a buffer.
use Rattle.std.specs.Prelude.{◌≡◌, ◌≤◌, ◌-◌, ℕ, List, length, take, drop, Bool, true, false}
use Rattle.std.specs.Prelude.{Option, Some, None, Result, Ok, Err, IfOk}
use Rattle.cap_pcap.specs.declared.record.RecordHeader.{RecordHeader}
use Rattle.its_linkframe.specs.Frames.{EncodesFrame}
use Rattle.its_model.specs.Packet.{Transmission}
use Rattle.cap_records.specs.RecordFrames.{is_other, traits_in}
use Rattle.cap_records.specs.declared.choosing.Choice.{Choice}
use Rattle.cap_records.specs.declared.found.Found.{Found}
use Rattle.cap_records.specs.declared.found.Found.TheVariants as found
use Rattle.cap_records.specs.declared.found.FoundFrame.{FoundFrame}
use Rattle.cap_records.specs.declared.found.FramePlace.{FramePlace}
use Rattle.cap_records.specs.Choosing.{selects}
use Rattle.cap_records.specs.OutsideFrames.{IsOutsideFrame, StandardFrame, outside_traits}
use Rattle.cap_records.specs.Selections.{AreProfileTraits, AreTraitsOf, Chooses}
use Rattle.cap_records.specs.declared.frames.FoundRecord.{FoundRecord}
use Rattle.cap_records.specs.declared.selection.Selection.{Selection}
use Rattle.cap_records.specs.declared.refusal.RecordFault.{RecordFault}

-- the octets between two places of a buffer
abbrev pub octets_at : FramePlace → List ℕ → List ℕ
octets_at place w = take (place.end - place.start) (drop place.start w)

-- this frame is there in the buffer
pub record IsPlaced (w : List ℕ) (t : Transmission) (place : FramePlace) : Type 0 where
  pub order : place.start ≤ place.end
  pub inside : place.end ≤ length w
  pub encodes : EncodesFrame t (octets_at place w)

-- this frame outside the profile is there
pub record IsPlacedOutside (w : List ℕ) (s : StandardFrame) (place : FramePlace) : Type 0 where
  pub order : place.start ≤ place.end
  pub inside : place.end ≤ length w
  pub frame : IsOutsideFrame (octets_at place w) s

-- a frame that was found is there
abbrev pub IsThere : List ℕ → Found → Type 0
IsThere w (found.Profile f) = (t : Transmission) × IsPlaced w t f.place
IsThere w (found.Outside o) = (s : StandardFrame) × IsPlacedOutside w s o.place

-- What was found of a record whose frame has to be of the profile: that frame, which is at that place
-- in the buffer, or why it has none.
abbrev pub IsProfileFound : Bool → RecordHeader → List ℕ → List ℕ → Result FoundFrame RecordFault
    → Type 0
IsProfileFound signed h w after (Ok f) = (t : Transmission)
    × AreProfileTraits signed h w (Some (traits_in t)) false × IsPlaced after t f.place
IsProfileFound signed h w after (Err fault) = AreProfileTraits signed h w None (is_other fault)

-- What was found of a record, of which the buffer then has these octets: its frame, which is at that
-- place in the buffer, or why it has none.
abbrev pub IsFoundOf : Bool → Bool → RecordHeader → List ℕ → List ℕ → Result Found RecordFault
    → Type 0
IsFoundOf all signed h w after (Ok (found.Profile f)) = (t : Transmission)
    × AreTraitsOf all signed h w (Some (traits_in t)) false × IsPlaced after t f.place
IsFoundOf all signed h w after (Ok (found.Outside o)) = (s : StandardFrame)
    × AreTraitsOf all signed h w (Some (outside_traits s)) false × IsPlacedOutside after s o.place
IsFoundOf all signed h w after (Err fault) = AreTraitsOf all signed h w None (is_other fault)

-- whether a record of this moment is chosen, of which this was found among these octets
abbrev pub IsFoundChosen : Choice → ℕ → List ℕ → Found → Bool → Type 0
IsFoundChosen choice moment w (found.Profile f) chosen = (t : Transmission)
    → IsPlaced w t f.place → chosen ≡ selects choice moment (Some (traits_in t)) false
IsFoundChosen choice moment w (found.Outside o) chosen = (s : StandardFrame)
    → IsPlacedOutside w s o.place → chosen ≡ selects choice moment (Some (outside_traits s)) false

abbrev pub IsChosenBy : Choice → ℕ → List ℕ → Result Found RecordFault → Bool → Type 0
IsChosenBy choice moment w (Ok f) chosen = IsFoundChosen choice moment w f chosen
IsChosenBy choice moment w (Err fault) chosen =
    chosen ≡ selects choice moment None (is_other fault)

-- What is read of a record for a command that looks at each frame: whether it is selected, and where
-- its frame is in the buffer. Of a record that was cut and is read as far as it goes, the last alone
-- is said.
abbrev pub IsSelected : Selection → RecordHeader → List ℕ → Bool → Type 0
IsSelected selection h w chosen = selection.partial ≡ false
    → Chooses selection.choice selection.signed h w chosen

abbrev pub ReadsFrame : Selection → RecordHeader → List ℕ → List ℕ → Option FoundRecord → Type 0
ReadsFrame selection h w after None = IsSelected selection h w false
ReadsFrame selection h w after (Some r) = IsSelected selection h w true
    × IfOk r.frame (IsThere after)
