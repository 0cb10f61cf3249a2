-- Which records of a capture a command is over.
use Rattle.std.specs.Prelude.{◌≡◌, ◌⊎◌, ℕ, List, Bool, true, false, Option, Some, None}
use Rattle.its_model.specs.Packet.{Transmission}
use Rattle.cap_records.specs.Choosing.{selects}
use Rattle.cap_records.specs.declared.choosing.Choice.{Choice}
use Rattle.cap_records.specs.declared.choosing.Traits.{Traits}
use Rattle.cap_pcap.specs.declared.record.RecordHeader.{RecordHeader}
use Rattle.cap_records.specs.OutsideFrames.{HasOutside, HasProfileFrame, IsFaultOfAll}
use Rattle.cap_records.specs.OutsideFrames.{StandardFrame, outside_traits}
use Rattle.cap_records.specs.RecordFrames.{AreTraits, is_other, traits_in}
use Rattle.cap_records.specs.SignedFrames.{AreSignedTraits}
use Rattle.cap_records.specs.declared.refusal.RecordFault.{RecordFault}
use Rattle.cap_records.specs.declared.signed.SecuredFacts.{SecuredFacts}

-- What a record is chosen by whose frame may be of the profile or outside: that frame; or that it
-- has none, and whether it is of another protocol.
abbrev pub AreAnyTraits : Bool → RecordHeader → List ℕ → Option Traits → Bool → Type 0
AreAnyTraits signed h w (Some traits) other =
    ((t : Transmission) × (facts : Option SecuredFacts) × HasProfileFrame signed h w t facts
    × (traits ≡ traits_in t) × (other ≡ false))
    ⊎ ((s : StandardFrame) × (fault : RecordFault) × (facts : Option SecuredFacts)
    × HasOutside signed h w s fault facts × (traits ≡ outside_traits s) × (other ≡ false))
AreAnyTraits signed h w None other =
    (fault : RecordFault) × IsFaultOfAll signed h w fault × (other ≡ is_other fault)

-- what a record is chosen by, if frames outside the profile are refused; where secured frames are
-- read by their plain part, the packet inside
abbrev pub AreProfileTraits : Bool → RecordHeader → List ℕ → Option Traits → Bool → Type 0
AreProfileTraits false h w traits other = AreTraits h w traits other
AreProfileTraits true h w traits other = AreSignedTraits h w traits other

-- what a record is chosen by
abbrev pub AreTraitsOf : Bool → Bool → RecordHeader → List ℕ → Option Traits → Bool → Type 0
AreTraitsOf false signed h w traits other = AreProfileTraits signed h w traits other
AreTraitsOf true signed h w traits other = AreAnyTraits signed h w traits other

-- whether a record is chosen: by its moment and what its frame is, or that it has none; by its
-- moment alone where nothing is asked of its frame
abbrev pub Chooses : Choice → Bool → RecordHeader → List ℕ → Bool → Type 0
Chooses choice signed h w chosen =
    ((traits : Option Traits) × (other : Bool)
    × AreTraitsOf choice.all_kinds signed h w traits other
    × (chosen ≡ selects choice h.moment traits other))
    ⊎ ((chosen ≡ true)
    × ((traits : Option Traits) (other : Bool) → selects choice h.moment traits other ≡ true))
