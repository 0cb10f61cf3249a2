-- What is found of a record whose frame may be of the profile or outside of it.
use Rattle.std.specs.Prelude.{ℕ, List, Bool}
use Rattle.cap_linklayers.specs.declared.link.LinkLayer.{LinkLayer}
use Rattle.cap_pcap.specs.declared.record.RecordHeader.{RecordHeader}
use Rattle.its_model.specs.Packet.{Transmission}
use Rattle.cap_records.specs.FoundFrames.{IsPlaced, IsPlacedOutside}
use Rattle.cap_records.specs.OutsideFrames.{Carries, IsOutsideInner, IsOutsideOf}
use Rattle.cap_records.specs.OutsideFrames.{StandardFrame}
use Rattle.cap_records.specs.SignedFrames.{IsInnerOf, IsSignedIn, reads_secured}
use Rattle.cap_records.specs.declared.found.Found.{Found}
use Rattle.cap_records.specs.declared.found.Found.TheVariants as found

-- the frame that a secured one has inside, which is there in the buffer
abbrev pub IsAnyInner : List ℕ → List ℕ → Found → Type 0
IsAnyInner carried after (found.Profile f) =
    (t : Transmission) × IsInnerOf carried t f.secured × IsPlaced after t f.place
IsAnyInner carried after (found.Outside o) =
    (s : StandardFrame) × IsOutsideInner carried s o.fault o.secured
    × IsPlacedOutside after s o.place

-- the frame that octets from a link layer have, which may be read as a secured one
abbrev pub IsAnyIn : LinkLayer → List ℕ → Bool → List ℕ → Found → Type 0
IsAnyIn layer carried secured after (found.Profile f) =
    (t : Transmission) × IsSignedIn layer carried secured t f.secured × IsPlaced after t f.place
IsAnyIn layer carried secured after (found.Outside o) =
    (s : StandardFrame) × IsOutsideOf layer carried secured s o.fault o.secured
    × IsPlacedOutside after s o.place

-- the frame of a record
abbrev pub IsAnyFound : Bool → RecordHeader → List ℕ → List ℕ → Found → Type 0
IsAnyFound signed h w after f =
    Carries h w (λ layer carried. IsAnyIn layer carried (reads_secured signed carried) after f)
