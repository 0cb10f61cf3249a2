-- What is found of a record, and read of it for a command that looks at each frame.
use Rattle.std.proofs.Common.{◌≡◌, ◌∙◌, List, ℕ, Option, Some, None, Result, Ok, Err, IfOk, IfErr}
use Rattle.std.proofs.Common.{inl, refl, subst, sym, true≢false}
use Rattle.std.specs.Prelude.{Bool, true, false, IfSome}
use Rattle.cap_pcap.specs.declared.record.RecordHeader.{RecordHeader}
use Rattle.its_model.specs.Packet.{Transmission}
use Rattle.cap_records.specs.Choosing.{selects}
use Rattle.cap_records.specs.FoundFrames.{IsChosenBy, IsFoundOf, IsPlaced, IsProfileFound}
use Rattle.cap_records.specs.FoundFrames.{IsThere, ReadsFrame}
use Rattle.cap_records.specs.OutsideFrames.{outside_traits}
use Rattle.cap_records.specs.RecordFrames.{HasFrame, IsRecordFault, is_other, traits_in}
use Rattle.cap_records.specs.Selections.{Chooses}
use Rattle.cap_records.specs.SignedFrames.{HasSignedFrame, IsSignedFault}
use Rattle.cap_records.specs.declared.choosing.Choice.{Choice}
use Rattle.cap_records.specs.declared.choosing.Traits.{Traits}
use Rattle.cap_records.specs.declared.found.Found.{Found}
use Rattle.cap_records.specs.declared.found.Found.TheVariants as found
use Rattle.cap_records.specs.declared.found.FoundFrame.{FoundFrame}
use Rattle.cap_records.specs.declared.found.FramePlace.{FramePlace}
use Rattle.cap_records.specs.declared.frames.FoundRecord.{FoundRecord}
use Rattle.cap_records.specs.declared.refusal.RecordFault.{RecordFault}
use Rattle.cap_records.specs.declared.selection.Selection.{Selection}

-- ---- what is found

pub found_signed : (h : RecordHeader) (w after : List ℕ) (found : Result FoundFrame RecordFault)
    → IfOk found
    (λ f. (t : Transmission) × HasSignedFrame h w t f.secured × IsPlaced after t f.place)
    → IfErr found (IsSignedFault h w) → IsProfileFound true h w after found
found_signed h w after (Ok f) has none =
    let (t, frame, placed) = has in (t, (t, f.secured, frame, refl, refl), placed)
found_signed h w after (Err fault) has none = (fault, none, refl)

pub found_unsigned : (h : RecordHeader) (w after : List ℕ) (found : Result FoundFrame RecordFault)
    → IfOk found (λ f. (t : Transmission) × HasFrame h w t × (f.secured ≡ None)
    × IsPlaced after t f.place)
    → IfErr found (IsRecordFault h w) → IsProfileFound false h w after found
found_unsigned h w after (Ok f) has none =
    let (t, frame, unsecured, placed) = has in (t, (t, frame, refl, refl), placed)
found_unsigned h w after (Err fault) has none = (fault, none, refl)

pub of_profile : (all signed : Bool) (h : RecordHeader) (w after : List ℕ) (f : FoundFrame)
    → all ≡ false → IsProfileFound signed h w after (Ok f)
    → IsFoundOf all signed h w after (Ok (found.Profile f))
of_profile all signed h w after f is has =
    subst (λ (x : Bool). IsFoundOf x signed h w after (Ok (found.Profile f))) (sym is) has

pub none_of_profile : (all signed : Bool) (h : RecordHeader) (w after : List ℕ)
    (fault : RecordFault) → all ≡ false → IsProfileFound signed h w after (Err fault)
    → IsFoundOf all signed h w after (Err fault)
none_of_profile all signed h w after fault is none =
    subst (λ (x : Bool). IsFoundOf x signed h w after (Err fault)) (sym is) none

pub placed_found : (all signed : Bool) (h : RecordHeader) (w after : List ℕ)
    (result : Result Found RecordFault) → IsFoundOf all signed h w after result
    → IfOk result (IsThere after)
placed_found all signed h w after (Ok (found.Profile f)) is =
    let (t, are, placed) = is in (t, placed)
placed_found all signed h w after (Ok (found.Outside o)) is =
    let (s, are, placed) = is in (s, placed)
placed_found all signed h w after (Err fault) is = tt

-- ---- whether it is selected

-- all are
pub any_chosen : (choice : Choice) (moment : ℕ) (w : List ℕ) (result : Result Found RecordFault)
    → ((traits : Option Traits) → (other : Bool) → selects choice moment traits other ≡ true)
    → IsChosenBy choice moment w result true
any_chosen choice moment w (Ok (found.Profile f)) all =
    λ t placed. sym (all (Some (traits_in t)) false)
any_chosen choice moment w (Ok (found.Outside o)) all =
    λ s placed. sym (all (Some (outside_traits s)) false)
any_chosen choice moment w (Err fault) all = sym (all None (is_other fault))

-- by what was found of a record
pub selected : (choice : Choice) (signed : Bool) (h : RecordHeader) (w after : List ℕ)
    (result : Result Found RecordFault) (chosen : Bool)
    → IsFoundOf choice.all_kinds signed h w after result
    → IsChosenBy choice h.moment after result chosen → Chooses choice signed h w chosen
selected choice signed h w after (Ok (found.Profile f)) chosen is by =
    let (t, are, placed) = is in inl (Some (traits_in t), false, are, by t placed)
selected choice signed h w after (Ok (found.Outside o)) chosen is by =
    let (s, are, placed) = is in inl (Some (outside_traits s), false, are, by s placed)
selected choice signed h w after (Err fault) chosen is by = inl (None, is_other fault, is, by)

-- a record that is selected
pub reads_found : (selection : Selection) (h : RecordHeader) (w after : List ℕ) (r : FoundRecord)
    → IsFoundOf selection.choice.all_kinds selection.signed h w after r.frame
    → IsChosenBy selection.choice h.moment after r.frame true
    → ReadsFrame selection h w after (Some r)
reads_found selection h w after r is by = (
  λ _. selected selection.choice selection.signed h w after r.frame true is by,
  placed_found selection.choice.all_kinds selection.signed h w after r.frame is,
)

-- ---- a record that was cut and is read as far as it goes

pub reads_cut : {E : Type 0} (selection : Selection) (h : RecordHeader) (w after : List ℕ)
    (result : Result (Option FoundRecord) E) → selection.partial ≡ true
    → IfOk result (λ r. IfSome r (λ r. IfOk r.frame (IsThere after)))
    → IfOk result (ReadsFrame selection h w after)
reads_cut selection h w after (Err e) partial placed = tt
reads_cut selection h w after (Ok None) partial placed =
    λ whole. absurd (true≢false (sym partial ∙ whole))
reads_cut selection h w after (Ok (Some r)) partial placed =
    (λ whole. absurd (true≢false (sym partial ∙ whole)), placed)

-- if it is selected: the frame that was read of it, or none
pub cut_found : (w : List ℕ) (place : FramePlace) (result : Option FoundRecord)
    → ((t : Transmission) × IsPlaced w t place)
    → IfSome result (λ r. r.frame
    ≡ Ok (found.Profile (record { place = place; secured = None })))
    → IfSome result (λ r. IfOk r.frame (IsThere w))
cut_found w place None placed is = tt
cut_found w place (Some r) placed is =
    subst (λ (x : Result Found RecordFault). IfOk x (IsThere w)) (sym is) placed

pub cut_refused : (w : List ℕ) (fault : RecordFault) (result : Option FoundRecord)
    → IfSome result (λ r. r.frame ≡ Err fault)
    → IfSome result (λ r. IfOk r.frame (IsThere w))
cut_refused w fault None is = tt
cut_refused w fault (Some r) is =
    subst (λ (x : Result Found RecordFault). IfOk x (IsThere w)) (sym is) tt
