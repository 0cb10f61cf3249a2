-- What `convert` writes: headers, a record, and one more step of a file after others.
use Rattle.std.proofs.Common.{◌≡◌, ℕ, ◌+◌, ◌^◌, List, [], ◌∷◌, ◌++◌, length, refl, sym, ap, subst, ◌∙◌}
use Rattle.std.proofs.Common.{arith, inl, inr, ◌⊎◌, length-append, true≢false, Option, None, Some, Result, Ok, Err}
use Rattle.std.specs.Prelude.{Bool, true, false, ◌||◌, is_ok, IfOk}
use Rattle.std.proofs.KnownBytes.{Appends-nil, Appends-trans}
use Rattle.std.proofs.Common.{◌-◌, take, drop}
use Rattle.std.proofs.Math.Seq.{take-length}
use Rattle.std.proofs.lemmas.List.{append_assoc, append-nil, length-drop}
use Rattle.std.specs.Io.KnownBytes.{Appends}
use Rattle.cap_records.specs.declared.choosing.Choice.{Choice}
use Rattle.cap_pcap.specs.RecordFiles.{RecordFile, StartsOn, AddsInterfaceOn, PutsFrame, HasPlace}
use Rattle.cap_pcap.specs.RecordFiles.{RefusesFrame}
use Rattle.cap_pcap.specs.PcapngWritten.{HasBlock, LacksBlock}
use Rattle.cap_pcap.specs.Words.{word_of}
use Rattle.cap_pcap.specs.declared.fault.SourceFault.{SourceFault}
use Rattle.cap_pcap.specs.declared.format.Format.{Format}
use Rattle.cap_pcap.specs.declared.format.Format.TheVariants as formats
use Rattle.cap_linklayers.specs.declared.link.LinkLayer.{LinkLayer}
use Rattle.cap_pcap.specs.declared.put_fault.PutFault.{PutFault}
use Rattle.cap_pcap.specs.declared.put_fault.PutFault.TheVariants as puts
use Rattle.cap_pcap.specs.declared.record.RecordHeader.{RecordHeader}
use Rattle.cap_pcap.specs.declared.record.Step.{Step}
use Rattle.cap_pcap.specs.declared.record.Step.TheVariants as steps
use Rattle.cap_pcap.specs.declared.sink.SinkFault.{SinkFault}
use Rattle.cap_pcap.specs.declared.sink.SinkFault.TheVariants as faults
use Rattle.cmd_reporting.specs.declared.status.Status.{Status}
use Rattle.cmd_captures.specs.Conversions.{Target, IsFileFault, IsLeftOut, HasText}
use Rattle.cmd_captures.specs.Conversions.{WritesText, PutsRecord, WritesMet, WritesSteps, Went}
use Rattle.cmd_captures.specs.Conversions.{IsTextFault, RefusesIn}
use Rattle.cap_pcap.specs.Places.{IsLayerFor}
use Rattle.cmd_captures.specs.declared.written.PutRefusal.{PutRefusal}
use Rattle.cmd_captures.specs.declared.written.PutRefusal.TheVariants as refusals
use Rattle.cmd_captures.specs.Conversions.{start_octets, first_interface, header_octets}
use Rattle.cmd_captures.specs.Conversions.{Said, MeetsIn, MeetsNewest}
use Rattle.cap_pcap.specs.InterfaceHeads.{millis_head}
use Rattle.cap_pcap.specs.declared.info.InterfaceHead.{InterfaceHead}
use Rattle.cap_pcap.specs.declared.info.InterfaceInfo.{InterfaceInfo}
use Rattle.cap_pcap.specs.declared.pcap.Unit.{Unit as TimeUnit}
use Rattle.cap_pcap.specs.declared.stamp.Stamp.{Stamp}
use Rattle.cmd_captures.specs.Conversions.{any_told, any_end, chosen_in, is_told, is_end, chosen_of}
use Rattle.cmd_captures.specs.Conversions.{told_status, AreAll, IsCopied, IsCopying, Met, Writes}
use Rattle.cmd_captures.specs.Conversions.{MeetsInterface, ReadsWhole, is_left_out}
use Rattle.cmd_reporting.specs.declared.status.Status.TheVariants.{Refused}
use Rattle.cap_records.specs.Pulls.{Given, IsNext, IsSkipped, Passes, Skips}
use Rattle.cap_records.specs.declared.counts.RecordCounts.{RecordCounts}
use Rattle.cap_records.specs.declared.records.Pulled.TheVariants as pulls
use Rattle.cap_records.specs.declared.selection.Selection.{Selection}
use Rattle.cmd_captures.specs.declared.converting.Copied.{Copied}
use Rattle.cmd_captures.specs.declared.converting.Copied.TheVariants as copies

-- ---- headers

pub starts : (u : TimeUnit) (f : Format) (l : LinkLayer) (old new : RecordFile)
    → StartsOn u l f old new (Ok tt)
    → Appends old.contents new.contents (start_octets f u l) × (new.format ≡ old.format)
starts u formats.Capture l old new p =
    subst (λ (x : RecordFile). Appends old.contents x.contents [] × (x.format ≡ old.format)) (sym p.1)
    (Appends-nil old.contents, refl)
starts u formats.Pcap l old new p = (p.2, p.3)
starts u formats.Pcapng l old new p = (p.2, p.3)

pub adds : (f : Format) (old new : RecordFile) → AddsInterfaceOn millis_head f [] old new (Ok tt)
    → Appends old.contents new.contents (first_interface f) × (new.format ≡ old.format)
adds formats.Capture old new p =
    subst (λ (x : RecordFile). Appends old.contents x.contents [] × (x.format ≡ old.format)) (sym p.1)
    (Appends-nil old.contents, refl)
adds formats.Pcap old new p =
    subst (λ (x : RecordFile). Appends old.contents x.contents [] × (x.format ≡ old.format)) (sym p.1)
    (Appends-nil old.contents, refl)
adds formats.Pcapng old new p = (p.2, p.3)

pub begins : (u : TimeUnit) (l : LinkLayer) (old mid new : RecordFile)
    → StartsOn u l old.format old mid (Ok tt)
    → AddsInterfaceOn millis_head mid.format [] mid new (Ok tt)
    → Appends old.contents new.contents (header_octets old.format u l) × (new.format ≡ old.format)
begins u l old mid new p q =
    let first = starts u old.format l old mid p in
    let later = adds mid.format mid new q in
    let at = subst (λ (f : Format). Appends mid.contents new.contents (first_interface f)) first.1
    later.0 in (
      Appends-trans old.contents mid.contents new.contents (start_octets old.format u l)
          (first_interface old.format) first.0 at,
      later.1 ∙ first.1,
    )

pub start_fault : (u : TimeUnit) (f : Format) (l : LinkLayer) (old new : RecordFile)
    (fault : PutFault) → StartsOn u l f old new (Err fault) → IsFileFault fault
start_fault u formats.Capture l old new fault p = absurd (true≢false (sym (ap is_ok p.0)))
start_fault u formats.Pcap l old new puts.Length p = absurd p.1
start_fault u formats.Pcap l old new puts.Moment p = absurd p.1
start_fault u formats.Pcap l old new puts.Interface p = tt
start_fault u formats.Pcap l old new puts.Name p = tt
start_fault u formats.Pcap l old new puts.Io p = tt
start_fault u formats.Pcap l old new puts.Failed p = tt
start_fault u formats.Pcapng l old new puts.Length p = absurd p.1
start_fault u formats.Pcapng l old new puts.Moment p = absurd p.1
start_fault u formats.Pcapng l old new puts.Interface p = tt
start_fault u formats.Pcapng l old new puts.Name p = tt
start_fault u formats.Pcapng l old new puts.Io p = tt
start_fault u formats.Pcapng l old new puts.Failed p = tt

pub adds_fault : (f : Format) (l : InterfaceHead) (name : List ℕ) (old new : RecordFile)
    (fault : PutFault) → AddsInterfaceOn l f name old new (Err fault) → IsFileFault fault
adds_fault formats.Capture l name old new fault p = absurd (true≢false (sym (ap is_ok p.0)))
adds_fault formats.Pcap l name old new fault p = absurd (true≢false (sym (ap is_ok p.0)))
adds_fault formats.Pcapng l name old new puts.Length p = absurd p.1
adds_fault formats.Pcapng l name old new puts.Moment p = absurd p.1
adds_fault formats.Pcapng l name old new puts.Interface p = tt
adds_fault formats.Pcapng l name old new puts.Name p = tt
adds_fault formats.Pcapng l name old new puts.Io p = tt
adds_fault formats.Pcapng l name old new puts.Failed p = tt

-- ---- a record

-- a packet without a time stamp is of the first interface or of another one
no_block : (i : ℕ) (ticks : Option ℕ) → HasBlock i ticks → LacksBlock i ticks → ⊥
no_block i (Some n) has lacks = lacks
no_block i None has lacks = omega (arith, has, lacks)

-- where the file has a place for a record, only the file itself fails
refused_no_place : (f : Format) (n i : ℕ) (stamp : Stamp) (text : List ℕ) (fault : PutFault)
    → HasPlace f (i + 1) i stamp text → RefusesFrame f n i stamp text fault → IsFileFault fault
refused_no_place formats.Capture n i stamp text puts.Length place p = absurd (p place)
refused_no_place formats.Capture n i stamp text puts.Moment place p = absurd p
refused_no_place formats.Capture n i stamp text puts.Interface place p = tt
refused_no_place formats.Capture n i stamp text puts.Name place p = tt
refused_no_place formats.Capture n i stamp text puts.Io place p = tt
refused_no_place formats.Capture n i stamp text puts.Failed place p = tt
refused_no_place formats.Pcap n i stamp text puts.Length place p = absurd (omega (arith, place.0, p))
refused_no_place formats.Pcap n i stamp text puts.Moment place p = absurd (omega (arith, place.1, p.1))
refused_no_place formats.Pcap n i stamp text puts.Interface place p = tt
refused_no_place formats.Pcap n i stamp text puts.Name place p = tt
refused_no_place formats.Pcap n i stamp text puts.Io place p = tt
refused_no_place formats.Pcap n i stamp text puts.Failed place p = tt
refused_no_place formats.Pcapng n i stamp text puts.Length place p =
    absurd (omega (arith, place.1, p.1))
refused_no_place formats.Pcapng n i stamp text puts.Moment place p =
    absurd (no_block i stamp.ticks place.2 p.2)
refused_no_place formats.Pcapng n i stamp text puts.Interface place p = tt
refused_no_place formats.Pcapng n i stamp text puts.Name place p = tt
refused_no_place formats.Pcapng n i stamp text puts.Io place p = tt
refused_no_place formats.Pcapng n i stamp text puts.Failed place p = tt

pub put_fault : (format : Format) (i : ℕ) (stamp : Stamp) (text : List ℕ) (old new : RecordFile)
    (fault : PutFault) → old.format ≡ format → HasPlace format (i + 1) i stamp text
    → PutsFrame i stamp text old new (Err fault) → IsFileFault fault
put_fault format i stamp text old new puts.Length is place p =
    refused_no_place old.format old.interfaces i stamp text puts.Length
    (subst (λ (f : Format). HasPlace f (i + 1) i stamp text) (sym is) place) p.1
put_fault format i stamp text old new puts.Moment is place p =
    refused_no_place old.format old.interfaces i stamp text puts.Moment
    (subst (λ (f : Format). HasPlace f (i + 1) i stamp text) (sym is) place) p.1
put_fault format i stamp text old new puts.Interface is place p = tt
put_fault format i stamp text old new puts.Name is place p = tt
put_fault format i stamp text old new puts.Io is place p = tt
put_fault format i stamp text old new puts.Failed is place p = tt

-- of a fault of the file itself no more is said
pub text_fault : (l : LinkLayer) (h : RecordHeader) (text : List ℕ) (t next : Target) (fault : PutFault)
    → IsFileFault fault → WritesText l h text t next (Err (faults.Put fault))
text_fault l h text t next puts.Length p = absurd p
text_fault l h text t next puts.Moment p = absurd p
text_fault l h text t next puts.Interface p = tt
text_fault l h text t next puts.Name p = tt
text_fault l h text t next puts.Io p = tt
text_fault l h text t next puts.Failed p = tt

-- a text that the file has no place for
pub text_refused : (l : LinkLayer) (h : RecordHeader) (text : List ℕ) (t : Target) (fault : PutFault)
    → RefusesIn t h text fault
    → WritesText l h text t t (Err (faults.Put fault))
text_refused l h text t puts.Length p = (p, refl)
text_refused l h text t puts.Moment p = (p, refl)
text_refused l h text t puts.Interface p = tt
text_refused l h text t puts.Name p = tt
text_refused l h text t puts.Io p = tt
text_refused l h text t puts.Failed p = tt

-- what becomes of the octets of a record becomes of the record
pub puts_text : (signed : Bool) (h : RecordHeader) (w : List ℕ) (t next : Target) (l : LinkLayer)
    (text : List ℕ) → HasText t.frames_only t.layer signed h w l text
    → WritesText l h text t next (Ok tt) → PutsRecord signed h w t next (Ok tt)
puts_text signed h w t next l text has p = (l, text, p.0, has, p.1)

pub puts_no_text : (signed : Bool) (h : RecordHeader) (w : List ℕ) (t next : Target)
    (fault : SinkFault) (l : LinkLayer) (text : List ℕ)
    → HasText t.frames_only t.layer signed h w l text → WritesText l h text t next (Err fault)
    → PutsRecord signed h w t next (Err (refusals.Sink fault))
puts_no_text signed h w t next (faults.Put puts.Length) l text has p = ((l, text, has, p.0), p.1)
puts_no_text signed h w t next (faults.Put puts.Moment) l text has p = ((l, text, has, p.0), p.1)
puts_no_text signed h w t next (faults.Put puts.Interface) l text has p = tt
puts_no_text signed h w t next (faults.Put puts.Name) l text has p = tt
puts_no_text signed h w t next (faults.Put puts.Io) l text has p = tt
puts_no_text signed h w t next (faults.Put puts.Failed) l text has p = tt
puts_no_text signed h w t next (faults.Record f) l text has p = absurd p
puts_no_text signed h w t next (faults.Link f) l text has p = absurd p

-- a record of which no frame is written
pub puts_no_frame : (signed : Bool) (h : RecordHeader) (w : List ℕ) (t : Target) (own : LinkLayer)
    (fault : PutRefusal) → t.frames_only ≡ true → IsLayerFor h None own
    → IsTextFault signed own w fault → PutsRecord signed h w t t (Err fault)
puts_no_frame signed h w t own (refusals.Sink (faults.Link f)) only for p =
    ((only, own, for, p), refl)
puts_no_frame signed h w t own (refusals.Sink (faults.Record f)) only for p = absurd p
puts_no_frame signed h w t own (refusals.Sink (faults.Put f)) only for p = absurd p
puts_no_frame signed h w t own (refusals.Unread fault) only for p = (
  record {
    frames_only = only;
    own = own;
    layer = for;
    carried = p.0;
    carries = p.1;
    secured = p.2;
    unread = p.3;
  },
  refl,
)

-- a record that has a word for why it isn't written is left out
pub left_out : (signed : Bool) (h : RecordHeader) (w : List ℕ) (t next : Target) (fault : SinkFault)
    → ¬ (word_of fault ≡ None) → PutsRecord signed h w t next (Err (refusals.Sink fault))
    → IsLeftOut t signed h w fault × (next ≡ t)
left_out signed h w t next (faults.Record f) some p = p
left_out signed h w t next (faults.Link f) some p = p
left_out signed h w t next (faults.Put puts.Length) some p = p
left_out signed h w t next (faults.Put puts.Moment) some p = p
left_out signed h w t next (faults.Put puts.Interface) some p = absurd (some refl)
left_out signed h w t next (faults.Put puts.Name) some p = absurd (some refl)
left_out signed h w t next (faults.Put puts.Io) some p = absurd (some refl)
left_out signed h w t next (faults.Put puts.Failed) some p = absurd (some refl)

-- ---- steps

-- nothing was written, and the contents stayed
none_added : (t next : Target) (added : List ℕ) → added ≡ []
    → next.file.contents ≡ t.file.contents → Appends t.file.contents next.file.contents added
none_added t next added none same =
    subst (λ (c : Option (List ℕ)). Appends t.file.contents c added) (sym same)
    (subst (λ (l : List ℕ). Appends t.file.contents t.file.contents l) (sym none)
    (Appends-nil t.file.contents))

contents_of : (t next : Target) → next ≡ t → next.file.contents ≡ t.file.contents
contents_of t next e = ap (λ (x : Target). x.file.contents) e

newest_appends : (newest : Option InterfaceInfo) (t : Target) (added : List ℕ) (next : Target)
    → MeetsNewest newest t added next → Appends t.file.contents next.file.contents added
newest_appends None t added next p = none_added t next added p.0 (contents_of t next p.1)
newest_appends (Some info) t added next p = p.appends

interface_appends : (f : Format) (said : Said) (t : Target) (added : List ℕ) (next : Target)
    → MeetsIn f said t added next → Appends t.file.contents next.file.contents added
interface_appends formats.Capture said t added next p =
    none_added t next added p.0 (ap (λ (x : Target). x.file.contents) p.1)
interface_appends formats.Pcap said t added next p =
    none_added t next added p.0 (ap (λ (x : Target). x.file.contents) p.1)
interface_appends formats.Pcapng said t added next p =
    newest_appends said.newest t added next p

-- what became of a selected record stands behind what there was
copied_appends : (signed : Bool) (h : RecordHeader) (w : List ℕ) (t : Target) (added : List ℕ)
    (next : Target) (copied : Copied)
    → Writes signed h w t added next copied → Appends t.file.contents next.file.contents added
copied_appends signed h w t added next copies.Written p = p.3.appends
copied_appends signed h w t added next (copies.LeftOut f) p =
    none_added t next added p.1 (contents_of t next p.2)
copied_appends signed h w t added next (copies.Unread f) p =
    none_added t next added p.1 (contents_of t next p.2)

-- so does what a step writes
met_appends : (choice : Choice) (signed : Bool) (said : Said) (w : List ℕ)
    (step : Result Step SourceFault) (met : Met) (t : Target) (added : List ℕ) (next : Target)
    → WritesMet choice signed said w step met t added next
    → Appends t.file.contents next.file.contents added
met_appends choice signed said w (Ok (steps.Record h)) Met.Passed t added next p =
    none_added t next added p.1 (contents_of t next p.2)
met_appends choice signed said w (Ok (steps.Record h)) (Met.Chosen copied) t added next p =
    copied_appends signed h w t added next copied p.1
met_appends choice signed said w (Ok (steps.Record h)) Met.NoRecord t added next p = absurd p
met_appends choice signed said w (Ok (steps.Record h)) (Met.End fault) t added next p = absurd p
met_appends choice signed said w (Ok steps.Interface) Met.Passed t added next p = absurd p
met_appends choice signed said w (Ok steps.Interface) (Met.Chosen copied) t added next p = absurd p
met_appends choice signed said w (Ok steps.Interface) Met.NoRecord t added next p =
    interface_appends t.file.format said t added next p
met_appends choice signed said w (Ok steps.Interface) (Met.End fault) t added next p = absurd p
met_appends choice signed said w (Ok steps.Passed) Met.Passed t added next p = absurd p
met_appends choice signed said w (Ok steps.Passed) (Met.Chosen copied) t added next p = absurd p
met_appends choice signed said w (Ok steps.Passed) Met.NoRecord t added next p =
    none_added t next added p.0 (contents_of t next p.1)
met_appends choice signed said w (Ok steps.Passed) (Met.End fault) t added next p = absurd p
met_appends choice signed said w (Ok steps.End) Met.Passed t added next p = absurd p
met_appends choice signed said w (Ok steps.End) (Met.Chosen copied) t added next p = absurd p
met_appends choice signed said w (Ok steps.End) Met.NoRecord t added next p = absurd p
met_appends choice signed said w (Ok steps.End) (Met.End None) t added next p =
    none_added t next added p.0 (contents_of t next p.1)
met_appends choice signed said w (Ok steps.End) (Met.End (Some f)) t added next p = absurd p
met_appends choice signed said w (Err g) Met.Passed t added next p = absurd p
met_appends choice signed said w (Err g) (Met.Chosen copied) t added next p = absurd p
met_appends choice signed said w (Err g) Met.NoRecord t added next p = absurd p
met_appends choice signed said w (Err g) (Met.End None) t added next p = absurd p
met_appends choice signed said w (Err g) (Met.End (Some f)) t added next p =
    none_added t next added p.1 (contents_of t next p.2)

-- some steps, and then others
writes_more : {S : Type 0} (gives : S → S → List ℕ → Result Step SourceFault → Type 0)
    (said : S → Said) (choice : Choice) (signed : Bool) (file : S) (t : Target)
    (went : List Went) (added : List ℕ) (left : S) (end : Target) (others : List Went)
    (new : List ℕ) (later : S) (next : Target)
    → WritesSteps gives said choice signed file t went added left end
    → WritesSteps gives said choice signed left end others new later next
    → WritesSteps gives said choice signed file t (went ++ others) (added ++ new) later next
writes_more gives said choice signed file t [] added left end others new later next before after =
    let from = subst
    (λ f. WritesSteps gives said choice signed f end others new later next) before.1 after in
    let from = subst
    (λ (m : Target). WritesSteps gives said choice signed file m others new later next) before.2
    from in
    subst (λ (l : List ℕ). WritesSteps gives said choice signed file t others (l ++ new) later next)
    (sym before.0) from
writes_more gives said choice signed file t (g ∷ gs) added left end others new later next before
    after =
    let (first, rest, mid, m, is, was, tell, more) = before in (
      first,
      rest ++ new,
      mid,
      m,
      ap (λ k. k ++ new) is ∙ append_assoc first rest new,
      was,
      tell,
      writes_more gives said choice signed mid m gs rest left end others new later next more after,
    )

-- one step
writes_one : {S : Type 0} (gives : S → S → List ℕ → Result Step SourceFault → Type 0)
    (said : S → Said) (choice : Choice) (signed : Bool) (file : S) (t : Target) (one : Went)
    (new : List ℕ) (later : S) (next : Target)
    → gives file later one.octets one.step
    → WritesMet choice signed (said later) one.octets one.step one.met t new next
    → WritesSteps gives said choice signed file t (one ∷ []) new later next
writes_one gives said choice signed file t one new later next gave writes =
    (new, [], later, next, sym (append-nil new), gave, writes, (refl, refl, refl))

-- what a step met that was skipped
met_skipped : Result Step SourceFault → Met
met_skipped (Ok (steps.Record h)) = Met.Passed
met_skipped (Ok steps.Interface) = Met.NoRecord
met_skipped (Ok steps.Passed) = Met.NoRecord
met_skipped (Ok steps.End) = Met.NoRecord
met_skipped (Err fault) = Met.NoRecord

went_of : List Given → List Went
went_of [] = []
went_of (g ∷ gs) = record { octets = g.octets; step = g.step; met = met_skipped g.step } ∷ went_of gs

-- nothing is written of it
skipped_writes : (selection : Selection) (said : Said) (w : List ℕ)
    (step : Result Step SourceFault) (after : List ℕ) (t : Target)
    → IsSkipped ReadsWhole selection w step after
    → WritesMet selection.choice selection.signed said w step (met_skipped step) t [] t
unfolding met_skipped
skipped_writes selection said w (Ok (steps.Record h)) after t p = (p.1, refl, refl)
skipped_writes selection said w (Ok steps.Interface) after t p = absurd p
skipped_writes selection said w (Ok steps.Passed) after t p = (refl, refl)
skipped_writes selection said w (Ok steps.End) after t p = absurd p
skipped_writes selection said w (Err fault) after t p = absurd p

passes_write : {S : Type 0} (gives : S → S → List ℕ → Result Step SourceFault → Type 0)
    (said : S → Said) (selection : Selection) (file : S) (t : Target) (skipped : List Given)
    (later : S) → Passes gives ReadsWhole selection file skipped later
    → WritesSteps gives said selection.choice selection.signed file t (went_of skipped) [] later t
unfolding went_of
passes_write gives said selection file t [] later p = (refl, p, refl)
passes_write gives said selection file t (g ∷ gs) later p =
    let (mid, after, gave, meets, more) = p in (
      [],
      [],
      mid,
      t,
      refl,
      gave,
      skipped_writes selection (said mid) g.octets g.step after t meets,
      passes_write gives said selection mid t gs later more,
    )

chosen_more : (went others : List Went)
    → chosen_in (went ++ others) ≡ chosen_in went + chosen_in others
chosen_more [] others = omega arith
chosen_more (g ∷ gs) others = omega (arith, chosen_more gs others)

or_more : (a b c : Bool) → (a || (b || c)) ≡ ((a || b) || c)
or_more true b c = refl
or_more false b c = refl

or_false : (b : Bool) → (b || false) ≡ b
or_false true = refl
or_false false = refl

or_true : (b : Bool) → (b || true) ≡ true
or_true true = refl
or_true false = refl

told_more : (went others : List Went)
    → any_told (went ++ others) ≡ (any_told went || any_told others)
told_more [] others = refl
told_more (g ∷ gs) others =
    ap (λ b. is_told g.met || b) (told_more gs others)
    ∙ or_more (is_told g.met) (any_told gs) (any_told others)

end_last : (went : List Went) (one : Went) → is_end one.met ≡ true
    → any_end (went ++ one ∷ []) ≡ true
end_last [] one is = ap (λ b. b || false) is
end_last (g ∷ gs) one is =
    ap (λ b. is_end g.met || b) (end_last gs one is) ∙ or_true (is_end g.met)

not_chosen : (step : Result Step SourceFault) → chosen_of (met_skipped step) ≡ 0
unfolding met_skipped
not_chosen (Ok (steps.Record h)) = refl
not_chosen (Ok steps.Interface) = refl
not_chosen (Ok steps.Passed) = refl
not_chosen (Ok steps.End) = refl
not_chosen (Err fault) = refl

not_told : (step : Result Step SourceFault) → is_told (met_skipped step) ≡ false
unfolding met_skipped
not_told (Ok (steps.Record h)) = refl
not_told (Ok steps.Interface) = refl
not_told (Ok steps.Passed) = refl
not_told (Ok steps.End) = refl
not_told (Err fault) = refl

none_chosen : (skipped : List Given) → chosen_in (went_of skipped) ≡ 0
unfolding went_of
none_chosen [] = refl
none_chosen (g ∷ gs) = omega (arith, not_chosen g.step, none_chosen gs)

none_told : (skipped : List Given) → any_told (went_of skipped) ≡ false
unfolding went_of
none_told [] = refl
none_told (g ∷ gs) = ap (λ b. b || any_told (went_of gs)) (not_told g.step) ∙ none_told gs

as_many : (skipped : List Given) → length (went_of skipped) ≡ length skipped
unfolding went_of
as_many [] = refl
as_many (g ∷ gs) = omega (arith, as_many gs)

-- no step yet
pub copying_none : {S : Type 0} (gives : S → S → List ℕ → Result Step SourceFault → Type 0)
    (said : S → Said) (choice : Choice) (signed : Bool) (file : S) (t : Target)
    (counts : RecordCounts) → counts.chosen ≡ 0 → counts.left ≡ 2 ^ 64 - 1
    → IsCopying gives said choice signed file t file t false counts
copying_none gives said choice signed file t counts chosen left =
    record {
      went = [];
      added = [];
      writes = (refl, refl, refl);
      contents = Appends-nil t.file.contents;
      gone = omega (arith, left);
      chosen = chosen;
      refused_is = refl;
    }

-- further steps that were skipped
pub copying_skips : {S : Type 0} (gives : S → S → List ℕ → Result Step SourceFault → Type 0)
    (said : S → Said) (selection : Selection) (file : S) (t : Target) (left : S) (end : Target)
    (refused : Bool) (counts : RecordCounts) (later : S) (next : RecordCounts)
    → IsCopying gives said selection.choice selection.signed file t left end refused counts
    → Skips gives ReadsWhole selection left counts later next
    → IsCopying gives said selection.choice selection.signed file t later end refused next
copying_skips gives said selection file t left end refused counts later next before skips =
    let others = went_of skips.skipped in
    record {
      went = before.went ++ others;
      added = before.added ++ [];
      writes = writes_more gives said selection.choice selection.signed file t before.went
          before.added left end others [] later end before.writes
          (passes_write gives said selection left end skips.skipped later skips.passes);
      contents = Appends-trans t.file.contents end.file.contents end.file.contents before.added []
          before.contents (Appends-nil end.file.contents);
      gone = omega (
        arith,
        before.gone,
        length-append before.went others,
        as_many skips.skipped,
        skips.left,
      );
      chosen = omega (
        arith,
        before.chosen,
        chosen_more before.went others,
        none_chosen skips.skipped,
        skips.chosen,
      );
      refused_is = before.refused_is ∙ sym (or_false (any_told before.went))
          ∙ ap (λ b. any_told before.went || b) (sym (none_told skips.skipped))
          ∙ sym (told_more before.went others);
    }

-- one more step, of which this was written
pub copying_more : {S : Type 0} (gives : S → S → List ℕ → Result Step SourceFault → Type 0)
    (said : S → Said) (choice : Choice) (signed : Bool) (file : S) (t : Target) (left : S)
    (end : Target) (refused : Bool) (counts : RecordCounts) (one : Went) (new : List ℕ) (later : S)
    (next : Target) (after : RecordCounts)
    → IsCopying gives said choice signed file t left end refused counts
    → gives left later one.octets one.step
    → WritesMet choice signed (said later) one.octets one.step one.met end new next
    → after.left + 1 ≡ counts.left → after.chosen ≡ counts.chosen + chosen_of one.met
    → IsCopying gives said choice signed file t later next (refused || is_told one.met) after
copying_more gives said choice signed file t left end refused counts one new later next after before
    gave writes fewer chosen =
    record {
      went = before.went ++ one ∷ [];
      added = before.added ++ new;
      writes = writes_more gives said choice signed file t before.went before.added left end
          (one ∷ []) new later next before.writes
          (writes_one gives said choice signed left end one new later next gave writes);
      contents = Appends-trans t.file.contents end.file.contents next.file.contents before.added new
          before.contents (met_appends choice signed (said later) one.octets one.step one.met end
          new next writes);
      gone = omega (arith, before.gone, length-append before.went (one ∷ []), fewer);
      chosen = omega (arith, before.chosen, chosen_more before.went (one ∷ []), chosen);
      refused_is = ap (λ b. b || is_told one.met) before.refused_is
          ∙ ap (λ b. any_told before.went || b) (sym (or_false (is_told one.met)))
          ∙ sym (told_more before.went (one ∷ []));
    }

-- no further step is made
pub copied_all : {S : Type 0} (gives : S → S → List ℕ → Result Step SourceFault → Type 0)
    (said : S → Said) (choice : Choice) (count : Option ℕ) (signed : Bool) (file : S) (t : Target)
    (left : S) (end : Target) (refused : Bool) (counts : RecordCounts) (status : Status)
    (k : IsCopying gives said choice signed file t left end refused counts) → AreAll count k.went
    → status ≡ told_status refused
    → IsCopied gives said choice count signed file t end status
copied_all gives said choice count signed file t left end refused counts status k all is =
    record {
      went = k.went;
      added = k.added;
      left = left;
      writes = k.writes;
      contents = k.contents;
      all = all;
      status_is = is ∙ ap told_status k.refused_is;
    }

-- a record that comes next, of which this was written
pub copying_chosen : {S : Type 0} (gives : S → S → List ℕ → Result Step SourceFault → Type 0)
    (said : S → Said) (selection : Selection) (file : S) (t : Target) (left : S) (end : Target)
    (refused : Bool) (counts : RecordCounts) (later : S) (after : List ℕ) (next : RecordCounts)
    (head : RecordHeader) (unit : Unit {0}) (added : List ℕ) (last : Target) (copied : Copied)
    → IsCopying gives said selection.choice selection.signed file t left end refused counts
    → IsNext gives ReadsWhole selection left counts later after next (pulls.Chosen head unit)
    → Writes selection.signed head after end added last copied
    → IsCopying gives said selection.choice selection.signed file t later last
    (refused || is_left_out copied) next
copying_chosen gives said selection file t left end refused counts later after next head unit added last
    copied before comes writes =
    let k = copying_skips gives said selection file t left end refused counts comes.mid comes.between
    before comes.skips in
    elim comes.ends [
      | inl one ↦
          let (is, reads) = one.meets in
          let w = one.given.octets in
          let here : Writes selection.signed head w end added last copied = subst
          (λ (v : List ℕ). Writes selection.signed head v end added last copied) reads.0 writes in
          let all : WritesMet selection.choice selection.signed (said later) w
          (Ok (steps.Record head)) (Met.Chosen copied) end added last = (reads.1, here) in
          let went : Went = record { octets = w; step = one.given.step; met = Met.Chosen copied } in
          copying_more gives said selection.choice selection.signed file t comes.mid end refused
          comes.between went added later last next k one.gave
          (subst (λ (step : Result Step SourceFault). WritesMet selection.choice selection.signed
          (said later) w step (Met.Chosen copied) end added last) (sym is) all) one.left one.chosen
      | inr stopped ↦ absurd stopped.none
    ]

-- the start of an interface that comes next
pub copying_interface : {S : Type 0} (gives : S → S → List ℕ → Result Step SourceFault → Type 0)
    (said : S → Said) (selection : Selection) (file : S) (t : Target) (left : S) (end : Target)
    (refused : Bool) (counts : RecordCounts) (later : S) (after : List ℕ) (next : RecordCounts)
    (added : List ℕ) (last : Target)
    → IsCopying gives said selection.choice selection.signed file t left end refused counts
    → IsNext gives ReadsWhole selection left counts later after next pulls.Interface
    → MeetsInterface (said later) end added last
    → IsCopying gives said selection.choice selection.signed file t later last refused next
copying_interface gives said selection file t left end refused counts later after next added last before
    comes meets =
    let k = copying_skips gives said selection file t left end refused counts comes.mid comes.between
    before comes.skips in
    elim comes.ends [
      | inl one ↦
          let went : Went = record {
            octets = one.given.octets;
            step = one.given.step;
            met = Met.NoRecord;
          } in
          subst (λ (b : Bool). IsCopying gives said selection.choice selection.signed file t later last
          b next) (or_false refused)
          (copying_more gives said selection.choice selection.signed file t comes.mid end refused
          comes.between went added later last next k one.gave
          (subst (λ (step : Result Step SourceFault). WritesMet selection.choice selection.signed
          (said later) one.given.octets step Met.NoRecord end added last) (sym one.meets) meets)
          one.left one.chosen)
      | inr stopped ↦ absurd stopped.none
    ]

-- no step is made: as many records were chosen as are wanted, or no step is left
copied_stopped : {S : Type 0} (gives : S → S → List ℕ → Result Step SourceFault → Type 0)
    (said : S → Said) (selection : Selection) (file : S) (t : Target) (left : S) (end : Target)
    (refused : Bool) (counts : RecordCounts) (status : Status)
    → IsCopying gives said selection.choice selection.signed file t left end refused counts
    → (selection.count ≡ Some counts.chosen) ⊎ (counts.left ≡ 0)
    → status ≡ told_status refused
    → IsCopied gives said selection.choice selection.count selection.signed file t end status
copied_stopped gives said selection file t left end refused counts status k why is =
    copied_all gives said selection.choice selection.count selection.signed file t left end refused
    counts status k
    (elim why [
      | inl full ↦ inr (inl (full ∙ ap Some k.chosen))
      | inr none ↦ inr (inr (omega (arith, k.gone, none)))
    ]) is

-- the last step: the end of the file, or its fault
copied_last : {S : Type 0} (gives : S → S → List ℕ → Result Step SourceFault → Type 0)
    (said : S → Said) (selection : Selection) (file : S) (t : Target) (left : S) (end : Target)
    (refused : Bool) (counts : RecordCounts) (later : S) (next : RecordCounts)
    (given : Given) (fault : Option SourceFault) (status : Status)
    → IsCopying gives said selection.choice selection.signed file t left end refused counts
    → gives left later given.octets given.step
    → WritesMet selection.choice selection.signed (said later) given.octets given.step
    (Met.End fault) end [] end
    → next.left + 1 ≡ counts.left → next.chosen ≡ counts.chosen + 0
    → status ≡ told_status (refused || is_told (Met.End fault))
    → IsCopied gives said selection.choice selection.count selection.signed file t end status
unfolding copying_more
copied_last gives said selection file t left end refused counts later next given fault status k gave
    writes fewer chosen is =
    let went : Went = record { octets = given.octets; step = given.step; met = Met.End fault } in
    copied_all gives said selection.choice selection.count selection.signed file t later end
    (refused || is_told (Met.End fault)) next status
    (copying_more gives said selection.choice selection.signed file t left end refused counts went []
    later end next k gave writes fewer chosen) (inl (end_last k.went went refl)) is

-- the end of the file that comes next
pub copied_end : {S : Type 0} (gives : S → S → List ℕ → Result Step SourceFault → Type 0)
    (said : S → Said) (selection : Selection) (file : S) (t : Target) (left : S) (end : Target)
    (refused : Bool) (counts : RecordCounts) (later : S) (after : List ℕ) (next : RecordCounts)
    (status : Status)
    → IsCopying gives said selection.choice selection.signed file t left end refused counts
    → IsNext gives ReadsWhole selection left counts later after next (pulls.End None)
    → status ≡ told_status refused
    → IsCopied gives said selection.choice selection.count selection.signed file t end status
copied_end gives said selection file t left end refused counts later after next status before comes is =
    let k = copying_skips gives said selection file t left end refused counts comes.mid comes.between
    before comes.skips in
    elim comes.ends [
      | inl one ↦ copied_last gives said selection file t comes.mid end refused comes.between later
          next one.given None status k one.gave
          (subst (λ (step : Result Step SourceFault). WritesMet selection.choice selection.signed
          (said later) one.given.octets step (Met.End None) end [] end) (sym one.meets) (refl, refl))
          one.left one.chosen (is ∙ ap told_status (sym (or_false refused)))
      | inr stopped ↦ copied_stopped gives said selection file t comes.mid end refused comes.between
          status k stopped.why is
    ]

-- the fault of the file that comes next
pub copied_fault : {S : Type 0} (gives : S → S → List ℕ → Result Step SourceFault → Type 0)
    (said : S → Said) (selection : Selection) (file : S) (t : Target) (left : S) (end : Target)
    (refused : Bool) (counts : RecordCounts) (later : S) (after : List ℕ) (next : RecordCounts)
    (fault : SourceFault) (status : Status)
    → IsCopying gives said selection.choice selection.signed file t left end refused counts
    → IsNext gives ReadsWhole selection left counts later after next (pulls.End (Some fault))
    → status ≡ Refused
    → IsCopied gives said selection.choice selection.count selection.signed file t end status
copied_fault gives said selection file t left end refused counts later after next fault status before
    comes is =
    let k = copying_skips gives said selection file t left end refused counts comes.mid comes.between
    before comes.skips in
    elim comes.ends [
      | inl one ↦ copied_last gives said selection file t comes.mid end refused comes.between later
          next one.given (Some fault) status k one.gave
          (subst (λ (step : Result Step SourceFault). WritesMet selection.choice selection.signed
          (said later) one.given.octets step (Met.End (Some fault)) end [] end) (sym one.meets)
          (refl, refl, refl))
          one.left one.chosen (is ∙ ap told_status (sym (or_true refused)))
      | inr stopped ↦ absurd stopped.none
    ]

-- the same of what reports it
pub copied_told : {S E : Type 0} (gives : S → S → List ℕ → Result Step SourceFault → Type 0)
    (said : S → Said) (selection : Selection) (file : S) (t : Target) (left : S) (end : Target)
    (refused : Bool) (counts : RecordCounts) (later : S) (after : List ℕ) (next : RecordCounts)
    (fault : SourceFault) (result : Result Status E)
    → IsCopying gives said selection.choice selection.signed file t left end refused counts
    → IsNext gives ReadsWhole selection left counts later after next (pulls.End (Some fault))
    → IfOk result (λ status. status ≡ Refused)
    → IfOk result (IsCopied gives said selection.choice selection.count selection.signed file t end)
copied_told gives said selection file t left end refused counts later after next fault (Ok status)
    before comes is =
    copied_fault gives said selection file t left end refused counts later after next fault status
    before comes is
copied_told gives said selection file t left end refused counts later after next fault (Err e) before
    comes is =
    tt

-- all that is behind a place
pub take_rest : (n : ℕ) (xs : List ℕ) → take (length xs - n) (drop n xs) ≡ drop n xs
take_rest n xs =
    ap (λ k. take k (drop n xs)) (sym (length-drop n xs)) ∙ take-length (drop n xs)
