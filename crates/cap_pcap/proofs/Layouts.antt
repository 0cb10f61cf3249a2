-- One part of a layout behind another, and what is read of each.
use Rattle.std.proofs.Common.{◌≡◌, ℕ, ◌<◌, List, [], ◌++◌, length, inl, inr}
use Rattle.std.proofs.Common.{Option, None, Some, Result, Ok, Err, refl, sym, ap, ◌∙◌, arith}
use Rattle.std.proofs.Common.{append_assoc, length-append}
use Rattle.std.proofs.KnownBytes.{Consumes-nil}
use Rattle.std.specs.Io.KnownBytes.{Consumes}
use Rattle.its_linkframe.specs.declared.record.CaptureFault.TheVariants as captures
use Rattle.its_linkframe.specs.Devices.{ConsumesPrefix}
use Rattle.cap_pcap.specs.declared.fault.SourceFault.{SourceFault}
use Rattle.cap_pcap.specs.declared.fault.SourceFault.TheVariants as faults
use Rattle.cap_pcap.specs.Reading.{Passes, EndsWhere, IsCutShort, IsFrameFault, GivesFrame}
use Rattle.cap_pcap.specs.Layouts.{Layout, Joined, Reads, behind, frame, gives, gives_that, octets}
use Rattle.cap_pcap.specs.Layouts.{IsFaultOf, IsAnswerOf}

-- ---- what went

pub reads : (P : List ℕ → Type 0) (a b : Option (List ℕ)) (p : List ℕ) → P p → Consumes a b p
    → Reads P a b
reads P None b p is gone = tt
reads P (Some u) None p is gone = absurd gone
reads P (Some u) (Some v) p is gone = (p, is, gone)

pub reads-as : (P Q : List ℕ → Type 0) (a b : Option (List ℕ)) → ((w : List ℕ) → P w → Q w)
    → Reads P a b → Reads Q a b
reads-as P Q None b leads gone = tt
reads-as P Q (Some u) None leads gone = absurd gone
reads-as P Q (Some u) (Some v) leads gone = (gone.0, leads gone.0 gone.1, gone.2)

pub reads-joined : (P Q : List ℕ → Type 0) (a b c : Option (List ℕ)) → Reads P a b → Reads Q b c
    → Reads (Joined P Q) a c
reads-joined P Q None b c p q = tt
reads-joined P Q (Some u) None c p q = absurd p
reads-joined P Q (Some u) (Some v) None p q = absurd q
reads-joined P Q (Some u) (Some v) (Some x) p q = (
  p.0 ++ q.0,
  record {
    first = p.0;
    others = q.0;
    parts = refl;
    is_first = p.1;
    is_others = q.1;
  },
  p.2 ∙ ap (λ (t : List ℕ). p.0 ++ t) q.2 ∙ sym (append_assoc p.0 q.0 x),
)

pub prefix-behind : (P : List ℕ → Type 0) (a b c : Option (List ℕ)) → Reads P a b
    → ConsumesPrefix b c → ConsumesPrefix a c
prefix-behind P None b c p q = ([], tt)
prefix-behind P (Some u) None c p q = absurd p
prefix-behind P (Some u) (Some v) None p q = absurd q.1
prefix-behind P (Some u) (Some v) (Some x) p q = (
  p.0 ++ q.0,
  p.2 ∙ ap (λ (t : List ℕ). p.0 ++ t) q.1 ∙ sym (append_assoc p.0 q.0 x),
)

-- few octets were left, and went
pub reads-few : (P : List ℕ → Type 0) (a b : Option (List ℕ)) (n : ℕ)
    → ((w : List ℕ) → length w < n → P w) → EndsWhere (λ w. length w < n) a b
    → Reads P a b
reads-few P None b n is cut = tt
reads-few P (Some u) None n is cut = absurd cut.1.1
reads-few P (Some u) (Some v) n is cut = (
  cut.1.0,
  is cut.1.0 (omega (arith, cut.0, ap length cut.1.1, length-append cut.1.0 v)),
  cut.1.1,
)

-- ---- one part behind another

pub behind-fault : {A B : Type 0} (L : Layout A) (K : A → Layout B) (x : A) (f : SourceFault)
    (a b c : Option (List ℕ)) → Reads (L.Is x) a b → IsFaultOf (K x) b c f
    → IsFaultOf (behind L K) a c f
unfolding behind
behind-fault L K x faults.CutFile a b c p q =
    (reads-as _ _ a c (λ w j. inr (x, j)) (reads-joined (L.Is x) ((K x).Ends) a b c p q.0), q.1)
behind-fault L K x faults.Malformed a b c p q =
    reads-as _ _ a c (λ w j. inr (x, j)) (reads-joined (L.Is x) ((K x).Wrong) a b c p q)
behind-fault L K x faults.LinkType a b c p q = absurd q
behind-fault L K x (faults.Capture captures.CutRecord) a b c p q = absurd q
behind-fault L K x (faults.Capture captures.Length) a b c p q = absurd q
behind-fault L K x (faults.Capture captures.Io) a b c p q = prefix-behind (L.Is x) a b c p q
behind-fault L K x (faults.Capture captures.NoMemory) a b c p q =
    reads-as _ _ a c (λ w j. inr (x, j)) (reads-joined (L.Is x) ((K x).Takes) a b c p q)
behind-fault L K x (faults.Capture captures.Failed) a b c p q = absurd q

pub behind-answer : {A B : Type 0} (L : Layout A) (K : A → Layout B) (x : A)
    (r : Result B SourceFault) (a b c : Option (List ℕ)) → Reads (L.Is x) a b
    → IsAnswerOf (K x) b c r → IsAnswerOf (behind L K) a c r
unfolding behind
behind-answer L K x (Ok y) a b c p q =
    reads-as _ _ a c (λ w j. (x, j)) (reads-joined (L.Is x) ((K x).Is y) a b c p q)
behind-answer L K x (Err f) a b c p q = behind-fault L K x f a b c p q

pub first-fault : {A B : Type 0} (L : Layout A) (K : A → Layout B) (f : SourceFault)
    (a c : Option (List ℕ)) → IsFaultOf L a c f → IsFaultOf (behind L K) a c f
unfolding behind
first-fault L K faults.CutFile a c p = (reads-as _ _ a c (λ w j. inl j) p.0, p.1)
first-fault L K faults.Malformed a c p = reads-as _ _ a c (λ w j. inl j) p
first-fault L K faults.LinkType a c p = absurd p
first-fault L K (faults.Capture captures.CutRecord) a c p = absurd p
first-fault L K (faults.Capture captures.Length) a c p = absurd p
first-fault L K (faults.Capture captures.Io) a c p = p
first-fault L K (faults.Capture captures.NoMemory) a c p = reads-as _ _ a c (λ w j. inl j) p
first-fault L K (faults.Capture captures.Failed) a c p = absurd p

pub gives-read : {A : Type 0} (Holds : A → Type 0) (x : A) (b : Option (List ℕ)) → Holds x
    → Reads ((gives_that Holds).Is x) b b
gives-read Holds x b is = reads ((gives_that Holds).Is x) b b [] (refl, is) (Consumes-nil b)

pub gives-value : {A : Type 0} (x : A) (b : Option (List ℕ)) → Reads ((gives x).Is x) b b
gives-value x b = gives-read (λ y. y ≡ x) x b refl

-- ---- single fields

pub part-cut : {A : Type 0} (L : Layout A) (size : ℕ) (a b : Option (List ℕ)) (f : SourceFault)
    → ((w : List ℕ) → length w < size → L.Ends w) → IsCutShort size a b f → IsFaultOf L a b f
part-cut L size a b faults.CutFile few cut = (reads-few (L.Ends) a b size few cut, cut.2)
part-cut L size a b faults.Malformed few cut = absurd cut
part-cut L size a b faults.LinkType few cut = absurd cut
part-cut L size a b (faults.Capture captures.CutRecord) few cut = absurd cut
part-cut L size a b (faults.Capture captures.Length) few cut = absurd cut
part-cut L size a b (faults.Capture captures.Io) few cut = cut
part-cut L size a b (faults.Capture captures.NoMemory) few cut = absurd cut
part-cut L size a b (faults.Capture captures.Failed) few cut = absurd cut

-- the same octets, read as another part
pub part-as : {A B : Type 0} (L : Layout A) (M : Layout B) (a b : Option (List ℕ))
    (f : SourceFault) → ((w : List ℕ) → L.Ends w → M.Ends w)
    → ((w : List ℕ) → L.Wrong w → M.Wrong w) → ((w : List ℕ) → L.Takes w → M.Takes w)
    → IsFaultOf L a b f
    → IsFaultOf M a b f
part-as L M a b faults.CutFile ends wrong takes p =
    (reads-as (L.Ends) (M.Ends) a b ends p.0, p.1)
part-as L M a b faults.Malformed ends wrong takes p = reads-as (L.Wrong) (M.Wrong) a b wrong p
part-as L M a b faults.LinkType ends wrong takes p = absurd p
part-as L M a b (faults.Capture captures.CutRecord) ends wrong takes p = absurd p
part-as L M a b (faults.Capture captures.Length) ends wrong takes p = absurd p
part-as L M a b (faults.Capture captures.Io) ends wrong takes p = p
part-as L M a b (faults.Capture captures.NoMemory) ends wrong takes p =
    reads-as (L.Takes) (M.Takes) a b takes p
part-as L M a b (faults.Capture captures.Failed) ends wrong takes p = absurd p

pub octets-read : (size : ℕ) (a b : Option (List ℕ)) → Passes size a b
    → Reads ((octets size).Is tt) a b
octets-read size a b p = reads ((octets size).Is tt) a b p.gone (p.size, tt) p.consumes

pub frame-read : (captured keep : ℕ) (kept : List ℕ) (a b : Option (List ℕ))
    → GivesFrame captured keep kept a b
    → Reads ((frame captured keep kept).Is tt) a b
frame-read captured keep kept a b p =
    reads ((frame captured keep kept).Is tt) a b p.passes.gone (p.passes.size, p.kept)
    p.passes.consumes

pub frame-cut : (captured keep : ℕ) (kept : List ℕ) (a b : Option (List ℕ)) (f : SourceFault)
    → IsFrameFault captured a b f → IsFaultOf (frame captured keep kept) a b f
frame-cut captured keep kept a b faults.CutFile cut =
    (reads-few (λ w. length w < captured) a b captured (λ w few. few) cut, cut.2)
frame-cut captured keep kept a b faults.Malformed cut = absurd cut
frame-cut captured keep kept a b faults.LinkType cut = absurd cut
frame-cut captured keep kept a b (faults.Capture captures.CutRecord) cut = absurd cut
frame-cut captured keep kept a b (faults.Capture captures.Length) cut = absurd cut
frame-cut captured keep kept a b (faults.Capture captures.Io) cut = cut
frame-cut captured keep kept a b (faults.Capture captures.NoMemory) cut =
    reads (λ w. w ≡ []) a b [] refl cut
frame-cut captured keep kept a b (faults.Capture captures.Failed) cut = absurd cut
