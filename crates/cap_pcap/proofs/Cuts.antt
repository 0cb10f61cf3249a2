-- One part of a file after another, and a cut in the later one.
use Rattle.std.proofs.Common.{◌≡◌, ℕ, ◌+◌, ◌<◌, ◌≤◌, List, ◌++◌, length, Option, None, Some}
use Rattle.std.proofs.Common.{IfSome, IfErr, OnOk, Result, Ok, Err, ◌-◌, min, take, sym, ap, ◌∙◌}
use Rattle.std.proofs.Common.{arith, length-append}
use Rattle.std.proofs.Math.Seq.{take-append_seam}
use Rattle.std.proofs.KnownBytes.{Consumes-trans}
use Rattle.std.specs.Io.KnownBytes.{Consumes}
use Rattle.its_linkframe.specs.Devices.{ConsumesPrefix}
use Rattle.its_linkframe.specs.declared.record.CaptureFault.TheVariants as captures
use Rattle.cap_pcap.specs.declared.fault.SourceFault.{SourceFault}
use Rattle.cap_pcap.specs.declared.fault.SourceFault.TheVariants as faults
use Rattle.cap_pcap.specs.Reading.{Passes, IsCutShort, IsFrameFault, GivesFrame}

pub ConsumesPrefix-after : (a b c : Option (List ℕ)) (p : List ℕ) → Consumes a b p
    → ConsumesPrefix b c → ConsumesPrefix a c
ConsumesPrefix-after a b c p gone more = (p ++ more.0, Consumes-trans a b c _ _ gone more.1)

pub Passes-after : (a b c : Option (List ℕ)) (m n total : ℕ) → total ≡ m + n → Passes m a b
    → Passes n b c → Passes total a c
Passes-after a b c m n total is p q = record {
  gone = p.gone ++ q.gone;
  size = omega (arith, is, length-append p.gone q.gone, p.size, q.size);
  consumes = Consumes-trans a b c _ _ p.consumes q.consumes;
}

-- few octets are left behind octets that went: few more than these were there before
pub few-after : (a b : Option (List ℕ)) (p : List ℕ) (n total : ℕ) → length p + n ≤ total
    → Consumes a b p → IfSome b (λ w. length w < n) → IfSome a (λ w. length w < total)
few-after None b p n total le gone few = tt
few-after (Some u) None p n total le gone few = absurd gone
few-after (Some u) (Some v) p n total le gone few =
    omega (arith, le, few, ap length gone, length-append p v)

pub IsCutShort-after : (a b c : Option (List ℕ)) (p : List ℕ) (n total : ℕ) (f : SourceFault)
    → length p + n ≤ total → Consumes a b p → IsCutShort n b c f → IsCutShort total a c f
IsCutShort-after a b c p n total faults.CutFile le gone cut =
    (few-after a b p n total le gone cut.0, ConsumesPrefix-after a b c p gone cut.1, cut.2)
IsCutShort-after a b c p n total faults.Malformed le gone cut = absurd cut
IsCutShort-after a b c p n total faults.LinkType le gone cut = absurd cut
IsCutShort-after a b c p n total (faults.Capture captures.CutRecord) le gone cut = absurd cut
IsCutShort-after a b c p n total (faults.Capture captures.Length) le gone cut = absurd cut
IsCutShort-after a b c p n total (faults.Capture captures.Io) le gone cut =
    ConsumesPrefix-after a b c p gone cut
IsCutShort-after a b c p n total (faults.Capture captures.NoMemory) le gone cut = absurd cut
IsCutShort-after a b c p n total (faults.Capture captures.Failed) le gone cut = absurd cut

-- ---- the frame of a record: a first part that is kept, and the rest

pub IsFrameFault-after : (a b c : Option (List ℕ)) (p : List ℕ) (n total : ℕ) (f : SourceFault)
    → length p + n ≤ total → Consumes a b p → IsCutShort n b c f → IsFrameFault total a c f
IsFrameFault-after a b c p n total faults.CutFile le gone cut =
    IsCutShort-after a b c p n total faults.CutFile le gone cut
IsFrameFault-after a b c p n total faults.Malformed le gone cut = absurd cut
IsFrameFault-after a b c p n total faults.LinkType le gone cut = absurd cut
IsFrameFault-after a b c p n total (faults.Capture captures.CutRecord) le gone cut = absurd cut
IsFrameFault-after a b c p n total (faults.Capture captures.Length) le gone cut = absurd cut
IsFrameFault-after a b c p n total (faults.Capture captures.Io) le gone cut =
    ConsumesPrefix-after a b c p gone cut
IsFrameFault-after a b c p n total (faults.Capture captures.NoMemory) le gone cut = absurd cut
IsFrameFault-after a b c p n total (faults.Capture captures.Failed) le gone cut = absurd cut

pub frame-fault : (r : Result (Unit {0}) SourceFault) (a b c : Option (List ℕ)) (p : List ℕ)
    (n total : ℕ) → length p + n ≤ total → Consumes a b p → IfErr r (IsCutShort n b c)
    → IfErr r (IsFrameFault total a c)
frame-fault (Ok x) a b c p n total le gone cut = tt
frame-fault (Err f) a b c p n total le gone cut = IsFrameFault-after a b c p n total f le gone cut

pub frame-given : (r : Result (Unit {0}) SourceFault) (a b c : Option (List ℕ)) (p : List ℕ)
    (captured keep : ℕ) → length p ≡ min captured keep → Consumes a b p
    → OnOk r (Passes (captured - min captured keep) b c)
    → OnOk r (GivesFrame captured keep p a c)
frame-given (Err f) a b c p captured keep size gone more = tt
frame-given (Ok x) a b c p captured keep size gone more = record {
  passes = record {
    gone = p ++ more.gone;
    size = omega (arith, size, more.size, length-append p more.gone);
    consumes = Consumes-trans a b c _ _ gone more.consumes;
  };
  kept = sym (ap (λ (n : ℕ). take n (p ++ more.gone)) (sym size) ∙ take-append_seam p more.gone);
}
