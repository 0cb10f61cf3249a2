-- The header of a pcap file, part by part.
use Rattle.std.proofs.Common.{◌≡◌, ℕ, ◌<◌, ◌%◌, List, ◌++◌, length, drop, Option, sym, ap}
use Rattle.std.proofs.Common.{◌∙◌, arith, length-append, append_assoc, subst}
use Rattle.std.specs.Io.KnownBytes.{Consumes}
use Rattle.byteorder.specs.Endian.{big_number}
use Rattle.byteorder.specs.Numbers.{big_from-append}
use Rattle.its_linkframe.specs.declared.record.CaptureFault.TheVariants as captures
use Rattle.cap_pcap.specs.declared.fault.SourceFault.{SourceFault}
use Rattle.cap_pcap.specs.declared.fault.SourceFault.TheVariants as faults
use Rattle.cap_pcap.specs.declared.pcap.Magic.{Magic}
use Rattle.cap_pcap.specs.Octets.{number_in}
use Rattle.cap_pcap.specs.Reading.{IsCutShort}
use Rattle.cap_pcap.specs.Pcap.{mark_number, HasMagic, HasVersion, link_type, EndsInHeader}
use Rattle.cap_pcap.specs.Pcap.{IsHeaderFault}
use Rattle.cap_pcap.proofs.Cuts.{ConsumesPrefix-after}
use Rattle.cap_pcap.proofs.Parts.{EndsWhere-after, number_in-front, number_in-behind}

pub HasMagic-more : (m : Magic) (p v : List ℕ) → HasMagic m p → HasMagic m (p ++ v)
HasMagic-more m p v is = (omega (arith, is.0, length-append p v), big_from-append 4 p v is.0 ∙ is.1)

-- the number behind the magic
pub version-behind : (m : Magic) (p q v : List ℕ) → length p ≡ 4 → length q ≡ 2
    → number_in m.order 2 (drop 4 ((p ++ q) ++ v)) ≡ number_in m.order 2 (drop 0 q)
version-behind m p q v four two =
    number_in-front m.order 2 4 (p ++ q) v (omega (arith, four, two, length-append p q))
    ∙ number_in-behind m.order 2 4 0 p q (omega (arith, four))

pub HasVersion-parts : (m : Magic) (p q v : List ℕ) → length p ≡ 4 → length q ≡ 2
    → big_number 4 p ≡ mark_number m → number_in m.order 2 (drop 0 q) ≡ 2
    → HasVersion m ((p ++ q) ++ v)
HasVersion-parts m p q v four two magic version = (
  HasMagic-more m (p ++ q) v (HasMagic-more m p q (omega (arith, four), magic)),
  omega (arith, four, two, length-append p q, length-append (p ++ q) v),
  version-behind m p q v four two ∙ version,
)

-- the same with a third part behind them
pub HasVersion-longer : (m : Magic) (p q r v : List ℕ) → length p ≡ 4 → length q ≡ 2
    → big_number 4 p ≡ mark_number m → number_in m.order 2 (drop 0 q) ≡ 2
    → HasVersion m (((p ++ q) ++ r) ++ v)
HasVersion-longer m p q r v four two magic version =
    subst (HasVersion m) (sym (append_assoc (p ++ q) r v))
    (HasVersion-parts m p q (r ++ v) four two magic version)

pub link_type-parts : (m : Magic) (p q r v : List ℕ) → length p ≡ 4 → length q ≡ 2 → length r ≡ 18
    → link_type m (((p ++ q) ++ r) ++ v) ≡ number_in m.order 4 (drop 14 r) % 65536
link_type-parts m p q r v four two more =
    let front : length (p ++ q) ≡ 6 = omega (arith, four, two, length-append p q) in
    ap (λ (t : ℕ). t % 65536)
    (number_in-front m.order 4 20 ((p ++ q) ++ r) v
    (omega (arith, front, more, length-append (p ++ q) r))
    ∙ number_in-behind m.order 4 20 14 (p ++ q) r (omega (arith, front)))

-- a cut in the later part of a header
pub IsHeaderFault-cut : (a b c : Option (List ℕ)) (p : List ℕ) (n : ℕ) (f : SourceFault)
    → Consumes a b p → ((v : List ℕ) → length v < n → EndsInHeader (p ++ v)) → IsCutShort n b c f
    → IsHeaderFault a c f
IsHeaderFault-cut a b c p n faults.CutFile gone all cut =
    EndsWhere-after EndsInHeader a b c p n gone cut all
IsHeaderFault-cut a b c p n faults.Malformed gone all cut = absurd cut
IsHeaderFault-cut a b c p n faults.LinkType gone all cut = absurd cut
IsHeaderFault-cut a b c p n (faults.Capture captures.CutRecord) gone all cut = absurd cut
IsHeaderFault-cut a b c p n (faults.Capture captures.Length) gone all cut = absurd cut
IsHeaderFault-cut a b c p n (faults.Capture captures.Io) gone all cut =
    ConsumesPrefix-after a b c p gone cut
IsHeaderFault-cut a b c p n (faults.Capture captures.NoMemory) gone all cut = absurd cut
IsHeaderFault-cut a b c p n (faults.Capture captures.Failed) gone all cut = absurd cut
