-- The options of an interface, one after the other.
use Rattle.std.proofs.Common.{◌≡◌, ◌-◌, ℕ, ◌<◌, ◌≤◌, true, false, List, [], suc, inl, inr}
use Rattle.std.proofs.Common.{Option, refl}
use Rattle.std.proofs.KnownBytes.{Consumes-nil}
use Rattle.its_linkframe.specs.declared.record.CaptureFault.TheVariants as captures
use Rattle.cap_pcap.specs.declared.fault.SourceFault.{SourceFault}
use Rattle.cap_pcap.specs.declared.fault.SourceFault.TheVariants as faults
use Rattle.cap_pcap.specs.declared.interface.Interface.{Interface}
use Rattle.cap_pcap.specs.declared.octets.Endianness.{Endianness}
use Rattle.cap_pcap.specs.declared.options.OptionStep.{OptionStep}
use Rattle.cap_pcap.specs.declared.options.OptionKind.{OptionKind}
use Rattle.cap_pcap.specs.Interfaces.{AreOptions, one_option, options, HasResolution, HasOffset}
use Rattle.cap_pcap.specs.Interfaces.{HasName, IsNamed, IsTurn, is_end, resolved, offset_by}
use Rattle.cap_pcap.specs.Moments.{ticks_of}
use Rattle.cap_pcap.specs.Layouts.{Reads, IsFaultOf, gives_that}
use Rattle.cap_pcap.proofs.Layouts.{reads, reads-as, reads-joined, prefix-behind, gives-read}

pub has-resolution : (i : Interface) (r : ℕ) (j : Interface) (b : Option (List ℕ))
    → j.ticks ≡ ticks_of r → j.info ≡ resolved i.info r → j.snap ≡ i.snap → j.number ≡ i.number
    → Reads ((gives_that (HasResolution i r)).Is j) b b
has-resolution i r j b ticks info snap number = gives-read (HasResolution i r) j b (record {
  ticks = ticks;
  info = info;
  snap = snap;
  number = number;
})

pub has-offset : (i : Interface) (n : ℕ) (j : Interface) (b : Option (List ℕ))
    → j.info ≡ offset_by i.info n → j.snap ≡ i.snap → j.ticks ≡ i.ticks → j.number ≡ i.number
    → Reads ((gives_that (HasOffset i n)).Is j) b b
has-offset i n j b info snap ticks number = gives-read (HasOffset i n) j b (record {
  info = info;
  snap = snap;
  ticks = ticks;
  number = number;
})

pub has-name : (i : Interface) (w : List ℕ) (j : Interface) (b : Option (List ℕ))
    → IsNamed i.info w j.info → j.snap ≡ i.snap → j.ticks ≡ i.ticks → j.number ≡ i.number
    → Reads ((gives_that (HasName i w)).Is j) b b
has-name i w j b info snap ticks number = gives-read (HasName i w) j b (record {
  info = info;
  snap = snap;
  ticks = ticks;
  number = number;
})

pub is-turn : (room : ℕ) (head : OptionKind × ℕ) (i : Interface) (t : OptionStep)
    (b : Option (List ℕ)) → t.left ≡ room - 4 - head.1 → t.interface ≡ i → t.is_end ≡ is_end head.0
    → Reads ((gives_that (IsTurn room head i)).Is t) b b
is-turn room head i t b left interface end = gives-read (IsTurn room head i) t b (record {
  left = left;
  interface = interface;
  end = end;
})

pub no-options : (o : Endianness) (room : ℕ) (i : Interface) (a : Option (List ℕ))
    → Reads (AreOptions o room i 0 room i) a a
no-options o room i a =
    reads (AreOptions o room i 0 room i) a a [] (refl, refl, refl) (Consumes-nil a)

pub more-options : (o : Endianness) (room : ℕ) (i : Interface) (count l : ℕ) (k : Interface) (t : OptionStep)
    (a b c : Option (List ℕ)) → Reads (AreOptions o room i count l k) a b → 4 ≤ l
    → Reads ((one_option o l k).Is t) b c → t.is_end ≡ false
    → Reads (AreOptions o room i (suc count) t.left t.interface) a c
more-options o room i count l k t a b c before some read more =
    reads-as _ _ a c (λ w j. (l, k, t, some, j, more, refl, refl))
    (reads-joined (AreOptions o room i count l k) ((one_option o l k).Is t) a b c before read)

pub last-option : (o : Endianness) (room : ℕ) (i : Interface) (count l : ℕ) (k : Interface) (t : OptionStep)
    (a b c : Option (List ℕ)) → Reads (AreOptions o room i count l k) a b → 4 ≤ l
    → Reads ((one_option o l k).Is t) b c → t.is_end ≡ true
    → Reads ((options o room i).Is (t.left, t.interface)) a c
unfolding options
last-option o room i count l k t a b c before some read end =
    reads-as _ _ a c (λ w j. (
      count,
      l,
      k,
      record {
        first = j.first;
        others = j.others;
        parts = j.parts;
        is_first = j.is_first;
        is_others = inr (some, t, j.is_others, end, refl, refl);
      },
    ))
    (reads-joined (AreOptions o room i count l k) ((one_option o l k).Is t) a b c before read)

pub no-more-options : (o : Endianness) (room : ℕ) (i : Interface) (count l : ℕ) (k : Interface)
    (a b : Option (List ℕ)) → Reads (AreOptions o room i count l k) a b → l < 4
    → Reads ((options o room i).Is (l, k)) a b
unfolding options
no-more-options o room i count l k a b before few =
    reads-as _ _ a b (λ w j. (
      count,
      l,
      k,
      record {
        first = j.first;
        others = j.others;
        parts = j.parts;
        is_first = j.is_first;
        is_others = inl (j.is_others, few, refl, refl);
      },
    ))
    (reads-joined (AreOptions o room i count l k) (λ w. w ≡ []) a b b before
    (reads (λ w. w ≡ []) b b [] refl (Consumes-nil b)))

pub option-fault : (o : Endianness) (room : ℕ) (i : Interface) (count l : ℕ) (k : Interface)
    (f : SourceFault) (a b c : Option (List ℕ)) → Reads (AreOptions o room i count l k) a b → 4 ≤ l
    → IsFaultOf (one_option o l k) b c f
    → IsFaultOf (options o room i) a c f
unfolding options
option-fault o room i count l k faults.CutFile a b c before some q = (
  reads-as _ _ a c (λ w j. (count, l, k, some, j))
      (reads-joined (AreOptions o room i count l k) ((one_option o l k).Ends) a b c before q.0),
  q.1,
)
option-fault o room i count l k faults.Malformed a b c before some q =
    reads-as _ _ a c (λ w j. (count, l, k, some, j))
    (reads-joined (AreOptions o room i count l k) ((one_option o l k).Wrong) a b c before q)
option-fault o room i count l k faults.LinkType a b c before some q = absurd q
option-fault o room i count l k (faults.Capture captures.CutRecord) a b c before some q = absurd q
option-fault o room i count l k (faults.Capture captures.Length) a b c before some q = absurd q
option-fault o room i count l k (faults.Capture captures.Io) a b c before some q =
    prefix-behind (AreOptions o room i count l k) a b c before q
option-fault o room i count l k (faults.Capture captures.NoMemory) a b c before some q =
    reads-as _ _ a c (λ w j. (count, l, k, some, j))
    (reads-joined (AreOptions o room i count l k) ((one_option o l k).Takes) a b c before q)
option-fault o room i count l k (faults.Capture captures.Failed) a b c before some q = absurd q
