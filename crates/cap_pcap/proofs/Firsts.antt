-- The first interface of a section, which no octet says.
use Rattle.std.proofs.Common.{◌≡◌, ℕ, List, [], Option, None, Some, refl, subst, sym}
use Rattle.std.proofs.KnownBytes.{Consumes-nil}
use Rattle.std.specs.List.{slice_get}
use Rattle.cap_pcap.specs.declared.fault.SourceFault.{SourceFault}
use Rattle.cap_pcap.specs.declared.fault.SourceFault.TheVariants as faults
use Rattle.cap_pcap.specs.declared.interface.Interface.{Interface}
use Rattle.cap_pcap.specs.Blocks.{first}
use Rattle.cap_pcap.specs.Layouts.{Reads, IsFaultOf}
use Rattle.cap_pcap.proofs.Layouts.{reads}

pub first-read : (is : List Interface) (i : Interface) (b : Option (List ℕ))
    → slice_get is 0 ≡ Some i → Reads ((first is).Is i) b b
first-read is i b found = reads ((first is).Is i) b b [] (refl, found) (Consumes-nil b)

pub first-wrong : (is : List Interface) (f : SourceFault) (b : Option (List ℕ))
    → (f ≡ faults.Malformed) × (slice_get is 0 ≡ None) → IsFaultOf (first is) b b f
first-wrong is f b none =
    subst (IsFaultOf (first is) b b) (sym none.0)
    (reads ((first is).Wrong) b b [] (refl, none.1) (Consumes-nil b))
