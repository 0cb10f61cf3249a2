-- Why blocks have layouts, which are relations, and are not formats: what is read of a block is no
-- function of its octets.
use Rattle.std.proofs.Common.{◌≡◌, ◌≢◌, ℕ, List, [], ◌∷◌, length, slice_index, Option, None, Some, Result}
use Rattle.std.proofs.Common.{Ok, Err}
use Rattle.std.proofs.Common.{refl, sym, ap, ◌∙◌, arith}
use Rattle.its_formats.specs.Format.{Format, Faults, walk}
use Rattle.its_formats.proofs.Found.{ok_is}
use Rattle.its_linkframe.specs.declared.record.CaptureFault.TheVariants as captures
use Rattle.cap_pcap.specs.declared.fault.SourceFault.{SourceFault}
use Rattle.cap_pcap.specs.declared.fault.SourceFault.TheVariants as faults
use Rattle.cap_pcap.specs.declared.interface.Interface.{Interface}
use Rattle.cap_pcap.specs.declared.name.InterfaceName.{InterfaceName}
use Rattle.cap_pcap.specs.Interfaces.{HasName}
use Rattle.cap_pcap.specs.Layouts.{frame, IsAnswerOf}

-- ---- the same octets are two interfaces: those of a name end where its size says

-- an interface with a name of one octet, behind which another one is kept
abbrev named : Interface → ℕ → Interface
named i unused = record i {
  info = record {
    head = i.info.head;
    layer = i.info.layer;
    name = Some (record { octets = 65 ∷ unused ∷ []; size = 1; within = omega arith });
  };
}

has_name : (i : Interface) (unused : ℕ) → HasName i (65 ∷ []) (named i unused)
has_name i unused = record {
  info = record { name = refl; head = refl; layer = refl };
  snap = refl;
  ticks = refl;
  number = refl;
}

abbrev unused_in : Option InterfaceName → ℕ
unused_in None = 0
unused_in (Some n) = slice_index n.octets 1

differ : (i : Interface) → named i 0 ≢ named i 1
differ i same =
    let unused : 0 ≡ 1 = ap (λ (x : Interface). unused_in x.info.name) same in
    absurd (omega (arith, unused))

pub no_format : {K E : Type 0} (m : Faults K E) (f : Format K Interface) (i : Interface)
    → ((j : Interface) (w : List ℕ) → HasName i w j → walk m f 0 w ≡ Ok (j, length w)) → ⊥
no_format m f i says =
    let both = ok_is (named i 0, 1) (
      named i 1,
      1,
    ) (sym (says (named i 0) (65 ∷ []) (has_name i 0)) ∙ says (named i 1) (65 ∷ []) (has_name i 1)) in
    differ i (ap (λ (x : Interface × ℕ). x.0) both)

-- ---- the same octets have two answers: memory is there, or it isn't

abbrev read : Result (Unit {0}) SourceFault
read = Ok tt

abbrev no_memory : Result (Unit {0}) SourceFault
no_memory = Err (faults.Capture captures.NoMemory)

answers_differ : read ≡ no_memory → ⊥
answers_differ same = cc

pub no_function : (answer : Option (List ℕ) → Result (Unit {0}) SourceFault)
    → ((old new : Option (List ℕ)) (r : Result (Unit {0}) SourceFault)
    → IsAnswerOf (frame 0 0 []) old new r → r ≡ answer old) → ⊥
no_function answer gives =
    let fine = gives (Some []) (Some []) read ([], (refl, refl), refl) in
    let failed = gives (Some []) (Some []) no_memory ([], refl, refl) in
    answers_differ (fine ∙ sym failed)
