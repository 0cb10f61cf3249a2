-- Linux cooked captures, of two versions (SLL and SLL2): a header that has the source's address and the
-- type, but no address of a target.
use Rattle.std.specs.Prelude.{◌≡◌, ℕ, Bool, true, false, ◌||◌, ◌==◌, List, [], ◌∷◌, ◌++◌, drop}
use Rattle.std.specs.Prelude.{Ok, Err}
use Rattle.its_formats.specs.Format.{ends, octets}
use Rattle.cap_linklayers.specs.declared.link.LinkFault.{LinkFault}
use Rattle.cap_linklayers.specs.LinkFormats.{Format, walk, any_number, skipped, check}

-- packet types: 1 is a broadcast, 2 a multicast that came
abbrev pub is_shared : ℕ → Bool
is_shared type = (type == 1) || (type == 2)

-- what stands for the target's address: the broadcast's, or 0 where the header doesn't say one
abbrev pub target_of : Bool → List ℕ
target_of true = 255 ∷ 255 ∷ 255 ∷ 255 ∷ 255 ∷ 255 ∷ []
target_of false = 0 ∷ 0 ∷ 0 ∷ 0 ∷ 0 ∷ 0 ∷ []

-- Version 1: packet type, hardware type, address length, address, type. An address has 6 octets,
-- which is tested behind the header. The format says target, source and type.
unfoldable pub sll_format : Format (List ℕ)
sll_format =
    any_number 2 λ packet.
    skipped 2 (any_number 2 λ size.
    octets 6 λ source.
    skipped 2 (octets 2 λ kind.
    check (size == 6) (ends ((target_of (is_shared packet) ++ source) ++ kind))))

-- Version 2: type, two reserved octets, interface, hardware type, packet type, address length,
-- address.
unfoldable pub sll2_format : Format (List ℕ)
sll2_format =
    octets 2 λ kind.
    skipped 8 (any_number 1 λ packet.
    any_number 1 λ size.
    octets 6 λ source.
    skipped 2 (check (size == 6) (ends ((target_of (is_shared packet) ++ source) ++ kind))))

-- the frame is what a format says of the record's header, and what follows the header
pub record IsCooked (header : Format (List ℕ)) (w f : List ℕ) : Type 0 where
  pub front : List ℕ
  pub end : ℕ
  pub reading : walk header w ≡ Ok (front, end)
  pub frame : f ≡ front ++ drop end w

-- the first rule of a header that doesn't hold
abbrev pub IsCookedFault : {A : Type 0} → Format A → List ℕ → LinkFault → Type 0
IsCookedFault header w fault = walk header w ≡ Err fault
