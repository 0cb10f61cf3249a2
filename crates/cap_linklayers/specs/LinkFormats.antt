-- Formats of link layers: a record ends in its header, which is L1, or a field of it is wrong, L2.
use Rattle.std.specs.Prelude.{ℕ, Bool, true, List, Result}
use Rattle.its_formats.specs.Format as formats
use Rattle.its_formats.specs.Format.{Faults, number, octets}
use Rattle.cap_linklayers.specs.declared.link.LinkFault.{LinkFault}
use Rattle.cap_linklayers.specs.declared.link.LinkFault.TheVariants as faults

-- a field is wrong in one way only
abbrev pub Format : Type 0 → Type 0
Format A = formats.Format (Unit {0}) A

abbrev pub link_faults : Faults (Unit {0}) LinkFault
link_faults = record { truncated = λ _. faults.Short; wrong = λ _ _. faults.Kind }

-- what a record says, and where that ends, or the first fault
abbrev pub walk : {A : Type 0} → Format A → List ℕ → Result (A × ℕ) LinkFault
walk f w = formats.walk link_faults f 0 w

-- a number that is never wrong
abbrev pub any_number : {A : Type 0} → ℕ → (ℕ → Format A) → Format A
any_number n next = number n tt (λ _. true) next

-- octets that aren't read
abbrev pub skipped : {A : Type 0} → ℕ → Format A → Format A
skipped n next = octets n (λ _. next)

-- a test of what was read, which takes no octets
abbrev pub check : {A : Type 0} → Bool → Format A → Format A
check is_right next = number 0 tt (λ _. is_right) (λ _. next)
