-- What a writer of records does.
use Rattle.std.specs.Prelude.{◌≡◌, ℕ, Bool, true, false, List, Option, Result, Ok, Err}
use Rattle.std.specs.Prelude.{map}
use Rattle.std.specs.Borrow.{Bor}
use Rattle.std.specs.List.{concat}
use Rattle.its_linkframe.specs.Devices.{AppendsPrefix}
use Rattle.cap_pcap.specs.declared.put_fault.PutFault.{PutFault}
use Rattle.cap_pcap.specs.declared.put_fault.PutFault.TheVariants as faults

-- A writer: whether a call of its device failed, what octets its sink has, where they are known,
-- and how many calls of the sink failed.
pub record Writing : Type 0 where
  pub failed : Bool
  pub contents : Option (List ℕ)
  pub failures : ℕ

-- the octets of the parts, one after the other
abbrev pub joined : List (Bor (List ℕ)) → List ℕ
joined parts = concat (map (λ p. p.now) parts)

-- the answer is that a call of the device failed
abbrev pub is_io_failure : {T : Type 0} → Result T PutFault → Bool
is_io_failure (Ok _) = false
is_io_failure (Err faults.Length) = false
is_io_failure (Err faults.Moment) = false
is_io_failure (Err faults.Interface) = false
is_io_failure (Err faults.Name) = false
is_io_failure (Err faults.Io) = true
is_io_failure (Err faults.Failed) = false

-- What a fault says of octets that were to be written, and what it leaves: all as it was, or behind
-- what there was a prefix of the octets, and not all of them.
abbrev pub IsStartFault : List ℕ → Writing → Writing → PutFault → Type 0
IsStartFault text old new faults.Length = ⊥
IsStartFault text old new faults.Moment = ⊥
IsStartFault text old new faults.Interface = ⊥
IsStartFault text old new faults.Name = ⊥
IsStartFault text old new faults.Io = AppendsPrefix old.contents new.contents text
IsStartFault text old new faults.Failed = new ≡ old
