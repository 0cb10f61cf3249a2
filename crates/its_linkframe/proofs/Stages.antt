-- What a reader's stage says after a call.
use Rattle.std.proofs.Common.{◌≡◌, ℕ, ◌+◌, ◌-◌, ◌^◌, ◌<◌, Bool, false, List, Option, None, Some}
use Rattle.std.proofs.Common.{Result, Ok, Err, IfOk, IfNone, is_err, if◌then◌else◌, arith}
use Rattle.std.specs.Io.KnownBytes.{IsAtEnd}
use Rattle.its_linkframe.specs.declared.record.CaptureFault.{CaptureFault}
use Rattle.its_linkframe.specs.Reading.{is_io, MeetsEnd}

-- a call that didn't fail leaves the count of failures as it was
pub ready_after : {T : Type 0} (failed : Bool) (result : Result T CaptureFault) (before after : ℕ)
    → failed ≡ is_err result → after ≡ before + (if is_io result then 1 else 0)
    → before < 2 ^ 64 - 1 → failed ≡ false
    → after < 2 ^ 64 - 1
ready_after failed (Ok x) before after is counts ready good = omega (arith, counts)
ready_after failed (Err e) before after is counts ready good = absurd cc

-- after the end nothing is left
pub IsAtEnd-after : {T : Type 0} (old new : Option (List ℕ))
    (result : Result (Option T) CaptureFault)
    → IfOk result (λ found. IfNone found (MeetsEnd old new)) → result ≡ Ok None → IsAtEnd new
IsAtEnd-after old new (Ok None) ends is = ends.1
IsAtEnd-after old new (Ok (Some x)) ends is = absurd cc
IsAtEnd-after old new (Err e) ends is = absurd cc
