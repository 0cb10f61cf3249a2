-- A caller's test of which frames are copies.
use Rattle.std.specs.Prelude.{◌≡◌, Bool, List, All}
use Rattle.std.specs.Fn.{Shared, FnReturnsAt}
use Rattle.std.specs.Borrow.{Bor}
use Rattle.its_model.specs.Contention.{HeldFrame}

-- A call at a frame that waits returns what the test says of it.
abbrev pub IsTested : {F C : Type 0} → Shared C (Bor F × Unit {0}) Bool → C → (F → Bool)
    → HeldFrame F → Type 0
IsTested g call is_copy h =
    (result : Bool) → FnReturnsAt g call h.frame result → result ≡ is_copy h.frame

-- And at each of these frames.
abbrev pub AreTested : {F C : Type 0} → Shared C (Bor F × Unit {0}) Bool → C → (F → Bool)
    → List (HeldFrame F) → Type 0
AreTested g call is_copy held = All (IsTested g call is_copy) held
