-- What a socket gives.
use Rattle.std.specs.Prelude.{ℕ, ◌≤◌, List, length}
use Rattle.cmd_mesh.specs.declared.sockets.Received.{Received}
use Rattle.cmd_mesh.specs.declared.sockets.Received.TheVariants as received

-- what came lies in the buffer
abbrev pub FitsBuffer : Received → List ℕ → Type 0
FitsBuffer (received.Done count) buffer = count ≤ length buffer
FitsBuffer received.WouldBlock buffer = Unit {0}
FitsBuffer received.Failed buffer = Unit {0}
