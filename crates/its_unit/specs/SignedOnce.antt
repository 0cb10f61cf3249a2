-- That no unit accepts a packet twice, if the entities refuse messages that were sealed too long ago.
use Rattle.std.specs.Prelude.{◌≡◌, ℕ, ◌+◌, ◌*◌, ◌≤◌, ◌<◌, List, [], ◌∷◌, length, ◌==◌, ◌&&◌, nat_le}
use Rattle.std.specs.Prelude.{if◌then◌else◌, Option, Some, None, slice_get}
use Rattle.its_model.specs.History.{Reception, entry_life, with_number}
use Rattle.its_model.specs.Packet.{number_in}
use Rattle.its_model.specs.Calls as model
use Rattle.its_station.specs.Receiving.{VerifiedCall}
use Rattle.its_unit.specs.Unit.{UnitModel, UnitAnswer}
use Rattle.its_unit.specs.Signed.{SignedWhat, SignedEvent, SignedLine, SignedModel, new_signed}
use Rattle.its_unit.specs.Signed.{signed_step, WasSealed, AreSound}
use Rattle.its_unit.specs.SignedLaws.{signed_after}

-- ---- what is assumed of the entities' clocks

-- two moments are at most so many milliseconds apart
abbrev pub AreNear : ℕ → ℕ → ℕ → Type 0
AreNear window a b = (a ≤ b + window) × (b ≤ a + window)

-- A plain part was sealed as this message, at most `window` ms before or after a moment.
pub record WasSealedNear (window now : ℕ) (log : List SignedLine) (plain message : List ℕ) :
    Type 0 where
  pub sealed : WasSealed log plain message
  pub near : AreNear window sealed.line.event.now now

-- The entity returns the plain part of such messages only.
abbrev pub IsFresh : ℕ → ℕ → List SignedLine → SignedWhat → Type 0
IsFresh window now log (SignedWhat.Asks call message) = Unit {0}
IsFresh window now log (SignedWhat.Unread octets) = Unit {0}
IsFresh window now log SignedWhat.Releases = Unit {0}
IsFresh window now log (SignedWhat.Arrives octets plain (VerifiedCall.Came v)) =
    WasSealedNear window now log plain v.message
IsFresh window now log (SignedWhat.Arrives octets plain (VerifiedCall.Faulty fault)) = Unit {0}

abbrev pub AreFresh : ℕ → SignedModel → List SignedEvent → Type 0
AreFresh window f [] = Unit {0}
AreFresh window f (e ∷ events) =
    IsFresh window e.now f.log e.what × AreFresh window (signed_step f e) events

-- ---- how much a source sends

-- the sequence number of a packet of this source, if the answer sends one that has a number
abbrev pub number_of_sent : ℕ → UnitAnswer → Option ℕ
number_of_sent source (UnitAnswer.Passed (model.Answer.Sent t)) =
    if t.pdu.vector.address == source then number_in t.pdu.body else None
number_of_sent source answer = None

-- the same of a line whose moment is one of `span` ms from a moment on
abbrev pub number_in_span : ℕ → ℕ → ℕ → SignedLine → Option ℕ
number_in_span source from span line =
    if nat_le from line.event.now && nat_le line.event.now (from + span)
    then number_of_sent source line.answer else None

-- the numbers of the packets that a source sent in this time
abbrev pub numbers_sent : ℕ → ℕ → ℕ → List SignedLine → List ℕ
numbers_sent source from span [] = []
numbers_sent source from span (line ∷ log) =
    with_number (number_in_span source from span line) (numbers_sent source from span log)

-- A source sends at most so many packets for areas in each stretch of `span` ms.
abbrev pub SendsFew : ℕ → ℕ → ℕ → List SignedLine → Type 0
SendsFew most span source log =
    (from : ℕ) → length (numbers_sent source from span log) ≤ most

-- ---- what holds then

-- two receptions of one packet for an area: of one source, with one sequence number
abbrev pub IsSamePacket : Reception → Reception → Type 0
IsSamePacket r q =
    (r.vector.address ≡ q.vector.address)
    × (n : ℕ) × (r.number ≡ Some n) × (q.number ≡ Some n)

-- the packet is none of these, unless that came more than `span` ms before
abbrev pub IsNewAmong : ℕ → Reception → List Reception → Type 0
IsNewAmong span r [] = Unit {0}
IsNewAmong span r (q ∷ older) =
    (IsSamePacket r q → q.moment + span < r.moment) × IsNewAmong span r older

-- each of these packets, the newest first, is new
abbrev pub AreNew : ℕ → List Reception → Type 0
AreNew span [] = Unit {0}
AreNew span (r ∷ older) = IsNewAmong span r older × AreNew span older

-- The stations of these units accepted nothing yet.
abbrev pub HaveHeardNothing : List UnitModel → Type 0
HaveHeardNothing units =
    (j : ℕ) (u : UnitModel) → slice_get units j ≡ Some u → u.station.history ≡ []

-- Let the entities refuse messages that were sealed over `window` ms before or after, with a window
-- below 10 s, and let each source send at most as many packets for areas in four windows as a unit
-- remembers. Then of the packets that the unit accepted since its last restart, no two with one number
-- of one source came within two windows. Copies of one message come within two windows, or are
-- refused: so none is accepted twice.
abbrev pub AcceptsOnce : List UnitModel → Type 0
AcceptsOnce units =
    (window : ℕ) (events : List SignedEvent) (j : ℕ) (u now : UnitModel)
    → 2 * window < entry_life
    → AreSound (new_signed units) events → AreFresh window (new_signed units) events
    → slice_get units j ≡ Some u → slice_get (signed_after units events).units j ≡ Some now
    → ((source : ℕ)
    → SendsFew u.station.remember (4 * window) source (signed_after units events).log)
    → AreNew (2 * window) now.station.history
