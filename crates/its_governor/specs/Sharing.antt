-- What the limits promise under pressure, in every list of calls.
use Rattle.std.specs.Prelude.{ℕ, ◌*◌, ◌≤◌, ◌<◌, List, Bool, true, Option, Some, None}
use Rattle.std.specs.Prelude.{IsTrue, IsFalse}
use Rattle.its_model.specs.Packet.{Transmission}
use Rattle.its_governor.specs.declared.bucket.Bucket.{Bucket}
use Rattle.its_governor.specs.declared.governor.Governor.{Governor}
use Rattle.its_governor.specs.declared.receiver.Receiver.{Receiver}
use Rattle.its_governor.specs.Bucket.{parts_at}
use Rattle.its_governor.specs.Shares.{ShareState, is_within_share}
use Rattle.its_governor.specs.Pressure.{turn_of}
use Rattle.its_governor.specs.Governing.{passed_of, is_echo, room_in, source_room}
use Rattle.its_governor.specs.Deliveries.{GovernedCall, after_calls}

-- A frame keeps the rules of a bucket under pressure: the receiver knew its source before, the source
-- is within its share, and the frame's turn has come. Without both limits there are no rules.
abbrev pub KeepsRules : Option Bucket → Option ShareState → Receiver → ℕ → Transmission → Type 0
KeepsRules None s r now t = Unit {0}
KeepsRules (Some b) None r now t = Unit {0}
KeepsRules (Some b) (Some s) r now t =
    IsTrue r.knew_source
    × IsTrue (is_within_share b.rate s.frames t.pdu.vector.address now)
    × (1000 * turn_of b.rate r.address t < parts_at b now)

-- A frame that keeps these rules is forwarded, whatever else came: if it is no echo, has no more hops
-- left than the greatest, and finds room in both buckets.
abbrev pub IsShareKept : Governor → Type 0
IsShareKept g =
    (r : Receiver) (now : ℕ) (t : Transmission) (handed : Bool)
    → IsFalse (is_echo g.delivered now t) → t.hops_left ≤ g.hop_cap
    → IsTrue (room_in g.forward now) → IsTrue (source_room g.sources t.pdu.vector.address now)
    → KeepsRules g.forward g.shares r now t
    → IsTrue (passed_of g r now t handed true).forwards

abbrev pub SharesAreKept : Governor → Type 0
SharesAreKept g = (calls : List GovernedCall) → IsShareKept (after_calls g calls)

-- the bucket holds four fifths of its burst
abbrev pub HoldsFourFifths : Option Bucket → ℕ → Type 0
HoldsFourFifths None now = ⊥
HoldsFourFifths (Some b) now = 800 * b.rate.burst ≤ parts_at b now

-- A frame of a source that the receiver did not know is forwarded only if the bucket of all forwarded
-- frames holds four fifths of its burst: new sources take nothing of the rest.
abbrev pub NewSourcesTakeNothing : Governor → Type 0
NewSourcesTakeNothing g =
    (calls : List GovernedCall) (r : Receiver) (now : ℕ) (t : Transmission) (handed sent : Bool)
    → IsFalse r.knew_source
    → IsTrue (passed_of (after_calls g calls) r now t handed sent).forwards
    → HoldsFourFifths (after_calls g calls).forward now
