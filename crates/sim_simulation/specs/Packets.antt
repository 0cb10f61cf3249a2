-- What came of each packet for an area: which frames carried it, and where they were delivered.
-- Lines and deliveries have the newest first, packets and frames are in the order of their numbers.
use Rattle.std.specs.Prelude.{◌≡◌, ℕ, ◌+◌, ◌-◌, ◌<◌, ◌≤◌, List, [], ◌∷◌, ◌++◌, length, map, filter}
use Rattle.std.specs.Prelude.{count_by, drop, max, Option, Some, None, Bool, true, false, cond}
use Rattle.std.specs.Prelude.{nat_eq, nat_lt, slice_get, ◌&&◌}
use Rattle.std.specs.List.{list_any}
use Rattle.std.specs.HashSet.{contains}
use Rattle.its_headers.specs.declared.kind.Kind.{Kind}
use Rattle.its_headers.specs.declared.kind.Kind.TheVariants as kinds
use Rattle.its_model.specs.Calls as model
use Rattle.its_model.specs.World.{Event, What, with_one_more}
use Rattle.its_model.specs.World.What.{Calls, Deliver}
use Rattle.its_world.specs.Entries.{Entry}
use Rattle.its_station.specs.declared.answer.Answer.TheVariants as entries
use Rattle.sim_simulation.specs.Totals.{capped, counted, is_there, is_area_send}
use Rattle.sim_simulation.specs.declared.tally.summary.SendSummary.{SendSummary}
use Rattle.sim_simulation.specs.declared.tally.tally.CarriedPacket.{CarriedPacket}
use Rattle.sim_simulation.specs.declared.tally.tally.Tally.{Tally}

-- an event, and what was told of it
pub record Line : Type 0 where
  pub event : Event
  pub entry : Entry

-- these events and entries, one for one, before those that came earlier
abbrev pub lines_on : List Line → List Event → List Entry → List Line
lines_on lines [] log = lines
lines_on lines (e ∷ events) [] = lines
lines_on lines (e ∷ events) (entry ∷ log) =
    lines_on (record { event = e; entry = entry } ∷ lines) events log

-- the lines of these events and entries, one for one, the newest first
abbrev pub lines_of : List Event → List Entry → List Line
lines_of events log = lines_on [] events log

-- ---- the packets

-- a packet for an area: the event that sent it, by its place among the events, its moment and its
-- station, the kind and the port
pub record Packet : Type 0 where
  pub send : ℕ
  pub moment : ℕ
  pub station : ℕ
  pub kind : Kind
  pub port : ℕ

-- the packet for an area that the event of a number sends, if it sends one
abbrev pub sent_by : ℕ → Event → What → Option Packet
sent_by n e (Calls (model.OwnCall.SendGbc r)) = Some (record {
  send = n;
  moment = e.moment;
  station = e.station;
  kind = kinds.Gbc;
  port = r.message.port;
})
sent_by n e (Calls (model.OwnCall.SendGac r)) = Some (record {
  send = n;
  moment = e.moment;
  station = e.station;
  kind = kinds.Gac;
  port = r.message.port;
})
sent_by n e what = None

-- with the packet of an event of a number, where that gave a frame of its station's own
abbrev pub packets_after : Entry → ℕ → Event → List Packet → List Packet
packets_after (entries.Sent k) n e before = with_one_more before (sent_by n e e.what)
packets_after entry n e before = before

-- the packets for areas that were sent, in order
abbrev pub packets : List Line → List Packet
packets [] = []
packets (line ∷ before) = packets_after line.entry (length before) line.event (packets before)

-- ---- what frames carry

-- what frames carry, each at its number
abbrev pub Frames : Type 0
Frames = List (Option CarriedPacket)

-- of a frame that is looked up, what it carries
abbrev pub looked_up : Option (Option CarriedPacket) → Option CarriedPacket
looked_up None = None
looked_up (Some carries) = carries

-- what the frame carries that an event delivers, of these
abbrev pub delivered_by : What → Frames → Option CarriedPacket
delivered_by (Calls call) frames = None
delivered_by (Deliver k) frames = looked_up (slice_get frames k)

-- whether an event delivers a frame that was let go, of which so many were
abbrev pub is_released : ℕ → What → Bool
is_released released (Calls call) = false
is_released released (Deliver k) = nat_lt k released

-- what a relay carries: the same packet, one relay further
abbrev pub deeper : Option CarriedPacket → Option CarriedPacket
deeper None = None
deeper (Some c) = Some (record { send = c.send; depth = capped (c.depth + 1) })

-- with a relay of a frame that carries this, if there is one
abbrev pub with_relay : Bool → Option CarriedPacket → Frames → Frames
with_relay false carries frames = frames
with_relay true carries frames = frames ++ deeper carries ∷ []

-- what a frame of a station's own carries: the packet of this number, if it is for an area
abbrev pub own_of : ℕ → Bool → Option CarriedPacket
own_of number false = None
own_of number true = Some (record { send = number; depth = 0 })

-- with the frame that an event gave, if it gave one; so many packets were sent before
abbrev pub carried_after : Entry → ℕ → Event → Frames → Frames
carried_after (entries.Sent k) number e frames = frames ++ own_of number (is_area_send e.what) ∷ []
carried_after (entries.Accepted handed sent) number e frames =
    with_relay (is_there sent) (delivered_by e.what frames) frames
carried_after entry number e frames = frames

-- What each frame carries, at its number. A packet's own frame carries it at depth 0; one that was
-- given for the delivery of another carries what that one does, one deeper; the others carry none.
abbrev pub carried : List Line → Frames
carried [] = []
carried (line ∷ before) =
    carried_after line.entry (length (packets before)) line.event (carried before)

-- ---- where they were delivered

-- a frame with the packet of a number was delivered to the port: after so many hops, at which
-- station, and when
pub record Delivery : Type 0 where
  pub send : ℕ
  pub hops : ℕ
  pub station : ℕ
  pub moment : ℕ

-- the delivery of a frame that carries this, by an event
abbrev pub delivery_of : Event → CarriedPacket → Delivery
delivery_of e c =
    record {
      send = c.send;
      hops = capped (c.depth + 1);
      station = e.station;
      moment = e.moment;
    }

-- with the delivery of a frame that carries this, if there is one
abbrev pub with_delivery : Bool → Event → Option CarriedPacket → List Delivery → List Delivery
with_delivery false e carries before = before
with_delivery true e None before = before
with_delivery true e (Some c) before = delivery_of e c ∷ before

-- with the delivery by an event, if there is one
abbrev pub deliveries_after : Entry → Event → Frames → List Delivery → List Delivery
deliveries_after (entries.Accepted handed sent) e frames before =
    with_delivery (is_there handed) e (delivered_by e.what frames) before
deliveries_after entry e frames before = before

-- the deliveries of packets for areas, the newest first
abbrev pub deliveries : List Line → List Delivery
deliveries [] = []
deliveries (line ∷ before) =
    deliveries_after line.entry line.event (carried before) (deliveries before)

-- it is one of the packet of this number
abbrev pub is_of : ℕ → Delivery → Bool
is_of i d = nat_eq d.send i

-- it is one of the packet of this number, at this station
abbrev pub was_at : ℕ → ℕ → Delivery → Bool
was_at i station d = nat_eq d.send i && nat_eq d.station station

-- those that are the first of their packet at their station
abbrev pub firsts : List Delivery → List Delivery
firsts [] = []
firsts (d ∷ before) =
    cond (list_any (was_at d.send d.station) before) (firsts before) (d ∷ firsts before)

-- ---- what is counted of a packet

-- a frame carries the packet of this number
abbrev pub carries_packet : ℕ → Option CarriedPacket → Bool
carries_packet i None = false
carries_packet i (Some c) = nat_eq c.send i

-- the greatest of these, or 0
abbrev pub greatest : List ℕ → ℕ
greatest [] = 0
greatest (n ∷ ns) = max n (greatest ns)

-- at how many stations the packet of this number was delivered
abbrev pub stations_of : ℕ → List Delivery → ℕ
stations_of i ds = length (filter (is_of i) (firsts ds))

-- the most hops to a delivery of it
abbrev pub hops_of : ℕ → List Delivery → ℕ
hops_of i ds = greatest (map (λ d. d.hops) (filter (is_of i) ds))

-- from a moment to the latest of the stations' first deliveries
abbrev pub last_of : ℕ → ℕ → List Delivery → ℕ
last_of i sent ds = greatest (map (λ d. d.moment - sent) (filter (is_of i) (firsts ds)))

-- A summary is that of the packet of this number, of these frames and deliveries.
pub record IsSummary (i : ℕ) (s : SendSummary) (p : Packet) (fs : Frames) (ds : List Delivery)
    : Type 0 where
  pub send : s.send ≡ capped p.send
  pub moment : s.moment ≡ p.moment
  pub station : s.station ≡ p.station
  pub kind : s.kind.0 ≡ p.kind
  pub port : s.port ≡ p.port
  pub frames : s.frames ≡ capped (count_by (carries_packet i) fs)
  pub delivered : s.delivered ≡ capped (stations_of i ds)
  pub hops : s.hops ≡ hops_of i ds
  pub last : s.last ≡ last_of i p.moment ds

-- the summaries are those of these packets, one for one, the first of which has this number
abbrev pub AreSummaries : ℕ → List SendSummary → List Packet → Frames → List Delivery → Type 0
AreSummaries i [] [] frames ds = Unit {0}
AreSummaries i [] (p ∷ ps) frames ds = ⊥
AreSummaries i (s ∷ ss) [] frames ds = ⊥
AreSummaries i (s ∷ ss) (p ∷ ps) frames ds =
    IsSummary i s p frames ds × AreSummaries (i + 1) ss ps frames ds

-- ---- words of private functions

-- of what all frames carry, what is kept, after so many that are forgotten
pub record AreKept (kept : Frames) (released : ℕ) (frames : Frames) : Type 0 where
  pub within : released ≤ length frames
  pub rest : kept ≡ drop released frames

-- the packet is one of the first, so many of them
abbrev pub IsOneOf : ℕ → Option CarriedPacket → Type 0
IsOneOf count None = Unit {0}
IsOneOf count (Some c) = c.send < count

-- each of these frames carries one of the first packets, if it carries any
abbrev pub CarryThese : ℕ → Frames → Type 0
CarryThese count [] = Unit {0}
CarryThese count (carries ∷ frames) = IsOneOf count carries × CarryThese count frames

-- each of these is a delivery of one of the first packets
abbrev pub AreOfThese : ℕ → List Delivery → Type 0
AreOfThese count [] = Unit {0}
AreOfThese count (d ∷ ds) = (d.send < count) × AreOfThese count ds

-- two keys of a set of pairs are the same
abbrev pub same_pair : ℕ × ℕ → ℕ × ℕ → Bool
same_pair x y = nat_eq x.0 y.0 && nat_eq x.1 y.1

-- What a tally has counted of these packets, frames and deliveries: the summaries; what the frames
-- carry that it keeps; and which packet was delivered at which station.
pub record HasCounted (t : Tally) (ps : List Packet) (frames : Frames) (ds : List Delivery)
    : Type 0 where
  pub summaries : AreSummaries 0 t.sends.items ps frames ds
  pub kept : AreKept t.carried.items t.released frames
  pub places : (i station : ℕ) → contains same_pair t.delivered (i, station)
      ≡ list_any (was_at i station) ds
  pub of_frames : CarryThese (length ps) frames
  pub of_deliveries : AreOfThese (length ps) ds

-- a list with the element of one index changed; the first one has an index too
abbrev pub updated : {X : Type 0} → ℕ → ℕ → (X → X) → List X → List X
updated at from f [] = []
updated at from f (x ∷ xs) = cond (nat_eq at from) (f x) x ∷ updated at (from + 1) f xs

-- a summary with one frame more
abbrev pub with_one_frame : SendSummary → SendSummary
with_one_frame s = record s { frames = capped (s.frames + 1) }

-- a summary with one delivery more, which is the first at its station or not
abbrev pub delivered_to : ℕ → Bool → ℕ → SendSummary → SendSummary
delivered_to hops first moment s =
    record s {
      hops = max s.hops hops;
      delivered = counted first s.delivered;
      last = cond first (max s.last (moment - s.moment)) s.last;
    }

-- the summaries with one frame more of the packet that it carries
abbrev pub with_frame_of : Option CarriedPacket → List SendSummary → List SendSummary
with_frame_of None ss = ss
with_frame_of (Some c) ss = updated c.send 0 with_one_frame ss
