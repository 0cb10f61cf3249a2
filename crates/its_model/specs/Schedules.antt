-- What holds after every schedule. A log is split at a line, `later ++ line ∷ before`, and at two
-- lines, `later ++ second ∷ (between ++ first ∷ older)`: the newest line stands first.
use Rattle.std.specs.Prelude.{◌≡◌, ℕ, ◌+◌, ◌-◌, ◌≤◌, ◌<◌, List, ◌∷◌, ◌++◌, length, Bool, true}
use Rattle.std.specs.Prelude.{false, Option, Some, None, ◌==◌, slice_get}
use Rattle.std.specs.List.{count_by}
use Rattle.its_gnvalue.specs.Values.{mid_of}
use Rattle.its_geometry.specs.Area.{GeoArea, area_holds}
use Rattle.its_model.specs.Packet.{Message, Transmission, AreaKind, number_in, area_body}
use Rattle.its_model.specs.Packet.Body.{gac}
use Rattle.its_model.specs.Calls.{GbcRequest, Answer, area_call}
use Rattle.its_model.specs.Calls.Answer.{Ignored, Accepted}
use Rattle.its_model.specs.Calls.Why.{Duplicate}
use Rattle.its_model.specs.Station.{StationModel}
use Rattle.its_model.specs.World.{What, LogLine, WorldModel, Config, frame_of, default_remember}
use Rattle.its_model.specs.World.What.{Calls, Deliver}
use Rattle.its_model.specs.Log.{Origin, place_of, origins, position_at, sequence_number_at}
use Rattle.its_model.specs.Log.{receptions_at, has_restarted, IsOutlived, Forgotten}

-- ---- words of the laws

-- the origin is the call of a line of this log, by which a frame was given
pub record IsInLog (o : Origin) (log : List LogLine) : Type 0 where
  pub later : List LogLine
  pub line : LogLine
  pub number : ℕ
  pub split : log ≡ later ++ line ∷ o.before
  pub event : line.event ≡ o.event
  pub gives : frame_of line.entry ≡ Some number

-- a line of this log gave frame k
pub record IsGivenBy (log : List LogLine) (k : ℕ) : Type 0 where
  pub later : List LogLine
  pub line : LogLine
  pub before : List LogLine
  pub split : log ≡ later ++ line ∷ before
  pub gives : frame_of line.entry ≡ Some k

-- Station j is what its log makes it: it keeps its address, its capacity and how many numbers it
-- remembers, is mobile, stands where its last move took it, has its next number, and its history is
-- what it accepted since its last restart.
pub record IsAsLogged (configs : List Config) (log : List LogLine) (j : ℕ)
    (s : StationModel) : Type 0 where
  pub config : Config
  pub configured : slice_get configs j ≡ Some config
  pub address : s.address ≡ config.address
  pub capacity : s.capacity ≡ config.capacity
  pub remember : s.remember ≡ config.remember
  pub mobile : s.mobile ≡ true
  pub own_vector : s.vector.address ≡ config.address
  pub place : s.vector.place ≡ position_at config.place j log
  pub number : s.next_number ≡ sequence_number_at j log
  pub history : s.history ≡ receptions_at j log

-- by this line station j accepted frame k, which is this packet
pub record Accepts (w : WorldModel) (line : LogLine) (j k : ℕ) (t : Transmission) : Type 0 where
  pub handed : Option Message
  pub relayed : Option ℕ
  pub station : line.event.station ≡ j
  pub delivery : line.event.what ≡ Deliver k
  pub packet : slice_get w.air k ≡ Some t
  pub entry : line.entry ≡ Accepted handed relayed

-- frame k is of the packet of this kind that was sent at this place of the log
pub record IsOfSend (w : WorldModel) (kind : AreaKind) (place k : ℕ) : Type 0 where
  pub origin : Origin
  pub request : GbcRequest
  pub is : slice_get (origins w.log) k ≡ Some origin
  pub at_place : place_of origin ≡ place
  pub sent : origin.event.what ≡ Calls (area_call kind request)

-- ---- All laws on packets for an area hold of geobroadcasts and of geoanycasts alike, each kind
-- for itself: `area_body geobroadcast` is the body of a geobroadcast, and `area_call geobroadcast`
-- the call that sends one.

-- ---- What is delivered to a port was sent before, to that port, for an area that holds the
-- receiver where it stands then.

-- frame k, of which station j delivers this message to its port after these lines, was sent so
pub record WasSentForHere (kind : AreaKind) (configs : List Config) (before : List LogLine)
    (j k : ℕ) (message : Message) : Type 0 where
  pub origin : Origin
  pub request : GbcRequest
  pub config : Config
  pub origin_of : slice_get (origins before) k ≡ Some origin
  pub earlier : IsInLog origin before
  pub sent : origin.event.what ≡ Calls (area_call kind request)
  pub same : request.message ≡ message
  pub receiver : slice_get configs j ≡ Some config
  pub inside : area_holds request.area (position_at config.place j before) ≡ true

-- each handing of a packet for an area is such
abbrev pub HandedAsSent : List Config → WorldModel → Type 0
HandedAsSent configs w =
    (kind : AreaKind) (later before : List LogLine) (line : LogLine) (k : ℕ) (t : Transmission)
    (number : ℕ) (area : GeoArea) (sent message : Message) (relayed : Option ℕ)
    → w.log ≡ later ++ line ∷ before
    → line.event.what ≡ Deliver k → slice_get w.air k ≡ Some t
    → t.pdu.body ≡ area_body kind number area sent
    → line.entry ≡ Accepted (Some message) relayed
    → WasSentForHere kind configs before line.event.station k message

-- ---- A frame that is given for a delivery is the frame that was delivered, with one hop fewer,
-- from the station's own link address.

-- frame m is frame k, relayed by station j: the same packet with one hop fewer left, from the
-- station's own link address
pub record IsRelayed (configs : List Config) (w : WorldModel) (j k m : ℕ) : Type 0 where
  pub packet : Transmission
  pub config : Config
  pub target : ℕ
  pub delivered : slice_get w.air k ≡ Some packet
  pub hops : 2 ≤ packet.hops_left
  pub relayer : slice_get configs j ≡ Some config
  pub given : slice_get w.air m ≡ Some (record {
    pdu = packet.pdu;
    hops_left = packet.hops_left - 1;
    link_source = mid_of config.address;
    link_target = target;
  })

-- each frame that is given for a delivery is such
abbrev pub RelaysAreFaithful : List Config → WorldModel → Type 0
RelaysAreFaithful configs w =
    (later before : List LogLine) (line : LogLine) (k m : ℕ)
    → w.log ≡ later ++ line ∷ before
    → line.event.what ≡ Deliver k → frame_of line.entry ≡ Some m
    → IsRelayed configs w line.event.station k m

-- ---- No station accepts one packet for an area twice, unless it forgot it between: so it hands it
-- out once. And what it ignores as a duplicate it accepted, and didn't forget.

-- station j forgot this packet between these lines
pub record WasForgotten (configs : List Config) (j : ℕ) (t : Transmission) (first : LogLine)
    (between : List LogLine) (later : LogLine) : Type 0 where
  pub receiver : Config
  pub is_receiver : slice_get configs j ≡ Some receiver
  pub number : ℕ
  pub number_is : number_in t.pdu.body ≡ Some number
  pub forgotten : Forgotten receiver.remember j t.pdu.vector.address number first between later

-- accepted again, so forgotten between
abbrev pub AcceptedAgainWasForgotten : List Config → WorldModel → Type 0
AcceptedAgainWasForgotten configs w =
    (kind : AreaKind) (later between older : List LogLine) (first second : LogLine)
    (j k m place : ℕ) (t u : Transmission)
    → w.log ≡ later ++ second ∷ (between ++ first ∷ older)
    → Accepts w first j k t → Accepts w second j m u → IsOfSend w kind place k
    → IsOfSend w kind place m
    → WasForgotten configs j t first between second

-- by an earlier line the station of the later one accepted a packet of the same source and number,
-- and didn't forget it
pub record WasAccepted (configs : List Config) (w : WorldModel) (before : List LogLine)
    (later : LogLine) (t : Transmission) : Type 0 where
  pub between : List LogLine
  pub older : List LogLine
  pub first : LogLine
  pub frame : ℕ
  pub packet : Transmission
  pub number : ℕ
  pub receiver : Config
  pub is_receiver : slice_get configs later.event.station ≡ Some receiver
  pub split : before ≡ between ++ first ∷ older
  pub accepts : Accepts w first later.event.station frame packet
  pub same_source : packet.pdu.vector.address ≡ t.pdu.vector.address
  pub number_is : number_in t.pdu.body ≡ Some number
  pub same_number : number_in packet.pdu.body ≡ Some number
  pub not_forgotten : Forgotten receiver.remember later.event.station t.pdu.vector.address number
      first between later → ⊥

-- ignored as a duplicate, so accepted before
abbrev pub DuplicateWasAccepted : List Config → WorldModel → Type 0
DuplicateWasAccepted configs w =
    (later before : List LogLine) (line : LogLine) (k : ℕ) (t : Transmission)
    → w.log ≡ later ++ line ∷ before
    → line.event.what ≡ Deliver k → slice_get w.air k ≡ Some t → line.entry ≡ Ignored Duplicate
    → WasAccepted configs w before line t

-- both
pub record AtMostOnce (configs : List Config) (w : WorldModel) : Type 0 where
  pub again : AcceptedAgainWasForgotten configs w
  pub duplicate : DuplicateWasAccepted configs w

-- The default case: station j remembers eight numbers, and didn't restart between these lines. Then
-- the source's session broke, or eight others of the source were accepted.
pub record WasOutlivedByEight (j : ℕ) (t : Transmission) (first : LogLine) (between : List LogLine)
    (later : LogLine) : Type 0 where
  pub number : ℕ
  pub number_is : number_in t.pdu.body ≡ Some number
  pub outlived : IsOutlived 8 j t.pdu.vector.address number first between later

-- accepted again by a station of the default that didn't restart
abbrev pub AcceptedAgainByDefault : List Config → WorldModel → Type 0
AcceptedAgainByDefault configs w =
    (kind : AreaKind) (later between older : List LogLine) (first second : LogLine)
    (j k m place : ℕ) (t u : Transmission)
    (receiver : Config)
    → w.log ≡ later ++ second ∷ (between ++ first ∷ older)
    → Accepts w first j k t → Accepts w second j m u → IsOfSend w kind place k
    → IsOfSend w kind place m
    → slice_get configs j ≡ Some receiver → receiver.remember ≡ default_remember
    → has_restarted j between ≡ false
    → WasOutlivedByEight j t first between second

-- ---- A send makes at most one frame more than it is accepted; a packet for an area that was never
-- forgotten makes at most as many frames as there are stations; and each of its frames has its
-- number, and the hops that its relays left.

-- the origin, if there is one, is at this place of the log
abbrev pub is_at : ℕ → Option Origin → Bool
is_at place None = false
is_at place (Some o) = place_of o == place

-- a line by which a frame of the send at this place was accepted
abbrev pub is_acceptance_of : Answer ℕ → What → ℕ → List Origin → Bool
is_acceptance_of (Accepted handed relayed) (Deliver k) place all = is_at place (slice_get all k)
is_acceptance_of entry what place all = false

-- how often frames of the send at this place were accepted
abbrev pub acceptances_of : ℕ → WorldModel → ℕ
acceptances_of place w =
    count_by (λ line. is_acceptance_of line.entry line.event.what place (origins w.log)) w.log

-- how many frames of it there are, the first one among them
abbrev pub frames_of : ℕ → WorldModel → ℕ
frames_of place w = count_by (λ o. place_of o == place) (origins w.log)

-- at most one more than were accepted
abbrev pub FramesAreFew : WorldModel → Type 0
FramesAreFew w = (place : ℕ) → frames_of place w ≤ 1 + acceptances_of place w

-- no station forgot it between two acceptances of it
abbrev pub IsNeverForgotten : AreaKind → ℕ → List Config → WorldModel → Type 0
IsNeverForgotten kind place configs w =
    (later between older : List LogLine) (first second : LogLine) (j k m : ℕ) (t u : Transmission)
    → w.log ≡ later ++ second ∷ (between ++ first ∷ older)
    → Accepts w first j k t → Accepts w second j m u → IsOfSend w kind place k
    → IsOfSend w kind place m
    → WasForgotten configs j t first between second → ⊥

-- then there are at most as many as stations
abbrev pub OneFrameAStation : List Config → WorldModel → Type 0
OneFrameAStation configs w =
    (kind : AreaKind) (place k : ℕ)
    → IsOfSend w kind place k → IsNeverForgotten kind place configs w
    → frames_of place w ≤ length w.stations

-- the frame of this origin carries what was asked for, with the sender's number then, and one hop
-- fewer for each relay
pub record HasNumberAndHops (kind : AreaKind) (t : Transmission) (o : Origin)
    (r : GbcRequest) : Type 0 where
  pub body : t.pdu.body
      ≡ area_body kind (sequence_number_at o.event.station o.before) r.area r.message
  pub greatest : t.pdu.max_hops ≡ r.max_hops
  pub hops : t.hops_left + o.depth ≡ r.max_hops
  pub depth : o.depth < r.max_hops

-- each frame of a packet for an area does
abbrev pub FramesHaveNumberAndHops : WorldModel → Type 0
FramesHaveNumberAndHops w =
    (kind : AreaKind) (k : ℕ) (t : Transmission) (o : Origin) (r : GbcRequest)
    → slice_get w.air k ≡ Some t → slice_get (origins w.log) k ≡ Some o
    → o.event.what ≡ Calls (area_call kind r)
    → HasNumberAndHops kind t o r

-- all three
pub record FloodingIsBounded (configs : List Config) (w : WorldModel) : Type 0 where
  pub few : FramesAreFew w
  pub one_a_station : OneFrameAStation configs w
  pub number_and_hops : FramesHaveNumberAndHops w

-- ---- A geoanycast that has come into its area goes no further.

-- accepted inside, it gives no frame, whether its port is open or not
abbrev pub NoneFromInside : List Config → WorldModel → Type 0
NoneFromInside configs w =
    (later before : List LogLine) (line : LogLine) (k : ℕ) (t : Transmission) (receiver : Config)
    (number : ℕ) (area : GeoArea) (sent : Message) (handed : Option Message) (relayed : Option ℕ)
    → w.log ≡ later ++ line ∷ before
    → line.event.what ≡ Deliver k → slice_get w.air k ≡ Some t → t.pdu.body ≡ gac number area sent
    → line.entry ≡ Accepted handed relayed
    → slice_get configs line.event.station ≡ Some receiver
    → area_holds area (position_at receiver.place line.event.station before) ≡ true → relayed ≡ None

-- delivered, it gives no frame
abbrev pub NoneOnceHandedOut : WorldModel → Type 0
NoneOnceHandedOut w =
    (later before : List LogLine) (line : LogLine) (k : ℕ) (t : Transmission)
    (number : ℕ) (area : GeoArea) (sent message : Message) (relayed : Option ℕ)
    → w.log ≡ later ++ line ∷ before
    → line.event.what ≡ Deliver k → slice_get w.air k ≡ Some t → t.pdu.body ≡ gac number area sent
    → line.entry ≡ Accepted (Some message) relayed → relayed ≡ None

-- both
pub record AnycastStopsInside (configs : List Config) (w : WorldModel) : Type 0 where
  pub inside : NoneFromInside configs w
  pub handed : NoneOnceHandedOut w

-- ---- Whoever relays a packet, its source address is that of the station that sent it first.

-- the frame's source address is the configured one of the station of this origin
pub record HasSource (configs : List Config) (t : Transmission) (o : Origin) : Type 0 where
  pub sender : Config
  pub is_sender : slice_get configs o.event.station ≡ Some sender
  pub source : t.pdu.vector.address ≡ sender.address

-- each frame's is
abbrev pub FramesNameTheirSource : List Config → WorldModel → Type 0
FramesNameTheirSource configs w =
    (k : ℕ) (t : Transmission) (o : Origin)
    → slice_get w.air k ≡ Some t → slice_get (origins w.log) k ≡ Some o → HasSource configs t o
