-- The theorems of every schedule, from what is sound.
use Rattle.std.proofs.Common.{◌≡◌, ℕ, List, [], ◌∷◌, ◌++◌, Option, Some, None, refl, sym, ap, subst}
use Rattle.std.proofs.Common.{◌∙◌, arith}
use Rattle.std.specs.Prelude.{slice_get}
use Rattle.its_gnvalue.specs.Values.{Position}
use Rattle.its_geometry.specs.Area.{GeoArea, area_holds}
use Rattle.its_model.specs.Packet.{AreaKind, Body, Message, Pdu, Transmission, area_body, number_in}
use Rattle.its_model.specs.Packet.AreaKind.{geoanycast, geobroadcast}
use Rattle.its_model.specs.Packet.Body.{gac}
use Rattle.its_model.specs.Calls.{Answer, GbcRequest, area_call}
use Rattle.its_model.specs.Calls.OwnCall.{Close, Move, Open, Restart, SendGac, SendGbc, SendShb}
use Rattle.its_model.specs.Calls.OwnCall.{Tick}
use Rattle.its_model.specs.Calls.Answer.{Accepted, Closed, Ignored, Moved, Opened, Quiet, Refused}
use Rattle.its_model.specs.Calls.Answer.{Restarted, Sent}
use Rattle.its_model.specs.World.{Config, Event, LogLine, What, WorldModel, frame_of}
use Rattle.its_model.specs.World.What.{Calls, Deliver}
use Rattle.its_model.specs.Log.{Origin, origins, position_at, sequence_number_at}
use Rattle.its_model.specs.Schedules.{AnycastStopsInside, FramesHaveNumberAndHops}
use Rattle.its_model.specs.Schedules.{FramesNameTheirSource, HandedAsSent, HasNumberAndHops}
use Rattle.its_model.specs.Schedules.{HasSource, IsRelayed}
use Rattle.its_model.specs.Schedules.{NoneFromInside, NoneOnceHandedOut, RelaysAreFaithful}
use Rattle.its_model.specs.Schedules.{WasSentForHere}
use Rattle.its_model.proofs.Origins.{origin_in_log}
use Rattle.its_model.proofs.Sound.{IsAreaPacket, IsPacketOf, IsSentBy, InsideFact, HandingFact}
use Rattle.its_model.proofs.Sound.{StopFact, AcceptedFact, LineFact, EachLine, Sound}

-- what holds of each line holds of this one
pub at_line : (later : List LogLine) (configs : List Config) (air : List Transmission)
    (line : LogLine) (before : List LogLine)
    → EachLine configs air (later ++ line ∷ before)
    → LineFact line.entry configs air line.event line.delivered before
at_line [] configs air line before h = h.0
at_line (x ∷ later) configs air line before h = at_line later configs air line before h.1

-- the fact of a line of a sound world
pub fact_at : (configs : List Config) (w : WorldModel) (later before : List LogLine)
    (line : LogLine)
    → Sound configs w → w.log ≡ later ++ line ∷ before
    → LineFact line.entry configs w.air line.event line.delivered before
fact_at configs w later before line h e =
    at_line later configs w.air line before (subst (EachLine configs w.air) e h.lines)

-- the fact of a line whose frame was accepted
pub accepted_at : (configs : List Config) (w : WorldModel) (later before : List LogLine)
    (line : LogLine) (handed : Option Message) (given : Option ℕ)
    → Sound configs w → w.log ≡ later ++ line ∷ before → line.entry ≡ Accepted handed given
    → AcceptedFact configs w.air line.event before line.delivered handed given
accepted_at configs w later before line handed given h e is =
    subst (λ (x : Answer ℕ). LineFact x configs w.air line.event line.delivered before) is
    (fact_at configs w later before line h e)

-- the call that sent a packet with a number
pub record AreaSender (what : What) (station : ℕ) (before : List LogLine) (p : Pdu) : Type 0 where
  pub kind : AreaKind
  pub request : GbcRequest
  pub call : what ≡ Calls (area_call kind request)
  pub packet : IsAreaPacket kind request station before p

-- a packet with a number was sent by a call for its kind
pub area_sender : (what : What) (station : ℕ) (before : List LogLine) (p : Pdu) (n : ℕ)
    → number_in p.body ≡ Some n → IsPacketOf what station before p
    → AreaSender what station before p
area_sender (Calls (SendGbc r)) station before p n h is =
    record { kind = geobroadcast; request = r; call = refl; packet = is }
area_sender (Calls (SendGac r)) station before p n h is =
    record { kind = geoanycast; request = r; call = refl; packet = is }
area_sender (Calls (Move a b c d)) station before p n h is = cc
area_sender (Calls (Open a)) station before p n h is = cc
area_sender (Calls (Close a)) station before p n h is = cc
area_sender (Calls (Restart a)) station before p n h is = cc
area_sender (Calls (Tick a)) station before p n h is = cc
area_sender (Calls (SendShb a)) station before p n h is = cc
area_sender (Deliver k) station before p n h is = absurd is

-- a packet of a kind has its number
pub area_number : (kind : AreaKind) (n : ℕ) (area : GeoArea) (m : Message)
    → number_in (area_body kind n area m) ≡ Some n
area_number geobroadcast n area m = refl
area_number geoanycast n area m = refl

-- the call for a packet of the kind sends one
pub area_packet_of : (kind : AreaKind) (r : GbcRequest) (station : ℕ) (before : List LogLine)
    (p : Pdu) → IsPacketOf (Calls (area_call kind r)) station before p
    → IsAreaPacket kind r station before p
area_packet_of geobroadcast r station before p h = h
area_packet_of geoanycast r station before p h = h

-- bodies that are the same are of one kind
pub same_kind : (k k' : AreaKind) (n n' : ℕ) (a a' : GeoArea) (m m' : Message)
    → area_body k n a m ≡ area_body k' n' a' m' → k ≡ k'
same_kind geobroadcast geobroadcast n n' a a' m m' e = refl
same_kind geobroadcast geoanycast n n' a a' m m' e = cc
same_kind geoanycast geobroadcast n n' a a' m m' e = cc
same_kind geoanycast geoanycast n n' a a' m m' e = refl

-- and have one area and one message
same_content : (k : AreaKind) (n n' : ℕ) (a a' : GeoArea) (m m' : Message)
    → area_body k n a m ≡ area_body k n' a' m' → (a ≡ a') × (m ≡ m')
same_content geobroadcast n n' a a' m m' e = (cc, cc)
same_content geoanycast n n' a a' m m' e = (cc, cc)

-- what is handed out of a packet of either kind
area_handing : (kind : AreaKind) (handed : Option Message) (n : ℕ) (area : GeoArea) (m : Message)
    (place : Position) → HandingFact handed (area_body kind n area m) place
    → InsideFact handed area m place
area_handing geobroadcast handed n area m place h = h
area_handing geoanycast handed n area m place h = h

-- what is to be said of a handing, by the fact of its line
was_sent : (kind : AreaKind) (configs : List Config) (air : List Transmission)
    (before : List LogLine) (event : Event) (delivered : Option Transmission) (given : Option ℕ)
    (k : ℕ) (number : ℕ) (area : GeoArea) (sent message : Message)
    → (f : AcceptedFact configs air event before delivered (Some message) given)
    → (r : GbcRequest) → f.origin.event.what ≡ Calls (area_call kind r)
    → f.packet.pdu.body
    ≡ area_body kind
    (sequence_number_at f.origin.event.station f.origin.before) r.area r.message
    → f.frame ≡ k → f.packet.pdu.body ≡ area_body kind number area sent
    → WasSentForHere kind configs before event.station k message
was_sent kind configs air before event delivered given k number area sent message f r call body k_is
    body_is =
    let place = position_at f.config.place event.station before in
    let handing =
    area_handing kind (Some message) number area sent place
    (subst (λ (b : Body). HandingFact (Some message) b place) body_is f.handing) in
    let content =
    same_content kind number
    (sequence_number_at f.origin.event.station f.origin.before) area r.area sent r.message
    (sym body_is ∙ body) in
    record {
      origin = f.origin;
      request = r;
      config = f.config;
      origin_of = subst (λ (i : ℕ). slice_get (origins before) i ≡ Some f.origin) k_is f.came_from;
      earlier = origin_in_log before f.frame f.origin f.came_from;
      sent = call;
      same = sym content.1 ∙ handing.0;
      receiver = f.receiver;
      inside = ap (λ x. area_holds x place) (sym content.0) ∙ handing.1;
    }

-- a number names one frame
packet_is : (air : List Transmission) (what : What) (i k : ℕ) (t u : Transmission)
    → what ≡ Deliver i → what ≡ Deliver k → slice_get air i ≡ Some t → slice_get air k ≡ Some u
    → (i ≡ k) × (t ≡ u)
packet_is air what i k t u a b c d =
    let e : i ≡ k = cc in
    (e, cc)

-- each handing of a packet for an area
pub handed_as_sent : (configs : List Config) (w : WorldModel) → Sound configs w
    → HandedAsSent configs w
handed_as_sent configs w h kind later before line k t number area sent message given e what atk body
    entry =
    let f = accepted_at configs w later before line (Some message) given h e entry in
    let is = packet_is w.air line.event.what f.frame k f.packet t f.what what f.in_air atk in
    let f_body : f.packet.pdu.body ≡ area_body kind number area sent =
    ap (λ x. x.pdu.body) is.1 ∙ body in
    let station = f.origin.event.station in
    let before_it = f.origin.before in
    let g = area_sender f.origin.event.what station before_it f.packet.pdu number
    (ap number_in f_body ∙ area_number kind number area sent) f.sent_by.packet in
    let kind_is : g.kind ≡ kind =
    same_kind g.kind kind
    (sequence_number_at station before_it) number g.request.area area g.request.message sent
    (sym g.packet.0 ∙ f_body) in
    was_sent kind configs w.air before line.event line.delivered given k number area sent message f
    g.request
    (g.call ∙ ap (λ x. Calls (area_call x g.request)) kind_is)
    (g.packet.0
    ∙ ap (λ x. area_body x
    (sequence_number_at station before_it) g.request.area g.request.message) kind_is) is.0
    f_body

-- only an acceptance gives a frame for a delivery
relay_at : (entry : Answer ℕ) (configs : List Config) (w : WorldModel) (e : Event)
    (delivered : Option Transmission) (before : List LogLine) (k m : ℕ)
    → LineFact entry configs w.air e delivered before → e.what ≡ Deliver k → frame_of entry ≡ Some m
    → IsRelayed configs w e.station k m
relay_at Moved configs w e delivered before k m f what given = cc
relay_at Opened configs w e delivered before k m f what given = cc
relay_at Closed configs w e delivered before k m f what given = cc
relay_at Restarted configs w e delivered before k m f what given = cc
relay_at Quiet configs w e delivered before k m f what given = cc
relay_at (Sent n) configs w e delivered before k m f what given = cc (f.1, what)
relay_at (Ignored why) configs w e delivered before k m f what given = cc
relay_at (Refused r) configs w e delivered before k m f what given = cc
relay_at (Accepted handed None) configs w e delivered before k m f what given = cc
relay_at (Accepted handed (Some n)) configs w e delivered before k m f what given =
    let r = f.relayed in
    let k_is : f.frame ≡ k = cc (f.what, what) in
    let m_is : n ≡ m = cc in
    record {
      packet = f.packet;
      config = f.config;
      target = r.1;
      delivered = ap (slice_get w.air) (sym k_is) ∙ f.in_air;
      hops = r.0;
      relayer = f.receiver;
      given = ap (slice_get w.air) (sym m_is) ∙ r.2;
    }

-- each frame that is given for a delivery
pub relays_are_faithful : (configs : List Config) (w : WorldModel) → Sound configs w
    → RelaysAreFaithful configs w
relays_are_faithful configs w h later before line k m e what given =
    relay_at line.entry configs w line.event line.delivered before k m
    (fact_at configs w later before line h e) what given

-- the number and the hops of each frame of a packet for an area
number_and_hops : (kind : AreaKind) (configs : List Config) (log : List LogLine) (t : Transmission)
    (o : Origin) (r : GbcRequest) → o.event.what ≡ Calls (area_call kind r)
    → IsSentBy configs log t o → HasNumberAndHops kind t o r
number_and_hops kind configs log t o r call h =
    let p = area_packet_of kind r o.event.station o.before t.pdu
    (subst (λ (x : What). IsPacketOf x o.event.station o.before t.pdu) call h.packet) in
    record {
      body = p.0;
      greatest = p.1;
      hops = h.hops ∙ p.1;
      depth = omega (arith, h.hops, p.1, h.left);
    }

-- each frame of a packet for an area
pub frames_have_number_and_hops : (configs : List Config) (w : WorldModel) → Sound configs w
    → FramesHaveNumberAndHops w
frames_have_number_and_hops configs w h kind k t o r atk ofk call =
    let f = h.frames.each k t atk in
    let e : f.origin ≡ o = cc (f.is, ofk) in
    number_and_hops kind configs w.log t o r call
    (subst (λ (x : Origin). IsSentBy configs w.log t x) e f.sent_by)

-- each frame's source is the station that sent it first
pub frames_name_their_source : (configs : List Config) (w : WorldModel) → Sound configs w
    → FramesNameTheirSource configs w
frames_name_their_source configs w h k t o atk ofk =
    let f = h.frames.each k t atk in
    let e : f.origin ≡ o = cc (f.is, ofk) in
    subst (λ (x : Origin). HasSource configs t x) e (record {
      sender = f.sent_by.config;
      is_sender = f.sent_by.sender;
      source = f.sent_by.source;
    })

-- a geoanycast that was accepted inside gives no frame
none_from_inside : (configs : List Config) (w : WorldModel) → Sound configs w
    → NoneFromInside configs w
none_from_inside configs w h later before line k t receiver number area sent handed given e what atk
    body entry is_receiver inside =
    let f = accepted_at configs w later before line handed given h e entry in
    let is = packet_is w.air line.event.what f.frame k f.packet t f.what what f.in_air atk in
    let f_body : f.packet.pdu.body ≡ gac number area sent = ap (λ x. x.pdu.body) is.1 ∙ body in
    let config_is : f.config ≡ receiver = cc (f.receiver, is_receiver) in
    let place = position_at f.config.place line.event.station before in
    let stops = subst (λ (b : Body). StopFact given b place) f_body f.stops in
    stops (ap (λ c. area_holds area (position_at c.place line.event.station before)) config_is
    ∙ inside)

-- and one that was handed out was accepted inside
none_once_handed_out : (configs : List Config) (w : WorldModel) → Sound configs w
    → NoneOnceHandedOut w
none_once_handed_out configs w h later before line k t number area sent message given e what atk
    body entry =
    let f = accepted_at configs w later before line (Some message) given h e entry in
    let is = packet_is w.air line.event.what f.frame k f.packet t f.what what f.in_air atk in
    let f_body : f.packet.pdu.body ≡ gac number area sent = ap (λ x. x.pdu.body) is.1 ∙ body in
    let place = position_at f.config.place line.event.station before in
    let handing : InsideFact (Some message) area sent place =
    subst (λ (b : Body). HandingFact (Some message) b place) f_body f.handing in
    subst (λ (b : Body). StopFact given b place) f_body f.stops handing.1

-- a geoanycast stops inside
pub anycast_stops_inside : (configs : List Config) (w : WorldModel) → Sound configs w
    → AnycastStopsInside configs w
anycast_stops_inside configs w h =
    record { inside = none_from_inside configs w h; handed = none_once_handed_out configs w h }
