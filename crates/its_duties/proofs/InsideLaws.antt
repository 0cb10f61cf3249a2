-- A fail inside of an area is a proof: of a geoanycast that was forwarded there, and of a packet
-- that doesn't go to all.
use Rattle.std.proofs.Common.{◌≡◌, ◌≢◌, ℕ, Bool, true, false, cond, List, Option, Some, None}
use Rattle.std.proofs.Common.{eqb, refl, sym, ap, ◌∙◌, true≢false}
use Rattle.std.specs.Prelude.{nat_le}
use Rattle.std.proofs.lemmas.Bool.{cond-true, eqb-false}
use Rattle.its_gnvalue.specs.Values.{Position, broadcast}
use Rattle.its_geometry.specs.Area.{GeoArea, area_holds}
use Rattle.its_headers.specs.Fields.{kind_of_body, area_in}
use Rattle.its_model.specs.Packet.{Body, Message, Transmission}
use Rattle.its_model.specs.Packet.Body.{beacon, shb, gbc, gac}
use Rattle.its_model.specs.History.{Known}
use Rattle.its_model.specs.Stations.{stations_at}
use Rattle.its_model.specs.Decision.{Decision, decision}
use Rattle.its_model.specs.Decision.Decision.{Broadcast, To, Drop}
use Rattle.its_model.specs.Calls.{OwnCall, Call}
use Rattle.its_model.specs.Calls.OwnCall.{Move, Open, Close, Tick, SendShb, SendGbc, SendGac}
use Rattle.its_model.specs.Calls.OwnCall.{Restart}
use Rattle.its_model.specs.Station.{StationModel, target_of, after_hearing}
use Rattle.its_model.specs.Station.{sent_on, decided, passed_on, relayed, receive_step_by}
use Rattle.its_model.specs.Station.{receive_step, verdict, station_step}
use Rattle.its_model.specs.Station.{Verdict as Heard}
use Rattle.its_model.specs.Station.Verdict.{Accept, Ignore, Refuse}
use Rattle.its_model.specs.World.{frame_of}
use Rattle.its_model.specs.Isolation.{TimedCall}
use Rattle.its_duties.specs.declared.claims.Claims.{Claims}
use Rattle.its_duties.specs.declared.claims.AreaForwarding.TheVariants as areas
use Rattle.its_duties.specs.declared.places.AreaPosition.{AreaPosition}
use Rattle.its_duties.specs.declared.places.AreaPosition.TheVariants.{Inside, Outside, Unsure}
use Rattle.its_duties.specs.declared.verdict.Verdict.{Verdict}
use Rattle.its_duties.specs.declared.verdict.Verdict.TheVariants.{Pass, Fail, Inconclusive}
use Rattle.its_duties.specs.declared.verdict.Breach.TheVariants as breaches
use Rattle.its_duties.specs.declared.verdict.Doubt.TheVariants as doubts
use Rattle.its_duties.specs.Seen.{Seen, AreRead}
use Rattle.its_duties.specs.Verdicts.{is_fail}
use Rattle.its_duties.specs.Places.{is_surely_inside, is_surely_outside, area_position, position_in}
use Rattle.its_duties.specs.Duties.{IsOwnRecord, IsRelayRecord, NoScenario}
use Rattle.its_duties.specs.Forwarding.{FailsStopsInside, GoesAstray, FailsAreaTarget, FailsNextHop}
use Rattle.its_duties.specs.Relays.{is_simple}
use Rattle.its_duties.specs.Inside.{anycast_area, stops_inside_by, stops_inside_of}
use Rattle.its_duties.specs.Inside.{stops_inside_verdict, target_by, target_in}
use Rattle.its_duties.specs.Inside.{area_target_of, area_target_verdict, next_hop_of}
use Rattle.its_duties.specs.Inside.{next_hop_verdict}
use Rattle.its_duties.proofs.Frames.{IsOwnFrame, some_is}
use Rattle.its_duties.proofs.Causes.{RelayCause, own_cause, relay_cause}
use Rattle.its_duties.proofs.RelayLaws.{simple_is}
use Rattle.its_duties.proofs.SurelyInside.{surely_inside}

-- ---- inside of an area a station sends to all

decision_inside : (stations : List Known) (own : Position) (area : GeoArea) (sender : Option ℕ)
    → area_holds area own ≡ true → decision stations own area sender ≡ Broadcast
unfolding decision
decision_inside stations own area sender inside = cond-true (area_holds area own) _ _ inside

-- the area of a frame, by that of its body
holds_same : (a area : GeoArea) (place : Position) → Some a ≡ Some area
    → area_holds area place ≡ true → area_holds a place ≡ true
holds_same a area place is inside =
    ap (λ (x : GeoArea). area_holds x place) (some_is a area is) ∙ inside

decided_inside : (s : StationModel) (moment : ℕ) (a area : GeoArea) (sender : Option ℕ)
    → Some a ≡ Some area → area_holds area s.vector.place ≡ true
    → decided s moment a sender ≡ Broadcast
decided_inside s moment a area sender is inside =
    decision_inside (stations_at s.remember moment s.history) s.vector.place a sender
    (holds_same a area s.vector.place is inside)

-- its own
own_inside : (call : OwnCall) (s : StationModel) (moment : ℕ) (u : Transmission) (area : GeoArea)
    → IsOwnFrame call s moment u → area_in u.pdu.body ≡ Some area
    → area_holds area s.vector.place ≡ true → u.link_target ≡ broadcast
own_inside (Move place accurate speed heading) s moment u area h is inside = absurd h
own_inside (Open port) s moment u area h is inside = absurd h
own_inside (Close port) s moment u area h is inside = absurd h
own_inside (Tick jitter) s moment u area h is inside =
    ap (λ (x : Transmission). x.link_target) h.0
own_inside (SendShb r) s moment u area h is inside = ap (λ (x : Transmission). x.link_target) h
own_inside (SendGbc r) s moment u area h is inside =
    ap (λ (x : Transmission). x.link_target) h.0
    ∙ ap target_of (decided_inside s moment r.area area None
    (ap (λ (x : Transmission). area_in x.pdu.body) (sym h.0) ∙ is) inside)
own_inside (SendGac r) s moment u area h is inside =
    ap (λ (x : Transmission). x.link_target) h.0
    ∙ ap target_of (decided_inside s moment r.area area None
    (ap (λ (x : Transmission). area_in x.pdu.body) (sym h.0) ∙ is) inside)
own_inside (Restart number) s moment u area h is inside = absurd h

-- what it forwards
sent_to_all : (d : Decision) (s : StationModel) (v u : Transmission) → d ≡ Broadcast
    → sent_on s v d ≡ Some u → u.link_target ≡ broadcast
sent_to_all Broadcast s v u is e =
    ap (λ (x : Transmission). x.link_target) (sym (some_is _ u e))
sent_to_all (To mac) s v u is e = cc
sent_to_all Drop s v u is e = cc

passed_to_all : (b : Bool) (d : Decision) (s : StationModel) (v u : Transmission) → d ≡ Broadcast
    → cond b (sent_on s v d) None ≡ Some u → u.link_target ≡ broadcast
passed_to_all true d s v u is e = sent_to_all d s v u is e
passed_to_all false d s v u is e = cc

passed_inside : (s : StationModel) (moment : ℕ) (v u : Transmission) (a area : GeoArea)
    → Some a ≡ Some area → area_holds area s.vector.place ≡ true
    → passed_on s moment v a ≡ Some u → u.link_target ≡ broadcast
passed_inside s moment v u a area is inside e =
    passed_to_all (nat_le 2 v.hops_left) (decided s moment a (Some v.link_source)) s v u
    (decided_inside s moment a area (Some v.link_source) is inside) e

stopped : {X : Type 0} (b : Bool) (o : Option X) (x : X) → b ≡ true → cond b None o ≡ Some x → ⊥
stopped true o x is e = cc
stopped false o x is e = true≢false (sym is)

relayed_inside : (body : Body) (s : StationModel) (moment : ℕ) (v u : Transmission)
    (area : GeoArea) → area_in body ≡ Some area → area_holds area s.vector.place ≡ true
    → relayed s moment v body ≡ Some u → u.link_target ≡ broadcast
relayed_inside beacon s moment v u area is inside e = cc
relayed_inside (shb media message) s moment v u area is inside e = cc
relayed_inside (gbc number a message) s moment v u area is inside e =
    passed_inside s moment v u a area is inside e
relayed_inside (gac number a message) s moment v u area is inside e =
    absurd (stopped (area_holds a s.vector.place) (passed_on s moment v a) u
    (holds_same a area s.vector.place is inside) e)

-- a geoanycast stops there
pub anycast_stops : (body : Body) (s : StationModel) (moment : ℕ) (v u : Transmission) (number : ℕ)
    (area : GeoArea) (message : Message)
    → body ≡ gac number area message → area_holds area s.vector.place ≡ true
    → relayed s moment v body ≡ Some u → ⊥
anycast_stops body s moment v u number area message is inside e =
    stopped (area_holds area s.vector.place) (passed_on s moment v area) u inside
    (ap (relayed s moment v) (sym is) ∙ e)

-- ---- what a forwarded frame was made from

accepted_frame : (v : Heard) (s : StationModel) (moment : ℕ) (t u : Transmission)
    → frame_of (receive_step_by s moment t v).answer ≡ Some u
    → relayed (after_hearing s moment t) moment t t.pdu.body ≡ Some u
accepted_frame (Refuse r) s moment t u e = cc
accepted_frame (Ignore why) s moment t u e = cc
accepted_frame Accept s moment t u e = e

pub received_frame : (s : StationModel) (moment : ℕ) (t u : Transmission)
    → frame_of (receive_step s moment t).answer ≡ Some u
    → relayed (after_hearing s moment t) moment t t.pdu.body ≡ Some u
unfolding receive_step
received_frame s moment t u e = accepted_frame (verdict s moment t) s moment t u e

relayed_by : (k : Claims) (r : Seen) (t : Transmission) (c : TimedCall) (u : Transmission)
    (h : RelayCause k r t c u)
    → relayed (after_hearing h.station c.moment h.packet) c.moment h.packet h.packet.pdu.body
    ≡ Some u
relayed_by k r t c u h =
    received_frame h.station c.moment h.packet u
    (ap (λ (x : Call). frame_of (station_step h.station c.moment x).answer) (sym h.is_call)
    ∙ h.gives)

body_of : (k : Claims) (r : Seen) (t : Transmission) (c : TimedCall) (u : Transmission)
    (h : RelayCause k r t c u) → t.pdu.body ≡ h.packet.pdu.body
body_of k r t c u h =
    ap (λ (x : Transmission). x.pdu.body) h.read.is
    ∙ ap (λ (x : Transmission). x.pdu.body) h.frame.is

-- ---- a geoanycast

anycast_inside : (k : Claims) (tap : List Seen) (j : ℕ) (r : Seen) (t : Transmission) (number : ℕ)
    (area : GeoArea) (message : Message)
    → AreRead tap → IsRelayRecord k tap j r t → t.pdu.body ≡ gac number area message
    → is_surely_inside k area ≡ true → NoScenario k tap
anycast_inside k tap j r t number area message all is anycast inside w x =
    let c = relay_cause k tap j r t all is w x in
    let h = c.1 in
    anycast_stops h.packet.pdu.body (after_hearing h.station c.0.call.moment h.packet)
    c.0.call.moment h.packet c.0.frame number area message
    (sym (body_of k r t c.0.call c.0.frame h) ∙ anycast)
    (surely_inside k area h.station.vector.place h.kept.place inside)
    (relayed_by k r t c.0.call c.0.frame h)

pub stops_inside_proof : (k : Claims) (tap : List Seen) (j : ℕ) → AreRead tap
    → FailsStopsInside k tap j → NoScenario k tap
stops_inside_proof k tap j all f =
    anycast_inside k tap j f.seen f.frame f.number f.area f.message all f.is f.anycast f.inside

-- ---- the link target

own_astray : (k : Claims) (tap : List Seen) (j : ℕ) (r : Seen) (t : Transmission) → AreRead tap
    → IsOwnRecord k tap j r t → GoesAstray k r t → NoScenario k tap
own_astray k tap j r t all is f w x =
    let c = own_cause k tap j r t all is w x in
    let h = c.1 in
    f.astray
    (ap (λ (y : Transmission). y.link_target) h.read.is
    ∙ h.read.same_target f.known
    ∙ own_inside h.call h.station c.0.call.moment c.0.frame f.area h.frame
    (ap (λ (y : Transmission). area_in y.pdu.body) (sym h.read.is) ∙ f.area_is)
    (surely_inside k f.area h.station.vector.place h.kept.place f.inside))

relay_astray : (k : Claims) (tap : List Seen) (j : ℕ) (r : Seen) (t : Transmission) → AreRead tap
    → IsRelayRecord k tap j r t → GoesAstray k r t → NoScenario k tap
relay_astray k tap j r t all is f w x =
    let c = relay_cause k tap j r t all is w x in
    let h = c.1 in
    f.astray
    (ap (λ (y : Transmission). y.link_target) h.read.is
    ∙ h.read.same_target f.known
    ∙ relayed_inside h.packet.pdu.body (after_hearing h.station c.0.call.moment h.packet)
    c.0.call.moment h.packet c.0.frame f.area
    (ap area_in (sym (body_of k r t c.0.call c.0.frame h)) ∙ f.area_is)
    (surely_inside k f.area h.station.vector.place h.kept.place f.inside)
    (relayed_by k r t c.0.call c.0.frame h))

pub area_target_proof : (k : Claims) (tap : List Seen) (j : ℕ) → AreRead tap
    → FailsAreaTarget k tap j → NoScenario k tap
area_target_proof k tap j all f = own_astray k tap j f.seen f.frame all f.is f.astray

pub next_hop_proof : (k : Claims) (tap : List Seen) (j : ℕ) → AreRead tap
    → FailsNextHop k tap j → NoScenario k tap
next_hop_proof k tap j all f = relay_astray k tap j f.seen f.frame all f.is f.astray

-- ---- by the verdicts

position_inside : (inside outside : Bool) → area_position inside outside ≡ Inside → inside ≡ true
position_inside true outside e = refl
position_inside false true e = cc
position_inside false false e = cc

pub inside_by : (k : Claims) (area : GeoArea) → position_in k area ≡ Inside
    → is_surely_inside k area ≡ true
inside_by k area e = position_inside (is_surely_inside k area) (is_surely_outside k area) e

-- a fail isn't late
not_late : (late : Bool) (v : Verdict)
    → is_fail (cond late (Inconclusive doubts.DecidedLate) v) ≡ true → is_fail v ≡ true
not_late true v e = absurd (true≢false (sym e))
not_late false v e = e

stops_by : (p : AreaPosition) → is_fail (stops_inside_by p) ≡ true → p ≡ Inside
stops_by Inside e = refl
stops_by Outside e = absurd (true≢false (sym e))
stops_by Unsure e = absurd (true≢false (sym e))

-- the body of a geoanycast
pub record IsAnycast (body : Body) (area : GeoArea) : Type 0 where
  pub number : ℕ
  pub message : Message
  pub is : body ≡ gac number area message

anycast_is : (body : Body) (area : GeoArea)
    → anycast_area (kind_of_body body) (area_in body) ≡ Some area → IsAnycast body area
anycast_is beacon area e = cc
anycast_is (shb media message) area e = cc
anycast_is (gbc number a message) area e = cc
anycast_is (gac number a message) area e = record {
  number = number;
  message = message;
  is = ap (λ (x : GeoArea). gac number x message) (some_is a area e);
}

anycast_at : (o : Option GeoArea) (k : Claims) (tap : List Seen) (j : ℕ) (r : Seen)
    (t : Transmission) (in_time v : Verdict)
    → anycast_area (kind_of_body t.pdu.body) (area_in t.pdu.body) ≡ o → AreRead tap
    → IsRelayRecord k tap j r t → stops_inside_of k in_time o ≡ Some v → is_fail v ≡ true
    → NoScenario k tap
anycast_at None k tap j r t in_time v anycast all is e fails = cc
anycast_at (Some area) k tap j r t in_time v anycast all is e fails =
    let body = anycast_is t.pdu.body area anycast in
    anycast_inside k tap j r t body.number area body.message all is body.is
    (inside_by k area (stops_by (position_in k area)
    (not_late (is_fail in_time) (stops_inside_by (position_in k area))
    (ap is_fail (some_is _ v e) ∙ fails))))

pub anycast_proof : (k : Claims) (tap : List Seen) (j : ℕ) (r : Seen) (t : Transmission)
    (in_time v : Verdict)
    → AreRead tap → IsRelayRecord k tap j r t → stops_inside_verdict k in_time t ≡ Some v
    → is_fail v ≡ true → NoScenario k tap
anycast_proof k tap j r t in_time v all is e fails =
    anycast_at (anycast_area (kind_of_body t.pdu.body) (area_in t.pdu.body)) k tap j r t in_time v
    refl all is e fails

-- what a fail of a link target says
record GoesElsewhere (k : Claims) (known : Bool) (target : ℕ) (area : GeoArea) : Type 0 where
  pub simple : k.area ≡ areas.Simple
  pub is_known : known ≡ true
  pub inside : is_surely_inside k area ≡ true
  pub elsewhere : target ≢ broadcast

elsewhere_by : (to_all simple : Bool) (target : ℕ) → eqb target broadcast ≡ to_all
    → is_fail (cond to_all Pass (cond simple (Fail (breaches.InsideTo target))
    (Inconclusive doubts.InsideToOne))) ≡ true
    → (target ≢ broadcast) × (simple ≡ true)
elsewhere_by true simple target is e = absurd (true≢false (sym e))
elsewhere_by false true target is e = (eqb-false target broadcast is, refl)
elsewhere_by false false target is e = absurd (true≢false (sym e))

target_at : (p : AreaPosition) (k : Claims) (target : ℕ) → is_fail (target_by k target p) ≡ true
    → (p ≡ Inside) × (target ≢ broadcast) × (is_simple k.area ≡ true)
target_at Inside k target e =
    let f = elsewhere_by (eqb target broadcast) (is_simple k.area) target refl e in (refl, f.0, f.1)
target_at Outside k target e = absurd (true≢false (sym e))
target_at Unsure k target e = absurd (true≢false (sym e))

known_by : (known : Bool) (k : Claims) (target : ℕ) (area : GeoArea)
    → is_fail (target_in k known target area) ≡ true → GoesElsewhere k known target area
known_by false k target area e = absurd (true≢false (sym e))
known_by true k target area e =
    let f = target_at (position_in k area) k target e in
    record {
      simple = simple_is k.area f.2;
      is_known = refl;
      inside = inside_by k area f.0;
      elsewhere = f.1;
    }

astray : (k : Claims) (r : Seen) (t : Transmission) (known : Bool) (area : GeoArea)
    → area_in t.pdu.body ≡ Some area → r.known_target ≡ known
    → GoesElsewhere k known t.link_target area → GoesAstray k r t
astray k r t known area is same f = record {
  area = area;
  area_is = is;
  simple = f.simple;
  known = same ∙ f.is_known;
  inside = f.inside;
  astray = f.elsewhere;
}

own_target_at : (o : Option GeoArea) (k : Claims) (tap : List Seen) (j : ℕ) (r : Seen)
    (t : Transmission) (known : Bool) (v : Verdict)
    → area_in t.pdu.body ≡ o → AreRead tap → IsOwnRecord k tap j r t → r.known_target ≡ known
    → area_target_of k known t.link_target o ≡ Some v → is_fail v ≡ true → NoScenario k tap
own_target_at None k tap j r t known v at all is same e fails = cc
own_target_at (Some area) k tap j r t known v at all is same e fails =
    own_astray k tap j r t all is
    (astray k r t known area at same
    (known_by known k t.link_target area (ap is_fail (some_is _ v e) ∙ fails)))

pub own_target_proof : (k : Claims) (tap : List Seen) (j : ℕ) (r : Seen) (t : Transmission)
    (known : Bool) (v : Verdict)
    → AreRead tap → IsOwnRecord k tap j r t → r.known_target ≡ known
    → area_target_verdict k known t ≡ Some v → is_fail v ≡ true → NoScenario k tap
own_target_proof k tap j r t known v all is same e fails =
    own_target_at (area_in t.pdu.body) k tap j r t known v refl all is same e fails

relay_target_at : (o : Option GeoArea) (k : Claims) (tap : List Seen) (j : ℕ) (r : Seen)
    (t : Transmission) (in_time : Verdict) (known : Bool) (v : Verdict)
    → area_in t.pdu.body ≡ o → AreRead tap → IsRelayRecord k tap j r t → r.known_target ≡ known
    → next_hop_of k in_time known t.link_target o ≡ Some v → is_fail v ≡ true → NoScenario k tap
relay_target_at None k tap j r t in_time known v at all is same e fails = cc
relay_target_at (Some area) k tap j r t in_time known v at all is same e fails =
    relay_astray k tap j r t all is
    (astray k r t known area at same
    (known_by known k t.link_target area
    (not_late (is_fail in_time) (target_in k known t.link_target area)
    (ap is_fail (some_is _ v e) ∙ fails))))

pub relay_target_proof : (k : Claims) (tap : List Seen) (j : ℕ) (r : Seen) (t : Transmission)
    (in_time : Verdict) (known : Bool) (v : Verdict)
    → AreRead tap → IsRelayRecord k tap j r t → r.known_target ≡ known
    → next_hop_verdict k in_time known t ≡ Some v → is_fail v ≡ true → NoScenario k tap
relay_target_proof k tap j r t in_time known v all is same e fails =
    relay_target_at (area_in t.pdu.body) k tap j r t in_time known v refl all is same e fails
