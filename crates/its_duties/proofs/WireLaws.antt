-- On a wire, a frame that isn't what the station gives for what it heard fails a duty.
use Rattle.std.proofs.Common.{◌≡◌, ◌≢◌, ◌⊎◌, ℕ, suc, zero, ◌+◌, ◌-◌, ◌*◌, ◌^◌, ◌≤◌, ◌<◌, Bool, true}
use Rattle.std.proofs.Common.{false, not, ◌&&◌, List, [], ◌∷◌, ◌++◌, Option, Some, None, eqb, refl}
use Rattle.std.proofs.Common.{sym, ap, subst, ◌∙◌, true≢false, arith, inl, inr, append-nil}
use Rattle.std.specs.Prelude.{nat_le, slice_get}
use Rattle.std.proofs.lemmas.Bool.{eqb-true}
use Rattle.its_gnvalue.specs.Values.{mid_of, broadcast}
use Rattle.its_geometry.specs.Area.{GeoArea}
use Rattle.its_headers.specs.Fields.{area_in}
use Rattle.its_linkframe.specs.Frames.{frame_octets}
use Rattle.its_linkframe.proofs.Fronts.{frame_bounds}
use Rattle.its_model.specs.Packet.{Pdu, Body, Message, Transmission, number_in, relay}
use Rattle.its_model.specs.Packet.Body.{beacon, shb, gbc, gac}
use Rattle.its_model.specs.History.{is_remembered}
use Rattle.its_model.specs.Calls.Call.{Receive}
use Rattle.its_model.specs.Station.{StationModel, station_step, receive_step, after_hearing}
use Rattle.its_model.specs.World.{frame_of}
use Rattle.its_model.proofs.Answered.{relay_owed}
use Rattle.its_model.proofs.NumberTests.{eq_test}
use Rattle.its_duties.specs.declared.claims.Claims.{Claims}
use Rattle.its_duties.specs.declared.duty.Duty.TheVariants as duties
use Rattle.its_duties.specs.Seen.{Seen, IsRead, AreRead, Carries, HasOctets, sendings, earliest, latest}
use Rattle.its_duties.specs.Seen.{first_sending, last_sending, link_source_of, is_number, is_sent}
use Rattle.its_duties.specs.Seen.{is_judged_on, is_geonetworking, is_of_other, comes_to_it, is_heard}
use Rattle.its_duties.specs.Seen.{is_for_it, link_target_of, is_relay, is_of}
use Rattle.its_duties.specs.Times.{wait, lag, slack, begin_of, end_of, lies_in, is_within}
use Rattle.its_duties.specs.Heard.{IsCopy, may_be_relay}
use Rattle.its_duties.specs.Duties.{IsModelled, IsRelayRecord}
use Rattle.its_duties.specs.Forwarding.{IsSource, MayCause, searched, by_retry, is_packet}
use Rattle.its_duties.specs.Forwarding.{others_in, counted_in, table_time}
use Rattle.its_duties.specs.Places.{is_surely_inside}
use Rattle.its_duties.specs.Owed.{IsOther, IsSentThen, FailsForward, processed_in}
use Rattle.its_duties.specs.Wire.{IsPair, IsPlain, IsWire, IsMet, IsNew, IsReady, IsRemembered}
use Rattle.its_duties.specs.Wire.{NoneFails}
use Rattle.its_duties.proofs.Frames.{some_is, relay_frame}
use Rattle.its_duties.proofs.Read.{is_read}
use Rattle.its_duties.proofs.Received.{source_there, Found, any_found}
use Rattle.its_duties.proofs.RelayLaws.{and_first, and_second}
use Rattle.its_duties.proofs.SurelyInside.{surely_inside}
use Rattle.its_duties.proofs.InsideLaws.{received_frame, anycast_stops}
use Rattle.its_duties.proofs.OwedLaws.{for_it, other_source, is_at_most}

-- ---- plain records

only_sending : (stamp : ℕ) (stamps : List ℕ) (n x : ℕ) → stamps ≡ []
    → slice_get (stamp ∷ stamps) n ≡ Some x → x ≡ stamp
only_sending stamp stamps zero x e at = cc
only_sending stamp stamps (suc n) x e at =
    absurd (none (sym (ap (λ (l : List ℕ). slice_get l n) e) ∙ at))
  where
    none : None ≡ Some x → ⊥
    none e = cc

last_only : (r : Seen) → r.repeats ≡ [] → last_sending r ≡ r.moment
last_only r e = ap (latest r.moment) e

first_only : (r : Seen) → r.repeats ≡ [] → first_sending r ≡ r.moment
first_only r e = ap (earliest r.moment) e

no_retry : (b : Bool) → b ≡ false → by_retry b ≡ 0
no_retry true e = absurd (true≢false e)
no_retry false e = refl

-- what is heard isn't forwarded
heard_not_sent : (k : Claims) (r : Seen) → is_heard k r ≡ true → is_relay k r ≡ true → ⊥
heard_not_sent k r heard relays =
    let comes = and_first (comes_to_it k r) (is_of_other k.address r.frame) heard in
    let foreign = and_first (not (is_number k.mac (link_source_of r)))
    (is_for_it k.mac (link_target_of r)) comes in
    let sent = and_first (is_sent k r) (is_of_other k.address r.frame) relays in
    let by_it = and_second (is_judged_on k.interface r.interface) (is_number k.mac (link_source_of r))
    (and_first (is_judged_on k.interface r.interface && is_number k.mac (link_source_of r))
    (is_geonetworking r) sent) in
    true≢false (sym foreign ∙ ap not by_it)

-- two records that were heard and are near are one
one_heard : (k : Claims) (tap : List Seen) (i m : ℕ) (r s : Seen) → IsWire k tap
    → slice_get tap i ≡ Some r → slice_get tap m ≡ Some s → is_heard k r ≡ true
    → is_heard k s ≡ true → r.moment ≤ s.moment + wait k + 4 * slack k
    → s.moment ≤ r.moment + wait k + 4 * slack k → i ≢ m → ⊥
one_heard k tap i m r s w at other heard hears low high differ =
    elim (w.apart i m r s at other differ) [
      | inl pair ↦ heard_not_sent k s hears pair.relay
      | inr rest ↦ elim rest [
        | inl pair ↦ heard_not_sent k r heard pair.relay
        | inr far ↦ elim far [
          | inl lt ↦ omega (arith, lt, high)
          | inr lt ↦ omega (arith, lt, low)
        ]
      ]
    ]

same_seen : (tap : List Seen) (i m : ℕ) (r s : Seen) → slice_get tap i ≡ Some r
    → slice_get tap m ≡ Some s → m ≡ i → s ≡ r
same_seen tap i m r s a b e = some_is s r (sym b ∙ ap (slice_get tap) e ∙ a)

-- ---- a frame was made from the one packet that is near

made_from_it : (k : Claims) (tap : List Seen) (i j : ℕ) (r s : Seen) (t g : Transmission) → IsWire k tap
    → slice_get tap i ≡ Some r → r.frame ≡ Some t → IsRelayRecord k tap j s g → IsPair k r s
    → NoneFails k tap j → (IsSource k tap i r t g → ⊥) → ⊥
made_from_it k tap i j r s t g w at frame is pair fails other =
    fails duties.Faithful (record {
      seen = s;
      frame = g;
      is = is;
      received = w.received;
      unbuffered = w.unbuffered;
      late = omega (arith, w.begins i r at pair.heard, pair.after, first);
      none = λ m q u source there. any m q u source there;
      all_read = λ m q there unread lies. w.read m q there unread;
    })
  where
    plain : IsPlain s
    plain = w.plain j s is.record_sent.at

    first : by_retry s.retried ≡ 0
    first = no_retry s.retried plain.first

    it : (m : ℕ) (q : Seen) (u : Transmission) → IsSource k tap m q u g → m ≡ i → ⊥
    it m q u source e =
        let seen : q ≡ r = same_seen tap i m r q at source.at e in
        let packet : u ≡ t =
        some_is u t (sym source.frame ∙ ap (λ (x : Seen). x.frame) seen ∙ frame) in
        other (record {
          at = at;
          heard = pair.heard;
          frame = frame;
          copy = subst (λ (x : Transmission). IsCopy k x.pdu g.pdu) packet source.copy;
          hops = ap (λ (x : Transmission). x.hops_left) (sym packet) ∙ source.hops;
        })

    near : (m : ℕ) (q : Seen) (u : Transmission) → IsSource k tap m q u g
        → MayCause k q s.moment → ⊥
    near m q u source cause = elim (eq_test m i) [
      | inl e ↦ it m q u source e.1
      | inr e ↦
          (let sending : cause.sending ≡ q.moment =
          only_sending q.moment q.repeats cause.number cause.sending
          (w.plain m q source.at).repeats cause.is_sending in
          let last : last_sending q ≡ q.moment = last_only q (w.plain m q source.at).repeats in
          one_heard k tap i m r q w at source.at pair.heard source.heard
          (omega (arith, pair.after, cause.soon, last))
          (omega (arith, pair.soon, cause.before, sending)) (λ same. e.1 (sym same)))
    ]

    any : (m : ℕ) (q : Seen) (u : Transmission) → IsSource k tap m q u g
        → lies_in (searched k s) q ≡ true → ⊥
    any m q u source there = elim (eq_test m i) [
      | inl e ↦ it m q u source e.1
      | inr e ↦ fails duties.InTime (record {
        seen = s;
        frame = g;
        is = is;
        received = w.received;
        unbuffered = w.unbuffered;
        area = w.simple;
        sure = plain.first;
        i = m;
        origin = q;
        packet = u;
        faithful = source;
        heard_before = there;
        none = near;
        all_read = λ n p at unread lies. w.read n p at unread;
      })
    ]

-- ---- a frame that isn't what the station gives

carries_it : (r : Seen) (t : Transmission) → IsRead r → r.frame ≡ Some t → Carries r t
carries_it r t read frame =
    let says = read.says t frame in
    record {
      target = t.link_target;
      in_range = says.fields.target;
      same_target = λ known. refl;
      rest = [];
      octets = subst (λ (b : Bool). HasOctets b r.octets (frame_octets t) [])
          (sym (read.whole t frame)) (says.octets ∙ sym (append-nil (frame_octets t)));
    }

-- its link source
sent_source : (k : Claims) (s : Seen) (g : Transmission) → IsRead s → s.frame ≡ Some g
    → is_sent k s ≡ true → g.link_source ≡ k.mac
sent_source k s g read frame sent =
    let says = read.says g frame in
    let there = source_there s.octets [] [] g (frame_bounds g s.octets says).0 says.fields.source
    (append-nil s.octets ∙ says.octets ∙ sym (append-nil (frame_octets g))) in
    eqb-true g.link_source k.mac
    (ap (is_number k.mac) (sym there)
    ∙ and_second (is_judged_on k.interface s.interface) (is_number k.mac (link_source_of s))
    (and_first (is_judged_on k.interface s.interface && is_number k.mac (link_source_of s))
    (is_geonetworking s) sent))

relay_is : (t g : Transmission) (source : ℕ) → t.pdu ≡ g.pdu → t.hops_left ≡ g.hops_left + 1
    → source ≡ g.link_source → g.link_target ≡ broadcast → relay t source broadcast ≡ g
relay_is t g source pdu hops from to =
    let left : t.hops_left - 1 ≡ g.hops_left = omega (arith, hops) in
    λ i. record {
      pdu = pdu i;
      hops_left = left i;
      link_source = from i;
      link_target = sym to i;
    }

copy_same : (k : Claims) (a c : Pdu) → k.unbuffered ≡ true → IsCopy k a c → a ≡ c
copy_same k a c claims (inl same) = same
copy_same k a c claims (inr changed) = absurd (true≢false (sym claims ∙ changed.0))

-- a frame that was made from the packet
not_given : (body : Body) (k : Claims) (tap : List Seen) (i j : ℕ) (r s : Seen) (t g : Transmission)
    (n moment : ℕ) (st : StationModel)
    → AreRead tap → IsModelled k → IsWire k tap → IsMet k tap i r t n
    → IsReady k st t.pdu.vector.address moment
    → is_remembered st.remember t.pdu.vector.address n moment st.history ≡ false
    → IsRelayRecord k tap j s g
    → (frame_of (station_step st moment (Receive t)).answer ≡ Some g → ⊥) → NoneFails k tap j
    → t.pdu.body ≡ body → IsSource k tap i r t g → ⊥
not_given beacon k tap i j r s t g n moment st all modelled w met ready new is other fails body source =
    absurd (no (sym (ap number_in body) ∙ met.number))
  where
    no : None ≡ Some n → ⊥
    no e = cc
not_given (shb media message) k tap i j r s t g n moment st all modelled w met ready new is other fails
    body source = absurd (no (sym (ap number_in body) ∙ met.number))
  where
    no : None ≡ Some n → ⊥
    no e = cc
not_given (gac number area message) k tap i j r s t g n moment st all modelled w met ready new is other
    fails body source =
    fails duties.StopsInside (record {
      seen = s;
      frame = g;
      number = number;
      area = area;
      message = message;
      is = is;
      anycast = ap (λ (p : Pdu). p.body) (sym (copy_same k t.pdu g.pdu w.unbuffered source.copy)) ∙ body;
      decided = record { faithful = fails duties.Faithful; in_time = fails duties.InTime };
      inside = w.inside i r t area met.at met.frame (ap area_in body);
    })
not_given (gbc number area message) k tap i j r s t g n moment st all modelled w met ready new is other
    fails body source = by (eq_test g.link_target broadcast)
  where
    pdu : t.pdu ≡ g.pdu
    pdu = copy_same k t.pdu g.pdu w.unbuffered source.copy

    inside : is_surely_inside k area ≡ true
    inside = w.inside i r t area met.at met.frame (ap area_in body)

    number_is : number ≡ n
    number_is = some_is number n (sym (ap number_in body) ∙ met.number)

    some_left : 0 < g.hops_left
    some_left = ((is_read tap j s all is.record_sent.at).says g is.frame).fields.packet.some_left

    given : g.link_target ≡ broadcast → frame_of (station_step st moment (Receive t)).answer ≡ Some g
    given to =
        let read = is_read tap i r all met.at in
        let gives = relay_owed st moment t n area message ready.clock ready.in_range
        (for_it k r t t st read met.frame (carries_it r t read met.frame)
        (w.plain i r met.at).known_target met.heard modelled ready.address)
        (λ e. other_source r.frame k.address t met.frame
        (and_second (comes_to_it k r) (is_of_other k.address r.frame) met.heard)
        (e ∙ ready.address)) (body ∙ ap (λ (m : ℕ). gbc m area message) number_is) new ready.room
        (omega (arith, source.hops, some_left))
        (surely_inside k area st.vector.place ready.place inside) in
        ap frame_of gives.1
        ∙ ap (λ (x : Transmission). Some x)
        (relay_is t g (mid_of st.address) pdu source.hops
        (ap mid_of ready.address ∙ sym modelled.mac
        ∙ sym (sent_source k s g (is_read tap j s all is.record_sent.at) is.frame is.record_sent.sent))
        to)

    by : ((eqb g.link_target broadcast ≡ true) × (g.link_target ≡ broadcast))
        ⊎ ((eqb g.link_target broadcast ≡ false) × (g.link_target ≢ broadcast)) → ⊥
    by (inl to) = other (given to.1)
    by (inr astray) = fails duties.NextHop (record {
      seen = s;
      frame = g;
      is = is;
      decided = record { faithful = fails duties.Faithful; in_time = fails duties.InTime };
      astray = record {
        area = area;
        area_is = ap (λ (p : Pdu). area_in p.body) (sym pdu) ∙ ap area_in body;
        simple = w.simple;
        known = (w.plain j s is.record_sent.at).known_target;
        inside = inside;
        astray = astray.1;
      };
    })

pub another_proof : (k : Claims) (tap : List Seen) (i j : ℕ) (r s : Seen) (t g : Transmission)
    (n moment : ℕ) (st : StationModel)
    → AreRead tap → IsModelled k → IsWire k tap → IsMet k tap i r t n
    → IsReady k st t.pdu.vector.address moment
    → is_remembered st.remember t.pdu.vector.address n moment st.history ≡ false
    → IsRelayRecord k tap j s g → IsPair k r s
    → (frame_of (station_step st moment (Receive t)).answer ≡ Some g → ⊥) → NoneFails k tap j → ⊥
another_proof k tap i j r s t g n moment st all modelled w met ready new is pair other fails =
    made_from_it k tap i j r s t g w met.at met.frame is pair fails
    (not_given t.pdu.body k tap i j r s t g n moment st all modelled w met ready new is other fails refl)

-- ---- a frame of a number that the station remembers

pub again_proof : (k : Claims) (tap : List Seen) (i j : ℕ) (r s : Seen) (t g : Transmission) (n : ℕ)
    → IsWire k tap → IsMet k tap i r t n → IsRelayRecord k tap j s g → IsPair k r s
    → IsRemembered k tap j t.pdu.vector.address n s → NoneFails k tap j → ⊥
again_proof k tap i j r s t g n w met is pair known fails =
    made_from_it k tap i j r s t g w met.at met.frame is pair fails (λ source.
    (let pdu : t.pdu ≡ g.pdu = copy_same k t.pdu g.pdu w.unbuffered source.copy in
    let address : t.pdu.vector.address ≡ g.pdu.vector.address =
    ap (λ (p : Pdu). p.vector.address) pdu in
    fails duties.Once (record {
      i = known.m;
      before = known.before;
      seen = s;
      packet = known.packet;
      frame = g;
      number = n;
      first = known.is;
      again = is;
      earlier = known.earlier;
      number_is = (
        known.number_is,
        ap (λ (p : Pdu). number_in p.body) (sym pdu) ∙ met.number,
      );
      source = known.source_is ∙ address;
      sure = (
        (w.plain known.m known.before known.is.record_sent.at).first,
        (w.plain j s is.record_sent.at).first,
      );
      steady = w.steady;
      unbuffered = w.unbuffered;
      area = w.simple;
      received = w.received;
      within_life = known.near;
      not_forgotten = inl (
        record {
          begins = omega (arith, known.begins);
          all_read = λ m q at unread lies. w.read m q at unread;
        },
        subst (λ (a : ℕ).
            others_in k a n (counted_in k known.before.moment s.moment) tap < k.remember) address
            known.few,
      );
      room = w.room (table_time k known.before.moment s.moment);
      room_known = λ stale. absurd (true≢false (sym w.fresh ∙ stale));
      all_read = λ m q at unread lies. w.read m q at unread;
    })))

-- ---- a frame that is missing

-- only a geobroadcast is given inside of its area
given_body : (body : Body) (k : Claims) (st : StationModel) (moment n : ℕ) (t f : Transmission)
    → ((area : GeoArea) → area_in t.pdu.body ≡ Some area → is_surely_inside k area ≡ true)
    → IsReady k st t.pdu.vector.address moment → t.pdu.body ≡ body
    → number_in t.pdu.body ≡ Some n
    → frame_of (receive_step st moment t).answer ≡ Some f
    → (area : GeoArea) × (message : Message) × (t.pdu.body ≡ gbc n area message)
given_body beacon k st moment n t f inside ready body number e =
    absurd (no (sym (ap number_in body) ∙ number))
  where
    no : None ≡ Some n → ⊥
    no e = cc
given_body (shb media message) k st moment n t f inside ready body number e =
    absurd (no (sym (ap number_in body) ∙ number))
  where
    no : None ≡ Some n → ⊥
    no e = cc
given_body (gbc m area message) k st moment n t f inside ready body number e = (
  area,
  message,
  body ∙ ap (λ (x : ℕ). gbc x area message)
      (some_is m n (sym (ap number_in body) ∙ number)),
)
given_body (gac m area message) k st moment n t f inside ready body number e =
    absurd (anycast_stops t.pdu.body (after_hearing st moment t) moment t f m area message body
    (surely_inside k area st.vector.place ready.place (inside area (ap area_in body)))
    (received_frame st moment t f e))

pub missing_proof : (k : Claims) (tap : List Seen) (i : ℕ) (r : Seen) (t f : Transmission)
    (n moment : ℕ) (st : StationModel)
    → AreRead tap → IsWire k tap → IsMet k tap i r t n → IsNew k tap i r t n
    → IsReady k st t.pdu.vector.address moment
    → frame_of (station_step st moment (Receive t)).answer ≡ Some f
    → ((j : ℕ) (s : Seen) → slice_get tap j ≡ Some s
    → is_packet t.pdu.vector.address n s ≡ true → IsPair k r s → ⊥) → FailsForward k tap i
missing_proof k tap i r t f n moment st all w met new ready gives none =
    let plain = w.plain i r met.at in
    let body = given_body t.pdu.body k st moment n t f
    (λ area is. w.inside i r t area met.at met.frame is) ready refl met.number gives in
    let first : first_sending r ≡ r.moment = first_only r plain.repeats in
    let last : last_sending r ≡ r.moment = last_only r plain.repeats in
    record {
      seen = r;
      frame = t;
      number = n;
      owed = record {
        at = met.at;
        heard = met.heard;
        frame = met.frame;
        area = body.0;
        message = body.1;
        broadcast = body.2;
        sent = w.sent;
        received = w.received;
        delivered = w.delivered;
        unlimited = w.unlimited;
        unbuffered = w.unbuffered;
        simple = w.simple;
        known_target = plain.known_target;
        hops = (relay_frame st moment t f gives).hops;
        late = omega (arith, w.begins i r met.at met.heard, first);
        from = new.from;
        known_from = new.known_from;
        new = new.new;
        copies = λ m s u other lies frame. absurd (alone m s other.at other.heard other.other lies);
        room = w.room _;
        steady = w.steady;
        inside = w.inside i r t body.0 met.at met.frame (ap area_in body.2);
        all_read = λ m s at unread lies. w.read m s at unread;
      };
      until = r.moment + wait k + 2 * slack k;
      until_is = λ m s at heard packet lies. (elim (eq_test m i) [
        | inl e ↦
            (let same : s ≡ r = same_seen tap i m r s met.at at e.1 in
            let end : last_sending s ≡ r.moment = ap last_sending same ∙ last in
            omega (arith, end))
        | inr e ↦ absurd (alone m s at heard e.1 lies)
      ]);
      goes_on = omega (
        arith,
        w.goes_on i r met.at met.heard,
        w.queue,
        no_retry r.wireless plain.wired,
      );
      not_forwarded = λ j s at relays packet then.
          none j s at packet (record {
            heard = met.heard;
            relay = relays;
            after = omega (arith, then.after, first);
            soon = omega (arith, then.before, no_retry s.retried (w.plain j s at).first);
          });
      sent_read = λ j s at may then. w.sent_read j s at may;
    }
  where
    alone : (m : ℕ) (s : Seen) → slice_get tap m ≡ Some s → is_heard k s ≡ true → m ≢ i
        → lies_in (processed_in k r) s ≡ true → ⊥
    alone m s at heard differ lies =
        let plain = w.plain i r met.at in
        let there = any_found (is_within (processed_in k r)) (sendings s) lies in
        let sending : there.stamp ≡ s.moment =
        only_sending s.moment s.repeats there.number there.stamp (w.plain m s at).repeats there.at in
        let low = is_at_most (first_sending r) there.stamp
        (and_first (nat_le (first_sending r) there.stamp) _ there.passes) in
        let high = is_at_most there.stamp (last_sending r + wait k + 2 * slack k)
        (and_second (nat_le (first_sending r) there.stamp) _ there.passes) in
        one_heard k tap i m r s w met.at at met.heard heard
        (omega (arith, low, sending, first_only r plain.repeats))
        (omega (arith, high, sending, last_only r plain.repeats)) (λ e. differ (sym e))
