-- A fail of a packet that was heard and not forwarded is a proof, by what was found of it.
use Rattle.std.proofs.Common.{◌≡◌, ℕ, ◌≤◌, Bool, true, false, cond, not, ◌&&◌, ◌||◌, List, Option}
use Rattle.std.proofs.Common.{Some, None, refl, sym, ap, ◌∙◌, subst, true≢false, arith}
use Rattle.std.specs.Prelude.{nat_le}
use Rattle.std.proofs.lemmas.Bool.{le-leb}
use Rattle.std.proofs.lemmas.Bool.Decides.{nat_tests}
use Rattle.its_geometry.specs.Area.{GeoArea}
use Rattle.its_headers.specs.Fields.{kind_of_body, area_in}
use Rattle.its_model.specs.Packet.{Body, Message, Transmission, number_in}
use Rattle.its_model.specs.Packet.Body.{beacon, shb, gbc, gac}
use Rattle.its_duties.specs.declared.claims.Claims.{Claims}
use Rattle.its_duties.specs.declared.owed.OwedSearch.{OwedSearch}
use Rattle.its_duties.specs.declared.owed.RelaySeen.{RelaySeen}
use Rattle.its_duties.specs.declared.owed.RelaySeen.TheVariants as relays
use Rattle.its_duties.specs.declared.places.AreaPosition.{AreaPosition}
use Rattle.its_duties.specs.declared.places.AreaPosition.TheVariants.{Inside, Outside, Unsure}
use Rattle.its_duties.specs.declared.verdict.NotOwed.{NotOwed}
use Rattle.its_duties.specs.declared.verdict.NotOwed.TheVariants as reasons
use Rattle.its_duties.specs.declared.verdict.Verdict.{Verdict}
use Rattle.its_duties.specs.declared.verdict.Verdict.TheVariants.{Pass}
use Rattle.its_duties.specs.Seen.{Seen, AreRead}
use Rattle.its_duties.specs.Verdicts.{is_fail}
use Rattle.its_duties.specs.Places.{position_in, is_surely_inside}
use Rattle.its_duties.specs.Heard.{has_room, sources_in}
use Rattle.its_duties.specs.Duties.{IsModelled, NoScenario}
use Rattle.its_duties.specs.Relays.{is_simple}
use Rattle.its_duties.specs.Owed.{is_forwarded, is_other_forwarded, is_broadcast, is_inside, unless}
use Rattle.its_duties.specs.Owed.{or_this, claims_reason, packet_reason, capture_reason, reason}
use Rattle.its_duties.specs.Owed.{owed_by, may_be_owed, owed_in, owed_of, owed_verdict}
use Rattle.its_duties.specs.Owed.{sources_at, IsFound}
use Rattle.its_duties.proofs.Frames.{some_is}
use Rattle.its_duties.proofs.RelayLaws.{and_first, and_second, simple_is}
use Rattle.its_duties.proofs.InsideLaws.{inside_by}
use Rattle.its_duties.proofs.OwedLaws.{owed_proof}

is_at_most : (a b : ℕ) → nat_le a b ≡ true → a ≤ b
is_at_most a b e = grind (arith, nat_tests)

-- ---- no reason

none_first : (a b : Option NotOwed) → or_this a b ≡ None → a ≡ None
none_first None b e = refl
none_first (Some why) b e = cc

none_second : (a b : Option NotOwed) → or_this a b ≡ None → b ≡ None
none_second None b e = e
none_second (Some why) b e = cc

holds : (b : Bool) (why : NotOwed) → unless b why ≡ None → b ≡ true
holds true why e = refl
holds false why e = cc

-- the head of reasons, and what is left
head : (b : Bool) (why : NotOwed) (rest : Option NotOwed) → or_this (unless b why) rest ≡ None
    → b ≡ true
head b why rest e = holds b why (none_first (unless b why) rest e)

-- ---- what a fail says

record IsFail (forwarded may : Bool) (o : Option NotOwed) : Type 0 where
  pub not_forwarded : forwarded ≡ false
  pub owed : may ≡ true
  pub no_reason : o ≡ None

no_doubt : (o : Option NotOwed) → is_fail (owed_by o) ≡ true → o ≡ None
no_doubt None e = refl
no_doubt (Some why) e = absurd (true≢false (sym e))

fail_by : (forwarded may : Bool) (o : Option NotOwed) (v : Verdict)
    → cond forwarded (Some Pass) (cond may (Some (owed_by o)) None) ≡ Some v
    → is_fail v ≡ true → IsFail forwarded may o
fail_by true may o v e fails = absurd (true≢false (sym (ap is_fail (some_is Pass v e) ∙ fails)))
fail_by false true o v e fails =
    record {
      not_forwarded = refl;
      owed = refl;
      no_reason = no_doubt o (ap is_fail (some_is (owed_by o) v e) ∙ fails);
    }
fail_by false false o v e fails = cc

not_seen : (relay : RelaySeen) → is_forwarded relay ≡ false → not (is_other_forwarded relay) ≡ true
    → relay ≡ relays.NotSeen
not_seen relays.Forwarded a b = absurd (true≢false a)
not_seen relays.OtherForwarded a b = absurd (true≢false (sym b))
not_seen relays.NotSeen a b = refl

inside_is : (p : AreaPosition) → is_inside p ≡ true → p ≡ Inside
inside_is Inside e = refl
inside_is Outside e = absurd (true≢false (sym e))
inside_is Unsure e = absurd (true≢false (sym e))

-- room for so many is room for fewer
room_for : (o : Option ℕ) (few many : ℕ) → few ≤ many → has_room o many ≡ true
    → has_room o few ≡ true
room_for None few many le e = e
room_for (Some room) few many le e = le-leb few room (omega (arith, le, is_at_most many room e))

-- ---- a geobroadcast

broadcast_proof : (k : Claims) (tap : List Seen) (i : ℕ) (r : Seen) (t : Transmission) (n : ℕ)
    (p : OwedSearch) (area : GeoArea) (message : Message) (v : Verdict)
    → AreRead tap → IsModelled k → IsFound k tap i r t n p → t.pdu.body ≡ gbc n area message
    → owed_in k p t.hops_left true (position_in k area) ≡ Some v → is_fail v ≡ true
    → NoScenario k tap
broadcast_proof k tap i r t n p area message v all modelled found body e fails =
    let position = position_in k area in
    let inside = is_inside position in
    let f = fail_by (is_forwarded p.relay) (may_be_owed p t.hops_left true position)
    (reason k p inside) v e fails in
    let by_claims = none_first (claims_reason k) _ f.no_reason in
    let others = none_second (claims_reason k) _ f.no_reason in
    let by_packet = none_first (packet_reason k p) _ others in
    let by_capture = none_second (packet_reason k p) _ others in
    let claims_two = none_second (unless k.sent reasons.Sent) _ by_claims in
    let claims_three = none_second (unless k.received reasons.Received) _ claims_two in
    let claims_four = none_second (unless k.delivered reasons.Delivered) _ claims_three in
    let claims_five = none_second (unless k.unlimited reasons.Limited) _ claims_four in
    let claims_six = none_second (unless k.unbuffered reasons.Buffered) _ claims_five in
    let packet_two = none_second (unless p.known_target reasons.NoLinkTarget) _ by_packet in
    let packet_three = none_second (unless (p.late && p.known_from) reasons.KnownBefore) _ packet_two in
    let packet_four = none_second (unless p.copies reasons.OtherPacket) _ packet_three in
    let packet_five =
    none_second (unless (has_room k.capacity p.sources) reasons.TableFull) _ packet_four in
    let capture_two = none_second (unless inside reasons.PlaceUnsure) _ by_capture in
    let capture_three = none_second (unless p.goes_on reasons.CaptureEnds) _ capture_two in
    let capture_four = none_second (unless p.all_read reasons.NotRead) _ capture_three in
    let before = head (p.late && p.known_from) reasons.KnownBefore _ packet_two in
    let read = head p.all_read reasons.NotRead _ capture_three in
    let seen = not_seen p.relay f.not_forwarded
    (holds (not (is_other_forwarded p.relay)) reasons.OtherPacket capture_four) in
    let new_hops = and_first (p.new && nat_le 2 t.hops_left) (true || not inside) f.owed in
    owed_proof k tap i all modelled (record {
      seen = r;
      frame = t;
      number = n;
      owed = record {
        at = found.at;
        heard = found.heard;
        frame = found.frame;
        area = area;
        message = message;
        broadcast = body;
        sent = head k.sent reasons.Sent _ by_claims;
        received = head k.received reasons.Received _ claims_two;
        delivered = head k.delivered reasons.Delivered _ claims_three;
        unlimited = head k.unlimited reasons.Limited _ claims_four;
        unbuffered = head k.unbuffered reasons.Buffered _ claims_five;
        simple = simple_is k.area (holds (is_simple k.area) reasons.OtherForwarding claims_six);
        known_target = found.is_known_target (head p.known_target reasons.NoLinkTarget _ by_packet);
        hops = is_at_most 2 t.hops_left (and_second p.new (nat_le 2 t.hops_left) new_hops);
        late = found.is_late (and_first p.late p.known_from before);
        from = found.from;
        known_from = found.is_known_from (and_second p.late p.known_from before);
        new = found.is_new (and_first p.new (nat_le 2 t.hops_left) new_hops);
        copies = found.are_copies (head p.copies reasons.OtherPacket _ packet_three);
        room = room_for k.capacity (sources_in k (sources_at k r) tap) p.sources found.sources_are
            (head (has_room k.capacity p.sources) reasons.TableFull _ packet_four);
        steady = holds k.steady reasons.Restarted packet_five;
        inside = inside_by k area
            (inside_is position (head inside reasons.PlaceUnsure _ by_capture));
        all_read = found.are_read read;
      };
      until = found.until;
      until_is = found.until_is;
      goes_on = found.is_going_on (head p.goes_on reasons.CaptureEnds _ capture_two);
      not_forwarded = found.not_seen seen;
      sent_read = found.sent_read read;
    })

-- ---- a geoanycast: inside it isn't owed, and outside there is a reason

never_inside : (new hops : Bool) (p : AreaPosition) → (new && hops && (false || not (is_inside p))) ≡ true
    → is_inside p ≡ false
never_inside new hops Inside e =
    absurd (true≢false (sym (and_second (new && hops) false e)))
never_inside new hops Outside e = refl
never_inside new hops Unsure e = refl

anycast_proof : (k : Claims) (p : OwedSearch) (hops : ℕ) (position : AreaPosition) (v : Verdict)
    → owed_in k p hops false position ≡ Some v → is_fail v ≡ true → ⊥
anycast_proof k p hops position v e fails =
    let inside = is_inside position in
    let f = fail_by (is_forwarded p.relay) (may_be_owed p hops false position) (reason k p inside) v e
    fails in
    let others = none_second (claims_reason k) _ f.no_reason in
    let by_capture = none_second (packet_reason k p) _ others in
    true≢false (sym (head inside reasons.PlaceUnsure _ by_capture)
    ∙ never_inside p.new (nat_le 2 hops) position f.owed)

same_number : (n m : ℕ) → Some n ≡ Some m → n ≡ m
same_number n m e = cc

found_by : (body : Body) (k : Claims) (tap : List Seen) (i : ℕ) (r : Seen) (t : Transmission)
    (n : ℕ) (p : OwedSearch) (v : Verdict)
    → AreRead tap → IsModelled k → IsFound k tap i r t n p → t.pdu.body ≡ body
    → owed_of k p t.hops_left (is_broadcast (kind_of_body body)) (area_in body) ≡ Some v
    → is_fail v ≡ true → NoScenario k tap
found_by beacon k tap i r t n p v all modelled found is e fails = cc
found_by (shb media message) k tap i r t n p v all modelled found is e fails = cc
found_by (gbc number area message) k tap i r t n p v all modelled found is e fails =
    broadcast_proof k tap i r t n p area message v all modelled found
    (is ∙ ap (λ (m : ℕ). gbc m area message)
    (same_number number n (sym (ap number_in is) ∙ found.number))) e fails
found_by (gac number area message) k tap i r t n p v all modelled found is e fails =
    absurd (anycast_proof k p t.hops_left (position_in k area) v e fails)

pub found_proof : (k : Claims) (tap : List Seen) (i : ℕ) (r : Seen) (t : Transmission) (n : ℕ)
    (p : OwedSearch) (v : Verdict)
    → AreRead tap → IsModelled k → IsFound k tap i r t n p → owed_verdict k p t ≡ Some v
    → is_fail v ≡ true → NoScenario k tap
found_proof k tap i r t n p v all modelled found e fails =
    found_by t.pdu.body k tap i r t n p v all modelled found refl e fails
