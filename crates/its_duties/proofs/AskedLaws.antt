-- A record that fails a duty fails one that is asked of it.
use Rattle.std.proofs.Common.{◌≡◌, ◌≢◌, ℕ, Bool, true, false, cond, not, ◌&&◌, ◌||◌, List, length}
use Rattle.std.proofs.Common.{Option, Some, None, eqb, refl, sym, ap, subst, ◌∙◌, true≢false}
use Rattle.std.proofs.Common.{append-nil, [], ◌++◌}
use Rattle.std.specs.Prelude.{nat_le, slice_get, is_none}
use Rattle.std.proofs.lemmas.Bool.{cond-true, cond-false, eq-eqb, ne_eqb}
use Rattle.its_faults.specs.declared.frame.FrameFault.{FrameFault}
use Rattle.its_headers.specs.Fields.{kind_of_body, area_in}
use Rattle.its_geometry.specs.Area.{GeoArea}
use Rattle.its_linkframe.specs.Frames.{frame_octets}
use Rattle.its_model.specs.Packet.{Body, Transmission, number_in}
use Rattle.its_model.specs.Packet.Body.{beacon, shb, gbc, gac}
use Rattle.its_duties.specs.declared.claims.Claims.{Claims}
use Rattle.its_duties.specs.declared.duty.Duty.{Duty}
use Rattle.its_duties.specs.declared.duty.Duty.TheVariants as duties
use Rattle.its_duties.specs.declared.role.Role.{Role}
use Rattle.its_duties.specs.declared.role.Role.TheVariants as roles
use Rattle.its_duties.specs.declared.verdict.Verdict.{Verdict}
use Rattle.its_duties.specs.declared.verdict.Verdict.TheVariants.{Pass, Fail, Inconclusive}
use Rattle.its_duties.specs.declared.verdict.Breach.TheVariants as breaches
use Rattle.its_duties.specs.Seen.{Seen, IsRead, AreRead, Carries, HasOctets, is_number, number_at}
use Rattle.its_duties.specs.Seen.{link_source_of, is_geonetworking, is_judged_on, is_sent, is_of}
use Rattle.its_duties.specs.Seen.{is_of_other, is_own, is_relay, is_unread_sent, is_for_it}
use Rattle.its_duties.specs.Seen.{link_target_of, comes_to_it, is_heard, has_no_type, named_source}
use Rattle.its_duties.specs.Verdicts.{is_fail, is_single_hop, IsFormVerdict, is_secured_fault}
use Rattle.its_duties.specs.Verdicts.{breaks_frame}
use Rattle.its_duties.specs.Duties.{IsSentRecord, IsOwnRecord, IsRelayRecord, FailsForm, FailsKind}
use Rattle.its_duties.specs.Fails.{FailOf}
use Rattle.its_duties.specs.Roles.{role_of, kind_seen, is_for_area, is_beacon_kind, is_anycast_kind}
use Rattle.its_duties.specs.Roles.{is_own_duty, is_relay_duty, is_asked}
use Rattle.its_duties.proofs.Read.{is_read}
use Rattle.its_duties.proofs.OwnLaws.{no_form_fault, breaks_by}
use Rattle.its_duties.proofs.RelayLaws.{and_first, and_second}
use Rattle.its_duties.proofs.Received.{both}

-- ---- roles

typed : (r : Seen) → is_geonetworking r ≡ true → has_no_type r ≡ false
typed r e = by r.cut (nat_le 14 (length r.octets)) refl
  where
    by : (cut b : Bool) → nat_le 14 (length r.octets) ≡ b → (cut && not b) ≡ false
    by false b is = refl
    by true true is = refl
    by true false is =
        absurd (true≢false
        (sym e ∙ ap (is_number 35143) (cond-false (nat_le 14 (length r.octets)) _ _ is)))

off : (a b : Bool) → b ≡ false → (a && b) ≡ false
off true b e = e
off false b e = refl

off_first : (a b : Bool) → a ≡ false → (a && b) ≡ false
off_first a b e = ap (λ (x : Bool). x && b) e

sent_typed : (k : Claims) (r : Seen) → is_sent k r ≡ true → has_no_type r ≡ false
sent_typed k r sent =
    typed r
    (and_second (is_judged_on k.interface r.interface && is_number k.mac (link_source_of r))
    (is_geonetworking r) sent)

-- what is true of a frame that was read
frame_of_it : (k : Claims) (r : Seen) (t : Transmission) → r.frame ≡ Some t
    → t.pdu.vector.address ≡ k.address → is_of k.address r.frame ≡ true
frame_of_it k r t frame own =
    ap (is_of k.address) frame ∙ eq-eqb t.pdu.vector.address k.address own

frame_of_other : (k : Claims) (r : Seen) (t : Transmission) → r.frame ≡ Some t
    → t.pdu.vector.address ≢ k.address
    → (is_of k.address r.frame ≡ false) × (is_of_other k.address r.frame ≡ true)
frame_of_other k r t frame other =
    let no : eqb t.pdu.vector.address k.address ≡ false = ne_eqb t.pdu.vector.address k.address other in
    (ap (is_of k.address) frame ∙ no, ap (is_of_other k.address) frame ∙ ap not no)

own_role : (k : Claims) (r : Seen) (longer : Bool) → is_sent k r ≡ true
    → is_of k.address r.frame ≡ true → role_of k r longer ≡ roles.Own
own_role k r longer sent own =
    cond-false (has_no_type r) _ _ (sent_typed k r sent)
    ∙ cond-true (is_own k r) _ _ (both (is_sent k r) (is_of k.address r.frame) sent own)

relay_role : (k : Claims) (r : Seen) (longer : Bool) → is_sent k r ≡ true
    → is_of k.address r.frame ≡ false → is_of_other k.address r.frame ≡ true
    → role_of k r longer ≡ roles.Forwarded
relay_role k r longer sent not_own other =
    cond-false (has_no_type r) _ _ (sent_typed k r sent)
    ∙ cond-false (is_own k r) _ _ (off (is_sent k r) (is_of k.address r.frame) not_own)
    ∙ cond-true (is_relay k r) _ _ (both (is_sent k r) (is_of_other k.address r.frame) sent other)

unread_role : (k : Claims) (r : Seen) (longer : Bool) → is_sent k r ≡ true → r.frame ≡ None
    → role_of k r longer ≡ roles.SentUnread
unread_role k r longer sent none =
    cond-false (has_no_type r) _ _ (sent_typed k r sent)
    ∙ cond-false (is_own k r) _ _
    (off (is_sent k r) (is_of k.address r.frame) (ap (is_of k.address) none))
    ∙ cond-false (is_relay k r) _ _
    (off (is_sent k r) (is_of_other k.address r.frame) (ap (is_of_other k.address) none))
    ∙ cond-true (is_unread_sent k r) _ _
    (both (is_sent k r) (is_none r.frame) sent (ap is_none none))

not_false : (b : Bool) → not b ≡ true → b ≡ false
not_false true e = absurd (true≢false (sym e))
not_false false e = refl

heard_role : (k : Claims) (r : Seen) (t : Transmission) (longer : Bool) → IsRead r
    → r.frame ≡ Some t → is_heard k r ≡ true → role_of k r longer ≡ roles.Heard
heard_role k r t longer read frame heard =
    let comes = and_first (comes_to_it k r) (is_of_other k.address r.frame) heard in
    let foreign : is_number k.mac (link_source_of r) ≡ false =
    not_false (is_number k.mac (link_source_of r))
    (and_first (not (is_number k.mac (link_source_of r))) (is_for_it k.mac (link_target_of r)) comes) in
    let unsent : is_sent k r ≡ false =
    off_first (is_judged_on k.interface r.interface && is_number k.mac (link_source_of r))
    (is_geonetworking r)
    (off (is_judged_on k.interface r.interface) (is_number k.mac (link_source_of r)) foreign) in
    cond-false (has_no_type r) _ _
    (off_first r.cut (not (nat_le 14 (length r.octets))) (read.whole t frame))
    ∙ cond-false (is_own k r) _ _ (off_first (is_sent k r) (is_of k.address r.frame) unsent)
    ∙ cond-false (is_relay k r) _ _ (off_first (is_sent k r) (is_of_other k.address r.frame) unsent)
    ∙ cond-false (is_unread_sent k r) _ _ (off_first (is_sent k r) (is_none r.frame) unsent)
    ∙ cond-true (is_heard k r) _ _ heard

-- ---- what is asked

-- a duty is asked that the record fails
abbrev Asked : Claims → List Seen → ℕ → Seen → Bool → Type 0
Asked k tap i r longer =
    (e : Duty) × (is_asked e (role_of k r longer) (kind_seen r.frame) ≡ true) × FailOf e k tap i

same_seen : (tap : List Seen) (i : ℕ) (r s : Seen) → slice_get tap i ≡ Some r
    → slice_get tap i ≡ Some s → s ≡ r
same_seen tap i r s a b = some (sym b ∙ a)
  where
    some : Some s ≡ Some r → s ≡ r
    some e = cc

asked_with : (e : Duty) (k : Claims) (tap : List Seen) (i : ℕ) (r : Seen) (longer : Bool)
    (role : Role) (t : Transmission) → role_of k r longer ≡ role → r.frame ≡ Some t
    → is_asked e role (Some (kind_of_body t.pdu.body)) ≡ true → FailOf e k tap i
    → Asked k tap i r longer
asked_with e k tap i r longer role t is frame asked fails = (
  e,
  ap (λ (x : Role). is_asked e x (kind_seen r.frame)) is
      ∙ ap (λ (o : Option Transmission). is_asked e role (kind_seen o)) frame ∙ asked,
  fails,
)

asked_own : (e : Duty) (k : Claims) (tap : List Seen) (i : ℕ) (r s : Seen) (t : Transmission)
    (longer : Bool) → slice_get tap i ≡ Some r → IsOwnRecord k tap i s t
    → is_own_duty e (Some (kind_of_body t.pdu.body)) ≡ true → FailOf e k tap i
    → Asked k tap i r longer
asked_own e k tap i r s t longer at is asked fails =
    subst (λ (x : Seen). Asked k tap i x longer) (same_seen tap i r s at is.record_sent.at)
    (asked_with e k tap i s longer roles.Own t
    (own_role k s longer is.record_sent.sent (frame_of_it k s t is.frame is.own)) is.frame asked
    fails)

asked_relay : (e : Duty) (k : Claims) (tap : List Seen) (i : ℕ) (r s : Seen) (t : Transmission)
    (longer : Bool) → slice_get tap i ≡ Some r → IsRelayRecord k tap i s t
    → is_relay_duty e (Some (kind_of_body t.pdu.body)) ≡ true → FailOf e k tap i
    → Asked k tap i r longer
asked_relay e k tap i r s t longer at is asked fails =
    let source = frame_of_other k s t is.frame is.other in
    subst (λ (x : Seen). Asked k tap i x longer) (same_seen tap i r s at is.record_sent.at)
    (asked_with e k tap i s longer roles.Forwarded t
    (relay_role k s longer is.record_sent.sent source.0 source.1) is.frame asked fails)

-- a packet for an area
number_area : (body : Body) (n : ℕ) → number_in body ≡ Some n
    → is_for_area (Some (kind_of_body body)) ≡ true
number_area beacon n e = cc
number_area (shb media message) n e = cc
number_area (gbc number area message) n e = refl
number_area (gac number area message) n e = refl

area_area : (body : Body) (area : GeoArea) → area_in body ≡ Some area
    → is_for_area (Some (kind_of_body body)) ≡ true
area_area beacon a e = cc
area_area (shb media message) a e = cc
area_area (gbc number area message) a e = refl
area_area (gac number area message) a e = refl

-- a packet that was forwarded and isn't for an area fails by its kind
by_kind : (body : Body) (e : Duty) (k : Claims) (tap : List Seen) (i : ℕ) (r s : Seen)
    (t : Transmission) (longer : Bool) → t.pdu.body ≡ body → slice_get tap i ≡ Some r
    → IsRelayRecord k tap i s t
    → (is_for_area (Some (kind_of_body body)) ≡ true
    → is_relay_duty e (Some (kind_of_body body)) ≡ true)
    → FailOf e k tap i → Asked k tap i r longer
by_kind beacon e k tap i r s t longer body at is asked fails =
    asked_relay duties.Kind k tap i r s t longer at is refl (record {
      seen = s;
      frame = t;
      is = is;
      fails = ap (λ (b : Body). is_fail
          (cond (is_single_hop b) (Fail (breaches.Kind (kind_of_body b))) Pass)) body;
    })
by_kind (shb media message) e k tap i r s t longer body at is asked fails =
    asked_relay duties.Kind k tap i r s t longer at is refl (record {
      seen = s;
      frame = t;
      is = is;
      fails = ap (λ (b : Body). is_fail
          (cond (is_single_hop b) (Fail (breaches.Kind (kind_of_body b))) Pass)) body;
    })
by_kind (gbc number area message) e k tap i r s t longer body at is asked fails =
    asked_relay e k tap i r s t longer at is
    (ap (λ (b : Body). is_relay_duty e (Some (kind_of_body b))) body ∙ asked refl) fails
by_kind (gac number area message) e k tap i r s t longer body at is asked fails =
    asked_relay e k tap i r s t longer at is
    (ap (λ (b : Body). is_relay_duty e (Some (kind_of_body b))) body ∙ asked refl) fails

-- what is read has its form
read_form : (cut : Bool) (verdict : Verdict) (k : Claims) (r : Seen) (t : Transmission) → IsRead r
    → r.cut ≡ cut → r.frame ≡ Some t → IsFormVerdict k.address cut r.octets verdict
    → is_fail verdict ≡ true → ⊥
read_form true verdict k r t read cut frame judged fails =
    true≢false (sym cut ∙ read.whole t frame)
read_form false Pass k r t read cut frame judged fails = true≢false (sym fails)
read_form false (Inconclusive doubt) k r t read cut frame judged fails = true≢false (sym fails)
read_form false (Fail breach) k r t read cut frame judged fails =
    let fault = judged.0 in
    let says = read.says t frame in
    no_form_fault fault r t read cut (record {
      target = t.link_target;
      in_range = says.fields.target;
      same_target = λ known. refl;
      rest = [];
      octets = subst (λ (b : Bool). HasOctets b r.octets (frame_octets t) []) (sym cut)
          (says.octets ∙ sym (append-nil (frame_octets t)));
    }) (record { packet = says.fields.packet; source = says.fields.source })
    (breaks_by (is_secured_fault fault r.octets) (is_number k.address (named_source r.octets))
    (breaks_frame fault r.octets) fault breach judged.2) judged.1

form_asked : (o : Option Transmission) (k : Claims) (tap : List Seen) (i : ℕ) (r : Seen)
    (longer : Bool) → AreRead tap → slice_get tap i ≡ Some r → (f : FailsForm k tap i)
    → f.seen.frame ≡ o → Asked k tap i r longer
form_asked (Some t) k tap i r longer all at f frame =
    absurd (read_form f.seen.cut f.verdict k f.seen t (is_read tap i f.seen all f.is.at) refl frame
    f.judged f.fails)
form_asked None k tap i r longer all at f frame =
    subst (λ (x : Seen). Asked k tap i x longer) (same_seen tap i r f.seen at f.is.at) (
      duties.Form,
      ap (λ (x : Role). is_asked duties.Form x (kind_seen f.seen.frame))
          (unread_role k f.seen longer f.is.sent frame),
      f,
    )

pub left_out_proof : (d : Duty) (k : Claims) (tap : List Seen) (i : ℕ) (r : Seen) (longer : Bool)
    → AreRead tap → slice_get tap i ≡ Some r → FailOf d k tap i → Asked k tap i r longer
left_out_proof duties.Form k tap i r longer all at f =
    form_asked f.seen.frame k tap i r longer all at f refl
left_out_proof duties.LinkTarget k tap i r longer all at f =
    asked_own duties.LinkTarget k tap i r f.seen f.frame longer at f.is refl f
left_out_proof duties.Mobile k tap i r longer all at f =
    asked_own duties.Mobile k tap i r f.seen f.frame longer at f.is refl f
left_out_proof duties.Hops k tap i r longer all at f =
    asked_own duties.Hops k tap i r f.seen f.frame longer at f.is refl f
left_out_proof duties.Lifetime k tap i r longer all at f =
    asked_own duties.Lifetime k tap i r f.seen f.frame longer at f.is refl f
left_out_proof duties.Numbers k tap i r longer all at f =
    asked_own duties.Numbers k tap i r f.seen f.frame longer at f.later
    (number_area f.frame.pdu.body f.second f.second_is) f
left_out_proof duties.BeaconNotEarly k tap i r longer all at f =
    asked_own duties.BeaconNotEarly k tap i r f.seen f.frame longer at f.is.later
    (ap (λ (b : Body). is_beacon_kind (Some (kind_of_body b))) f.is.is_beacon) f
left_out_proof duties.AreaTarget k tap i r longer all at f =
    asked_own duties.AreaTarget k tap i r f.seen f.frame longer at f.is
    (area_area f.frame.pdu.body f.astray.area f.astray.area_is) f
left_out_proof duties.Faithful k tap i r longer all at f =
    by_kind f.frame.pdu.body duties.Faithful k tap i r f.seen f.frame longer refl at f.is (λ e. e) f
left_out_proof duties.Kind k tap i r longer all at f =
    asked_relay duties.Kind k tap i r f.seen f.frame longer at f.is refl f
left_out_proof duties.Once k tap i r longer all at f =
    asked_relay duties.Once k tap i r f.seen f.frame longer at f.again
    (number_area f.frame.pdu.body f.number f.number_is.1) f
left_out_proof duties.InTime k tap i r longer all at f =
    by_kind f.frame.pdu.body duties.InTime k tap i r f.seen f.frame longer refl at f.is (λ e. e) f
left_out_proof duties.StopsInside k tap i r longer all at f =
    asked_relay duties.StopsInside k tap i r f.seen f.frame longer at f.is
    (ap (λ (b : Body). is_anycast_kind (Some (kind_of_body b))) f.anycast) f
left_out_proof duties.NextHop k tap i r longer all at f =
    asked_relay duties.NextHop k tap i r f.seen f.frame longer at f.is
    (area_area f.frame.pdu.body f.astray.area f.astray.area_is) f
left_out_proof duties.Forward k tap i r longer all at f =
    subst (λ (x : Seen). Asked k tap i x longer) (same_seen tap i r f.seen at f.owed.at)
    (asked_with duties.Forward k tap i f.seen longer roles.Heard f.frame
    (heard_role k f.seen f.frame longer (is_read tap i f.seen all f.owed.at) f.owed.frame f.owed.heard)
    f.owed.frame
    (ap (λ (b : Body). is_for_area (Some (kind_of_body b))) f.owed.broadcast) f)
