-- The role by octets is that of the record, and a record that may have been processed unread has the
-- role for that.
use Rattle.std.proofs.Common.{◌≡◌, ◌⊎◌, ℕ, Bool, true, false, cond, not, ◌&&◌, ◌||◌, List, length}
use Rattle.std.proofs.Common.{◌++◌, Option, Some, None, eqb, refl, sym, ap, subst, ◌∙◌, true≢false, arith}
use Rattle.std.proofs.Common.{inl, inr, drop, take, ◌≤◌, ◌<◌}
use Rattle.std.specs.Prelude.{is_none, nat_le}
use Rattle.std.proofs.lemmas.Bool.Decides.{nat_tests}
use Rattle.its_faults.specs.declared.frame.FrameFault.{FrameFault}
use Rattle.its_faults.specs.declared.frame.FrameFault.TheVariants as faults
use Rattle.its_linkframe.specs.Frames.{IsTransmission, link_header, frame_octets}
use Rattle.its_linkframe.specs.FrameFaults.{IsFrameFault, ether_type}
use Rattle.its_model.specs.Packet.{Transmission}
use Rattle.its_duties.specs.declared.claims.Claims.{Claims}
use Rattle.its_duties.specs.declared.role.FrameSource.{FrameSource}
use Rattle.its_duties.specs.declared.role.FrameSource.TheVariants.{Frame, NoFrame}
use Rattle.its_duties.specs.declared.role.RecordFacts.{RecordFacts}
use Rattle.its_duties.specs.declared.role.Role.{Role}
use Rattle.its_duties.specs.declared.role.Role.TheVariants as roles
use Rattle.its_duties.specs.Seen.{Seen, IsRead, Carries, HasOctets, is_number, link_source_of}
use Rattle.its_duties.specs.Seen.{link_target_of}
use Rattle.its_duties.specs.Seen.{is_geonetworking, is_judged_on, is_of, is_of_other, is_for_it}
use Rattle.its_duties.specs.Seen.{comes_to_it, has_no_type, is_secured, IsUnread}
use Rattle.its_duties.specs.Seen.{is_sent, is_own, is_relay, is_unread_sent, is_heard, named_source}
use Rattle.its_duties.specs.Heard.{is_unread_of_it, may_be_own, may_be_relay}
use Rattle.its_duties.specs.Roles.{is_longer, may_be_longer, role_of, IsFrameIn, IsRecord, role_by}
use Rattle.its_duties.specs.Roles.{may_process, is_sent_other, is_unread_role}
use Rattle.its_duties.proofs.Kept.{InRange}
use Rattle.its_duties.proofs.Read.{no_packet_fault}
use Rattle.its_duties.proofs.RelayLaws.{and_first, and_second}

-- ---- by what is true of the record

-- The tests: no type, the station's link source, judged on the interface, the type of GeoNetworking,
-- for the station, its own source, and unread by the claims.
by_tests : (untyped mac judged geo for own : Bool)
    → cond untyped roles.Untyped
    (cond mac
    (cond (not judged) roles.Other (cond (not geo) roles.SentOther (cond own roles.Own roles.Forwarded)))
    (cond (not for) roles.Other (cond own roles.Other roles.Heard)))
    ≡ cond untyped roles.Untyped
    (cond (judged && mac && geo && own) roles.Own
    (cond (judged && mac && geo && not own) roles.Forwarded
    (cond (judged && mac && geo && false) roles.SentUnread
    (cond (not mac && for && not own) roles.Heard
    (cond false roles.Unread
    (cond (judged && mac && not geo) roles.SentOther roles.Other))))))
by_tests true mac judged geo for own = refl
by_tests false true true true for true = refl
by_tests false true true true for false = refl
by_tests false true true false for own = refl
by_tests false true false geo for own = refl
by_tests false false true geo true true = refl
by_tests false false true geo true false = refl
by_tests false false true geo false own = refl
by_tests false false false geo true true = refl
by_tests false false false geo true false = refl
by_tests false false false geo false own = refl

unread_tests : (untyped mac judged geo for may : Bool)
    → cond untyped roles.Untyped
    (cond mac (cond (not judged) roles.Other (cond (not geo) roles.SentOther roles.SentUnread))
    (cond (not for) roles.Other (cond (not geo) roles.Other (cond may roles.Unread roles.Other))))
    ≡ cond untyped roles.Untyped
    (cond (judged && mac && geo && false) roles.Own
    (cond (judged && mac && geo && false) roles.Forwarded
    (cond (judged && mac && geo && true) roles.SentUnread
    (cond (not mac && for && false) roles.Heard
    (cond (not mac && for && geo && may) roles.Unread
    (cond (judged && mac && not geo) roles.SentOther roles.Other))))))
unread_tests true mac judged geo for may = refl
unread_tests false true true true for may = refl
unread_tests false true true false for may = refl
unread_tests false true false geo for may = refl
unread_tests false false true true true true = refl
unread_tests false false true true true false = refl
unread_tests false false true false true may = refl
unread_tests false false true geo false may = refl
unread_tests false false false true true true = refl
unread_tests false false false true true false = refl
unread_tests false false false false true may = refl
unread_tests false false false geo false may = refl

-- the facts of a record
facts : Seen → FrameSource → RecordFacts
facts r frame = record {
  interface = r.interface;
  cut = r.cut;
  known_target = r.known_target;
  frame = frame;
}

-- what is asked of a record, with this frame
role_with : Claims → Seen → Bool → Option Transmission → Role
role_with k r longer frame = role_of k (record r { frame = frame }) longer

role_same : (f : FrameSource) (k : Claims) (r : Seen) → IsFrameIn r f
    → role_by k (facts r f) r.octets ≡ role_of k r (may_be_longer f)
unfolding facts role_with
role_same (Frame source) k r is =
    ap (λ (n : ℕ). role_by k (facts r (Frame n)) r.octets) (sym is.2)
    ∙ by_tests (has_no_type r) (is_number k.mac (link_source_of r))
    (is_judged_on k.interface r.interface) (is_geonetworking r)
    (is_for_it k.mac (link_target_of r)) (eqb is.0.pdu.vector.address k.address)
    ∙ ap (role_with k r false) (sym is.1)
role_same (NoFrame fault) k r is =
    unread_tests (has_no_type r) (is_number k.mac (link_source_of r))
    (is_judged_on k.interface r.interface) (is_geonetworking r)
    (is_for_it k.mac (link_target_of r))
    (not k.profile || r.cut || is_secured r || is_longer fault)
    ∙ ap (role_with k r (is_longer fault)) (sym is.0)

facts_are : (v : RecordFacts) (octets : List ℕ) (r : Seen) → IsRecord v octets r
    → v ≡ facts r v.frame
unfolding facts
facts_are v octets r is = λ i. record {
  interface = is.interface i;
  cut = is.cut i;
  known_target = is.known_target i;
  frame = v.frame;
}

pub role_proof : (k : Claims) (v : RecordFacts) (octets : List ℕ) (r : Seen) → IsRecord v octets r
    → role_by k v octets ≡ role_of k r (may_be_longer v.frame)
role_proof k v octets r is =
    ap (role_by k v) is.octets_are
    ∙ ap (λ (x : RecordFacts). role_by k x r.octets) (facts_are v octets r is)
    ∙ role_same v.frame k r is.frame

-- ---- what isn't read

long_frame : (t : Transmission) (w rest : List ℕ) → w ≡ frame_octets t ++ rest → length w < 14 → ⊥
unfolding link_header
long_frame t w rest is short = omega (arith, ap length is, short)

type_frame : (t : Transmission) (w rest : List ℕ) → w ≡ frame_octets t ++ rest
    → ether_type w ≡ ether_type (frame_octets t)
unfolding link_header
type_frame t w rest is = ap ether_type is

-- octets that begin with a frame may be longer than it
begins_longer : (fault : FrameFault) (r : Seen) (t : Transmission) (rest : List ℕ) → IsRead r
    → r.cut ≡ false → IsTransmission t → r.octets ≡ frame_octets t ++ rest
    → IsFrameFault r.octets fault → is_longer fault ≡ true
unfolding link_header
begins_longer faults.Short r t rest read cut fields is fault =
    absurd (long_frame t r.octets rest is fault)
begins_longer faults.EtherType r t rest read cut fields is fault =
    absurd (fault.1 (type_frame t r.octets rest is))
begins_longer faults.TooLong r t rest read cut fields is fault = refl
begins_longer (faults.Packet f) r t rest read cut fields is fault =
    absurd (no_packet_fault r t f read cut (record {
      target = t.link_target;
      in_range = fields.target;
      same_target = λ known. refl;
      rest = rest;
      octets = subst (λ (b : Bool). HasOctets b r.octets (frame_octets t) rest) (sym cut) is;
    }) (record { packet = fields.packet; source = fields.source }) fault.1)
begins_longer faults.Trailing r t rest read cut fields is fault = refl

either_third : (a b c d : Bool) → ((a || b) || c) ≡ true → (((a || b) || c) || d) ≡ true
either_third a b c d e = ap (λ (x : Bool). x || d) e

unread_by : (profile cut secured longer : Bool)
    → (profile ≡ true → (cut || secured) ≡ false → longer ≡ true)
    → (not profile || cut || secured || longer) ≡ true
unread_by false cut secured longer h = refl
unread_by true true secured longer h = refl
unread_by true false true longer h = refl
unread_by true false false longer h = h refl refl

neither : (a b : Bool) → (a || b) ≡ false → a ≡ false
neither true b e = absurd (true≢false e)
neither false b e = refl

-- if it comes to the station
unread_role_of : (untyped mac judged geo for may : Bool) → (untyped || (not mac && for && geo)) ≡ true
    → may ≡ true
    → (cond untyped roles.Untyped
    (cond (judged && mac && geo && false) roles.Own
    (cond (judged && mac && geo && false) roles.Forwarded
    (cond (judged && mac && geo && true) roles.SentUnread
    (cond (not mac && for && false) roles.Heard
    (cond (not mac && for && geo && may) roles.Unread
    (cond (judged && mac && not geo) roles.SentOther roles.Other)))))) ≡ roles.Unread)
    ⊎ (cond untyped roles.Untyped
    (cond (judged && mac && geo && false) roles.Own
    (cond (judged && mac && geo && false) roles.Forwarded
    (cond (judged && mac && geo && true) roles.SentUnread
    (cond (not mac && for && false) roles.Heard
    (cond (not mac && for && geo && may) roles.Unread
    (cond (judged && mac && not geo) roles.SentOther roles.Other)))))) ≡ roles.Untyped)
unread_role_of true mac judged geo for may e is = inr refl
unread_role_of false true judged geo for may e is = absurd (true≢false (sym e))
unread_role_of false false true true true true e is = inl refl
unread_role_of false false false true true true e is = inl refl
unread_role_of false false judged geo for false e is = absurd (true≢false (sym is))
unread_role_of false false judged false true true e is = absurd (true≢false (sym e))
unread_role_of false false judged geo false true e is = absurd (true≢false (sym e))

unread_at : (f : FrameSource) (k : Claims) (r : Seen) → IsFrameIn r f → IsRead r → IsUnread k r
    → (role_of k r (may_be_longer f) ≡ roles.Unread) ⊎ (role_of k r (may_be_longer f) ≡ roles.Untyped)
unfolding role_with
unread_at (Frame source) k r is read u = absurd (some_none is.0 r.frame is.1 u.none)
  where
    some_none : (t : Transmission) (o : Option Transmission) → o ≡ Some t → o ≡ None → ⊥
    some_none t o a b = cc
unread_at (NoFrame fault) k r is read u =
    subst (λ (o : Option Transmission).
    (role_with k r (is_longer fault) o ≡ roles.Unread)
    ⊎ (role_with k r (is_longer fault) o ≡ roles.Untyped)) (sym is.0)
    (unread_role_of (has_no_type r) (is_number k.mac (link_source_of r))
    (is_judged_on k.interface r.interface) (is_geonetworking r)
    (is_for_it k.mac (link_target_of r))
    (not k.profile || r.cut || is_secured r || is_longer fault) u.comes
    (unread_by k.profile r.cut (is_secured r) (is_longer fault) longer))
  where
    longer : k.profile ≡ true → (r.cut || is_secured r) ≡ false → is_longer fault ≡ true
    longer profile whole =
        let begins = u.profile profile whole in
        let cut = neither r.cut (is_secured r) whole in
        begins_longer fault r begins.0 begins.2 read cut begins.1 begins.3 (is.1 cut)

pub unread_proof : (k : Claims) (v : RecordFacts) (octets : List ℕ) (r : Seen) (role : Role)
    → role ≡ role_by k v octets → IsRecord v octets r → IsRead r → IsUnread k r
    → (role ≡ roles.Unread) ⊎ (role ≡ roles.Untyped)
unread_proof k v octets r role e is read u =
    subst (λ (x : Role). (x ≡ roles.Unread) ⊎ (x ≡ roles.Untyped))
    (sym (e ∙ role_proof k v octets r is)) (unread_at v.frame k r is.frame read u)

-- ---- what it may have sent

unread_role_by : (untyped own other unread heard may sent_other : Bool)
    → (unread ≡ true → (own ≡ false) × (other ≡ false))
    → (unread || untyped)
    ≡ is_unread_role
    (cond untyped roles.Untyped
    (cond own roles.Own
    (cond other roles.Forwarded
    (cond unread roles.SentUnread
    (cond heard roles.Heard
    (cond may roles.Unread (cond sent_other roles.SentOther roles.Other)))))))
unread_role_by true own other true heard may sent_other h = refl
unread_role_by true own other false heard may sent_other h = refl
unread_role_by false true other true heard may sent_other h = absurd (true≢false (h refl).0)
unread_role_by false false true true heard may sent_other h = absurd (true≢false (h refl).1)
unread_role_by false false false true heard may sent_other h = refl
unread_role_by false true other false heard may sent_other h = refl
unread_role_by false false true false heard may sent_other h = refl
unread_role_by false false false false true may sent_other h = refl
unread_role_by false false false false false true sent_other h = refl
unread_role_by false false false false false false true h = refl
unread_role_by false false false false false false false h = refl

not_read : (o : Option Transmission) (address : ℕ) (sent : Bool) → (sent && is_none o) ≡ true
    → ((sent && is_of address o) ≡ false) × ((sent && is_of_other address o) ≡ false)
not_read None address true e = (refl, refl)
not_read None address false e = (refl, refl)
not_read (Some t) address true e = absurd (true≢false (sym e))
not_read (Some t) address false e = absurd (true≢false (sym e))

unread_of_it : (k : Claims) (r : Seen) (longer : Bool)
    → is_unread_of_it k r ≡ is_unread_role (role_of k r longer)
unread_of_it k r longer =
    unread_role_by (has_no_type r) (is_own k r) (is_relay k r) (is_unread_sent k r) (is_heard k r)
    (may_process k r longer) (is_sent_other k r)
    (not_read r.frame k.address (is_sent k r))

pub own_maybe : (k : Claims) (role : Role) (octets : List ℕ) (r : Seen) (longer : Bool)
    → role ≡ role_of k r longer → octets ≡ r.octets
    → (is_unread_role role && (is_number k.address (named_source octets)
    || is_none (named_source octets))) ≡ may_be_own k r
own_maybe k role octets r longer is same =
    ap (λ (x : Role). is_unread_role x && (is_number k.address (named_source octets)
    || is_none (named_source octets))) is
    ∙ ap (λ (b : Bool). b && (is_number k.address (named_source octets)
    || is_none (named_source octets))) (sym (unread_of_it k r longer))
    ∙ ap (λ (w : List ℕ). is_unread_of_it k r && (is_number k.address (named_source w)
    || is_none (named_source w))) same

pub relay_maybe : (k : Claims) (role : Role) (octets : List ℕ) (r : Seen) (longer : Bool)
    → role ≡ role_of k r longer → octets ≡ r.octets
    → (is_unread_role role && not (is_number k.address (named_source octets)))
    ≡ may_be_relay k r
relay_maybe k role octets r longer is same =
    ap (λ (x : Role). is_unread_role x && not (is_number k.address (named_source octets))) is
    ∙ ap (λ (b : Bool). b && not (is_number k.address (named_source octets)))
    (sym (unread_of_it k r longer))
    ∙ ap (λ (w : List ℕ). is_unread_of_it k r && not (is_number k.address (named_source w))) same
