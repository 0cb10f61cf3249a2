-- A frame that was received has a record that was heard or isn't read, if all that was received was
-- recorded. So what is forwarded was made from one (faithful, in time).
use Rattle.std.proofs.Common.{◌≡◌, ◌≢◌, ◌⊎◌, ℕ, zero, suc, ◌+◌, ◌-◌, ◌*◌, ◌^◌, ◌≤◌, ◌<◌, Bool, true}
use Rattle.std.proofs.Common.{false}
use Rattle.std.proofs.Common.{cond, not, ◌&&◌, ◌||◌, List, [], ◌∷◌, ◌++◌, length, Option, Some}
use Rattle.std.proofs.Common.{None, eqb, refl, sym, ap, subst, ◌∙◌, true≢false, arith, inl, inr}
use Rattle.std.proofs.Common.{append-nil}
use Rattle.std.specs.Prelude.{nat_le, nat_lt, slice_get}
use Rattle.std.specs.List.{list_any}
use Rattle.std.proofs.lemmas.Bool.{ne_eqb, le-leb, cond-true, cases_lt}
use Rattle.std.proofs.lemmas.Bool.Decides.{nat_tests}
use Rattle.byteorder.specs.Endian.{big_number}
use Rattle.byteorder.specs.Numbers.{big_number-reads_back}
use Rattle.its_gnvalue.specs.Values.{mid_of, broadcast}
use Rattle.its_linkframe.specs.Frames.{IsTransmission, link_header, frame_octets}
use Rattle.its_linkframe.proofs.Fronts.{first_six, next_six, frame_bounds}
use Rattle.its_model.specs.Packet.{Pdu, Transmission}
use Rattle.its_model.specs.Calls.{Call}
use Rattle.its_model.specs.Calls.Call.{Receive}
use Rattle.its_model.specs.Station.{StationModel, is_for}
use Rattle.its_duties.specs.declared.claims.Claims.{Claims}
use Rattle.its_duties.specs.Seen.{Seen, IsRead, AreRead, Carries, HasOctets, sent_to, sendings}
use Rattle.its_duties.specs.Seen.{last_sending, latest, number_at, link_source_of}
use Rattle.its_duties.specs.Seen.{is_number, is_geonetworking, is_of_other, is_for_it, comes_to_it}
use Rattle.its_duties.specs.Seen.{is_heard, has_no_type, is_secured, IsUnread}
use Rattle.its_duties.specs.Times.{Shift, nanos, slack, wait, life, begin_of}
use Rattle.its_duties.specs.Times.{is_within, lies_in, caused_in, least}
use Rattle.its_duties.specs.Scenario.{Scenario, Explains, ArrivesBy}
use Rattle.its_duties.specs.Scenario.{IsUnrecorded, LeftInTime, IsStampOfSent, IsCall}
use Rattle.its_duties.specs.Forwarding.{IsSource, MayCause, longest, searched, by_retry}
use Rattle.its_duties.specs.Forwarding.{FailsFaithful, FailsInTime}
use Rattle.its_duties.specs.Duties.{IsModelled, IsRelayRecord, NoScenario}
use Rattle.its_duties.proofs.Kept.{InRange}
use Rattle.its_duties.proofs.Read.{is_read, frame_of_record}
use Rattle.its_duties.proofs.Causes.{relay_cause}

-- ---- addresses and type of octets that begin as a frame does

pub source_there : (w x y : List ℕ) (v : Transmission) → 14 ≤ length w → v.link_source < 2 ^ 48
    → w ++ x ≡ frame_octets v ++ y → number_at 6 6 w ≡ Some v.link_source
unfolding link_header
source_there (a ∷ b ∷ c ∷ d ∷ e ∷ f ∷ g ∷ h ∷ i ∷ j ∷ k ∷ l ∷ m ∷ n ∷ w) x y v long small is =
    cond-true (nat_le 12 (length (a ∷ b ∷ c ∷ d ∷ e ∷ f ∷ g ∷ h ∷ i ∷ j ∷ k ∷ l ∷ m ∷ n ∷ w))) _ _
    (le-leb _ _ (omega (arith, long)))
    ∙ ap Some (ap (λ (u : List ℕ). big_number 6 (next_six u)) is
    ∙ big_number-reads_back 6 v.link_source [] small)
source_there _ x y v long small is = absurd (omega arith)

pub target_there : (w x y : List ℕ) (v : Transmission) → 14 ≤ length w → v.link_target < 2 ^ 48
    → w ++ x ≡ frame_octets v ++ y → number_at 0 6 w ≡ Some v.link_target
unfolding link_header
target_there (a ∷ b ∷ c ∷ d ∷ e ∷ f ∷ g ∷ h ∷ i ∷ j ∷ k ∷ l ∷ m ∷ n ∷ w) x y v long small is =
    cond-true (nat_le 6 (length (a ∷ b ∷ c ∷ d ∷ e ∷ f ∷ g ∷ h ∷ i ∷ j ∷ k ∷ l ∷ m ∷ n ∷ w))) _ _
    (le-leb _ _ (omega (arith, long)))
    ∙ ap Some (ap (λ (u : List ℕ). big_number 6 (first_six u)) is
    ∙ big_number-reads_back 6 v.link_target [] small)
target_there _ x y v long small is = absurd (omega arith)

-- the two octets of the type
two_octets : List ℕ → List ℕ
two_octets (a ∷ b ∷ c ∷ d ∷ e ∷ f ∷ g ∷ h ∷ i ∷ j ∷ k ∷ l ∷ m ∷ n ∷ w) = m ∷ n ∷ []
two_octets _ = []

type_there : (w x y : List ℕ) (v : Transmission) → 14 ≤ length w
    → w ++ x ≡ frame_octets v ++ y → is_number 35143 (number_at 12 2 w) ≡ true
unfolding link_header two_octets
type_there (a ∷ b ∷ c ∷ d ∷ e ∷ f ∷ g ∷ h ∷ i ∷ j ∷ k ∷ l ∷ m ∷ n ∷ w) x y v long is =
    let type : m ∷ n ∷ [] ≡ 137 ∷ 71 ∷ [] = ap two_octets is in
    ap (is_number 35143)
    (cond-true (nat_le 14 (length (a ∷ b ∷ c ∷ d ∷ e ∷ f ∷ g ∷ h ∷ i ∷ j ∷ k ∷ l ∷ m ∷ n ∷ w))) _ _
    (le-leb _ _ (omega (arith, long)))
    ∙ ap (λ (u : List ℕ). Some (big_number 2 u)) type)
type_there _ x y v long is = absurd (omega arith)

-- the octets of a record, in one form for cut and whole ones
pub record Begins (w frame : List ℕ) : Type 0 where
  pub after : List ℕ
  pub rest : List ℕ
  pub is : w ++ after ≡ frame ++ rest

pub begins : (cut : Bool) (w frame rest : List ℕ) → HasOctets cut w frame rest → Begins w frame
begins true w frame rest h = record { after = rest; rest = []; is = h ∙ sym (append-nil frame) }
begins false w frame rest h = record { after = []; rest = rest; is = append-nil w ∙ h }

long_whole : (v : Transmission) (w rest : List ℕ) → w ≡ frame_octets v ++ rest → 14 ≤ length w
unfolding link_header
long_whole v w rest is = omega (arith, ap length is)

-- ---- heard, or not read

-- a frame of another station that is for this one
pub record IsForeign (k : Claims) (v : Transmission) : Type 0 where
  pub fields : IsTransmission v
  pub sender : v.link_source ≢ k.mac
  pub other : v.pdu.vector.address ≢ k.address
  pub target : (eqb v.link_target k.mac || eqb v.link_target broadcast) ≡ true

-- its record was heard, with this packet
pub record WasHeard (k : Claims) (r : Seen) (v : Transmission) : Type 0 where
  pub packet : Transmission
  pub frame : r.frame ≡ Some packet
  pub heard : is_heard k r ≡ true
  pub pdu : packet.pdu ≡ v.pdu
  pub hops : packet.hops_left ≡ v.hops_left

for_known : (known : Bool) (k : Claims) (target : ℕ) (there : Option ℕ) (v : Transmission)
    → there ≡ Some target → (known ≡ true → target ≡ v.link_target)
    → (eqb v.link_target k.mac || eqb v.link_target broadcast) ≡ true
    → is_for_it k.mac (cond known there None) ≡ true
for_known false k target there v at same is = refl
for_known true k target there v at same is =
    ap (is_for_it k.mac) at
    ∙ ap (λ (n : ℕ). eqb n k.mac || eqb n broadcast) (same refl) ∙ is

pub both : (a b : Bool) → a ≡ true → b ≡ true → (a && b) ≡ true
both a b p q = ap (λ x. x && b) p ∙ q

-- a record of such a frame with 14 octets comes to the station
comes : (k : Claims) (r : Seen) (v : Transmission) (c : Carries r v) → IsForeign k v
    → 14 ≤ length r.octets → (comes_to_it k r ≡ true) × (is_geonetworking r ≡ true)
comes k r v c f long =
    let b = begins r.cut r.octets (frame_octets (sent_to c.target v)) c.rest c.octets in
    let u = sent_to c.target v in
    let source : link_source_of r ≡ Some v.link_source =
    source_there r.octets b.after b.rest u long f.fields.source b.is in
    let target : number_at 0 6 r.octets ≡ Some c.target =
    target_there r.octets b.after b.rest u long c.in_range b.is in (
      both _ _ (ap (λ (o : Option ℕ). not (is_number k.mac o)) source
          ∙ ap not (ne_eqb v.link_source k.mac f.sender))
          (for_known r.known_target k c.target (number_at 0 6 r.octets) v target c.same_target
          f.target),
      type_there r.octets b.after b.rest u long b.is,
    )

of_other : (k : Claims) (o : Option Transmission) (u : Transmission) → o ≡ Some u
    → u.pdu.vector.address ≢ k.address → is_of_other k.address o ≡ true
of_other k o u is other =
    ap (is_of_other k.address) is ∙ ap not (ne_eqb u.pdu.vector.address k.address other)

pub in_range : (v : Transmission) → IsTransmission v → InRange v
in_range v f = record { packet = f.packet; source = f.source }

-- by what is read of the record
pub heard_by : (o : Option Transmission) (k : Claims) (r : Seen) (v : Transmission) → r.frame ≡ o
    → IsRead r → Carries r v → IsForeign k v → WasHeard k r v ⊎ IsUnread k r
heard_by (Some u) k r v is read c f =
    let same = frame_of_record r u v read is c (in_range v f.fields) in
    let long = (frame_bounds u r.octets (read.says u is)).0 in
    let pdu : u.pdu ≡ v.pdu = ap (λ (x : Transmission). x.pdu) same.is in
    inl (record {
      packet = u;
      frame = is;
      heard = both _ _ (comes k r v c f long).0
          (of_other k r.frame u is
          (λ e. f.other (ap (λ (p : Pdu). p.vector.address) (sym pdu) ∙ e)));
      pdu = pdu;
      hops = ap (λ (x : Transmission). x.hops_left) same.is;
    })
heard_by None k r v is read c f = inr (by r.cut refl)
  where
    u : Transmission
    u = sent_to c.target v

    fields : IsTransmission u
    fields =
        record { target = c.in_range; source = f.fields.source; packet = f.fields.packet }

    either : (a b : Bool) → b ≡ true → (a || b) ≡ true
    either true b e = refl
    either false b e = e

    long_or_short : (b : Bool) → r.cut ≡ true → nat_le 14 (length r.octets) ≡ b
        → (has_no_type r || (comes_to_it k r && is_geonetworking r)) ≡ true
    long_or_short true cut long =
        let there = comes k r v c f (le-of 14 (length r.octets) long) in
        either (has_no_type r) _ (both _ _ there.0 there.1)
      where
        le-of : (a b : ℕ) → nat_le a b ≡ true → a ≤ b
        le-of a b e = grind (arith, nat_tests)
    long_or_short false cut long =
        ap (λ (b : Bool). b || (comes_to_it k r && is_geonetworking r))
        (both r.cut (not (nat_le 14 (length r.octets))) cut (ap not long))

    whole : r.cut ≡ false → r.octets ≡ frame_octets u ++ c.rest
    whole e = subst (λ (b : Bool). HasOctets b r.octets (frame_octets u) c.rest) e c.octets

    not_cut : r.cut ≡ true → (r.cut || is_secured r) ≡ false → ⊥
    not_cut cut e = true≢false (ap (λ (b : Bool). b || is_secured r) (sym cut) ∙ e)

    by : (b : Bool) → r.cut ≡ b → IsUnread k r
    by true cut = record {
      none = is;
      comes = long_or_short (nat_le 14 (length r.octets)) cut refl;
      profile = λ profile e. absurd (not_cut cut e);
    }
    by false cut =
        let there = comes k r v c f (long_whole u r.octets c.rest (whole cut)) in
        record {
          none = is;
          comes = either (has_no_type r) _ (both _ _ there.0 there.1);
          profile = λ profile e. (u, fields, c.rest, whole cut);
        }

-- ---- the stamps

-- one of the sendings lies there
pub any_at : (p : ℕ → Bool) (xs : List ℕ) (n x : ℕ) → slice_get xs n ≡ Some x → p x ≡ true
    → list_any p xs ≡ true
any_at p [] n x at is = cc
any_at p (y ∷ xs) zero x at is =
    ap (λ (b : Bool). b || list_any p xs) (ap p (same y x at) ∙ is)
  where
    same : (y x : ℕ) → Some y ≡ Some x → y ≡ x
    same y x e = cc
any_at p (y ∷ xs) (suc n) x at is = either (p y) (list_any p xs) (any_at p xs n x at is)
  where
    either : (a b : Bool) → b ≡ true → (a || b) ≡ true
    either true b e = refl
    either false b e = e

pub within : (from to stamp : ℕ) → from ≤ stamp → stamp ≤ to
    → is_within (record { from = from; to = to }) stamp ≡ true
within from to stamp low high = both _ _ (le-leb from stamp low) (le-leb stamp to high)

-- when the frame of a forwarded packet left
pub record Forwarded (k : Claims) (shift : Shift) (retried : Bool)
    (stamp arrival : ℕ) : Type 0 where
  pub not_before : nanos arrival + shift.behind ≤ stamp + shift.ahead + slack k
  pub soon : stamp + shift.ahead
      ≤ nanos arrival + wait k + shift.behind + slack k + by_retry retried

pub forwarded : (retried : Bool) (k : Claims) (shift : Shift) (stamp arrival moment left : ℕ)
    → arrival ≤ moment → moment ≤ left → nanos left ≤ nanos arrival + wait k
    → IsStampOfSent k shift retried stamp left → Forwarded k shift retried stamp arrival
forwarded false k shift stamp arrival moment left a b c near = record {
  not_before = omega (arith, a, b, near.not_earlier);
  soon = omega (arith, c, near.not_later);
}
forwarded true k shift stamp arrival moment left a b c near = record {
  not_before = omega (arith, a, b, near.0);
  soon = omega (arith, c, near.1);
}

-- ---- the record of the frame that was forwarded

pub record Origin (k : Claims) (tap : List Seen) (j : ℕ) (seen : Seen)
    (frame : Transmission) : Type 0 where
  pub i : ℕ
  pub seen_origin : Seen
  pub stamp : ℕ
  pub number : ℕ
  pub packet : Transmission
  pub at : slice_get tap i ≡ Some seen_origin
  pub is_sending : slice_get (sendings seen_origin) number ≡ Some stamp
  pub before : stamp ≤ seen.moment + 2 * slack k
  pub soon : seen.moment ≤ stamp + wait k + 2 * slack k + by_retry seen.retried
  pub pdu : packet.pdu ≡ frame.pdu
  pub hops : packet.hops_left ≡ frame.hops_left + 1
  pub found : WasHeard k seen_origin packet ⊎ IsUnread k seen_origin

unrecorded : (k : Claims) (tap : List Seen) (shift : Shift) (retried : Bool) (stamp arrival : ℕ)
    → k.received ≡ true → begin_of tap + wait k + 2 * slack k + by_retry retried ≤ stamp
    → Forwarded k shift retried stamp arrival → IsUnrecorded k tap shift arrival → ⊥
unrecorded k tap shift retried stamp arrival received late f (inl claims) =
    true≢false (sym received ∙ claims)
unrecorded k tap shift retried stamp arrival received late f (inr early) =
    omega (arith, late, f.soon, early.1)

arrived : (o : Option ℕ) (k : Claims) (tap : List Seen) (shift : Shift) (j : ℕ) (seen : Seen)
    (frame v : Transmission) (arrival : ℕ)
    → AreRead tap → k.received ≡ true
    → begin_of tap + wait k + 2 * slack k + by_retry seen.retried ≤ seen.moment
    → Forwarded k shift seen.retried seen.moment arrival → v.pdu ≡ frame.pdu
    → v.hops_left ≡ frame.hops_left + 1 → IsForeign k v → ArrivesBy k tap shift v arrival o
    → Origin k tap j seen frame
arrived None k tap shift j seen frame v arrival all received late f pdu hops foreign a =
    absurd (unrecorded k tap shift seen.retried seen.moment arrival received late f a)
arrived (Some i) k tap shift j seen frame v arrival all received late f pdu hops foreign a = record {
  i = i;
  seen_origin = a.record_there;
  stamp = a.stamp;
  number = a.number;
  packet = v;
  at = a.at;
  is_sending = a.is_sending;
  before = omega (arith, a.near.not_later, f.not_before);
  soon = omega (arith, a.near.not_earlier, f.soon);
  pdu = pdu;
  hops = hops;
  found = heard_by a.record_there.frame k a.record_there v refl (is_read tap i _ all a.at) a.carries
      foreign;
}

-- by the call
pub left_by : (k : Claims) (call : Call) (v : Transmission) (moment arrival left : ℕ)
    → call ≡ Receive v → LeftInTime k call moment arrival left
    → nanos left ≤ nanos arrival + wait k
left_by k call v moment arrival left is h =
    subst (λ (c : Call). LeftInTime k c moment arrival left) is h

fewer : (n : ℕ) → 2 ≤ n → n ≡ n - 1 + 1
fewer n h = omega (arith, h)

pub for_mac : (k : Claims) (s : StationModel) (v : Transmission) → k.mac ≡ mid_of k.address
    → s.address ≡ k.address → is_for s v ≡ true
    → (eqb v.link_target k.mac || eqb v.link_target broadcast) ≡ true
for_mac k s v mac address is =
    ap (λ (n : ℕ). eqb v.link_target n || eqb v.link_target broadcast)
    (mac ∙ ap mid_of (sym address)) ∙ is

pub origin : (k : Claims) (tap : List Seen) (j : ℕ) (seen : Seen) (frame : Transmission)
    → AreRead tap → IsModelled k → IsRelayRecord k tap j seen frame → k.received ≡ true
    → begin_of tap + wait k + 2 * slack k + by_retry seen.retried ≤ seen.moment
    → (w : Scenario k tap) → Explains k tap w → Origin k tap j seen frame
origin k tap j seen frame all modelled is received late w x =
    let c = relay_cause k tap j seen frame all is w x in
    let g = c.0 in
    let v = c.1.packet in
    let n = x.call_of j in
    let h = w.heard n g.call v g.asked c.1.is_call in
    let relayed = c.1.frame in
    let f = forwarded seen.retried k w.shift seen.moment (w.arrival n) g.call.moment (x.left j)
    h.after g.after
    (left_by k g.call.call v g.call.moment (w.arrival n) (x.left j) c.1.is_call g.soon) g.near in
    let same : frame.pdu ≡ v.pdu =
    ap (λ (y : Transmission). y.pdu) (c.1.read.is)
    ∙ ap (λ (y : Transmission). y.pdu) relayed.is in
    let left : frame.hops_left ≡ v.hops_left - 1 =
    ap (λ (y : Transmission). y.hops_left) (c.1.read.is)
    ∙ ap (λ (y : Transmission). y.hops_left) relayed.is in
    arrived (w.record_of n) k tap w.shift j seen frame v (w.arrival n) all received late f
    (sym same) (fewer v.hops_left relayed.hops ∙ ap (λ (m : ℕ). m + 1) (sym left))
    (record {
      fields = subst IsCall c.1.is_call (w.in_range n g.call g.asked);
      sender = h.foreign;
      other = λ e. relayed.other (e ∙ sym c.1.kept.address);
      target = for_mac k c.1.station v modelled.mac c.1.kept.address relayed.for_it;
    }) h.arrives

-- ---- the sendings of a record

is_le : (a b : ℕ) → nat_le a b ≡ true → a ≤ b
is_le a b e = grind (arith, nat_tests)

is_gt : (a b : ℕ) → nat_le a b ≡ false → b < a
is_gt a b e = grind (arith, nat_tests)

is_lt : (a b : ℕ) → nat_lt a b ≡ true → a < b
is_lt a b e = grind (arith, nat_tests)

is_ge : (a b : ℕ) → nat_lt a b ≡ false → b ≤ a
is_ge a b e = grind (arith, nat_tests)

latest_step : (b : Bool) (last s : ℕ) (stamps : List ℕ) → nat_le last s ≡ b
    → s ≤ latest s stamps → last ≤ latest last stamps → last ≤ latest (cond b s last) stamps
latest_step true last s stamps e one two = omega (arith, is_le last s e, one)
latest_step false last s stamps e one two = two

latest_last : (last : ℕ) (stamps : List ℕ) → last ≤ latest last stamps
latest_last last [] = omega arith
latest_last last (s ∷ stamps) =
    latest_step (nat_le last s) last s stamps refl (latest_last s stamps) (latest_last last stamps)

latest_head : (b : Bool) (last t : ℕ) (stamps : List ℕ) → nat_le last t ≡ b
    → t ≤ latest (cond b t last) stamps
latest_head true last t stamps e = latest_last t stamps
latest_head false last t stamps e = omega (arith, is_gt last t e, latest_last last stamps)

same_stamp : (t s : ℕ) → Some t ≡ Some s → t ≡ s
same_stamp t s e = cc

latest_each : (last : ℕ) (stamps : List ℕ) (n s : ℕ) → slice_get stamps n ≡ Some s
    → s ≤ latest last stamps
latest_each last [] n s at = cc
latest_each last (t ∷ stamps) zero s at =
    omega (arith, same_stamp t s at, latest_head (nat_le last t) last t stamps refl)
latest_each last (t ∷ stamps) (suc n) s at =
    latest_each (cond (nat_le last t) t last) stamps n s at

pub sending_last : (r : Seen) (n s : ℕ) → slice_get (sendings r) n ≡ Some s → s ≤ last_sending r
sending_last r zero s at =
    omega (arith, same_stamp r.moment s at, latest_last r.moment r.repeats)
sending_last r (suc n) s at = latest_each r.moment r.repeats n s at

-- a sending that lies there
pub record Found (p : ℕ → Bool) (xs : List ℕ) : Type 0 where
  pub number : ℕ
  pub stamp : ℕ
  pub at : slice_get xs number ≡ Some stamp
  pub passes : p stamp ≡ true

found_by : (b : Bool) (p : ℕ → Bool) (x : ℕ) (xs : List ℕ) → p x ≡ b
    → (b || list_any p xs) ≡ true → (list_any p xs ≡ true → Found p xs) → Found p (x ∷ xs)
found_by true p x xs is e rest = record { number = 0; stamp = x; at = refl; passes = is }
found_by false p x xs is e rest =
    (let f = rest e in
    record { number = suc f.number; stamp = f.stamp; at = f.at; passes = f.passes })

pub any_found : (p : ℕ → Bool) (xs : List ℕ) → list_any p xs ≡ true → Found p xs
any_found p [] e = absurd (true≢false (sym e))
any_found p (x ∷ xs) e = found_by (p x) p x xs refl e (λ rest. any_found p xs rest)

below_by : (a b : Bool) (stamp to : ℕ) → nat_le stamp to ≡ b → (a && b) ≡ true → stamp ≤ to
below_by true true stamp to is e = is_le stamp to is
below_by true false stamp to is e = absurd (true≢false (sym e))
below_by false b stamp to is e = absurd (true≢false (sym e))

below : (from to stamp : ℕ) → is_within (record { from = from; to = to }) stamp ≡ true → stamp ≤ to
below from to stamp e = below_by (nat_le from stamp) (nat_le stamp to) stamp to refl e

-- ---- the begin

least_step : (b : Bool) (stamp moment : ℕ) (tap : List Seen) → nat_lt moment stamp ≡ b
    → least moment tap ≤ moment → least stamp tap ≤ stamp
    → least (cond b moment stamp) tap ≤ stamp
least_step true stamp moment tap e one two = omega (arith, is_lt moment stamp e, one)
least_step false stamp moment tap e one two = two

least_first : (stamp : ℕ) (tap : List Seen) → least stamp tap ≤ stamp
least_first stamp [] = omega arith
least_first stamp (r ∷ tap) =
    least_step (nat_lt r.moment stamp) stamp r.moment tap refl (least_first r.moment tap)
    (least_first stamp tap)

least_head : (b : Bool) (stamp moment : ℕ) (tap : List Seen) → nat_lt moment stamp ≡ b
    → least (cond b moment stamp) tap ≤ moment
least_head true stamp moment tap e = least_first moment tap
least_head false stamp moment tap e =
    omega (arith, is_ge moment stamp e, least_first stamp tap)

same_moment : (s r : Seen) → Some s ≡ Some r → s.moment ≡ r.moment
same_moment s r e = cc

least_each : (stamp : ℕ) (tap : List Seen) (i : ℕ) (r : Seen) → slice_get tap i ≡ Some r
    → least stamp tap ≤ r.moment
least_each stamp [] i r at = cc
least_each stamp (s ∷ tap) zero r at =
    omega (arith, same_moment s r at, least_head (nat_lt s.moment stamp) stamp s.moment tap refl)
least_each stamp (s ∷ tap) (suc i) r at =
    least_each (cond (nat_lt s.moment stamp) s.moment stamp) tap i r at

begin_first : (tap : List Seen) (i : ℕ) (r : Seen) → slice_get tap i ≡ Some r
    → begin_of tap ≤ r.moment
begin_first [] i r at = cc
begin_first (s ∷ tap) zero r at = omega (arith, same_moment s r at, least_first s.moment tap)
begin_first (s ∷ tap) (suc i) r at = least_each s.moment tap i r at

-- ---- faithful

longest_is : (k : Claims) → wait k + 2 * slack k ≤ longest k
longest_is k = by (nat_lt (life k) (wait k + 2 * slack k)) refl
  where
    by : (b : Bool) → nat_lt (life k) (wait k + 2 * slack k) ≡ b
        → wait k + 2 * slack k ≤ cond b (wait k + 2 * slack k) (life k)
    by true e = omega arith
    by false e = is_ge (life k) (wait k + 2 * slack k) e

-- the record that the packet was made from is where it is looked for
looked_for : (k : Claims) (tap : List Seen) (j : ℕ) (seen : Seen) (frame : Transmission)
    (o : Origin k tap j seen frame) → lies_in (searched k seen) o.seen_origin ≡ true
looked_for k tap j seen frame o =
    any_at (is_within (searched k seen)) (sendings o.seen_origin) o.number o.stamp o.is_sending
    (within (seen.moment - longest k - by_retry seen.retried) (seen.moment + 2 * slack k) o.stamp
    (omega (arith, o.soon, longest_is k)) o.before)

-- a record that was heard is a source of the packet
source_is : (k : Claims) (tap : List Seen) (j : ℕ) (seen : Seen) (frame : Transmission)
    (o : Origin k tap j seen frame) (h : WasHeard k o.seen_origin o.packet)
    → IsSource k tap o.i o.seen_origin h.packet frame
source_is k tap j seen frame o h = record {
  at = o.at;
  heard = h.heard;
  frame = h.frame;
  copy = inl (h.pdu ∙ o.pdu);
  hops = h.hops ∙ o.hops;
}

pub faithful_proof : (k : Claims) (tap : List Seen) (j : ℕ) → AreRead tap → IsModelled k
    → FailsFaithful k tap j → NoScenario k tap
faithful_proof k tap j all modelled f w x =
    let o = origin k tap j f.seen f.frame all modelled f.is f.received f.late w x in
    elim o.found [
      | inl h ↦ f.none o.i o.seen_origin h.packet (source_is k tap j f.seen f.frame o h)
          (looked_for k tap j f.seen f.frame o)
      | inr u ↦ f.all_read o.i o.seen_origin o.at u (looked_for k tap j f.seen f.frame o)
    ]

-- ---- in time

no_retry : (b : Bool) → b ≡ false → by_retry b ≡ 0
no_retry true e = absurd (true≢false e)
no_retry false e = refl

pub in_time_proof : (k : Claims) (tap : List Seen) (j : ℕ) → AreRead tap → IsModelled k
    → FailsInTime k tap j → NoScenario k tap
in_time_proof k tap j all modelled f w x = by (cases_lt (last_sending f.origin + wait k + 2 * slack k) f.seen.moment)
  where
    none_late : by_retry f.seen.retried ≡ 0
    none_late = no_retry f.seen.retried f.sure

    -- a sending of the record that the packet may have been made from
    earlier : Found (is_within (searched k f.seen)) (sendings f.origin)
    earlier = any_found (is_within (searched k f.seen)) (sendings f.origin) f.heard_before

    late : last_sending f.origin + wait k + 2 * slack k < f.seen.moment
        → begin_of tap + wait k + 2 * slack k + by_retry f.seen.retried ≤ f.seen.moment
    late lt = omega (
      arith,
      lt,
      none_late,
      begin_first tap f.i f.origin f.faithful.at,
      latest_last f.origin.moment f.origin.repeats,
    )

    cause : (o : Origin k tap j f.seen f.frame) → MayCause k o.seen_origin f.seen.moment
    cause o = record {
      number = o.number;
      sending = o.stamp;
      is_sending = o.is_sending;
      before = o.before;
      soon = omega (arith, o.soon, none_late, sending_last o.seen_origin o.number o.stamp o.is_sending);
    }

    lies : (o : Origin k tap j f.seen f.frame)
        → lies_in (caused_in k f.seen.moment) o.seen_origin ≡ true
    lies o = any_at (is_within (caused_in k f.seen.moment)) (sendings o.seen_origin) o.number o.stamp
        o.is_sending
        (within (f.seen.moment - wait k - 2 * slack k) (f.seen.moment + 2 * slack k) o.stamp
        (omega (arith, o.soon, none_late)) o.before)

    by : (last_sending f.origin + wait k + 2 * slack k < f.seen.moment)
        ⊎ (f.seen.moment ≤ last_sending f.origin + wait k + 2 * slack k) → ⊥
    by (inr soon) = f.none f.i f.origin f.packet f.faithful (record {
      number = earlier.number;
      sending = earlier.stamp;
      is_sending = earlier.at;
      before = below _ (f.seen.moment + 2 * slack k) earlier.stamp earlier.passes;
      soon = soon;
    })
    by (inl lt) =
        let o = origin k tap j f.seen f.frame all modelled f.is f.received (late lt) w x in
        elim o.found [
          | inl h ↦ f.none o.i o.seen_origin h.packet (source_is k tap j f.seen f.frame o h) (cause o)
          | inr u ↦ f.all_read o.i o.seen_origin o.at u (lies o)
        ]
