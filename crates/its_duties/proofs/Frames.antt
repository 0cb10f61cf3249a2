-- The frames that a station gives, by the calls that gave them.
use Rattle.std.proofs.Common.{◌≡◌, ◌≢◌, ℕ, ◌+◌, ◌≤◌, Bool, true, false, cond, not, Option, Some}
use Rattle.std.proofs.Common.{None}
use Rattle.std.proofs.Common.{eqb, refl, sym, subst, true≢false, arith}
use Rattle.std.specs.Prelude.{nat_le}
use Rattle.std.proofs.lemmas.Bool.{eqb-false}
use Rattle.std.proofs.lemmas.Bool.Decides.{nat_tests}
use Rattle.its_gnvalue.specs.Values.{mid_of, broadcast}
use Rattle.its_geometry.specs.Area.{GeoArea, area_holds}
use Rattle.its_model.specs.Packet.{Body, Transmission, relay}
use Rattle.its_model.specs.Packet.Body.{beacon, shb, gbc, gac}
use Rattle.its_model.specs.Decision.{Decision}
use Rattle.its_model.specs.Decision.Decision.{Broadcast, To, Drop}
use Rattle.its_model.specs.Calls.{OwnCall, Refusal, GbcRequest}
use Rattle.its_model.specs.Calls.OwnCall.{Move, Open, Close, Tick, SendShb, SendGbc, SendGac}
use Rattle.its_model.specs.Calls.OwnCall.{Restart}
use Rattle.its_model.specs.Calls.Why.{NotForMe, OwnSource}
use Rattle.its_model.specs.Calls.Refusal.{HopLimitZero}
use Rattle.its_model.specs.Calls.Answer.{Sent, Quiet}
use Rattle.its_model.specs.Station.{StationModel, Step, Verdict, first, moment_refusal, own_refusal}
use Rattle.its_model.specs.Station.{payload_refusal, area_refusal, beacon_of, shb_of, gbc_of}
use Rattle.its_model.specs.Station.{gac_of}
use Rattle.its_model.specs.Station.{performed, own_step_by, own_step, after_sending, after_hearing}
use Rattle.its_model.specs.Station.{or_else, is_for, verdict, decided, sent_on, passed_on, relayed}
use Rattle.its_model.specs.Station.{receive_step_by, receive_step}
use Rattle.its_model.specs.Station.Verdict.{Accept, Ignore, Refuse}
use Rattle.its_model.specs.World.{frame_of}
use Rattle.its_duties.specs.Verdicts.{is_single_hop}

-- what is the same as something
pub some_is : {X : Type 0} (x y : X) → Some x ≡ Some y → x ≡ y
some_is x y e = cc

-- ---- its own

-- the frame that this call gave of a station at a moment
abbrev pub IsOwnFrame : OwnCall → StationModel → ℕ → Transmission → Type 0
IsOwnFrame (Move place accurate speed heading) s moment t = ⊥
IsOwnFrame (Open port) s moment t = ⊥
IsOwnFrame (Close port) s moment t = ⊥
IsOwnFrame (Tick jitter) s moment t = (t ≡ beacon_of s) × (s.beacon_from + jitter ≤ moment)
IsOwnFrame (SendShb r) s moment t = t ≡ shb_of s r
IsOwnFrame (SendGbc r) s moment t = (t ≡ gbc_of s moment r) × (r.max_hops ≢ 0)
IsOwnFrame (SendGac r) s moment t = (t ≡ gac_of s moment r) × (r.max_hops ≢ 0)
IsOwnFrame (Restart number) s moment t = ⊥

-- where no refusal applies, neither of two does
first_none : (a b : Option Refusal) → first a b ≡ None → b ≡ None
first_none None b h = h
first_none (Some r) b h = cc

-- a packet for an area that isn't refused has a hop
some_hops : (r : GbcRequest) → area_refusal r ≡ None → r.max_hops ≢ 0
some_hops r h zero_hops =
    by (eqb r.max_hops 0) refl (first_none (payload_refusal r.message) _ h)
  where
    by : (b : Bool) → eqb r.max_hops 0 ≡ b → cond b (Some HopLimitZero) None ≡ None → ⊥
    by true e none = cc
    by false e none = eqb-false r.max_hops 0 e zero_hops

is_at_most : (a b : ℕ) → nat_le a b ≡ true → a ≤ b
is_at_most a b e = grind (arith, nat_tests)

-- a tick gives a beacon if it is due
ticked : (b : Bool) (s : StationModel) (moment jitter : ℕ) (t : Transmission)
    → nat_le (s.beacon_from + jitter) moment ≡ b
    → frame_of
    (cond {A = Step} b (record { answer = Sent (beacon_of s); station = after_sending s moment })
    (record { answer = Quiet; station = record s { clock = moment } })).answer ≡ Some t
    → IsOwnFrame (Tick jitter) s moment t
ticked true s moment jitter t due e =
    (sym (some_is (beacon_of s) t e), is_at_most (s.beacon_from + jitter) moment due)
ticked false s moment jitter t due e = cc

-- a call that isn't refused
performed_frame : (call : OwnCall) (s : StationModel) (moment : ℕ) (t : Transmission)
    → own_refusal s call ≡ None → frame_of (performed s moment call).answer ≡ Some t
    → IsOwnFrame call s moment t
performed_frame (Move place accurate speed heading) s moment t ok e = cc
performed_frame (Open port) s moment t ok e = cc
performed_frame (Close port) s moment t ok e = cc
performed_frame (Tick jitter) s moment t ok e =
    ticked (nat_le (s.beacon_from + jitter) moment) s moment jitter t refl e
performed_frame (SendShb r) s moment t ok e = sym (some_is (shb_of s r) t e)
performed_frame (SendGbc r) s moment t ok e =
    (sym (some_is (gbc_of s moment r) t e), some_hops r ok)
performed_frame (SendGac r) s moment t ok e =
    (sym (some_is (gac_of s moment r) t e), some_hops r ok)
performed_frame (Restart number) s moment t ok e = cc

own_frame_by : (o : Option Refusal) (call : OwnCall) (s : StationModel) (moment : ℕ)
    (t : Transmission)
    → first (moment_refusal s moment) (own_refusal s call) ≡ o
    → frame_of (own_step_by s moment call o).answer ≡ Some t → IsOwnFrame call s moment t
own_frame_by (Some r) call s moment t is e = cc
own_frame_by None call s moment t is e =
    performed_frame call s moment t (first_none (moment_refusal s moment) (own_refusal s call) is) e

-- any call of its own
pub own_frame : (call : OwnCall) (s : StationModel) (moment : ℕ) (t : Transmission)
    → frame_of (own_step s moment call).answer ≡ Some t → IsOwnFrame call s moment t
unfolding own_step
own_frame call s moment t e =
    own_frame_by (first (moment_refusal s moment) (own_refusal s call)) call s moment t refl e

-- what its own frames have in common
pub record OwnFacts (s : StationModel) (u : Transmission) : Type 0 where
  pub vector : u.pdu.vector ≡ s.vector
  pub to_all : is_single_hop u.pdu.body ≡ true → u.link_target ≡ broadcast
  pub mobile : u.pdu.mobile ≡ s.mobile
  pub all_left : u.hops_left ≡ u.pdu.max_hops
  pub one_hop : is_single_hop u.pdu.body ≡ true → u.pdu.max_hops ≡ 1
  pub lifetime : u.pdu.body ≡ beacon → u.pdu.lifetime ≡ 26

beacon_facts : (s : StationModel) → OwnFacts s (beacon_of s)
beacon_facts s = record {
  vector = refl;
  to_all = λ h. refl;
  mobile = refl;
  all_left = refl;
  one_hop = λ h. refl;
  lifetime = λ h. refl;
}

pub own_facts : (call : OwnCall) (s : StationModel) (moment : ℕ) (u : Transmission)
    → IsOwnFrame call s moment u → OwnFacts s u
own_facts (Move place accurate speed heading) s moment u h = absurd h
own_facts (Open port) s moment u h = absurd h
own_facts (Close port) s moment u h = absurd h
own_facts (Tick jitter) s moment u h = subst (OwnFacts s) (sym h.0) (beacon_facts s)
own_facts (SendShb r) s moment u h = subst (OwnFacts s) (sym h) (record {
  vector = refl;
  to_all = λ h. refl;
  mobile = refl;
  all_left = refl;
  one_hop = λ h. refl;
  lifetime = λ h. refl;
})
own_facts (SendGbc r) s moment u h = subst (OwnFacts s) (sym h.0) (record {
  vector = refl;
  to_all = λ h. absurd (true≢false (sym h));
  mobile = refl;
  all_left = refl;
  one_hop = λ h. absurd (true≢false (sym h));
  lifetime = λ h. cc;
})
own_facts (SendGac r) s moment u h = subst (OwnFacts s) (sym h.0) (record {
  vector = refl;
  to_all = λ h. absurd (true≢false (sym h));
  mobile = refl;
  all_left = refl;
  one_hop = λ h. absurd (true≢false (sym h));
  lifetime = λ h. cc;
})
own_facts (Restart number) s moment u h = absurd h

-- ---- those that it forwards

-- a frame that was accepted, with one hop fewer
pub record IsRelayFrame (s : StationModel) (u t : Transmission) : Type 0 where
  pub target : ℕ
  pub is : t ≡ relay u (mid_of s.address) target
  pub hops : 2 ≤ u.hops_left
  pub other : u.pdu.vector.address ≢ s.address
  pub for_it : is_for s u ≡ true
  pub for_area : is_single_hop u.pdu.body ≡ false

-- to whom a packet goes
record IsOn (s : StationModel) (u t : Transmission) : Type 0 where
  pub target : ℕ
  pub is : t ≡ relay u (mid_of s.address) target
  pub hops : 2 ≤ u.hops_left

sent_frame : (d : Decision) (s : StationModel) (u t : Transmission) → 2 ≤ u.hops_left
    → sent_on s u d ≡ Some t → IsOn s u t
sent_frame Broadcast s u t hops e =
    record { target = broadcast; is = sym (some_is _ t e); hops = hops }
sent_frame (To mac) s u t hops e =
    record { target = mac; is = sym (some_is _ t e); hops = hops }
sent_frame Drop s u t hops e = cc

passed_by : (b : Bool) (d : Decision) (s : StationModel) (u t : Transmission)
    → nat_le 2 u.hops_left ≡ b → cond b (sent_on s u d) None ≡ Some t → IsOn s u t
passed_by true d s u t hops e = sent_frame d s u t (is_at_most 2 u.hops_left hops) e
passed_by false d s u t hops e = cc

passed_frame : (s : StationModel) (moment : ℕ) (u t : Transmission) (area : GeoArea)
    → passed_on s moment u area ≡ Some t → IsOn s u t
passed_frame s moment u t area e =
    passed_by (nat_le 2 u.hops_left) (decided s moment area (Some u.link_source)) s u t refl e

-- by the body
record IsOnForArea (s : StationModel) (u t : Transmission) (body : Body) : Type 0 where
  pub on : IsOn s u t
  pub for_area : is_single_hop body ≡ false

anycast_by : (b : Bool) (s : StationModel) (moment : ℕ) (u t : Transmission) (area : GeoArea)
    → cond b None (passed_on s moment u area) ≡ Some t → IsOn s u t
anycast_by true s moment u t area e = cc
anycast_by false s moment u t area e = passed_frame s moment u t area e

relayed_frame : (body : Body) (s : StationModel) (moment : ℕ) (u t : Transmission)
    → relayed s moment u body ≡ Some t → IsOnForArea s u t body
relayed_frame beacon s moment u t e = cc
relayed_frame (shb media message) s moment u t e = cc
relayed_frame (gbc number area message) s moment u t e =
    record { on = passed_frame s moment u t area e; for_area = refl }
relayed_frame (gac number area message) s moment u t e =
    record {
      on = anycast_by (area_holds area s.vector.place) s moment u t area e;
      for_area = refl;
    }

-- what is accepted isn't its own
not_own : (o : Option Refusal) (a b : Bool) (rest : Verdict) (m n : ℕ) → eqb m n ≡ b
    → or_else o (cond a (Ignore NotForMe) (cond b (Ignore OwnSource) rest)) ≡ Accept → m ≢ n
not_own (Some r) a b rest m n is e = cc
not_own None true b rest m n is e = cc
not_own None false true rest m n is e = cc
not_own None false false rest m n is e = eqb-false m n is

pub accepted_other : (s : StationModel) (moment : ℕ) (u : Transmission)
    → verdict s moment u ≡ Accept → u.pdu.vector.address ≢ s.address
unfolding verdict
accepted_other s moment u e =
    not_own (moment_refusal s moment) (not (is_for s u)) (eqb u.pdu.vector.address s.address) _
    u.pdu.vector.address s.address refl e

for_by : (o : Option Refusal) (a : Bool) (rest : Verdict)
    → or_else o (cond (not a) (Ignore NotForMe) rest) ≡ Accept → a ≡ true
for_by (Some r) a rest e = cc
for_by None true rest e = refl
for_by None false rest e = cc

pub accepted_for : (s : StationModel) (moment : ℕ) (u : Transmission)
    → verdict s moment u ≡ Accept → is_for s u ≡ true
unfolding verdict
accepted_for s moment u e = for_by (moment_refusal s moment) (is_for s u) _ e

relay_frame_by : (v : Verdict) (s : StationModel) (moment : ℕ) (u t : Transmission)
    → verdict s moment u ≡ v → frame_of (receive_step_by s moment u v).answer ≡ Some t
    → IsRelayFrame s u t
relay_frame_by (Refuse r) s moment u t is e = cc
relay_frame_by (Ignore why) s moment u t is e = cc
relay_frame_by Accept s moment u t is e =
    let on = relayed_frame u.pdu.body (after_hearing s moment u) moment u t e in
    record {
      target = on.on.target;
      is = on.on.is;
      hops = on.on.hops;
      other = accepted_other s moment u is;
      for_it = accepted_for s moment u is;
      for_area = on.for_area;
    }

-- a frame that it gives for one that came
pub relay_frame : (s : StationModel) (moment : ℕ) (u t : Transmission)
    → frame_of (receive_step s moment u).answer ≡ Some t → IsRelayFrame s u t
unfolding receive_step
relay_frame s moment u t e = relay_frame_by (verdict s moment u) s moment u t refl e
