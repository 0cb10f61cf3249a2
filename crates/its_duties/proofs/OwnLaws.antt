-- A fail of these duties is a proof: form, link target, mobile bit, hops, lifetime, and the kind of
-- what is forwarded.
use Rattle.std.proofs.Common.{◌≡◌, ◌≢◌, ℕ, Bool, true, false, cond, not, ◌&&◌, ◌||◌, List}
use Rattle.std.proofs.Common.{Option, Some, None, eqb, refl, sym, ap, subst, ◌∙◌, true≢false}
use Rattle.std.specs.Prelude.{IfSome, nat_le}
use Rattle.std.proofs.lemmas.Bool.{eqb-false, eq-eqb}
use Rattle.its_faults.specs.declared.frame.FrameFault.{FrameFault}
use Rattle.its_faults.specs.declared.frame.FrameFault.TheVariants as frames
use Rattle.its_gnvalue.specs.Values.{broadcast, lifetime_millis}
use Rattle.its_headers.specs.Fields.{kind_of_body}
use Rattle.its_linkframe.specs.FrameFaults.{IsFrameFault}
use Rattle.its_model.specs.Packet.{Transmission, Body}
use Rattle.its_model.specs.Packet.Body.{beacon, shb, gbc, gac}
use Rattle.its_duties.specs.declared.claims.Claims.{Claims}
use Rattle.its_duties.specs.declared.verdict.Verdict.{Verdict}
use Rattle.its_duties.specs.declared.verdict.Verdict.TheVariants.{Pass, Fail, Inconclusive}
use Rattle.its_duties.specs.declared.verdict.Breach.{Breach}
use Rattle.its_duties.specs.declared.verdict.Breach.TheVariants as breaches
use Rattle.its_duties.specs.declared.verdict.Doubt.{Doubt}
use Rattle.its_duties.specs.declared.verdict.Doubt.TheVariants as doubts
use Rattle.its_duties.specs.Seen.{Seen, IsRead, AreRead, Carries, is_number, named_source}
use Rattle.its_duties.specs.Verdicts.{is_fail, is_secured_fault, breaks_frame}
use Rattle.its_duties.specs.Verdicts.{IsFormVerdict, is_single_hop, link_target_verdict, is_same}
use Rattle.its_duties.specs.Verdicts.{mobile_verdict, hops_verdict, is_beacon, lifetime_verdict_by}
use Rattle.its_duties.specs.Verdicts.{lifetime_verdict, kind_verdict}
use Rattle.its_duties.specs.Duties.{IsSentRecord, IsOwnRecord, IsRelayRecord, IsModelled}
use Rattle.its_duties.specs.Duties.{NoScenario}
use Rattle.its_duties.proofs.Kept.{InRange}
use Rattle.its_duties.proofs.Read.{is_read, IsFrameOf, no_packet_fault}
use Rattle.its_duties.proofs.Causes.{cause, own_cause, relay_cause}

-- neither is a fail
no_fail_of_doubt : (d : Doubt) → is_fail (Inconclusive d) ≡ true → ⊥
no_fail_of_doubt d e = true≢false (sym e)

-- ---- the link target

record BadTarget (known : Bool) (t : Transmission) : Type 0 where
  pub is_known : known ≡ true
  pub single : is_single_hop t.pdu.body ≡ true
  pub target : t.link_target ≢ broadcast

bad_target : (known single : Bool) (b : Bool) (t : Transmission) → is_single_hop t.pdu.body ≡ single
    → eqb t.link_target broadcast ≡ b
    → is_fail (cond (not known) (Inconclusive doubts.NoLinkTarget)
    (cond (single && not b) (Fail (breaches.LinkTarget t.link_target)) Pass)) ≡ true
    → BadTarget known t
bad_target false single b t s is e = absurd (true≢false (sym e))
bad_target true false b t s is e = absurd (true≢false (sym e))
bad_target true true true t s is e = absurd (true≢false (sym e))
bad_target true true false t s is e =
    record { is_known = refl; single = s; target = eqb-false t.link_target broadcast is }

-- a frame that is read from a record goes to all where the one of the station does
body_is : (r : Seen) (t u : Transmission) → IsFrameOf r t u → t.pdu.body ≡ u.pdu.body
body_is r t u f = ap (λ (x : Transmission). x.pdu.body) f.is

pub link_target_proof : (k : Claims) (tap : List Seen) (i : ℕ) (r : Seen) (t : Transmission)
    → AreRead tap → IsOwnRecord k tap i r t
    → is_fail (link_target_verdict r.known_target t) ≡ true → NoScenario k tap
link_target_proof k tap i r t all is fails w x =
    let c = own_cause k tap i r t all is w x in
    let bad = bad_target r.known_target (is_single_hop t.pdu.body)
    (eqb t.link_target broadcast) t refl refl fails in
    let single : is_single_hop c.0.frame.pdu.body ≡ true =
    ap is_single_hop (sym (body_is r t c.0.frame c.1.read)) ∙ bad.single in
    bad.target
    (ap (λ (y : Transmission). y.link_target) c.1.read.is
    ∙ c.1.read.same_target bad.is_known ∙ c.1.facts.to_all single)

-- ---- the mobile bit

same_is : (b : Bool) → is_same b b ≡ true
same_is true = refl
same_is false = refl

mobile_fits : (claimed : Option Bool) (t : Transmission)
    → IfSome claimed (λ mobile. t.pdu.mobile ≡ mobile)
    → is_fail (mobile_verdict claimed t) ≡ true → ⊥
mobile_fits None t fits e = true≢false (sym e)
mobile_fits (Some mobile) t fits e =
    true≢false (sym e ∙ ap (λ b. is_fail (cond b Pass (Fail (breaches.MobileBit t.pdu.mobile))))
    (ap (is_same t.pdu.mobile) (sym fits) ∙ same_is t.pdu.mobile))

mobile_same : (claimed : Option Bool) (a b : Bool) → a ≡ b
    → IfSome claimed (λ mobile. b ≡ mobile) → IfSome claimed (λ mobile. a ≡ mobile)
mobile_same None a b e h = h
mobile_same (Some m) a b e h = e ∙ h

pub mobile_proof : (k : Claims) (tap : List Seen) (i : ℕ) (r : Seen) (t : Transmission)
    → AreRead tap → IsOwnRecord k tap i r t → is_fail (mobile_verdict k.mobile t) ≡ true
    → NoScenario k tap
mobile_proof k tap i r t all is fails w x =
    let c = own_cause k tap i r t all is w x in
    mobile_fits k.mobile t
    (mobile_same k.mobile t.pdu.mobile c.1.station.mobile
    (ap (λ (y : Transmission). y.pdu.mobile) c.1.read.is ∙ c.1.facts.mobile) c.1.kept.mobile)
    fails

-- ---- the hops

hops_fit : (single : Bool) (t : Transmission) → is_single_hop t.pdu.body ≡ single
    → t.hops_left ≡ t.pdu.max_hops → (is_single_hop t.pdu.body ≡ true → t.pdu.max_hops ≡ 1)
    → is_fail (cond (eqb t.hops_left t.pdu.max_hops && (not single || eqb t.pdu.max_hops 1)) Pass
    (Fail (breaches.Hops t.hops_left t.pdu.max_hops))) ≡ true → ⊥
hops_fit true t s left one e =
    true≢false (sym e ∙ ap (λ b. is_fail
    (cond b Pass (Fail (breaches.Hops t.hops_left t.pdu.max_hops))))
    (ap (λ b. b && (false || eqb t.pdu.max_hops 1)) (eq-eqb _ _ left)
    ∙ ap (λ b. true && (false || b)) (eq-eqb _ _ (one s))))
hops_fit false t s left one e =
    true≢false (sym e ∙ ap (λ b. is_fail
    (cond b Pass (Fail (breaches.Hops t.hops_left t.pdu.max_hops))))
    (ap (λ b. b && (true || eqb t.pdu.max_hops 1)) (eq-eqb _ _ left)))

pub hops_proof : (k : Claims) (tap : List Seen) (i : ℕ) (r : Seen) (t : Transmission)
    → AreRead tap → IsOwnRecord k tap i r t → is_fail (hops_verdict t) ≡ true → NoScenario k tap
hops_proof k tap i r t all is fails w x =
    let c = own_cause k tap i r t all is w x in
    let same = c.1.read.is in
    let facts = c.1.facts in
    let max : t.pdu.max_hops ≡ c.0.frame.pdu.max_hops =
    ap (λ (y : Transmission). y.pdu.max_hops) same in
    hops_fit (is_single_hop t.pdu.body) t refl
    (ap (λ (y : Transmission). y.hops_left) same ∙ facts.all_left ∙ sym max)
    (λ s. max ∙ facts.one_hop (ap is_single_hop (sym (body_is r t c.0.frame c.1.read)) ∙ s)) fails

-- ---- the lifetime

lifetime_fits : (b : Bool) (claimed millis : ℕ) → (b ≡ true → millis ≡ claimed)
    → is_fail (lifetime_verdict_by b claimed millis) ≡ true → ⊥
lifetime_fits true claimed millis h e =
    true≢false (sym e ∙ ap (λ b. is_fail (cond b Pass (Fail (breaches.Lifetime millis))))
    (eq-eqb _ _ (h refl)))
lifetime_fits false claimed millis h e =
    other (nat_le 1000 millis && nat_le millis 600000) e
  where
    other : (b : Bool)
        → is_fail (cond b Pass (Inconclusive (doubts.LifetimeRange millis))) ≡ true → ⊥
    other true e = true≢false (sym e)
    other false e = true≢false (sym e)

-- only a beacon is one
beacon_is : (body : Body) → is_beacon (kind_of_body body) ≡ true → body ≡ beacon
beacon_is beacon e = refl
beacon_is (shb media message) e = absurd (true≢false (sym e))
beacon_is (gbc number area message) e = absurd (true≢false (sym e))
beacon_is (gac number area message) e = absurd (true≢false (sym e))

pub lifetime_proof : (k : Claims) (tap : List Seen) (i : ℕ) (r : Seen) (t : Transmission)
    → AreRead tap → IsModelled k → IsOwnRecord k tap i r t
    → is_fail (lifetime_verdict k t) ≡ true → NoScenario k tap
lifetime_proof k tap i r t all modelled is fails w x =
    let c = own_cause k tap i r t all is w x in
    lifetime_fits (is_beacon (kind_of_body t.pdu.body)) k.lifetime
    (lifetime_millis t.pdu.lifetime)
    (λ b. ap lifetime_millis (ap (λ (y : Transmission). y.pdu.lifetime) c.1.read.is
    ∙ c.1.facts.lifetime (sym (body_is r t c.0.frame c.1.read) ∙ beacon_is t.pdu.body b))
    ∙ sym modelled.lifetime) fails

-- ---- the kind of what is forwarded

bad_kind : (b : Bool) (t : Transmission)
    → is_fail (cond b (Fail (breaches.Kind (kind_of_body t.pdu.body))) Pass) ≡ true → b ≡ true
bad_kind true t e = refl
bad_kind false t e = absurd (true≢false (sym e))

pub kind_proof : (k : Claims) (tap : List Seen) (i : ℕ) (r : Seen) (t : Transmission)
    → AreRead tap → IsRelayRecord k tap i r t → is_fail (kind_verdict t) ≡ true → NoScenario k tap
kind_proof k tap i r t all is fails w x =
    let c = relay_cause k tap i r t all is w x in
    let single = bad_kind (is_single_hop t.pdu.body) t fails in
    true≢false (sym single ∙ ap is_single_hop (body_is r t c.0.frame c.1.read)
    ∙ ap (λ (y : Transmission). is_single_hop y.pdu.body) c.1.frame.is ∙ c.1.frame.for_area)

-- ---- the form

-- what breaks the form of a packet
pub breaks_by : (secured named breaks : Bool) (fault : FrameFault) (breach : Breach)
    → Fail breach
    ≡ cond secured (Inconclusive (doubts.OutsideProfile fault))
    (cond (not named) (Inconclusive (doubts.NotRead fault))
    (cond breaks (Fail (breaches.Form fault)) (Inconclusive (doubts.OutsideProfile fault))))
    → breaks ≡ true
breaks_by true named breaks fault breach e = absurd (true≢false (ap is_fail e))
breaks_by false false breaks fault breach e = absurd (true≢false (ap is_fail e))
breaks_by false true true fault breach e = refl
breaks_by false true false fault breach e = absurd (true≢false (ap is_fail e))

-- no frame of the station has such a fault
pub no_form_fault : (fault : FrameFault) (r : Seen) (u : Transmission) → IsRead r → r.cut ≡ false
    → Carries r u → InRange u → breaks_frame fault r.octets ≡ true → IsFrameFault r.octets fault
    → ⊥
unfolding breaks_frame
no_form_fault frames.Short r u read whole c range breaks fault = true≢false (sym breaks)
no_form_fault frames.EtherType r u read whole c range breaks fault = true≢false (sym breaks)
no_form_fault frames.TooLong r u read whole c range breaks fault = true≢false (sym breaks)
no_form_fault (frames.Packet f) r u read whole c range breaks fault =
    no_packet_fault r u f read whole c range fault.1
no_form_fault frames.Trailing r u read whole c range breaks fault = true≢false (sym breaks)

form_by : (cut : Bool) (verdict : Verdict) (k : Claims) (tap : List Seen) (i : ℕ) (r : Seen)
    → r.cut ≡ cut → AreRead tap → IsSentRecord k tap i r
    → IsFormVerdict k.address cut r.octets verdict → is_fail verdict ≡ true → NoScenario k tap
form_by true verdict k tap i r cut all is judged fails w x =
    true≢false (sym fails ∙ ap is_fail judged)
form_by false Pass k tap i r cut all is judged fails w x = true≢false (sym fails)
form_by false (Inconclusive doubt) k tap i r cut all is judged fails w x = true≢false (sym fails)
form_by false (Fail breach) k tap i r cut all is judged fails w x =
    let g = x.gave i r is.at is.sent in
    let c = cause w r (x.call_of i) (x.left i) g in
    let fault = judged.0 in
    no_form_fault fault r g.frame (is_read tap i r all is.at) cut g.carries c.range
    (breaks_by (is_secured_fault fault r.octets) (is_number k.address (named_source r.octets))
    (breaks_frame fault r.octets) fault breach judged.2) judged.1

pub form_proof : (k : Claims) (tap : List Seen) (i : ℕ) (r : Seen) (cut : Bool) (octets : List ℕ)
    (verdict : Verdict)
    → AreRead tap → IsSentRecord k tap i r → r.cut ≡ cut → r.octets ≡ octets
    → IsFormVerdict k.address cut octets verdict → is_fail verdict ≡ true → NoScenario k tap
form_proof k tap i r cut octets verdict all is same_cut same judged fails =
    form_by cut verdict k tap i r same_cut all is
    (subst (λ (w : List ℕ). IsFormVerdict k.address cut w verdict) (sym same) judged) fails
