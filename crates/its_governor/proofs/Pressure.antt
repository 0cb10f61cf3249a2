-- What is withheld under pressure, and what isn't.
use Rattle.std.proofs.Common.{◌≡◌, ℕ, ◌*◌, ◌&&◌, ◌||◌, Bool, true, false, leb, not}
use Rattle.std.proofs.Common.{List, [], ◌∷◌, Option, Some, None, refl, sym, ap, ◌∙◌}
use Rattle.std.proofs.Common.{is_some, ◌⊎◌, inl, inr}
use Rattle.std.proofs.lemmas.Bool.{leb-false, le-leb, ltb-true, ltb-false, lt-ltb, false≢true}
use Rattle.std.proofs.lemmas.Option.{none-some}
use Rattle.std.specs.Option.{option_map}
use Rattle.its_model.specs.Packet.{Transmission}
use Rattle.its_model.specs.Calls as model
use Rattle.its_model.specs.Calls.{Answer}
use Rattle.its_governor.specs.declared.bucket.Bucket.{Bucket}
use Rattle.its_governor.specs.declared.governor.Governor.{Governor}
use Rattle.its_governor.specs.declared.rate.Rate.{Rate}
use Rattle.its_governor.specs.declared.rate.Limits.{Limits}
use Rattle.its_governor.specs.declared.receiver.Receiver.{Receiver}
use Rattle.its_governor.specs.Bucket.{parts_at, is_low, full, drawn_at}
use Rattle.its_governor.specs.Shares.{ShareState, is_within_share, with_frame}
use Rattle.its_governor.specs.Pressure.{has_share, is_its_turn, is_pressed}
use Rattle.its_governor.specs.Governing.{after_delivery, after_forwarding, after_judging, after_call}
use Rattle.its_governor.specs.Governing.{passed_of, is_echo, room_in, source_room, shares_noted}
use Rattle.its_governor.specs.Governing.{IsNewGovernor, new_shares}
use Rattle.its_governor.specs.Deliveries.{GovernedCall, after_governed, after_calls}
use Rattle.its_governor.specs.Forwarding.{IsPressedOut, IsWithheldFor, IsWithheld, forwarded_in}
use Rattle.its_governor.specs.Forwarding.{times}
use Rattle.its_governor.specs.Sharing.{KeepsRules, SharesAreKept, HoldsFourFifths}
use Rattle.its_governor.specs.Sharing.{NewSourcesTakeNothing}
use Rattle.its_governor.proofs.Forwarding.{passed_in}

-- ---- why a frame is withheld

out_by : (low known within turn : Bool) → (not low || (known && within && turn)) ≡ false
    → (low ≡ true) × ((known ≡ false) ⊎ (within ≡ false) ⊎ (turn ≡ false))
out_by false known within turn e = absurd (false≢true (sym e))
out_by true false within turn e = (refl, inl refl)
out_by true true false turn e = (refl, inr (inl refl))
out_by true true true false e = (refl, inr (inr refl))
out_by true true true true e = absurd (false≢true (sym e))

pressed_out : (f : Option Bucket) (o : Option ShareState) (r : Receiver) (now : ℕ)
    (t : Transmission) → has_share f o r now t ≡ false → IsPressedOut f o r now t
pressed_out None o r now t e = absurd (false≢true (sym e))
pressed_out (Some b) None r now t e = absurd (false≢true (sym e))
pressed_out (Some b) (Some s) r now t e =
    by (out_by (is_low b now) r.knew_source
    (is_within_share b.rate s.frames t.pdu.vector.address now) (is_its_turn b r.address now t) e)
  where
    by : (is_low b now ≡ true) × ((r.knew_source ≡ false)
        ⊎ (is_within_share b.rate s.frames t.pdu.vector.address now ≡ false)
        ⊎ (is_its_turn b r.address now t ≡ false)) → IsPressedOut (Some b) (Some s) r now t
    by (low, inl known) = (ltb-true _ _ low, inl known)
    by (low, inr (inl within)) = (ltb-true _ _ low, inr (inl within))
    by (low, inr (inr turn)) = (ltb-true _ _ low, inr (inr (ltb-false _ _ turn)))

-- ---- why a packet is withheld

withheld_by : (echo cap common own share : Bool)
    → (not echo && (cap && common && own && share)) ≡ false
    → (echo ≡ true) ⊎ (cap ≡ false) ⊎ (common ≡ false) ⊎ (own ≡ false) ⊎ (share ≡ false)
withheld_by true cap common own share e = inl refl
withheld_by false false common own share e = inr (inl refl)
withheld_by false true false own share e = inr (inr (inl refl))
withheld_by false true true false share e = inr (inr (inr (inl refl)))
withheld_by false true true true false e = inr (inr (inr (inr refl)))
withheld_by false true true true true e = absurd (false≢true (sym e))

pub withheld : (g : Governor) (r : Receiver) (now : ℕ) (t : Transmission) → IsWithheld g r now t
withheld g r now t handed e =
    by (withheld_by (is_echo g.delivered now t) (leb t.hops_left g.hop_cap)
    (room_in g.forward now) (source_room g.sources t.pdu.vector.address now)
    (has_share g.forward g.shares r now t) e)
  where
    by : (is_echo g.delivered now t ≡ true) ⊎ (leb t.hops_left g.hop_cap ≡ false)
        ⊎ (room_in g.forward now ≡ false)
        ⊎ (source_room g.sources t.pdu.vector.address now ≡ false)
        ⊎ (has_share g.forward g.shares r now t ≡ false) → IsWithheldFor g r now t
    by (inl e) = inl e
    by (inr (inl e)) = inr (inl (leb-false t.hops_left g.hop_cap e))
    by (inr (inr (inl e))) = inr (inr (inl e))
    by (inr (inr (inr (inl e)))) = inr (inr (inr (inl e)))
    by (inr (inr (inr (inr e)))) =
        inr (inr (inr (inr (pressed_out g.forward g.shares r now t e))))

-- ---- shares are kept

share_by : (low known within turn : Bool) → known ≡ true → within ≡ true → turn ≡ true
    → (not low || (known && within && turn)) ≡ true
share_by false known within turn a b c = refl
share_by true true true true a b c = refl
share_by true true true false a b c = absurd (false≢true c)
share_by true true false turn a b c = absurd (false≢true b)
share_by true false within turn a b c = absurd (false≢true a)

shares_by : (f : Option Bucket) (o : Option ShareState) (r : Receiver) (now : ℕ)
    (t : Transmission) → KeepsRules f o r now t → has_share f o r now t ≡ true
shares_by None o r now t keeps = refl
shares_by (Some b) None r now t keeps = refl
shares_by (Some b) (Some s) r now t keeps =
    share_by (is_low b now) r.knew_source
    (is_within_share b.rate s.frames t.pdu.vector.address now) (is_its_turn b r.address now t)
    keeps.0 keeps.1 (lt-ltb _ _ keeps.2)

passes_by : (echo cap common own share : Bool) → echo ≡ false → cap ≡ true → common ≡ true
    → own ≡ true → share ≡ true → (not echo && (cap && common && own && share)) ≡ true
passes_by false true true true true a b c d e = refl
passes_by true cap common own share a b c d e = absurd (false≢true (sym a))
passes_by false false common own share a b c d e = absurd (false≢true b)
passes_by false true false own share a b c d e = absurd (false≢true c)
passes_by false true true false share a b c d e = absurd (false≢true d)
passes_by false true true true false a b c d e = absurd (false≢true e)

pub shares_kept : (g : Governor) → SharesAreKept g
shares_kept g calls r now t handed echo cap common own keeps =
    let h = after_calls g calls in
    passes_by (is_echo h.delivered now t) (leb t.hops_left h.hop_cap) (room_in h.forward now)
    (source_room h.sources t.pdu.vector.address now) (has_share h.forward h.shares r now t)
    echo (le-leb t.hops_left h.hop_cap cap) common own
    (shares_by h.forward h.shares r now t keeps)

-- ---- what new sources take

-- there are shares
abbrev Shared : Option ShareState → Type 0
Shared o = (s : ShareState) × (o ≡ Some s)

shared_if : (g : Governor) (s : ShareState) (now source : ℕ) (sent p : Bool) → g.shares ≡ Some s
    → Shared (after_forwarding g now source sent p).shares
shared_if g s now source sent true is = (
  with_frame (record {
    source = source;
    time = now;
    pressed = is_pressed g.forward g.shares now;
  }) s,
  ap (λ (o : Option ShareState).
      shares_noted o source now (is_pressed g.forward g.shares now)) is,
)
shared_if g s now source true false is = (s, is)
shared_if g s now source false false is = (s, is)

shared_delivery : (g : Governor) (now : ℕ) (t : Transmission) (repeated delivers : Bool)
    → Shared g.shares → Shared (after_delivery g now t repeated delivers).shares
shared_delivery g now t true true shared = shared
shared_delivery g now t true false shared = shared
shared_delivery g now t false true shared = shared
shared_delivery g now t false false shared = shared

shared_judged : (g : Governor) (r : Receiver) (now : ℕ) (t : Transmission) (handed sent : Bool)
    → Shared g.shares → Shared (after_judging g r now t handed sent).shares
shared_judged g r now t handed sent shared =
    let p = passed_of g r now t handed sent in
    shared_delivery (after_forwarding g now t.pdu.vector.address sent p.forwards) now t
    p.is_repeated p.delivers
    (shared_if g shared.0 now t.pdu.vector.address sent p.forwards shared.1)

shared_by : (g : Governor) (r : Receiver) (now : ℕ) (request : Bool) (frame : Option Transmission)
    (answer : Answer Transmission) → Shared g.shares
    → Shared (after_call g r now request frame answer).shares
shared_by g r now request (Some t) (model.Answer.Accepted handed relayed) shared =
    shared_judged g r now t (is_some handed) (is_some relayed) shared
shared_by g r now request None (model.Answer.Accepted handed relayed) shared = shared
shared_by g r now true frame (model.Answer.Sent sent) shared = shared
shared_by g r now false frame (model.Answer.Sent sent) shared = shared
shared_by g r now request frame model.Answer.Moved shared = shared
shared_by g r now request frame model.Answer.Opened shared = shared
shared_by g r now request frame model.Answer.Closed shared = shared
shared_by g r now request frame model.Answer.Restarted shared = shared
shared_by g r now request frame model.Answer.Quiet shared = shared
shared_by g r now request frame (model.Answer.Ignored why) shared = shared
shared_by g r now request frame (model.Answer.Refused refusal) shared = shared

shared_in : (g : Governor) (call : GovernedCall) → Shared g.shares
    → Shared (after_governed g call).shares
shared_in g (GovernedCall.Answered r now request frame answer) shared =
    shared_by g r now request frame answer shared
shared_in g GovernedCall.OverRate shared = shared

-- both limits stay
record Both (g : Governor) : Type 0 where
  bucket : Bucket
  forward : g.forward ≡ Some bucket
  shares : Shared g.shares

both_stay : (g : Governor) (calls : List GovernedCall) → Both g → Both (after_calls g calls)
both_stay g [] both = both
both_stay g (call ∷ calls) both =
    both_stay (after_governed g call) calls (record {
      bucket = drawn_at both.bucket (times (forwarded_in g call));
      forward = (passed_in both.bucket g call both.forward).is;
      shares = shared_in g call both.shares;
    })

new_by : (echo cap common own share sent : Bool)
    → (sent && (not echo && (cap && common && own && share))) ≡ true → share ≡ true
new_by echo cap common own true sent e = refl
new_by true cap common own false true e = absurd (false≢true e)
new_by false false common own false true e = absurd (false≢true e)
new_by false true false own false true e = absurd (false≢true e)
new_by false true true false false true e = absurd (false≢true e)
new_by false true true true false true e = absurd (false≢true e)
new_by echo cap common own false false e = absurd (false≢true e)

high_by : (low known within turn : Bool) → known ≡ false
    → (not low || (known && within && turn)) ≡ true → low ≡ false
high_by false known within turn a e = refl
high_by true false within turn a e = absurd (false≢true e)
high_by true true within turn a e = absurd (false≢true (sym a))

four_fifths : (f : Option Bucket) (o : Option ShareState) (r : Receiver) (now : ℕ)
    (t : Transmission) (b : Bucket) → f ≡ Some b → Shared o → r.knew_source ≡ false
    → has_share f o r now t ≡ true → HoldsFourFifths f now
four_fifths None o r now t b is shared new e = absurd (none-some b is)
four_fifths (Some c) None r now t b is shared new e = absurd (none-some shared.0 shared.1)
four_fifths (Some c) (Some s) r now t b is shared new e =
    ltb-false (parts_at c now) (800 * c.rate.burst)
    (high_by (is_low c now) r.knew_source
    (is_within_share c.rate s.frames t.pdu.vector.address now) (is_its_turn c r.address now t) new e)

pub new_take_nothing : (limits : Limits) (g : Governor) (forward source : Rate)
    → IsNewGovernor limits g → limits.forward ≡ Some forward → limits.source ≡ Some source
    → NewSourcesTakeNothing g
new_take_nothing limits g forward source new common own calls r now t handed sent unknown e =
    let h = after_calls g calls in
    let both = both_stay g calls (record {
      bucket = full forward;
      forward = new.forward ∙ ap (option_map full) common;
      shares = (
        record { frames = []; limit = 256 },
        new.shares ∙ ap (λ (o : Option Rate). new_shares o limits.source) common
            ∙ ap (λ (o : Option Rate). new_shares (Some forward) o) own,
      );
    }) in
    four_fifths h.forward h.shares r now t both.bucket both.forward both.shares unknown
    (new_by (is_echo h.delivered now t) (leb t.hops_left h.hop_cap) (room_in h.forward now)
    (source_room h.sources t.pdu.vector.address now) (has_share h.forward h.shares r now t) sent e)
