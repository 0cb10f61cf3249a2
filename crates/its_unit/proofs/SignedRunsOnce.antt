-- After every run, the packets that a unit accepted since its last restart are new.
use Rattle.std.proofs.Common.{◌≡◌, ◌≢◌, ◌⊎◌, ℕ, ◌+◌, ◌*◌, ◌≤◌, ◌<◌, List, [], ◌∷◌, ◌++◌}
use Rattle.std.proofs.Common.{length, Bool, true, false, cond, eqb, leb, not, Option, Some}
use Rattle.std.proofs.Common.{None, refl, sym, ap, subst, ◌∙◌, inl, inr, arith}
use Rattle.std.specs.Prelude.{IsTrue, slice_get, slice_set}
use Rattle.std.proofs.lemmas.Bool.{eq-eqb, eqb-true, eqb-false, false≢true}
use Rattle.std.proofs.lemmas.Option.{none-some, same_Some}
use Rattle.its_faults.specs.declared.secured.SecuredFault.{SecuredFault}
use Rattle.its_model.specs.History.{Reception, entry_life, with_number, is_remembered, NeverFell}
use Rattle.its_model.specs.Packet.{Pdu, Transmission, number_in}
use Rattle.its_model.specs.Calls as model
use Rattle.its_model.specs.Calls.{Answer, Call, OwnCall, Refusal, ShbRequest}
use Rattle.its_model.specs.Station.{StationModel, Step, Verdict, after_sending}
use Rattle.its_model.specs.Station.{beacon_of, first, is_repeated, moment_refusal, own_refusal}
use Rattle.its_model.specs.Station.{own_step, own_step_by, performed, receive_step}
use Rattle.its_model.specs.Station.{receive_step_by, reception, station_step, verdict}
use Rattle.its_model.proofs.Fits.{accepted_tests}
use Rattle.its_model.proofs.Lists.{get_set}
use Rattle.its_model.proofs.Steps.{done_in_time, in_time, refused_stays}
use Rattle.its_linkframe.specs.Secured.{Verified}
use Rattle.its_station.specs.Beside.{shb_for, shb_refusal}
use Rattle.its_station.specs.Beside.{stands_at, step_by}
use Rattle.its_station.specs.Receiving.{VerifiedCall, secured_step_by, IsVerifiedCall}
use Rattle.its_unit.specs.Unit.{UnitModel, UnitCall, UnitAnswer, passed_step, refused_step}
use Rattle.its_unit.specs.Unit.{step_within, unit_step}
use Rattle.its_unit.specs.Runs.{is_withheld}
use Rattle.its_unit.specs.Signed.{SignedWhat, SignedEvent, SignedLine, SignedModel, new_signed}
use Rattle.its_unit.specs.Signed.{call_in, after_signed, at_signed, happened_signed, released_signed}
use Rattle.its_unit.specs.Signed.{signed_step, signed_run}
use Rattle.its_unit.specs.Signed.{is_own, IsSoundEvent, AreSound}
use Rattle.its_unit.specs.SignedOnce.{WasSealedNear, IsFresh, AreFresh, IsNewAmong, AreNew}
use Rattle.its_unit.specs.SignedOnce.{HaveHeardNothing, AcceptsOnce, SendsFew, numbers_sent}
use Rattle.its_unit.specs.SignedOnce.{number_in_span, number_of_sent}
use Rattle.its_unit.specs.Releases.{release_step}
use Rattle.its_unit.proofs.Acts.{released_station}
use Rattle.its_unit.proofs.FleetUnits.{get_other, get_same}
use Rattle.its_unit.proofs.Sealing.{same_packet}
use Rattle.its_unit.proofs.SignedOnce.{AreSent, WasSentNear, sent_still, later_still, later_copy}

-- ---- what a call makes of a station's history

-- The history stays, or it is empty; the clock doesn't fall, and what is remembered stays.
record KeepsHistory (s after : StationModel) : Type 0 where
  history : (after.history ≡ s.history) ⊎ (after.history ≡ [])
  clock : s.clock ≤ after.clock
  remember : after.remember ≡ s.remember

-- The station accepted this packet.
record HasHeard (s after : StationModel) (now : ℕ) (t : Transmission) : Type 0 where
  history : after.history ≡ reception now t ∷ s.history
  clock : after.clock ≡ now
  later : s.clock ≤ now
  remember : after.remember ≡ s.remember
  new : is_repeated s.remember (number_in t.pdu.body) t.pdu.vector.address now s.history ≡ false

stays : (s : StationModel) → KeepsHistory s s
stays s = record { history = inl refl; clock = omega arith; remember = refl }

-- the clock never falls
clock_rises : (s : StationModel) (now : ℕ) (call : Call)
    → s.clock ≤ (station_step s now call).station.clock
clock_rises s now call = by (station_step s now call).answer refl
  where
    done : ((refusal : Refusal) → (station_step s now call).answer ≢ model.Answer.Refused refusal)
        → s.clock ≤ (station_step s now call).station.clock
    done not =
        let d = done_in_time s now call not in
        subst (λ (n : ℕ). s.clock ≤ n) (sym d.2) d.0

    by : (a : Answer Transmission) → (station_step s now call).answer ≡ a
        → s.clock ≤ (station_step s now call).station.clock
    by (model.Answer.Refused r) e =
        subst (λ (x : StationModel). s.clock ≤ x.clock) (sym (refused_stays s now call r e))
        (omega arith)
    by model.Answer.Moved e = done (λ r d. cc (e, d))
    by model.Answer.Opened e = done (λ r d. cc (e, d))
    by model.Answer.Closed e = done (λ r d. cc (e, d))
    by model.Answer.Restarted e = done (λ r d. cc (e, d))
    by model.Answer.Quiet e = done (λ r d. cc (e, d))
    by (model.Answer.Sent t) e = done (λ r d. cc (e, d))
    by (model.Answer.Ignored why) e = done (λ r d. cc (e, d))
    by (model.Answer.Accepted handed sent) e = done (λ r d. cc (e, d))

abbrev IsKept : StationModel → StationModel → Type 0
IsKept s after =
    ((after.history ≡ s.history) ⊎ (after.history ≡ [])) × (after.remember ≡ s.remember)

performed_keeps : (s : StationModel) (now : ℕ) (call : OwnCall)
    → IsKept s (performed s now call).station
performed_keeps s now (model.OwnCall.Move place accurate speed heading) = (inl refl, refl)
performed_keeps s now (model.OwnCall.Open port) = (inl refl, refl)
performed_keeps s now (model.OwnCall.Close port) = (inl refl, refl)
performed_keeps s now (model.OwnCall.Tick jitter) = by (leb (s.beacon_from + jitter) now)
  where
    by : (b : Bool)
        → IsKept s
        (cond {A = Step} b (record { answer = model.Answer.Sent (beacon_of s); station = after_sending s now })
        (record { answer = model.Answer.Quiet; station = record s { clock = now } })).station
    by true = (inl refl, refl)
    by false = (inl refl, refl)
performed_keeps s now (model.OwnCall.SendShb r) = (inl refl, refl)
performed_keeps s now (model.OwnCall.SendGbc r) = (inl refl, refl)
performed_keeps s now (model.OwnCall.SendGac r) = (inl refl, refl)
performed_keeps s now (model.OwnCall.Restart number) = (inr refl, refl)

own_keeps : (s : StationModel) (now : ℕ) (call : OwnCall)
    → KeepsHistory s (own_step s now call).station
unfolding own_step
own_keeps s now call =
    let kept = by (first (moment_refusal s now) (own_refusal s call)) in
    record {
      history = kept.0;
      clock = clock_rises s now (model.Call.Own call);
      remember = kept.1;
    }
  where
    by : (o : Option Refusal) → IsKept s (own_step_by s now call o).station
    by (Some r) = (inl refl, refl)
    by None = performed_keeps s now call

first_none : (a b : Option Refusal) → first a b ≡ None → a ≡ None
first_none None b h = refl
first_none (Some r) b h = cc

-- a step beside those of the model
beside_keeps : (s : StationModel) (now : ℕ) (o : Option Refusal) (done : Step)
    → (o ≡ None → moment_refusal s now ≡ None) → done.station.history ≡ s.history
    → done.station.clock ≡ now → done.station.remember ≡ s.remember
    → KeepsHistory s (step_by s o done).station
beside_keeps s now (Some r) done on_time history clock remember = stays s
beside_keeps s now None done on_time history clock remember = record {
  history = inl history;
  clock = subst (λ (n : ℕ). s.clock ≤ n) (sym clock) (in_time s now (on_time refl)).0;
  remember = remember;
}

asked_keeps : (s : StationModel) (now : ℕ) (call : UnitCall) → IsTrue (is_own call)
    → KeepsHistory s (step_within s now call).station
asked_keeps s now (UnitCall.Own call) own = own_keeps s now call
asked_keeps s now (UnitCall.MoveAt timestamp place accurate speed heading) own =
    beside_keeps s now (moment_refusal s now) (record {
      answer = model.Answer.Moved;
      station = stands_at s now timestamp place accurate speed heading;
    }) (λ e. e) refl refl refl
asked_keeps s now (UnitCall.SendShbFor options request) own =
    beside_keeps s now (shb_refusal s now request) (record {
      answer = model.Answer.Sent (shb_for s options request);
      station = after_sending s now;
    }) (λ e. first_none (moment_refusal s now) _ e) refl refl refl
asked_keeps s now (UnitCall.Receive call) own = absurd (false≢true own)
asked_keeps s now (UnitCall.ReceiveVerified call) own = absurd (false≢true own)

-- a frame is accepted, or it leaves the history
came_keeps : (s : StationModel) (now : ℕ) (t : Transmission)
    → KeepsHistory s (receive_step s now t).station
    ⊎ HasHeard s (receive_step s now t).station now t
unfolding receive_step
came_keeps s now t = by (verdict s now t) refl
  where
    rises : s.clock ≤ (receive_step s now t).station.clock
    rises = clock_rises s now (model.Call.Receive t)

    by : (v : Verdict) → verdict s now t ≡ v
        → KeepsHistory s (receive_step_by s now t v).station
        ⊎ HasHeard s (receive_step_by s now t v).station now t
    by (Verdict.Refuse r) e = inl (stays s)
    by (Verdict.Ignore why) e = inl (record {
      history = inl refl;
      clock = subst (λ (v : Verdict). s.clock ≤ (receive_step_by s now t v).station.clock) e rises;
      remember = refl;
    })
    by Verdict.Accept e = inr (record {
      history = refl;
      clock = refl;
      later = subst (λ (v : Verdict). s.clock ≤ (receive_step_by s now t v).station.clock) e rises;
      remember = refl;
      new = (accepted_tests s now t e).1;
    })

faulty_keeps : (s : StationModel) (fault : SecuredFault) (o : Option Refusal)
    → KeepsHistory s (secured_step_by s fault o).station
faulty_keeps s fault (Some r) = stays s
faulty_keeps s fault None = stays s

-- ---- what is known of one unit

-- The moments of its history never fell, each packet was sent near the moment at which it came, and
-- each is new.
record IsFreshStation (window remember : ℕ) (log : List SignedLine) (s : StationModel) :
    Type 0 where
  remembers : s.remember ≡ remember
  rises : NeverFell s.clock s.history
  sent : AreSent window log s.history
  new : AreNew (2 * window) s.history

kept_fresh : (window remember : ℕ) (log : List SignedLine) (s after : StationModel)
    → KeepsHistory s after → IsFreshStation window remember log s
    → IsFreshStation window remember log after
kept_fresh window remember log s after k h = by k.history
  where
    by : (after.history ≡ s.history) ⊎ (after.history ≡ [])
        → IsFreshStation window remember log after
    by (inl same) = record {
      remembers = k.remember ∙ h.remembers;
      rises = subst (NeverFell after.clock) (sym same)
          (later_still s.clock after.clock s.history k.clock h.rises);
      sent = subst (AreSent window log) (sym same) h.sent;
      new = subst (AreNew (2 * window)) (sym same) h.new;
    }
    by (inr empty) = record {
      remembers = k.remember ∙ h.remembers;
      rises = subst (NeverFell after.clock) (sym empty) tt;
      sent = subst (AreSent window log) (sym empty) tt;
      new = subst (AreNew (2 * window)) (sym empty) tt;
    }

append_one : {X : Type 0} (xs : List X) (y : X) (ys : List X)
    → (xs ++ y ∷ []) ++ ys ≡ xs ++ y ∷ ys
append_one [] y ys = refl
append_one (x ∷ xs) y ys = ap (λ zs. x ∷ zs) (append_one xs y ys)

-- an accepted packet is new among all that came before
new_among : (window k now : ℕ) (log : List SignedLine) (t : Transmission)
    (newer rest history : List Reception)
    → newer ++ rest ≡ history → 2 * window < entry_life → AreNew (2 * window) history
    → NeverFell now history → AreSent window log history
    → ((source : ℕ) → SendsFew k (4 * window) source log)
    → is_repeated k (number_in t.pdu.body) t.pdu.vector.address now history ≡ false
    → IsNewAmong (2 * window) (reception now t) rest
new_among window k now log t newer [] history is life new rises sent few unknown = tt
new_among window k now log t newer (q ∷ rest) history is life new rises sent few unknown = (
  λ same. later same.0 same.1 same.2 same.3,
  new_among window k now log t (newer ++ q ∷ []) rest history (append_one newer q rest ∙ is) life
      new rises sent few unknown,
)
  where
    later : t.pdu.vector.address ≡ q.vector.address → (n : ℕ) → number_in t.pdu.body ≡ Some n
        → q.number ≡ Some n → q.moment + 2 * window < now
    later source n number old =
        later_copy window now t.pdu.vector.address n k log newer q rest life
        (subst (AreNew (2 * window)) (sym is) new) (subst (NeverFell now) (sym is) rises)
        (subst (AreSent window log) (sym is) sent) (few t.pdu.vector.address) (sym source) old
        (ap (is_remembered k t.pdu.vector.address n now) is
        ∙ sym (ap (λ o. is_repeated k o t.pdu.vector.address now history) number) ∙ unknown)

heard_fresh : (window remember now : ℕ) (log : List SignedLine) (s after : StationModel)
    (t : Transmission) → 2 * window < entry_life
    → ((source : ℕ) → SendsFew remember (4 * window) source log) → HasHeard s after now t
    → ((n : ℕ) → number_in t.pdu.body ≡ Some n → WasSentNear window log (reception now t) n)
    → IsFreshStation window remember log s → IsFreshStation window remember log after
heard_fresh window remember now log s after t life few g mine h =
    let rises = later_still s.clock now s.history g.later h.rises in
    record {
      remembers = g.remember ∙ h.remembers;
      rises = subst (NeverFell after.clock) (sym g.history)
          (subst (λ (n : ℕ). NeverFell n (reception now t ∷ s.history)) (sym g.clock)
          (omega arith, rises));
      sent = subst (AreSent window log) (sym g.history) (mine, h.sent);
      new = subst (AreNew (2 * window)) (sym g.history) (
        new_among window remember now log t [] s.history s.history refl life h.new rises h.sent few
            (ap (λ k. is_repeated k (number_in t.pdu.body) t.pdu.vector.address now s.history)
            (sym h.remembers) ∙ g.new),
        h.new,
      );
    }

-- ---- a frame that the entity read was sent near this moment

sent_number : (t v : Transmission) (n : ℕ)
    → v.pdu ≡ record t.pdu { lifetime = v.pdu.lifetime } → number_in v.pdu.body ≡ Some n
    → number_of_sent v.pdu.vector.address (UnitAnswer.Passed (model.Answer.Sent t)) ≡ Some n
sent_number t v n same number =
    ap (λ b. cond b (number_in t.pdu.body) None)
    (eq-eqb t.pdu.vector.address v.pdu.vector.address
    (sym (ap (λ (p : Pdu). p.vector.address) same)))
    ∙ sym (ap (λ (p : Pdu). number_in p.body) same) ∙ number

sealed_near : (window now : ℕ) (log : List SignedLine) (octets plain : List ℕ) (v : Verified)
    → IsVerifiedCall octets plain (VerifiedCall.Came v)
    → WasSealedNear window now log plain v.message → (n : ℕ)
    → number_in v.frame.pdu.body ≡ Some n
    → WasSentNear window log (reception now v.frame) n
sealed_near window now log octets plain v came fresh n number =
    let s = fresh.sealed in
    record {
      line = s.line;
      logged = s.logged;
      number = ap (number_of_sent v.frame.pdu.vector.address) s.answer
          ∙ sent_number s.frame v.frame n (same_packet s.frame v.frame plain s.part came.packet)
          number;
      near = fresh.near;
    }

-- ---- a step

-- what happens to a unit, by what it is
within_fresh : (window remember : ℕ) (log : List SignedLine) (now : ℕ) (what : SignedWhat)
    (call : UnitCall) (s : StationModel) → 2 * window < entry_life
    → ((source : ℕ) → SendsFew remember (4 * window) source log) → call_in what ≡ Some call
    → IsSoundEvent log what → IsFresh window now log what
    → IsFreshStation window remember log s
    → IsFreshStation window remember log (step_within s now call).station
within_fresh window remember log now (SignedWhat.Asks asked message) call s life few is sound fresh h =
    let own = subst (λ (c : UnitCall). IsTrue (is_own c)) (same_Some asked call is) sound in
    kept_fresh window remember log s (step_within s now call).station (asked_keeps s now call own) h
within_fresh window remember log now (SignedWhat.Unread octets) call s life few is sound fresh h =
    absurd (none-some call is)
within_fresh window remember log now SignedWhat.Releases call s life few is sound fresh h =
    absurd (none-some call is)
within_fresh window remember log now (SignedWhat.Arrives octets plain (VerifiedCall.Came v)) call s
    life few is sound fresh h =
    subst (λ (c : UnitCall). IsFreshStation window remember log (step_within s now c).station)
    (same_Some (UnitCall.ReceiveVerified (VerifiedCall.Came v)) call is)
    (elim (came_keeps s now v.frame) [
      | inl kept ↦ kept_fresh window remember log s (receive_step s now v.frame).station kept h
      | inr heard ↦ heard_fresh window remember now log s (receive_step s now v.frame).station
          v.frame life few heard
          (sealed_near window now log octets plain v sound.0 fresh) h
    ])
within_fresh window remember log now (SignedWhat.Arrives octets plain (VerifiedCall.Faulty fault))
    call s life few is sound fresh h =
    subst (λ (c : UnitCall). IsFreshStation window remember log (step_within s now c).station)
    (same_Some (UnitCall.ReceiveVerified (VerifiedCall.Faulty fault)) call is)
    (kept_fresh window remember log s (secured_step_by s fault (moment_refusal s now)).station
    (faulty_keeps s fault (moment_refusal s now)) h)

unit_fresh : (window remember : ℕ) (log : List SignedLine) (e : SignedEvent) (call : UnitCall)
    (u : UnitModel) → 2 * window < entry_life
    → ((source : ℕ) → SendsFew remember (4 * window) source log) → call_in e.what ≡ Some call
    → IsSoundEvent log e.what → IsFresh window e.now log e.what
    → IsFreshStation window remember log u.station
    → IsFreshStation window remember log (unit_step u e.now call).unit.station
unit_fresh window remember log e call u life few is sound fresh h =
    by (is_withheld u (record { now = e.now; call = call }))
  where
    by : (b : Bool)
        → IsFreshStation window remember log
        (cond b (refused_step u)
        (passed_step u e.now call (step_within u.station e.now call))).unit.station
    by true = h
    by false = within_fresh window remember log e.now e.what call u.station life few is sound fresh h

-- ---- a run

-- one line more sends no fewer
fewer : (k span source : ℕ) (line : SignedLine) (log : List SignedLine)
    → SendsFew k span source (line ∷ log) → SendsFew k span source log
fewer k span source line log few from = by (number_in_span source from span line) (few from)
  where
    by : (o : Option ℕ) → length (with_number o (numbers_sent source from span log)) ≤ k
        → length (numbers_sent source from span log) ≤ k
    by None h = h
    by (Some n) h = omega (arith, h)

fewer_called : (k span source : ℕ) (f : SignedModel) (e : SignedEvent) (u : UnitModel)
    (o : Option UnitCall) → SendsFew k span source (after_signed f e u o).log
    → SendsFew k span source f.log
fewer_called k span source f e u None few = few
fewer_called k span source f e u (Some call) few =
    fewer k span source (record { event = e; answer = (unit_step u e.now call).answer }) f.log few

fewer_happened : (k span source : ℕ) (f : SignedModel) (e : SignedEvent) (u : UnitModel)
    (what : SignedWhat) → SendsFew k span source (happened_signed f e u what).log
    → SendsFew k span source f.log
fewer_happened k span source f e u (SignedWhat.Asks call message) few =
    fewer_called k span source f e u (Some call) few
fewer_happened k span source f e u (SignedWhat.Unread octets) few = few
fewer_happened k span source f e u (SignedWhat.Arrives octets plain call) few =
    fewer_called k span source f e u (Some (UnitCall.ReceiveVerified call)) few
fewer_happened k span source f e u SignedWhat.Releases few = few

fewer_at : (k span source : ℕ) (f : SignedModel) (e : SignedEvent) (o : Option UnitModel)
    → SendsFew k span source (at_signed f e o).log → SendsFew k span source f.log
fewer_at k span source f e None few = few
fewer_at k span source f e (Some u) few = fewer_happened k span source f e u e.what few

fewer_before : (k span source : ℕ) (events : List SignedEvent) (f : SignedModel)
    → SendsFew k span source (signed_run f events).log → SendsFew k span source f.log
fewer_before k span source [] f few = few
fewer_before k span source (e ∷ events) f few =
    fewer_at k span source f e (slice_get f.units e.unit)
    (fewer_before k span source events (signed_step f e) few)

-- unit j of the units is so
abbrev IsFreshAt : ℕ → ℕ → ℕ → SignedModel → Type 0
IsFreshAt window remember j f =
    (u : UnitModel) → slice_get f.units j ≡ Some u
    → IsFreshStation window remember f.log u.station

longer_fresh : (window remember : ℕ) (line : SignedLine) (log : List SignedLine)
    (s : StationModel) → IsFreshStation window remember log s
    → IsFreshStation window remember (line ∷ log) s
longer_fresh window remember line log s h = record {
  remembers = h.remembers;
  rises = h.rises;
  sent = sent_still window line log s.history h.sent;
  new = h.new;
}

called_fresh : (window remember j : ℕ) (f : SignedModel) (e : SignedEvent) (u : UnitModel)
    (o : Option UnitCall) → 2 * window < entry_life
    → ((source : ℕ) → SendsFew remember (4 * window) source f.log)
    → slice_get f.units e.unit ≡ Some u → call_in e.what ≡ o → IsSoundEvent f.log e.what
    → IsFresh window e.now f.log e.what → IsFreshAt window remember j f
    → IsFreshAt window remember j (after_signed f e u o)
called_fresh window remember j f e u None life few at is sound fresh h = h
called_fresh window remember j f e u (Some call) life few at is sound fresh h = each
  where
    new : UnitModel
    new = (unit_step u e.now call).unit

    line : SignedLine
    line = record { event = e; answer = (unit_step u e.now call).answer }

    mine : e.unit ≡ j → IsFreshStation window remember f.log new.station
    mine place = unit_fresh window remember f.log e call u life few is sound fresh
        (h u (sym (ap (slice_get f.units) place) ∙ at))

    by : (x : UnitModel) (b : Bool) → eqb e.unit j ≡ b
        → slice_get (slice_set f.units e.unit new) j ≡ Some x
        → IsFreshStation window remember (line ∷ f.log) x.station
    by x true place get =
        let is_place = eqb-true e.unit j place in
        let is_new = same_Some new x (sym (get_same f.units e.unit u new at)
        ∙ ap (slice_get (slice_set f.units e.unit new)) is_place ∙ get) in
        subst (λ (y : UnitModel). IsFreshStation window remember (line ∷ f.log) y.station) is_new
        (longer_fresh window remember line f.log new.station (mine is_place))
    by x false place get =
        longer_fresh window remember line f.log x.station
        (h x (sym (get_other f.units e.unit j new (eqb-false e.unit j place)) ∙ get))

    each : IsFreshAt window remember j (after_signed f e u (Some call))
    each x get = by x (eqb e.unit j) refl get

-- a release changes no station
released_fresh : (window remember j : ℕ) (f : SignedModel) (e : SignedEvent) (u : UnitModel)
    → slice_get f.units e.unit ≡ Some u → IsFreshAt window remember j f
    → IsFreshAt window remember j (released_signed f e u)
released_fresh window remember j f e u at h x get =
    by (get_set f.units e.unit (release_step u e.now).unit j x get)
  where
    by : ((j ≡ e.unit) × ((release_step u e.now).unit ≡ x))
        ⊎ ((j ≢ e.unit) × (slice_get f.units j ≡ Some x))
        → IsFreshStation window remember f.log x.station
    by (inl g) =
        subst (λ (y : UnitModel). IsFreshStation window remember f.log y.station) g.1
        (subst (IsFreshStation window remember f.log)
        (sym (released_station u e.now (moment_refusal u.station e.now)))
        (h u (ap (slice_get f.units) g.0 ∙ at)))
    by (inr g) = h x g.1

happened_fresh : (window remember j : ℕ) (f : SignedModel) (e : SignedEvent) (u : UnitModel)
    (what : SignedWhat) → 2 * window < entry_life
    → ((source : ℕ) → SendsFew remember (4 * window) source f.log)
    → slice_get f.units e.unit ≡ Some u → e.what ≡ what → IsSoundEvent f.log e.what
    → IsFresh window e.now f.log e.what → IsFreshAt window remember j f
    → IsFreshAt window remember j (happened_signed f e u what)
happened_fresh window remember j f e u (SignedWhat.Asks call message) life few at is sound fresh h =
    called_fresh window remember j f e u (Some call) life few at (ap call_in is) sound fresh h
happened_fresh window remember j f e u (SignedWhat.Unread octets) life few at is sound fresh h = h
happened_fresh window remember j f e u (SignedWhat.Arrives octets plain call) life few at is sound
    fresh h =
    called_fresh window remember j f e u (Some (UnitCall.ReceiveVerified call)) life few at
    (ap call_in is) sound fresh h
happened_fresh window remember j f e u SignedWhat.Releases life few at is sound fresh h =
    released_fresh window remember j f e u at h

event_fresh : (window remember j : ℕ) (f : SignedModel) (e : SignedEvent) (o : Option UnitModel)
    → 2 * window < entry_life
    → ((source : ℕ) → SendsFew remember (4 * window) source f.log)
    → slice_get f.units e.unit ≡ o → IsSoundEvent f.log e.what
    → IsFresh window e.now f.log e.what → IsFreshAt window remember j f
    → IsFreshAt window remember j (at_signed f e o)
event_fresh window remember j f e None life few at sound fresh h = h
event_fresh window remember j f e (Some u) life few at sound fresh h =
    happened_fresh window remember j f e u e.what life few at refl sound fresh h

run_fresh : (window remember j : ℕ) (events : List SignedEvent) (f : SignedModel)
    → 2 * window < entry_life
    → ((source : ℕ) → SendsFew remember (4 * window) source (signed_run f events).log)
    → AreSound f events → AreFresh window f events → IsFreshAt window remember j f
    → IsFreshAt window remember j (signed_run f events)
run_fresh window remember j [] f life few sound fresh h = h
run_fresh window remember j (e ∷ events) f life few sound fresh h =
    run_fresh window remember j events (signed_step f e) life few sound.1 fresh.1
    (event_fresh window remember j f e (slice_get f.units e.unit) life
    (λ source. fewer_before remember (4 * window) source (e ∷ events) f (few source)) refl sound.0
    fresh.0 h)

pub accepts_once : (units : List UnitModel) → HaveHeardNothing units → AcceptsOnce units
accepts_once units nothing window events j u now life sound fresh at get few =
    (run_fresh window u.station.remember j events (new_signed units) life few sound fresh begin now
    get).new
  where
    begin : IsFreshAt window u.station.remember j (new_signed units)
    begin x is = record {
      remembers = ap (λ (y : UnitModel). y.station.remember) (same_Some x u (sym is ∙ at));
      rises = subst (NeverFell x.station.clock) (sym (nothing j x is)) tt;
      sent = subst (AreSent window []) (sym (nothing j x is)) tt;
      new = subst (AreNew (2 * window)) (sym (nothing j x is)) tt;
    }
