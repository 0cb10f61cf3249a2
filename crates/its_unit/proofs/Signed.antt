-- The laws of units with sound entities, whatever a forger does.
use Rattle.std.proofs.Common.{◌≡◌, ◌≢◌, ◌⊎◌, ℕ, zero, suc, ◌-◌, List, [], ◌∷◌, ◌++◌, Bool, true, false}
use Rattle.std.proofs.Common.{cond, eqb, Option, Some, None, refl, sym, ap, subst, ◌∙◌, inl, inr}
use Rattle.std.specs.Prelude.{IsTrue, slice_get, slice_set}
use Rattle.std.specs.Option.{option_map}
use Rattle.std.proofs.lemmas.Bool.{eqb-true, eqb-false, false≢true}
use Rattle.std.proofs.lemmas.Option.{none-some, same_Some}
use Rattle.its_gnvalue.specs.Values.{mid_of}
use Rattle.its_model.specs.History.{is_among}
use Rattle.its_model.specs.Packet.{Message, Pdu, Transmission}
use Rattle.its_model.specs.Calls as model
use Rattle.its_model.specs.Station.{after_hearing, handing, moment_refusal}
use Rattle.its_model.proofs.Fits.{IsSentOn}
use Rattle.its_model.specs.World as world
use Rattle.its_linkframe.specs.Secured.{Verified}
use Rattle.its_station.specs.Receiving.{VerifiedCall, IsVerifiedCall}
use Rattle.its_unit.specs.Unit.{UnitModel, UnitCall, UnitAnswer, unit_step}
use Rattle.its_unit.specs.Releases.{release_step}
use Rattle.its_unit.specs.Runs.{UnitAct, unit_acts}
use Rattle.its_unit.specs.FleetLaws.{IsIn}
use Rattle.its_unit.specs.Signed.{SignedWhat, SignedEvent, SignedLine, SignedModel, new_signed}
use Rattle.its_unit.specs.Signed.{call_in, after_signed, at_signed, happened_signed, released_signed}
use Rattle.its_unit.specs.Signed.{signed_step, signed_run}
use Rattle.its_unit.specs.Signed.{WasSealed, is_own, IsSoundCall, IsSoundEvent, AreSound}
use Rattle.its_unit.specs.Signed.{signed_act, signed_acts}
use Rattle.its_unit.specs.SignedLaws.{AreNamed, signed_after}
use Rattle.its_unit.specs.SignedLaws.{WasSentBySource, DeliversAsSealed, IsSealedForwarding}
use Rattle.its_unit.specs.SignedLaws.{IsOwnSealed, ForwardsAsSealed, SignedUnitsRun}
use Rattle.its_unit.specs.SignedLaws.{FloodsAreBounded, ForgersChangeNothing}
use Rattle.its_unit.proofs.Lawful.{lawful}
use Rattle.its_unit.proofs.Acts.{released_station}
use Rattle.its_unit.proofs.FleetUnits.{get_other, get_same}
use Rattle.its_unit.proofs.HoldingUnits.{acts_on}
use Rattle.its_unit.proofs.Sealing.{same_packet, sent_own}
use Rattle.its_unit.proofs.SignedSteps.{HasAddress, unit_address, handed_out, sent_on, sent_whole}
use Rattle.its_unit.proofs.SignedSteps.{own_sent, received_sent, faulty_none, faulty_stays}

-- ---- each line is a call of a unit

-- the first of these units at this place has the address that the unit has now
pub record IsStill (units : List UnitModel) (j : ℕ) (u : UnitModel) : Type 0 where
  pub first : UnitModel
  pub there : slice_get units j ≡ Some first
  pub address : HasAddress first.station.address u.station

-- a line of the log is a call of a unit, and if its applications asked for it, an own call
pub record IsLine (units : List UnitModel) (line : SignedLine) : Type 0 where
  unit : UnitModel
  call : UnitCall
  still : IsStill units line.event.unit unit
  called : call_in line.event.what ≡ Some call
  answered : (unit_step unit line.event.now call).answer ≡ line.answer
  own : (asked : UnitCall) (message : List ℕ) → line.event.what ≡ SignedWhat.Asks asked message
      → IsTrue (is_own asked)

pub record IsSoundRun (units : List UnitModel) (f : SignedModel) : Type 0 where
  pub each : (j : ℕ) (u : UnitModel) → slice_get f.units j ≡ Some u → IsStill units j u
  pub lines : (line : SignedLine) → IsIn f.log line → IsLine units line

pub new_sound : (units : List UnitModel) → AreNamed units → IsSoundRun units (new_signed units)
new_sound units named = record {
  each = λ j u at. record {
    first = u;
    there = at;
    address = record { station = refl; vector = named j u at };
  };
  lines = λ line is. absurd (none-some line is.1);
}

-- the units after a call of one
set_still : (units now : List UnitModel) (i j : ℕ) (old new u : UnitModel)
    → slice_get now i ≡ Some old
    → ((k : ℕ) (v : UnitModel) → slice_get now k ≡ Some v → IsStill units k v)
    → IsStill units i new → slice_get (slice_set now i new) j ≡ Some u → IsStill units j u
set_still units now i j old new u at each still h = by (eqb i j) refl
  where
    by : (b : Bool) → eqb i j ≡ b → IsStill units j u
    by true e =
        let is = eqb-true i j e in
        let new_is = same_Some new u (sym (get_same now i old new at)
        ∙ ap (slice_get (slice_set now i new)) is ∙ h) in
        subst (IsStill units j) new_is (subst (λ (k : ℕ). IsStill units k new) is still)
    by false e = each j u (sym (get_other now i j new (eqb-false i j e)) ∙ h)

asked_own : (log : List SignedLine) (what : SignedWhat) → IsSoundEvent log what
    → (asked : UnitCall) (message : List ℕ) → what ≡ SignedWhat.Asks asked message
    → IsTrue (is_own asked)
asked_own log what sound asked message is =
    subst (λ (w : SignedWhat). IsSoundEvent log w) is sound

called_sound : (units : List UnitModel) (f : SignedModel) (e : SignedEvent) (u : UnitModel)
    (o : Option UnitCall) → slice_get f.units e.unit ≡ Some u → call_in e.what ≡ o
    → IsSoundEvent f.log e.what → IsSoundRun units f → IsSoundRun units (after_signed f e u o)
called_sound units f e u None at is sound h = h
called_sound units f e u (Some call) at is sound h =
    let still = h.each e.unit u at in
    record {
      each = λ j x get. set_still units f.units e.unit j u (unit_step u e.now call).unit x at h.each
          (record {
            first = still.first;
            there = still.there;
            address = unit_address still.first.station.address u e.now call still.address;
          }) get;
      lines = λ line logged. new_or_old line logged.0 logged.1;
    }
  where
    new_line : IsLine units (record { event = e; answer = (unit_step u e.now call).answer })
    new_line = record {
      unit = u;
      call = call;
      still = h.each e.unit u at;
      called = is;
      answered = refl;
      own = asked_own f.log e.what sound;
    }

    new_or_old : (line : SignedLine) (k : ℕ)
        → slice_get (record { event = e; answer = (unit_step u e.now call).answer } ∷ f.log) k
        ≡ Some line
        → IsLine units line
    new_or_old line zero get = subst (IsLine units) (same_Some _ line get) new_line
    new_or_old line (suc k) get = h.lines line (k, get)

-- a release changes no station
released_sound : (units : List UnitModel) (f : SignedModel) (e : SignedEvent) (u : UnitModel)
    → slice_get f.units e.unit ≡ Some u → IsSoundRun units f
    → IsSoundRun units (released_signed f e u)
released_sound units f e u at h =
    let still = h.each e.unit u at in
    record {
      each = λ j x get. set_still units f.units e.unit j u (release_step u e.now).unit x at h.each
          (record {
            first = still.first;
            there = still.there;
            address = subst (HasAddress still.first.station.address)
                (sym (released_station u e.now (moment_refusal u.station e.now))) still.address;
          }) get;
      lines = h.lines;
    }

happened_sound : (units : List UnitModel) (f : SignedModel) (e : SignedEvent) (u : UnitModel)
    (what : SignedWhat) → slice_get f.units e.unit ≡ Some u → e.what ≡ what
    → IsSoundEvent f.log e.what → IsSoundRun units f
    → IsSoundRun units (happened_signed f e u what)
happened_sound units f e u (SignedWhat.Asks call message) at is sound h =
    called_sound units f e u (Some call) at (ap call_in is) sound h
happened_sound units f e u (SignedWhat.Unread octets) at is sound h = h
happened_sound units f e u (SignedWhat.Arrives octets plain call) at is sound h =
    called_sound units f e u (Some (UnitCall.ReceiveVerified call)) at (ap call_in is) sound h
happened_sound units f e u SignedWhat.Releases at is sound h = released_sound units f e u at h

pub unit_sound : (units : List UnitModel) (f : SignedModel) (e : SignedEvent) (o : Option UnitModel)
    → slice_get f.units e.unit ≡ o → IsSoundEvent f.log e.what → IsSoundRun units f
    → IsSoundRun units (at_signed f e o)
unit_sound units f e None at sound h = h
unit_sound units f e (Some u) at sound h = happened_sound units f e u e.what at refl sound h

pub run_sound : (units : List UnitModel) (events : List SignedEvent) (f : SignedModel)
    → AreSound f events → IsSoundRun units f → IsSoundRun units (signed_run f events)
run_sound units [] f are h = h
run_sound units (e ∷ events) f are h =
    run_sound units events (signed_step f e) are.1
    (unit_sound units f e (slice_get f.units e.unit) refl are.0 h)

-- ---- what is delivered was sent by its source

same_call : (call asked : UnitCall) (message : List ℕ) (what : SignedWhat)
    → call_in what ≡ Some call → what ≡ SignedWhat.Asks asked message → call ≡ asked
same_call call asked message what called is =
    same_Some call asked (sym called ∙ ap call_in is)

-- what was sealed, and is handed out by a station, was sent by its source
sealed_by_source : (units : List UnitModel) (f : SignedModel) (plain : List ℕ) (v : Verified)
    (m : Message) (at : UnitModel) → IsSoundRun units f
    → (octets : List ℕ) → IsVerifiedCall octets plain (VerifiedCall.Came v)
    → WasSealed f.log plain v.message → handing at.station v.frame.pdu.body ≡ Some m
    → IsTrue (is_among m.port at.station.ports)
    × WasSentBySource units f.log v m at.station.vector.place
sealed_by_source units f plain v m at run octets came sealed handed =
    let line = run.lines sealed.line sealed.logged in
    let call = same_call line.call sealed.call v.message sealed.line.event.what line.called
    sealed.asked in
    let own = line.own sealed.call v.message sealed.asked in
    let made = sent_whole line.unit sealed.line.event.now sealed.call sealed.frame
    (ap (λ (c : UnitCall). (unit_step line.unit sealed.line.event.now c).answer) (sym call)
    ∙ line.answered ∙ sealed.answer) in
    let frame = sent_own line.unit.station sealed.line.event.now sealed.call sealed.frame own made in
    let same = same_packet sealed.frame v.frame plain sealed.part came.packet in
    let asks = frame.request at.station m
    (ap (handing at.station) (sym (ap (λ (p : Pdu). p.body) same)) ∙ handed) in (
      asks.0,
      record {
        line = sealed.line;
        call = sealed.call;
        frame = sealed.frame;
        source = line.still.first;
        logged = sealed.logged;
        asked = sealed.asked;
        answer = sealed.answer;
        sender = line.still.there;
        named = ap (λ (p : Pdu). p.vector.address) same ∙ frame.named
            ∙ line.still.address.vector;
        request = asks.1;
      },
    )

-- the event brings a frame that the entity read
pub record IsArrival (log : List SignedLine) (what : SignedWhat) (v : VerifiedCall) : Type 0 where
  pub octets : List ℕ
  pub plain : List ℕ
  pub is : what ≡ SignedWhat.Arrives octets plain v
  pub read : IsVerifiedCall octets plain v
  pub sound : IsSoundCall log plain v

verified_same : (c v : VerifiedCall) → UnitCall.ReceiveVerified c ≡ UnitCall.ReceiveVerified v
    → c ≡ v
verified_same c v e = cc

pub arrival : (log : List SignedLine) (what : SignedWhat) (v : VerifiedCall)
    → call_in what ≡ Some (UnitCall.ReceiveVerified v) → IsSoundEvent log what
    → IsArrival log what v
arrival log (SignedWhat.Asks call message) v called sound =
    absurd (false≢true (subst (λ (c : UnitCall). IsTrue (is_own c))
    (same_Some call (UnitCall.ReceiveVerified v) called) sound))
arrival log (SignedWhat.Unread octets) v called sound =
    absurd (none-some (UnitCall.ReceiveVerified v) called)
arrival log SignedWhat.Releases v called sound =
    absurd (none-some (UnitCall.ReceiveVerified v) called)
arrival log (SignedWhat.Arrives octets plain c) v called sound =
    subst (λ (x : VerifiedCall). IsArrival log (SignedWhat.Arrives octets plain c) x)
    (verified_same c v (same_Some (UnitCall.ReceiveVerified c) (UnitCall.ReceiveVerified v) called))
    (record { octets = octets; plain = plain; is = refl; read = sound.0; sound = sound.1 })

pub after_events : (units : List UnitModel) (events : List SignedEvent) → AreNamed units
    → AreSound (new_signed units) events → IsSoundRun units (signed_after units events)
after_events units events named are =
    run_sound units events (new_signed units) are (new_sound units named)

pub delivers_as_sealed : (units : List UnitModel) → AreNamed units → DeliversAsSealed units
delivers_as_sealed units named events e v message relayed next =
    let f = signed_after units events in
    let a = arrival f.log e.what (VerifiedCall.Came v) next.called next.sound in
    sealed_by_source units f a.plain v message next.unit (after_events units events named next.before)
    a.octets a.read a.sound
    (handed_out next.unit e.now (UnitCall.ReceiveVerified (VerifiedCall.Came v)) v.frame message
    relayed refl next.answered)

-- ---- what goes on is what was sealed

-- a frame that is sent on for a frame that came
abbrev pub sealed_on : (log : List SignedLine) (u : UnitModel) (now : ℕ) (what : SignedWhat)
    (v : Verified) (t : Transmission) → IsArrival log what (VerifiedCall.Came v)
    → IsSentOn (after_hearing u.station now v.frame) v.frame (Some t)
    → IsSealedForwarding log u what t
sealed_on log u now what v t a sent =
    let same = same_packet a.sound.frame v.frame a.plain a.sound.part a.read.packet in
    let with_packet : Pdu → Transmission = λ p. record {
      pdu = p;
      hops_left = v.frame.hops_left - 1;
      link_source = mid_of u.station.address;
      link_target = sent.1;
    } in
    record {
      octets = a.octets;
      plain = a.plain;
      came = v;
      sealed = a.sound;
      is = a.is;
      hops = sent.0;
      target = sent.1;
      same = sent.2 ∙ ap with_packet same;
    }

-- a frame that goes on for a frame that came
forwarded : (log : List SignedLine) (u : UnitModel) (now : ℕ) (what : SignedWhat) (v : VerifiedCall)
    (handed : Option Message) (t : Transmission) → IsArrival log what v
    → (unit_step u now (UnitCall.ReceiveVerified v)).answer
    ≡ UnitAnswer.Passed (model.Answer.Accepted handed (Some t))
    → IsSealedForwarding log u what t
forwarded log u now what (VerifiedCall.Faulty fault) handed t a passed =
    absurd (faulty_none u now fault handed t passed)
forwarded log u now what (VerifiedCall.Came v) handed t a passed =
    sealed_on log u now what v t a
    (sent_on u now (UnitCall.ReceiveVerified (VerifiedCall.Came v)) v.frame t handed refl passed)

forwards_by : (log : List SignedLine) (e : SignedEvent) (u : UnitModel) (what : SignedWhat)
    (call : UnitCall) (answer : model.Answer Transmission) (t : Transmission)
    → IsSoundEvent log what → call_in what ≡ Some call
    → (unit_step u e.now call).answer ≡ UnitAnswer.Passed answer
    → world.frame_of answer ≡ Some t
    → IsOwnSealed what (UnitAnswer.Passed answer) t ⊎ IsSealedForwarding log u what t
forwards_by log e u (SignedWhat.Asks asked message) call answer t sound called passed gives =
    let own = subst (λ (c : UnitCall). IsTrue (is_own c)) (same_Some asked call called) sound in
    inl (
      asked,
      message,
      refl,
      ap UnitAnswer.Passed (own_sent u e.now call answer t own passed gives),
    )
forwards_by log e u (SignedWhat.Unread octets) call answer t sound called passed gives =
    absurd (none-some call called)
forwards_by log e u SignedWhat.Releases call answer t sound called passed gives =
    absurd (none-some call called)
forwards_by log e u (SignedWhat.Arrives octets plain v) call answer t sound called passed gives =
    let is = same_Some (UnitCall.ReceiveVerified v) call called in
    let answered = ap (λ (c : UnitCall). (unit_step u e.now c).answer) is ∙ passed in
    let a = received_sent u e.now v answer t answered gives in
    inr (forwarded log u e.now (SignedWhat.Arrives octets plain v) v a.0 t
    (arrival log (SignedWhat.Arrives octets plain v) v refl sound)
    (answered ∙ ap UnitAnswer.Passed a.1))

pub forwards_as_sealed : (units : List UnitModel) → ForwardsAsSealed units
forwards_as_sealed units events e call answer t next gives =
    forwards_by (signed_after units events).log e next.unit e.what call answer t next.sound
    next.called next.answered gives

-- ---- each unit is a unit after its calls and releases

own_happened : (f : SignedModel) (e : SignedEvent) (u : UnitModel) (what : SignedWhat)
    → slice_get f.units e.unit ≡ Some u
    → slice_get (happened_signed f e u what).units e.unit ≡ Some (unit_acts u (signed_act e what))
own_happened f e u (SignedWhat.Asks call message) at =
    get_same f.units e.unit u (unit_step u e.now call).unit at
own_happened f e u (SignedWhat.Unread octets) at = at
own_happened f e u (SignedWhat.Arrives octets plain call) at =
    get_same f.units e.unit u (unit_step u e.now (UnitCall.ReceiveVerified call)).unit at
own_happened f e u SignedWhat.Releases at =
    get_same f.units e.unit u (release_step u e.now).unit at

own_event : (f : SignedModel) (e : SignedEvent) (o : Option UnitModel)
    → slice_get f.units e.unit ≡ o
    → slice_get (at_signed f e o).units e.unit
    ≡ option_map (λ (u : UnitModel). unit_acts u (signed_act e e.what)) o
own_event f e None at = at
own_event f e (Some u) at = own_happened f e u e.what at

other_happened : (f : SignedModel) (e : SignedEvent) (u : UnitModel) (what : SignedWhat) (j : ℕ)
    → e.unit ≢ j → slice_get (happened_signed f e u what).units j ≡ slice_get f.units j
other_happened f e u (SignedWhat.Asks call message) j differ =
    get_other f.units e.unit j (unit_step u e.now call).unit differ
other_happened f e u (SignedWhat.Unread octets) j differ = refl
other_happened f e u (SignedWhat.Arrives octets plain call) j differ =
    get_other f.units e.unit j (unit_step u e.now (UnitCall.ReceiveVerified call)).unit differ
other_happened f e u SignedWhat.Releases j differ =
    get_other f.units e.unit j (release_step u e.now).unit differ

other_event : (f : SignedModel) (e : SignedEvent) (o : Option UnitModel) (j : ℕ) → e.unit ≢ j
    → slice_get (at_signed f e o).units j ≡ slice_get f.units j
other_event f e None j differ = refl
other_event f e (Some u) j differ = other_happened f e u e.what j differ

no_acts : (o : Option UnitModel) → o ≡ option_map (λ (u : UnitModel). unit_acts u []) o
no_acts None = refl
no_acts (Some u) = refl

-- a unit that there is, after acts and others
map_acts : (o : Option UnitModel) (first next : List UnitAct)
    → option_map (λ (u : UnitModel). unit_acts u next)
    (option_map (λ (u : UnitModel). unit_acts u first) o)
    ≡ option_map (λ (u : UnitModel). unit_acts u (first ++ next)) o
map_acts None first next = refl
map_acts (Some u) first next = ap Some (sym (acts_on u first next))

runs : (j : ℕ) (events : List SignedEvent) (f : SignedModel)
    → slice_get (signed_run f events).units j
    ≡ option_map (λ (u : UnitModel). unit_acts u (signed_acts j events)) (slice_get f.units j)
runs j [] f = no_acts (slice_get f.units j)
runs j (e ∷ events) f = runs j events (signed_step f e) ∙ by (eqb e.unit j) refl
  where
    later : Option UnitModel → Option UnitModel
    later o = option_map (λ (u : UnitModel). unit_acts u (signed_acts j events)) o

    by : (b : Bool) → eqb e.unit j ≡ b
        → later (slice_get (signed_step f e).units j)
        ≡ option_map (λ (u : UnitModel). unit_acts u
        (cond b (signed_act e e.what ++ signed_acts j events) (signed_acts j events)))
        (slice_get f.units j)
    by true is =
        let place = eqb-true e.unit j is in
        ap later (sym (ap (slice_get (signed_step f e).units) place)
        ∙ own_event f e (slice_get f.units e.unit) refl)
        ∙ map_acts (slice_get f.units e.unit) (signed_act e e.what) (signed_acts j events)
        ∙ ap (λ (k : ℕ). option_map (λ (u : UnitModel).
        unit_acts u (signed_act e e.what ++ signed_acts j events)) (slice_get f.units k))
        place
    by false is =
        ap later (other_event f e (slice_get f.units e.unit) j (eqb-false e.unit j is))

-- ---- what the entity doesn't read

unread_stays : (f : SignedModel) (e : SignedEvent) (octets : List ℕ) (o : Option UnitModel)
    → at_signed f (record { unit = e.unit; now = e.now; what = SignedWhat.Unread octets }) o ≡ f
unread_stays f e octets None = refl
unread_stays f e octets (Some u) = refl

unread_between : (f : SignedModel) (before after : List SignedEvent) (unit now : ℕ)
    (octets : List ℕ)
    → signed_run f (before ++ record { unit = unit; now = now; what = SignedWhat.Unread octets } ∷ after)
    ≡ signed_run f (before ++ after)
unread_between f [] after unit now octets =
    let e : SignedEvent = record { unit = unit; now = now; what = SignedWhat.Unread octets } in
    ap (λ (g : SignedModel). signed_run g after)
    (unread_stays f e octets (slice_get f.units unit))
unread_between f (e ∷ before) after unit now octets =
    unread_between (signed_step f e) before after unit now octets

pub floods_bounded : (units : List UnitModel) → FloodsAreBounded units
floods_bounded units events j u limits rate at new is =
    (lawful limits u new).contention.releases_are_within rate is (signed_acts j events)

pub signed_units_run : (units : List UnitModel) → SignedUnitsRun units
signed_units_run units events j = runs j events (new_signed units)

pub change_nothing : (units : List UnitModel) → ForgersChangeNothing units
change_nothing units = record {
  unread = λ before after unit now octets.
      unread_between (new_signed units) before after unit now octets;
  faulty = faulty_stays;
}
