-- What units with sound entities release, whatever a forger does.
use Rattle.std.proofs.Common.{◌≡◌, ◌≢◌, ◌⊎◌, ◌-◌, ℕ, suc, List, [], ◌∷◌}
use Rattle.std.proofs.Common.{Option, Some, None, refl, sym, ap, subst, ◌∙◌, inl, inr}
use Rattle.std.specs.Prelude.{IsTrue, slice_get}
use Rattle.std.proofs.lemmas.Bool.{false≢true}
use Rattle.std.proofs.lemmas.List.Elements.{All-nil}
use Rattle.std.proofs.lemmas.Option.{none-some, same_Some}
use Rattle.its_gnvalue.specs.Values.{mid_of}
use Rattle.its_model.specs.Packet.{Transmission}
use Rattle.its_model.specs.Contention.{ContentionRule, HeldFrame}
use Rattle.its_model.specs.Station.{moment_refusal}
use Rattle.its_model.proofs.Lists.{get_set}
use Rattle.its_contention.specs.Buffer.{Buffer, empty}
use Rattle.its_contention.specs.Waiting.{Waiting}
use Rattle.its_station.specs.Receiving.{VerifiedCall}
use Rattle.its_unit.specs.Releases.{release_step}
use Rattle.its_unit.specs.Runs.{UnitAct, after_act}
use Rattle.its_unit.specs.Unit.{UnitCall, UnitModel, frame_of, unit_step}
use Rattle.its_unit.specs.FleetLaws.{IsIn}
use Rattle.its_unit.specs.Signed.{SignedWhat, SignedEvent, SignedLine, SignedModel, WasSealed}
use Rattle.its_unit.specs.Signed.{AreSound, IsSoundEvent, after_signed, at_signed, call_in}
use Rattle.its_unit.specs.Signed.{happened_signed, is_own, new_signed, signed_run, signed_step}
use Rattle.its_unit.specs.SignedLaws.{AreNamed, IsSealedForwarding, IsSealedWaiting}
use Rattle.its_unit.specs.SignedLaws.{ReleasesAsSealed}
use Rattle.its_unit.proofs.Acts.{PutIn, acted, released_of}
use Rattle.its_unit.proofs.Puts.{AllHeld, calls_keep}
use Rattle.its_unit.proofs.Signed.{IsSoundRun, arrival, new_sound, sealed_on, unit_sound}
use Rattle.its_unit.proofs.SignedSteps.{answered_on}

-- ---- as more is logged

abbrev longer_sealed : (line : SignedLine) (log : List SignedLine) (plain message : List ℕ)
    → WasSealed log plain message → WasSealed (line ∷ log) plain message
longer_sealed line log plain message h = record {
  line = h.line;
  call = h.call;
  frame = h.frame;
  logged = (suc h.logged.0, h.logged.1);
  asked = h.asked;
  answer = h.answer;
  part = h.part;
}

abbrev longer_forwarding : (line : SignedLine) (log : List SignedLine) (u : UnitModel) (what : SignedWhat)
    (t : Transmission) → IsSealedForwarding log u what t
    → IsSealedForwarding (line ∷ log) u what t
longer_forwarding line log u what t h = record {
  octets = h.octets;
  plain = h.plain;
  came = h.came;
  sealed = longer_sealed line log h.plain h.came.message h.sealed;
  is = h.is;
  hops = h.hops;
  target = h.target;
  same = h.same;
}

abbrev longer_waiting : (line : SignedLine) (events : List SignedEvent) (log : List SignedLine) (j : ℕ)
    (u : UnitModel) (w : Waiting) → IsSealedWaiting events log j u w
    → IsSealedWaiting events (line ∷ log) j u w
longer_waiting line events log j u w h = record {
  event = h.event;
  earlier = h.earlier;
  there = h.there;
  frame = h.frame;
  forwarded = longer_forwarding line log u h.event.what h.frame h.forwarded;
  octets = h.octets;
}

-- ---- what waits in unit j

abbrev Waits : List SignedEvent → List SignedLine → ℕ → UnitModel → Waiting → ℕ → Type 0
Waits events log j first w due = IsSealedWaiting events log j first w

abbrev HoldsSealed : List SignedEvent → List SignedLine → ℕ → UnitModel → UnitModel → Type 0
HoldsSealed events log j first u =
    (b : Buffer Waiting) × (u.contention ≡ Some b) × AllHeld (Waits events log j first) b.held

longer_holds : (line : SignedLine) (events : List SignedEvent) (log : List SignedLine) (j : ℕ)
    (first u : UnitModel) → HoldsSealed events log j first u
    → HoldsSealed events (line ∷ log) j first u
longer_holds line events log j first u h =
    (h.0, h.1, λ i d less. longer_waiting line events log j first _ (h.2 i d less))

-- what an act keeps, by what it puts
act_holds : (events : List SignedEvent) (log : List SignedLine) (j : ℕ) (first u : UnitModel)
    (a : UnitAct)
    → ((rule : ContentionRule) → PutIn (Waits events log j first) rule u a)
    → HoldsSealed events log j first u → HoldsSealed events log j first (after_act u a)
act_holds events log j first u a put h =
    let became = acted (Waits events log j first) u a h.0 h.1 (put h.0.rule) in (
      became.0,
      became.1,
      subst (λ (b : Buffer Waiting). AllHeld (Waits events log j first) b.held) (sym became.2.1)
          (calls_keep became.2.0 (Waits events log j first) h.0 h.2 became.2.2),
    )

-- an own call brings no frame
own_brings_none : (call : UnitCall) (t : Transmission) → IsTrue (is_own call)
    → frame_of call ≡ Some t → ⊥
own_brings_none (UnitCall.Own call) t own e = none-some t e
own_brings_none (UnitCall.MoveAt timestamp place accurate speed heading) t own e = none-some t e
own_brings_none (UnitCall.SendShbFor options request) t own e = none-some t e
own_brings_none (UnitCall.Receive call) t own e = false≢true own
own_brings_none (UnitCall.ReceiveVerified call) t own e = false≢true own

-- the forwarding of a unit with the address of the first
abbrev of_first : (log : List SignedLine) (first u : UnitModel) (what : SignedWhat)
    (t : Transmission) → u.station.address ≡ first.station.address
    → IsSealedForwarding log u what t → IsSealedForwarding log first what t
of_first log first u what t same h =
    let from_address : ℕ → Transmission = λ address. record {
      pdu = record h.sealed.frame.pdu { lifetime = h.came.frame.pdu.lifetime };
      hops_left = h.came.frame.hops_left - 1;
      link_source = mid_of address;
      link_target = h.target;
    } in
    record {
      octets = h.octets;
      plain = h.plain;
      came = h.came;
      sealed = h.sealed;
      is = h.is;
      hops = h.hops;
      target = h.target;
      same = h.same ∙ ap from_address same;
    }

-- what a frame puts that its entity read
read_puts : (events : List SignedEvent) (f : SignedModel) (e : SignedEvent) (j : ℕ)
    (first u : UnitModel) (octets plain : List ℕ) (v : VerifiedCall) (rule : ContentionRule)
    → IsIn events e → e.unit ≡ j → u.station.address ≡ first.station.address
    → e.what ≡ SignedWhat.Arrives octets plain v → IsSoundEvent f.log e.what
    → PutIn (Waits events f.log j first) rule u
    (UnitAct.Calls (record { now = e.now; call = UnitCall.ReceiveVerified v }))
read_puts events f e j first u octets plain (VerifiedCall.Faulty fault) rule earlier there same is
    sound = λ t handed relay brought answered admitted. absurd (none-some t brought)
read_puts events f e j first u octets plain (VerifiedCall.Came v) rule earlier there same is sound =
    λ t handed relay brought answered admitted.
    record {
      event = e;
      earlier = earlier;
      there = there;
      frame = relay;
      forwarded = of_first f.log first u e.what relay same
          (sealed_on f.log u e.now e.what v relay
          (arrival f.log e.what (VerifiedCall.Came v) (ap call_in is) sound)
          (answered_on u.station e.now v.frame relay handed answered));
      octets = refl;
    }

-- ---- an event

-- unit j, if it is there
abbrev HoldAt : List SignedEvent → ℕ → UnitModel → SignedModel → Type 0
HoldAt events j first f =
    (u : UnitModel) → slice_get f.units j ≡ Some u → HoldsSealed events f.log j first u

-- the unit has the address that it had first
same_address : (units : List UnitModel) (f : SignedModel) (j : ℕ) (first u : UnitModel)
    → IsSoundRun units f → slice_get units j ≡ Some first → slice_get f.units j ≡ Some u
    → u.station.address ≡ first.station.address
same_address units f j first u run is at =
    let still = run.each j u at in
    still.address.station
    ∙ ap (λ (x : UnitModel). x.station.address) (same_Some still.first first (sym still.there ∙ is))

-- after a call
called_hold : (events : List SignedEvent) (f : SignedModel) (e : SignedEvent) (j : ℕ)
    (first u : UnitModel) (call : UnitCall) → slice_get f.units e.unit ≡ Some u
    → (e.unit ≡ j → (rule : ContentionRule) → PutIn (Waits events f.log j first) rule u
    (UnitAct.Calls (record { now = e.now; call = call })))
    → HoldAt events j first f → HoldAt events j first (after_signed f e u (Some call))
called_hold events f e j first u call at put h x get =
    let line : SignedLine = record { event = e; answer = (unit_step u e.now call).answer } in
    longer_holds line events f.log j first x
    (by (get_set f.units e.unit (unit_step u e.now call).unit j x get))
  where
    by : ((j ≡ e.unit) × ((unit_step u e.now call).unit ≡ x))
        ⊎ ((j ≢ e.unit) × (slice_get f.units j ≡ Some x))
        → HoldsSealed events f.log j first x
    by (inl g) =
        subst (λ (y : UnitModel). HoldsSealed events f.log j first y) g.1
        (act_holds events f.log j first u (UnitAct.Calls (record { now = e.now; call = call }))
        (put (sym g.0)) (h u (ap (slice_get f.units) g.0 ∙ at)))
    by (inr g) = h x g.1

released_hold : (events : List SignedEvent) (f : SignedModel) (e : SignedEvent) (j : ℕ)
    (first u : UnitModel) → slice_get f.units e.unit ≡ Some u → HoldAt events j first f
    → HoldAt events j first (happened_signed f e u SignedWhat.Releases)
released_hold events f e j first u at h x get =
    by (get_set f.units e.unit (release_step u e.now).unit j x get)
  where
    by : ((j ≡ e.unit) × ((release_step u e.now).unit ≡ x))
        ⊎ ((j ≢ e.unit) × (slice_get f.units j ≡ Some x))
        → HoldsSealed events f.log j first x
    by (inl g) =
        subst (λ (y : UnitModel). HoldsSealed events f.log j first y) g.1
        (act_holds events f.log j first u (UnitAct.Releases e.now) (λ rule. tt)
        (h u (ap (slice_get f.units) g.0 ∙ at)))
    by (inr g) = h x g.1

happened_hold : (events : List SignedEvent) (units : List UnitModel) (f : SignedModel)
    (e : SignedEvent) (j : ℕ) (first u : UnitModel) (what : SignedWhat) → IsIn events e
    → e.what ≡ what → slice_get units j ≡ Some first → slice_get f.units e.unit ≡ Some u
    → IsSoundEvent f.log e.what → IsSoundRun units f → HoldAt events j first f
    → HoldAt events j first (happened_signed f e u what)
happened_hold events units f e j first u (SignedWhat.Asks call message) earlier what_is is at sound
    run h =
    let own : IsTrue (is_own call) = subst (IsSoundEvent f.log) what_is sound in
    called_hold events f e j first u call at
    (λ there rule t handed relay brought answered admitted.
    absurd (own_brings_none call t own brought)) h
happened_hold events units f e j first u (SignedWhat.Unread octets) earlier what_is is at sound run
    h = h
happened_hold events units f e j first u (SignedWhat.Arrives octets plain v) earlier what_is is at
    sound run h =
    called_hold events f e j first u (UnitCall.ReceiveVerified v) at
    (λ there rule. read_puts events f e j first u octets plain v rule earlier there
    (same_address units f j first u run is (sym (ap (slice_get f.units) there) ∙ at)) what_is sound)
    h
happened_hold events units f e j first u SignedWhat.Releases earlier what_is is at sound run h =
    released_hold events f e j first u at h

event_holds : (events : List SignedEvent) (units : List UnitModel) (f : SignedModel)
    (e : SignedEvent) (j : ℕ) (first : UnitModel) (o : Option UnitModel) → IsIn events e
    → slice_get units j ≡ Some first → slice_get f.units e.unit ≡ o
    → IsSoundEvent f.log e.what → IsSoundRun units f → HoldAt events j first f
    → HoldAt events j first (at_signed f e o)
event_holds events units f e j first None earlier is at sound run h = h
event_holds events units f e j first (Some u) earlier is at sound run h =
    happened_hold events units f e j first u e.what earlier refl is at sound run h

run_holds : (rest : List SignedEvent) (events : List SignedEvent) (units : List UnitModel)
    (f : SignedModel) (j : ℕ) (first : UnitModel)
    → ((e : SignedEvent) → IsIn rest e → IsIn events e) → slice_get units j ≡ Some first
    → AreSound f rest → IsSoundRun units f → HoldAt events j first f
    → HoldAt events j first (signed_run f rest)
run_holds [] events units f j first are is sound run h = h
run_holds (e ∷ rest) events units f j first are is sound run h =
    run_holds rest events units (signed_step f e) j first
    (λ x there. are x (suc there.0, there.1)) is sound.1
    (unit_sound units f e (slice_get f.units e.unit) refl sound.0 run)
    (event_holds events units f e j first (slice_get f.units e.unit) (are e (0, refl)) is refl
    sound.0 run h)

pub releases_as_sealed : (units : List UnitModel) → AreNamed units → ReleasesAsSealed units
releases_as_sealed units named events j now first u rule w sound is starts at released =
    let P = Waits events (signed_run (new_signed units) events).log j first in
    let begin : HoldAt events j first (new_signed units) =
    λ x get. (
      empty rule,
      ap (λ (y : UnitModel). y.contention) (same_Some x first (sym get ∙ is)) ∙ starts,
      All-nil (λ (h : HeldFrame Waiting). Waits events [] j first h.frame h.due),
    ) in
    let holds = run_holds events events units (new_signed units) j first (λ e there. there) is sound
    (new_sound units named) begin u at in
    (released_of (moment_refusal u.station now) u now P holds.0 w holds.1 holds.2 released).holds.0
