-- A handle's life is a run of its unit.
use Rattle.std.proofs.Common.{◌≡◌, ◌≢◌, ℕ, ℤ, ◌<◌, ◌≤◌, pos, negsuc, List, [], ◌∷◌, ◌++◌, length}
use Rattle.std.proofs.Common.{Bool, true, false, cond, ltb, None, Some, Option, refl, sym, ap, ◌∙◌}
use Rattle.std.proofs.Common.{subst, arith}
use Rattle.std.proofs.lemmas.Bool.{ltb-true, ltb-false}
use Rattle.std.proofs.lemmas.Bool.Decides.{nat_tests}
use Rattle.std.proofs.lemmas.Option.{none-some, same_Some}
use Rattle.std.specs.Prelude.{Result, Ok, Err, Vec}
use Rattle.std.specs.Option.{option_map}
use Rattle.std.specs.declared.alloc.Global.{Global}
use Rattle.its_btp.specs.declared.ports.PortFault.TheVariants as ports
use Rattle.its_contention.specs.Buffer.{empty}
use Rattle.its_model.specs.Calls.{Answer}
use Rattle.its_model.specs.Contention.{ContentionRule}
use Rattle.its_model.specs.Packet.{Transmission}
use Rattle.its_model.specs.Station.{StationModel}
use Rattle.its_governor.specs.declared.rate.Limits.{Limits}
use Rattle.its_governor.specs.Governing.{IsNewGovernor}
use Rattle.its_station.specs.Counting.{nothing}
use Rattle.its_station.specs.State.{RepresentsStation}
use Rattle.its_station.specs.declared.counts.Counts.{Counts}
use Rattle.its_station.specs.declared.outcome.Outcome.{Outcome}
use Rattle.its_station.specs.declared.refused.Refused.{Refused}
use Rattle.its_station.specs.declared.refused.Refused.TheVariants as refused
use Rattle.its_unit.specs.Unit.{UnitModel, UnitState, UnitStep, UnitAnswer}
use Rattle.its_unit.specs.Unit.{RepresentsUnit, unit_step}
use Rattle.its_unit.specs.Releases.{IsReleaseOf, UnitRelease, counted_release, release_step}
use Rattle.its_unit.specs.Lawful.{IsLawful}
use Rattle.its_unit.specs.Runs.{UnitAct, UnitCallAt, after_act, unit_acts}
use Rattle.its_unit.specs.Steps.{IsReactionOf, IsStepOf, IsSendOf, IsRefusedStep}
use Rattle.its_unit.specs.declared.outcome.Reaction.{Reaction}
use Rattle.its_unit.specs.declared.unsent.Unsent.{Unsent}
use Rattle.its_unit.specs.declared.unsent.Unsent.TheVariants as unsent
use Rattle.its_c.specs.Open.{HoldsUnit}
use Rattle.its_c.specs.Status.{status_of, status_in, status_sent}
use Rattle.its_c.specs.declared.handle.Geostation.{Geostation}
use Rattle.its_c.specs.Life.{HandleCall, HandleModel, HoldsHandle, HoldsNew, HasRoom, HasRanges}
use Rattle.its_c.specs.Life.{CallStep, ModelStep, MakesNone, UnitCalled, UnitSteps, Leads, IsLife}
use Rattle.its_c.specs.Life.{UnitReleased, UnitReleases, is_status, made_if, new_unit, room_for}
use Rattle.its_c.proofs.Opens.{same_rep, unit_held}

-- a handle that holds the same station and limits holds the same unit
same_holds : (old new : Option UnitState) (u : UnitModel)
    → option_map (λ (st : UnitState). st.station) new ≡ option_map (λ (st : UnitState). st.station) old
    → option_map (λ (st : UnitState). st.contention) new
    ≡ option_map (λ (st : UnitState). st.contention) old
    → option_map (λ (st : UnitState). st.governor) new ≡ option_map (λ (st : UnitState). st.governor) old
    → HoldsUnit old u → HoldsUnit new u
same_holds None new u station contention governor holds = absurd holds
same_holds (Some a) None u station contention governor holds =
    absurd (none-some a.station station)
same_holds (Some a) (Some b) u station contention governor holds =
    same_rep a b u (record {
      station = same_Some b.station a.station station;
      contention = same_Some b.contention a.contention contention;
      governor = same_Some b.governor a.governor governor;
    }) holds

-- a refusal that says nothing of the unit is one for want of memory
refused_status : (e : Refused) (new : UnitState) (step : UnitStep) → IsRefusedStep e new step
    → is_status 5 (status_of e) ≡ false → RepresentsUnit new step.unit
refused_status refused.MomentEarlier new step is code = is.1
refused_status refused.MomentTooLate new step is code = is.1
refused_status refused.JitterRange new step is code = is.1
refused_status (refused.Frame fault) new step is code = is.1
refused_status (refused.Secured fault) new step is code = is.1
refused_status (refused.Port ports.AlreadyOpen) new step is code = is.1
refused_status (refused.Port ports.Full) new step is code = is.1
refused_status (refused.Port ports.NotOpen) new step is code = is.1
refused_status refused.PayloadTooLong new step is code = is.1
refused_status refused.HopLimitZero new step is code = is.1
refused_status refused.TableFull new step is code = is.1
refused_status refused.NoMemory new step is code = cc

step_holds : {T : Type 0} (says : T → UnitAnswer → Type 0) (said : Result T Refused)
    (new : UnitState) (step : UnitStep) → IsStepOf says said new step
    → is_status 5 (status_in said) ≡ false → RepresentsUnit new step.unit
step_holds says (Ok x) new step is code = is.1
step_holds says (Err e) new step is code = refused_status e new step is code

reaction_holds : (tells : Outcome → Answer Transmission → Type 0) (said : Result Reaction Refused)
    (new : UnitState) (step : UnitStep) → IsReactionOf tells said new step
    → is_status 5 (status_in said) ≡ false → RepresentsUnit new step.unit
reaction_holds tells (Ok r) new step is code = is.3
reaction_holds tells (Err e) new step is code = refused_status e new step is code

send_holds : (said : Result (Vec ℕ Global) Unsent) (new : UnitState) (step : UnitStep)
    → IsSendOf said new step → is_status 5 (status_sent said) ≡ false
    → RepresentsUnit new step.unit
send_holds (Ok w) new step is code = is.1
send_holds (Err (unsent.Refused e)) new step is code = refused_status e new step is code
send_holds (Err unsent.OverRate) new step is code = is.1

status_is : (code : ℕ) (status : ℤ) → is_status code status ≡ true → status ≡ pos code
status_is code (pos n) is = ap pos (grind (arith, nat_tests))
status_is code (negsuc n) is = cc

-- ---- one call of C

-- A call leads to this handle, which stands for the unit after the calls that it made.
record Found (m : HandleModel) (new : Geostation) (IsFound : List UnitAct → Counts → Type 0) :
    Type 0 where
  made : List UnitAct
  counts : Counts
  found : IsFound made counts
  holds : HoldsHandle new (record { unit = unit_acts m.unit made; counts = counts })

-- the unit after a call, by whether there was memory
held_by : (b : Bool) (call : UnitCallAt) (u : UnitModel) (held : Option UnitState)
    → (b ≡ true → HoldsUnit held u)
    → (b ≡ false → HoldsUnit held (unit_step u call.now call.call).unit)
    → HoldsUnit held (unit_acts u (cond b [] (UnitAct.Calls call ∷ [])))
held_by true call u held without with_memory = without refl
held_by false call u held without with_memory = with_memory refl

-- a call of the unit
called : {X E : Type 0} (IsDone : Result X E → UnitState → UnitStep → Type 0)
    (Shows : Result X E → Type 0) (count : Result X E → Counts → Counts) (status_by : Result X E → ℤ)
    (status : ℤ) (call : UnitCallAt) (old new : Geostation) (m : HandleModel)
    → ((said : Result X E) (after : UnitState) (step : UnitStep) → IsDone said after step
    → is_status 5 (status_by said) ≡ false → RepresentsUnit after step.unit)
    → UnitCalled old new X E IsDone Shows count status_by status call → HoldsHandle old m
    → Found m new (λ made counts.
    UnitSteps m made counts X E IsDone Shows count status_by status call)
called IsDone Shows count status_by status call old new m represents calls holds =
    let step = unit_step m.unit call.now call.call in
    let t = calls.step m.unit holds.unit in
    record {
      made = made_if status call;
      counts = count t.said m.counts;
      found = record {
        said = t.said;
        after = t.after;
        done = t.done;
        code = t.code;
        shown = t.shown;
        counted = refl;
        makes = refl;
      };
      holds = record {
        unit = held_by (is_status 5 status) call m.unit new.held.unit
            (λ without.
            let same = calls.memory (status_is 5 status without) in
            same_holds old.held.unit new.held.unit m.unit same.station same.contention
            same.limits holds.unit)
            (λ enough. unit_held new.held.unit t.after step.unit t.held
            (represents t.said t.after step t.done (ap (is_status 5) (sym t.code) ∙ enough)));
        counts = t.counts ∙ ap (option_map (count t.said)) holds.counts;
      };
    }

-- a handle that is as it was
stays : (old new : Geostation) (m : HandleModel) → new ≡ old → HoldsHandle old m → HoldsHandle new m
stays old new m same holds = subst (λ (h : Geostation). HoldsHandle h m) (sym same) holds

-- a call that needs a buffer of some length
with_room : (least : ℕ) (room : List ℕ) (status : ℤ) (Blank Calls : Type 0)
    (IsFound : List UnitAct → Counts → Type 0) (old new : Geostation) (m : HandleModel)
    → HoldsHandle old m → HasRoom least room status ((new ≡ old) × Blank) Calls
    → (Calls → Found m new IsFound)
    → Found m new (λ made counts.
    HasRoom least room status (MakesNone m made counts × Blank) (IsFound made counts))
with_room least room status Blank Calls IsFound old new m holds has calls =
    by (ltb (length room) least) refl
  where
    by : (b : Bool) → ltb (length room) least ≡ b
        → Found m new (λ made counts.
        HasRoom least room status (MakesNone m made counts × Blank) (IsFound made counts))
    by true is =
        let short : length room < least = ltb-true _ _ is in
        let refuses = has.short short in
        record {
          made = [];
          counts = m.counts;
          found = record {
            short = λ below. (refuses.0, ((refl, refl), refuses.1.1));
            enough = λ long. absurd (omega (arith, short, long));
          };
          holds = stays old new m refuses.1.0 holds;
        }
    by false is =
        let long : least ≤ length room = ltb-false _ _ is in
        let f = calls (has.enough long) in
        record {
          made = f.made;
          counts = f.counts;
          found = record {
            short = λ short. absurd (omega (arith, short, long));
            enough = λ above. f.found;
          };
          holds = f.holds;
        }

-- a call whose arguments have ranges
in_ranges : (AreInRange : Type 0) (status : ℤ) (Refuses Calls : Type 0)
    (IsRefused IsFound : List UnitAct → Counts → Type 0) (old new : Geostation)
    (m : HandleModel) → HasRanges AreInRange status Refuses Calls → (Refuses → Found m new IsRefused)
    → (Calls → Found m new IsFound)
    → Found m new (λ made counts.
    HasRanges AreInRange status (IsRefused made counts) (IsFound made counts))
in_ranges AreInRange status Refuses Calls IsRefused IsFound old new m has refuses calls =
    by (is_status 20 status) refl
  where
    by : (b : Bool) → is_status 20 status ≡ b
        → Found m new (λ made counts.
        HasRanges AreInRange status (IsRefused made counts) (IsFound made counts))
    by true is =
        let out = status_is 20 status is in
        let f = refuses (has.outside out) in
        record {
          made = f.made;
          counts = f.counts;
          found = record {
            refused = has.refused;
            outside = λ again. f.found;
            taken = has.taken;
            inside = λ other. absurd (other out);
          };
          holds = f.holds;
        }
    by false is =
        let other : status ≢ pos 20 = λ out.
        let no : true ≡ false = sym (ap (is_status 20) out) ∙ is in cc in
        let f = calls (has.inside other) in
        record {
          made = f.made;
          counts = f.counts;
          found = record {
            refused = has.refused;
            outside = λ out. absurd (other out);
            taken = has.taken;
            inside = λ again. f.found;
          };
          holds = f.holds;
        }

-- a refused call
refused_call : (old new : Geostation) (m : HandleModel) → HoldsHandle old m → new ≡ old
    → Found m new (λ made counts. MakesNone m made counts)
refused_call old new m holds same = record {
  made = [];
  counts = m.counts;
  found = (refl, refl);
  holds = stays old new m same holds;
}

-- and one that leaves nothing in a struct
blank_call : (old new : Geostation) (m : HandleModel) (Blank : Type 0) → HoldsHandle old m
    → (new ≡ old) × Blank → Found m new (λ made counts. MakesNone m made counts × Blank)
blank_call old new m Blank holds refuses = record {
  made = [];
  counts = m.counts;
  found = ((refl, refl), refuses.1);
  holds = stays old new m refuses.0 holds;
}

-- a handle that was only read
read_call : (old new : Geostation) (m : HandleModel) → HoldsHandle old m
    → new.held.unit ≡ old.held.unit → Found m new (λ made counts. MakesNone m made counts)
read_call old new m holds same = record {
  made = [];
  counts = m.counts;
  found = (refl, refl);
  holds = record {
    unit = subst (λ (h : Option UnitState). HoldsUnit h m.unit) (sym same) holds.unit;
    counts = ap (option_map (λ (st : UnitState). st.counts)) same ∙ holds.counts;
  };
}

-- with something that is found first
found_with : (m : HandleModel) (new : Geostation) (IsFound IsAll : List UnitAct → Counts → Type 0)
    → Found m new IsFound
    → ((made : List UnitAct) (counts : Counts) → IsFound made counts → IsAll made counts)
    → Found m new IsAll
found_with m new IsFound IsAll f all = record {
  made = f.made;
  counts = f.counts;
  found = all f.made f.counts f.found;
  holds = f.holds;
}

-- the unit after a release that isn't refused for want of memory
release_holds : (said : Result (Option (Vec ℕ Global)) Refused) (new : UnitState)
    (release : UnitRelease) → said ≢ Err refused.NoMemory → IsReleaseOf said new release
    → RepresentsUnit new release.unit
release_holds (Ok sent) new release some is = is.2
release_holds (Err refused.MomentEarlier) new release some is = is.1
release_holds (Err refused.MomentTooLate) new release some is = is.1
release_holds (Err refused.JitterRange) new release some is = is.1
release_holds (Err (refused.Frame fault)) new release some is = is.1
release_holds (Err (refused.Secured fault)) new release some is = is.1
release_holds (Err (refused.Port ports.AlreadyOpen)) new release some is = is.1
release_holds (Err (refused.Port ports.Full)) new release some is = is.1
release_holds (Err (refused.Port ports.NotOpen)) new release some is = is.1
release_holds (Err refused.PayloadTooLong) new release some is = is.1
release_holds (Err refused.HopLimitZero) new release some is = is.1
release_holds (Err refused.TableFull) new release some is = is.1
release_holds (Err refused.NoMemory) new release some is = absurd (some refl)

-- a release
released : (now : ℕ) (room : List ℕ) (status : ℤ) (written : ℕ) (frame : List ℕ)
    (old new : Geostation) (m : HandleModel) → HoldsHandle old m
    → UnitReleased old new now room status written frame
    → Found m new (λ made counts. UnitReleases m made counts now room status written frame)
released now room status written frame old new m holds is =
    by (ltb (length room) (room_for m.unit)) refl
  where
    by : (b : Bool) → ltb (length room) (room_for m.unit) ≡ b
        → Found m new (λ made counts. UnitReleases m made counts now room status written frame)
    by true below =
        let short : length room < room_for m.unit = ltb-true _ _ below in
        let refuses = is.short m.unit holds.unit short in
        let same = read_call old new m holds refuses.2 in
        record {
          made = same.made;
          counts = same.counts;
          found = record {
            short = λ again. (refuses.0, refuses.1, same.found);
            enough = λ long. absurd (omega (arith, short, long));
          };
          holds = same.holds;
        }
    by false below =
        let long : room_for m.unit ≤ length room = ltb-false _ _ below in
        let t = is.enough m.unit holds.unit long in
        record {
          made = UnitAct.Releases now ∷ [];
          counts = counted_release t.said m.counts;
          found = record {
            short = λ short. absurd (omega (arith, short, long));
            enough = λ again. record {
              said = t.said;
              after = t.after;
              done = t.done;
              code = t.code;
              shown = t.shown;
              counted = refl;
              makes = refl;
            };
          };
          holds = record {
            unit = unit_held new.held.unit t.after (release_step m.unit now).unit t.held
                (release_holds t.said t.after (release_step m.unit now) t.memory t.done);
            counts = t.counts ∙ ap (option_map (counted_release t.said)) holds.counts;
          };
        }

-- what one call of C is in the model
one : (c : HandleCall) (old new : Geostation) (m : HandleModel) → HoldsHandle old m
    → CallStep c old new → Found m new (λ made counts. ModelStep m c made counts)
one (HandleCall.Move now latitude longitude accurate speed heading status) old new m holds is =
    in_ranges _ status _ _ _ _ old new m is (refused_call old new m holds)
    (λ calls. called _ _ _ _ status _ old new m (step_holds _) calls holds)
one (HandleCall.MoveAt now timestamp latitude longitude accurate speed heading status) old new m
    holds is =
    in_ranges _ status _ _ _ _ old new m is (refused_call old new m holds)
    (λ calls. called _ _ _ _ status _ old new m (step_holds _) calls holds)
one (HandleCall.OpenPort now port status) old new m holds is =
    called _ _ _ _ status _ old new m (step_holds _) is holds
one (HandleCall.ClosePort now port status) old new m holds is =
    called _ _ _ _ status _ old new m (step_holds _) is holds
one (HandleCall.Restart now number status) old new m holds is =
    called _ _ _ _ status _ old new m (step_holds _) is holds
one (HandleCall.Tick now jitter room status written frame) old new m holds is =
    with_room 1468 room status _ _ _ old new m holds is
    (λ calls. called _ _ _ _ status _ old new m (step_holds _) calls holds)
one (HandleCall.SendShb now request payload room status written frame) old new m holds is =
    with_room 1468 room status _ _ _ old new m holds is
    (λ calls. called _ _ _ _ status _ old new m send_holds calls holds)
one (HandleCall.SendShbWith now request options payload room status written frame) old new m holds
    is =
    with_room 1468 room status _ _ _ old new m holds is
    (λ calls. called _ _ _ _ status _ old new m send_holds calls holds)
one (HandleCall.SendToArea now cast request payload room status written frame) old new m holds is =
    with_room 1468 room status _ _ _ old new m holds is
    (λ ranges. in_ranges _ status _ _ _ _ old new m ranges (blank_call old new m _ holds)
    (λ calls. found_with m new _ _ (called _ _ _ _ status _ old new m send_holds calls.2 holds)
    (λ made counts steps. (calls.0, calls.1, steps))))
one (HandleCall.Receive now octets room status reception relay) old new m holds is =
    with_room 1468 room status _ _ _ old new m holds is
    (λ calls. found_with m new _ _ (called _ _ _ _ status _ old new m (reaction_holds _) calls.4 holds)
    (λ made counts steps. (calls.0, calls.1, calls.2, calls.3, steps)))
one (HandleCall.ReceiveVerified now octets plain room status reception relay) old new m holds is =
    with_room 2310 room status _ _ _ old new m holds is
    (λ calls. found_with m new _ _ (called _ _ _ _ status _ old new m (reaction_holds _) calls.2 holds)
    (λ made counts steps. (calls.0, calls.1, steps)))
one (HandleCall.Release now room status written frame) old new m holds is =
    released now room status written frame old new m holds is
one HandleCall.Read old new m holds is = read_call old new m holds is

-- ---- a life

run_on : (u : UnitModel) (first next : List UnitAct)
    → unit_acts u (first ++ next) ≡ unit_acts (unit_acts u first) next
run_on u [] next = refl
run_on u (a ∷ first) next = run_on (after_act u a) first next

pub lives : (calls : List HandleCall) (old new : Geostation) (m : HandleModel) → HoldsHandle old m
    → Leads old calls new → IsLife m calls new
lives [] old new m holds leads = record {
  made = [];
  counts = m.counts;
  run = (refl, refl);
  holds = stays old new m leads holds;
}
lives (c ∷ calls) old new m holds leads =
    let o = one c old leads.0 m holds leads.1 in
    let rest = lives calls leads.0 new (record { unit = unit_acts m.unit o.made; counts = o.counts })
    o.holds leads.2 in
    record {
      made = o.made ++ rest.made;
      counts = rest.counts;
      run = (o.made, rest.made, o.counts, o.found, refl, rest.run);
      holds = record {
        unit = subst (λ (v : UnitModel). HoldsUnit new.held.unit v)
            (sym (run_on m.unit o.made rest.made)) rest.holds.unit;
        counts = rest.holds.counts;
      };
    }

-- a new handle
pub new_handle : (h : Geostation) (st : UnitState) (m : StationModel) (rule : Option ContentionRule)
    (limits : Limits) → h.held.unit ≡ Some st → RepresentsStation st.station m
    → st.contention ≡ option_map empty rule → IsNewGovernor limits st.governor
    → st.counts ≡ nothing
    → ((u : UnitModel) → IsNewGovernor limits u.governor → IsLawful limits u)
    → HoldsNew h m rule limits
new_handle h st m rule limits is rep contends new none laws =
    let u : UnitModel = new_unit m rule st.governor in
    let handle : HandleModel = record { unit = u; counts = nothing } in
    let holds : HoldsHandle h handle = record {
      unit = unit_held h.held.unit st u is
          (record { station = rep; contention = sym contends; governor = refl });
      counts = ap (option_map (λ (s : UnitState). s.counts)) is ∙ ap (λ (c : Counts). Some c) none;
    } in
    record {
      governor = st.governor;
      limits_are = new;
      holds = holds;
      lawful = laws u new;
      lives = λ calls after leads. lives calls h after handle holds leads;
    }
