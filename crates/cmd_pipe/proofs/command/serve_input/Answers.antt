use Rattle.std.proofs.Common.{rules, ◌≡◌, ◌∙◌, ℕ, List, [], Option, Some, None, refl, sym, ap, subst}
use Rattle.std.proofs.Common.{if◌then◌else◌, ◌==◌, Ok, Err}
use Rattle.std.specs.Prelude.{IfOk, Result}
use Rattle.std.specs.Io.Buffered.{reader_buffer, reader_capacity, reader_inner, reader_remaining}
use Rattle.std.specs.Io.KnownBytes.{prepend_known}
use Rattle.std.specs.declared.io.buffered.BufReader.{BufReader}
use Rattle.its_model.specs.Contention.{ContentionRule}
use Rattle.its_governor.specs.Governing.{IsNewGovernor}
use Rattle.its_governor.specs.declared.governor.Governor.{Governor}
use Rattle.its_unit.specs.Unit.{UnitState}
use Rattle.its_world.specs.declared.config.Config.{Config}
use Rattle.cmd_pipe.specs.Serving.{IsServed, ServesInput, beginning, no_limits}
use Rattle.cmd_reporting.specs.declared.status.Status.{Status}
use Rattle.its_lines.specs.declared.response.Response.{Response}
use Rattle.cmd_pipe.proofs.command.serve_input.Goals as goal

behind_nothing : (octets : Option (List ℕ)) → prepend_known [] octets ≡ octets
behind_nothing None = refl
behind_nothing (Some octets) = refl

-- a reader that has read nothing ahead has what is behind it
all_left : {T A : Type 0} (remaining : T → Option (List ℕ)) (r : BufReader T A) (inner : T)
    → reader_inner r ≡ inner → reader_buffer r ≡ [] → reader_capacity r ≡ 8192
    → reader_remaining remaining r ≡ remaining inner
all_left remaining r inner is empty capacity =
    ap (λ (n : ℕ). if n == 0 then None else prepend_known (reader_buffer r) (remaining r.inner))
    capacity
    ∙ ap (λ (b : List ℕ). prepend_known b (remaining r.inner)) empty
    ∙ behind_nothing (remaining r.inner) ∙ ap remaining is

served : {E : Type 0} (config : Config) (rule : Option ContentionRule) (governor : Governor)
    (st : UnitState) (Took : List Response → Type 0) (input whole : Option (List ℕ))
    (r : Result Status E) → IsNewGovernor no_limits governor → input ≡ whole
    → IfOk r (λ ended. IsServed (beginning config rule governor) st ended Took input)
    → IfOk r (λ ended. ServesInput config rule ended whole)
served config rule governor st Took input whole (Err e) new is h = tt
served config rule governor st Took input whole (Ok ended) new is h =
    subst (ServesInput config rule ended) is
    (record {
      governor = governor;
      limits_are = new;
      lines = h.lines;
      lines_are = h.lines_are;
      told = h.told;
      after = h.after;
      tells = h.tells;
      ended_is = h.ended_is;
    })

pub returns : goal.returns
returns g c =
    let reader = c.in_ok-reader.reader in
    let gave : c.new.result ≡ Ok reader = search rules in
    let inner = subst (λ r. IfOk r (λ r. reader_inner r ≡ c.args.input)) gave c.new.ensures.inner in
    let empty = subst (λ r. IfOk r (λ r. reader_buffer r ≡ [])) gave c.new.ensures.empty in
    let room = subst (λ r. IfOk r (λ r. reader_capacity r ≡ 8192)) gave c.new.ensures.capacity in
    let unit = c.in_ok-unit in
    served c.args.config.now c.args.rule unit.unit.governor c.serve.new.unit _
    (reader_remaining g.R.Read.remaining reader) (g.R.Read.remaining c.args.input) c.serve.result
    unit.ensures.limits (all_left g.R.Read.remaining reader c.args.input inner empty room)
    (c.serve.ensures (beginning c.args.config.now c.args.rule unit.unit.governor) (
      record {
        station = unit.ensures.station;
        contention = sym unit.ensures.contention;
        governor = refl;
      },
      unit.ensures.counts,
    ) tt)
