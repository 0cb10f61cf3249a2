use Rattle.std.proofs.Common.{◌≡◌, ℕ, suc, ◌-◌, Bool, true, false, Option, Some, sym, ap, ◌∙◌, arith}
use Rattle.its_model.specs.Contention.{first_due}
use Rattle.its_contention.specs.Buffer.{Buffer, after_drop}
use Rattle.its_contention.specs.Waiting.{Waiting}
use Rattle.its_governor.specs.declared.governor.Governor.{Governor}
use Rattle.its_unit.specs.Contending.{Released, after_due_frame, has_room_for_due, release_first}
use Rattle.its_unit.specs.Contending.{released_or}
use Rattle.its_unit.specs.Releases.{octets_released}
use Rattle.its_unit.specs.Waits.{IsJudged}
use Rattle.its_unit.specs.declared.contending.Judged.TheVariants as judged
use Rattle.its_unit.proofs.contending.release_first.Goals as goal

stepped : (rest address now : ℕ) (b : Buffer Waiting) (g : Governor) (first : Option Waiting)
    (room : Bool) → first_due now b.held ≡ first → has_room_for_due g address now first ≡ room
    → release_first (suc rest) address now b g
    ≡ released_or b g now first room
    (release_first rest address now (after_drop b now) (after_due_frame g now first false))
stepped rest address now b g first room is has =
    ap (λ (o : Option Waiting). released_or b g now o (has_room_for_due g address now o)
    (release_first rest address now (after_drop b now) (after_due_frame g now o false))) is
    ∙ ap (λ (r : Bool). released_or b g now first r
    (release_first rest address now (after_drop b now) (after_due_frame g now first false))) has

dropped : (left rest address now : ℕ) (b : Buffer Waiting) (g : Governor) (b' : Buffer Waiting)
    (g' : Governor) → left ≡ suc rest → IsJudged judged.Dropped b g address now b' g'
    → release_first left address now b g ≡ release_first rest address now b' g'
dropped left rest address now b g b' g' more (frame, first, room, waits, limits) =
    ap (λ (n : ℕ). release_first n address now b g) more
    ∙ stepped rest address now b g (Some frame) false first room
    ∙ ap (λ (x : Buffer Waiting). release_first rest address now x
    (after_due_frame g now (Some frame) false)) (sym waits)
    ∙ ap (λ (x : Governor). release_first rest address now b' x) (sym limits)

passes : (left rest address now : ℕ) (b : Buffer Waiting) (g : Governor) (frame : Waiting)
    → left ≡ suc rest → first_due now b.held ≡ Some frame
    → has_room_for_due g address now (Some frame) ≡ true
    → octets_released (release_first left address now b g).frame ≡ Some frame.octets
passes left rest address now b g frame more first room =
    ap (λ (r : Released). octets_released r.frame)
    (ap (λ (n : ℕ). release_first n address now b g) more
    ∙ stepped rest address now b g (Some frame) true first room)

pub returns-in-Passes-clause-sent : goal.returns-in-Passes-clause-sent
returns-in-Passes-clause-sent c =
    ap Some c.into_octets.ensures
    ∙ sym (ap (λ (r : Released). octets_released r.frame) c.loop-left.invariant.same
    ∙ passes c.loop-left.left (c.loop-left.left - 1) c.args.address c.args.now
    c.loop-left.contention c.loop-left.governor c.in-Passes.frame
    (omega (arith, c.loop-left-test.true)) c.in-Passes.ensures.0 c.in-Passes.ensures.1)

pub loop-left-preserved : goal.loop-left-preserved
loop-left-preserved c = record {
  same = c.loop-left.invariant.same
      ∙ dropped c.loop-left.left (c.loop-left.left - 1) c.args.address c.args.now
      c.loop-left.contention c.loop-left.governor c.judge_due.new.contention
      c.judge_due.new.governor (omega (arith, c.loop-left-test.true)) c.in-Dropped.ensures;
}
