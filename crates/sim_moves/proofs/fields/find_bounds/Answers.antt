use Rattle.std.proofs.Common.{rules, ◌≡◌, ◌∙◌, sym, arith, length}
use Rattle.sim_moves.proofs.Bounds.{ends_all, ends_one, goes_on, plain_line}
use Rattle.sim_moves.proofs.fields.find_bounds.Goals.{then-octet-separator+in_ok-push, else-octet-separator}
use Rattle.sim_moves.proofs.fields.find_bounds.Goals as goal

pub loop-place-preserved : goal.loop-place-preserved
loop-place-preserved c =
    let line = c.args.line.now in
    let separator = c.args.separator in
    let i = c.loop-place.place in
    let begin = c.loop-place.begin in
    let bounds = c.loop-place.bounds.items in
    record {
      plain = λ k lt same. grind (
        arith,
        c.loop-place.invariant.plain k,
        c.if-octet-eq34.false,
        lt,
        same,
      );
      order = elim c.if-octet-separator.branch [
        | then-octet-separator+in_ok-push w ↦ rw w.begin-is (search rules)
        | else-octet-separator w ↦ rw w.begin-is (search rules)
      ];
      fields = c.loop-place.invariant.fields ∙ elim c.if-octet-separator.branch [
        | then-octet-separator+in_ok-push w ↦ rw (w.bounds-is, w.begin-is)
            (ends_one separator line begin i bounds w.push.new.self.items c.loop-place-test.true
            (search rules) w.in_ok-push.ensures.items)
        | else-octet-separator w ↦ rw (w.bounds-is, w.begin-is)
            (goes_on separator line begin i bounds c.loop-place.invariant.order
            c.loop-place-test.true (search rules))
      ];
    }

pub returns : goal.returns
returns c = λ done.
    let line = c.args.line.now in
    let place = c.loop-place.place in
    let all : place ≡ length line = search rules in
    sym (plain_line c.args.separator line
    (λ k lt. c.loop-place.invariant.plain k (omega (arith, lt, all)))
    ∙ c.loop-place.invariant.fields
    ∙ ends_all c.args.separator line c.loop-place.begin place c.loop-place.bounds.items
    c.push-2.new.self.items (search rules) c.in_ok-push-2.ensures.items all)
