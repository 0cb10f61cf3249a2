use Rattle.std.proofs.Common.{arith, rules, ◌≡◌, ◌++◌, ◌∙◌, take, drop, subst, ap}
use Rattle.cmd_text.specs.Lines.{IsPassed}
use Rattle.cmd_text.proofs.Kept.{kept_take, passed_adds, start_adds, rest_adds}
use Rattle.cmd_text.proofs.lines.line.Line.add.Goals as goal

pub returns-clause-adds : goal.returns-clause-adds
returns-clause-adds c = λ taken kept.
    let line = c.args.self.now in
    let octets = c.args.octets.now in
    let start : c.extend_from_slice.new.self.items ≡ take line.most (line.start.items ++ octets) =
    grind (arith, kept_take) in
    record {
      start = start ∙ start_adds line.most line.start.items taken octets kept.start;
      passed = subst (IsPassed c.add.new.self)
          (ap (λ l. drop line.most taken ++ l) (search rules)
          ∙ rest_adds line.most line.start.items taken octets kept.start)
          (passed_adds line.passed c.add.new.self (drop line.most taken) c.split_at.result.1.now
          kept.passed c.add.ensures.any c.add.ensures.odd c.add.ensures.stray);
    }
