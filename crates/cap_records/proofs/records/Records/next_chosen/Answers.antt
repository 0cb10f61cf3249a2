use Rattle.std.proofs.Common.{rules, ◌≡◌, Some, refl, inl, inr}
use Rattle.cap_records.proofs.Steps.{skips_none, skips_more, step_fewer}
use Rattle.cap_records.proofs.records.Records.next_chosen.Goals as goal

pub returns-then-eq-clause-next : goal.returns-then-eq-clause-next
returns-then-eq-clause-next g c =
    let full : c.args.self.now.selection.count ≡ Some c.args.self.now.counts.chosen =
    search rules in
    record {
      mid = c.args.self.now.source;
      between = c.args.self.now.counts;
      skips = skips_none g.S.RecordSource.GivesStep g.R.RecordReader.Reads
          c.args.self.now.selection c.args.self.now.source c.args.self.now.counts;
      ends = inr (record { none = tt; left_is = refl; next_is = refl; why = inl full });
      full = λ is. (refl, refl);
    }

pub returns-then-self-eq0-clause-next : goal.returns-then-self-eq0-clause-next
returns-then-self-eq0-clause-next g c =
    let none : c.loop-self.self.counts.left ≡ 0 = search rules in
    let not : ¬ (c.args.self.now.selection.count ≡ Some c.args.self.now.counts.chosen) =
    search rules in
    record {
      mid = c.loop-self.self.source;
      between = c.loop-self.self.counts;
      skips = c.loop-self.invariant.skips;
      ends = inr (record { none = tt; left_is = refl; next_is = refl; why = inr none });
      full = λ is. absurd (not is);
    }

pub returns-in-Some-clause-next : goal.returns-in-Some-clause-next
returns-in-Some-clause-next g c =
    let not : ¬ (c.args.self.now.selection.count ≡ Some c.args.self.now.counts.chosen) =
    search rules in
    let one = rw c.loop-self.invariant.selection at c.in_ok-met.ensures.step in
    record {
      mid = c.loop-self.self.source;
      between = c.loop-self.self.counts;
      skips = c.loop-self.invariant.skips;
      ends = inl (rw c.in-Some.is at one);
      full = λ is. absurd (not is);
    }

pub returns-in-Some-clause-fewer : goal.returns-in-Some-clause-fewer
returns-in-Some-clause-fewer g c =
    let one = rw c.loop-self.invariant.selection at c.in_ok-met.ensures.step in
    λ more. step_fewer g.S.RecordSource.GivesStep g.R.RecordReader.Reads
    c.args.self.now.selection c.args.self.now.source c.args.self.now.counts
    c.loop-self.self.source c.loop-self.self.counts c.step.new.self.source
    c.step.new.self.octets.items c.step.new.self.counts _ c.loop-self.invariant.skips one

pub loop-self-preserved : goal.loop-self-preserved
loop-self-preserved g c =
    let one = rw c.loop-self.invariant.selection at c.in_ok-met.ensures.step in
    record {
      skips = skips_more g.S.RecordSource.GivesStep g.R.RecordReader.Reads
          c.args.self.now.selection c.args.self.now.source c.args.self.now.counts
          c.loop-self.self.source c.loop-self.self.counts c.step.new.self.source
          c.step.new.self.octets.items c.step.new.self.counts c.loop-self.invariant.skips
          (rw c.in_default.is at one);
      selection = search rules;
    }
