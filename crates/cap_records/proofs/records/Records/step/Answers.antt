use Rattle.std.proofs.Common.{refl, subst, Ok, Err, None, Some, sym}
use Rattle.cap_pcap.specs.declared.record.Step.TheVariants as steps
use Rattle.cap_records.specs.declared.records.Pulled.TheVariants as pulls
use Rattle.cap_records.proofs.Steps.{step_none, step_record}
use Rattle.cap_records.proofs.records.Records.step.Goals as goal

pub returns-in-Ok-Record-clause-step : goal.returns-in-Ok-Record-clause-step
returns-in-Ok-Record-clause-step g c =
    let gave = subst (λ (later : g.row.S.Denot). g.S.RecordSource.GivesStep c.args.self.now.source
    later c.next_into.new.frame.items (Ok (steps.Record c.in-Ok-Record.head)))
    (sym c.read_record.ensures.same.0)
    (rw c.in-Ok-Record.field-0-is at c.in-Ok-Record.ensures.step) in
    step_record g.S.RecordSource.GivesStep g.R.RecordReader.Reads c.args.self.now.selection
    c.args.self.now.source c.args.self.now.counts c.read_record.new.self.source
    c.after_step-self.result c.read_record.new.self.counts c.next_into.new.frame.items
    c.read_record.new.self.octets.items c.in-Ok-Record.head c.read_record.result gave
    c.after_step-self.ensures c.read_record.ensures.meets c.read_record.ensures.counts

pub returns-in-Ok-Interface-clause-step : goal.returns-in-Ok-Interface-clause-step
returns-in-Ok-Interface-clause-step g c =
    step_none g.S.RecordSource.GivesStep g.R.RecordReader.Reads c.args.self.now.selection
    c.args.self.now.source c.args.self.now.counts c.next_into.new.self c.after_step-self.result
    c.next_into.new.frame.items (Ok steps.Interface) (Some pulls.Interface)
    (rw c.in-Ok-Interface.field-0-is at c.in-Ok-Interface.ensures.step) refl refl refl
    c.after_step-self.ensures

pub returns-in-Ok-Passed-clause-step : goal.returns-in-Ok-Passed-clause-step
returns-in-Ok-Passed-clause-step g c =
    step_none g.S.RecordSource.GivesStep g.R.RecordReader.Reads c.args.self.now.selection
    c.args.self.now.source c.args.self.now.counts c.next_into.new.self c.after_step-self.result
    c.next_into.new.frame.items (Ok steps.Passed) None
    (rw c.in-Ok-Passed.field-0-is at c.in-Ok-Passed.ensures.step) tt refl refl
    c.after_step-self.ensures

pub returns-in-Ok-End-clause-step : goal.returns-in-Ok-End-clause-step
returns-in-Ok-End-clause-step g c =
    step_none g.S.RecordSource.GivesStep g.R.RecordReader.Reads c.args.self.now.selection
    c.args.self.now.source c.args.self.now.counts c.next_into.new.self c.after_step-self.result
    c.next_into.new.frame.items (Ok steps.End) (Some (pulls.End None))
    (rw c.in-Ok-End.field-0-is at c.in-Ok-End.ensures.step) refl refl refl
    c.after_step-self.ensures

pub returns-in-Err-clause-step : goal.returns-in-Err-clause-step
returns-in-Err-clause-step g c =
    step_none g.S.RecordSource.GivesStep g.R.RecordReader.Reads c.args.self.now.selection
    c.args.self.now.source c.args.self.now.counts c.next_into.new.self c.after_step-self.result
    c.next_into.new.frame.items (Err c.in-Err.fault) (Some (pulls.End (Some c.in-Err.fault)))
    c.in-Err.ensures.step refl refl refl c.after_step-self.ensures
