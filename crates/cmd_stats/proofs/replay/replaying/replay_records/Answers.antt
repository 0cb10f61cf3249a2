use Rattle.std.proofs.Common.{◌∙◌, subst, sym}
use Rattle.cmd_stats.specs.Replays.{IsReplaying}
use Rattle.cmd_stats.proofs.Records.{replayed_end, replaying_chosen, replaying_interface}
use Rattle.cmd_stats.proofs.Records.{replaying_none}
use Rattle.cmd_stats.proofs.replay.replaying.replay_records.Goals as goal

pub loop-records-init : goal.loop-records-init
loop-records-init g c = record {
  selection = c.new-records.ensures.selection;
  received = λ s rep took.
      let none = replaying_none g.S.RecordSource.GivesStep c.args.selection.now c.args.rules.now
      c.args.source s
      c.args.listener.now (g.K.HeardSink.Took c.args.sink.now) c.new-records.result.counts
      c.new-records.ensures.counts rep took in
      subst (λ (file : g.row.S.Denot). IsReplaying g.S.RecordSource.GivesStep c.args.selection.now
      c.args.rules.now c.args.source s file c.args.listener.now c.new-records.result.counts
      (g.K.HeardSink.Took c.args.sink.now)) (sym c.new-records.ensures.source) none;
}

pub loop-records-preserved-in-Continue-branch-4 : goal.loop-records-preserved-in-Continue-branch-4
loop-records-preserved-in-Continue-branch-4 g c =
    let i = c.loop-records.invariant in
    let comes = (rw c.in-Chosen.is at (rw i.selection at c.in_ok-head.ensures.next)) in
    record {
      selection = c.in_ok-head.ensures.selection ∙ i.selection;
      received = λ s rep took.
          replaying_chosen g.S.RecordSource.GivesStep c.args.selection.now c.args.rules.now
          c.args.source s
          c.loop-records.records.source c.next_chosen.new.self.source c.loop-records.listener
          c.hear.new.listener c.loop-records.records.counts c.next_chosen.new.self.counts
          (g.K.HeardSink.Took c.loop-records.sink) (g.K.HeardSink.Took c.hear.new.sink)
          c.next_chosen.new.self.octets.items c.in-Chosen.head c.in-Chosen.on_air
          (i.received s rep took) comes c.in_ok-hear-in-Chosen.ensures;
    }

pub loop-records-preserved : goal.loop-records-preserved
loop-records-preserved g c =
    let i = c.loop-records.invariant in
    let comes = (rw c.in-Interface.is at (rw i.selection at c.in_ok-head.ensures.next)) in
    record {
      selection = c.in_ok-head.ensures.selection ∙ i.selection;
      received = λ s rep took.
          replaying_interface g.S.RecordSource.GivesStep c.args.selection.now c.args.rules.now
          c.args.source s
          c.loop-records.records.source c.next_chosen.new.self.source c.loop-records.listener
          c.loop-records.records.counts c.next_chosen.new.self.counts
          (g.K.HeardSink.Took c.loop-records.sink) c.next_chosen.new.self.octets.items
          (i.received s rep took) comes;
    }

pub returns-in-End : goal.returns-in-End
returns-in-End g c = λ s rep took.
    let i = c.loop-records.invariant in
    let comes = (rw c.in-End.is at (rw i.selection at c.in_ok-head.ensures.next)) in
    replayed_end g.S.RecordSource.GivesStep c.args.selection.now c.args.rules.now c.args.source s
    c.loop-records.records.source c.next_chosen.new.self.source c.loop-records.listener
    c.loop-records.records.counts c.next_chosen.new.self.counts
    (g.K.HeardSink.Took c.loop-records.sink) c.next_chosen.new.self.octets.items c.in-End.fault
    (i.received s rep took) comes
